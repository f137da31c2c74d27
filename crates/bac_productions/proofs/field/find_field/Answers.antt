use Rattle.std.specs.Prelude.{IfSome}
use Rattle.std.proofs.Common.{◌≡◌, false, true, ◌∙◌, ◌<◌, ◌≤◌, ◌+◌, ℕ, List, length, sym, subst, drop, arith, length-drop}
use Rattle.std.proofs.lemmas.List.{take_rest, length-take-le}
use Rattle.bac_tag.specs.Heads.{Heads}
use Rattle.bac_tag.specs.Spelling.{Takes, HasMark}
use Rattle.bac_productions.specs.Fields.{heading, IsField}
use Rattle.bac_productions.specs.Laws.Field.{field_taken}
use Rattle.bac_productions.specs.Laws.Least.{mark_place, mark_told, same_below}
use Rattle.bac_productions.specs.Laws.Longest.{take_add}
use Rattle.bac_productions.proofs.field.find_field.Goals.{then-wanted, else-wanted}
use Rattle.bac_productions.proofs.field.find_field.Goals as goal

pub returns-clause-found : goal.returns-clause-found
returns-clause-found g c =
    let start = c.taken-start.result in
    let size = c.size-size.result in
    let head : Takes (λ (len : ℕ). Heads (heading c.args.context g.T.Primitive.APP len)) c.args.octets.now (size, start) = rw (c.size-size.ensures, c.taken-start.ensures) c.in_ok-head.ensures in
    let within : size ≤ length (drop start c.args.octets.now) = omega (arith, c.if-size-rest.false, length-drop start c.args.octets.now) in
    field_taken g.T.Primitive.contents c.args.context g.T.Primitive.APP _ _ (record { lengths = g.met.T.Primitive.lengths; each_length = g.met.T.Primitive.each_length }) size c.args.octets.now start c.in_ok-value.value
    head.within head.spelled
    (record { within = within; spelled = record { spelled = rw take_rest at c.in_ok-value.ensures.found; sized = length-take-le size (drop start c.args.octets.now) within } })

pub returns-clause-mark : goal.returns-clause-mark
returns-clause-mark g c = λ w.
    let start = c.taken-start.result in
    let size = c.size-size.result in
    let head : Takes (λ (len : ℕ). Heads (heading c.args.context g.T.Primitive.APP len)) c.args.octets.now (size, start) = rw (c.size-size.ensures, c.taken-start.ensures) c.in_ok-head.ensures in
    let within : size ≤ length (drop start c.args.octets.now) = omega (arith, c.if-size-rest.false, length-drop start c.args.octets.now) in
    let whole = take_add start size c.args.octets.now head.within in
    let marked = subst (λ (l : List ℕ). HasMark (IsField (heading c.args.context g.T.Primitive.APP) g.T.Primitive.contents c.in_ok-value.value) l c.if-wanted.mark) (sym whole)
    (elim c.if-wanted.branch [
      | then-wanted v ↦ rw v.mark-is (rw take_rest at v.mark_of_long-mark.ensures)
      | else-wanted v ↦ absurd (let i : false ≡ true = sym v.if-wanted.false ∙ w in cc)
    ]) in
    mark_told c.args.octets.now (start + size) c.if-wanted.mark c.same_octets.result (omega (arith, within, head.within, length-drop start c.args.octets.now)) marked c.same_octets.ensures.all c.same_octets.ensures.some

pub returns-in-Some-clause-same : goal.returns-in-Some-clause-same
returns-in-Some-clause-same g c =
    let front = c.in_ok-read_short_field.field-0 in
    let told = c.into_spelling.ensures in
    omega (arith, told.taken, same_below front.taken front.mark c.into_spelling.result.same c.in_ok-read_short_field.ensures.within told.all told.some)

pub returns-clause-same : goal.returns-clause-same
returns-clause-same g c =
    let start = c.taken-start.result in
    let size = c.size-size.result in
    let head : Takes (λ (len : ℕ). Heads (heading c.args.context g.T.Primitive.APP len)) c.args.octets.now (size, start) = rw (c.size-size.ensures, c.taken-start.ensures) c.in_ok-head.ensures in
    let within : size ≤ length (drop start c.args.octets.now) = omega (arith, c.if-size-rest.false, length-drop start c.args.octets.now) in
    let whole = take_add start size c.args.octets.now head.within in
    let inside : IfSome c.if-wanted.mark (λ place. place < start + size) =
    (elim c.if-wanted.branch [
      | then-wanted v ↦ rw v.mark-is (mark_place c.args.octets.now (start + size) v.mark_of_long-mark.result (omega (arith, within, head.within, length-drop start c.args.octets.now))
          (subst (λ (l : List ℕ). HasMark (IsField (heading c.args.context g.T.Primitive.APP) g.T.Primitive.contents c.in_ok-value.value) l v.mark_of_long-mark.result) (sym whole) (rw take_rest at v.mark_of_long-mark.ensures)))
      | else-wanted v ↦ rw v.mark-is tt
    ]) in
    same_below (start + size) c.if-wanted.mark c.same_octets.result inside c.same_octets.ensures.all c.same_octets.ensures.some

pub returns-in-Some-clause-found : goal.returns-in-Some-clause-found
returns-in-Some-clause-found g c = let told = c.into_spelling.ensures in rw (told.value, told.taken) c.in_ok-read_short_field.ensures.found

pub returns-in-Some-clause-mark : goal.returns-in-Some-clause-mark
returns-in-Some-clause-mark g c = λ w.
    let front = c.in_ok-read_short_field.field-0 in
    let told = c.into_spelling.ensures in
    rw (told.value, told.taken)
    (mark_told c.args.octets.now front.taken front.mark c.into_spelling.result.same c.in_ok-read_short_field.ensures.found.within (c.in_ok-read_short_field.ensures.mark w) told.all told.some)
