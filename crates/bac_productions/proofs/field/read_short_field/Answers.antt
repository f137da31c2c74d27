use Rattle.std.proofs.Common.{◌≡◌, ◌≤◌, ◌+◌, false, true, ◌∙◌, ℕ, List, length, sym, subst, drop, arith, length-drop}
use Rattle.std.proofs.lemmas.List.{take_rest, length-take-le}
use Rattle.bac_tag.specs.Spelling.{HasMark}
use Rattle.bac_productions.specs.Fields.{heading, IsField}
use Rattle.bac_productions.specs.Laws.Field.{field_taken}
use Rattle.bac_productions.specs.Laws.Least.{mark_place}
use Rattle.bac_productions.specs.Laws.Longest.{take_add}
use Rattle.bac_productions.proofs.field.read_short_field.Goals.{then-wanted, else-wanted}
use Rattle.bac_productions.proofs.field.read_short_field.Goals as goal

pub returns-clause-found : goal.returns-clause-found
returns-clause-found g c =
    let within : c.args.size ≤ length (drop 1 c.args.octets.now) = omega (arith, c.if-size-rest.false, length-drop 1 c.args.octets.now) in
    field_taken g.T.Primitive.contents c.args.context g.T.Primitive.APP _ _ (record { lengths = g.met.T.Primitive.lengths; each_length = g.met.T.Primitive.each_length }) c.args.size c.args.octets.now 1 c.in_ok-value.value
    (omega (arith, c.requires.head.some)) c.requires.head.least.member
    (record { within = within; spelled = record { spelled = rw take_rest at c.in_ok-value.ensures.found; sized = length-take-le c.args.size (drop 1 c.args.octets.now) within } })

pub returns-clause-mark : goal.returns-clause-mark
returns-clause-mark g c = λ w.
    let whole = take_add 1 c.args.size c.args.octets.now (omega (arith, c.requires.head.some)) in
    subst (λ (l : List ℕ). HasMark (IsField (heading c.args.context g.T.Primitive.APP) g.T.Primitive.contents c.in_ok-value.value) l c.if-wanted.mark) (sym whole)
    (elim c.if-wanted.branch [
      | then-wanted v ↦ rw v.mark-is (rw take_rest at v.mark_of_short-mark.ensures)
      | else-wanted v ↦ absurd (let i : false ≡ true = sym v.if-wanted.false ∙ w in cc)
    ])

pub returns-clause-within : goal.returns-clause-within
returns-clause-within g c =
    let within : 1 + c.args.size ≤ length c.args.octets.now = omega (arith, c.requires.head.some, c.if-size-rest.false, length-drop 1 c.args.octets.now) in
    let whole = take_add 1 c.args.size c.args.octets.now (omega (arith, c.requires.head.some)) in
    elim c.if-wanted.branch [
      | then-wanted v ↦ rw v.mark-is (mark_place c.args.octets.now (1 + c.args.size) v.mark_of_short-mark.result within
          (subst (λ (l : List ℕ). HasMark (IsField (heading c.args.context g.T.Primitive.APP) g.T.Primitive.contents c.in_ok-value.value) l v.mark_of_short-mark.result) (sym whole) (rw take_rest at v.mark_of_short-mark.ensures)))
      | else-wanted v ↦ rw v.mark-is tt
    ]
