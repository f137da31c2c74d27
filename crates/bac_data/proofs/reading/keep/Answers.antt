use Rattle.std.proofs.Common.{◌≡◌, List, ℕ, None, true, false, drop, sym, ◌∙◌, ap, subst}
use Rattle.std.proofs.lemmas.List.{take_rest}
use Rattle.std.specs.Prelude.{not}
use Rattle.bac_tag.specs.Octets.{joined_mark}
use Rattle.bac_tag.specs.Spelling.{IsLeast}
use Rattle.bac_data.specs.Events.{SpellsEvent, SpellsEvents}
use Rattle.bac_data.specs.Reading.{item_event}
use Rattle.bac_data.proofs.MarkLemmas.{least_marked, difference_marked, mark_inside}
use Rattle.bac_data.proofs.ReadingSteps.{kept_more, kept_begun, kept_on, marked_behind, none_told, none_then, appended_behind, whole_octets}
use Rattle.bac_data.proofs.reading.keep.Goals.{then-is_none+else-is_least+in_ok-extend, else-is_none}
use Rattle.bac_data.proofs.reading.keep.Goals as goal

pub returns-then-is_least-clause-mark : goal.returns-then-is_least-clause-mark
returns-then-is_least-clause-mark c = λ e.
    let octets_are = whole_octets c.args.item c.args.head c.args.octets.now c.requires.lies in
    least_marked c.args.item c.args.octets.now (subst (IsLeast (SpellsEvent (item_event c.args.item))) (sym octets_are) (c.is_least.ensures.0 c.if-is_least.true))

pub returns-then-is_some-clause-kept : goal.returns-then-is_some-clause-kept
returns-then-is_some-clause-kept c = λ es place k f.
    let least : IsLeast (SpellsEvents es) c.if-is_none.kept =
    elim c.if-is_none.branch [
      | then-is_none+else-is_least+in_ok-extend w ↦ kept_begun c.args.before es c.args.kept.now c.args.front.now _ (c.is_none.ensures ∙ ap not w.if-is_none.true) k f (w.kept-is ∙ w.in_ok-extend.ensures)
      | else-is_none w ↦ subst (λ (v : List ℕ). IsLeast (SpellsEvents es) v) (sym w.kept-is) (kept_on c.args.before es c.args.kept.now (c.is_none.ensures ∙ ap not w.if-is_none.false) k)
    ] in
    kept_more es (item_event c.args.item) (joined_mark c.args.before place None) c.if-is_none.kept c.append_item.new.kept
    (marked_behind c.args.before None place (λ e u. none_told c.args.before (sym c.is_some.ensures ∙ c.if-is_some.true) e)) least c.in_ok-append_item.ensures

pub returns-clause-mark : goal.returns-clause-mark
returns-clause-mark c = λ e.
    let a = c.in_ok-append_item.ensures in
    let more : drop c.len-start.result c.as_slice.result.now ≡ a.more = appended_behind c.if-is_none.kept a.more c.append_item.new.kept c.as_slice.result.now c.len-start.result (c.len-start.ensures) c.as_slice.ensures a.new_is in
    difference_marked c.args.item c.args.octets.now (drop c.len-start.result c.as_slice.result.now) c.first_difference.result c.requires.spelled (subst (IsLeast (SpellsEvent (item_event c.args.item))) (sym more) a.is_least)
    (rw take_rest at c.first_difference.ensures.none) (rw take_rest at c.first_difference.ensures.some)

pub returns-clause-within : goal.returns-clause-within
returns-clause-within c =
    let a = c.in_ok-append_item.ensures in
    let more : drop c.len-start.result c.as_slice.result.now ≡ a.more = appended_behind c.if-is_none.kept a.more c.append_item.new.kept c.as_slice.result.now c.len-start.result (c.len-start.ensures) c.as_slice.ensures a.new_is in
    mark_inside c.args.octets.now c.args.item c.first_difference.result c.requires.item
    (difference_marked c.args.item c.args.octets.now (drop c.len-start.result c.as_slice.result.now) c.first_difference.result c.requires.spelled (subst (IsLeast (SpellsEvent (item_event c.args.item))) (sym more) a.is_least)
    (rw take_rest at c.first_difference.ensures.none) (rw take_rest at c.first_difference.ensures.some))

pub returns-clause-kept : goal.returns-clause-kept
returns-clause-kept c = λ es place k f.
    let a = c.in_ok-append_item.ensures in
    let more : drop c.len-start.result c.as_slice.result.now ≡ a.more = appended_behind c.if-is_none.kept a.more c.append_item.new.kept c.as_slice.result.now c.len-start.result (c.len-start.ensures) c.as_slice.ensures a.new_is in
    let differs : c.args.before ≡ None → c.first_difference.result ≡ None → ⊥ = λ e u.
    elim c.if-is_none.branch [
      | then-is_none+else-is_least+in_ok-extend w ↦
          let same : c.args.octets.now ≡ a.more = none_then c.first_difference.result (c.args.octets.now ≡ drop c.len-start.result c.as_slice.result.now) (rw take_rest at c.first_difference.ensures.none) u ∙ more in
          let octets_are = sym same ∙ whole_octets c.args.item c.args.head c.args.octets.now c.requires.lies in
          let i : false ≡ true = sym w.if-is_least.false ∙ w.is_least.ensures.1 (subst (IsLeast (SpellsEvent (item_event c.args.item))) octets_are a.is_least) in cc
      | else-is_none w ↦ none_told c.args.before (c.is_none.ensures ∙ ap not w.if-is_none.false) e
    ] in
    let least : IsLeast (SpellsEvents es) c.if-is_none.kept =
    elim c.if-is_none.branch [
      | then-is_none+else-is_least+in_ok-extend w ↦ kept_begun c.args.before es c.args.kept.now c.args.front.now _ (c.is_none.ensures ∙ ap not w.if-is_none.true) k f (w.kept-is ∙ w.in_ok-extend.ensures)
      | else-is_none w ↦ subst (λ (v : List ℕ). IsLeast (SpellsEvents es) v) (sym w.kept-is) (kept_on c.args.before es c.args.kept.now (c.is_none.ensures ∙ ap not w.if-is_none.false) k)
    ] in
    kept_more es (item_event c.args.item) (joined_mark c.args.before place c.first_difference.result) c.if-is_none.kept c.append_item.new.kept (marked_behind c.args.before c.first_difference.result place differs) least a
