use Rattle.std.proofs.Common.{◌≡◌, ◌⊎◌, ◌∙◌, ap, ℕ, List, sym, subst, take}
use Rattle.std.proofs.lemmas.List.{take_rest}
use Rattle.bac_tag.specs.declared.heads.TagHead.{TagHead}
use Rattle.bac_tag.specs.declared.heads.TagHead.TheVariants.{App, Ctx}
use Rattle.bac_tag.specs.Expected.{ExpectedHeads}
use Rattle.bac_tag.specs.Heads.{Heads}
use Rattle.bac_productions.specs.Fields.{heading, expected_heading, IsField}
use Rattle.bac_productions.specs.Laws.Field.{head_named, field_refused_head, field_refused_contents, field_taken}
use Rattle.bac_productions.specs.Laws.Longest.{take_add}
use Rattle.bac_tag.specs.Spelling.{IsRefusal, HasMark}
use Rattle.bac_tag.specs.Refusals.{behind}
use Rattle.bac_productions.proofs.field.read_field.Goals.{in-Ctx, in-Ctx-2}
use Rattle.bac_productions.proofs.field.read_field.Goals as goal

pub returns-in-Err-clause-refused : goal.returns-in-Err-clause-refused
returns-in-Err-clause-refused g c =
    field_refused_head g.T.Primitive.contents c.args.context g.T.Primitive.APP _ _ (record { lengths = g.met.T.Primitive.lengths; each_length = g.met.T.Primitive.each_length }) c.args.octets.now c.in-Err.refusal
    (rw c.expected_head.ensures at c.in-Err.ensures.refused)

pub returns-in-Ok-read_contents-clause-found : goal.returns-in-Ok-read_contents-clause-found
returns-in-Ok-read_contents-clause-found g c =
    let read = rw c.expected_head.ensures at c.in-Ok.ensures.found in
    let named = head_named c.args.context g.T.Primitive.APP g.T.Primitive.SHORTEST g.T.Primitive.LONGEST c.match-head.len c.in-Ok.found.0 read.spelled.fits
    (elim c.match-head.branch [ in-Ctx w ↦ subst (λ (k : ℕ). ((n : ℕ) × (c.in-Ok.found.0 ≡ Ctx n k)) ⊎ ((n : ℕ) × (c.in-Ok.found.0 ≡ App n k))) (sym w.len-is) w.in-Ctx.is | in-Ctx-2 w ↦ subst (λ (k : ℕ). ((n : ℕ) × (c.in-Ok.found.0 ≡ Ctx n k)) ⊎ ((n : ℕ) × (c.in-Ok.found.0 ≡ App n k))) (sym w.len-is) w.in-Ctx.is ]) in
    field_taken g.T.Primitive.contents c.args.context g.T.Primitive.APP _ _ (record { lengths = g.met.T.Primitive.lengths; each_length = g.met.T.Primitive.each_length }) c.match-head.len c.args.octets.now c.in-Ok.found.1 c.in-Ok-read_contents.value read.within
    (subst (λ (h : TagHead). Heads h (take c.in-Ok.found.1 c.args.octets.now)) named.0 read.spelled.spelled) (rw take_rest at c.in-Ok-read_contents.ensures.found)

pub returns-in-Ok-read_contents-clause-mark : goal.returns-in-Ok-read_contents-clause-mark
returns-in-Ok-read_contents-clause-mark g c =
    let whole = take_add c.in-Ok.found.1 c.match-head.len c.args.octets.now c.in-Ok.ensures.found.within in
    subst (λ (l : List ℕ). HasMark (IsField (heading c.args.context g.T.Primitive.APP) g.T.Primitive.contents c.in-Ok-read_contents.value) l c.mark_of-mark.result) (sym whole) (rw take_rest at c.mark_of-mark.ensures)

pub returns-in-Err-Refused-clause-refused : goal.returns-in-Err-Refused-clause-refused
returns-in-Err-Refused-clause-refused g c =
    let told = rw c.in-Err-Refused.field-0-is at c.in-Err-Refused.ensures in
    let read = rw c.expected_head.ensures at c.in-Ok.ensures.found in
    let named = head_named c.args.context g.T.Primitive.APP g.T.Primitive.SHORTEST g.T.Primitive.LONGEST c.match-head.len c.in-Ok.found.0 read.spelled.fits
    (elim c.match-head.branch [ in-Ctx w ↦ subst (λ (k : ℕ). ((n : ℕ) × (c.in-Ok.found.0 ≡ Ctx n k)) ⊎ ((n : ℕ) × (c.in-Ok.found.0 ≡ App n k))) (sym w.len-is) w.in-Ctx.is | in-Ctx-2 w ↦ subst (λ (k : ℕ). ((n : ℕ) × (c.in-Ok.found.0 ≡ Ctx n k)) ⊎ ((n : ℕ) × (c.in-Ok.found.0 ≡ App n k))) (sym w.len-is) w.in-Ctx.is ]) in
    subst (IsRefusal (IsField (heading c.args.context g.T.Primitive.APP) g.T.Primitive.contents) c.args.octets.now) (sym (c.behind.ensures ∙ ap (behind c.in-Ok.found.1) c.in-Err-Refused.refusal-is))
    (field_refused_contents g.T.Primitive.contents c.args.context g.T.Primitive.APP _ _ (record { lengths = g.met.T.Primitive.lengths; each_length = g.met.T.Primitive.each_length }) c.match-head.len c.args.octets.now c.in-Ok.found.1
    c.in-Err-Refused.refusal read.within (subst (λ (h : TagHead). ExpectedHeads (expected_heading c.args.context g.T.Primitive.APP g.T.Primitive.SHORTEST g.T.Primitive.LONGEST) h (take c.in-Ok.found.1 c.args.octets.now)) named.0 read.spelled)
    (rw take_rest at told.refused))

pub returns-in-Ok-read_contents-clause-trailing : goal.returns-in-Ok-read_contents-clause-trailing
returns-in-Ok-read_contents-clause-trailing g c = (λ w. c.complete_at.ensures.place, c.complete_at.ensures.reason)
