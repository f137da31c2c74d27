use Rattle.std.proofs.Common.{ℕ, List, Some, sym, ap, ◌∙◌}
use Rattle.bac_segment.specs.Tables.{whole}
use Rattle.bac_segment.specs.Reassembled.{Reassembled}
use Rattle.bac_segment.proofs.HoldingLemmas.{table_is, whole_is, whole_joined, not_whole}
use Rattle.bac_segment.proofs.reassembly.Reassembly.octets.Goals as goal

pub returns-then-is_whole : goal.returns-then-is_whole
returns-then-is_whole c =
    let h = c.self.invariant in
    ap (λ (o : List ℕ). Some o) (c.octets.ensures ∙ h.octets_are) ∙ sym (whole_joined h.table h.ends (whole_is h ∙ sym c.if-is_whole.ensures))
    ∙ ap whole (sym (table_is h)) ∙ ap (λ (r : Reassembled). whole r.table) c.self.view_is

pub returns : goal.returns
returns c =
    let h = c.self.invariant in
    sym (not_whole h.table (whole_is h ∙ sym c.if-is_whole.ensures)) ∙ ap whole (sym (table_is h)) ∙ ap (λ (r : Reassembled). whole r.table) c.self.view_is
