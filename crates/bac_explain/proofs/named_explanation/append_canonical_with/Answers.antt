use Rattle.std.proofs.Common.{ap, ◌∙◌}
use Rattle.bac_npdu_parts.specs.Frames.{value_of}
use Rattle.bac_fields.specs.FrameFields.{placed_fields}
use Rattle.bac_explain.proofs.CompletionLemmas.{canonical_told}
use Rattle.bac_explain.proofs.named_explanation.append_canonical_with.Goals as goal

pub returns-in-Ok-clause-ok : goal.returns-in-Ok-clause-ok
returns-in-Ok-clause-ok c =
    canonical_told c.append_canonical_pieces.result c.args.octets.now (value_of c.args.frame.now) c.is_typed_body-typed.result c.in-Ok.fields.now c.args.out.now.items c.append_canonical_pieces.new.out.items c.requires c.is_typed_body-typed.ensures (c.in-Ok.ensures ∙ ap placed_fields c.head.ensures)
    c.append_canonical_pieces.ensures.ok
