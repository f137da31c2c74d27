use Rattle.std.proofs.Common.{take, sym}
use Rattle.bac_text.proofs.TextLemmas.{appended, written_last}
use Rattle.bac_text.proofs.messages.opaque_net.OpaqueNetHasText.write_text.Goals as goal

pub returns-clause-text : goal.returns-clause-text
returns-clause-text c =
    rw (sym c.kind.ensures.kind, sym c.vendor.ensures.vendor, sym c.octets.ensures)
    (written_last c.write_octets-2.result (take c.args.at c.args.out.now.items) _ _ _ _ (appended (take c.args.at c.args.out.now.items) _ _ _ _ c.in_ok-end.ensures.text c.in_ok-end-2.ensures.text) c.write_octets-2.ensures.text)
