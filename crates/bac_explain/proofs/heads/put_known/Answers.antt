use Rattle.std.proofs.Common.{length}
use Rattle.bac_head.specs.declared.known.Known.TheVariants as known
use Rattle.bac_explain.specs.HeadParts.{npci_parts, pdu_parts}
use Rattle.bac_explain.specs.Known.{start}
use Rattle.bac_explain.proofs.PartLemmas.{parts_append}
use Rattle.bac_explain.proofs.heads.put_known.Goals as goal

pub returns-in-Pdu : goal.returns-in-Pdu
returns-in-Pdu c =
    let npci = c.in-Pdu.npci in
    let head = c.in-Pdu.head in
    record {
      known = known.Pdu npci head c.in-Pdu.size;
      is_known = record { agrees = c.in-Pdu.ensures.agrees; whole = c.in-Pdu.ensures.whole; reach = c.in-Pdu.ensures.reach };
      head = parts_append (npci_parts npci) (pdu_parts head) (length c.args.octets.now) start c.put_npci-middle.result c.put_pdu_head-behind.result c.args.room.now c.put_npci-middle.new.room c.put_pdu_head-behind.new.room
          c.put_npci-middle.ensures c.put_pdu_head-behind.ensures;
      after = c.contents_after.ensures;
    }
