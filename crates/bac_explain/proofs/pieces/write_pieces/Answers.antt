use Rattle.std.proofs.Common.{◌≤◌, ◌++◌, length, subst, sym}
use Rattle.bac_explain.specs.declared.verdict.Verdict.{Verdict}
use Rattle.bac_explain.specs.Explained.{Explains, IsWithin}
use Rattle.bac_explain.specs.Refusals.{refusal_pieces}
use Rattle.bac_explain.proofs.RoomLemmas.{puts-append}
use Rattle.bac_explain.proofs.ExplainLemmas.{explains-accepted, explains-refused, written}
use Rattle.bac_explain.proofs.pieces.write_pieces.Goals as goal

pub returns-in-Accepted-clause-pieces : goal.returns-in-Accepted-clause-pieces
returns-in-Accepted-clause-pieces c =
    let octets = c.args.octets.now in
    let front = c.put_front.ensures in
    let explained = explains-accepted octets c.in-Accepted.mark c.in-Accepted.typed front.known front.pieces front.is_known front.front in
    (front.pieces, subst (λ (v : Verdict). Explains octets v front.pieces) (sym c.in-Accepted.is) explained, written front.pieces c.args.room.now c.put_front.new.room c.put_front.result.count front.puts)

pub returns-in-Refused-clause-pieces : goal.returns-in-Refused-clause-pieces
returns-in-Refused-clause-pieces c =
    let octets = c.args.octets.now in
    let refusal = c.in-Refused.refusal in
    let front = c.put_front-cursor.ensures in
    let behind = refusal_pieces (length octets) refusal in
    let within : refusal.place ≤ length octets = subst (λ (v : Verdict). IsWithin (length octets) v) c.in-Refused.is c.requires in
    let explained = explains-refused octets c.split_at.result.0.now refusal front.known front.pieces within c.split_at.ensures.front front.is_known front.front in (
      front.pieces ++ behind,
      subst (λ (v : Verdict). Explains octets v (front.pieces ++ behind)) (sym c.in-Refused.is) explained,
      written (front.pieces ++ behind) c.args.room.now c.put_refusal.new.room c.put_refusal.result (puts-append front.pieces behind c.args.room.now c.put_front-cursor.new.room c.put_refusal.new.room 0 c.put_front-cursor.result.count c.put_refusal.result front.puts c.put_refusal.ensures.put),
    )
