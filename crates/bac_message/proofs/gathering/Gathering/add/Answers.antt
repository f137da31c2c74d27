use Rattle.std.proofs.Common.{◌≡◌, ◌+◌, ℕ, List, length, refl, sym, ap, arith}
use Rattle.bac_segment.specs.Deliveries.{delivery}
use Rattle.bac_segment.specs.Tables.{Entry}
use Rattle.bac_message.proofs.GatheringLemmas.{added}
use Rattle.bac_message.proofs.gathering.Gathering.add.Goals as goal

pub returns-clause-gathered : goal.returns-clause-gathered
returns-clause-gathered c =
    let s = delivery c.args.segment.now in
    let count : c.args.self.now.total + length c.args.octets.now ≡ c.args.self.now.total + length s.piece = ap (λ (l : List ℕ). c.args.self.now.total + length l) c.requires.piece in
    (added c.args.self.now _ s c.from.result _ c.requires.gathered c.requires.new c.from.ensures (omega (arith, c.from.ensures)) (ap (λ (l : List ℕ). let e : Entry = record { piece = l; more = s.more } in e) c.requires.piece) refl count).0

pub returns-clause-table : goal.returns-clause-table
returns-clause-table c =
    let s = delivery c.args.segment.now in
    let count : c.args.self.now.total + length c.args.octets.now ≡ c.args.self.now.total + length s.piece = ap (λ (l : List ℕ). c.args.self.now.total + length l) c.requires.piece in
    (added c.args.self.now _ s c.from.result _ c.requires.gathered c.requires.new c.from.ensures (omega (arith, c.from.ensures)) (ap (λ (l : List ℕ). let e : Entry = record { piece = l; more = s.more } in e) c.requires.piece) refl count).1
