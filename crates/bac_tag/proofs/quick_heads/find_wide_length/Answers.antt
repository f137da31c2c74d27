use Rattle.std.proofs.Common.{arith, length-drop, refl}
use Rattle.std.proofs.lemmas.List.{take_rest}
use Rattle.std.proofs.lemmas.Nat.{be_bytes_4}
use Rattle.bac_tag.proofs.QuickHeadLemmas.{in_four_octets, four_bytes}
use Rattle.bac_tag.proofs.quick_heads.find_wide_length.Goals as goal

pub returns-then-first-2-clause-length : goal.returns-then-first-2-clause-length
returns-then-first-2-clause-length c =
    let n = c.from_be_bytes-then-first-2.result in
    in_four_octets c.args.octets.now c.args.start n (omega (arith, c.in-len5-up.len_at_least, length-drop c.args.start c.args.octets.now)) (omega (arith, c.from_be_bytes-then-first-2.type_inv)) (rw take_rest at c.if-first-2.true)
    (be_bytes_4 _ n refl (four_bytes c.args.octets.now c.args.start (λ k. omega (arith, c.type_inv.octets k))) (rw take_rest at c.from_be_bytes-then-first-2.ensures))
