use Rattle.std.proofs.Common.{◌∙◌, ◌++◌, ◌-◌, ◌*◌, ◌/◌, ◌^◌, List, ℕ, length, get_or, length-append, ap, arith}
use Rattle.std.proofs.lemmas.List.{get_or_default}
use Rattle.bac_value.specs.Laws.Bits.{bits_lengths, least_lone, least_cleared_behind}
use Rattle.bac_value.proofs.types.bit_string.append_cleared.Goals as goal

pub returns-then-octets-gt1-clause-ok : goal.returns-then-octets-gt1-clause-ok
returns-then-octets-gt1-clause-ok c = λ bits h. least_cleared_behind bits c.args.out.now.items c.args.octets.now c.extend_from_slice.new.self.items c.len-last.result c.cleared.result h c.if-octets-gt1.true c.in_ok-extend_from_slice.ensures.items (omega (arith, c.len-last.ensures))
    (c.cleared.ensures ∙ ap (λ (o : ℕ). o / 2 ^ get_or c.args.octets.now 0 0 * 2 ^ get_or c.args.octets.now 0 0) (c.index.ensures ∙ get_or_default c.extend_from_slice.new.self.items (c.len-last.result - 1) c.index.result.now 0 (omega (arith, c.len-last.ensures, ap length c.in_ok-extend_from_slice.ensures.items, length-append c.args.out.now.items c.args.octets.now, c.if-octets-gt1.true))))

pub returns-else-octets-gt1-clause-ok : goal.returns-else-octets-gt1-clause-ok
returns-else-octets-gt1-clause-ok c = λ bits h.
    let some = (bits_lengths bits c.args.octets.now h).0 in
    c.in_ok-extend_from_slice.ensures.items ∙ ap (λ (l : List ℕ). c.args.out.now.items ++ l) (least_lone bits c.args.octets.now h (omega (arith, some, c.if-octets-gt1.false)))
