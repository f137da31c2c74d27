use Rattle.std.specs.Prelude.{◌≡◌, ◌<◌, ℕ, [], ◌∷◌, ◌++◌, length, slice_index}
use Rattle.std.proofs.Common.{arith}
use Rattle.std.proofs.lemmas.List.{length-append}
use Rattle.std.proofs.lemmas.Result.{err_from_is_err_and}
use Rattle.bac_npdu_parts.specs.Refused.{port_found}
use Rattle.bac_npdu_parts.proofs.TablesLemmas.{ports_next, table_read, port_lacks}
use Rattle.bac_npdu_parts.proofs.messages.tables.count_ports.Goals as goal

pub returns-in_err-behind-clause-refused : goal.returns-in_err-behind-clause-refused
returns-in_err-behind-clause-refused c =
    let p = err_from_is_err_and c.from_residual.result c.from_residual.ensures.1 in
    let (ports, number, spelled) = c.loop.invariant.found in
    rw (p.1, p.2) (port_lacks c.args.octets.now ports c.loop.place c.loop.counter _ number c.loop-test.true spelled c.in_err-behind.ensures.refused)

pub loop-preserved : goal.loop-preserved
loop-preserved c =
    let (ports, number, spelled) = c.loop.invariant.found in
    let next = port_found c.in_ok-behind.field-0-0 in
    record {
      within = c.in_ok-behind.ensures.within;
      found = (ports ++ next ∷ [], omega (arith, number, length-append ports (next ∷ [])), ports_next ports next _ _ _ spelled c.in_ok-behind.ensures.found);
    }

pub returns-clause-found : goal.returns-clause-found
returns-clause-found c =
    let small : (k : ℕ) → slice_index c.args.octets.now k < 256 = λ k. omega (arith, c.type_inv.octets k) in
    let (ports, number, spelled) = c.loop.invariant.found in
    let count : length ports ≡ slice_index c.args.octets.now 1 = omega (arith, number) in
    record { ports = ports; number = count; spelled = table_read c.args.octets.now ports c.loop.place small c.in-len2-up.len_at_least count c.if-octets-place.false spelled }
