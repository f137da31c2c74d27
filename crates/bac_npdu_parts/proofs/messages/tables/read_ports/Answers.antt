use Rattle.std.specs.Prelude.{◌≡◌, List, [], ◌∷◌, drop}
use Rattle.std.proofs.Common.{inl, sym, subst, arith}
use Rattle.std.proofs.lemmas.List.{length-append}
use Rattle.std.proofs.lemmas.Result.{err_from_is_err_and}
use Rattle.bac_tag.specs.HeadOctets.{Headed}
use Rattle.bac_npdu_parts.specs.declared.messages.port.Port.{Port}
use Rattle.bac_npdu_parts.specs.Messages.{table_of}
use Rattle.bac_npdu_parts.proofs.TablesLemmas.{ports_next, port_missing, table_count, table_kept}
use Rattle.bac_npdu_parts.proofs.messages.tables.read_ports.Goals as goal

pub returns-in_err-count-clause-refused : goal.returns-in_err-count-clause-refused
returns-in_err-count-clause-refused c =
    let p = err_from_is_err_and c.from_residual.result c.from_residual.ensures.1 in
    rw (p.1, p.2) (inl c.in_err-count.ensures.refused)

pub returns-in_err-port-clause-refused : goal.returns-in_err-port-clause-refused
returns-in_err-port-clause-refused c =
    let p = err_from_is_err_and c.from_residual-in_err-port.result c.from_residual-in_err-port.ensures.1 in
    let count = table_count c.args.octets.now c.in_ok-count.count c.in_ok-count.ensures.found in
    rw (p.1, p.2) (port_missing c.args.octets.now c.loop.list.items c.loop.place c.loop.counter _ c.loop.invariant.number (omega (arith, count, c.loop-test.true)) c.loop.invariant.spelled c.in_err-port.ensures.refused)

pub loop-preserved : goal.loop-preserved
loop-preserved c = record {
  within = c.in_ok-port.ensures.within;
  number = rw (c.push.ensures.items, c.if-is_err.ensures.negation) (omega (arith, c.loop.invariant.number, length-append c.loop.list.items (c.in_ok-port.port ∷ [])));
  spelled = rw (c.push.ensures.items, c.if-is_err.ensures.negation) (ports_next c.loop.list.items c.in_ok-port.port _ _ _ c.loop.invariant.spelled c.in_ok-port.ensures.found);
}

pub returns-clause-found : goal.returns-clause-found
returns-clause-found c =
    let kept = table_kept c.args.octets.now c.loop.list.items c.loop.place c.in_ok-count.count c.in_ok-count.ensures.found (omega (arith, c.loop.invariant.number)) c.loop.invariant.spelled in
    subst (λ (ps : List Port). Headed (table_of ps) (λ rest. rest ≡ []) (drop 1 c.args.octets.now)) (sym c.in-Ok-new.ensures.value) kept
