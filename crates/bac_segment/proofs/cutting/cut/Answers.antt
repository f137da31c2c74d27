use Rattle.std.proofs.Common.{◌≡◌, arith, sym, ap, subst, ℕ, Option}
use Rattle.std.specs.Prelude.{MatchOption, IfErr, IsErrOf, is_some}
use Rattle.bac_segment.specs.declared.cutting.CutFault.{CutFault}
use Rattle.bac_segment.specs.declared.cutting.CutFault.TheVariants.{OutOfMemory}
use Rattle.bac_segment.proofs.PieceLemmas.{no_fault}
use Rattle.bac_segment.proofs.cutting.cut.Goals as goal

pub segments-requires-clause-few : goal.segments-requires-clause-few
segments-requires-clause-few c = omega (arith, c.if-octets-min.false, c.min.ensures)

pub returns-clause-fault : goal.returns-clause-fault
returns-clause-fault c =
    let window = c.new.ensures.some.0 (ap (λ (o : Option ℕ). is_some o) c.in-Some.is) in
    subst (λ (o : Option CutFault). MatchOption o (IfErr c.segments.result (λ fault. fault ≡ OutOfMemory)) (λ fault. IsErrOf c.segments.result fault))
    (sym (no_fault c.args.plan.now c.args.octets.now c.if-plan-eq0.false (λ i. omega (arith, i, window.0)) window.1 c.if-octets-gt-MOST_OCTETS.false (omega (arith, c.if-octets-min.false, c.min.ensures)))) c.segments.ensures.err
