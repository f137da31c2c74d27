use Rattle.std.proofs.Common.{◌≡◌, sym, ap, List, ℕ, length, arith}
use Rattle.bac_segment.specs.declared.faults.TakeFault.TheVariants.{OtherKey, OutOfMemory, PastEnd, TooLarge, DeskFull}
use Rattle.std.proofs.Common.{refl}
use Rattle.bac_segment.specs.Deliveries.{delivery}
use Rattle.bac_segment.proofs.DeskLemmas.{first_past, first_large, first_fits}
use Rattle.bac_segment.proofs.desk.first.Goals as goal

pub returns-then-cannot_end-clause-err : goal.returns-then-cannot_end-clause-err
returns-then-cannot_end-clause-err c = (first_past (delivery c.args.segment.now) (sym c.if-cannot_end.ensures), λ h. let e : PastEnd ≡ OtherKey = h in cc, λ h. let e : PastEnd ≡ DeskFull = h in cc)

pub returns-then-as_slice-gt-MOST_OCTETS-clause-err : goal.returns-then-as_slice-gt-MOST_OCTETS-clause-err
returns-then-as_slice-gt-MOST_OCTETS-clause-err c = (
  first_large (delivery c.args.segment.now) (sym c.if-cannot_end.ensures) (omega (arith, c.if-as_slice-gt-MOST_OCTETS.true, ap (λ (o : List ℕ). length o) c.as_slice.ensures.value)),
  λ h. let e : TooLarge ≡ OtherKey = h in cc,
  λ h. let e : TooLarge ≡ DeskFull = h in cc,
)

pub returns-in-Err-clause-err : goal.returns-in-Err-clause-err
returns-in-Err-clause-err c = (
  (first_fits (delivery c.args.segment.now) (sym c.if-cannot_end.ensures) (omega (arith, c.if-as_slice-gt-MOST_OCTETS.false, ap (λ (o : List ℕ). length o) c.as_slice.ensures.value)), refl),
  λ h. let e : OutOfMemory ≡ OtherKey = h in cc,
  λ h. let e : OutOfMemory ≡ DeskFull = h in cc,
)

pub returns-in-Ok-take-clause-fits : goal.returns-in-Ok-take-clause-fits
returns-in-Ok-take-clause-fits c = first_fits (delivery c.args.segment.now) (sym c.if-cannot_end.ensures) (omega (arith, c.if-as_slice-gt-MOST_OCTETS.false, ap (λ (o : List ℕ). length o) c.as_slice.ensures.value))
