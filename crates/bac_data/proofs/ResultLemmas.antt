-- What is known of a result.
use Rattle.std.proofs.Common.{◌≡◌, Bool, true, false, List, sym, ◌∙◌}
use Rattle.std.specs.Prelude.{Result, Ok, Err, OnOk, OnErr, IsErrOf, ◌↔◌, if◌then◌else◌}
use Rattle.std.specs.Result.{is_ok, is_err}
use Rattle.bac_data.specs.declared.build_faults.BuildFault.{BuildFault}

pub went_well : {T E P : Type 0} (r : Result T E) (b : Bool) → b ≡ is_err r → b ≡ false → OnOk r P → P
went_well (Ok x) b e f h = h
went_well (Err x) b e f h = absurd (let i : true ≡ false = sym e ∙ f in cc)

pub appended : {T E X : Type 0} (r : Result T E) (b : Bool) (xs ys zs : List X) → b ≡ is_err r → b ≡ false → xs ≡ (if is_ok r then ys else zs) → xs ≡ ys
appended (Ok x) b xs ys zs e f h = h
appended (Err x) b xs ys zs e f h = absurd (let i : true ≡ false = sym e ∙ f in cc)

pub other_fault : {T P : Type 0} (f g : BuildFault) → (f ≡ g → ⊥) → (P → ⊥) → IsErrOf {T = T} (Err f) g ↔ P
other_fault {T} {P} f g differ never = (λ e. absurd (differ (same e)), λ p. absurd (never p))
  where
    same : ◌≡◌ {A = Result T BuildFault} (Err f) (Err g) → f ≡ g
    same e = cc

pub no_fault : {T P : Type 0} (x : T) (g : BuildFault) → (P → ⊥) → IsErrOf {T = T} (Ok x) g ↔ P
no_fault {T} x g never = (λ e. absurd (let i : ◌≡◌ {A = Result T BuildFault} (Ok x) (Err g) = e in cc), λ p. absurd (never p))

pub on_ok : {T E P Q : Type 0} (r : Result T E) → OnOk r P → (P → Q) → OnOk r Q
on_ok (Ok x) h f = f h
on_ok (Err x) h f = tt

pub on_err_then : {T E P Q : Type 0} (r : Result T E) → OnErr r P → (P → Q) → OnErr r Q
on_err_then (Ok x) h f = tt
on_err_then (Err x) h f = f h

pub err_anyway : {T E P : Type 0} (r : Result T E) → P → OnErr r P
err_anyway (Ok x) p = tt
err_anyway (Err x) p = p

-- three facts where it is Ok
pub on_ok_all : {T E P Q R S : Type 0} (r : Result T E) → OnOk r P → OnOk r Q → OnOk r R → (P → Q → R → S) → OnOk r S
on_ok_all (Ok x) p q r f = f p q r
on_ok_all (Err x) p q r f = tt
