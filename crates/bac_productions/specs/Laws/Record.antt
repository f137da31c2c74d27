-- What holds of the fields holds of the record.
use Rattle.std.specs.Prelude.{◌↔◌, ℕ, List, take}
use Rattle.bac_tag.specs.declared.refusals.Refusal.{Refusal}
use Rattle.bac_tag.specs.Spelling.{IsRefusal, Takes}
use Rattle.bac_tag.specs.Laws.Spelling.{refused_alike}
use Rattle.bac_productions.specs.Productions.{IsRecordOf, IsInhabited, IsLongest, IsReach}
use Rattle.bac_productions.specs.Laws.Refusal.{reach_alike}

module _ {V W : Type 0} {S : W → List ℕ → Type 0} {T : V → List ℕ → Type 0} (R : IsRecordOf S T) where
  pub record_inhabited : IsInhabited S → IsInhabited T
  record_inhabited I = record { value = R.of_fields I.value; octets = I.octets; spelled = R.joined I.value I.octets I.spelled }

  pub record_refused : {input : List ℕ} {r : Refusal} → IsRefusal S input r → IsRefusal T input r
  record_refused {input} {r} h = refused_alike S T input r (λ w b s. (R.of_fields w, R.joined w b s)) (λ v b t. (R.fields v, R.split v b t)) h

  pub record_reach : {input : List ℕ} {r : Refusal} → IsReach S input r → IsReach T input r
  record_reach {input} {r} h = reach_alike S T input r (λ w b s. (R.of_fields w, R.joined w b s)) (λ v b t. (R.fields v, R.split v b t)) h

  pub record_longest : {input : List ℕ} {w : W} {v : V} {n : ℕ} → ((b : List ℕ) → S w b ↔ T v b) → IsLongest S input w n → IsLongest T input v n
  record_longest {input} {n = n} same L = record { within = L.within; spelled = (same (take n input)).0 L.spelled; most = λ x c y e t. L.most (R.fields x) c y e (R.split x c t) }

  pub record_takes : {input : List ℕ} {w : W} {v : V} {n : ℕ} → ((b : List ℕ) → S w b ↔ T v b) → Takes S input (w, n) → Takes T input (v, n)
  record_takes {input} {n = n} same found = record { within = found.within; spelled = (same (take n input)).0 found.spelled }
