-- Octets that are kept, few or many.
use Rattle.std.proofs.Common.{◌≡◌, ℕ, ◌+◌, ◌-◌, ◌<◌, ◌≤◌, Bool, List, ◌++◌, take, length, sym, ◌∙◌, ap, arith}
use borrow.Rule.Slice.PartMut.{put_mid}
use Rattle.std.specs.Prelude.{if◌then◌else◌}
use Rattle.std.proofs.lemmas.Bool.{le-leb, lt-leb}
use Rattle.std.proofs.lemmas.List.{length-take-le}
use Rattle.std.proofs.lemmas.Slice.{take-put_mid}
use Rattle.bac_data.specs.KeptOctets.{kept_octets}

pub few_kept : (count : ℕ) (few many : List ℕ) → count ≤ 24 → kept_octets count few many ≡ take count few
few_kept count few many h = ap (λ (b : Bool). if b then take count few else many) (le-leb count 24 h)

pub many_kept : (count : ℕ) (few many : List ℕ) → 24 < count → kept_octets count few many ≡ many
many_kept count few many h = ap (λ (b : Bool). if b then take count few else many) (lt-leb count 24 h)

-- how many there are if they are few
pub few_length : (count : ℕ) (few many now : List ℕ) → length few ≡ 24 → count ≤ 24 → kept_octets count few many ≡ now → length now ≡ count
few_length count few many now places h view = sym (ap length view) ∙ ap length (few_kept count few many h) ∙ length-take-le count few (omega (arith, places, h))

-- few octets, and as many more behind them as there are places for
pub few_extended : (count : ℕ) (few many octets room now : List ℕ) → length few ≡ 24 → count + length octets ≤ 24 → room ≡ octets → kept_octets count few many ≡ now
    → kept_octets (count + length octets) (put_mid count (count + length octets - count) few room) many ≡ now ++ octets
few_extended count few many octets room now places fits same view =
    let end : ℕ = count + length octets in
    few_kept end (put_mid count (end - count) few room) many fits ∙ take-put_mid count (end - count) few room end (omega (arith, ap length same)) (omega (arith, places, fits))
    ∙ ap (λ (l : List ℕ). take count few ++ l) same ∙ ap (λ (l : List ℕ). l ++ octets) (sym (few_kept count few many (omega (arith, fits))) ∙ view)
