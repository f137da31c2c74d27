-- The digits of a line.
use Rattle.std.proofs.Common.{◌≡◌, ◌==◌, ℕ, List, [], ◌∷◌, refl, ap, Bool, true, false, not, cond, ◌||◌}
use Rattle.std.specs.List.{list_any}
use Rattle.bac_pack.specs.Lines.{BLANK, without_blanks}

-- Nothing is dropped where no blank is.
pub without_blanks-none : (octets : List ℕ) → list_any (λ octet. octet == BLANK) octets ≡ false → without_blanks octets ≡ octets
without_blanks-none [] none = refl
without_blanks-none (octet ∷ octets) none = step (octet == BLANK) none (without_blanks-none octets)
  where
    step : (b : Bool) → (b || list_any (λ o. o == BLANK) octets) ≡ false → (list_any (λ o. o == BLANK) octets ≡ false → without_blanks octets ≡ octets)
        → cond (not b) (octet ∷ without_blanks octets) (without_blanks octets) ≡ octet ∷ octets
    step true e behind = cc
    step false e behind = ap (λ (l : List ℕ). octet ∷ l) (behind e)
