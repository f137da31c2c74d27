-- The flags of the control octet.
use Rattle.std.specs.Prelude.{◌≡◌, ◌==◌, ℕ, zero, suc, ◌*◌, ◌/◌, ◌%◌, ◌^◌, ◌<◌, Bool}
use Rattle.std.specs.Int.RustNames.{bit_and}
use Rattle.std.proofs.Common.{sym, ◌∙◌, ap, eq-eqb, ne_eqb, arith}
use Rattle.std.proofs.lemmas.Nat.Bits.{and_pow, bit_at-lt}
use Rattle.bac_tag.specs.HeadOctets.{bit_of}

bit_is : (x p : ℕ) → x < 2 → 0 < p → x ≡ bit_of (x * p == p)
bit_is zero p lt some = sym (ap bit_of (ne_eqb (0 * p) p (λ e. omega (arith, e, some))))
bit_is (suc zero) p lt some = sym (ap bit_of (eq-eqb (1 * p) p (omega arith)))
bit_is (suc (suc x)) p lt some = absurd (omega arith)

-- whether a flag is held is its bit
pub flag_is : (n k : ℕ) (r : Bool) → 0 < 2 ^ k → r ≡ (bit_and n (2 ^ k) == 2 ^ k) → n / 2 ^ k % 2 ≡ bit_of r
flag_is n k r some e = bit_is (n / 2 ^ k % 2) (2 ^ k) (bit_at-lt n k) some ∙ ap (λ (m : ℕ). bit_of (m == 2 ^ k)) (sym (and_pow n k)) ∙ ap bit_of (sym e)
