-- Octets that are refused at the octet for a window.
use Rattle.std.specs.Prelude.{◌≡◌, ℕ, zero, suc, ◌<◌, Some, List, [], ◌∷◌, ◌++◌, length, drop, slice_index, refl}
use Rattle.std.proofs.Common.{inl, inr, sym, ◌∙◌, ap, subst, arith}
use Rattle.std.proofs.lemmas.List.{length-take-le}
use Rattle.bac_tag.specs.declared.refusals.Why.TheVariants.{Short, Trailing, PduType, Window, OutOfMemory}
use Rattle.bac_tag.specs.Spelling.{IsViable, IsWholeRefusal}
use Rattle.bac_tag.specs.HeadOctets.{IsWindow}
use Rattle.bac_apdu.specs.FirstOctet.{seg_at, head_size, window_place, HasType, HasSeg}
use Rattle.bac_apdu.specs.Apdus.{ApduValue, SpellsApdu}
use Rattle.bac_apdu.specs.Decoded.{IsRefused}
use Rattle.bac_tag.proofs.BehindLemmas.{whole_hopeless}
use Rattle.bac_tag.proofs.FilledLemmas.{octets_from, filled, filled_split, filled_taken}
use Rattle.bac_apdu.proofs.TypeLemmas.{too_short}

-- the octet at a place is the first of those from it on
parted : (n : ℕ) (b : List ℕ) → n < length b → (rest : List ℕ) × (b ≡ filled n b ++ slice_index b n ∷ rest)
parted n b lt = (drop (suc n) b, filled_split n b (omega (arith, lt)) ∙ ap (λ (l : List ℕ). filled n b ++ l) (drop_at n b lt))
  where
    drop_at : (n : ℕ) (b : List ℕ) → n < length b → drop n b ≡ slice_index b n ∷ drop (suc n) b
    drop_at n [] lt = absurd (omega arith)
    drop_at zero (o ∷ b) lt = refl
    drop_at (suc n) (o ∷ b) lt = drop_at n b (omega arith)

pub window_refused : (t g n : ℕ) (b : List ℕ) → HasType t b → HasSeg g b → t < 8 → window_place t g ≡ Some (suc n) → suc n < head_size t g → suc n < length b → (IsWindow (slice_index b (suc n)) → ⊥) → IsViable SpellsApdu (filled (suc n) b)
    → ((x : ApduValue) (w : ℕ) (d : List ℕ) → SpellsApdu x (filled (suc n) b ++ w ∷ d) → IsWindow w) → IsRefused b (record { place = suc n; why = Window })
window_refused t g n b h f low at within lt bad v only =
    let m = parted (suc n) b lt in
    let size : length (filled (suc n) b) ≡ suc n = ap (λ (l : List ℕ). length l) (sym (filled_taken (suc n) b (omega (arith, lt)))) ∙ length-take-le (suc n) b (omega (arith, lt)) in
    let none : (x : ApduValue) → SpellsApdu x (filled (suc n) b) → ⊥ = λ x s. too_short t g x (slice_index b 0) (octets_from 1 n b) h.1 f (omega (arith, size, within)) s in
    let whole = whole_hopeless SpellsApdu (filled (suc n) b) (slice_index b (suc n)) m.0 Window (λ e. let i : Window ≡ Short = e in cc) (λ e. let i : Window ≡ Trailing = e in cc) v none (λ x c s. bad (only x (slice_index b (suc n)) c s)) in
    record {
      refused = λ _. subst (λ (l : List ℕ). IsWholeRefusal SpellsApdu l (record { place = suc n; why = Window })) (sym m.1) (subst (λ (k : ℕ). IsWholeRefusal SpellsApdu (filled (suc n) b ++ slice_index b (suc n) ∷ m.0) (record { place = k; why = Window })) size whole);
      memory = λ e. absurd (let i : Window ≡ OutOfMemory = e in cc);
      reasoned = record {
        of_type = (λ e. absurd (let i : Window ≡ PduType = e in cc), λ p. absurd (omega (arith, p.0)));
        of_window = (λ e. (ap (λ (k : ℕ). window_place k (seg_at (slice_index b 0))) h.1 ∙ ap (window_place t) f ∙ at, lt, bad), λ p. refl);
        others = inr (inl refl);
      };
    }
