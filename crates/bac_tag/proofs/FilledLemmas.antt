-- So many octets of a list, with zeros behind its end.
use Rattle.std.specs.Prelude.{◌≡◌, ℕ, zero, suc, ◌≤◌, List, [], ◌∷◌, ◌++◌, length, take, drop, slice_index, refl}
use Rattle.std.proofs.Common.{sym, ◌∙◌, ap, subst, arith}
use Rattle.std.proofs.lemmas.List.{append-nil, take-append-drop}
use Rattle.bac_tag.specs.Spelling.{IsViable}
use Rattle.bac_tag.proofs.BehindLemmas.{viable_shorter}

-- so many octets from a place on
abbrev pub octets_from : ℕ → ℕ → List ℕ → List ℕ
octets_from place zero b = []
octets_from place (suc n) b = slice_index b place ∷ octets_from (suc place) n b

abbrev pub filled : ℕ → List ℕ → List ℕ
filled n b = octets_from 0 n b

from_next : (place n o : ℕ) (b : List ℕ) → octets_from (suc place) n (o ∷ b) ≡ octets_from place n b
from_next place zero o b = refl
from_next place (suc n) o b = ap (λ (t : List ℕ). slice_index b place ∷ t) (from_next (suc place) n o b)

pub filled_taken : (n : ℕ) (b : List ℕ) → n ≤ length b → take n b ≡ filled n b
filled_taken zero b le = refl
filled_taken (suc n) [] le = absurd (omega arith)
filled_taken (suc n) (o ∷ b) le = ap (λ (t : List ℕ). o ∷ t) (filled_taken n b (omega arith) ∙ sym (from_next 0 n o b))

pub filled_split : (n : ℕ) (b : List ℕ) → n ≤ length b → b ≡ filled n b ++ drop n b
filled_split n b le = sym (take-append-drop n b) ∙ ap (λ (t : List ℕ). t ++ drop n b) (filled_taken n b le)

fills : (n : ℕ) (b : List ℕ) → length b ≤ n → (more : List ℕ) × (filled n b ≡ b ++ more)
fills n [] le = (filled n [], refl)
fills zero (o ∷ b) le = absurd (omega arith)
fills (suc n) (o ∷ b) le = let m = fills n b (omega arith) in (m.0, ap (λ (t : List ℕ). o ∷ t) (from_next 0 n o b ∙ m.1))

-- what is viable once it is filled is viable
pub filled_viable : {X : Type 0} (T : X → List ℕ → Type 0) (n : ℕ) (b : List ℕ) → length b ≤ n → IsViable T (filled n b) → IsViable T b
filled_viable T n b le v = let m = fills n b le in viable_shorter T b m.0 (subst (IsViable T) m.1 v)

-- what spells a value begins a spelling
pub viable_itself : {X : Type 0} (T : X → List ℕ → Type 0) (x : X) (b : List ℕ) → T x b → IsViable T b
viable_itself T x b h = record { value = x; rest = []; spelled = subst (T x) (sym (append-nil b)) h }
