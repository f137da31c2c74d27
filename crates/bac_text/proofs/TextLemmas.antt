-- Texts that are appended one behind the other.
use Rattle.std.proofs.Common.{◌≡◌, ℕ, ◌+◌, ◌<◌, List, [], ◌∷◌, ◌++◌, length, take, map, refl, sym, ap, ◌∙◌, append_assoc, arith}
use Rattle.std.proofs.Math.ListN.{set}
use Rattle.std.proofs.lemmas.List.{take_more_set, take_at, map-append}
use Rattle.std.proofs.lemmas.List.FromFn.{map-range_with_len_more}
use Rattle.std.specs.Prelude.{Bool, true, false, codes, Result, Ok, Err, IfOk, OnErr}
use Rattle.std.specs.Int.{from_bool}
use Rattle.std.specs.List.{flat_map}
use Rattle.bac_tag.specs.Octets.{Extends}
use Rattle.bac_value.specs.BitsContents.{bits_in, bit_in}
use Rattle.bac_text.specs.Words.{truth, listed}
use Rattle.bac_text.specs.PrimitiveText.{bit_digit}

-- two texts, one behind the other
pub appended : (old mid new a b : List ℕ) → mid ≡ old ++ a → new ≡ mid ++ b → new ≡ old ++ (a ++ b)
appended old mid new a b p q = q ∙ ap (λ l. l ++ b) p ∙ append_assoc old a b

-- the first text in room behind a place
pub first_put : (at : ℕ) (old mid room new a : List ℕ) → take at mid ≡ take at old → room ≡ mid → new ≡ take at room ++ a → new ≡ take at old ++ a
first_put at old mid room new a p e q = q ∙ ap (λ l. take at l ++ a) e ∙ ap (λ l. l ++ a) p

-- what stands in the room stands in the vector
pub in_room : (end n : ℕ) (room rest : List ℕ) → length room ≡ n → take end (take n (room ++ rest)) ≡ take end room
in_room end n room rest len = ap (λ k. take end (take k (room ++ rest))) (sym len) ∙ ap (take end) (take_at room rest (length room) refl)

-- the last of several texts, where the result of its call is handed on
pub written_last : {E : Type 0} (r : Result ℕ E) (old mid new a b : List ℕ) → mid ≡ old ++ a → IfOk r (λ end. take end new ≡ mid ++ b) → IfOk r (λ end. take end new ≡ old ++ (a ++ b))
written_last (Ok end) old mid new a b p q = appended old mid (take end new) a b p q
written_last (Err x) old mid new a b p q = tt

-- a word, and what stands behind it
pub behind_word : {E : Type 0} (r : Result ℕ E) (old mid named new a word b : List ℕ) → mid ≡ old ++ a → named ≡ mid ++ word → IfOk r (λ end. take end new ≡ named ++ b) → IfOk r (λ end. take end new ≡ old ++ (a ++ (word ++ b)))
behind_word (Ok end) old mid named new a word b p q r =
    r ∙ ap (λ l. l ++ b) (q ∙ ap (λ l. l ++ word) p) ∙ append_assoc (old ++ a) word b ∙ append_assoc old a (word ++ b)
behind_word (Err x) old mid named new a word b p q r = tt

-- the same text
pub same_text : {E : Type 0} (r : Result ℕ E) (old new a b : List ℕ) → a ≡ b → IfOk r (λ end. take end new ≡ old ++ a) → IfOk r (λ end. take end new ≡ old ++ b)
same_text (Ok end) old new a b e q = q ∙ ap (λ l. old ++ l) e
same_text (Err x) old new a b e q = tt

-- the digit of a truth
pub truth_digit : (value : Bool) → truth value ≡ (48 + from_bool value) ∷ []
truth_digit true = refl
truth_digit false = refl

-- ---- what is left where memory is refused

pub on_err : {T E P : Type 0} (r : Result T E) → P → OnErr r P
on_err (Ok x) p = tt
on_err (Err x) p = p

pub extends_more : (old mid new : List ℕ) → Extends old mid → Extends mid new → Extends old new
extends_more old mid new (x, p) (y, q) = (x ++ y, appended old mid new x y p q)

pub extends_last : {T E : Type 0} (r : Result T E) (old mid new : List ℕ) → Extends old mid → OnErr r (Extends mid new) → OnErr r (Extends old new)
extends_last (Ok x) old mid new p q = tt
extends_last (Err x) old mid new p q = extends_more old mid new p q

-- ---- bits

-- one bit more
pub bits_step : (old room packed : List ℕ) (at n d : ℕ) → at + n < length room → d ≡ bit_digit (bit_in packed n) → take (at + n) room ≡ old ++ map bit_digit (bits_in packed n)
    → take (at + (n + 1)) (set room (at + n) d) ≡ old ++ map bit_digit (bits_in packed (n + 1))
bits_step old room packed at n d inside e p =
    let behind : at + (n + 1) ≡ at + n + 1 = omega arith in
    ap (λ k. take k (set room (at + n) d)) behind ∙ take_more_set room (at + n) d inside ∙ ap (λ k. take (at + n) room ++ k ∷ []) e ∙ ap (λ l. l ++ bit_digit (bit_in packed n) ∷ []) p
    ∙ append_assoc old (map bit_digit (bits_in packed n)) (bit_digit (bit_in packed n) ∷ [])
    ∙ ap (λ l. old ++ l) (sym (ap (map bit_digit) (map-range_with_len_more (bit_in packed) 0 n n (omega arith)) ∙ map-append bit_digit (bits_in packed n) (bit_in packed n ∷ [])))

-- ---- lists of values that stand for others

flat_map-map : {X Y : Type 0} (of : X → Y) (f : Y → List ℕ) (xs : List X) → flat_map f (map of xs) ≡ flat_map (λ x. f (of x)) xs
flat_map-map of f [] = refl
flat_map-map of f (x ∷ xs) = ap (λ l. f (of x) ++ l) (flat_map-map of f xs)

pub listed-map : {X Y : Type 0} (of : X → Y) (text : Y → List ℕ) (xs : List X) → listed (λ x. text (of x)) xs ≡ listed text (map of xs)
listed-map of text [] = refl
listed-map of text (x ∷ xs) = ap (λ l. codes "(" ++ (text (of x) ++ l) ++ codes ")") (sym (flat_map-map of (λ y. codes " " ++ text y) xs))
