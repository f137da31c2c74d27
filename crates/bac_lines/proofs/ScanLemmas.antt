-- What the fields of a line begin with, and what comes after them.
use Rattle.std.specs.Prelude.{◌≡◌, ◌⊎◌, ℕ, ◌+◌, ◌-◌, ◌/◌, ◌<◌, ◌≤◌, slice_index_or, List, [], ◌∷◌, ◌++◌, length, take, drop, slice_get, Bool, true, false, ◌==◌, ◌||◌, not, IsTrue, Option, Some, None, refl}
use Rattle.std.proofs.Common.{sym, ◌∙◌, ap, subst, inl, inr, arith, zero, suc, append_assoc}
use Rattle.std.proofs.lemmas.Bool.{and_parts, or_cases, eqb-true, both_ways}
use Rattle.std.proofs.Math.Seq.{drop-append_seam, take-append-add}
use Rattle.std.proofs.lemmas.List.{take_rest, length-append, length-take-le, take-append-drop}
use Rattle.bac_tag.specs.Octets.{IsOctets}
use Rattle.bac_record.specs.Digits.{digit, hexadecimal}
use Rattle.bac_text.specs.Words.{number}
use Rattle.bac_field_parts.specs.Fields.{FieldValue}
use Rattle.bac_fields.specs.Line.{Form, as_group, as_context, shown}
use Rattle.bac_lines.specs.Found.{tagged_text}
use Rattle.bac_lines.proofs.Hexes.{hex_digits}
use Rattle.bac_lines.specs.Scanning.{clear, is_hex, ends_field}

-- ---- what is found

pub some_is : {A : Type 0} (x y : A) → Some x ≡ Some y → x ≡ y
some_is x y e = cc

pub not_both : {A : Type 0} {r : Option A} {x : A} → r ≡ None → r ≡ Some x → ⊥
not_both {r = r} {x = x} n s = let e : None ≡ Some x = sym n ∙ s in absurd (cc)

pub found_is : {m n : ℕ} {a b : Bool} → m ≡ n → a ≡ b → ◌≡◌ {A = Option (ℕ × Bool)} (Some (m, a)) (Some (n, b))
found_is {m} {n} {a} {b} e f = λ i. Some (e i, f i)

pub nothing_open : {X : Type 0} (xs : List X) → true ≡ (length xs == 0) → xs ≡ []
nothing_open [] e = refl
nothing_open (x ∷ xs) e = absurd (omega (arith, eqb-true (length (x ∷ xs)) 0 (sym e)))

-- ---- what comes after a field

-- nothing of what does not pass a blank nor an end
pub clear_of : (test : ℕ → Bool) → IsTrue (not (test 32)) → IsTrue (not (test 41)) → IsTrue (not (test 125)) → (more : List ℕ) → IsTrue (ends_field more) → IsTrue (clear test more)
clear_of test a b c [] h = refl
clear_of test a b c (x ∷ more) h = elim (or_cases (x == 32) ((x == 41) || (x == 125)) h) [
  | inl e ↦ subst (λ (y : ℕ). IsTrue (not (test y))) (sym (eqb-true x 32 e)) a
  | inr r ↦ elim (or_cases (x == 41) (x == 125) r) [
    | inl e ↦ subst (λ (y : ℕ). IsTrue (not (test y))) (sym (eqb-true x 41 e)) b
    | inr e ↦ subst (λ (y : ℕ). IsTrue (not (test y))) (sym (eqb-true x 125 e)) c
  ]
]

-- what comes after a text
pub rest_after : (line text tail : List ℕ) (n : ℕ) → line ≡ text ++ tail → n ≡ length text → take (length line - n) (drop n line) ≡ tail
rest_after line text tail n e is = take_rest line n ∙ ap (λ (k : ℕ). drop k line) is ∙ ap (λ (l : List ℕ). drop (length text) l) e ∙ drop-append_seam text tail

-- hexadecimal digits and what comes after them do not begin with this octet
pub not_digits : (x : ℕ) → is_hex x ≡ false → ends_field (x ∷ []) ≡ false → (octets more rest : List ℕ) → IsOctets octets → IsTrue (ends_field more) → x ∷ rest ≡ hexadecimal octets ++ more → ⊥
not_digits x h f [] [] rest o e is = absurd (cc)
not_digits x h f [] (y ∷ more) rest o e is =
    let same : x ≡ y = cc in
    both_ways (ends_field (x ∷ [])) f (subst (λ (z : ℕ). IsTrue (ends_field (z ∷ []))) (sym same) e)
not_digits x h f (octet ∷ octets) more rest o e is =
    let same : x ≡ digit (octet / 16) = cc in
    let digits = hex_digits (octet ∷ octets) o in
    both_ways (is_hex x) h (subst (λ (z : ℕ). IsTrue (is_hex z)) (sym same) (and_parts _ _ digits).0)

-- what an octet comes first of
pub first_is : (line : List ℕ) (x : ℕ) → Some x ≡ slice_get line 0 → (rest : List ℕ) × (line ≡ x ∷ rest)
first_is [] x e = absurd (cc)
first_is (y ∷ line) x e = let same : x ≡ y = cc in (line, ap (λ (z : ℕ). z ∷ line) (sym same))

pub none_is : (line : List ℕ) → None ≡ slice_get line 0 → line ≡ []
none_is [] e = refl
none_is (y ∷ line) e = absurd (cc)

-- what comes after a tag in brackets
pub tag_rest : (line digits tail : List ℕ) (start : ℕ) → line ≡ 91 ∷ (digits ++ 93 ∷ tail) → start ≡ length digits + 2 → take (length line - start) (drop start line) ≡ tail
tag_rest line digits tail start e is =
    rest_after line (91 ∷ (digits ++ 93 ∷ [])) tail start (e ∙ ap (λ (l : List ℕ). 91 ∷ l) (sym (append_assoc digits (93 ∷ []) tail))) (omega (arith, is, length-append digits (93 ∷ [])))

pub pair_is : {A B : Type 0} {a c : A} {b d : B} → ◌≡◌ {A = Option (A × B)} (Some (a, b)) (Some (c, d)) → (a ≡ c) × (b ≡ d)
pair_is e = let p = some_is _ _ e in ((λ i. (p i).0), (λ i. (p i).1))

-- so many octets of a line, and then of what comes after them
pub take_next : (line : List ℕ) (m n : ℕ) → m ≤ length line → take (m + n) line ≡ take m line ++ take n (take (length line - m) (drop m line))
take_next line m n le =
    ap (λ (l : List ℕ). take (m + n) l) (sym (take-append-drop m line)) ∙ ap (λ (k : ℕ). take (k + n) (take m line ++ drop m line)) (sym (length-take-le m line le))
    ∙ take-append-add (take m line) (drop m line) n ∙ ap (λ (l : List ℕ). take m line ++ take n l) (sym (take_rest line m))

-- what begins with a tag in brackets
pub tagged_shown : (form : Form) (v : FieldValue) (n : ℕ) → (form ≡ as_group) ⊎ (form ≡ as_context) → v.number ≡ n → (91 ∷ (number n ++ 93 ∷ [])) ++ tagged_text form v ≡ shown form v
tagged_shown form v n (inl k) e =
    ap (λ (f : Form). (91 ∷ (number n ++ 93 ∷ [])) ++ tagged_text f v) k ∙ ap (λ (l : List ℕ). 91 ∷ l) (append_assoc (number n) (93 ∷ []) (123 ∷ [])) ∙ ap (λ (m : ℕ). 91 ∷ (number m ++ 93 ∷ 123 ∷ [])) (sym e) ∙ ap (λ (f : Form). shown f v) (sym k)
tagged_shown form v n (inr k) e =
    ap (λ (f : Form). (91 ∷ (number n ++ 93 ∷ [])) ++ tagged_text f v) k ∙ ap (λ (l : List ℕ). 91 ∷ l) (append_assoc (number n) (93 ∷ []) (hexadecimal v.contents)) ∙ ap (λ (m : ℕ). 91 ∷ (number m ++ 93 ∷ hexadecimal v.contents)) (sym e)
    ∙ ap (λ (f : Form). shown f v) (sym k)

-- a list by its last one, and those before it
pub last_of : {X : Type 0} (xs ys : List X) (x : X) (m n : ℕ) → n ≡ length xs → m + 1 ≡ n → ys ≡ take (n - 1) xs → ((d : X) → 0 < n → ◌≡◌ {A = Option X} (Some x) (Some (slice_index_or xs (n - 1) d))) → xs ≡ ys ++ x ∷ []
last_of {X} xs ys x m n size next front last =
    let some : 0 < n = omega (arith, next) in
    let end = some_is x (slice_index_or xs (n - 1) x) (last x some) in
    by xs (n - 1) (omega (arith, size, some)) ∙ ap (λ (l : List X). l ++ slice_index_or xs (n - 1) x ∷ []) (sym front) ∙ ap (λ (y : X). ys ++ y ∷ []) (sym end)
  where
    by : (xs : List X) (k : ℕ) → k + 1 ≡ length xs → xs ≡ take k xs ++ slice_index_or xs k x ∷ []
    by [] k e = absurd (omega (arith, e))
    by (y ∷ []) zero e = refl
    by (y ∷ z ∷ xs) zero e = absurd (omega (arith, e))
    by (y ∷ xs) (suc k) e = ap (λ (l : List X). y ∷ l) (by xs k (omega (arith, e)))

pub take_sign : (x : ℕ) (line : List ℕ) (n : ℕ) → take (n + 1) (x ∷ line) ≡ x ∷ take n line
take_sign x line n = let next : n + 1 ≡ suc n = omega arith in rw next refl
