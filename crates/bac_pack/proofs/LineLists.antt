-- Lists of lines, and the lines of a text.
use Rattle.std.proofs.Common.{◌≡◌, ◌≢◌, ◌==◌, ℕ, List, [], ◌∷◌, ◌++◌, length, refl, sym, ap, ◌∙◌, append_assoc, append-nil, arith, Bool, true, false, if◌then◌else◌}
use Rattle.std.proofs.lemmas.Bool.Decides.{nat_tests}
use Rattle.std.specs.List.{AllByRecursion, AllZip}
use Rattle.bac_pack.specs.Lines.{LF, in_first, with_octet, lines_of, ended, IsUnbroken}

pub ended-append : (lines others : List (List ℕ)) → ended (lines ++ others) ≡ ended lines ++ ended others
ended-append [] others = refl
ended-append (line ∷ lines) others =
    ap (λ l. (line ++ LF ∷ []) ++ l) (ended-append lines others) ∙ sym (append_assoc (line ++ LF ∷ []) (ended lines) (ended others))

pub ended-more : (lines : List (List ℕ)) (line : List ℕ) → ended (lines ++ line ∷ []) ≡ ended lines ++ (line ++ LF ∷ [])
ended-more lines line = ended-append lines (line ∷ []) ∙ ap (λ l. ended lines ++ l) (append-nil (line ++ LF ∷ []))

pub AllZip-append : (R : List ℕ → List ℕ → Type 0) (xs ys others more : List (List ℕ)) → AllZip R xs ys → AllZip R others more → AllZip R (xs ++ others) (ys ++ more)
AllZip-append R [] [] others more all here = here
AllZip-append R [] (y ∷ ys) others more all here = absurd all
AllZip-append R (x ∷ xs) [] others more all here = absurd all
AllZip-append R (x ∷ xs) (y ∷ ys) others more all here = (all.0, AllZip-append R xs ys others more all.1 here)

pub AllZip-length : (R : List ℕ → List ℕ → Type 0) (xs ys : List (List ℕ)) → AllZip R xs ys → length xs ≡ length ys
AllZip-length R [] [] all = refl
AllZip-length R [] (y ∷ ys) all = absurd all
AllZip-length R (x ∷ xs) [] all = absurd all
AllZip-length R (x ∷ xs) (y ∷ ys) all = let behind = AllZip-length R xs ys all.1 in omega arith

-- LF ends an empty line, and any other octet belongs to the line behind it.
with_octet-LF : (octet : ℕ) (lines : List (List ℕ)) → octet ≡ LF → with_octet octet lines ≡ [] ∷ lines
with_octet-LF octet lines e = rw e refl

with_octet-other : (octet : ℕ) (lines : List (List ℕ)) → octet ≢ LF → with_octet octet lines ≡ in_first octet lines
with_octet-other octet lines other = step (octet == LF) refl
  where
    step : (b : Bool) → (octet == LF) ≡ b → (if b then [] ∷ lines else in_first octet lines) ≡ in_first octet lines
    step true e = absurd (other (grind (arith, nat_tests)))
    step false e = refl

-- A line with its LF is the first of a text.
pub lines_of-line : (line more : List ℕ) → IsUnbroken line → lines_of (line ++ LF ∷ more) ≡ line ∷ lines_of more
lines_of-line [] more whole = with_octet-LF LF (lines_of more) refl
lines_of-line (octet ∷ line) more whole =
    ap (with_octet octet) (lines_of-line line more whole.1) ∙ with_octet-other octet (line ∷ lines_of more) whole.0

-- Lines that end stand in front of those of the rest.
pub lines_of-ended : (lines : List (List ℕ)) (rest : List ℕ) → AllByRecursion IsUnbroken lines → lines_of (ended lines ++ rest) ≡ lines ++ lines_of rest
lines_of-ended [] rest each = refl
lines_of-ended (line ∷ lines) rest each =
    ap lines_of (append_assoc (line ++ LF ∷ []) (ended lines) rest ∙ append_assoc line (LF ∷ []) (ended lines ++ rest))
    ∙ lines_of-line line (ended lines ++ rest) each.0 ∙ ap (λ (l : List (List ℕ)). line ∷ l) (lines_of-ended lines rest each.1)

-- Octets without LF at the front of a text stand in its first line.
pub lines_of-front : (front more : List ℕ) → IsUnbroken front → front ≢ [] → (behind : List ℕ) × (lines : List (List ℕ)) × (lines_of (front ++ more) ≡ (front ++ behind) ∷ lines)
lines_of-front [] more whole some = absurd (some refl)
lines_of-front (octet ∷ []) more whole some = step (lines_of more) refl
  where
    step : (found : List (List ℕ)) → lines_of more ≡ found → (behind : List ℕ) × (lines : List (List ℕ)) × (lines_of (octet ∷ more) ≡ (octet ∷ behind) ∷ lines)
    step [] is = ([], [], ap (with_octet octet) is ∙ with_octet-other octet [] whole.0)
    step (first ∷ lines) is = (first, lines, ap (with_octet octet) is ∙ with_octet-other octet (first ∷ lines) whole.0)
lines_of-front (octet ∷ next ∷ front) more whole some =
    let found = lines_of-front (next ∷ front) more whole.1 (λ none. let e = none in cc) in
    (found.0, found.1, ap (with_octet octet) found.2 ∙ with_octet-other octet ((next ∷ (front ++ found.0)) ∷ found.1) whole.0)

-- Octets without LF are one line.
pub lines_of-last : (line : List ℕ) → IsUnbroken line → line ≢ [] → lines_of line ≡ line ∷ []
lines_of-last [] whole some = absurd (some refl)
lines_of-last (octet ∷ []) whole some = with_octet-other octet [] whole.0
lines_of-last (octet ∷ next ∷ line) whole some =
    ap (with_octet octet) (lines_of-last (next ∷ line) whole.1 (λ none. let e = none in cc)) ∙ with_octet-other octet ((next ∷ line) ∷ []) whole.0
