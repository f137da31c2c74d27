-- A text and its lines.
use Rattle.std.proofs.Common.{◌≡◌, ◌≢◌, ◌==◌, inl, inr, ℕ, List, [], ◌∷◌, ◌++◌, refl, sym, ap, subst, ◌∙◌, append-nil, Bool, true, false, if◌then◌else◌}
use Rattle.std.specs.List.{AllByRecursion}
use Rattle.bac_record.proofs.Appended.{front_all, next_all}
use Rattle.bac_pack.specs.Lines.{LF, in_first, lines_of, ended, IsUnbroken, IsText}
use Rattle.bac_pack.proofs.LineEnds.{is_end, is_other}
use Rattle.bac_pack.proofs.LineLists.{lines_of-ended, lines_of-last}

first_unbroken : (octet : ℕ) (lines : List (List ℕ)) → octet ≢ LF → AllByRecursion IsUnbroken lines → AllByRecursion IsUnbroken (in_first octet lines)
first_unbroken octet [] other each = ((other, tt), tt)
first_unbroken octet (line ∷ lines) other each = ((other, each.0), each.1)

pub unbroken : (text : List ℕ) → AllByRecursion IsUnbroken (lines_of text)
unbroken [] = tt
unbroken (octet ∷ text) = step (octet == LF) refl (unbroken text)
  where
    step : (b : Bool) → (octet == LF) ≡ b → AllByRecursion IsUnbroken (lines_of text) → AllByRecursion IsUnbroken (if b then [] ∷ lines_of text else in_first octet (lines_of text))
    step true e each = (tt, each)
    step false e each = first_unbroken octet (lines_of text) (is_other octet e) each

-- LF in front of a text
text_of_end : (octet : ℕ) (lines : List (List ℕ)) (text : List ℕ) → octet ≡ LF → IsText lines text → IsText ([] ∷ lines) (octet ∷ text)
text_of_end octet lines text is (inl whole) = inl (let e : octet ∷ text ≡ LF ∷ ended lines = cc in e)
text_of_end octet lines text is (inr part) =
    inr ([] ∷ part.0, part.1, ap (λ (l : List (List ℕ)). [] ∷ l) part.2, part.3, (let e : octet ∷ text ≡ LF ∷ (ended part.0 ++ part.1) = cc (is, part.4) in e))

-- another octet in front of a text
text_of_other : (octet : ℕ) (lines : List (List ℕ)) (text : List ℕ) → IsText lines text → IsText (in_first octet lines) (octet ∷ text)
text_of_other octet [] text (inl whole) = inr ([], octet ∷ [], refl, (λ none. let e = none in cc), ap (λ (l : List ℕ). octet ∷ l) whole)
text_of_other octet [] text (inr part) = absurd (none part.0 part.2)
  where
    none : (front : List (List ℕ)) → [] ≡ front ++ part.1 ∷ [] → ⊥
    none [] e = cc
    none (line ∷ front) e = cc
text_of_other octet (line ∷ lines) text (inl whole) = inl (ap (λ (l : List ℕ). octet ∷ l) whole)
text_of_other octet (line ∷ lines) text (inr part) = step part.0 part.2 part.4
  where
    step : (front : List (List ℕ)) → line ∷ lines ≡ front ++ part.1 ∷ [] → text ≡ ended front ++ part.1 → IsText ((octet ∷ line) ∷ lines) (octet ∷ text)
    step [] e t =
        let same : line ≡ part.1 = cc in
        let none : lines ≡ [] = cc in
        inr ([], octet ∷ part.1, (let f : (octet ∷ line) ∷ lines ≡ (octet ∷ part.1) ∷ [] = cc in f), (λ h. let f = h in cc), ap (λ (l : List ℕ). octet ∷ l) t)
    step (first ∷ front) e t =
        let same : line ≡ first = cc in
        let behind : lines ≡ front ++ part.1 ∷ [] = cc in
        inr ((octet ∷ first) ∷ front, part.1, (let f : (octet ∷ line) ∷ lines ≡ (octet ∷ first) ∷ (front ++ part.1 ∷ []) = cc in f), part.3, ap (λ (l : List ℕ). octet ∷ l) t)

pub is_text : (text : List ℕ) → IsText (lines_of text) text
is_text [] = inl refl
is_text (octet ∷ text) = step (octet == LF) refl (is_text text)
  where
    step : (b : Bool) → (octet == LF) ≡ b → IsText (lines_of text) text → IsText (if b then [] ∷ lines_of text else in_first octet (lines_of text)) (octet ∷ text)
    step true e found = text_of_end octet (lines_of text) text (is_end octet e) found
    step false e found = text_of_other octet (lines_of text) text found

pub unique : (lines : List (List ℕ)) (text : List ℕ) → AllByRecursion IsUnbroken lines → IsText lines text → lines ≡ lines_of text
unique lines text each (inl whole) =
    sym (ap lines_of (whole ∙ sym (append-nil (ended lines))) ∙ lines_of-ended lines [] each ∙ append-nil lines)
unique lines text each (inr part) =
    let both : AllByRecursion IsUnbroken (part.0 ++ part.1 ∷ []) = subst (AllByRecursion IsUnbroken) part.2 each in
    part.2 ∙ sym (ap lines_of part.4 ∙ lines_of-ended part.0 part.1 (front_all IsUnbroken part.0 (part.1 ∷ []) both)
    ∙ ap (λ (l : List (List ℕ)). part.0 ++ l) (lines_of-last part.1 (next_all IsUnbroken part.0 part.1 [] both) part.3))
