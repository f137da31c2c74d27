-- Which numbers are there.
use Rattle.std.proofs.Common.{◌≡◌, ℕ, ◌<◌, ◌≤◌, Bool, ltb, cond, true, false, not, ◌||◌, eqb, Option, Some, None, List, [], ◌∷◌, ◌++◌, length, get_or, set, replicate, refl, sym, ap, ◌∙◌, arith}
use Rattle.std.specs.List.{cons_option, position, position_or_len}
use Rattle.std.specs.Option.{unwrap_or}
use Rattle.std.proofs.lemmas.Bool.{eqb-true, eq-eqb, ne_eqb, ltb-true, ltb-false}
use Rattle.std.proofs.lemmas.List.{get_or-set_same, get_or-set_other, get_or-replicate, append-nil, length-set, length-replicate}
use Rattle.std.proofs.lemmas.List.Sums.{fails_before_first, passes_at_first}
use Rattle.std.proofs.lemmas.List.Folds.{list_any-append}
use Rattle.std.proofs.lemmas.List.Elements.{filter_map-append}
use Rattle.bac_npdu_parts.specs.Frames.{FrameValue}
use Rattle.bac_segment.specs.Deliveries.{Delivery}
use Rattle.bac_message.specs.Messages.{delivered, segments_in}
use Rattle.bac_message.specs.JoinedFrames.{has_number, IsFirstMissing}

-- the marks are those of the segments in the frames
pub record AreMarks (there : List Bool) (frames : List FrameValue) : Type 0 where
  pub places : length there ≡ 256
  pub marks : (q : ℕ) → q < 256 → get_or there q false ≡ has_number (segments_in frames) q
  pub numbers : (q : ℕ) → 256 ≤ q → has_number (segments_in frames) q ≡ false

or_true : (a : Bool) → (a || true) ≡ true
or_true true = refl
or_true false = refl

or_no : (a : Bool) → (a || false) ≡ a
or_no true = refl
or_no false = refl

number_more : (xs : List FrameValue) (f : FrameValue) (s : Delivery) (q : ℕ) → delivered f ≡ Some s → has_number (segments_in (xs ++ f ∷ [])) q ≡ (has_number (segments_in xs) q || eqb s.seq q)
number_more xs f s q e =
    ap (λ (l : List Delivery). has_number l q) (filter_map-append delivered xs (f ∷ []) ∙ ap (λ (o : Option Delivery). segments_in xs ++ cons_option o []) e)
    ∙ list_any-append (λ (d : Delivery). eqb d.seq q) (segments_in xs) (s ∷ []) ∙ ap (λ (b : Bool). has_number (segments_in xs) q || b) (or_no (eqb s.seq q))

pub marks_more : (old new : List Bool) (xs : List FrameValue) (f : FrameValue) (s : Delivery) (n : ℕ) → AreMarks old xs → delivered f ≡ Some s → n ≡ s.seq → n < 256 → new ≡ set old n true → AreMarks new (xs ++ f ∷ [])
marks_more old new xs f s n h e is small set_is = record {
  places = ap (λ (l : List Bool). length l) set_is ∙ length-set old n true ∙ h.places;
  marks = λ q b. by_number q b (eqb s.seq q) refl;
  numbers = λ q i. number_more xs f s q e ∙ ap (λ (x : Bool). x || eqb s.seq q) (h.numbers q i) ∙ ne_eqb s.seq q (λ k. omega (arith, k, i, is, small));
}
  where
    by_number : (q : ℕ) → q < 256 → (b : Bool) → eqb s.seq q ≡ b → get_or new q false ≡ has_number (segments_in (xs ++ f ∷ [])) q
    by_number q b true i =
        let at : q ≡ n = sym (eqb-true s.seq q i) ∙ sym is in
        ap (λ (l : List Bool). get_or l q false) set_is ∙ ap (λ (k : ℕ). get_or (set old n true) k false) at
        ∙ get_or-set_same old n true false (omega (arith, small, h.places)) ∙ sym (or_true (has_number (segments_in xs) q))
        ∙ ap (λ (x : Bool). has_number (segments_in xs) q || x) (sym i) ∙ sym (number_more xs f s q e)
    by_number q b false i =
        ap (λ (l : List Bool). get_or l q false) set_is ∙ get_or-set_other old n q true false (λ k. let j : true ≡ false = sym (eq-eqb s.seq q (sym is ∙ sym k)) ∙ i in cc)
        ∙ h.marks q b ∙ sym (or_no (has_number (segments_in xs) q)) ∙ ap (λ (x : Bool). has_number (segments_in xs) q || x) (sym i) ∙ sym (number_more xs f s q e)

pub marks_kept : (there : List Bool) (xs : List FrameValue) (f : FrameValue) → AreMarks there xs → delivered f ≡ None → AreMarks there (xs ++ f ∷ [])
marks_kept there xs f h e =
    let same : segments_in (xs ++ f ∷ []) ≡ segments_in xs = filter_map-append delivered xs (f ∷ []) ∙ ap (λ (o : Option Delivery). segments_in xs ++ cons_option o []) e ∙ append-nil (segments_in xs) in
    record {
      places = h.places;
      marks = λ q b. h.marks q b ∙ ap (λ (l : List Delivery). has_number l q) (sym same);
      numbers = λ q i. ap (λ (l : List Delivery). has_number l q) same ∙ h.numbers q i;
    }

pub no_marks : (there : List Bool) → there ≡ replicate 256 false → AreMarks there []
no_marks there is = record {
  places = ap (λ (l : List Bool). length l) is ∙ length-replicate 256 false;
  marks = λ q b. ap (λ (l : List Bool). get_or l q false) is ∙ get_or-replicate 256 q false false b;
  numbers = λ q i. refl;
}

not_true : (b : Bool) → not b ≡ true → b ≡ false
not_true true h = let i : false ≡ true = h in cc
not_true false h = refl

not_false : (b : Bool) → not b ≡ false → b ≡ true
not_false true h = refl
not_false false h = let i : true ≡ false = h in cc

pub first_is : (there : List Bool) (frames : List FrameValue) (n : ℕ) → AreMarks there frames → n ≡ unwrap_or (position (λ b. not b) there) 256 → IsFirstMissing (segments_in frames) n
first_is there frames n h is = by_found (ltb (position_or_len (λ b. not b) there) (length there)) refl is
  where
    -- a number before the first that is false
    before : (q : ℕ) → q < 256 → q < position_or_len (λ b. not b) there → has_number (segments_in frames) q ≡ true
    before q small b = sym (h.marks q small) ∙ not_false (get_or there q false) (fails_before_first (λ b. not b) there q false b)

    by_found : (b : Bool) → ltb (position_or_len (λ b. not b) there) (length there) ≡ b → n ≡ unwrap_or (cond b (Some (position_or_len (λ b. not b) there)) None) 256 → IsFirstMissing (segments_in frames) n
    by_found true e i =
        let found = ltb-true (position_or_len (λ b. not b) there) (length there) e in
        let small : n < 256 = omega (arith, found, i, h.places) in
        record {
          missing = sym (h.marks n small) ∙ ap (λ (k : ℕ). get_or there k false) i ∙ not_true (get_or there (position_or_len (λ b. not b) there) false) (passes_at_first (λ b. not b) there false found);
          others = λ q b. before q (omega (arith, b, small)) (omega (arith, b, i));
        }
    by_found false e i =
        let none = ltb-false (position_or_len (λ b. not b) there) (length there) e in
        record {
          missing = h.numbers n (omega (arith, i));
          others = λ q b. before q (omega (arith, b, i)) (omega (arith, b, i, none, h.places));
        }
