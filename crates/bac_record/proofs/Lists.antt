-- IsFront of lists.
use Rattle.std.proofs.Common.{◌≡◌, ℕ, ◌+◌, ◌-◌, ◌≤◌, List, ◌++◌, length, take, drop, arith, sym, ap, ◌∙◌, length-drop, take_all, le_refl}
use Rattle.std.proofs.Common.{slice_range, drop_at, length-take-le}
use Rattle.std.proofs.lemmas.Slice.{take-put_mid_below}
use borrow.Rule.Slice.PartMut.{put_mid, post_of}
use lib.Seq.{take-add, take-append-le}

-- a front, and the front of what lies behind it
pub taken_more : (at n : ℕ) (xs : List ℕ) → take at xs ++ take n (take (length xs - at) (drop at xs)) ≡ take (at + n) xs
taken_more at n xs =
    let whole : take (length xs - at) (drop at xs) ≡ drop at xs = take_all (length xs - at) (drop at xs) (omega (arith, length-drop at xs)) in
    ap (λ l. take at xs ++ take n l) whole ∙ sym (take-add at n xs)

-- a front, and what was put behind it
pub put_behind : (at n : ℕ) (old new put : List ℕ) → at ≤ length old → n ≤ length put → take at new ≡ take at old
    → slice_range new at (at + n) ≡ take n put → take at old ++ take n put ≡ take (at + n) new
put_behind at n old new put within fits front part =
    let same : at + ((at + n) - at) ≡ at + n = omega arith in
    ap (λ l. l ++ take n put) (sym front) ∙ ap (λ l. take at new ++ l) (sym part) ∙ sym (take-add at ((at + n) - at) new) ∙ ap (λ k. take k new) same

pub slice_range-put_mid : (a k n : ℕ) (xs ys : List ℕ) → a ≤ length xs → n ≤ length ys → slice_range (put_mid a k xs ys) a (a + n) ≡ take n ys
slice_range-put_mid a k n xs ys within fits =
    let same : (a + n) - a ≡ n = omega arith in
    let after = post_of a k xs in
    ap (take ((a + n) - a)) (drop_at (take a xs) (ys ++ after) a (length-take-le a xs within)) ∙ ap (λ m. take m (ys ++ after)) same ∙ take-append-le n ys after fits

-- the same where the middle of a list was written
pub put_mid_behind : (at k n : ℕ) (xs ys : List ℕ) → at ≤ length xs → n ≤ length ys → take at xs ++ take n ys ≡ take (at + n) (put_mid at k xs ys)
put_mid_behind at k n xs ys within fits =
    put_behind at n xs (put_mid at k xs ys) ys within fits (take-put_mid_below _ _ _ _ _ (le_refl _) within) (slice_range-put_mid at k n xs ys within fits)
