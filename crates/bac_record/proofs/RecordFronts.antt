-- A whole record at the front.
use Rattle.std.proofs.Common.{◌≡◌, ℕ, ◌+◌, ◌-◌, ◌*◌, ◌/◌, ◌%◌, ◌<◌, ◌≤◌, List, [], ◌∷◌, ◌++◌, length, take, drop, get_or, sym, ap, arith, length-take-le, length-drop, take_all, subst, take-append-drop}
use Rattle.bac_record.specs.Records.{LONGEST}
use Rattle.bac_record.specs.Batches.{IsFront}

pub front_is : (s : List ℕ) (n : ℕ) → 2 ≤ length s → get_or s 1 0 < 256 → n ≡ 256 * get_or s 0 0 + get_or s 1 0 → n + 2 ≤ length s → n ≤ LONGEST
    → IsFront (take n (take (length s - 2) (drop 2 s))) s
front_is [] n long low is fits small = absurd (omega arith)
front_is (a ∷ []) n long low is fits small = absurd (omega arith)
front_is (a ∷ b ∷ rest) n long low is fits small =
    let whole : take (length (a ∷ b ∷ rest) - 2) (drop 2 (a ∷ b ∷ rest)) ≡ rest = take_all (length (a ∷ b ∷ rest) - 2) rest (omega arith) in
    let within : n ≤ length rest = omega arith in
    let same : length (take n rest) ≡ n = length-take-le n rest within in
    let high_is : length (take n rest) / 256 ≡ a = omega (arith, same, is, low) in
    let low_is : length (take n rest) % 256 ≡ b = omega (arith, same, is, low) in
    let joined_is : take n rest ++ drop n rest ≡ rest = take-append-drop n rest in
    let front : IsFront (take n rest) (a ∷ b ∷ rest) = (drop n rest, omega arith, cc) in
    subst (λ l. IsFront (take n l) (a ∷ b ∷ rest)) (sym whole) front

pub front_long : (s : List ℕ) (n : ℕ) → n + 2 ≤ length s → length (take n (take (length s - 2) (drop 2 s))) ≡ n
front_long s n fits =
    length-take-le n (take (length s - 2) (drop 2 s)) (omega (arith, length-drop 2 s, ap length (take_all (length s - 2) (drop 2 s) (omega (arith, length-drop 2 s)))))
