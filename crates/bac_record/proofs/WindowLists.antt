-- The front of a buffer.
use Rattle.std.proofs.Common.{◌≡◌, ℕ, ◌-◌, ◌≤◌, List, length, take, drop, arith, length-drop, length-append, length-take}
use borrow.Rule.Slice.PartMut.{put_mid}

-- A written middle keeps the length.
pub length-put_mid : (held : ℕ) (xs ys : List ℕ) → held ≤ length xs → length ys ≡ length (take (length xs - held) (drop held xs)) → length (put_mid held (length xs - held) xs ys) ≡ length xs
length-put_mid held xs ys within same = simp (length-append, length-drop, length-take) (omega (arith, same, length-drop held xs, length-take (length xs - held) (drop held xs)))
