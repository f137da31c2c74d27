-- Lemmas on what is put into a room.
use Rattle.std.proofs.Common.{◌≡◌, ◌≤◌, ◌<◌, ℕ, suc, ◌+◌, List, [], ◌∷◌, ◌++◌, length, take, drop, refl, sym, ap, ◌∙◌, inl, inr, append_assoc, append-nil, arith}
use Rattle.std.proofs.Math.ListN.{set, length-append}
use Rattle.std.proofs.Math.Seq.{take-append_seam}
use Rattle.std.specs.Prelude.{nat_lt}
use Rattle.std.proofs.lemmas.Bool.{cases_lt, cond-false, cond-true, le-ltb, lt-ltb}
use Rattle.std.proofs.lemmas.List.{take-append-drop, take_all, take_more_set, drop_all, drop-set-lt, length-set, length-take-le}
use Rattle.bac_explain.specs.declared.piece.Piece.{Piece}
use Rattle.bac_explain.specs.Room.{with_piece, with_pieces, Puts}

-- Pieces, and then others, are all of them.
pub with_pieces-append : (room : List Piece) (at : ℕ) (ps qs : List Piece) (to : ℕ) → to ≡ at + length ps → with_pieces (with_pieces room at ps) to qs ≡ with_pieces room at (ps ++ qs)
with_pieces-append room at [] qs to e = let f : to ≡ at = omega (arith, e) in ap (λ n. with_pieces room n qs) f
with_pieces-append room at (p ∷ ps) qs to e = with_pieces-append (with_piece room at p) (at + 1) ps qs to (omega (arith, e))

-- What was put, and then others, is all of it.
pub puts-append : (ps qs old mid new : List Piece) (from at to : ℕ) → Puts ps old from mid at → Puts qs mid at new to → Puts (ps ++ qs) old from new to
puts-append ps qs old mid new from at to first second = record {
  room = second.room ∙ (ap (λ room. with_pieces room at qs) first.room ∙ with_pieces-append old from ps qs at first.count);
  count = omega (arith, first.count, second.count, length-append ps qs);
}

-- One piece more.
one_more : (room new : List Piece) (at m : ℕ) (p : Piece) (ps : List Piece) → at < length room → m ≡ length ps → new ≡ take (at + 1) (with_piece room at p) ++ (ps ++ drop ((at + 1) + m) (with_piece room at p)) → new ≡ take at room ++ ((p ∷ ps) ++ drop (at + suc m) room)
one_more room new at m p ps lt e is =
    let stored : with_piece room at p ≡ set room at p = cond-true (nat_lt at (length room)) (set room at p) room (lt-ltb at (length room) lt) in
    let rest : drop ((at + 1) + m) (set room at p) ≡ drop (at + suc m) room =
    ap (λ n. drop n (set room at p)) (let n : (at + 1) + m ≡ at + suc m = omega arith in n) ∙ drop-set-lt (at + suc m) room at p (omega arith) in
    is ∙ ap (λ r. take (at + 1) r ++ (ps ++ drop ((at + 1) + m) r)) stored ∙ ap (λ r. take (at + 1) (set room at p) ++ (ps ++ r)) rest
    ∙ ap (λ r. r ++ (ps ++ drop (at + suc m) room)) (take_more_set room at p lt) ∙ append_assoc (take at room) (p ∷ []) (ps ++ drop (at + suc m) room)

-- Pieces that fit are one after the other, and what was before and behind them stays.
with_pieces-at : (room : List Piece) (at : ℕ) (ps : List Piece) → at + length ps ≤ length room → with_pieces room at ps ≡ take at room ++ (ps ++ drop (at + length ps) room)
with_pieces-at room at [] fit = sym (ap (λ n. take at room ++ drop n room) (let n : at + 0 ≡ at = omega arith in n) ∙ take-append-drop at room)
with_pieces-at room at (p ∷ ps) fit =
    let lt : at < length room = omega arith in
    let stored : with_piece room at p ≡ set room at p = cond-true (nat_lt at (length room)) (set room at p) room (lt-ltb at (length room) lt) in
    one_more room _ at (length ps) p ps lt refl (with_pieces-at (with_piece room at p) (at + 1) ps (omega (arith, ap length stored, length-set room at p)))

-- Pieces that fit are at the front of the room.
pub with_pieces-fit : (room : List Piece) (ps : List Piece) (count : ℕ) → count ≡ length ps → count ≤ length room → with_pieces room 0 ps ≡ ps ++ drop count room
with_pieces-fit room ps count e fit = with_pieces-at room 0 ps (omega (arith, e)) ∙ ap (λ n. ps ++ drop n room) (let n : 0 + length ps ≡ count = omega (arith, e) in n)

-- Pieces behind a room are not written.
with_pieces-behind : (room : List Piece) (at : ℕ) (ps : List Piece) → length room ≤ at → with_pieces room at ps ≡ room
with_pieces-behind room at [] le = refl
with_pieces-behind room at (p ∷ ps) le =
    let stays : with_piece room at p ≡ room = cond-false (nat_lt at (length room)) (set room at p) room (le-ltb at (length room) le) in
    ap (λ r. with_pieces r (at + 1) ps) stays ∙ with_pieces-behind room (at + 1) ps (omega (arith, le))

-- Of pieces that do not fit, the first ones fill the room.
with_pieces-full : (room : List Piece) (ps : List Piece) → length room ≤ length ps → with_pieces room 0 ps ≡ take (length room) ps
with_pieces-full room ps le =
    let most = length room in
    let front = take most ps in
    let size : length front ≡ most = length-take-le most ps le in
    let filled : with_pieces room 0 front ≡ front = with_pieces-fit room front most (sym size) (omega arith) ∙ ap (λ z. front ++ z) (drop_all most room (omega arith)) ∙ append-nil front in
    ap (λ qs. with_pieces room 0 qs) (sym (take-append-drop most ps)) ∙ sym (with_pieces-append room 0 front (drop most ps) most (omega (arith, size)))
    ∙ ap (λ r. with_pieces r most (drop most ps)) filled ∙ with_pieces-behind front most (drop most ps) (omega (arith, size))

-- The pieces that were put into a room, as far as it is long enough, are the first of all.
pub with_pieces-first : (room : List Piece) (ps : List Piece) → take (length ps) (with_pieces room 0 ps) ≡ take (length room) ps
with_pieces-first room ps = elim (cases_lt (length room) (length ps)) [
  | inl full ↦
      let le : length room ≤ length ps = omega (arith, full) in
      ap (λ r. take (length ps) r) (with_pieces-full room ps le) ∙ take_all (length ps) (take (length room) ps) (omega (arith, le, length-take-le (length room) ps le))
  | inr fit ↦ ap (λ r. take (length ps) r) (with_pieces-fit room ps (length ps) refl fit) ∙ take-append_seam ps (drop (length ps) room) ∙ sym (take_all (length room) ps fit)
]
