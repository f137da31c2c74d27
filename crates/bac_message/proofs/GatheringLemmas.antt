-- Places that refer to pieces, and the table that they stand for.
use Rattle.std.proofs.Common.{◌≡◌, ◌≤◌, ◌<◌, ◌+◌, ◌-◌, ℕ, zero, suc, Bool, true, false, cond, not, ltb, Option, Some, None, List, [], ◌∷◌, ◌++◌, length, map, take, drop, set, get_or, replicate, refl, sym, ap, subst, ◌∙◌, ◌||◌, ◌&&◌, eqb, arith}
use Rattle.std.specs.Prelude.{is_some, is_none}
use Rattle.std.specs.List.{list_any, position, position_or_len}
use Rattle.std.specs.Option.{option_map, unwrap_or}
use Rattle.std.proofs.lemmas.List.{append-nil, append_assoc, length-append, length-map, length-set, length-replicate, map-set, get_or-map, drop-map, take-map, take_all, length-drop, drop_more}
use Rattle.bac_segment.specs.declared.faults.Taken.{Taken}
use Rattle.bac_segment.specs.Deliveries.{Delivery}
use Rattle.bac_segment.specs.Tables.{Entry, Table, empty_table, is_last, joined, whole, with_segment}
use Rattle.bac_segment.specs.Taking.{entry_at, is_held_above, is_ended_below, may_add}
use Rattle.bac_segment.proofs.HoldingLemmas.{joined-set, joined-split, can_add}
use Rattle.bac_message.specs.declared.gathering.Piece.{Piece}
use Rattle.bac_message.specs.declared.gathering.Gathering.{Gathering}
use Rattle.bac_message.specs.Gathered.{IsGathered, entry_of, first_gap, table_in, table_of}

-- ---- what is read off the places

pub any_some : (ps : List (Option Piece)) → list_any is_some (table_of ps) ≡ list_any is_some ps
any_some [] = refl
any_some (None ∷ ps) = any_some ps
any_some (Some p ∷ ps) = refl

pub any_last : (ps : List (Option Piece)) → list_any is_last (table_of ps) ≡ list_any (λ place. is_last (option_map entry_of place)) ps
any_last [] = refl
any_last (p ∷ ps) = ap (λ (b : Bool). is_last (option_map entry_of p) || b) (any_last ps)

pub above_is : (ps : List (Option Piece)) (n : ℕ) → list_any is_some (drop (n + 1) ps) ≡ is_held_above (table_of ps) n
above_is ps n = sym (any_some (drop (n + 1) ps)) ∙ ap (λ (m : Table). list_any is_some m) (sym (drop-map (option_map entry_of) (n + 1) ps))

pub below_is : (ps : List (Option Piece)) (n : ℕ) → list_any (λ place. is_last (option_map entry_of place)) (take n ps) ≡ is_ended_below (table_of ps) n
below_is ps n = sym (any_last (take n ps)) ∙ ap (λ (m : Table). list_any is_last m) (sym (take-map (option_map entry_of) n ps))

pub entry_is : (ps : List (Option Piece)) (n : ℕ) → n < length ps → entry_at (table_of ps) n ≡ option_map entry_of (get_or ps n None)
entry_is ps n b = get_or-map (option_map entry_of) ps n None None b

pub entry_held : (ps : List (Option Piece)) (n seq : ℕ) (o : Option Piece) → length ps ≡ 256 → n ≡ seq → seq < 256 → get_or ps n None ≡ o → entry_at (table_of ps) seq ≡ option_map entry_of o
entry_held ps n seq o long at small is = ap (λ (k : ℕ). entry_at (table_of ps) k) (sym at) ∙ entry_is ps n (omega (arith, long, at, small)) ∙ ap (option_map entry_of) is

first_none : (ps : List (Option Piece)) → position_or_len is_none (table_of ps) ≡ position_or_len is_none ps
first_none [] = refl
first_none (None ∷ ps) = refl
first_none (Some p ∷ ps) = ap (λ (n : ℕ). 1 + n) (first_none ps)

pub gap_is : (ps : List (Option Piece)) → unwrap_or (position is_none ps) (length ps) ≡ first_gap (table_of ps)
gap_is ps =
    ap (λ (n : ℕ). unwrap_or (cond (ltb n (length ps)) (Some n) None) (length ps)) (sym (first_none ps))
    ∙ ap (λ (n : ℕ). unwrap_or (cond (ltb (position_or_len is_none (table_of ps)) n) (Some (position_or_len is_none (table_of ps))) None) n) (sym (length-map ps (option_map entry_of)))

-- ---- a piece more

pub added_table : (ps : List (Option Piece)) (n : ℕ) (p : Piece) (e : Entry) → entry_of p ≡ e → table_of (set ps n (Some p)) ≡ set (table_of ps) n (Some e)
added_table ps n p e is = map-set (option_map entry_of) ps n (Some p) ∙ ap (λ (x : Entry). set (table_of ps) n (Some x)) is

pub added_octets : (m : Table) (n : ℕ) (e : Entry) → n < length m → entry_at m n ≡ None → length (joined (set m n (Some e))) ≡ length (joined m) + length e.piece
added_octets m n e b free =
    let all = ap (λ (l : List ℕ). length l) (joined-set n m e b free) in
    let first = length-append (joined (take n m)) (e.piece ++ joined (drop n m)) in
    let rest = length-append e.piece (joined (drop n m)) in
    let old = ap (λ (l : List ℕ). length l) (joined-split n m) ∙ length-append (joined (take n m)) (joined (drop n m)) in
    omega (arith, all, first, rest, old)

pub added : (old new : Gathering) (s : Delivery) (n : ℕ) (p : Piece) → IsGathered old → may_add (table_in old) s ≡ true → n ≡ s.seq → n < 256 → entry_of p ≡ record { piece = s.piece; more = s.more }
    → new.places ≡ set old.places n (Some p) → new.total ≡ old.total + length s.piece → IsGathered new × (table_in new ≡ with_segment (table_in old) s)
added old new s n p h adds at small is places total =
    let e : Entry = record { piece = s.piece; more = s.more } in
    let table : table_in new ≡ set (table_in old) n (Some e) = ap table_of places ∙ added_table old.places n p e is in
    let can = can_add (table_in old) s adds in
    let long : length (table_in old) ≡ 256 = length-map old.places (option_map entry_of) ∙ h.places in
    let free : entry_at (table_in old) n ≡ None = ap (λ (k : ℕ). entry_at (table_in old) k) at ∙ can.free in
    let more = added_octets (table_in old) n e (omega (arith, small, long)) free in
    let sum = ap (λ (m : Table). length (joined m)) table in (
      record {
        places = ap (λ (l : List (Option Piece)). length l) places ∙ length-set old.places n (Some p) ∙ h.places;
        total = omega (arith, total, h.total, more, sum);
        small = omega (arith, total, h.total, can.room);
      },
      table ∙ ap (λ (k : ℕ). set (table_in old) k (Some e)) at,
    )

-- ---- pieces one after another

-- so far: the pieces before these are appended, and none of them is the last
pub record IsAppended (m left : Table) (old new : List ℕ) : Type 0 where
  pub front : List ℕ
  pub new_is : new ≡ old ++ front
  pub whole_is : whole m ≡ option_map (λ rest. front ++ rest) (whole left)

pub none_appended : (m : Table) (old : List ℕ) → IsAppended m m old old
none_appended m old = record { front = []; new_is = sym (append-nil old); whole_is = sym (same (whole m)) }
  where
    same : (o : Option (List ℕ)) → option_map (λ rest. [] ++ rest) o ≡ o
    same None = refl
    same (Some l) = refl

-- ---- the two tests before a segment is new

pub early_is : (ps : List (Option Piece)) (n seq : ℕ) (more above : Bool) → length ps ≡ 256 → n ≡ seq → more ≡ false → above ≡ list_any is_some (take (256 - (n + 1)) (drop (n + 1) ps)) → above ≡ (not more && is_held_above (table_of ps) seq)
early_is ps n seq more above long at last is =
    is ∙ ap (λ (l : List (Option Piece)). list_any is_some l) (take_all (256 - (n + 1)) (drop (n + 1) ps) (omega (arith, length-drop (n + 1) ps, long))) ∙ above_is ps n
    ∙ ap (λ (k : ℕ). is_held_above (table_of ps) k) at ∙ ap (λ (b : Bool). not b && is_held_above (table_of ps) seq) (sym last)

pub past_below : (ps : List (Option Piece)) (n seq : ℕ) (below last : Bool) → n ≡ seq → below ≡ true → below ≡ list_any (λ place. is_last (option_map entry_of place)) (take n ps) → below ≡ (is_ended_below (table_of ps) seq || last)
past_below ps n seq below last at set is = set ∙ ap (λ (b : Bool). b || last) (sym set ∙ is ∙ below_is ps n ∙ ap (λ (k : ℕ). is_ended_below (table_of ps) k) at)

pub past_last : (ps : List (Option Piece)) (n seq : ℕ) (below last : Bool) → n ≡ seq → below ≡ false → below ≡ list_any (λ place. is_last (option_map entry_of place)) (take n ps) → last ≡ (is_ended_below (table_of ps) seq || last)
past_last ps n seq below last at unset is = ap (λ (b : Bool). b || last) (sym unset ∙ is ∙ below_is ps n ∙ ap (λ (k : ℕ). is_ended_below (table_of ps) k) at)

pub last_number : (ps : List (Option Piece)) (n seq : ℕ) (below more last other : Bool) → n ≡ seq → below ≡ false → below ≡ list_any (λ place. is_last (option_map entry_of place)) (take n ps) → other ≡ (more && last) → other ≡ (is_ended_below (table_of ps) seq || (more && last))
last_number ps n seq below more last other at unset is e = e ∙ past_last ps n seq below (more && last) at unset is
