-- Desks, as their callers see them. A desk is the list of its open keys, in the order of their opening, each with
-- what it holds.
use Rattle.std.specs.Prelude.{◌≡◌, ◌≤◌, ◌==◌, ◌&&◌, nat_le, ℕ, suc, Bool, true, false, if◌then◌else◌, Option, Some, None, is_some, is_none, Ok, Err, List, [], ◌∷◌, length}
use Rattle.std.specs.Option.{option_map, unwrap_or}
use Rattle.std.specs.List.{AllByRecursion}
use mathlib.Core.Bool.{beq}
use Rattle.bac_segment.specs.declared.keys.Key.{Key}
use Rattle.bac_segment.specs.declared.faults.TakeFault.TheVariants.{OtherKey, DeskFull}
use Rattle.bac_segment.specs.Deliveries.{Delivery, key_of}
use Rattle.bac_segment.specs.Tables.{Table, empty_table, holds_any}
use Rattle.bac_segment.specs.Taking.{Answer, Keeps, with_next}
use Rattle.bac_segment.specs.Reassembled.{Reassembled}

-- True if two keys have the same sender, kind, invoke id and choice.
abbrev pub same_key : Key → Key → Bool
same_key a b = a.peer == b.peer && (beq a.request b.request && (a.invoke == b.invoke && a.choice == b.choice))

-- The place of a key in a desk, or none if the key is not open.
abbrev pub place_of : List Reassembled → Key → Option ℕ
place_of [] k = None
place_of (r ∷ rs) k = if same_key r.key k then Some 0 else option_map (λ i. suc i) (place_of rs k)

-- What is held of a key, or none if the key is not open.
abbrev pub table_of_key : List Reassembled → Key → Option Table
table_of_key [] k = None
table_of_key (r ∷ rs) k = if same_key r.key k then Some r.table else table_of_key rs k

-- True if the key is open.
abbrev pub is_open : List Reassembled → Key → Bool
is_open rs k = is_some (table_of_key rs k)

-- What is held of a key, which is nothing if the key is not open.
abbrev pub held_of : List Reassembled → Key → Table
held_of rs k = unwrap_or (table_of_key rs k) empty_table

-- True if the key is not open and eight others are.
abbrev pub is_full_for : List Reassembled → Key → Bool
is_full_for rs k = is_none (table_of_key rs k) && nat_le 8 (length rs)

-- The list in which the key holds the table. A key that was not open comes last.
abbrev pub put : List Reassembled → Key → Table → List Reassembled
put [] k m = record { key = k; table = m } ∷ []
put (r ∷ rs) k m = if same_key r.key k then record { key = k; table = m } ∷ rs else r ∷ put rs k m

-- The list without the key.
abbrev pub closed : List Reassembled → Key → List Reassembled
closed [] k = []
closed (r ∷ rs) k = if same_key r.key k then closed rs k else r ∷ closed rs k

-- No key is open twice.
abbrev pub AreApart : List Reassembled → Type 0
AreApart [] = Unit {0}
AreApart (r ∷ rs) = (table_of_key rs r.key ≡ None) × AreApart rs

-- The list is a desk: no key is open twice, and at most eight are open.
pub record IsDesk (rs : List Reassembled) : Type 0 where
  pub apart : AreApart rs
  pub few : length rs ≤ 8

-- Something is held of each open key, in a table of 256 places.
abbrev pub AreUsed : List Reassembled → Type 0
AreUsed rs = AllByRecursion (λ r. (length r.table ≡ 256) × (holds_any r.table ≡ true)) rs

-- A desk may give this answer to a segment of this sender, and is the new one afterwards. The answer is DeskFull
-- exactly where the key of the segment is not open and eight others are. It is never OtherKey. Any other answer is by
-- Keeps of what is held of the key, and no other key changes. After each fault nothing changes.
abbrev pub DeskTakes : List Reassembled → ℕ → Delivery → Answer → List Reassembled → Type 0
DeskTakes old peer s (Err DeskFull) new = (is_full_for old (key_of peer s) ≡ true) × (new ≡ old)
DeskTakes old peer s (Err OtherKey) new = ⊥
DeskTakes old peer s (Err fault) new =
    (is_full_for old (key_of peer s) ≡ false)
    × Keeps (held_of old (key_of peer s)) s (Err fault) (held_of old (key_of peer s))
    × (new ≡ old)
DeskTakes old peer s (Ok taken) new =
    (is_full_for old (key_of peer s) ≡ false)
    × Keeps (held_of old (key_of peer s)) s (Ok taken) (with_next (held_of old (key_of peer s)) s)
    × (new ≡ put old (key_of peer s) (with_next (held_of old (key_of peer s)) s))
