-- Reassemblies, as their callers see them, and what one segment does to one.
use Rattle.std.specs.Prelude.{◌≡◌, ◌≢◌, ℕ, Bool, Err, List, refl}
use Rattle.std.specs.Coded.{Coded, code_by, coded×, coded_ℕ, coded_bool, coded_list, coded_option}
use Rattle.bac_segment.specs.declared.keys.Key.{Key}
use Rattle.bac_segment.specs.declared.faults.TakeFault.TheVariants.{OtherKey, DeskFull}
use Rattle.bac_segment.specs.contracts.keys.Key.{the_row}
use Rattle.bac_segment.specs.Deliveries.{Delivery, key_of}
use Rattle.bac_segment.specs.Tables.{Entry, Table, empty_table}
use Rattle.bac_segment.specs.Taking.{Answer, Keeps}

-- A reassembly as a value: a key and a table.
pub record Reassembled : Type 0 where
  pub key : Key
  pub table : Table

-- A new reassembly of a key, which holds nothing.
abbrev pub opened : Key → Reassembled
opened key = record { key = key; table = empty_table }

-- A reassembly may give this answer to a segment, and is the new one afterwards. The answer is OtherKey exactly where
-- the segment is not of the key, and then nothing changes. It is never DeskFull. Any other answer is by Keeps, and
-- the key stays.
abbrev pub Takes : Reassembled → Delivery → Answer → Reassembled → Type 0
Takes old s (Err OtherKey) new = (key_of old.key.peer s ≢ old.key) × (new ≡ old)
Takes old s (Err DeskFull) new = ⊥
Takes old s a new = (key_of old.key.peer s ≡ old.key) × Keeps old.table s a new.table × (new.key ≡ old.key)

-- ---- how the logic stores one: as its key and its places

-- How the logic stores an entry: as its piece and whether others follow.
abbrev pub entry_code : Coded Entry
entry_code = code_by (List ℕ × Bool) (coded× (coded_list coded_ℕ) coded_bool) (λ e. (e.piece, e.more)) (λ p. record { piece = p.0; more = p.1 }) (λ _. refl)

-- How the logic stores a reassembly: as its key and its places.
abbrev pub reassembled_code : Coded Reassembled
reassembled_code = code_by (Key × Table) (coded× the_row.coded (coded_list (coded_option entry_code))) (λ r. (r.key, r.table)) (λ p. record { key = p.0; table = p.1 }) (λ _. refl)
