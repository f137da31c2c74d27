-- Parts that are put into a room.
use Rattle.std.specs.Prelude.{◌≡◌, ℕ, ◌+◌, ◌^◌, ◌<◌, ◌≤◌, List}
use Rattle.bac_explain.specs.declared.piece.Piece.{Piece}
use Rattle.bac_explain.specs.declared.cursor.Cursor.{Cursor}
use Rattle.bac_explain.specs.declared.parts.Part.{Part}
use Rattle.bac_explain.specs.Parts.{laid, laid_end}
use Rattle.bac_explain.specs.Room.{Puts}

-- A cursor within octets that end at end. No more pieces were put than there are octets before it.
pub record IsReady (end : ℕ) (cursor : Cursor) : Type 0 where
  pub few : cursor.count ≤ cursor.place
  pub within : cursor.place ≤ end
  pub fits : end + 1 < 2 ^ 64

-- The pieces of parts were put, from one cursor on, and the other one is after them.
pub record PutsParts (parts : List Part) (end : ℕ) (from : Cursor) (old : List Piece) (to : Cursor) (new : List Piece) : Type 0 where
  pub puts : Puts (laid end from.place parts) old from.count new to.count
  pub ends : to.place ≡ laid_end end from.place parts
  pub ready : IsReady end to
