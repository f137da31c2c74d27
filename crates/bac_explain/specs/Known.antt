-- What is known of the head of octets that begin a frame, and its pieces.
use Rattle.std.specs.Prelude.{◌≡◌, ℕ, List, ◌++◌, length, take}
use Rattle.bac_npdu_parts.specs.Frames.{FrameValue, SpellsFrame}
use Rattle.bac_head.specs.declared.known.Known.{Known}
use Rattle.bac_head.specs.Known.{IsKnownOf, IsWhole, size_of}
use Rattle.bac_head.specs.Reach.{IsReach}
use Rattle.bac_explain.specs.declared.piece.Piece.{Piece}
use Rattle.bac_explain.specs.declared.cursor.Cursor.{Cursor}
use Rattle.bac_explain.specs.declared.heads.Contents.{Contents}
use Rattle.bac_explain.specs.HeadParts.{head_parts, contents_of}
use Rattle.bac_explain.specs.PutParts.{PutsParts}

-- No piece is put yet, and no octet is passed.
abbrev pub start : Cursor
start = record { count = 0; place = 0 }

-- What is known of the head with which octets begin is so of each frame that begins with the octets from which it is known. If
-- the octets spell a frame, all of its head is known. As much is known as the octets tell, and no more.
pub record IsKnown (octets : List ℕ) (known : Known) : Type 0 where
  pub agrees : (f : FrameValue) (more : List ℕ) → SpellsFrame f (take (size_of known) octets ++ more) → IsKnownOf f known
  pub whole : (f : FrameValue) → SpellsFrame f octets → IsWhole known
  pub reach : IsReach octets known

-- The pieces of the head were put as far as it is known, and this is after them.
pub record PutsKnown (octets : List ℕ) (old : List Piece) (to : Cursor) (contents : Contents) (new : List Piece) : Type 0 where
  pub known : Known
  pub is_known : IsKnown octets known
  pub head : PutsParts (head_parts known) (length octets) start old to new
  pub after : contents ≡ contents_of known
