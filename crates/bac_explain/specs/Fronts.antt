-- The pieces of octets that begin a frame.
use Rattle.std.specs.Prelude.{◌≡◌, ◌⊎◌, ℕ, ◌-◌, Bool, true, false, List, ◌++◌, length}
use Rattle.bac_head.specs.declared.known.Known.{Known}
use Rattle.bac_explain.specs.declared.piece.Piece.{Piece}
use Rattle.bac_explain.specs.declared.piece.Kind.{Kind}
use Rattle.bac_explain.specs.declared.piece.Kind.TheVariants as kind
use Rattle.bac_explain.specs.declared.cursor.Cursor.{Cursor}
use Rattle.bac_explain.specs.declared.heads.Contents.{Contents}
use Rattle.bac_explain.specs.declared.heads.Contents.TheVariants as contents
use Rattle.bac_explain.specs.Parts.{part, part_pieces, laid, laid_end}
use Rattle.bac_explain.specs.PutParts.{IsReady}
use Rattle.bac_explain.specs.Elements.{Elements}
use Rattle.bac_explain.specs.Nests.{IsNest}
use Rattle.bac_explain.specs.HeadParts.{head_parts, contents_of}
use Rattle.bac_explain.specs.Known.{IsKnown}
use Rattle.bac_explain.specs.Room.{Puts}

-- The octets that are left from a place on, as one piece of this kind, or no piece if none are left.
abbrev pub left_pieces : Kind → List ℕ → ℕ → List Piece
left_pieces k octets at = part_pieces (length octets) at (part k (length octets - at))

-- The pieces are the tags of the octets from a place on, each with its contents. The service has a production (true) or not.
abbrev pub AreTags : Bool → List ℕ → ℕ → List Piece → Type 0
AreTags typed octets at pieces = (groups : ℕ) × Elements typed octets 0 at pieces groups (length octets)

-- The pieces of a service whose octets begin at a place. If it has a production they are its tags. If not, they are its tags
-- exactly where the octets are elements as an open value has them, and otherwise one piece.
abbrev pub AreOfService : Bool → List ℕ → ℕ → List Piece → Type 0
AreOfService true octets at pieces = AreTags true octets at pieces
AreOfService false octets at pieces = (IsNest octets at × AreTags false octets at pieces) ⊎ ((IsNest octets at → ⊥) × (pieces ≡ left_pieces kind.Octets octets at))

-- The pieces of what is after a head.
abbrev pub AreContents : Contents → Bool → List ℕ → ℕ → List Piece → Type 0
AreContents contents.Service typed octets at pieces = AreOfService typed octets at pieces
AreContents (contents.Octets k) typed octets at pieces = pieces ≡ left_pieces k octets at

-- The pieces of what is after a head were put, up to the end of the octets.
pub record PutsContents (c : Contents) (typed : Bool) (octets : List ℕ) (from : Cursor) (old : List Piece) (to : Cursor) (new : List Piece) : Type 0 where
  pub pieces : List Piece
  pub are : AreContents c typed octets from.place pieces
  pub puts : Puts pieces old from.count new to.count
  pub ends : to.place ≡ length octets
  pub ready : IsReady (length octets) to

-- The pieces of octets of whose head this is known: the parts of the head one after the other, and after them the contents.
pub record IsFront (known : Known) (typed : Bool) (octets : List ℕ) (pieces : List Piece) : Type 0 where
  pub behind : List Piece
  pub contents : AreContents (contents_of known) typed octets (laid_end (length octets) 0 (head_parts known)) behind
  pub all : pieces ≡ laid (length octets) 0 (head_parts known) ++ behind

-- The pieces of octets that begin a frame were put into a room.
pub record PutsFront (typed : Bool) (octets : List ℕ) (old : List Piece) (to : Cursor) (new : List Piece) : Type 0 where
  pub known : Known
  pub is_known : IsKnown octets known
  pub pieces : List Piece
  pub front : IsFront known typed octets pieces
  pub puts : Puts pieces old 0 new to.count
  pub ends : to.place ≡ length octets
  pub ready : IsReady (length octets) to
