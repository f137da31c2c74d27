-- Tags and their contents (clause 20.2.1), as pieces.
use Rattle.std.specs.Prelude.{◌≡◌, ℕ, ◌+◌, ◌-◌, ◌<◌, ◌≤◌, min, Bool, true, false, List, [], ◌∷◌, length, take, drop}
use Rattle.bac_tag.specs.declared.heads.TagHead.{TagHead}
use Rattle.bac_tag.specs.declared.heads.TagHead.TheVariants.{App, AppBool, Ctx, Open, Close}
use Rattle.bac_tag.specs.Spelling.{NoFront}
use Rattle.bac_tag.specs.Heads.{Heads}
use Rattle.bac_explain.specs.declared.piece.Piece.{Piece}
use Rattle.bac_explain.specs.declared.piece.Kind.{Kind}
use Rattle.bac_explain.specs.declared.piece.Kind.TheVariants as kind
use Rattle.bac_explain.specs.Room.{Puts}

-- How many octets of contents a head says.
abbrev pub contents_size : TagHead → ℕ
contents_size (App number len) = len
contents_size (AppBool value) = 0
contents_size (Ctx number len) = len
contents_size (Open number) = 0
contents_size (Close number) = 0

-- The kind of a piece with a head, in a service with a production (true) or in one without.
abbrev pub element_kind : Bool → TagHead → Kind
element_kind true head = kind.Element head
element_kind false head = kind.Unjudged head

-- How many groups are open after a head, if so many are open before it.
abbrev pub depth_after_head : ℕ → TagHead → ℕ
depth_after_head depth (Open number) = depth + 1
depth_after_head depth (Close number) = depth - 1
depth_after_head depth _ = depth

-- How many groups are open after a piece, if so many are open before it.
abbrev pub depth_behind : ℕ → Kind → ℕ
depth_behind depth (kind.Element head) = depth_after_head depth head
depth_behind depth (kind.Unjudged head) = depth_after_head depth head
depth_behind depth _ = depth

-- How many groups are around a head. A closing tag is beside its opening tag.
abbrev pub depth_around : ℕ → TagHead → ℕ
depth_around depth (Close number) = depth - 1
depth_around depth _ = depth

-- The piece begins with a tag head of the octets. The contents that the head says follow, or all octets that are left if these
-- are fewer.
pub record IsTagged (octets : List ℕ) (depth : ℕ) (head : TagHead) (p : Piece) : Type 0 where
  pub spelled : Heads head (take p.head (drop p.place octets))
  pub long : p.length ≡ p.head + min (contents_size head) (length octets - (p.place + p.head))
  pub around : p.depth ≡ depth_around depth head

-- No tag head begins the octets from the piece on, and the piece is all of them.
pub record IsBegun (octets : List ℕ) (depth : ℕ) (p : Piece) : Type 0 where
  pub none : NoFront Heads (drop p.place octets)
  pub headless : p.head ≡ 0
  pub long : p.length ≡ length octets - p.place
  pub around : p.depth ≡ depth

-- The piece is what its kind says: a tag head with its contents, in a service with a production (true) or in one without, or
-- octets that begin with no head.
abbrev pub IsOfKind : Bool → List ℕ → ℕ → Piece → Kind → Type 0
IsOfKind typed octets depth p (kind.Element head) = (typed ≡ true) × IsTagged octets depth head p
IsOfKind typed octets depth p (kind.Unjudged head) = (typed ≡ false) × IsTagged octets depth head p
IsOfKind typed octets depth p kind.Octets = IsBegun octets depth p
IsOfKind typed octets depth p _ = ⊥

-- The piece is that of the octets at a place at which so many groups are open.
pub record IsElement (typed : Bool) (octets : List ℕ) (depth at : ℕ) (p : Piece) : Type 0 where
  pub begins : p.place ≡ at
  pub some : 0 < p.length
  pub within : at + p.length ≤ length octets
  pub of_kind : IsOfKind typed octets depth p p.kind

-- The pieces are those of the octets from one place up to another, one after the other. So many groups are open at the first
-- place, and so many at the last.
abbrev pub Elements : Bool → List ℕ → ℕ → ℕ → List Piece → ℕ → ℕ → Type 0
Elements typed octets depth at [] last end = (last ≡ depth) × (end ≡ at)
Elements typed octets depth at (p ∷ ps) last end = IsElement typed octets depth at p × Elements typed octets (depth_behind depth p.kind) (at + p.length) ps last end

-- The pieces of all octets from a place on were put into a room.
pub record PutsElements (typed : Bool) (octets : List ℕ) (at : ℕ) (old : List Piece) (from : ℕ) (new : List Piece) (to : ℕ) : Type 0 where
  pub pieces : List Piece
  pub groups : ℕ
  pub elements : Elements typed octets 0 at pieces groups (length octets)
  pub puts : Puts pieces old from new to
