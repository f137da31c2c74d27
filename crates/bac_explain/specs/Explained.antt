-- The pieces of octets as a frame.
use Rattle.std.specs.Prelude.{◌≡◌, ℕ, ◌≤◌, Bool, true, List, [], ◌++◌, length, take, drop}
use Rattle.std.specs.List.{AllByRecursion}
use Rattle.bac_head.specs.declared.known.Known.{Known}
use Rattle.bac_explain.specs.declared.piece.Piece.{Piece}
use Rattle.bac_explain.specs.declared.piece.Kind.{Kind}
use Rattle.bac_explain.specs.declared.piece.Kind.TheVariants as kind
use Rattle.bac_explain.specs.declared.verdict.Verdict.{Verdict}
use Rattle.bac_explain.specs.declared.verdict.Verdict.TheVariants.{Accepted, Refused}
use Rattle.bac_explain.specs.Elements.{IsTagged}
use Rattle.bac_explain.specs.Fronts.{IsFront}
use Rattle.bac_explain.specs.Known.{IsKnown}
use Rattle.bac_explain.specs.Refusals.{refusal_pieces}
use Rattle.bac_explain.specs.Room.{with_pieces}
use Rattle.bac_explain.specs.Tiles.{Tiles}

-- The place of a refusal is within so many octets, or at their end.
abbrev pub IsWithin : ℕ → Verdict → Type 0
IsWithin count (Accepted mark typed) = Unit {0}
IsWithin count (Refused refusal) = refusal.place ≤ count

-- The octets that begin a frame: all that are accepted, or those before the place of the refusal.
abbrev pub front_of : List ℕ → Verdict → List ℕ
front_of octets (Accepted mark typed) = octets
front_of octets (Refused refusal) = take refusal.place octets

-- Whether the service has a production. A service without one takes any octets. So it has one where octets of it are refused.
abbrev pub typed_of : Verdict → Bool
typed_of (Accepted mark typed) = typed
typed_of (Refused refusal) = true

-- The pieces after those that begin a frame: none, or the octet at the place of the refusal and the octets after it.
abbrev pub pieces_behind : ℕ → Verdict → List Piece
pieces_behind count (Accepted mark typed) = []
pieces_behind count (Refused refusal) = refusal_pieces count refusal

-- What a piece of this kind has of tag heads. With a head in its kind, it begins with octets that spell this head, as read_head
-- reads them, and has the contents that the head says, or all octets that are left. With no head in its kind it has none.
abbrev pub ReadsHead : List ℕ → Piece → Kind → Type 0
ReadsHead octets p (kind.Element head) = (groups : ℕ) × IsTagged octets groups head p
ReadsHead octets p (kind.Unjudged head) = (groups : ℕ) × IsTagged octets groups head p
ReadsHead octets p _ = p.head ≡ 0

-- The pieces of octets of which this is said. They cover the octets. Those with a tag head say what is read there. The first ones
-- are those of the octets that begin a frame, by what is known of its head. The last ones are those of the refusal.
pub record Explains (octets : List ℕ) (verdict : Verdict) (pieces : List Piece) : Type 0 where
  pub tiles : Tiles 0 pieces (length octets)
  pub heads : AllByRecursion (λ p. ReadsHead (front_of octets verdict) p p.kind) pieces
  pub known : Known
  pub is_known : IsKnown (front_of octets verdict) known
  pub front : List Piece
  pub is_front : IsFront known (typed_of verdict) (front_of octets verdict) front
  pub all : pieces ≡ front ++ pieces_behind (length octets) verdict

-- So many pieces were written at the front of a room, if they fit. The rest of the room is as it was. If they do not fit, those
-- that do are written (with_pieces).
pub record IsWritten (pieces old new : List Piece) (count : ℕ) : Type 0 where
  pub counted : count ≡ length pieces
  pub written : count ≤ length old → new ≡ pieces ++ drop count old
  pub fitting : new ≡ with_pieces old 0 pieces
