-- Lemmas on the pieces of octets that begin a frame.
use Rattle.std.proofs.Common.{◌≡◌, ℕ, Bool, true, false, List, ◌++◌, length, refl, subst, inl, inr}
use Rattle.bac_explain.specs.declared.piece.Piece.{Piece}
use Rattle.bac_explain.specs.declared.piece.Kind.TheVariants as kind
use Rattle.bac_explain.specs.declared.cursor.Cursor.{Cursor}
use Rattle.bac_explain.specs.declared.heads.Contents.{Contents}
use Rattle.bac_explain.specs.declared.heads.Contents.TheVariants as contents
use Rattle.bac_explain.specs.Elements.{PutsElements}
use Rattle.bac_explain.specs.Nests.{IsNest}
use Rattle.bac_explain.specs.HeadParts.{head_parts}
use Rattle.bac_explain.specs.Parts.{laid, laid_end}
use Rattle.bac_explain.specs.PutParts.{IsReady}
use Rattle.bac_explain.specs.Room.{Puts}
use Rattle.bac_explain.specs.Fronts.{AreContents, PutsContents, PutsFront, left_pieces}
use Rattle.bac_explain.specs.Known.{PutsKnown}
use Rattle.bac_explain.proofs.RoomLemmas.{puts-append}

-- The tags of a service were put. If it has no production, it is a nest of elements.
pub service-tags : (typed : Bool) (octets : List ℕ) (from to : Cursor) (old new : List Piece) → (typed ≡ false → IsNest octets from.place) → PutsElements typed octets from.place old from.count new to.count
    → to.place ≡ length octets → IsReady (length octets) to → PutsContents contents.Service typed octets from old to new
service-tags true octets from to old new nest put ends ready = record { pieces = put.pieces; are = (put.groups, put.elements); puts = put.puts; ends = ends; ready = ready }
service-tags false octets from to old new nest put ends ready = record { pieces = put.pieces; are = inl (nest refl, (put.groups, put.elements)); puts = put.puts; ends = ends; ready = ready }

-- The octets of a service without a production were put as one piece.
pub service-left : (typed : Bool) (octets : List ℕ) (from to : Cursor) (old new : List Piece) → typed ≡ false → (IsNest octets from.place → ⊥) → Puts (left_pieces kind.Octets octets from.place) old from.count new to.count
    → to.place ≡ length octets → IsReady (length octets) to → PutsContents contents.Service typed octets from old to new
service-left true octets from to old new e none put ends ready = cc
service-left false octets from to old new e none put ends ready = record { pieces = left_pieces kind.Octets octets from.place; are = inr (none, refl); puts = put; ends = ends; ready = ready }

-- The pieces of the head were put, and those of what is after it.
pub front-put : (typed : Bool) (octets : List ℕ) (mid to : Cursor) (old between new : List Piece) (c : Contents) → PutsKnown octets old mid c between → PutsContents c typed octets mid between to new → PutsFront typed octets old to new
front-put typed octets mid to old between new c first put =
    let parts = head_parts first.known in
    let laid_parts = laid (length octets) 0 parts in
    record {
      known = first.known;
      is_known = first.is_known;
      pieces = laid_parts ++ put.pieces;
      front = record {
        behind = put.pieces;
        contents = subst (λ c. AreContents c typed octets (laid_end (length octets) 0 parts) put.pieces) first.after (subst (λ place. AreContents c typed octets place put.pieces) first.head.ends put.are);
        all = refl;
      };
      puts = puts-append laid_parts put.pieces old between new 0 mid.count to.count first.head.puts put.puts;
      ends = put.ends;
      ready = put.ready;
    }
