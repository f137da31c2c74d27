-- Lemmas on the pieces of tags.
use Rattle.std.proofs.Common.{◌≡◌, ◌≤◌, ◌<◌, ℕ, ◌+◌, ◌-◌, min, Bool, true, false, List, [], ◌∷◌, ◌++◌, length, take, drop, refl, ap, arith, subst, sym, ◌∙◌, length-append, length-drop}
use Rattle.std.proofs.lemmas.List.{length-take}
use Rattle.bac_tag.specs.declared.heads.TagHead.{TagHead}
use Rattle.bac_tag.specs.declared.heads.TagHead.TheVariants.{Open, Close}
use Rattle.bac_tag.specs.Heads.{Heads}
use Rattle.bac_tag.specs.Spelling.{Takes, NoFront}
use Rattle.bac_explain.specs.declared.piece.Kind.{Kind}
use Rattle.bac_explain.specs.declared.piece.Kind.TheVariants as kind
use Rattle.bac_explain.specs.declared.piece.Piece.{Piece}
use Rattle.bac_explain.specs.Room.{Puts}
use Rattle.bac_explain.specs.Elements.{Elements, IsElement, IsTagged, IsOfKind, contents_size, element_kind, depth_around, depth_after_head, depth_behind}
use Rattle.bac_explain.proofs.RoomLemmas.{puts-append}

-- Pieces of the octets up to a place were put, and so many groups are open there. No more were put than there are octets.
pub record IsWalked (typed : Bool) (octets : List ℕ) (at : ℕ) (old : List Piece) (from depth end : ℕ) (new : List Piece) (to : ℕ) : Type 0 where
  pub pieces : List Piece
  pub elements : Elements typed octets 0 at pieces depth end
  pub puts : Puts pieces old from new to
  pub within : end ≤ length octets
  pub few : to ≤ end
  pub shallow : depth ≤ end

-- Nothing was put yet.
pub walked-none : (typed : Bool) (octets : List ℕ) (at : ℕ) (room : List Piece) (count : ℕ) → count ≤ at → at ≤ length octets → IsWalked typed octets at room count 0 at room count
walked-none typed octets at room count few within = record {
  pieces = [];
  elements = (refl, refl);
  puts = record { room = refl; count = omega arith };
  within = within;
  few = few;
  shallow = omega arith;
}

-- One more piece, of those up to a place.
pub elements-more : (typed : Bool) (octets : List ℕ) (depth at : ℕ) (ps : List Piece) (last end : ℕ) (p : Piece) → Elements typed octets depth at ps last end → IsElement typed octets last end p
    → Elements typed octets depth at (ps ++ p ∷ []) (depth_behind last p.kind) (end + p.length)
elements-more typed octets depth at [] last end p (d, e) is =
    (subst (λ place. IsElement typed octets depth place p) e (subst (λ groups. IsElement typed octets groups end p) d is), (ap (λ groups. depth_behind groups p.kind) d, ap (λ place. place + p.length) e))
elements-more typed octets depth at (q ∷ ps) last end p (first, others) is = (first, elements-more typed octets (depth_behind depth q.kind) (at + q.length) ps last end p others is)

-- One more piece was put.
pub walked-more : (typed : Bool) (octets : List ℕ) (at : ℕ) (old : List Piece) (from depth end : ℕ) (mid : List Piece) (count : ℕ) (p : Piece) (groups last : ℕ) (new : List Piece) (to : ℕ)
    → IsWalked typed octets at old from depth end mid count → IsElement typed octets depth end p → groups ≡ depth_behind depth p.kind → last ≡ p.place + p.length → Puts (p ∷ []) mid count new to
    → groups ≤ depth + 1 → IsWalked typed octets at old from groups last new to
walked-more typed octets at old from depth end mid count p groups last new to walked is opens ends puts shallow =
    let all = elements-more typed octets 0 at walked.pieces depth end p walked.elements is in
    let here : last ≡ end + p.length = ends ∙ ap (λ place. place + p.length) is.begins in
    record {
      pieces = walked.pieces ++ p ∷ [];
      elements = subst (λ place. Elements typed octets 0 at (walked.pieces ++ p ∷ []) groups place) (sym here) (subst (λ d. Elements typed octets 0 at (walked.pieces ++ p ∷ []) d (end + p.length)) (sym opens) all);
      puts = puts-append walked.pieces (p ∷ []) old mid new from count to walked.puts puts;
      within = omega (arith, here, is.within);
      few = omega (arith, here, is.some, walked.few, puts.count);
      shallow = omega (arith, here, is.some, walked.shallow, shallow);
    }

-- ---- the piece at a place

-- A head has an octet.
head_some : (head : TagHead) (b : List ℕ) → Heads head b → 0 < length b
head_some head b h = omega (arith, ap length h.octets, length-append h.front h.back, ap length h.opening.octets)

-- A kind with a head says that head.
of_kind : (typed : Bool) (octets : List ℕ) (depth : ℕ) (head : TagHead) (p : Piece) → IsTagged octets depth head p → IsOfKind typed octets depth p (element_kind typed head)
of_kind true octets depth head p tagged = (refl, tagged)
of_kind false octets depth head p tagged = (refl, tagged)

-- The piece at a place where a head begins.
pub element-tagged : (typed : Bool) (octets rest : List ℕ) (place depth taken within around : ℕ) (head : TagHead) (kind : Kind) → rest ≡ drop place octets → place < length octets → Takes Heads rest (head, taken)
    → within ≡ min (contents_size head) (length rest - taken) → around ≡ depth_around depth head → kind ≡ element_kind typed head
    → IsElement typed octets depth place (record { place = place; length = taken + within; head = taken; depth = around; kind = kind })
element-tagged typed octets rest place depth taken within around head kind back inside takes contents about is =
    let size : length rest ≡ length octets - place = ap length back ∙ length-drop place octets in
    let left : length rest - taken ≡ length octets - (place + taken) = omega (arith, size) in
    let some : 0 < length (take taken rest) = head_some head (take taken rest) takes.spelled in
    let p : Piece = record { place = place; length = taken + within; head = taken; depth = around; kind = kind } in
    let tagged : IsTagged octets depth head p = record {
      spelled = subst (λ octets. Heads head (take taken octets)) back takes.spelled;
      long = ap (λ n. taken + n) (contents ∙ ap (λ n. min (contents_size head) n) left);
      around = about;
    } in
    record {
      begins = refl;
      some = omega (arith, some, length-take taken rest);
      within = omega (arith, contents, size, takes.within);
      of_kind = subst (λ kind. IsOfKind typed octets depth p kind) (sym is) (of_kind typed octets depth head p tagged);
    }

-- The piece at a place where no head begins.
pub element-begun : (typed : Bool) (octets rest : List ℕ) (place depth : ℕ) → rest ≡ drop place octets → place < length octets → NoFront Heads rest
    → IsElement typed octets depth place (record { place = place; length = length rest; head = 0; depth = depth; kind = kind.Octets })
element-begun typed octets rest place depth back inside none =
    let size : length rest ≡ length octets - place = ap length back ∙ length-drop place octets in
    record {
      begins = refl;
      some = omega (arith, size);
      within = omega (arith, size);
      of_kind = record { none = subst (λ octets. NoFront Heads octets) back none; headless = refl; long = size; around = refl };
    }

-- A head leaves at most one more group open.
after_head-le : (depth : ℕ) (head : TagHead) → depth_after_head depth head ≤ depth + 1
after_head-le depth (Open number) = omega arith
after_head-le depth (Close number) = omega arith
after_head-le depth _ = omega arith

-- A piece leaves at most one more group open.
pub depth_behind-le : (depth : ℕ) (kind : Kind) → depth_behind depth kind ≤ depth + 1
depth_behind-le depth (kind.Element head) = after_head-le depth head
depth_behind-le depth (kind.Unjudged head) = after_head-le depth head
depth_behind-le depth _ = omega arith
