-- Lemmas on the pieces of octets as a frame.
use Rattle.std.proofs.Common.{◌≡◌, ◌≤◌, ℕ, ◌+◌, ◌-◌, min, Bool, true, false, List, [], ◌∷◌, ◌++◌, length, take, drop, refl, sym, ap, ◌∙◌, subst, inl, inr, arith, append-nil}
use Rattle.std.specs.Prelude.{Option, None, Some, nat_eq}
use Rattle.std.specs.List.{AllByRecursion}
use Rattle.std.proofs.lemmas.Bool.{cond_both}
use Rattle.std.proofs.lemmas.List.{length-append, length-drop, length-take-le, take_at}
use Rattle.bac_tag.specs.declared.refusals.Refusal.{Refusal}
use Rattle.bac_npdu_parts.specs.Addresses.{SourceValue, DestinationValue}
use Rattle.bac_npdu_parts.specs.FrameHeads.{address_read, destination_read}
use Rattle.bac_head.specs.declared.npci.Npci.{Npci}
use Rattle.bac_head.specs.declared.apdu_head.ApduHead.{ApduHead}
use Rattle.bac_head.specs.declared.apdu_head.ApduHead.TheVariants as apdu
use Rattle.bac_head.specs.declared.known.PduHead.{PduHead}
use Rattle.bac_head.specs.declared.known.PduHead.TheVariants as pdu
use Rattle.bac_head.specs.declared.known.Known.{Known}
use Rattle.bac_head.specs.declared.known.Known.TheVariants as known
use Rattle.bac_explain.specs.declared.piece.Piece.{Piece}
use Rattle.bac_explain.specs.declared.piece.Kind.{Kind}
use Rattle.bac_explain.specs.declared.piece.Kind.TheVariants as kind
use Rattle.bac_explain.specs.declared.parts.Part.{Part}
use Rattle.bac_explain.specs.declared.heads.Contents.{Contents}
use Rattle.bac_explain.specs.declared.heads.Contents.TheVariants as contents
use Rattle.bac_explain.specs.declared.verdict.Verdict.{Verdict}
use Rattle.bac_explain.specs.declared.verdict.Verdict.TheVariants.{Accepted, Refused}
use Rattle.bac_explain.specs.Verdicts.{IsVerdict}
use Rattle.bac_explain.specs.Elements.{Elements, IsOfKind, depth_behind}
use Rattle.bac_explain.specs.Explained.{Explains, IsWithin, IsWritten, ReadsHead}
use Rattle.bac_explain.specs.Fronts.{AreContents, AreOfService, IsFront, left_pieces}
use Rattle.bac_explain.specs.HeadParts.{apdu_contents_of, apdu_kinds_of, contents_of, control_parts, destination_parts, head_parts, hops_parts, npci_parts, octet_parts, pdu_contents_of, pdu_parts, source_parts, vendor_parts}
use Rattle.bac_explain.specs.Known.{IsKnown}
use Rattle.bac_explain.specs.Parts.{laid, laid_end, part, part_end, part_length, part_pieces, plain}
use Rattle.bac_explain.specs.Refusals.{refusal_pieces, rest_pieces}
use Rattle.bac_explain.specs.Room.{Puts}
use Rattle.bac_explain.specs.Tiles.{Tiles}
use Rattle.bac_explain.proofs.RoomLemmas.{with_pieces-fit}
use Rattle.bac_explain.proofs.TileLemmas.{elements-tile, laid-tiles, part-tiles, tiles-append}

-- ---- the octets are covered

-- Parts end where the octets end, or before.
laid_end-le : (end place : ℕ) (ps : List Part) → place ≤ end → laid_end end place ps ≤ end
laid_end-le end place [] le = le
laid_end-le end place (p ∷ ps) le = laid_end-le end (part_end end place p) ps (omega arith)

-- The octets that are left are covered by one piece.
left-tiles : (k : Kind) (octets : List ℕ) (at : ℕ) → at ≤ length octets → Tiles at (left_pieces k octets at) (length octets)
left-tiles k octets at le =
    let end : part_end (length octets) at (part k (length octets - at)) ≡ length octets = omega arith in
    subst (λ n. Tiles at (left_pieces k octets at) n) end (part-tiles (length octets) at (part k (length octets - at)))

-- The pieces of a service cover it.
service-tiles : (typed : Bool) (octets : List ℕ) (at : ℕ) (ps : List Piece) → at ≤ length octets → AreOfService typed octets at ps → Tiles at ps (length octets)
service-tiles true octets at ps le (groups, e) = elements-tile true octets 0 at ps groups (length octets) e
service-tiles false octets at ps le (inl tags) = elements-tile false octets 0 at ps tags.1.0 (length octets) tags.1.1
service-tiles false octets at ps le (inr is) = subst (λ ps. Tiles at ps (length octets)) (sym is.1) (left-tiles kind.Octets octets at le)

-- The pieces of what is after a head cover it.
contents-tile : (c : Contents) (typed : Bool) (octets : List ℕ) (at : ℕ) (ps : List Piece) → at ≤ length octets → AreContents c typed octets at ps → Tiles at ps (length octets)
contents-tile contents.Service typed octets at ps le are = service-tiles typed octets at ps le are
contents-tile (contents.Octets k) typed octets at ps le is = subst (λ ps. Tiles at ps (length octets)) (sym is) (left-tiles k octets at le)

-- The pieces of octets that begin a frame cover them.
front-tiles : (known : Known) (typed : Bool) (octets : List ℕ) (ps : List Piece) → IsFront known typed octets ps → Tiles 0 ps (length octets)
front-tiles known typed octets ps is =
    let parts = head_parts known in
    let end = laid_end (length octets) 0 parts in
    let behind = contents-tile (contents_of known) typed octets end is.behind (laid_end-le (length octets) 0 parts (omega arith)) is.contents in
    subst (λ ps. Tiles 0 ps (length octets)) (sym is.all) (tiles-append 0 (laid (length octets) 0 parts) end is.behind (length octets) (laid-tiles (length octets) 0 parts) behind)

-- The pieces from the place of a refusal on cover the octets from there on.
refusal-tiles : (end : ℕ) (r : Refusal) → r.place ≤ end → Tiles r.place (refusal_pieces end r) end
refusal-tiles end r le =
    let next = r.place + min 1 (end - r.place) in
    let last : part_end end next (part kind.Rest (end - next)) ≡ end = omega arith in
    (refl, subst (λ n. Tiles next (rest_pieces end r) n) last (part-tiles end next (part kind.Rest (end - next))))

-- ---- what the pieces say of heads

-- All of two lists, one after the other.
pub all-append : {X : Type 0} (P : X → Type 0) (xs ys : List X) → AllByRecursion P xs → AllByRecursion P ys → AllByRecursion P (xs ++ ys)
all-append P [] ys first second = second
all-append P (x ∷ xs) ys first second = (first.0, all-append P xs ys first.1 second)

-- A kind has no tag head.
IsPlain : Kind → Type 0
IsPlain (kind.Element head) = ⊥
IsPlain (kind.Unjudged head) = ⊥
IsPlain _ = Unit {0}

-- A piece whose kind has no tag head.
reads-plain : (octets : List ℕ) (k : Kind) (place n : ℕ) → IsPlain k → ReadsHead octets (plain k place n) k
unfolding IsPlain
reads-plain octets (kind.Element head) place n is = absurd is
reads-plain octets (kind.Unjudged head) place n is = absurd is
reads-plain octets _ place n is = refl

-- Each piece says what is read of a tag head.
abbrev AllRead : List ℕ → List Piece → Type 0
AllRead octets ps = AllByRecursion (λ (p : Piece). ReadsHead octets p p.kind) ps

-- Each part has a kind without a tag head.
abbrev ArePlain : List Part → Type 0
ArePlain ps = AllByRecursion (λ (p : Part). IsPlain p.kind) ps

-- The piece of a part.
part-reads : (octets : List ℕ) (end place : ℕ) (p : Part) → IsPlain p.kind → AllRead octets (part_pieces end place p)
part-reads octets end place p is =
    let n = part_length end place p in
    cond_both (nat_eq n 0) [] (plain p.kind place n ∷ []) (λ ps. AllRead octets ps) (λ e. tt) (λ e. (reads-plain octets p.kind place n is, tt))

-- The pieces of parts.
laid-reads : (octets : List ℕ) (end place : ℕ) (ps : List Part) → ArePlain ps → AllRead octets (laid end place ps)
laid-reads octets end place [] are = tt
laid-reads octets end place (p ∷ ps) are =
    all-append (λ (p : Piece). ReadsHead octets p p.kind) (part_pieces end place p) (laid end (part_end end place p) ps) (part-reads octets end place p are.0) (laid-reads octets end (part_end end place p) ps are.1)

destination-plain : (d : Option DestinationValue) → ArePlain (destination_parts d)
unfolding IsPlain
destination-plain None = tt
destination-plain (Some d) = (tt, (tt, (tt, tt)))

source-plain : (s : Option SourceValue) → ArePlain (source_parts s)
unfolding IsPlain
source-plain None = tt
source-plain (Some s) = (tt, (tt, (tt, tt)))

hops-plain : (d : Option DestinationValue) → ArePlain (hops_parts d)
unfolding IsPlain
hops-plain None = tt
hops-plain (Some d) = (tt, tt)

plain-append : (ps qs : List Part) → ArePlain ps → ArePlain qs → ArePlain (ps ++ qs)
plain-append ps qs first second = all-append (λ (p : Part). IsPlain p.kind) ps qs first second

control-plain : ArePlain control_parts
unfolding IsPlain
control-plain = (tt, (tt, tt))

npci-plain : (n : Npci) → ArePlain (npci_parts n)
npci-plain n =
    let to = destination_parts (destination_read n.destination) in
    let from = source_parts (address_read n.source) in
    let hops = hops_parts (destination_read n.destination) in
    plain-append control_parts (to ++ (from ++ hops)) control-plain (plain-append to (from ++ hops) (destination-plain (destination_read n.destination)) (plain-append from hops (source-plain (address_read n.source)) (hops-plain (destination_read n.destination))))

apdu-plain : (h : ApduHead) → ArePlain (octet_parts (apdu_kinds_of h))
unfolding IsPlain
apdu-plain (apdu.ConfirmedRequest invoke choice) = (tt, (tt, (tt, (tt, tt))))
apdu-plain (apdu.RequestSegment s) = (tt, (tt, (tt, (tt, (tt, (tt, tt))))))
apdu-plain (apdu.UnconfirmedRequest choice) = (tt, (tt, tt))
apdu-plain (apdu.SimpleAck invoke choice) = (tt, (tt, (tt, tt)))
apdu-plain (apdu.ComplexAck invoke choice) = (tt, (tt, (tt, tt)))
apdu-plain (apdu.AckSegment s) = (tt, (tt, (tt, (tt, (tt, tt)))))
apdu-plain (apdu.SegmentAck invoke nak srv seq size) = (tt, (tt, (tt, (tt, tt))))
apdu-plain (apdu.Error invoke choice) = (tt, (tt, (tt, tt)))
apdu-plain (apdu.Reject invoke reason) = (tt, (tt, (tt, tt)))
apdu-plain (apdu.Abort invoke srv reason) = (tt, (tt, (tt, tt)))

vendor-plain : (v : Option ℕ) → ArePlain (part kind.MessageType 1 ∷ vendor_parts v)
unfolding IsPlain
vendor-plain None = (tt, tt)
vendor-plain (Some v) = (tt, (tt, tt))

pdu-plain : (h : PduHead) → ArePlain (pdu_parts h)
pdu-plain (pdu.Apdu h) = apdu-plain h
pdu-plain (pdu.Message h) = vendor-plain h.vendor

head-plain : (k : Known) → ArePlain (head_parts k)
head-plain known.Nothing = tt
head-plain (known.Control control) = control-plain
head-plain (known.Addresses npci) = npci-plain npci
head-plain (known.Pdu npci head size) = plain-append (npci_parts npci) (pdu_parts head) (npci-plain npci) (pdu-plain head)

-- What is after a head has a kind without a tag head, or is a service.
IsPlainContents : Contents → Type 0
IsPlainContents contents.Service = Unit {0}
IsPlainContents (contents.Octets k) = IsPlain k

apdu_contents-plain : (h : ApduHead) → IsPlainContents (apdu_contents_of h)
unfolding IsPlain IsPlainContents
apdu_contents-plain (apdu.ConfirmedRequest invoke choice) = tt
apdu_contents-plain (apdu.RequestSegment s) = tt
apdu_contents-plain (apdu.UnconfirmedRequest choice) = tt
apdu_contents-plain (apdu.SimpleAck invoke choice) = tt
apdu_contents-plain (apdu.ComplexAck invoke choice) = tt
apdu_contents-plain (apdu.AckSegment s) = tt
apdu_contents-plain (apdu.SegmentAck invoke nak srv seq size) = tt
apdu_contents-plain (apdu.Error invoke choice) = tt
apdu_contents-plain (apdu.Reject invoke reason) = tt
apdu_contents-plain (apdu.Abort invoke srv reason) = tt

pdu_contents-plain : (h : PduHead) → IsPlainContents (pdu_contents_of h)
unfolding IsPlain IsPlainContents
pdu_contents-plain (pdu.Apdu h) = apdu_contents-plain h
pdu_contents-plain (pdu.Message h) = tt

contents-plain : (k : Known) → IsPlainContents (contents_of k)
unfolding IsPlain IsPlainContents
contents-plain known.Nothing = tt
contents-plain (known.Control control) = tt
contents-plain (known.Addresses npci) = tt
contents-plain (known.Pdu npci head size) = pdu_contents-plain head

-- A piece of a service says what is read of a tag head.
kind-reads : (typed : Bool) (octets : List ℕ) (depth : ℕ) (p : Piece) (k : Kind) → IsOfKind typed octets depth p k → ReadsHead octets p k
kind-reads typed octets depth p (kind.Element head) is = (depth, is.1)
kind-reads typed octets depth p (kind.Unjudged head) is = (depth, is.1)
kind-reads typed octets depth p kind.Octets is = is.headless
kind-reads typed octets depth p _ is = absurd is

elements-read : (typed : Bool) (octets : List ℕ) (depth at : ℕ) (ps : List Piece) (last end : ℕ) → Elements typed octets depth at ps last end → AllRead octets ps
elements-read typed octets depth at [] last end e = tt
elements-read typed octets depth at (p ∷ ps) last end e = (kind-reads typed octets depth p p.kind e.0.of_kind, elements-read typed octets (depth_behind depth p.kind) (at + p.length) ps last end e.1)

left-reads : (k : Kind) (octets : List ℕ) (at : ℕ) → IsPlain k → AllRead octets (left_pieces k octets at)
left-reads k octets at is = part-reads octets (length octets) at (part k (length octets - at)) is

service-reads : (typed : Bool) (octets : List ℕ) (at : ℕ) (ps : List Piece) → AreOfService typed octets at ps → AllRead octets ps
unfolding IsPlain
service-reads true octets at ps (groups, e) = elements-read true octets 0 at ps groups (length octets) e
service-reads false octets at ps (inl tags) = elements-read false octets 0 at ps tags.1.0 (length octets) tags.1.1
service-reads false octets at ps (inr is) = subst (λ ps. AllRead octets ps) (sym is.1) (left-reads kind.Octets octets at tt)

contents-read : (c : Contents) (typed : Bool) (octets : List ℕ) (at : ℕ) (ps : List Piece) → IsPlainContents c → AreContents c typed octets at ps → AllRead octets ps
unfolding IsPlainContents
contents-read contents.Service typed octets at ps is are = service-reads typed octets at ps are
contents-read (contents.Octets k) typed octets at ps is are = subst (λ ps. AllRead octets ps) (sym are) (left-reads k octets at is)

front-reads : (k : Known) (typed : Bool) (octets : List ℕ) (ps : List Piece) → IsFront k typed octets ps → AllRead octets ps
front-reads k typed octets ps is =
    let parts = head_parts k in
    let behind = contents-read (contents_of k) typed octets (laid_end (length octets) 0 parts) is.behind (contents-plain k) is.contents in
    subst (λ ps. AllRead octets ps) (sym is.all) (all-append (λ (p : Piece). ReadsHead octets p p.kind) (laid (length octets) 0 parts) is.behind (laid-reads octets (length octets) 0 parts (head-plain k)) behind)

refusal-reads : (octets : List ℕ) (end : ℕ) (r : Refusal) → AllRead octets (refusal_pieces end r)
unfolding IsPlain
refusal-reads octets end r =
    let next = r.place + min 1 (end - r.place) in
    (refl, part-reads octets end next (part kind.Rest (end - next)) tt)

-- ---- all of it

-- The pieces of octets that are accepted.
pub explains-accepted : (octets : List ℕ) (mark : Option ℕ) (typed : Bool) (k : Known) (ps : List Piece) → IsKnown octets k → IsFront k typed octets ps → Explains octets (Accepted mark typed) ps
explains-accepted octets mark typed k ps is_known is = record {
  tiles = front-tiles k typed octets ps is;
  heads = front-reads k typed octets ps is;
  known = k;
  is_known = is_known;
  front = ps;
  is_front = is;
  all = sym (append-nil ps);
}

-- The pieces of octets that are refused.
pub explains-refused : (octets before : List ℕ) (r : Refusal) (k : Known) (ps : List Piece) → r.place ≤ length octets → before ≡ take r.place octets → IsKnown before k → IsFront k true before ps
    → Explains octets (Refused r) (ps ++ refusal_pieces (length octets) r)
explains-refused octets before r k ps le e is_known is =
    let size : length before ≡ r.place = ap length e ∙ length-take-le r.place octets le in
    let first : Tiles 0 ps r.place = subst (λ n. Tiles 0 ps n) size (front-tiles k true before ps is) in
    record {
      tiles = tiles-append 0 ps r.place (refusal_pieces (length octets) r) (length octets) first (refusal-tiles (length octets) r le);
      heads = subst (λ o. AllRead o (ps ++ refusal_pieces (length octets) r)) e
          (all-append (λ (p : Piece). ReadsHead before p p.kind) ps (refusal_pieces (length octets) r) (front-reads k true before ps is) (refusal-reads before (length octets) r));
      known = k;
      is_known = subst (λ o. IsKnown o k) e is_known;
      front = ps;
      is_front = subst (λ o. IsFront k true o ps) e is;
      all = refl;
    }

-- What was put from the front of a room on is written there.
pub written : (ps old new : List Piece) (count : ℕ) → Puts ps old 0 new count → IsWritten ps old new count
written ps old new count puts =
    let counted : count ≡ length ps = omega (arith, puts.count) in
    record {
      counted = counted;
      written = λ fit. puts.room ∙ with_pieces-fit old ps count counted fit;
      fitting = puts.room;
    }

-- The place of a refusal of all octets is within them.
pub verdict_within : (octets : List ℕ) (v : Verdict) → IsVerdict octets v → IsWithin (length octets) v
verdict_within octets (Accepted mark typed) is = tt
verdict_within octets (Refused r) is = is.0.furthest.within

-- The first pieces of a room in which all fit are those that were written.
pub explained_first : (octets : List ℕ) (v : Verdict) (old new items : List Piece) (count room : ℕ) → (ps : List Piece) × Explains octets v ps × IsWritten ps old new count → count ≤ room → room ≤ length old → items ≡ take count new → Explains octets v items
explained_first octets v old new items count room told few long is =
    let ps = told.0 in
    let w = told.2 in
    let fit : count ≤ length old = omega (arith, few, long) in
    subst (λ l. Explains octets v l) (sym (is ∙ ap (λ l. take count l) (w.written fit) ∙ ap (λ n. take n (ps ++ drop count old)) w.counted ∙ take_at ps (drop count old) (length ps) refl)) told.1

-- The same, of a vector with the room in it.
pub explained_in : (octets : List ℕ) (v : Verdict) (old new rest items : List Piece) (count room n : ℕ) → (ps : List Piece) × Explains octets v ps × IsWritten ps old new count → count ≤ room → room ≤ length old → n ≡ length old → items ≡ take count (take n (new ++ rest)) → Explains octets v items
explained_in octets v old new rest items count room n told few long size is =
    let ps = told.0 in
    let w = told.2 in
    let fit : count ≤ length old = omega (arith, few, long) in
    let same : length new ≡ length old = ap length (w.written fit) ∙ length-append ps (drop count old) ∙ ap (λ k. length ps + k) (length-drop count old) ∙ omega (arith, fit, w.counted) in
    explained_first octets v old new items count room told few long (is ∙ ap (λ l. take count l) (take_at new rest n (same ∙ sym size)))
