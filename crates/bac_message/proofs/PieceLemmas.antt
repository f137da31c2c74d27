-- The segment of a frame in the octets that spell it, and the heads of the frame in one piece.
use Rattle.std.proofs.Common.{◌≡◌, ◌<◌, ◌-◌, ℕ, Bool, true, false, Option, Some, None, List, [], ◌∷◌, ◌++◌, length, take, drop, get_or, refl, sym, ap, subst, ◌∙◌, append_assoc, arith}
use Rattle.std.proofs.lemmas.List.{length-drop, take_all, take_at, take-append-drop}
use Rattle.bac_tag.specs.HeadOctets.{AreParts, least_head}
use Rattle.bac_tag.specs.Octets.{IsOctets}
use Rattle.bac_tag.specs.Spelling.{IsLeast}
use Rattle.bac_tag.proofs.HeadOctetLemmas.{headed_least, parts_are}
use Rattle.bac_productions.specs.Productions.{IsMarked}
use Rattle.bac_service.specs.declared.kind.Kind.{Kind}
use Rattle.bac_service.specs.Services.{ServiceValue, SpellsService}
use Rattle.bac_apdu.specs.declared.segment.SegHead.{SegHead}
use Rattle.bac_apdu.specs.declared.segment.SegHead.TheVariants.{Request, Ack}
use Rattle.bac_apdu.specs.Apdus.{ApduValue, confirmed_request, unconfirmed_request, simple_ack, complex_ack, segment_ack, error, reject, abort, segment, SpellsApdu, SpellsBody as SpellsApduBody, head_of as apdu_head_of}
use Rattle.bac_apdu.specs.Segment.{segment_head}
use Rattle.bac_apdu.proofs.CaseLemmas.{headed_splits}
use Rattle.bac_npdu_parts.specs.Addresses.{HasAddress}
use Rattle.bac_npdu_parts.specs.Control.{least_of}
use Rattle.bac_npdu_parts.specs.FrameHeads.{HeadValue, frame_with}
use Rattle.bac_npdu_parts.specs.Frames.{BodyValue, FrameValue, SpellsBody, SpellsFrame, addresses_of, apdu, control_of, is_message, is_there, message}
use Rattle.bac_npdu_parts.proofs.FrameLemmas.{between_octets, frame_least, least_before}
use Rattle.bac_segment.specs.Deliveries.{Delivery}
use Rattle.bac_segment.specs.Tables.{Table}
use Rattle.bac_message.specs.Messages.{Heads, Message, SpellsContent, apdu_with, delivered, delivered_by, delivered_in, frame_of, head_of, heads_of, heads_with, kind_of, message_of, message_with}
use Rattle.bac_message.specs.JoinedFrames.{HasContent}
use Rattle.bac_message.specs.Gathered.{AppendsWhole}
use Rattle.bac_message.specs.RecordJoins.{GivesFrame, OpensFrame, head_parts}
use Rattle.bac_message.proofs.JoiningLemmas.{heads_are}

-- ---- the piece is at the end

-- these octets end with the piece of a segment, whose number is below 256
abbrev EndsWith : List ℕ → Delivery → Type 0
EndsWith octets s = ((front : List ℕ) × (octets ≡ front ++ s.piece)) × (s.seq < 256)

other_apdu : {P : Type 0} (s : Delivery) → (let o : Option Delivery = None in o) ≡ Some s → P
other_apdu s h = absurd (let e : None ≡ Some s = h in cc)

number_small : (head : SegHead) (seq size : ℕ) (more : Bool) (choice : ℕ) → AreParts (segment_head head seq size more choice) → seq < 256
number_small (Request head) seq size more choice parts = parts.1.1.1.0
number_small (Ack invoke) seq size more choice parts = parts.1.1.0

in_apdu : (a : ApduValue) (b : List ℕ) (s : Delivery) → SpellsApdu a b → delivered_by a ≡ Some s → EndsWith b s
in_apdu (segment head seq size more choice piece) b s h e =
    let d : Delivery = record { head = head; window = size; choice = choice; seq = seq; more = more; piece = piece } in
    let same : d ≡ s = (let i : Some d ≡ Some s = e in cc) in
    let j = headed_splits (segment_head head seq size more choice) (SpellsApduBody (segment head seq size more choice piece)) b h in
    let parts = parts_are (segment_head head seq size more choice) (SpellsApduBody (segment head seq size more choice piece)) b h in
    subst (EndsWith b) same ((j.front, j.octets ∙ ap (λ (l : List ℕ). j.front ++ l) j.second.0), number_small head seq size more choice parts)
in_apdu (confirmed_request head service) b s h e = other_apdu s e
in_apdu (unconfirmed_request service) b s h e = other_apdu s e
in_apdu (simple_ack invoke choice) b s h e = other_apdu s e
in_apdu (complex_ack invoke service) b s h e = other_apdu s e
in_apdu (segment_ack invoke nak srv seq size) b s h e = other_apdu s e
in_apdu (error invoke service) b s h e = other_apdu s e
in_apdu (reject invoke reason) b s h e = other_apdu s e
in_apdu (abort invoke srv reason) b s h e = other_apdu s e

in_body : (x : BodyValue) (b : List ℕ) (s : Delivery) → SpellsBody x b → delivered_in x ≡ Some s → EndsWith b s
in_body (apdu a) b s h e = in_apdu a b s h e
in_body (message m) b s h e = other_apdu s e

pub segment_in : (f : FrameValue) (octets : List ℕ) (s : Delivery) → SpellsFrame f octets → delivered f ≡ Some s → EndsWith octets s
segment_in f octets s h e =
    let end = in_body f.body h.body s h.is_body e in (
      (
        1 ∷ h.control ∷ (addresses_of f ++ end.0.0),
        h.octets_are ∙ ap (λ (l : List ℕ). 1 ∷ h.control ∷ (addresses_of f ++ l)) end.0.1 ∙ ap (λ (l : List ℕ). 1 ∷ h.control ∷ l) (sym (append_assoc (addresses_of f) end.0.0 s.piece)),
      ),
      end.1,
    )

-- ---- the heads of the frame in one piece

no_message : (x : BodyValue) (s : Delivery) → delivered_in x ≡ Some s → is_message x ≡ false
no_message (apdu a) s e = refl
no_message (message m) s e = other_apdu s e

-- the octets before a body do not depend on which APDU it is
pub before_apdu : (h : HeadValue) (x : BodyValue) (s : Delivery) (a : ApduValue) → delivered_in x ≡ Some s → least_before (frame_with h x) ≡ least_before (frame_with h (apdu a))
before_apdu h x s a e =
    ap (λ (b : Bool). 1 ∷ least_of (record { message = b; destination = is_there h.destination; source = is_there h.source; reply = h.reply; priority = h.priority }) ∷ addresses_of (frame_with h (apdu a))) (no_message x s e)

service_least : (head : SegHead) (service : ServiceValue) (b : List ℕ) → AreParts (head_parts head service.choice) → IsLeast (SpellsService true 32 (kind_of head) service.choice service) b
    → IsLeast (SpellsApdu (apdu_with head service)) (least_head (head_parts head service.choice) ++ b)
service_least (Request head) service b parts L = headed_least (apdu_head_of (confirmed_request head service)) (SpellsApduBody (confirmed_request head service)) b parts L
service_least (Ack invoke) service b parts L = headed_least (apdu_head_of (complex_ack invoke service)) (SpellsApduBody (complex_ack invoke service)) b parts L

pub opens_frame : (heads : Heads) (a : ApduValue) (before : List ℕ) → before ≡ least_before (frame_with heads.frame (apdu a)) → IsOctets before → HasAddress heads.frame.source → heads.frame.priority < 4 → AreParts (head_parts heads.head heads.choice)
    → OpensFrame heads (before ++ least_head (head_parts heads.head heads.choice))
opens_frame heads a before is octets address priority parts = λ service b same L.
    let f = frame_of (message_with heads service) in
    let small = subst IsOctets is octets in
    let body = service_least heads.head service b (subst (λ (n : ℕ). AreParts (head_parts heads.head n)) (sym same) parts) L in
    let least = frame_least f (least_head (head_parts heads.head service.choice) ++ b) address priority small.1.1 body in
    let front : before ++ (least_head (head_parts heads.head service.choice) ++ b) ≡ (before ++ least_head (head_parts heads.head heads.choice)) ++ b = ap (λ (n : ℕ). before ++ (least_head (head_parts heads.head n) ++ b)) same
    ∙ sym (append_assoc before (least_head (head_parts heads.head heads.choice)) b) in
    subst (IsLeast (SpellsFrame f)) (ap (λ (l : List ℕ). l ++ (least_head (head_parts heads.head service.choice) ++ b)) (sym is) ∙ front) least

pub heads_written : (f : FrameValue) (s : Delivery) (h : HeadValue) (old mid new : List ℕ) → delivered f ≡ Some s → frame_with h f.body ≡ f → old ≡ [] → mid ≡ old ++ least_before (frame_with h f.body) → ((k : ℕ) (d : ℕ) → k < length new → get_or new k d < 256)
    → HasAddress h.source → h.priority < 4 → new ≡ mid ++ least_head (head_parts s.head s.choice) → AreParts (head_parts s.head s.choice) → OpensFrame (heads_with (head_of f) s) new
heads_written f s h old mid new holds made none first small address priority second parts =
    let head : h ≡ head_of f = ap head_of made in
    let before = least_before (frame_with h f.body) in
    let after = least_head (head_parts s.head s.choice) in
    let all : new ≡ (old ++ before) ++ after = second ∙ ap (λ (l : List ℕ). l ++ after) first in
    let any : ApduValue = reject 0 0 in
    let is = before_apdu h f.body s any holds ∙ ap (λ (x : HeadValue). least_before (frame_with x (apdu any))) head in
    let opens = opens_frame (heads_with (head_of f) s) any before is (between_octets old before after new small all) (subst (λ (x : HeadValue). HasAddress x.source) head address) (subst (λ (x : HeadValue). x.priority < 4) head priority) parts in
    let written : before ++ after ≡ new = ap (λ (l : List ℕ). (l ++ before) ++ after) (sym none) ∙ sym all in
    subst (OpensFrame (heads_with (head_of f) s)) written opens

-- ---- canonical services

message_is : (heads : Heads) (service : ServiceValue) → message_of (frame_of (message_with heads service)) ≡ Some (message_with heads service)
message_is heads service = by_head heads.head
  where
    by_head : (head : SegHead) → message_of (frame_with heads.frame (apdu (apdu_with head service))) ≡ Some (record { frame = heads.frame; head = head; service = service })
    by_head (Request head) = refl
    by_head (Ack invoke) = refl

pub gives_frame : (f : FrameValue) (s : Delivery) (front octets : List ℕ) → delivered f ≡ Some s → OpensFrame (heads_with (head_of f) s) front → IsMarked (SpellsService true 32 (kind_of s.head) s.choice) octets None → GivesFrame (heads_of f) octets (front ++ octets)
gives_frame f s front octets holds opens marked =
    let heads = heads_with (head_of f) s in
    let service = marked.value in
    let same : service.choice ≡ s.choice = marked.spelled.choice_is in
    let least = subst (IsLeast (SpellsService true 32 (kind_of s.head) s.choice service)) (sym marked.marked.is_mark) marked.marked.is_least in
    record {
      frame = frame_of (message_with heads service);
      content = record {
        message = message_with heads service;
        message_is = message_is heads service;
        heads_are = heads_are f s holds ∙ ap (λ (n : ℕ). let o : Option Heads = Some (record { frame = head_of f; head = s.head; choice = n }) in o) (sym same);
        spelled = subst (λ (n : ℕ). SpellsService true 32 (kind_of s.head) n service octets) (sym same) marked.spelled;
      };
      is_least = opens service octets same (subst (λ (n : ℕ). IsLeast (SpellsService true 32 (kind_of s.head) n service) octets) (sym same) least);
    }

-- what is checked is at the end of what is written
pub checked_end : (f : FrameValue) (s : Delivery) (out octets : List ℕ) (start : ℕ) (kind : Kind) (mark : Option ℕ) → delivered f ≡ Some s → OpensFrame (heads_with (head_of f) s) (take start out) → kind ≡ kind_of s.head → octets ≡ out
    → IsMarked (SpellsService true 32 kind s.choice) (take (length octets - start) (drop start octets)) mark → mark ≡ None → GivesFrame (heads_of f) (drop start out) out
checked_end f s out octets start kind mark holds opens is same marked none =
    let marked = subst (λ (k : Kind). IsMarked (SpellsService true 32 k s.choice) (take (length octets - start) (drop start octets)) mark) is marked in
    let marked = subst (λ (l : List ℕ). IsMarked (SpellsService true 32 (kind_of s.head) s.choice) (take (length l - start) (drop start l)) mark) same marked in
    let all : take (length out - start) (drop start out) ≡ drop start out = take_all (length out - start) (drop start out) (omega (arith, length-drop start out)) in
    let marked = subst (λ (l : List ℕ). IsMarked (SpellsService true 32 (kind_of s.head) s.choice) l mark) all marked in
    let marked = subst (λ (m : Option ℕ). IsMarked (SpellsService true 32 (kind_of s.head) s.choice) (drop start out) m) none marked in
    subst (GivesFrame (heads_of f) (drop start out)) (take-append-drop start out) (gives_frame f s (take start out) (drop start out) holds opens marked)

pub opens_still : (heads : Heads) (old new : List ℕ) (m : Table) (start : ℕ) (all : Bool) → OpensFrame heads old → start ≡ length old → AppendsWhole m old all new → all ≡ true → OpensFrame heads (take start new)
opens_still heads old new m start all opens is appends set =
    let whole = subst (λ (b : Bool). AppendsWhole m old b new) set appends in
    let front : take start new ≡ old = ap (λ (l : List ℕ). take start l) whole.2 ∙ take_at old whole.0 start (sym is) in
    subst (OpensFrame heads) (sym front) opens
