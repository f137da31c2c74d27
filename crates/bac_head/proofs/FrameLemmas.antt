-- Frames that begin with octets from which something is known.
use Rattle.std.specs.Prelude.{◌≡◌, ℕ, ◌+◌, ◌/◌, ◌%◌, ◌^◌, ◌≤◌, nat_eq, Bool, true, false, Option, Some, None, List, ◌∷◌, ◌++◌, length, take, drop, slice_index, refl}
use Rattle.std.proofs.Common.{sym, ◌∙◌, ap, subst, append_assoc, arith}
use Rattle.std.proofs.lemmas.List.{length-append}
use Rattle.std.proofs.Math.Seq.{drop-append_seam, take-append-add}
use Rattle.bac_tag.specs.HeadOctets.{HasBit}
use Rattle.bac_apdu.specs.declared.segment.SegHead.TheVariants.{Request, Ack}
use Rattle.bac_apdu.specs.Apdus.{ApduValue, confirmed_request, unconfirmed_request, simple_ack, complex_ack, segment_ack, error, reject, abort, segment, head_of}
use Rattle.bac_npdu_parts.specs.Addresses.{SourceValue, DestinationValue, destination_octets, source_octets, hops_octets}
use Rattle.bac_npdu_parts.specs.Control.{ControlValue, IsControl}
use Rattle.bac_npdu_parts.specs.FrameHeads.{address_read, destination_read}
use Rattle.bac_npdu_parts.specs.Frames.{BodyValue, apdu, message, FrameValue, is_there, is_message, control_of, addresses_of, SpellsBody, SpellsFrame}
use Rattle.bac_npdu_parts.specs.HeadsRead.{behind_control}
use Rattle.bac_head.specs.declared.npci.Npci.{Npci}
use Rattle.bac_head.specs.declared.apdu_head.ApduHead.{ApduHead}
use Rattle.bac_head.specs.declared.message_head.MessageHead.{MessageHead}
use Rattle.bac_head.specs.declared.known.PduHead.{PduHead}
use Rattle.bac_head.specs.declared.known.PduHead.TheVariants as pdu
use Rattle.bac_head.specs.declared.known.Known.{Known}
use Rattle.bac_head.specs.declared.known.Known.TheVariants as known
use Rattle.bac_head.specs.Saying.{control_value, SaysNpci, apdu_head_size}
use Rattle.bac_head.specs.Reach.{HasNpci, HasPduHead, HasPdu, SaysPdu, IsPduRead, IsReach}
use Rattle.bac_head.specs.Known.{apdu_head, pdu_head, pdu_head_size, body_head_size, IsNpciOf, IsKnownOf, IsWhole}
use Rattle.bac_head.proofs.AlikeLemmas.{flag_once, flag_told, control_once, addresses_agree}
use Rattle.bac_head.proofs.ApduLemmas.{apdu_agrees, apdu_long, apdu_has}
use Rattle.bac_head.proofs.MessageLemmas.{message_agrees, message_has}

-- ---- the octets before a body

-- destination, source, hop count
abbrev pub addresses : Option DestinationValue → Option SourceValue → List ℕ
addresses d s = destination_octets d ++ (source_octets s ++ hops_octets d)

-- version, control octet, addresses
abbrev pub front : ℕ → Option DestinationValue → Option SourceValue → List ℕ
front c d s = 1 ∷ c ∷ addresses d s

addresses_then : (d : Option DestinationValue) (s : Option SourceValue) (b : List ℕ) → addresses d s ++ b ≡ behind_control d s b
addresses_then d s b = append_assoc (destination_octets d) (source_octets s ++ hops_octets d) b ∙ ap (λ (l : List ℕ). destination_octets d ++ l) (append_assoc (source_octets s) (hops_octets d) b)

module _ (octets : List ℕ) (c : ℕ) (d : Option DestinationValue) (s : Option SourceValue) (rest : List ℕ) (e : octets ≡ 1 ∷ c ∷ behind_control d s rest) (n : ℕ) (size : length octets ≡ n + length rest) where
  parted : octets ≡ front c d s ++ rest
  parted = e ∙ sym (ap (λ (l : List ℕ). 1 ∷ c ∷ l) (addresses_then d s rest))

  front_size : length (front c d s) ≡ n
  front_size = omega (arith, ap (λ (l : List ℕ). length l) parted, length-append (front c d s) rest, size)

  rest_is : drop n octets ≡ rest
  rest_is = ap (λ (k : ℕ). drop k octets) (sym front_size) ∙ ap (λ (l : List ℕ). drop (length (front c d s)) l) parted ∙ drop-append_seam (front c d s) rest

  -- the head, and so many octets more
  taken : (k : ℕ) (more : List ℕ) → take (n + k) octets ++ more ≡ 1 ∷ c ∷ behind_control d s (take k rest ++ more)
  taken k more =
      let first : take (n + k) octets ≡ front c d s ++ take k rest =
      ap (λ (l : List ℕ). take (n + k) l) parted ∙ ap (λ (m : ℕ). take (m + k) (front c d s ++ rest)) (sym front_size) ∙ take-append-add (front c d s) rest k in
      ap (λ (l : List ℕ). l ++ more) first ∙ append_assoc (front c d s) (take k rest) more ∙ ap (λ (l : List ℕ). 1 ∷ c ∷ l) (addresses_then d s (take k rest ++ more))

-- a frame that begins with this head, and a body
alike : (f : FrameValue) (c : ℕ) (u : ControlValue) (d : Option DestinationValue) (s : Option SourceValue) (b : List ℕ) → IsControl u c → HasBit 5 (Some (is_there d)) c → HasBit 3 (Some (is_there s)) c
    → SpellsFrame f (1 ∷ c ∷ behind_control d s b) → (u ≡ control_of f) × (d ≡ f.destination) × (s ≡ f.source) × SpellsBody f.body b
alike f c u d s b says to from p =
    let same : c ≡ p.control = ap (λ (l : List ℕ). slice_index l 1) p.octets_are in
    let behind : behind_control d s b ≡ behind_control f.destination f.source p.body = ap (λ (l : List ℕ). drop 2 l) p.octets_are ∙ addresses_then f.destination f.source p.body in
    let is : IsControl (control_of f) c = subst (IsControl (control_of f)) (sym same) p.is_control in
    let q = addresses_agree d f.destination s f.source b p.body (flag_once 5 c (is_there d) (is_there f.destination) to is.destination) (flag_once 3 c (is_there s) (is_there f.source) from is.source) behind in
    (control_once u (control_of f) c says is, q.0, q.1, subst (SpellsBody f.body) (sym q.2) p.is_body)

-- ---- the head of the body

pdu_long : (h : PduHead) (m : Bool) (b : List ℕ) → SaysPdu h m b → HasPduHead m b → pdu_head_size h ≤ length b
pdu_long (pdu.Apdu h) m b p has = apdu_long h b p.1 (subst (λ (n : Bool). HasPduHead n b) p.0 has)
pdu_long (pdu.Message h) m b p has = p.1.long

not_both : {P : Type 0} (m : Bool) → true ≡ m → m ≡ false → P
not_both m e f = absurd (let i : true ≡ false = e ∙ f in cc)

pdu_agrees : (h : PduHead) (m : Bool) (x : BodyValue) (b more : List ℕ) → is_message x ≡ m → pdu_head_size h ≤ length b → SaysPdu h m b → SpellsBody x (take (pdu_head_size h) b ++ more) → h ≡ pdu_head x
pdu_agrees (pdu.Apdu h) m (apdu a) b more e long p q = ap (λ (k : ApduHead). pdu.Apdu k) (apdu_agrees h a b more long p.1 q)
pdu_agrees (pdu.Apdu h) m (message x) b more e long p q = not_both m e p.0
pdu_agrees (pdu.Message h) m (apdu a) b more e long p q = not_both m (sym p.0) (sym e)
pdu_agrees (pdu.Message h) m (message x) b more e long p q = ap (λ (k : MessageHead). pdu.Message k) (message_agrees h x b more p.1 q)

-- the head of a body has as many octets as the table says
apdu_sized : (a : ApduValue) → apdu_head_size (apdu_head a) ≡ length (head_of a)
apdu_sized (confirmed_request request service) = refl
apdu_sized (unconfirmed_request service) = refl
apdu_sized (simple_ack invoke choice) = refl
apdu_sized (complex_ack invoke service) = refl
apdu_sized (segment_ack invoke nak srv seq size) = refl
apdu_sized (error invoke service) = refl
apdu_sized (reject invoke reason) = refl
apdu_sized (abort invoke srv reason) = refl
apdu_sized (segment (Request request) seq size more choice piece) = refl
apdu_sized (segment (Ack invoke) seq size more choice piece) = refl

sized : (x : BodyValue) → pdu_head_size (pdu_head x) ≡ body_head_size x
sized (apdu a) = apdu_sized a
sized (message m) = refl

body_has : (x : BodyValue) (b : List ℕ) → SpellsBody x b → HasPduHead (is_message x) b
body_has (apdu a) b p = apdu_has a b p
body_has (message m) b p = message_has m b p

-- ---- a frame that is there as a whole

frame_has : (f : FrameValue) (octets : List ℕ) → SpellsFrame f octets → HasPdu octets
frame_has f octets p = record {
  npci = record {
    control = p.control;
    destination = f.destination;
    source = f.source;
    rest = p.body;
    is_head = record {
      octets_are = p.octets_are ∙ ap (λ (l : List ℕ). 1 ∷ p.control ∷ l) (addresses_then f.destination f.source p.body);
      destination = p.is_control.destination;
      source = p.is_control.source;
      address = p.has_address;
    };
  };
  head = subst (λ (m : Bool). HasPduHead m p.body) (sym (flag_told 7 p.control (is_message f.body) p.is_control.message)) (body_has f.body p.body p.is_body);
}

pub whole_known : (octets : List ℕ) (r : Known) → IsReach octets r → (f : FrameValue) → SpellsFrame f octets → IsWhole r
whole_known octets known.Nothing reach f p = let h = (frame_has f octets p).npci in reach (h.control, behind_control h.destination h.source h.rest, h.is_head.octets_are)
whole_known octets (known.Control control) reach f p = reach.1 (frame_has f octets p).npci
whole_known octets (known.Addresses npci) reach f p = reach.1 (frame_has f octets p)
whole_known octets (known.Pdu npci head size) reach f p = tt

-- ---- the addresses, and what is after them

module _ (octets : List ℕ) (npci : Npci) (s : SaysNpci npci octets) (back : List ℕ) (is : back ≡ drop npci.size octets) where
  abbrev to : Option DestinationValue
  to = destination_read npci.destination

  abbrev from : Option SourceValue
  from = address_read npci.source

  back_is : back ≡ s.rest
  back_is = is ∙ rest_is octets s.control to from s.rest s.is_head.octets_are npci.size s.size

  npci_agrees : (k : ℕ) (f : FrameValue) (more : List ℕ) → SpellsFrame f (take (npci.size + k) octets ++ more) → IsNpciOf f npci × SpellsBody f.body (take k s.rest ++ more)
  npci_agrees k f more p =
      let q = alike f s.control (control_value npci.control) to from (take k s.rest ++ more) s.is_control s.is_head.destination s.is_head.source
      (subst (SpellsFrame f) (taken octets s.control to from s.rest s.is_head.octets_are npci.size s.size k more) p) in
      let same : length (addresses to from) ≡ length (addresses_of f) = λ i. length (addresses (q.1 i) (q.2 i)) in
      (record { control = q.0; destination = q.1; source = q.2; size = omega (arith, front_size octets s.control to from s.rest s.is_head.octets_are npci.size s.size, same) }, q.3)

  pub addresses_known : (f : FrameValue) (more : List ℕ) → SpellsFrame f (take npci.size octets ++ more) → IsNpciOf f npci
  addresses_known f more p =
      let all : npci.size ≡ npci.size + 0 = omega arith in
      (npci_agrees 0 f more (subst (λ (n : ℕ). SpellsFrame f (take n octets ++ more)) all p)).0

  pub pdu_known : (h : PduHead) (size : ℕ) → IsPduRead npci.control.message back (Some h) → size ≡ npci.size + pdu_head_size h → (f : FrameValue) (more : List ℕ) → SpellsFrame f (take size octets ++ more) → IsKnownOf f (known.Pdu npci h size)
  pdu_known h size read e f more p =
      let q = npci_agrees (pdu_head_size h) f more (subst (λ (n : ℕ). SpellsFrame f (take n octets ++ more)) e p) in
      let m : is_message f.body ≡ npci.control.message = sym (ap (λ (c : ControlValue). c.message) q.0.control) in
      let body = subst (λ (l : List ℕ). SpellsBody f.body (take (pdu_head_size h) l ++ more)) (sym back_is) q.1 in
      let same : h ≡ pdu_head f.body = pdu_agrees h npci.control.message f.body back more m (pdu_long h npci.control.message back read.0 read.1) read.0 body in
      let long : pdu_head_size h ≡ body_head_size f.body = ap pdu_head_size same ∙ sized f.body in
      (q.0, same, e ∙ ap (λ (n : ℕ). npci.size + n) long)

  npci_has : HasNpci octets
  npci_has = record { control = s.control; destination = to; source = from; rest = s.rest; is_head = s.is_head }

  message_told : nat_eq (s.control / 2 ^ 7 % 2) 1 ≡ npci.control.message
  message_told = flag_told 7 s.control npci.control.message s.is_control.message

  pub reach_pdu : (h : PduHead) (size : ℕ) → IsPduRead npci.control.message back (Some h) → IsReach octets (known.Pdu npci h size)
  unfolding npci_has
  reach_pdu h size read = record { npci = npci_has; head = subst (λ (m : Bool). HasPduHead m s.rest) (sym message_told) (subst (λ (l : List ℕ). HasPduHead npci.control.message l) back_is read.1) }

  -- another reading of the octets has the same rest, and the same after it
  pub reach_addresses : IsPduRead npci.control.message back None → IsReach octets (known.Addresses npci)
  reach_addresses none = (npci_has, λ h. none (there h))
    where
      there : (h : HasPdu octets) → HasPduHead npci.control.message back
      there h =
          let o = h.npci in
          let both = sym o.is_head.octets_are ∙ s.is_head.octets_are in
          let same : o.control ≡ s.control = ap (λ (l : List ℕ). slice_index l 1) both in
          let a = flag_once 5 s.control (is_there o.destination) (is_there to) (subst (λ (n : ℕ). HasBit 5 (Some (is_there o.destination)) n) same o.is_head.destination) s.is_head.destination in
          let b = flag_once 3 s.control (is_there o.source) (is_there from) (subst (λ (n : ℕ). HasBit 3 (Some (is_there o.source)) n) same o.is_head.source) s.is_head.source in
          let q = addresses_agree o.destination to o.source from o.rest s.rest a b (ap (λ (l : List ℕ). drop 2 l) both) in
          let m : nat_eq (o.control / 2 ^ 7 % 2) 1 ≡ npci.control.message = ap (λ (n : ℕ). nat_eq (n / 2 ^ 7 % 2) 1) same ∙ message_told in
          subst (λ (l : List ℕ). HasPduHead npci.control.message l) (q.2 ∙ sym back_is) (subst (λ (n : Bool). HasPduHead n o.rest) m h.head)
