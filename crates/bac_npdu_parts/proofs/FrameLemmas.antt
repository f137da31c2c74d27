-- The canonical octets of frames.
use Rattle.std.specs.Prelude.{◌≡◌, ℕ, ◌<◌, ◌≤◌, Bool, true, false, List, [], ◌∷◌, ◌++◌, length, slice_index, drop, Result, Ok, Err, OnOk, OnErr, refl}
use Rattle.std.proofs.Common.{sym, ◌∙◌, ap, subst, append_assoc, append-nil, get_or, arith}
use Rattle.bac_tag.specs.Octets.{IsOctets, NoGreater, Extends}
use Rattle.bac_tag.specs.Laws.Octets.{NoGreater-append, NoGreater-same, one_no_greater, octets_front, octets_back}
use Rattle.bac_tag.specs.Spelling.{IsLeast, AppendsLeast}
use Rattle.bac_tag.specs.HeadOctets.{bit_of, least_head}
use Rattle.bac_tag.proofs.HeadOctetLemmas.{headed_least}
use Rattle.bac_productions.specs.Laws.Least.{extends_more}
use Rattle.bac_service.specs.Laws.Service.{octets_held}
use Rattle.bac_npdu_parts.specs.Addresses.{HasAddress}
use Rattle.bac_npdu_parts.specs.Messages.{MessageValue, octets_of, IsMessage, SpellsMessage}
use Rattle.bac_npdu_parts.specs.Control.{ControlValue, IsControl, least_of}
use Rattle.bac_npdu_parts.specs.Frames.{BodyValue, FrameValue, control_of, addresses_of, SpellsBody, Framed, SpellsFrame}
use Rattle.bac_npdu_parts.proofs.NumberLemmas.{numbers_parts, message_numbers}

bit_small : (f : Bool) → bit_of f ≤ 1
bit_small true = omega arith
bit_small false = omega arith

pub control_spelled : (c : ControlValue) → c.priority < 4 → IsControl c (least_of c)
control_spelled c h =
    let x = bit_small c.message in
    let y = bit_small c.destination in
    let z = bit_small c.source in
    let w = bit_small c.reply in
    record { small = omega (arith, h); message = omega (arith, h); destination = omega (arith, h); source = omega (arith, h); reply = omega (arith, h); priority = omega (arith, h) }

pub control_lowest : (c : ControlValue) (o : ℕ) → IsControl c o → least_of c ≤ o
control_lowest c o h = omega (arith, h.small, h.message, h.destination, h.source, h.reply, h.priority)

-- the canonical octets before a body
abbrev pub least_before : FrameValue → List ℕ
least_before f = 1 ∷ least_of (control_of f) ∷ addresses_of f

before_no_greater : (f : FrameValue) (c : ℕ) → IsControl (control_of f) c → NoGreater (least_before f) (1 ∷ c ∷ addresses_of f)
before_no_greater f c h =
    let low = least_of (control_of f) in
    let octets = NoGreater-append (low ∷ []) (c ∷ []) (addresses_of f) (addresses_of f) (one_no_greater low c (control_lowest (control_of f) c h)) (NoGreater-same (addresses_of f) (addresses_of f) refl) in
    NoGreater-append (1 ∷ []) (1 ∷ []) (low ∷ addresses_of f) (c ∷ addresses_of f) (one_no_greater 1 1 (omega arith)) octets

-- with the least lists that are its body, a frame has its least spelling
pub framed_least : (f : FrameValue) (B : List ℕ → Type 0) (b : List ℕ) → HasAddress f.source → f.priority < 4 → IsOctets (addresses_of f) → IsLeast B b → IsLeast (Framed f B) (least_before f ++ b)
framed_least f B b a p o L = record {
  member = record { control = least_of (control_of f); body = b; octets_are = refl; is_control = control_spelled (control_of f) p; are_octets = o; has_address = a; is_body = L.member };
  least = λ d h. subst (NoGreater (least_before f ++ b)) (sym h.octets_are)
      (NoGreater-append (least_before f) (1 ∷ h.control ∷ addresses_of f) b h.body (before_no_greater f h.control h.is_control) (L.least h.body h.is_body));
}

pub frame_least : (f : FrameValue) (b : List ℕ) → HasAddress f.source → f.priority < 4 → IsOctets (addresses_of f) → IsLeast (SpellsBody f.body) b → IsLeast (SpellsFrame f) (least_before f ++ b)
frame_least f b a p o L = framed_least f (SpellsBody f.body) b a p o L

-- another set of lists that has the body
pub framed_as : {A B : List ℕ → Type 0} (f : FrameValue) (b : List ℕ) → ((c : List ℕ) → A c → B c) → Framed f A b → Framed f B b
framed_as f b to h = record { control = h.control; body = h.body; octets_are = h.octets_are; is_control = h.is_control; are_octets = h.are_octets; has_address = h.has_address; is_body = to h.body h.is_body }

-- the octets of a frame, from the control octet on
pub framed_tail : {B : List ℕ → Type 0} (f : FrameValue) (v c : ℕ) (b : List ℕ) (h : Framed f B (v ∷ c ∷ b)) → (v ≡ 1) × (c ≡ h.control) × (b ≡ addresses_of f ++ h.body)
framed_tail f v c b h = (ap (λ (l : List ℕ). slice_index l 0) h.octets_are, ap (λ (l : List ℕ). slice_index l 1) h.octets_are, ap (λ (l : List ℕ). drop 2 l) h.octets_are)

-- a frame has two octets at least
pub framed_long : {B : List ℕ → Type 0} (f : FrameValue) (b : List ℕ) → Framed f B b → 2 ≤ length b
framed_long f b h = omega (arith, ap (λ (l : List ℕ). length l) h.octets_are)

-- ---- what is in a vector of octets is octets

pub behind_octets : (old more new : List ℕ) → ((k : ℕ) (d : ℕ) → k < length new → get_or new k d < 256) → new ≡ old ++ more → IsOctets more
behind_octets old more new small e = octets_back old more (subst IsOctets e (octets_held new (λ k lt. small k 0 lt)))

pub between_octets : (old head more new : List ℕ) → ((k : ℕ) (d : ℕ) → k < length new → get_or new k d < 256) → new ≡ (old ++ head) ++ more → IsOctets head
between_octets old head more new small e = octets_back old head (octets_front (old ++ head) more (subst IsOctets e (octets_held new (λ k lt. small k 0 lt))))

-- the octets of a network message are its only spelling
pub message_least : (m : MessageValue) → IsMessage m → IsOctets (least_head (octets_of m)) → IsLeast (SpellsMessage m) (least_head (octets_of m))
message_least m h o =
    let end : IsLeast (λ (rest : List ℕ). rest ≡ []) [] = record { member = refl; least = λ c e. NoGreater-same [] c (sym e) } in
    let all = headed_least (octets_of m) (λ rest. rest ≡ []) [] (numbers_parts (octets_of m) (message_numbers m) o) end in
    subst (IsLeast (SpellsMessage m)) (append-nil (least_head (octets_of m))) (record { member = (h, all.member); least = λ c k. all.least c k.1 })

module _ (f : FrameValue) (old middle new : List ℕ) (small : (k : ℕ) (d : ℕ) → k < length new → get_or new k d < 256) (a : HasAddress f.source) (p : f.priority < 4) (e : middle ≡ old ++ least_before f) where
  pub appends_frame : AppendsLeast (SpellsBody f.body) middle new → AppendsLeast (SpellsFrame f) old new
  appends_frame L =
      let head = least_before f in
      let new_is : new ≡ (old ++ head) ++ L.more = L.new_is ∙ ap (λ (l : List ℕ). l ++ L.more) e in
      let octets = between_octets old head L.more new small new_is in
      record {
        more = head ++ L.more;
        is_least = frame_least f L.more a p octets.1.1 L.is_least;
        new_is = new_is ∙ append_assoc old head L.more;
      }

  pub appends_body : (x : BodyValue) → f.body ≡ x → AppendsLeast (SpellsBody x) middle new → AppendsLeast (SpellsFrame f) old new
  appends_body x same L = appends_frame (subst (λ (y : BodyValue). AppendsLeast (SpellsBody y) middle new) (sym same) L)

pub appends_message : (m : MessageValue) {middle new : List ℕ} → ((k : ℕ) (d : ℕ) → k < length new → get_or new k d < 256) → IsMessage m → new ≡ middle ++ least_head (octets_of m) → AppendsLeast (SpellsMessage m) middle new
appends_message m {middle} {new} small h e = record { more = least_head (octets_of m); is_least = message_least m h (behind_octets middle (least_head (octets_of m)) new small e); new_is = e }

-- what two facts give where it went well
pub on_ok_two : {T E P Q R : Type 0} (r : Result T E) → (P → Q → R) → OnOk r P → OnOk r Q → OnOk r R
on_ok_two (Ok x) f p q = f p q
on_ok_two (Err x) f p q = p

-- what a front is extended by, where as much is appended or nothing is
pub extends_appended : {X E : Type 0} (P : List ℕ → Type 0) (r : Result X E) (a b c : List ℕ) → Extends a b → OnOk r (AppendsLeast P b c) → OnErr r (c ≡ b) → Extends a c
extends_appended P (Ok x) a b c h k l = extends_more a b c h (k.more, k.new_is)
extends_appended P (Err x) a b c h k l = subst (Extends a) (sym l) h
