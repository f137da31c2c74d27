-- Bodies of frames: APDUs and network messages.
use Rattle.std.specs.Prelude.{◌≡◌, ◌≢◌, ◌↔◌, ℕ, true, false, Option, None, List, [], Result, Ok, Err, IfOk, IfErr, OnErr, refl}
use Rattle.std.proofs.Common.{inl, inr, sym, ◌∙◌, ap, subst, arith}
use Rattle.bac_tag.specs.declared.refusals.Refusal.{Refusal}
use Rattle.bac_tag.specs.declared.refusals.Why.{Why}
use Rattle.bac_tag.specs.declared.refusals.Why.TheVariants.{Short, Trailing, PduType, Window, OutOfMemory}
use Rattle.bac_tag.specs.Laws.Octets.{NoGreater-same}
use Rattle.bac_tag.specs.Refusals.{behind}
use Rattle.bac_tag.specs.Spelling.{HasMark, IsWholeRefusal}
use Rattle.bac_tag.proofs.BehindLemmas.{whole_body}
use Rattle.bac_data.specs.Refusals.{IsItemReason}
use Rattle.bac_apdu.specs.FirstOctet.{IsTypePlace, IsWindowPlace}
use Rattle.bac_apdu.specs.Apdus.{ApduValue, SpellsApdu}
use Rattle.bac_apdu.specs.Decoded.{IsApduChecked, IsApduReason, IsMade, begins_small as begins_small_apdu}
use Rattle.bac_npdu_parts.specs.declared.message.NetMessage.{NetMessage}
use Rattle.bac_npdu_parts.specs.Messages.{MessageValue, octets_of, SpellsMessage, message_value}
use Rattle.bac_npdu_parts.specs.Frames.{BodyValue, apdu, message}
use Rattle.bac_npdu_parts.specs.Decoded.{AreMessageOctets, IsMessageReason, IsMessageRefused, IsNoMessage}
use Rattle.bac_npdu_parts.specs.HeadsRead.{SpellsBodyOf, IsBodyChecked, IsBodyFound, IsBodyRefused, IsBodyVisited}
use Rattle.bac_npdu_parts.proofs.NumberLemmas.{numbers_told, message_numbers}

-- what spells the same lists refuses the same
whole_as : {X Y : Type 0} (T : X → List ℕ → Type 0) (S : Y → List ℕ → Type 0) (b : List ℕ) (r : Refusal) → ((y : Y) (c : List ℕ) → S y c → (x : X) × T x c) → ((x : X) (c : List ℕ) → T x c → (y : Y) × S y c) → IsWholeRefusal S b r → IsWholeRefusal T b r
whole_as T S b r every only h =
    let same : behind 0 r ≡ r = ap (λ (n : ℕ). record { place = n; why = r.why }) (omega arith) in
    subst (IsWholeRefusal T b) same (whole_body T S [] b r every only h)

-- ---- network messages

message_body : (m : MessageValue) (b : List ℕ) → SpellsMessage m b → (x : BodyValue) × SpellsBodyOf true x b
message_body m b s = (message m, (refl, s))

body_message : (x : BodyValue) (b : List ℕ) → SpellsBodyOf true x b → (m : MessageValue) × SpellsMessage m b
body_message (apdu a) b s = absurd (let i : false ≡ true = s.0 in cc)
body_message (message m) b s = (m, s.1)

message_reason : (w : Why) → IsMessageReason w → IsApduReason w
message_reason w (inl e) = inr (inr (inr (inr (subst IsItemReason (sym e) tt))))
message_reason w (inr (inl e)) = inr (inr (inr (inl e)))
message_reason w (inr (inr e)) = inr (inr (inl e))

message_tells_no_type : (w : Why) → IsMessageReason w → w ≡ PduType → ⊥
message_tells_no_type w (inl h) e = let i : PduType ≡ Short = sym e ∙ h in cc
message_tells_no_type w (inr (inl h)) e = let i : PduType ≡ Trailing = sym e ∙ h in cc
message_tells_no_type w (inr (inr h)) e = let i : PduType ≡ OutOfMemory = sym e ∙ h in cc

message_tells_no_window : (w : Why) → IsMessageReason w → w ≡ Window → ⊥
message_tells_no_window w (inl h) e = let i : Window ≡ Short = sym e ∙ h in cc
message_tells_no_window w (inr (inl h)) e = let i : Window ≡ Trailing = sym e ∙ h in cc
message_tells_no_window w (inr (inr h)) e = let i : Window ≡ OutOfMemory = sym e ∙ h in cc

pub message_refused : (b : List ℕ) (r : Refusal) → IsMessageRefused b r → IsBodyRefused true b r
message_refused b r h = record {
  refused = λ w. whole_as (SpellsBodyOf true) SpellsMessage b r message_body body_message (h.refused w);
  memory = h.memory;
  of_type = (λ e. absurd (message_tells_no_type r.why h.reason e), λ p. absurd (let i : true ≡ false = p.0 in cc));
  of_window = (λ e. absurd (message_tells_no_window r.why h.reason e), λ p. absurd (let i : true ≡ false = p.0 in cc));
  reason = message_reason r.why h.reason;
}

pub message_once : (m : MessageValue) (b c : List ℕ) → SpellsMessage m b → SpellsMessage m c → b ≡ c
message_once m b c p q = numbers_told (octets_of m) b (message_numbers m) p.1 ∙ sym (numbers_told (octets_of m) c (message_numbers m) q.1)

pub message_found : (m : NetMessage) (b : List ℕ) → SpellsMessage (message_value m) b → IsBodyFound true b (message (message_value m)) None
message_found m b s = record {
  is = refl;
  spelled = s;
  marked = record { least = b; is_least = record { member = s; least = λ c p. NoGreater-same b c (message_once (message_value m) b c s p) }; is_mark = refl };
}

-- ---- APDUs

apdu_body : (a : ApduValue) (b : List ℕ) → SpellsApdu a b → (x : BodyValue) × SpellsBodyOf false x b
apdu_body a b s = (apdu a, (refl, s))

body_apdu : (x : BodyValue) (b : List ℕ) → SpellsBodyOf false x b → (a : ApduValue) × SpellsApdu a b
body_apdu (apdu a) b s = (a, s.1)
body_apdu (message m) b s = absurd (let i : true ≡ false = s.0 in cc)

pub apdu_refused : (b : List ℕ) (r : Refusal) → (r.why ≢ OutOfMemory → IsWholeRefusal SpellsApdu b r) → (r.why ≡ OutOfMemory → (r.place ≡ 0) × (begins_small_apdu b ≡ false)) → ((r.why ≡ PduType) ↔ IsTypePlace b r.place) → ((r.why ≡ Window) ↔ IsWindowPlace b r.place) → IsApduReason r.why → IsBodyRefused false b r
apdu_refused b r refused memory types windows reason = record {
  refused = λ w. whole_as (SpellsBodyOf false) SpellsApdu b r apdu_body body_apdu (refused w);
  memory = memory;
  of_type = (λ e. (refl, types.0 e), λ p. types.1 p.1);
  of_window = (λ e. (refl, windows.0 e), λ p. windows.1 p.1);
  reason = reason;
}

pub apdu_found : (a : ApduValue) (b : List ℕ) (mark : Option ℕ) → SpellsApdu a b → HasMark (SpellsApdu a) b mark → IsBodyFound false b (apdu a) mark
apdu_found a b mark s m = record { is = refl; spelled = s; marked = m }

-- what visiting the APDU gives
pub apdu_visited : {P M : Type 0} (f : ApduValue → Option ℕ → P → P → M → Type 0) (g : BodyValue → Option ℕ → P → P → M → Type 0) (b : List ℕ) (old new : P) (r : Result M Refusal) → ((a : ApduValue) (mark : Option ℕ) (made : M) → f a mark old new made → g (apdu a) mark old new made)
    → IfOk r (IsMade f b old new) → IfErr r (λ e. e.why ≢ OutOfMemory → IsWholeRefusal SpellsApdu b e) → IfErr r (λ e. e.why ≡ OutOfMemory → (e.place ≡ 0) × (begins_small_apdu b ≡ false)) → IfErr r (λ e. (e.why ≡ PduType) ↔ IsTypePlace b e.place)
    → IfErr r (λ e. (e.why ≡ Window) ↔ IsWindowPlace b e.place) → IfErr r (λ e. IsApduReason e.why) → OnErr r (new ≡ old) → IsBodyVisited g false b old new r
apdu_visited f g b old new (Ok made) every m refused memory types windows reasons same = record { body = apdu m.value; mark = m.mark; found = apdu_found m.value b m.mark m.spelled m.marked; made_of = every m.value m.mark made m.made_of }
apdu_visited f g b old new (Err e) every m refused memory types windows reasons same = (apdu_refused b e refused memory types windows reasons, same)

-- ---- bodies that are checked and not made

pub message_checked : (b : List ℕ) → AreMessageOctets b → (x : BodyValue) × IsBodyFound true b x None
message_checked b h = (
  message h.message,
  record {
    is = refl;
    spelled = h.spelled;
    marked = record { least = b; is_least = record { member = h.spelled; least = λ c p. NoGreater-same b c (message_once h.message b c h.spelled p) }; is_mark = refl };
  },
)

pub message_no_memory : (b : List ℕ) (r : Refusal) → IsNoMessage b r → IsBodyRefused true b r × (r.why ≢ OutOfMemory)
message_no_memory b r h = (message_refused b r (record { refused = λ w. h.refused; memory = λ e. absurd (h.memory e); reason = h.reason }), h.memory)

pub apdu_checked : (b : List ℕ) (r : Result (Option ℕ) Refusal) → IsApduChecked b r → IsBodyChecked false b r
apdu_checked b (Ok mark) h = (apdu h.value, apdu_found h.value b mark h.spelled h.marked)
apdu_checked b (Err e) (h, other) = (apdu_refused b e h.refused h.memory h.reasoned.of_type h.reasoned.of_window h.reasoned.others, other)
