-- The steps of decoding a frame.
use Rattle.std.specs.Prelude.{◌≡◌, ◌≢◌, ◌⊎◌, ℕ, ◌/◌, ◌%◌, ◌^◌, ◌<◌, List, drop, slice_index, Bool, true, false, Option, Some, None, IfOk, IfErr, Result, Ok, Err, refl}
use Rattle.std.proofs.Common.{inl, inr, sym, ◌∙◌, subst, arith}
use Rattle.std.proofs.Math.Dec.{eqb}
use Rattle.std.proofs.lemmas.Bool.{eq-eqb, eqb-true}
use Rattle.bac_tag.specs.declared.refusals.Refusal.{Refusal}
use Rattle.bac_tag.specs.declared.refusals.Why.{Why}
use Rattle.bac_tag.specs.declared.refusals.Why.TheVariants.{Trailing, Version, Address, PduType, Window, OutOfMemory, NotCanonical}
use Rattle.bac_tag.specs.Octets.{joined_mark}
use Rattle.bac_tag.specs.Refusals.{behind}
use Rattle.bac_tag.specs.Spelling.{IsLeast, HasMark}
use Rattle.bac_tag.specs.HeadOctets.{bit_of, HasBit}
use Rattle.bac_apdu.specs.Apdus.{ApduValue}
use Rattle.bac_npdu_parts.specs.declared.frame.Frame.{Frame}
use Rattle.bac_npdu_parts.specs.declared.frame_heads.HeadRead.{HeadRead}
use Rattle.bac_npdu_parts.specs.Control.{least_of}
use Rattle.bac_npdu_parts.specs.Decoded.{begins_small, IsFrameReason, IsRefused, IsFound, IsDecoded, IsDecodedAlone}
use Rattle.bac_npdu_parts.specs.FrameHeads.{address_read, destination_read}
use Rattle.bac_npdu_parts.specs.Frames.{BodyValue, FrameValue, SpellsFrame, apdu, value_of}
use Rattle.bac_npdu_parts.specs.HeadsRead.{control_octet, control_at, IsControlMark, IsHeadOf, IsBodyFound, IsBodyRefused}
use Rattle.bac_npdu_parts.proofs.FrameReadLemmas.{behind_refused, behind_memory, behind_found}
use Rattle.bac_npdu.specs.Steps.{IsFrameOf, IsStrictlyRefused, IsStrictlyDecoded}

-- each control octet has a mark
pub control_mark : (c : ℕ) → (o : Option ℕ) × IsControlMark c o
control_mark c = told (eqb c (least_of (control_at c))) refl
  where
    told : (e : Bool) → eqb c (least_of (control_at c)) ≡ e → (o : Option ℕ) × IsControlMark c o
    told true e = (None, eqb-true c (least_of (control_at c)) e)
    told false e = (Some 1, (refl, λ same. absurd (let i : true ≡ false = sym (eq-eqb c (least_of (control_at c)) same) ∙ e in cc)))

-- and each octet has a second bit
bit_told : (n : ℕ) → n < 2 → n ≡ bit_of (eqb n 1)
bit_told n lt = told (eqb n 1) refl
  where
    told : (e : Bool) → eqb n 1 ≡ e → n ≡ bit_of e
    told true q = eqb-true n 1 q
    told false q = let apart : n ≢ 1 = λ same. absurd (let i : true ≡ false = sym (eq-eqb n 1 same) ∙ q in cc) in omega (arith, apart)

-- a head that was read and an APDU make a frame
pub frame_there : (front : HeadRead) (a : ApduValue) → (f : FrameValue) × IsFrameOf front a f
frame_there front a =
    let control = control_octet front.control in (
      record { reply = eqb (control / 2 ^ 2 % 2) 1; priority = control % 4; destination = destination_read front.destination; source = address_read front.source; body = apdu a },
      record { reply = bit_told (control / 2 ^ 2 % 2) (omega arith); priority = refl; destination = refl; source = refl; body = refl },
    )

is_memory : (w : Why) → (w ≡ OutOfMemory) ⊎ (w ≢ OutOfMemory)
is_memory OutOfMemory = inl refl
is_memory w = inr (λ e. cc)

-- ---- behind a head that was read

module _ (octets : List ℕ) (small : (k : ℕ) → slice_index octets k < 256) (front : HeadRead) (h : IsHeadOf octets front) (m : Bool) (bit : HasBit 7 (Some m) (control_octet front.control)) (back : List ℕ) (is : back ≡ drop front.size octets) where
  -- the refusal of a body, as that of the frame
  pub front_refused : (r made : Refusal) → IsBodyRefused m back r → (r.why ≡ OutOfMemory → made ≡ r) → (r.why ≢ OutOfMemory → made ≡ behind front.size r) → IsRefused octets made
  front_refused r made e memory moved = told (is_memory r.why)
    where
      told : (r.why ≡ OutOfMemory) ⊎ (r.why ≢ OutOfMemory) → IsRefused octets made
      told (inl why) = subst (IsRefused octets) (sym (memory why)) (behind_memory octets small (control_octet front.control) (destination_read front.destination) (address_read front.source) h.rest h.is_head front.size h.size m bit back is r e why)
      told (inr why) = subst (IsRefused octets) (sym (moved why)) (behind_refused octets small (control_octet front.control) (destination_read front.destination) (address_read front.source) h.rest h.is_head front.size h.size m bit back is r e why)

  -- the frame of this head and of an APDU
  pub front_found : (a : ApduValue) (f : FrameValue) (first mark : Option ℕ) → IsBodyFound m back (apdu a) mark → IsControlMark (control_octet front.control) first → IsFrameOf front a f → SpellsFrame f octets × HasMark (SpellsFrame f) octets (joined_mark first front.size mark)
  front_found a f first mark found control of =
      behind_found octets small (control_octet front.control) (destination_read front.destination) (address_read front.source) h.rest h.is_head front.size h.size m bit back is
      (record { reply = f.reply; priority = f.priority; destination = f.destination; source = f.source }) f.body first mark (subst (λ (x : BodyValue). IsBodyFound m back x mark) (sym of.body) found) control of.reply of.priority of.destination of.source

-- ---- what is said of a result

-- what holds of the frame, and what holds of each refusal
pub if_found : {T : Frame → Type 0} (octets : List ℕ) (result : Result Frame Refusal) → IsDecodedAlone octets result → ((frame : Frame) → SpellsFrame (value_of frame) octets → T frame) → IfOk result T
if_found octets (Ok frame) d told = told frame d
if_found octets (Err refusal) d told = tt

pub if_refused : {T : Refusal → Type 0} (octets : List ℕ) (result : Result Frame Refusal) → IsDecodedAlone octets result → ((refusal : Refusal) → IsRefused octets refusal → T refusal) → IfErr result T
if_refused octets (Ok frame) d told = tt
if_refused octets (Err refusal) d told = told refusal d

pub if_found_marked : {T : Frame × Option ℕ → Type 0} (octets : List ℕ) (result : Result (Frame × Option ℕ) Refusal) → IsDecoded octets result → ((found : Frame × Option ℕ) → IsFound octets found.0 found.1 → T found) → IfOk result T
if_found_marked octets (Ok found) d told = told found d
if_found_marked octets (Err refusal) d told = tt

pub if_refused_marked : {T : Refusal → Type 0} (octets : List ℕ) (result : Result (Frame × Option ℕ) Refusal) → IsDecoded octets result → ((refusal : Refusal) → IsRefused octets refusal → T refusal) → IfErr result T
if_refused_marked octets (Ok found) d told = tt
if_refused_marked octets (Err refusal) d told = told refusal d

pub if_found_strictly : {T : Frame → Type 0} (octets : List ℕ) (result : Result Frame Refusal) → IsStrictlyDecoded octets result → ((frame : Frame) → IsLeast (SpellsFrame (value_of frame)) octets → T frame) → IfOk result T
if_found_strictly octets (Ok frame) d told = told frame d
if_found_strictly octets (Err refusal) d told = tt

pub if_refused_strictly : {T : Refusal → Type 0} (octets : List ℕ) (result : Result Frame Refusal) → IsStrictlyDecoded octets result → ((refusal : Refusal) → IsStrictlyRefused octets refusal → T refusal) → IfErr result T
if_refused_strictly octets (Ok frame) d told = tt
if_refused_strictly octets (Err refusal) d told = told refusal d

-- ---- canonical octets alone

-- octets that spell no frame are not refused for not being canonical
no_reason : IsFrameReason NotCanonical → ⊥
no_reason (inl e) = let i : NotCanonical ≡ Version = e in cc
no_reason (inr (inl e)) = let i : NotCanonical ≡ Address = e in cc
no_reason (inr (inr (inl e))) = let i : NotCanonical ≡ PduType = e in cc
no_reason (inr (inr (inr (inl e)))) = let i : NotCanonical ≡ Window = e in cc
no_reason (inr (inr (inr (inr (inl e))))) = let i : NotCanonical ≡ OutOfMemory = e in cc
no_reason (inr (inr (inr (inr (inr (inl e)))))) = let i : NotCanonical ≡ Trailing = e in cc
no_reason (inr (inr (inr (inr (inr (inr h)))))) = h

pub strictly : (octets : List ℕ) (refusal : Refusal) → IsRefused octets refusal → IsStrictlyRefused octets refusal
strictly octets refusal e = record { flaw = λ why. absurd (no_reason (subst IsFrameReason why e.reasoned.others)); refused = λ other. e }

-- memory is refused as by decode_frame
pub strict_memory : (octets : List ℕ) (refusal : Refusal) → IsStrictlyRefused octets refusal → refusal.why ≡ OutOfMemory → (refusal.place ≡ 0) × (begins_small octets ≡ false)
strict_memory octets refusal e why = (e.refused (λ other. let i : OutOfMemory ≡ NotCanonical = sym why ∙ other in cc)).memory why
