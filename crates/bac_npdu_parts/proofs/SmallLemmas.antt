-- Frames that are small, told by their octets.
use Rattle.std.specs.Prelude.{◌≡◌, ℕ, ◌+◌, nat_eq, nat_le, cond, ◌&&◌, Bool, true, false, Option, Some, None, List, [], ◌∷◌, ◌++◌, length, drop, slice_index}
use Rattle.std.proofs.Common.{◌∙◌, ap, arith, subst}
use Rattle.std.proofs.Math.Seq.{drop-append_seam}
use Rattle.std.proofs.lemmas.Bool.Decides.{nat_tests}
use Rattle.bac_tag.specs.HeadOctets.{HasBit}
use Rattle.bac_apdu.specs.Apdus.{ApduValue, SpellsApdu}
use Rattle.bac_apdu.specs.Decoded.{begins_small as begins_small_apdu, is_small as is_small_apdu}
use Rattle.bac_npdu_parts.specs.Addresses.{SourceValue, DestinationValue, source_octets, hops_octets, address_of}
use Rattle.bac_npdu_parts.specs.Messages.{MessageValue, init_table_ack, opaque, type_of, SpellsMessage}
use Rattle.bac_npdu_parts.specs.Heads.{says_message, says_destination, says_source, source_place, body_place}
use Rattle.bac_npdu_parts.specs.HeadsRead.{behind_control}
use Rattle.bac_npdu_parts.specs.Frames.{BodyValue, apdu, message, FrameValue, is_there, is_message, SpellsBody, SpellsFrame}
use Rattle.bac_npdu_parts.specs.Decoded.{few_octets, small_message, begins_small_message, begins_small, is_short_address, is_small_message, is_small_body, is_small}
use Rattle.bac_npdu_parts.proofs.MessageLemmas.{nothing_spells}
use Rattle.bac_npdu_parts.proofs.UntypedLemmas.{untyped_large}
use Rattle.bac_npdu_parts.proofs.FrameReadLemmas.{front_of, front_then}
use Rattle.bac_npdu_parts.proofs.HeadLemmas.{flag_told}
use Rattle.bac_npdu_parts.proofs.HeadRefusedLemmas.{HasParts, parts_of}
use Rattle.bac_npdu_parts.proofs.PlaceLemmas.{addresses, at_body, length_at, as_address}
use Rattle.bac_npdu_parts.proofs.FrameLemmas.{framed_tail, framed_long}

-- ---- network messages

more_than_one : (count : ℕ) → nat_eq (count + 2) 1 ≡ false
more_than_one count = grind (arith, nat_tests)

kind_small : (o kind count : ℕ) → o ≡ kind → small_message o count ≡ small_message kind count
kind_small o kind count e = ap (λ (k : ℕ). small_message k count) e

first_small : (m : MessageValue) (o : ℕ) (b : List ℕ) → SpellsMessage m (o ∷ b) → begins_small_message (o ∷ b) ≡ is_small_message m
first_small (init_table_ack None) o b s = kind_small o 7 (length (o ∷ b)) s.1.0.0 ∙ ap (λ (l : List ℕ). small_message 7 (length (o ∷ l))) s.1.1
first_small (init_table_ack (Some ports)) o [] s = absurd s.1.1
first_small (init_table_ack (Some ports)) o (p ∷ b) s =
    kind_small o 7 (length (o ∷ p ∷ b)) s.1.0.0 ∙ ap (λ (n : ℕ). small_message 7 n) (let e : length (o ∷ p ∷ b) ≡ length b + 2 = omega arith in e) ∙ more_than_one (length b)
first_small (opaque m) o b s = kind_small o m.kind (length (o ∷ b)) s.1.0.0 ∙ untyped_large m.kind (length (o ∷ b)) s.0.0
first_small m o b s = kind_small o (type_of m) (length (o ∷ b)) s.1.0.0

message_small : (m : MessageValue) (b : List ℕ) → SpellsMessage m b → begins_small_message b ≡ is_small_message m
message_small m [] s = absurd (nothing_spells m s)
message_small m (o ∷ b) s = first_small m o b s

-- ---- what stands in front of a body

-- an address of at most seven octets
few_destination : (c : ℕ) (d : Option DestinationValue) (r : List ℕ) → HasBit 5 (Some (is_there d)) c
    → few_octets (says_destination (1 ∷ c ∷ (source_octets (address_of d) ++ r))) 2 (1 ∷ c ∷ (source_octets (address_of d) ++ r)) ≡ is_short_address (address_of d)
few_destination c None r bit = ap (λ (f : Bool). cond f (nat_le (slice_index (1 ∷ c ∷ r) 4) 7) true) (flag_told 5 c false bit)
few_destination c (Some d) r bit = ap (λ (f : Bool). cond f (nat_le (length d.address) 7) true) (flag_told 5 c true bit)

few_source : (c : ℕ) (d : Option DestinationValue) (s : Option SourceValue) (rest : List ℕ) → HasBit 5 (Some (is_there d)) c → HasBit 3 (Some (is_there s)) c
    → few_octets (says_source (1 ∷ c ∷ behind_control d s rest)) (source_place (1 ∷ c ∷ behind_control d s rest)) (1 ∷ c ∷ behind_control d s rest) ≡ is_short_address s
few_source c d None rest to bit =
    let o = 1 ∷ c ∷ behind_control d None rest in ap (λ (f : Bool). cond f (nat_le (slice_index o (source_place o + 2)) 7) true) (flag_told 3 c false bit)
few_source c d (Some s) rest to bit =
    let o = 1 ∷ c ∷ behind_control d (Some s) rest in
    ap (λ (f : Bool). cond f (nat_le (slice_index o (source_place o + 2)) 7) true) (flag_told 3 c true bit)
    ∙ ap (λ (n : ℕ). nat_le n 7) (length_at c (address_of d) (source_octets (Some s) ++ (hops_octets d ++ rest)) (as_address c d to))

rest_behind : (c : ℕ) (d : Option DestinationValue) (s : Option SourceValue) (rest : List ℕ) → HasBit 5 (Some (is_there d)) c → HasBit 3 (Some (is_there s)) c
    → drop (body_place (1 ∷ c ∷ behind_control d s rest)) (1 ∷ c ∷ behind_control d s rest) ≡ rest
rest_behind c d s rest to from =
    let size : 2 + length (addresses d s) ≡ length (front_of c d s) = omega arith in
    ap (λ (n : ℕ). drop n (1 ∷ c ∷ behind_control d s rest)) (at_body c d s rest to from ∙ size) ∙ ap (λ (l : List ℕ). drop (length (front_of c d s)) l) (front_then c d s rest) ∙ drop-append_seam (front_of c d s) rest

-- ---- frames

module _ (apdus : (v : ApduValue) (b : List ℕ) → SpellsApdu v b → begins_small_apdu b ≡ is_small_apdu v) where
  body_small : (x : BodyValue) (b : List ℕ) → SpellsBody x b → cond (is_message x) (begins_small_message b) (begins_small_apdu b) ≡ is_small_body x
  body_small (apdu a) b s = apdus a b s
  body_small (message m) b s = message_small m b s

  by_parts : (f : FrameValue) (c : ℕ) (b : List ℕ) → HasParts f c b → begins_small (1 ∷ c ∷ b) ≡ is_small f
  by_parts f c b p =
      let o = 1 ∷ c ∷ behind_control f.destination f.source p.rest in
      let told : begins_small (1 ∷ c ∷ b) ≡ begins_small o = ap (λ (l : List ℕ). begins_small (1 ∷ c ∷ l)) p.octets_are in
      let to = few_destination c f.destination (source_octets f.source ++ (hops_octets f.destination ++ p.rest)) p.control.destination in
      let from = few_source c f.destination f.source p.rest p.control.destination p.control.source in
      let behind : cond (says_message o) (begins_small_message (drop (body_place o) o)) (begins_small_apdu (drop (body_place o) o)) ≡ is_small_body f.body =
      ap (λ (l : List ℕ). cond (says_message o) (begins_small_message l) (begins_small_apdu l)) (rest_behind c f.destination f.source p.rest p.control.destination p.control.source)
      ∙ ap (λ (t : Bool). cond t (begins_small_message p.rest) (begins_small_apdu p.rest)) (flag_told 7 c (is_message f.body) p.control.message) ∙ body_small f.body p.rest p.body in
      told
      ∙ ap (λ (t : Bool). t && (few_octets (says_source o) (source_place o) o && cond (says_message o) (begins_small_message (drop (body_place o) o)) (begins_small_apdu (drop (body_place o) o)))) to
      ∙ ap (λ (t : Bool). is_short_address (address_of f.destination) && (t && cond (says_message o) (begins_small_message (drop (body_place o) o)) (begins_small_apdu (drop (body_place o) o)))) from
      ∙ ap (λ (t : Bool). is_short_address (address_of f.destination) && (is_short_address f.source && t)) behind

  pub frame_small : (f : FrameValue) (b : List ℕ) → SpellsFrame f b → begins_small b ≡ is_small f
  frame_small f [] s = absurd (omega (arith, framed_long f [] s))
  frame_small f (v ∷ []) s = absurd (omega (arith, framed_long f (v ∷ []) s))
  frame_small f (v ∷ c ∷ b) s =
      let one = (framed_tail f v c b s).0 in
      ap (λ (n : ℕ). begins_small (n ∷ c ∷ b)) one ∙ by_parts f c b (parts_of f c b (subst (λ (n : ℕ). SpellsFrame f (n ∷ c ∷ b)) one s))
