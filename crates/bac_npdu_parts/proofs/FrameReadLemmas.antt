-- Frames behind heads that were read.
use Rattle.std.specs.Prelude.{◌≡◌, ◌≢◌, ℕ, ◌+◌, ◌/◌, ◌%◌, ◌^◌, ◌<◌, ◌≤◌, nat_eq, nat_le, cond, ◌&&◌, ◌⊎◌, Bool, true, false, Option, Some, None, List, [], ◌∷◌, ◌++◌, length, drop, slice_index, Result, Ok, Err, refl}
use Rattle.std.proofs.Common.{inl, inr, sym, ◌∙◌, ap, subst, append_assoc, arith}
use Rattle.std.proofs.lemmas.List.{length-append}
use Rattle.std.proofs.Math.Seq.{drop-append_seam}
use Rattle.std.proofs.lemmas.Bool.{lt-leb}
use Rattle.bac_tag.specs.declared.refusals.Refusal.{Refusal}
use Rattle.bac_tag.specs.declared.refusals.Why.{Why}
use Rattle.bac_tag.specs.declared.refusals.Why.TheVariants.{Trailing, Version, Address, PduType, Window, OutOfMemory}
use Rattle.bac_tag.specs.Octets.{IsOctets, IsMark, joined_mark}
use Rattle.bac_tag.specs.Laws.Octets.{octets_at, octets_front, octets_back, mark-append, differs_at}
use Rattle.bac_tag.specs.Refusals.{behind}
use Rattle.bac_tag.specs.Spelling.{IsLeast, HasMark, IsWholeRefusal}
use Rattle.bac_tag.specs.HeadOctets.{HasBit}
use Rattle.bac_tag.proofs.BehindLemmas.{whole_body}
use Rattle.bac_apdu.specs.FirstOctet.{IsTypePlace, IsWindowPlace}
use Rattle.bac_apdu.specs.Decoded.{IsApduReason, begins_small as begins_small_apdu}
use Rattle.bac_npdu_parts.specs.declared.frame.Frame.{Frame}
use Rattle.bac_productions.specs.Productions.{IsMarked}
use Rattle.bac_npdu_parts.specs.Addresses.{SourceValue, DestinationValue, HasAddress, address_of, source_octets, hops_octets}
use Rattle.bac_npdu_parts.specs.Control.{least_control, least_of}
use Rattle.bac_npdu_parts.specs.Frames.{BodyValue, FrameValue, is_there, is_message, control_of, SpellsBody, SpellsFrame}
use Rattle.bac_npdu_parts.specs.Heads.{says_message, says_destination, says_source, source_place, body_place, HasHead}
use Rattle.bac_npdu_parts.specs.Decoded.{few_octets, begins_small_message, begins_small, IsReasoned, IsRefused}
use Rattle.bac_npdu_parts.specs.FrameHeads.{HeadValue, frame_with, IsLong, IsShort}
use Rattle.bac_npdu_parts.specs.HeadsRead.{behind_control, IsHead, control_at, IsControlMark, IsBehind, SpellsBodyOf, IsBodyFound, IsBodyRefused}
use Rattle.bac_npdu_parts.proofs.HeadLemmas.{addresses_agree, flag_once, flag_told}
use Rattle.bac_npdu_parts.proofs.PlaceLemmas.{addresses, at_body, length_at, as_address}
use Rattle.bac_npdu_parts.proofs.FrameLemmas.{least_before, frame_least, framed_tail, framed_long}
use Rattle.bac_npdu_parts.proofs.HeadRefusedLemmas.{frame_of, frame_every, parts_of, head_then}

-- ---- the octets in front of the body

abbrev pub front_of : ℕ → Option DestinationValue → Option SourceValue → List ℕ
front_of c d s = 1 ∷ c ∷ addresses d s

pub front_then : (c : ℕ) (d : Option DestinationValue) (s : Option SourceValue) (b : List ℕ) → 1 ∷ c ∷ behind_control d s b ≡ front_of c d s ++ b
front_then c d s b = sym (ap (λ (l : List ℕ). 1 ∷ c ∷ l) (append_assoc (source_octets (address_of d)) (source_octets s ++ hops_octets d) b ∙ ap (λ (l : List ℕ). source_octets (address_of d) ++ l) (append_assoc (source_octets s) (hops_octets d) b)))

-- the mark of the octets in front of the body
front_mark : (c : ℕ) (d : Option DestinationValue) (s : Option SourceValue) (m : Option ℕ) → IsControlMark c m → IsMark (front_of c d s) (front_of (least_of (control_at c)) d s) m
front_mark c d s None e = ap (λ (n : ℕ). 1 ∷ n ∷ addresses d s) e
front_mark c d s (Some place) h =
    let low = least_of (control_at c) in
    let a = 1 ∷ c ∷ addresses d s in
    let b = 1 ∷ low ∷ addresses d s in
    let one : IsMark a b (Some 1) = (omega arith, omega arith, differs_at a b 1 (omega arith) (omega arith) refl h.1) in
    subst (λ (n : ℕ). IsMark a b (Some n)) (sym h.0) one

no_reason : (w x : Why) → w ≡ x → IsApduReason w → IsApduReason x
no_reason w x e r = subst IsApduReason e r

not_version : IsApduReason Version → ⊥
not_version (inl e) = let i : Version ≡ PduType = e in cc
not_version (inr (inl e)) = let i : Version ≡ Window = e in cc
not_version (inr (inr (inl e))) = let i : Version ≡ OutOfMemory = e in cc
not_version (inr (inr (inr (inl e)))) = let i : Version ≡ Trailing = e in cc
not_version (inr (inr (inr (inr h)))) = h

not_address : IsApduReason Address → ⊥
not_address (inl e) = let i : Address ≡ PduType = e in cc
not_address (inr (inl e)) = let i : Address ≡ Window = e in cc
not_address (inr (inr (inl e))) = let i : Address ≡ OutOfMemory = e in cc
not_address (inr (inr (inr (inl e)))) = let i : Address ≡ Trailing = e in cc
not_address (inr (inr (inr (inr h)))) = h

and_false : (b : Bool) → b && false ≡ false
and_false true = refl
and_false false = refl

not_few : (n : ℕ) → 7 < n → nat_le n 7 ≡ false
not_few n lt = lt-leb n 7 lt

-- ---- a head that was read

module _ (octets : List ℕ) (small : (k : ℕ) → slice_index octets k < 256) (c : ℕ) (d : Option DestinationValue) (s : Option SourceValue) (rest : List ℕ) (h : IsHead octets c d s rest) where
  told : octets ≡ 1 ∷ c ∷ behind_control d s rest
  told = h.octets_are

  parted : octets ≡ front_of c d s ++ rest
  parted = told ∙ front_then c d s rest

  are_octets : IsOctets (1 ∷ c ∷ behind_control d s rest)
  are_octets = subst IsOctets told (octets_at octets small)

  are_addresses : IsOctets (behind_control d s [])
  are_addresses = octets_front (behind_control d s []) rest (subst IsOctets (sym (head_then d s rest)) are_octets.1.1)

  size_of : length (front_of c d s) ≡ body_place octets
  size_of = (let e : length (1 ∷ c ∷ addresses d s) ≡ 2 + length (addresses d s) = omega arith in e) ∙ sym (ap body_place told ∙ at_body c d s rest h.destination h.source)

  rest_is : drop (body_place octets) octets ≡ rest
  rest_is = ap (λ (n : ℕ). drop n octets) (sym size_of) ∙ ap (λ (l : List ℕ). drop (length (front_of c d s)) l) parted ∙ drop-append_seam (front_of c d s) rest

  long : length octets ≡ body_place octets + length rest
  long = ap (λ (l : List ℕ). length l) parted ∙ length-append (front_of c d s) rest ∙ ap (λ (n : ℕ). n + length rest) size_of

  says : says_message octets ≡ nat_eq (c / 2 ^ 7 % 2) 1
  says = ap says_message told

  source_there : says_source octets ≡ is_there s
  source_there = ap says_source told ∙ flag_told 3 c (is_there s) h.source

  destination_there : says_destination octets ≡ is_there d
  destination_there = ap says_destination told ∙ flag_told 5 c (is_there d) h.destination

  source_size : (s' : SourceValue) → s ≡ Some s' → slice_index octets (source_place octets + 2) ≡ length s'.address
  source_size s' e =
      ap (λ (l : List ℕ). slice_index l (source_place l + 2)) told ∙ length_at c (address_of d) (source_octets s ++ (hops_octets d ++ rest)) (as_address c d h.destination) ∙ ap (λ (x : Option SourceValue). slice_index (source_octets x ++ (hops_octets d ++ rest)) 2) e

  has_head : HasHead octets
  has_head = record {
    version = ap (λ (l : List ℕ). slice_index l 0) told;
    source = λ t. some s refl (sym source_there ∙ t);
    long = omega (arith, long);
  }
    where
      some : (x : Option SourceValue) → s ≡ x → is_there s ≡ true → 1 ≤ slice_index octets (source_place octets + 2)
      some None e t = absurd (let i : false ≡ true = sym (ap is_there e) ∙ t in cc)
      some (Some s') e t = let a : 1 ≤ length s'.address = subst HasAddress e h.address in omega (arith, a, source_size s' e)

  -- ---- a body that is refused

  module _ (m : Bool) (flag : nat_eq (c / 2 ^ 7 % 2) 1 ≡ m) (bit : HasBit 7 (Some m) c) where
    every : (x : BodyValue) (b : List ℕ) → SpellsBodyOf m x b → (f : FrameValue) × SpellsFrame f (front_of c d s ++ b)
    every x b p = (frame_of c d s x, subst (SpellsFrame (frame_of c d s x)) (front_then c d s b) (frame_every c d s x b are_octets.1.0 (subst (λ (n : Bool). HasBit 7 (Some n) c) (sym p.0) bit) h.destination h.source h.address are_addresses p.1))

    only : (f : FrameValue) (b : List ℕ) → SpellsFrame f (front_of c d s ++ b) → (x : BodyValue) × SpellsBodyOf m x b
    only f b p =
        let q = parts_of f c (behind_control d s b) (subst (SpellsFrame f) (sym (front_then c d s b)) p) in
        let agree = addresses_agree d f.destination s f.source b q.rest (flag_once 5 c (is_there d) (is_there f.destination) h.destination q.control.destination) (flag_once 3 c (is_there s) (is_there f.source) h.source q.control.source) q.octets_are in
        (f.body, (flag_once 7 c (is_message f.body) m q.control.message bit, subst (SpellsBody f.body) (sym agree.2) q.body))

    reasoned : (r : Refusal) → IsBodyRefused m rest r → IsReasoned octets (behind (body_place octets) r)
    reasoned r e = record {
      of_version = (λ w. absurd (not_version (no_reason r.why Version w e.reason)), λ p. absurd (p.2 has_head.version));
      of_address = (λ w. absurd (not_address (no_reason r.why Address w e.reason)), λ p. absurd (let a = has_head.source p.1 in let z : slice_index octets (source_place octets + 2) ≡ 0 = ap (λ (n : ℕ). slice_index octets n) (sym p.2) ∙ p.4 in omega (arith, a, z)));
      of_type = (
        λ w. let t = e.of_type.0 w in (has_head, says ∙ flag ∙ t.0, omega (arith, t.1.0), subst (λ (l : List ℕ). IsTypePlace l 0) (sym rest_is) (refl, t.1.1, t.1.2)),
        λ p. let t = subst (λ (l : List ℕ). IsTypePlace l 0) rest_is p.3 in e.of_type.1 (sym flag ∙ sym says ∙ p.1, (omega (arith, p.2), t.1, t.2)),
      );
      of_window = (
        λ w. let t = e.of_window.0 w in (has_head, says ∙ flag ∙ t.0, (r.place, refl, subst (λ (l : List ℕ). IsWindowPlace l r.place) (sym rest_is) t.1)),
        λ p. let k = p.2 in let same : k.0 ≡ r.place = omega (arith, k.1) in e.of_window.1 (sym flag ∙ sym says ∙ p.1, subst (λ (n : ℕ). IsWindowPlace rest n) same (subst (λ (l : List ℕ). IsWindowPlace l k.0) rest_is k.2)),
      );
      others = inr (inr e.reason);
    }

    pub body_refused : (n : ℕ) (r : Refusal) → length octets ≡ n + length rest → IsBodyRefused m rest r → r.why ≢ OutOfMemory → IsRefused octets (behind n r)
    body_refused n r size e why =
        let at : body_place octets ≡ n = omega (arith, size, long) in
        let w : IsWholeRefusal SpellsFrame (front_of c d s ++ rest) (behind (length (front_of c d s)) r) = whole_body SpellsFrame (SpellsBodyOf m) (front_of c d s) rest r every only (e.refused why) in
        let all : IsRefused octets (behind (body_place octets) r) = record {
          refused = λ x. subst (λ (l : List ℕ). IsWholeRefusal SpellsFrame l (behind (body_place octets) r)) (sym parted) (subst (λ (k : ℕ). IsWholeRefusal SpellsFrame (front_of c d s ++ rest) (behind k r)) size_of w);
          memory = λ x. absurd (why x);
          reasoned = reasoned r e;
        } in
        subst (λ (k : ℕ). IsRefused octets (behind k r)) at all

    -- ---- a body that is found

    spelled_there : (x : BodyValue) → SpellsBodyOf m x rest → SpellsFrame (frame_of c d s x) (1 ∷ c ∷ behind_control d s rest)
    spelled_there x p = frame_every c d s x rest are_octets.1.0 (subst (λ (n : Bool). HasBit 7 (Some n) c) (sym p.0) bit) h.destination h.source h.address are_addresses p.1

    least_there : (x : BodyValue) → is_message x ≡ m → least_of (control_of (frame_of c d s x)) ≡ least_of (control_at c)
    least_there x e =
        ap (λ (f : Bool). least_control f (is_there d) (is_there s) (nat_eq (c / 2 ^ 2 % 2) 1) (c % 4)) (e ∙ sym flag)
        ∙ ap (λ (f : Bool). least_control (nat_eq (c / 2 ^ 7 % 2) 1) f (is_there s) (nat_eq (c / 2 ^ 2 % 2) 1) (c % 4)) (sym (flag_told 5 c (is_there d) h.destination))
        ∙ ap (λ (f : Bool). least_control (nat_eq (c / 2 ^ 7 % 2) 1) (nat_eq (c / 2 ^ 5 % 2) 1) f (nat_eq (c / 2 ^ 2 % 2) 1) (c % 4)) (sym (flag_told 3 c (is_there s) h.source))

    pub body_found : (n : ℕ) (x : BodyValue) (o mark : Option ℕ) → length octets ≡ n + length rest → IsBodyFound m rest x mark → IsControlMark c o
        → SpellsFrame (frame_of c d s x) octets × HasMark (SpellsFrame (frame_of c d s x)) octets (joined_mark o n mark)
    body_found n x o mark size e control =
        let f = frame_of c d s x in
        let spelled = spelled_there x (e.is, e.spelled) in
        let low = least_of (control_at c) in
        let back = e.marked.least in
        let all = frame_least f back h.address (omega arith) spelled.are_octets e.marked.is_least in
        let same : least_before f ++ back ≡ front_of low d s ++ back = ap (λ (k : ℕ). 1 ∷ k ∷ (addresses d s ++ back)) (least_there x e.is) in
        let at : length (front_of c d s) ≡ n = omega (arith, size, long, size_of) in
        let mark_is : IsMark (front_of c d s ++ rest) (front_of low d s ++ back) (joined_mark o n mark) = subst (λ (k : ℕ). IsMark (front_of c d s ++ rest) (front_of low d s ++ back) (joined_mark o k mark)) at (mark-append (front_of c d s) rest (front_of low d s) back o mark (front_mark c d s o control) e.marked.is_mark) in
        (subst (SpellsFrame f) (sym told) spelled, record { least = front_of low d s ++ back; is_least = subst (IsLeast (SpellsFrame f)) same all; is_mark = subst (λ (l : List ℕ). IsMark l (front_of low d s ++ back) (joined_mark o n mark)) (sym parted) mark_is })

  -- ---- addresses

  pub destination_short : IsShort (address_of d)
  destination_short = short d refl
    where
      short : (x : Option DestinationValue) → d ≡ x → IsShort (address_of x)
      short None e = tt
      short (Some x) e = (subst (λ (y : Option DestinationValue). IsOctets (behind_control y s [])) e are_addresses).1.1.0

  pub source_short : IsShort s
  source_short = short s refl
    where
      short : (x : Option SourceValue) → s ≡ x → IsShort x
      short None e = tt
      short (Some x) e = (subst (λ (y : Option SourceValue). IsOctets (source_octets y ++ (hops_octets d ++ []))) e (octets_back (source_octets (address_of d)) (source_octets s ++ (hops_octets d ++ [])) are_addresses)).1.1.0

  -- ---- memory that was refused

  pub memory_reasoned : IsReasoned octets (record { place = 0; why = OutOfMemory })
  memory_reasoned = record {
    of_version = (λ w. absurd (let i : OutOfMemory ≡ Version = w in cc), λ p. absurd (p.2 has_head.version));
    of_address = (λ w. absurd (let i : OutOfMemory ≡ Address = w in cc), λ p. absurd (omega (arith, p.2)));
    of_type = (λ w. absurd (let i : OutOfMemory ≡ PduType = w in cc), λ p. absurd (omega (arith, p.2, far)));
    of_window = (λ w. absurd (let i : OutOfMemory ≡ Window = w in cc), λ p. absurd (let k = p.2 in omega (arith, k.1, far)));
    others = inr (inr (inr (inr (inl refl))));
  }
    where
      far : 2 ≤ body_place octets
      far = subst (λ (n : ℕ). 2 ≤ n) size_of (let e : 2 ≤ length (1 ∷ c ∷ addresses d s) = omega arith in e)

  memory_refused : begins_small octets ≡ false → IsRefused octets (record { place = 0; why = OutOfMemory })
  memory_refused e = record { refused = λ w. absurd (w refl); memory = λ w. (refl, e); reasoned = memory_reasoned }

  pub destination_memory : IsLong (address_of d) → IsRefused octets (record { place = 0; why = OutOfMemory })
  destination_memory long = memory_refused (large d refl long)
    where
      large : (x : Option DestinationValue) → d ≡ x → IsLong (address_of x) → begins_small octets ≡ false
      large None e long = absurd long
      large (Some x) e long =
          let there : says_destination octets ≡ true = destination_there ∙ ap is_there e in
          let size : slice_index octets 4 ≡ length x.address = ap (λ (l : List ℕ). slice_index l 4) told ∙ ap (λ (y : Option DestinationValue). slice_index (1 ∷ c ∷ behind_control y s rest) 4) e in
          let few : few_octets (says_destination octets) 2 octets ≡ false = ap (λ (f : Bool). cond f (nat_le (slice_index octets 4) 7) true) there ∙ ap (λ (n : ℕ). nat_le n 7) size ∙ not_few (length x.address) long in
          ap (λ (f : Bool). f && (few_octets (says_source octets) (source_place octets) octets && cond (says_message octets) (begins_small_message (drop (body_place octets) octets)) (begins_small_apdu (drop (body_place octets) octets)))) few

  pub source_memory : IsLong s → IsRefused octets (record { place = 0; why = OutOfMemory })
  source_memory long = memory_refused (large s refl long)
    where
      large : (x : Option SourceValue) → s ≡ x → IsLong x → begins_small octets ≡ false
      large None e long = absurd long
      large (Some x) e long =
          let there : says_source octets ≡ true = source_there ∙ ap is_there e in
          let few : few_octets (says_source octets) (source_place octets) octets ≡ false = ap (λ (f : Bool). cond f (nat_le (slice_index octets (source_place octets + 2)) 7) true) there ∙ ap (λ (n : ℕ). nat_le n 7) (source_size x e) ∙ not_few (length x.address) long in
          ap (λ (f : Bool). few_octets (says_destination octets) 2 octets && (f && cond (says_message octets) (begins_small_message (drop (body_place octets) octets)) (begins_small_apdu (drop (body_place octets) octets)))) few ∙ and_false (few_octets (says_destination octets) 2 octets)

  pub body_memory : (m : Bool) (r : Refusal) → nat_eq (c / 2 ^ 7 % 2) 1 ≡ m → IsBodyRefused m rest r → r.why ≡ OutOfMemory → IsRefused octets r
  body_memory m r flag e why =
      let p = e.memory why in
      let small_body : cond (says_message octets) (begins_small_message (drop (body_place octets) octets)) (begins_small_apdu (drop (body_place octets) octets)) ≡ false =
      ap (λ (f : Bool). cond f (begins_small_message (drop (body_place octets) octets)) (begins_small_apdu (drop (body_place octets) octets))) (says ∙ flag) ∙ ap (λ (l : List ℕ). cond m (begins_small_message l) (begins_small_apdu l)) rest_is ∙ p.1 in
      let all : begins_small octets ≡ false =
      ap (λ (f : Bool). few_octets (says_destination octets) 2 octets && (few_octets (says_source octets) (source_place octets) octets && f)) small_body
      ∙ ap (λ (f : Bool). few_octets (says_destination octets) 2 octets && f) (and_false (few_octets (says_source octets) (source_place octets) octets)) ∙ and_false (few_octets (says_destination octets) 2 octets) in
      let same : record { place = 0; why = OutOfMemory } ≡ r = ap (λ (n : ℕ). record { place = n; why = OutOfMemory }) (sym p.0) ∙ ap (λ (w : Why). record { place = r.place; why = w }) (sym why) in
      subst (IsRefused octets) same (memory_refused all)

-- the frame that was read, as a value
pub frame_is : (c : ℕ) (h : HeadValue) (x : BodyValue) → HasBit 2 (Some h.reply) c → h.priority ≡ c % 4 → frame_with h x ≡ frame_of c h.destination h.source x
frame_is c h x reply priority =
    ap (λ (f : Bool). record { reply = f; priority = h.priority; destination = h.destination; source = h.source; body = x }) (sym (flag_told 2 c h.reply reply))
    ∙ ap (λ (n : ℕ). record { reply = nat_eq (c / 2 ^ 2 % 2) 1; priority = n; destination = h.destination; source = h.source; body = x }) priority

-- what decoding behind a head gives, of what it calls
module _ (octets : List ℕ) (small : (k : ℕ) → slice_index octets k < 256) (c : ℕ) (d : Option DestinationValue) (s : Option SourceValue) (rest : List ℕ) (h : IsHead octets c d s rest) (n : ℕ) (size : length octets ≡ n + length rest) (m : Bool) (bit : HasBit 7 (Some m) c) (back : List ℕ) (is : back ≡ drop n octets) where
  back_is : back ≡ rest
  back_is = is ∙ ap (λ (k : ℕ). drop k octets) (let at : n ≡ body_place octets = omega (arith, size, long octets small c d s rest h) in at) ∙ rest_is octets small c d s rest h

  pub behind_refused : (r : Refusal) → IsBodyRefused m back r → r.why ≢ OutOfMemory → IsRefused octets (behind n r)
  behind_refused r e why = body_refused octets small c d s rest h m (flag_told 7 c m bit) bit n r size (subst (λ (l : List ℕ). IsBodyRefused m l r) back_is e) why

  pub behind_memory : (r : Refusal) → IsBodyRefused m back r → r.why ≡ OutOfMemory → IsRefused octets r
  behind_memory r e why = body_memory octets small c d s rest h m r (flag_told 7 c m bit) (subst (λ (l : List ℕ). IsBodyRefused m l r) back_is e) why

  pub behind_found : (v : HeadValue) (x : BodyValue) (o mark : Option ℕ) → IsBodyFound m back x mark → IsControlMark c o → HasBit 2 (Some v.reply) c → v.priority ≡ c % 4 → v.destination ≡ d → v.source ≡ s
      → SpellsFrame (frame_with v x) octets × HasMark (SpellsFrame (frame_with v x)) octets (joined_mark o n mark)
  behind_found v x o mark e control reply priority to from =
      let p = body_found octets small c d s rest h m (flag_told 7 c m bit) bit n x o mark size (subst (λ (l : List ℕ). IsBodyFound m l x mark) back_is e) control in
      let same : frame_with v x ≡ frame_of c d s x = frame_is c v x reply priority ∙ ap (λ (y : Option DestinationValue). frame_of c y v.source x) to ∙ ap (λ (y : Option SourceValue). frame_of c d y x) from in
      (subst (λ (f : FrameValue). SpellsFrame f octets) (sym same) p.0, subst (λ (f : FrameValue). HasMark (SpellsFrame f) octets (joined_mark o n mark)) (sym same) p.1)

  -- a frame that is checked, by its body
  pub behind_checked : (x : BodyValue) (o mark joined : Option ℕ) → IsBodyFound m back x mark → IsControlMark c o → joined ≡ joined_mark o n mark → IsMarked SpellsFrame octets joined
  behind_checked x o mark joined e control is =
      let p = body_found octets small c d s rest h m (flag_told 7 c m bit) bit n x o mark size (subst (λ (l : List ℕ). IsBodyFound m l x mark) back_is e) control in
      record { value = frame_of c d s x; spelled = p.0; marked = subst (HasMark (SpellsFrame (frame_of c d s x)) octets) (sym is) p.1 }

-- the mark of a body lies within it
pub within : (X : BodyValue → List ℕ → Type 0) (x : BodyValue) (b : List ℕ) (size : ℕ) (mark : Option ℕ) → size + length b < 2 ^ 64 → HasMark (X x) b mark → IsBehind size mark
within X x b size None fits h = tt
within X x b size (Some place) fits h = omega (arith, fits, h.is_mark.0)

-- ---- a frame that is kept

-- the head of a frame that the octets spell
head_there : (v c : ℕ) (b : List ℕ) (f : FrameValue) → SpellsFrame f (v ∷ c ∷ b) → (rest : List ℕ) × IsHead (v ∷ c ∷ b) c f.destination f.source rest
head_there v c b f p =
    let one = (framed_tail f v c b p).0 in
    let q = parts_of f c b (subst (λ (n : ℕ). SpellsFrame f (n ∷ c ∷ b)) one p) in
    (q.rest, record { octets_are = ap (λ (n : ℕ). n ∷ c ∷ b) one ∙ ap (λ (l : List ℕ). 1 ∷ c ∷ l) q.octets_are; destination = q.control.destination; source = q.control.source; address = q.address })

-- memory was refused to what is written of a frame that the octets spell
pub spelled_memory : (octets : List ℕ) → ((k : ℕ) → slice_index octets k < 256) → (f : FrameValue) → SpellsFrame f octets → IsReasoned octets (record { place = 0; why = OutOfMemory })
spelled_memory [] small f p = absurd (omega (arith, framed_long f [] p))
spelled_memory (v ∷ []) small f p = absurd (omega (arith, framed_long f (v ∷ []) p))
spelled_memory (v ∷ c ∷ b) small f p = let head = head_there v c b f p in memory_reasoned (v ∷ c ∷ b) small c f.destination f.source head.0 head.1

-- memory was refused to a long address of a frame that the octets spell
pub kept_memory : (octets : List ℕ) → ((k : ℕ) → slice_index octets k < 256) → (f : FrameValue) → SpellsFrame f octets → IsLong (address_of f.destination) ⊎ IsLong f.source → IsRefused octets (record { place = 0; why = OutOfMemory })
kept_memory [] small f p long = absurd (omega (arith, framed_long f [] p))
kept_memory (v ∷ []) small f p long = absurd (omega (arith, framed_long f (v ∷ []) p))
kept_memory (v ∷ c ∷ b) small f p long = told long
  where
    head : (rest : List ℕ) × IsHead (v ∷ c ∷ b) c f.destination f.source rest
    head = head_there v c b f p

    told : IsLong (address_of f.destination) ⊎ IsLong f.source → IsRefused (v ∷ c ∷ b) (record { place = 0; why = OutOfMemory })
    told (inl l) = destination_memory (v ∷ c ∷ b) small c f.destination f.source head.0 head.1 l
    told (inr l) = source_memory (v ∷ c ∷ b) small c f.destination f.source head.0 head.1 l
