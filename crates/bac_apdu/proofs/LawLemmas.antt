-- The canonical octets of APDUs, and what segments are.
use Rattle.std.specs.Prelude.{◌≡◌, ℕ, Bool, true, List, [], ◌∷◌, ◌++◌, length, slice_index, refl}
use Rattle.std.proofs.Common.{sym, ◌∙◌, ap, subst}
use Rattle.bac_tag.specs.Octets.{IsOctets}
use Rattle.bac_tag.specs.Laws.Octets.{NoGreater-same}
use Rattle.bac_tag.specs.Spelling.{IsLeast}
use Rattle.bac_tag.specs.Laws.Spelling.{IsLeast-one}
use Rattle.bac_service.specs.declared.kind.Kind.{Kind}
use Rattle.bac_service.specs.declared.kind.Kind.TheVariants.{Confirmed, Unconfirmed, ComplexAck, Error}
use Rattle.bac_service.specs.ServiceTable.{is_small as is_small_service}
use Rattle.bac_service.specs.Services.{ServiceValue, SpellsService}
use Rattle.bac_apdu.specs.declared.segment.SegHead.{SegHead}
use Rattle.bac_apdu.specs.declared.segment.SegHead.TheVariants.{Request, Ack}
use Rattle.bac_tag.specs.HeadOctets.{least_head}
use Rattle.bac_apdu.specs.FirstOctet.{type_at, seg_at}
use Rattle.bac_apdu.specs.Segment.{segment_head, segment_head_size}
use Rattle.bac_apdu.specs.Apdus.{ApduValue, confirmed_request, unconfirmed_request, simple_ack, complex_ack, segment_ack, error, reject, abort, segment, head_of, SpellsBody, SpellsApdu, IsSegment}
use Rattle.bac_apdu.specs.Decoded.{small_of, begins_small, is_small}
use Rattle.bac_tag.proofs.HeadOctetLemmas.{parts_are, headed_rest, headed_least, length-least}
use Rattle.bac_apdu.proofs.TypeLemmas.{named, nothing_spells}

-- what stands behind a head
-- the only list
pub one_least : (B : List ℕ → Type 0) (piece : List ℕ) → B piece → ((c : List ℕ) → B c → c ≡ piece) → IsLeast B piece
one_least B piece h only = record { member = h; least = λ c k. NoGreater-same piece c (sym (only c k)) }

module _ (services : (k : Kind) (c : ℕ) (v : ServiceValue) (b : List ℕ) → SpellsService true 32 k c v b → (d : List ℕ) × IsLeast (SpellsService true 32 k c v) d) where
  body_least : (x : ApduValue) (b : List ℕ) → SpellsBody x b → (c : List ℕ) × IsLeast (SpellsBody x) c
  body_least (confirmed_request h s) b p = services Confirmed s.choice s b p
  body_least (unconfirmed_request s) b p = services Unconfirmed s.choice s b p
  body_least (simple_ack i c) b p = ([], one_least (SpellsBody (simple_ack i c)) [] refl (λ c e. e))
  body_least (complex_ack i s) b p = services ComplexAck s.choice s b p
  body_least (segment_ack i nak srv q w) b p = ([], one_least (SpellsBody (segment_ack i nak srv q w)) [] refl (λ c e. e))
  body_least (error i s) b p = services Error s.choice s b p
  body_least (reject i r) b p = ([], one_least (SpellsBody (reject i r)) [] refl (λ c e. e))
  body_least (abort i srv r) b p = ([], one_least (SpellsBody (abort i srv r)) [] refl (λ c e. e))
  body_least (segment h q w more c piece) b p = (piece, one_least (SpellsBody (segment h q w more c piece)) piece (refl, subst IsOctets p.0 p.1) (λ c e. e.0))

  pub apdu_least : (x : ApduValue) (b : List ℕ) → SpellsApdu x b → (c : List ℕ) × IsLeast (SpellsApdu x) c
  apdu_least x b p =
      let rest = headed_rest (head_of x) (SpellsBody x) b p in
      let least = body_least x rest.0 rest.1 in
      (least_head (head_of x) ++ least.0, headed_least (head_of x) (SpellsBody x) least.0 (parts_are (head_of x) (SpellsBody x) b p) least.1)

-- ---- segments

segment_sized : (h : SegHead) (q w : ℕ) (more : Bool) (c : ℕ) → length (segment_head h q w more c) ≡ segment_head_size h
segment_sized (Request h) q w more c = refl
segment_sized (Ack i) q w more c = refl

pub segment_least : (h : SegHead) (q w : ℕ) (more : Bool) (c : ℕ) (piece b : List ℕ) → IsLeast (SpellsApdu (segment h q w more c piece)) b → (front : List ℕ) × (b ≡ front ++ piece) × (length front ≡ segment_head_size h)
segment_least h q w more c piece b L =
    let ps = segment_head h q w more c in
    let B = SpellsBody (segment h q w more c piece) in
    let rest = headed_rest ps B b L.member in
    let least = headed_least ps B piece (parts_are ps B b L.member) (one_least B piece (refl, subst IsOctets rest.1.0 rest.1.1) (λ c e. e.0)) in
    (least_head ps, IsLeast-one (SpellsApdu (segment h q w more c piece)) b (least_head ps ++ piece) L least, length-least ps ∙ segment_sized h q w more c)

pub request_segmented : (x : ApduValue) (o : ℕ) (b : List ℕ) → type_at o ≡ 0 → seg_at o ≡ 1 → SpellsApdu x (o ∷ b) → IsSegment x
request_segmented x o b e f p = let n = named 0 1 x o b e f p in subst IsSegment (sym n.6) tt

pub answer_segmented : (x : ApduValue) (o : ℕ) (b : List ℕ) → type_at o ≡ 3 → seg_at o ≡ 1 → SpellsApdu x (o ∷ b) → IsSegment x
answer_segmented x o b e f p = let n = named 3 1 x o b e f p in subst IsSegment (sym n.6) tt

-- ---- small ones

small_as : (t g : ℕ) (b : List ℕ) {s : Bool} → type_at (slice_index b 0) ≡ t → seg_at (slice_index b 0) ≡ g → small_of t g b ≡ s → begins_small b ≡ s
small_as t g b e f h = ap (λ (n : ℕ). small_of n (seg_at (slice_index b 0)) b) e ∙ ap (λ (n : ℕ). small_of t n b) f ∙ h

pub small_begins : (x : ApduValue) (b : List ℕ) → SpellsApdu x b → begins_small b ≡ is_small x
small_begins x [] p = absurd (nothing_spells x p)
small_begins (confirmed_request h s) (o ∷ l ∷ i ∷ c ∷ b) p = small_as 0 0 (o ∷ l ∷ i ∷ c ∷ b) p.0.0 p.0.1 (ap (is_small_service Confirmed) p.1.1.1.0.0)
small_begins (confirmed_request h s) (o ∷ []) p = absurd p.1
small_begins (confirmed_request h s) (o ∷ l ∷ []) p = absurd p.1.1
small_begins (confirmed_request h s) (o ∷ l ∷ i ∷ []) p = absurd p.1.1.1
small_begins (unconfirmed_request s) (o ∷ c ∷ b) p = small_as 1 (seg_at o) (o ∷ c ∷ b) p.0.0 refl (ap (is_small_service Unconfirmed) p.1.0.0)
small_begins (unconfirmed_request s) (o ∷ []) p = absurd p.1
small_begins (simple_ack i c) (o ∷ b) p = small_as 2 (seg_at o) (o ∷ b) p.0.0 refl refl
small_begins (complex_ack i s) (o ∷ k ∷ c ∷ b) p = small_as 3 0 (o ∷ k ∷ c ∷ b) p.0.0 p.0.1 (ap (is_small_service ComplexAck) p.1.1.0.0)
small_begins (complex_ack i s) (o ∷ []) p = absurd p.1
small_begins (complex_ack i s) (o ∷ k ∷ []) p = absurd p.1.1
small_begins (segment_ack i nak srv q w) (o ∷ b) p = small_as 4 (seg_at o) (o ∷ b) p.0.0 refl refl
small_begins (error i s) (o ∷ k ∷ c ∷ b) p = small_as 5 (seg_at o) (o ∷ k ∷ c ∷ b) p.0.0 refl (ap (is_small_service Error) p.1.1.0.0)
small_begins (error i s) (o ∷ []) p = absurd p.1
small_begins (error i s) (o ∷ k ∷ []) p = absurd p.1.1
small_begins (reject i r) (o ∷ b) p = small_as 6 (seg_at o) (o ∷ b) p.0.0 refl refl
small_begins (abort i srv r) (o ∷ b) p = small_as 7 (seg_at o) (o ∷ b) p.0.0 refl refl
small_begins (segment (Request h) q w more c piece) (o ∷ b) p = small_as 0 1 (o ∷ b) p.0.0 p.0.1 refl
small_begins (segment (Ack i) q w more c piece) (o ∷ b) p = small_as 3 1 (o ∷ b) p.0.0 p.0.1 refl
