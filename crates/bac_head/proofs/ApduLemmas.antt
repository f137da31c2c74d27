-- What octets say of the head of an APDU.
use Rattle.std.specs.Prelude.{◌≡◌, ℕ, suc, ◌+◌, ◌/◌, ◌%◌, ◌^◌, ◌<◌, ◌≤◌, nat_eq, cond, Bool, Some, List, [], ◌∷◌, ◌++◌, length, take, slice_index, refl}
use Rattle.std.proofs.Common.{sym, ◌∙◌, ap, subst, arith}
use Rattle.bac_tag.specs.HeadOctets.{Part, SpellsPart, Headed, HasBit, IsWindow}
use Rattle.bac_tag.proofs.HeadOctetLemmas.{headed_long}
use Rattle.bac_apdu.specs.declared.segment.SegHead.TheVariants.{Request, Ack}
use Rattle.bac_apdu.specs.FirstOctet.{type_at, seg_at}
use Rattle.bac_apdu.specs.Apdus.{ApduValue, confirmed_request, unconfirmed_request, simple_ack, complex_ack, segment_ack, error, reject, abort, segment, head_of, SpellsBody, SpellsApdu}
use Rattle.bac_head.specs.declared.apdu_head.SegmentHead.{SegmentHead}
use Rattle.bac_head.specs.declared.apdu_head.ApduHead.{ApduHead}
use Rattle.bac_head.specs.declared.apdu_head.ApduHead.TheVariants as head
use Rattle.bac_head.specs.Saying.{IsType, IsKind, SaysSegment, SaysApdu, apdu_head_size}
use Rattle.bac_head.specs.Reach.{HasHeadOf, HasApduHead}
use Rattle.bac_head.specs.Known.{apdu_head}
use Rattle.bac_head.proofs.AlikeLemmas.{flag_told, front_at}

-- ---- the parts of a head, each at its place

-- from a place on the octets spell these parts
abbrev pub PartsAt : ℕ → List Part → List ℕ → Type 0
PartsAt k [] b = Unit {0}
PartsAt k (p ∷ ps) b = SpellsPart p (slice_index b k) × PartsAt (suc k) ps b

one_further : (k : ℕ) (ps : List Part) (o : ℕ) (b : List ℕ) → PartsAt k ps b → PartsAt (suc k) ps (o ∷ b)
one_further k [] o b h = tt
one_further k (p ∷ ps) o b h = (h.0, one_further (suc k) ps o b h.1)

pub parts_at : (ps : List Part) (B : List ℕ → Type 0) (b : List ℕ) → Headed ps B b → PartsAt 0 ps b
parts_at [] B b h = tt
parts_at (p ∷ ps) B [] h = absurd h
parts_at (p ∷ ps) B (o ∷ b) h = (h.0, one_further 0 ps o b (parts_at ps B b h.1))

-- ---- an APDU says what its head says

apdu_parts : (a : ApduValue) (c : List ℕ) → SpellsApdu a c → PartsAt 0 (head_of a) c
apdu_parts a c p = parts_at (head_of a) (SpellsBody a) c p

tell : (a : ApduValue) (c : List ℕ) → PartsAt 0 (head_of a) c → SaysApdu (apdu_head a) c
tell (confirmed_request h s) c q = (record { of_type = q.0.0; of_seg = q.0.1 }, sym q.1.1.0.0, sym q.1.1.1.0.0)
tell (unconfirmed_request s) c q = (q.0.0, sym q.1.0.0)
tell (simple_ack i k) c q = (q.0.0, sym q.1.0.0, sym q.1.1.0.0)
tell (complex_ack i s) c q = (record { of_type = q.0.0; of_seg = q.0.1 }, sym q.1.0.0, sym q.1.1.0.0)
tell (segment_ack i nak srv n w) c q = (q.0.0, q.0.3, q.0.4, sym q.1.0.0, sym q.1.1.0.0, sym q.1.1.1.0.0)
tell (error i s) c q = (q.0.0, sym q.1.0.0, sym q.1.1.0.0)
tell (reject i r) c q = (q.0.0, sym q.1.0.0, sym q.1.1.0.0)
tell (abort i srv r) c q = (q.0.0, q.0.4, sym q.1.0.0, sym q.1.1.0.0)
tell (segment (Request h) n w more k piece) c q =
    (record { of_type = q.0.0; of_seg = q.0.1 }, record { more = q.0.2; invoke = sym q.1.1.0.0; seq = sym q.1.1.1.0.0; window = sym q.1.1.1.1.0.0; choice = sym q.1.1.1.1.1.0.0 })
tell (segment (Ack i) n w more k piece) c q =
    (record { of_type = q.0.0; of_seg = q.0.1 }, record { more = q.0.2; invoke = sym q.1.0.0; seq = sym q.1.1.0.0; window = sym q.1.1.1.0.0; choice = sym q.1.1.1.1.0.0 })

-- ---- octets say one head

abbrev pub segment_at : ℕ → List ℕ → SegmentHead
segment_at place b = record { invoke = slice_index b place; seq = slice_index b (place + 1); window = slice_index b (place + 2); more = nat_eq (slice_index b 0 / 2 ^ 2 % 2) 1; choice = slice_index b (place + 3) }

segment_is : (place : ℕ) (h : SegmentHead) (b : List ℕ) → SaysSegment place h b → h ≡ segment_at place b
segment_is place h b p =
    let more = sym (flag_told 2 (slice_index b 0) h.more p.more) in
    λ i. record { invoke = p.invoke i; seq = p.seq i; window = p.window i; more = more i; choice = p.choice i }

-- what they say, as a head of this type and with this bit 3
abbrev pub head_at : ℕ → ℕ → List ℕ → ApduHead
head_at type seg b =
    cond (nat_eq type 0) (cond (nat_eq seg 0) (head.ConfirmedRequest (slice_index b 2) (slice_index b 3)) (head.RequestSegment (segment_at 2 b)))
    (cond (nat_eq type 1) (head.UnconfirmedRequest (slice_index b 1))
    (cond (nat_eq type 2) (head.SimpleAck (slice_index b 1) (slice_index b 2))
    (cond (nat_eq type 3) (cond (nat_eq seg 0) (head.ComplexAck (slice_index b 1) (slice_index b 2)) (head.AckSegment (segment_at 1 b)))
    (cond (nat_eq type 4) (head.SegmentAck (slice_index b 1) (nat_eq (slice_index b 0 / 2 ^ 1 % 2) 1) (nat_eq (slice_index b 0 / 2 ^ 0 % 2) 1) (slice_index b 2) (slice_index b 3))
    (cond (nat_eq type 5) (head.Error (slice_index b 1) (slice_index b 2))
    (cond (nat_eq type 6) (head.Reject (slice_index b 1) (slice_index b 2))
    (head.Abort (slice_index b 1) (nat_eq (slice_index b 0 / 2 ^ 0 % 2) 1) (slice_index b 2))))))))

abbrev pub head_there : List ℕ → ApduHead
head_there b = head_at (type_at (slice_index b 0)) (seg_at (slice_index b 0)) b

by_type : (t : ℕ) (b : List ℕ) → IsType t b → head_at t (seg_at (slice_index b 0)) b ≡ head_there b
by_type t b e = sym (ap (λ (n : ℕ). head_at n (seg_at (slice_index b 0)) b) e)

by_kind : (t g : ℕ) (b : List ℕ) → IsKind t g b → head_at t g b ≡ head_there b
by_kind t g b k = sym (ap (λ (n : ℕ). head_at t n b) k.of_seg) ∙ by_type t b k.of_type

is_there : (h : ApduHead) (b : List ℕ) → SaysApdu h b → h ≡ head_there b
is_there (head.ConfirmedRequest i k) b p = (λ j. head.ConfirmedRequest (p.1 j) (p.2 j)) ∙ by_kind 0 0 b p.0
is_there (head.RequestSegment s) b p = (λ j. head.RequestSegment (segment_is 2 s b p.1 j)) ∙ by_kind 0 1 b p.0
is_there (head.UnconfirmedRequest k) b p = (λ j. head.UnconfirmedRequest (p.1 j)) ∙ by_type 1 b p.0
is_there (head.SimpleAck i k) b p = (λ j. head.SimpleAck (p.1 j) (p.2 j)) ∙ by_type 2 b p.0
is_there (head.ComplexAck i k) b p = (λ j. head.ComplexAck (p.1 j) (p.2 j)) ∙ by_kind 3 0 b p.0
is_there (head.AckSegment s) b p = (λ j. head.AckSegment (segment_is 1 s b p.1 j)) ∙ by_kind 3 1 b p.0
is_there (head.SegmentAck i nak srv n w) b p =
    let e = sym (flag_told 1 (slice_index b 0) nak p.1) in
    let f = sym (flag_told 0 (slice_index b 0) srv p.2) in
    (λ j. head.SegmentAck (p.3 j) (e j) (f j) (p.4 j) (p.5 j)) ∙ by_type 4 b p.0
is_there (head.Error i k) b p = (λ j. head.Error (p.1 j) (p.2 j)) ∙ by_type 5 b p.0
is_there (head.Reject i r) b p = (λ j. head.Reject (p.1 j) (p.2 j)) ∙ by_type 6 b p.0
is_there (head.Abort i srv r) b p =
    let f = sym (flag_told 0 (slice_index b 0) srv p.1) in
    (λ j. head.Abort (p.2 j) (f j) (p.3 j)) ∙ by_type 7 b p.0

-- ---- a head is read from its own octets

module _ (b c : List ℕ) (n : ℕ) (same : (k : ℕ) → k < n → slice_index c k ≡ slice_index b k) where
  still_type : (t : ℕ) → 0 < n → IsType t b → IsType t c
  still_type t lt e = ap type_at (same 0 lt) ∙ e

  still_kind : (t g : ℕ) → 0 < n → IsKind t g b → IsKind t g c
  still_kind t g lt e = record { of_type = still_type t lt e.of_type; of_seg = ap seg_at (same 0 lt) ∙ e.of_seg }

  still_flag : (place : ℕ) (f : Bool) → 0 < n → HasBit place (Some f) (slice_index b 0) → HasBit place (Some f) (slice_index c 0)
  still_flag place f lt h = subst (λ (o : ℕ). HasBit place (Some f) o) (sym (same 0 lt)) h

  still_at : (x k : ℕ) → k < n → x ≡ slice_index b k → x ≡ slice_index c k
  still_at x k lt e = e ∙ sym (same k lt)

  still_segment : (place : ℕ) (h : SegmentHead) → place + 3 < n → SaysSegment place h b → SaysSegment place h c
  still_segment place h lt p = record {
    more = still_flag 2 h.more (omega (arith, lt)) p.more;
    invoke = still_at h.invoke place (omega (arith, lt)) p.invoke;
    seq = still_at h.seq (place + 1) (omega (arith, lt)) p.seq;
    window = still_at h.window (place + 2) (omega (arith, lt)) p.window;
    choice = still_at h.choice (place + 3) lt p.choice;
  }

  still : (h : ApduHead) → n ≡ apdu_head_size h → SaysApdu h b → SaysApdu h c
  still (head.ConfirmedRequest i k) e p = (still_kind 0 0 (omega (arith, e)) p.0, still_at i 2 (omega (arith, e)) p.1, still_at k 3 (omega (arith, e)) p.2)
  still (head.RequestSegment s) e p = (still_kind 0 1 (omega (arith, e)) p.0, still_segment 2 s (omega (arith, e)) p.1)
  still (head.UnconfirmedRequest k) e p = (still_type 1 (omega (arith, e)) p.0, still_at k 1 (omega (arith, e)) p.1)
  still (head.SimpleAck i k) e p = (still_type 2 (omega (arith, e)) p.0, still_at i 1 (omega (arith, e)) p.1, still_at k 2 (omega (arith, e)) p.2)
  still (head.ComplexAck i k) e p = (still_kind 3 0 (omega (arith, e)) p.0, still_at i 1 (omega (arith, e)) p.1, still_at k 2 (omega (arith, e)) p.2)
  still (head.AckSegment s) e p = (still_kind 3 1 (omega (arith, e)) p.0, still_segment 1 s (omega (arith, e)) p.1)
  still (head.SegmentAck i nak srv q w) e p =
      (still_type 4 (omega (arith, e)) p.0, still_flag 1 nak (omega (arith, e)) p.1, still_flag 0 srv (omega (arith, e)) p.2, still_at i 1 (omega (arith, e)) p.3, still_at q 2 (omega (arith, e)) p.4, still_at w 3 (omega (arith, e)) p.5)
  still (head.Error i k) e p = (still_type 5 (omega (arith, e)) p.0, still_at i 1 (omega (arith, e)) p.1, still_at k 2 (omega (arith, e)) p.2)
  still (head.Reject i r) e p = (still_type 6 (omega (arith, e)) p.0, still_at i 1 (omega (arith, e)) p.1, still_at r 2 (omega (arith, e)) p.2)
  still (head.Abort i srv r) e p = (still_type 7 (omega (arith, e)) p.0, still_flag 0 srv (omega (arith, e)) p.1, still_at i 1 (omega (arith, e)) p.2, still_at r 2 (omega (arith, e)) p.3)

-- the head that was read is that of each APDU that begins with its octets
pub apdu_agrees : (h : ApduHead) (a : ApduValue) (b more : List ℕ) → apdu_head_size h ≤ length b → SaysApdu h b → SpellsApdu a (take (apdu_head_size h) b ++ more) → h ≡ apdu_head a
apdu_agrees h a b more long p q =
    let n = apdu_head_size h in
    let c = take n b ++ more in
    let here = still b c n (λ k lt. front_at n k b more lt long) h refl p in
    is_there h c here ∙ sym (is_there (apdu_head a) c (tell a c (apdu_parts a c q)))

-- ---- the table has each head

kind_has : (t g : ℕ) (b : List ℕ) → type_at (slice_index b 0) ≡ t → seg_at (slice_index b 0) ≡ g → HasHeadOf t g b → HasApduHead b
kind_has t g b e f h = subst (λ (n : ℕ). HasHeadOf n (seg_at (slice_index b 0)) b) (sym e) (subst (λ (n : ℕ). HasHeadOf t n b) (sym f) h)

kind_is : (t g : ℕ) (b : List ℕ) → type_at (slice_index b 0) ≡ t → seg_at (slice_index b 0) ≡ g → HasApduHead b → HasHeadOf t g b
kind_is t g b e f h = subst (λ (n : ℕ). HasHeadOf t n b) f (subst (λ (n : ℕ). HasHeadOf n (seg_at (slice_index b 0)) b) e h)

-- what says a head is as long as the head
pub apdu_long : (h : ApduHead) (b : List ℕ) → SaysApdu h b → HasApduHead b → apdu_head_size h ≤ length b
apdu_long (head.ConfirmedRequest i k) b p h = (kind_is 0 0 b p.0.of_type p.0.of_seg h).long
apdu_long (head.RequestSegment s) b p h = (kind_is 0 1 b p.0.of_type p.0.of_seg h).long
apdu_long (head.UnconfirmedRequest k) b p h = (kind_is 1 _ b p.0 refl h).long
apdu_long (head.SimpleAck i k) b p h = (kind_is 2 _ b p.0 refl h).long
apdu_long (head.ComplexAck i k) b p h = (kind_is 3 0 b p.0.of_type p.0.of_seg h).long
apdu_long (head.AckSegment s) b p h = (kind_is 3 1 b p.0.of_type p.0.of_seg h).long
apdu_long (head.SegmentAck i nak srv n w) b p h = (kind_is 4 _ b p.0 refl h).long
apdu_long (head.Error i k) b p h = (kind_is 5 _ b p.0 refl h).long
apdu_long (head.Reject i r) b p h = (kind_is 6 _ b p.0 refl h).long
apdu_long (head.Abort i srv r) b p h = (kind_is 7 _ b p.0 refl h).long

-- ---- an APDU has a head

apdu_has_parts : (a : ApduValue) (b : List ℕ) → length (head_of a) ≤ length b → PartsAt 0 (head_of a) b → HasApduHead b
apdu_has_parts (confirmed_request h s) b long q = kind_has 0 0 b q.0.0 q.0.1 (record { first = omega (arith, long); low = omega arith; long = long; window = tt })
apdu_has_parts (unconfirmed_request s) b long q = kind_has 1 _ b q.0.0 refl (record { first = omega (arith, long); low = omega arith; long = long; window = tt })
apdu_has_parts (simple_ack i k) b long q = kind_has 2 _ b q.0.0 refl (record { first = omega (arith, long); low = omega arith; long = long; window = tt })
apdu_has_parts (complex_ack i s) b long q = kind_has 3 0 b q.0.0 q.0.1 (record { first = omega (arith, long); low = omega arith; long = long; window = tt })
apdu_has_parts (segment_ack i nak srv n w) b long q = kind_has 4 _ b q.0.0 refl (record { first = omega (arith, long); low = omega arith; long = long; window = subst IsWindow (sym q.1.1.1.0.0) q.1.1.1.0.1 })
apdu_has_parts (error i s) b long q = kind_has 5 _ b q.0.0 refl (record { first = omega (arith, long); low = omega arith; long = long; window = tt })
apdu_has_parts (reject i r) b long q = kind_has 6 _ b q.0.0 refl (record { first = omega (arith, long); low = omega arith; long = long; window = tt })
apdu_has_parts (abort i srv r) b long q = kind_has 7 _ b q.0.0 refl (record { first = omega (arith, long); low = omega arith; long = long; window = tt })
apdu_has_parts (segment (Request h) n w more k piece) b long q = kind_has 0 1 b q.0.0 q.0.1 (record { first = omega (arith, long); low = omega arith; long = long; window = subst IsWindow (sym q.1.1.1.1.0.0) q.1.1.1.1.0.1 })
apdu_has_parts (segment (Ack i) n w more k piece) b long q = kind_has 3 1 b q.0.0 q.0.1 (record { first = omega (arith, long); low = omega arith; long = long; window = subst IsWindow (sym q.1.1.1.0.0) q.1.1.1.0.1 })

pub apdu_has : (a : ApduValue) (b : List ℕ) → SpellsApdu a b → HasApduHead b
apdu_has a b p = apdu_has_parts a b (headed_long (head_of a) (SpellsBody a) b p) (apdu_parts a b p)
