-- Two APDUs that are spelled are the same in each part exactly where they are the same APDU.
use Rattle.std.proofs.Common.{◌≡◌, ℕ, Bool, ◌&&◌, nat_eq, List, refl, sym, ap, subst}
use Rattle.std.specs.Bool.{Decides, beq}
use Rattle.std.specs.Cmp.{unsigned_Decides, booleans_Decides}
use Rattle.std.specs.Cmp.Lexicographic.{bytes_decides}
use Rattle.bac_tag.proofs.HeadOctetLemmas.{headed_rest}
use Rattle.bac_data.specs.OpenValue.{Elements, AreElements}
use Rattle.bac_data.specs.Spells.{SpellsOpen}
use Rattle.bac_service.specs.declared.kind.Kind.{Kind}
use Rattle.bac_service.specs.declared.kind.Kind.TheVariants as kind
use Rattle.bac_service.specs.declared.service.Service.{Service}
use Rattle.bac_service.specs.Services.{ServiceValue, value_of as service_of}
use Rattle.bac_service.proofs.SameLemmas.{by_parts, both, pairs, service_is, services_tell}
use Rattle.bac_apdu.specs.declared.confirmed_request.RequestHead.{RequestHead}
use Rattle.bac_apdu.specs.declared.segment.SegHead.{SegHead}
use Rattle.bac_apdu.specs.declared.segment.Segment.{Segment}
use Rattle.bac_apdu.specs.declared.apdu.Apdu.{Apdu}
use Rattle.bac_apdu.specs.declared.apdu.Apdu.TheVariants as held
use Rattle.bac_apdu.specs.Apdus.{ApduValue, confirmed_request, unconfirmed_request, simple_ack, complex_ack, segment_ack, error, reject, abort, segment, head_of, SpellsServiceOf, SpellsBody, SpellsApdu, value_of}
use Rattle.bac_apdu.specs.Same.{same_service, same_request, same_segment, same_apdu}
use Rattle.bac_apdu.specs.Laws.Same.{requests, heads}

-- what a segment says
abbrev SegmentFields : Type 0
SegmentFields = List ℕ × (SegHead × (ℕ × (ℕ × (Bool × ℕ))))

abbrev fields_of : Segment → SegmentFields
fields_of s = (s.piece.items, (s.head, (s.seq, (s.window, (s.more, s.choice)))))

segment_of : SegmentFields → ApduValue
segment_of p = segment p.1.0 p.1.1.0 p.1.1.1.0 p.1.1.1.1.0 p.1.1.1.1.1 p.0

-- what an APDU says where it is a segment
said_or : SegmentFields → ApduValue → SegmentFields
said_or other (segment head seq size more choice piece) = (piece, (head, (seq, (size, (more, choice)))))
said_or other _ = other

segments_tell : (a b : Segment) → Decides (same_segment a b) (value_of (held.Segment a) ≡ value_of (held.Segment b))
unfolding segment_of said_or
segments_tell a b =
    by_parts (same_segment a b) (pairs bytes_decides (pairs heads (pairs unsigned_Decides (pairs unsigned_Decides (pairs booleans_Decides unsigned_Decides)))) (fields_of a) (fields_of b)) (λ e. ap segment_of e) (λ e. ap (said_or (fields_of a)) e)

-- an APDU of an invoke id and a service, or of numbers: each is what it says
with_request : {h k : RequestHead} {s t : ServiceValue} → confirmed_request h s ≡ confirmed_request k t → (h ≡ k) × (s ≡ t)
with_request e = (cc, cc)

with_service : {s t : ServiceValue} → unconfirmed_request s ≡ unconfirmed_request t → s ≡ t
with_service e = cc

with_ack : {i j : ℕ} {s t : ServiceValue} → complex_ack i s ≡ complex_ack j t → (i ≡ j) × (s ≡ t)
with_ack e = (cc, cc)

with_error : {i j : ℕ} {s t : ServiceValue} → error i s ≡ error j t → (i ≡ j) × (s ≡ t)
with_error e = (cc, cc)

with_choice : {i j c d : ℕ} → simple_ack i c ≡ simple_ack j d → (i ≡ j) × (c ≡ d)
with_choice e = (cc, cc)

with_reason : {i j r s : ℕ} → reject i r ≡ reject j s → (i ≡ j) × (r ≡ s)
with_reason e = (cc, cc)

with_server : {i j r q : ℕ} {s t : Bool} → abort i s r ≡ abort j t q → (i ≡ j) × ((s ≡ t) × (r ≡ q))
with_server e = (cc, (cc, cc))

with_window : {i j q r w v : ℕ} {n m s t : Bool} → segment_ack i n s q w ≡ segment_ack j m t r v → (i ≡ j) × ((n ≡ m) × ((s ≡ t) × ((q ≡ r) × (w ≡ v))))
with_window e = (cc, (cc, (cc, (cc, cc))))

module _ (open_only : (number : ℕ) (v : Elements) (b : List ℕ) → SpellsOpen 32 number v b → AreElements v) where
  -- the services after two heads
  services : (x y : ApduValue) (k l : Kind) (s t : Service) (c d : List ℕ) → (SpellsBody x ≡ SpellsServiceOf k (service_of s)) → (SpellsBody y ≡ SpellsServiceOf l (service_of t)) → SpellsApdu x c → SpellsApdu y d
      → Decides (same_service s t) (service_of s ≡ service_of t)
  services x y k l s t c d e f p q =
      let left = headed_rest (head_of x) (SpellsBody x) c p in
      let right = headed_rest (head_of y) (SpellsBody y) d q in
      subst (λ r. Decides r (service_of s ≡ service_of t)) (sym (service_is s t))
      (services_tell open_only s t k l (service_of s).choice (service_of t).choice left.0 right.0
      (subst (λ (B : List ℕ → Type 0). B left.0) e left.1) (subst (λ (B : List ℕ → Type 0). B right.0) f right.1))

  pub apdus_tell : (a b : Apdu) (c d : List ℕ) → SpellsApdu (value_of a) c → SpellsApdu (value_of b) d → Decides (same_apdu a b) (value_of a ≡ value_of b)
  apdus_tell (held.Confirmed a) (held.Confirmed b) c d s t =
      by_parts (same_request a.head b.head && same_service a.service b.service)
      (both (same_request a.head b.head) (same_service a.service b.service) (requests a.head b.head)
      (services (value_of (held.Confirmed a)) (value_of (held.Confirmed b)) kind.Confirmed kind.Confirmed a.service b.service c d refl refl s t))
      (λ e. λ i. confirmed_request (e.0 i) (e.1 i)) with_request
  apdus_tell (held.Unconfirmed a) (held.Unconfirmed b) c d s t =
      by_parts (same_service a b)
      (services (value_of (held.Unconfirmed a)) (value_of (held.Unconfirmed b)) kind.Unconfirmed kind.Unconfirmed a b c d refl refl s t)
      (λ e. ap unconfirmed_request e) with_service
  apdus_tell (held.ComplexAck a) (held.ComplexAck b) c d s t =
      by_parts (nat_eq a.invoke b.invoke && same_service a.service b.service)
      (both (nat_eq a.invoke b.invoke) (same_service a.service b.service) (unsigned_Decides a.invoke b.invoke)
      (services (value_of (held.ComplexAck a)) (value_of (held.ComplexAck b)) kind.ComplexAck kind.ComplexAck a.service b.service c d refl refl s t))
      (λ e. λ i. complex_ack (e.0 i) (e.1 i)) with_ack
  apdus_tell (held.Error a) (held.Error b) c d s t =
      by_parts (nat_eq a.invoke b.invoke && same_service a.service b.service)
      (both (nat_eq a.invoke b.invoke) (same_service a.service b.service) (unsigned_Decides a.invoke b.invoke)
      (services (value_of (held.Error a)) (value_of (held.Error b)) kind.Error kind.Error a.service b.service c d refl refl s t))
      (λ e. λ i. error (e.0 i) (e.1 i)) with_error
  apdus_tell (held.SimpleAck i c) (held.SimpleAck j d) p q s t =
      by_parts (nat_eq i j && nat_eq c d) (both (nat_eq i j) (nat_eq c d) (unsigned_Decides i j) (unsigned_Decides c d)) (λ e. λ x. simple_ack (e.0 x) (e.1 x)) with_choice
  apdus_tell (held.Reject i r) (held.Reject j u) p q s t =
      by_parts (nat_eq i j && nat_eq r u) (both (nat_eq i j) (nat_eq r u) (unsigned_Decides i j) (unsigned_Decides r u)) (λ e. λ x. reject (e.0 x) (e.1 x)) with_reason
  apdus_tell (held.Abort i y r) (held.Abort j z u) p q s t =
      by_parts (nat_eq i j && (beq y z && nat_eq r u)) (both (nat_eq i j) (beq y z && nat_eq r u) (unsigned_Decides i j) (both (beq y z) (nat_eq r u) (booleans_Decides y z) (unsigned_Decides r u)))
      (λ e. λ x. abort (e.0 x) (e.1.0 x) (e.1.1 x)) with_server
  apdus_tell (held.SegmentAck i n y g w) (held.SegmentAck j m z h v) p q s t =
      by_parts (nat_eq i j && (beq n m && (beq y z && (nat_eq g h && nat_eq w v))))
      (both (nat_eq i j) (beq n m && (beq y z && (nat_eq g h && nat_eq w v))) (unsigned_Decides i j)
      (both (beq n m) (beq y z && (nat_eq g h && nat_eq w v)) (booleans_Decides n m)
      (both (beq y z) (nat_eq g h && nat_eq w v) (booleans_Decides y z) (both (nat_eq g h) (nat_eq w v) (unsigned_Decides g h) (unsigned_Decides w v)))))
      (λ e. λ x. segment_ack (e.0 x) (e.1.0 x) (e.1.1.0 x) (e.1.1.1.0 x) (e.1.1.1.1 x)) with_window
  apdus_tell (held.Segment a) (held.Segment b) c d s t = segments_tell a b
  apdus_tell a b c d s t = (λ h. absurd (cc h), λ e. absurd (cc e))
