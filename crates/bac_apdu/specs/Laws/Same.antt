-- Whether two APDUs are the same is an equivalence.
use Rattle.std.proofs.Common.{◌≡◌, ℕ, Bool, true, ◌&&◌, nat_eq, refl, ap}
use Rattle.std.specs.Bool.{beq}
use Rattle.std.specs.Cmp.{IsEquivalence, and_equiv, on_equiv, decided, nat_eq_equiv, bool_eq_equiv, unsigned_Decides, booleans_Decides}
use Rattle.std.specs.Cmp.Lexicographic.{nat_list_eq_equiv}
use Rattle.bac_service.specs.contracts.service.ServiceEq.TheImpl.Laws as service_laws
use Rattle.bac_service.proofs.SameLemmas.{Decided, by_parts, pairs}
use Rattle.bac_apdu.specs.declared.segment.SegHead.{SegHead}
use Rattle.bac_apdu.specs.declared.segment.SegHead.TheVariants.{Request, Ack}
use Rattle.bac_apdu.specs.declared.apdu.Apdu.{Apdu}
use Rattle.bac_apdu.specs.declared.apdu.Apdu.TheVariants as held
use Rattle.bac_apdu.specs.Carriers.{RequestCarrier, AnswerCarrier}
use Rattle.bac_apdu.specs.Same.{same_service, same_request, same_head, same_segment, same_apdu}

pub requests : Decided same_request
requests v w =
    by_parts (same_request v w) (pairs unsigned_Decides (pairs booleans_Decides (pairs unsigned_Decides unsigned_Decides)) (v.invoke, (v.sa, (v.segs, v.resp))) (w.invoke, (w.sa, (w.segs, w.resp))))
    (λ e. λ i. record { invoke = (e i).0; sa = (e i).1.0; segs = (e i).1.1.0; resp = (e i).1.1.1 })
    (λ e. λ i. ((e i).invoke, ((e i).sa, ((e i).segs, (e i).resp))))

pub heads : Decided same_head
heads (Request a) (Request b) = by_parts (same_request a b) (requests a b) (λ e. ap Request e) (λ e. cc)
heads (Ack i) (Ack j) = by_parts (nat_eq i j) (unsigned_Decides i j) (λ e. ap Ack e) (λ e. cc)
heads (Request a) (Ack j) = (λ h. absurd (cc h), λ e. absurd (cc e))
heads (Ack i) (Request b) = (λ h. absurd (cc h), λ e. absurd (cc e))

carried : IsEquivalence (λ (a b : RequestCarrier). same_request a.head b.head && same_service a.service b.service)
carried = and_equiv (on_equiv (λ a. a.head) (decided same_request requests)) (on_equiv (λ a. a.service) service_laws.laws-law)

answered : IsEquivalence (λ (a b : AnswerCarrier). nat_eq a.invoke b.invoke && same_service a.service b.service)
answered = and_equiv (on_equiv (λ a. a.invoke) nat_eq_equiv) (on_equiv (λ a. a.service) service_laws.laws-law)

segments : IsEquivalence same_segment
segments =
    and_equiv (on_equiv (λ s. s.piece.items) nat_list_eq_equiv)
    (and_equiv (on_equiv (λ s. s.head) (decided same_head heads))
    (and_equiv (on_equiv (λ s. s.seq) nat_eq_equiv) (and_equiv (on_equiv (λ s. s.window) nat_eq_equiv) (and_equiv (on_equiv (λ s. s.more) bool_eq_equiv) (on_equiv (λ s. s.choice) nat_eq_equiv)))))

-- two numbers; a number, a bit and a number; and what a SegmentACK says
two : IsEquivalence (λ (p q : ℕ × ℕ). nat_eq p.0 q.0 && nat_eq p.1 q.1)
two = decided _ (pairs unsigned_Decides unsigned_Decides)

three : IsEquivalence (λ (p q : ℕ × (Bool × ℕ)). nat_eq p.0 q.0 && (beq p.1.0 q.1.0 && nat_eq p.1.1 q.1.1))
three = decided _ (pairs unsigned_Decides (pairs booleans_Decides unsigned_Decides))

five : IsEquivalence (λ (p q : ℕ × (Bool × (Bool × (ℕ × ℕ)))). nat_eq p.0 q.0 && (beq p.1.0 q.1.0 && (beq p.1.1.0 q.1.1.0 && (nat_eq p.1.1.1.0 q.1.1.1.0 && nat_eq p.1.1.1.1 q.1.1.1.1))))
five = decided _ (pairs unsigned_Decides (pairs booleans_Decides (pairs booleans_Decides (pairs unsigned_Decides unsigned_Decides))))

itself : (x : Apdu) → same_apdu x x ≡ true
itself (held.Confirmed a) = carried.refl a
itself (held.Unconfirmed a) = service_laws.laws-law.refl a
itself (held.SimpleAck i c) = two.refl (i, c)
itself (held.ComplexAck a) = answered.refl a
itself (held.SegmentAck i n s q w) = five.refl (i, (n, (s, (q, w))))
itself (held.Error a) = answered.refl a
itself (held.Reject i r) = two.refl (i, r)
itself (held.Abort i s r) = three.refl (i, (s, r))
itself (held.Segment a) = segments.refl a

turned : (x y : Apdu) → same_apdu x y ≡ same_apdu y x
turned (held.Confirmed a) (held.Confirmed b) = carried.symm a b
turned (held.Unconfirmed a) (held.Unconfirmed b) = service_laws.laws-law.symm a b
turned (held.SimpleAck i c) (held.SimpleAck j d) = two.symm (i, c) (j, d)
turned (held.ComplexAck a) (held.ComplexAck b) = answered.symm a b
turned (held.SegmentAck i n s q w) (held.SegmentAck j m t r v) = five.symm (i, (n, (s, (q, w)))) (j, (m, (t, (r, v))))
turned (held.Error a) (held.Error b) = answered.symm a b
turned (held.Reject i r) (held.Reject j s) = two.symm (i, r) (j, s)
turned (held.Abort i s r) (held.Abort j t q) = three.symm (i, (s, r)) (j, (t, q))
turned (held.Segment a) (held.Segment b) = segments.symm a b
turned _ _ = refl

alike : (x y z : Apdu) → same_apdu x y ≡ true → same_apdu x z ≡ same_apdu y z
alike (held.Confirmed a) (held.Confirmed b) (held.Confirmed c) h = carried.congr a b c h
alike (held.Unconfirmed a) (held.Unconfirmed b) (held.Unconfirmed c) h = service_laws.laws-law.congr a b c h
alike (held.SimpleAck i c) (held.SimpleAck j d) (held.SimpleAck k e) h = two.congr (i, c) (j, d) (k, e) h
alike (held.ComplexAck a) (held.ComplexAck b) (held.ComplexAck c) h = answered.congr a b c h
alike (held.SegmentAck i n s q w) (held.SegmentAck j m t r v) (held.SegmentAck k l o p u) h = five.congr (i, (n, (s, (q, w)))) (j, (m, (t, (r, v)))) (k, (l, (o, (p, u)))) h
alike (held.Error a) (held.Error b) (held.Error c) h = answered.congr a b c h
alike (held.Reject i r) (held.Reject j s) (held.Reject k t) h = two.congr (i, r) (j, s) (k, t) h
alike (held.Abort i s r) (held.Abort j t q) (held.Abort k u p) h = three.congr (i, (s, r)) (j, (t, q)) (k, (u, p)) h
alike (held.Segment a) (held.Segment b) (held.Segment c) h = segments.congr a b c h
alike (held.Confirmed a) (held.Confirmed b) _ h = refl
alike (held.Unconfirmed a) (held.Unconfirmed b) _ h = refl
alike (held.SimpleAck i c) (held.SimpleAck j d) _ h = refl
alike (held.ComplexAck a) (held.ComplexAck b) _ h = refl
alike (held.SegmentAck i n s q w) (held.SegmentAck j m t r v) _ h = refl
alike (held.Error a) (held.Error b) _ h = refl
alike (held.Reject i r) (held.Reject j s) _ h = refl
alike (held.Abort i s r) (held.Abort j t q) _ h = refl
alike (held.Segment a) (held.Segment b) _ h = refl
alike _ _ _ h = absurd (cc h)

pub same_apdu_equiv : IsEquivalence same_apdu
same_apdu_equiv = record { refl = itself; symm = turned; congr = alike }
