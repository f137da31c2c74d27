-- What begins an APDU: by its type, and by its parts.
use Rattle.std.specs.Prelude.{◌≡◌, ◌↔◌, ℕ, ◌<◌, true, List, [], ◌∷◌, ◌++◌, refl}
use Rattle.std.proofs.Common.{inl, inr, ◌⊎◌, sym, ap, subst}
use Rattle.bac_tag.specs.HeadOctets.{Part, Headed}
use Rattle.bac_tag.specs.Spelling.{IsViable, IsPartway, Joins, JoinedBy}
use Rattle.bac_tag.specs.Laws.Spelling.{viable-JoinedBy}
use Rattle.bac_tag.proofs.BehindLemmas.{viable_as}
use Rattle.bac_tag.proofs.HeadOctetLemmas.{parts_are}
use Rattle.bac_service.specs.declared.kind.Kind.{Kind}
use Rattle.bac_service.specs.declared.kind.Kind.TheVariants.{Confirmed, Unconfirmed, ComplexAck, Error}
use Rattle.bac_service.specs.Services.{ServiceValue, SpellsService}
use Rattle.bac_apdu.specs.declared.segment.SegHead.TheVariants.{Request, Ack}
use Rattle.bac_apdu.specs.ConfirmedRequest.{confirmed_request_head}
use Rattle.bac_apdu.specs.UnconfirmedRequest.{unconfirmed_request_head}
use Rattle.bac_apdu.specs.ComplexAck.{complex_ack_head}
use Rattle.bac_apdu.specs.ErrorPdu.{error_head}
use Rattle.bac_apdu.specs.Apdus.{ApduValue, confirmed_request, unconfirmed_request, simple_ack, complex_ack, segment_ack, error, reject, abort, segment, head_of, SpellsServiceOf, SpellsBody, SpellsApdu}
use Rattle.bac_apdu.specs.Cases.{SpellsConfirmed, SpellsUnconfirmed, SpellsSimpleAck, SpellsComplexAck, SpellsSegmentAck, SpellsError, SpellsReject, SpellsAbort, SpellsSegment, SpellsHead, SpellsAfter}

-- ---- by its type

pub by_case : (x : ApduValue) (b rest : List ℕ) → SpellsApdu x (b ++ rest)
    → IsViable SpellsConfirmed b ⊎ (IsViable SpellsUnconfirmed b ⊎ (IsViable SpellsSimpleAck b ⊎ (IsViable SpellsComplexAck b ⊎ (IsViable SpellsSegmentAck b ⊎ (IsViable SpellsError b ⊎ (IsViable SpellsReject b ⊎ (IsViable SpellsAbort b ⊎ IsViable SpellsSegment b)))))))
by_case (confirmed_request head service) b rest h = inl (record { value = (head, service); rest = rest; spelled = h })
by_case (unconfirmed_request service) b rest h = inr (inl (record { value = service; rest = rest; spelled = h }))
by_case (simple_ack invoke choice) b rest h = inr (inr (inl (record { value = (invoke, choice); rest = rest; spelled = h })))
by_case (complex_ack invoke service) b rest h = inr (inr (inr (inl (record { value = (invoke, service); rest = rest; spelled = h }))))
by_case (segment_ack invoke nak srv seq size) b rest h = inr (inr (inr (inr (inl (record { value = (invoke, (nak, (srv, (seq, size)))); rest = rest; spelled = h })))))
by_case (error invoke service) b rest h = inr (inr (inr (inr (inr (inl (record { value = (invoke, service); rest = rest; spelled = h }))))))
by_case (reject invoke reason) b rest h = inr (inr (inr (inr (inr (inr (inl (record { value = (invoke, reason); rest = rest; spelled = h })))))))
by_case (abort invoke srv reason) b rest h = inr (inr (inr (inr (inr (inr (inr (inl (record { value = (invoke, (srv, reason)); rest = rest; spelled = h }))))))))
by_case (segment head seq size more choice piece) b rest h = inr (inr (inr (inr (inr (inr (inr (inr ((record { value = (head, (seq, (size, (more, (choice, piece))))); rest = rest; spelled = h })))))))))

pub of_case : (b : List ℕ) → IsViable SpellsConfirmed b ⊎ (IsViable SpellsUnconfirmed b ⊎ (IsViable SpellsSimpleAck b ⊎ (IsViable SpellsComplexAck b ⊎ (IsViable SpellsSegmentAck b ⊎ (IsViable SpellsError b ⊎ (IsViable SpellsReject b ⊎ (IsViable SpellsAbort b ⊎ IsViable SpellsSegment b))))))) → IsViable SpellsApdu b
of_case b (inl v) = viable_as SpellsConfirmed SpellsApdu b (λ x c s. (confirmed_request x.0 x.1, s)) v
of_case b (inr (inl v)) = viable_as SpellsUnconfirmed SpellsApdu b (λ x c s. (unconfirmed_request x, s)) v
of_case b (inr (inr (inl v))) = viable_as SpellsSimpleAck SpellsApdu b (λ x c s. (simple_ack x.0 x.1, s)) v
of_case b (inr (inr (inr (inl v)))) = viable_as SpellsComplexAck SpellsApdu b (λ x c s. (complex_ack x.0 x.1, s)) v
of_case b (inr (inr (inr (inr (inl v))))) = viable_as SpellsSegmentAck SpellsApdu b (λ x c s. (segment_ack x.0 x.1.0 x.1.1.0 x.1.1.1.0 x.1.1.1.1, s)) v
of_case b (inr (inr (inr (inr (inr (inl v)))))) = viable_as SpellsError SpellsApdu b (λ x c s. (error x.0 x.1, s)) v
of_case b (inr (inr (inr (inr (inr (inr (inl v))))))) = viable_as SpellsReject SpellsApdu b (λ x c s. (reject x.0 x.1, s)) v
of_case b (inr (inr (inr (inr (inr (inr (inr (inl v)))))))) = viable_as SpellsAbort SpellsApdu b (λ x c s. (abort x.0 x.1.0 x.1.1, s)) v
of_case b (inr (inr (inr (inr (inr (inr (inr (inr v)))))))) = viable_as SpellsSegment SpellsApdu b (λ x c s. (segment x.0 x.1.0 x.1.1.0 x.1.1.1.0 x.1.1.1.1.0 x.1.1.1.1.1, s)) v

-- ---- by its parts

-- a head, and a body after it
pub headed_splits : (ps : List Part) (B : List ℕ → Type 0) (b : List ℕ) → Headed ps B b → Joins (Headed ps (λ rest. rest ≡ [])) B b
headed_splits [] B b h = record { front = []; back = b; first = refl; second = h; octets = refl }
headed_splits (p ∷ ps) B [] h = absurd h
headed_splits (p ∷ ps) B (o ∷ b) h =
    let rest = headed_splits ps B b h.1 in
    record { front = o ∷ rest.front; back = rest.back; first = (h.0, rest.first); second = rest.second; octets = ap (λ (l : List ℕ). o ∷ l) rest.octets }

pub headed_joins : (ps : List Part) (B : List ℕ → Type 0) (front back : List ℕ) → Headed ps (λ rest. rest ≡ []) front → B back → Headed ps B (front ++ back)
headed_joins [] B front back h k = subst B (ap (λ (l : List ℕ). l ++ back) (sym h)) k
headed_joins (p ∷ ps) B [] back h k = absurd h
headed_joins (p ∷ ps) B (o ∷ front) back h k = (h.0, headed_joins ps B front back h.1 k)

module _ (services : (kind : Kind) (choice : ℕ) → choice < 256 → IsViable (SpellsService true 32 kind choice) []) where
  -- a service with this choice
  service_after : (kind : Kind) (choice : ℕ) → choice < 256 → (s : ServiceValue) × (s.choice ≡ choice) × ((b : List ℕ) × SpellsServiceOf kind s b)
  service_after kind choice fits =
      let v = services kind choice fits in
      (v.value, v.spelled.choice_is, (v.rest, subst (λ (c : ℕ). SpellsService true 32 kind c v.value v.rest) (sym v.spelled.choice_is) v.spelled))

  -- after each head something can come
  body_after : (x : ApduValue) (b : List ℕ) → SpellsHead x b → (y : ApduValue) × (d : List ℕ) × SpellsAfter x y d
  body_after (confirmed_request h s) b p =
      let parts = parts_are (head_of (confirmed_request h s)) (λ rest. rest ≡ []) b p in
      let t = service_after Confirmed s.choice parts.1.1.1.0 in
      (confirmed_request h t.0, t.2.0, (ap (confirmed_request_head h) t.1, t.2.1))
  body_after (unconfirmed_request s) b p =
      let parts = parts_are (head_of (unconfirmed_request s)) (λ rest. rest ≡ []) b p in
      let t = service_after Unconfirmed s.choice parts.1.0 in
      (unconfirmed_request t.0, t.2.0, (ap unconfirmed_request_head t.1, t.2.1))
  body_after (simple_ack i c) b p = (simple_ack i c, [], (refl, refl))
  body_after (complex_ack i s) b p =
      let parts = parts_are (head_of (complex_ack i s)) (λ rest. rest ≡ []) b p in
      let t = service_after ComplexAck s.choice parts.1.1.0 in
      (complex_ack i t.0, t.2.0, (ap (complex_ack_head i) t.1, t.2.1))
  body_after (segment_ack i nak srv q w) b p = (segment_ack i nak srv q w, [], (refl, refl))
  body_after (error i s) b p =
      let parts = parts_are (head_of (error i s)) (λ rest. rest ≡ []) b p in
      let t = service_after Error s.choice parts.1.1.0 in
      (error i t.0, t.2.0, (ap (error_head i) t.1, t.2.1))
  body_after (reject i r) b p = (reject i r, [], (refl, refl))
  body_after (abort i srv r) b p = (abort i srv r, [], (refl, refl))
  body_after (segment (Request h) q w more c piece) b p = (segment (Request h) q w more c [], [], (refl, (refl, tt)))
  body_after (segment (Ack i) q w more c piece) b p = (segment (Ack i) q w more c [], [], (refl, (refl, tt)))

  -- an APDU is its head, and what can come after it
  apart : (x : ApduValue) (b : List ℕ) → SpellsApdu x b → (p : ApduValue × ApduValue) × JoinedBy SpellsHead SpellsAfter p b
  apart x b h =
      let j = headed_splits (head_of x) (SpellsBody x) b h in
      ((x, x), record { front = j.front; back = j.back; first = j.first; second = (refl, j.second); octets = j.octets })

  together : (p : ApduValue × ApduValue) (b : List ℕ) → JoinedBy SpellsHead SpellsAfter p b → (x : ApduValue) × SpellsApdu x b
  together p b j =
      let head = subst (λ (ps : List Part). Headed ps (λ rest. rest ≡ []) j.front) (sym j.second.0) j.first in
      (p.1, subst (SpellsApdu p.1) (sym j.octets) (headed_joins (head_of p.1) (SpellsBody p.1) j.front j.back head j.second.1))

  pub heads_in_turn : (b : List ℕ) → IsViable SpellsApdu b ↔ (IsViable SpellsHead b ⊎ IsPartway SpellsHead SpellsAfter b)
  heads_in_turn b =
      let parts = viable-JoinedBy SpellsHead SpellsAfter body_after b in (
        λ v. parts.0 (viable_as SpellsApdu (JoinedBy SpellsHead SpellsAfter) b apart v),
        λ s. viable_as (JoinedBy SpellsHead SpellsAfter) SpellsApdu b together (parts.1 s),
      )
