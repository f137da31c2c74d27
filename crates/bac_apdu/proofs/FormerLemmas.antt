-- APDUs as they were spelled before.
use Rattle.std.specs.Prelude.{◌↔◌, ℕ, true, false, List, [], ◌∷◌}
use Rattle.bac_tag.specs.HeadOctets.{Part, Headed}
use Rattle.bac_service.specs.declared.kind.Kind.{Kind}
use Rattle.bac_service.specs.declared.kind.Kind.TheVariants.{Confirmed, Unconfirmed, ComplexAck, Error}
use Rattle.bac_service.specs.ServiceTable.{IsUnchanged}
use Rattle.bac_service.specs.Services.{ServiceValue, SpellsService}
use Rattle.bac_apdu.specs.Apdus.{ApduValue, confirmed_request, unconfirmed_request, simple_ack, complex_ack, segment_ack, error, reject, abort, segment, head_of, SpellsBody, SpellsApdu}
use Rattle.bac_apdu.specs.FormerApdus.{SpellsFormerBody, SpellsFormerApdu, IsKept}

-- ---- heads in front of bodies

-- the body behind a head
body_behind : (ps : List Part) (B : List ℕ → Type 0) (b : List ℕ) → Headed ps B b → (rest : List ℕ) × B rest
body_behind [] B b h = (b, h)
body_behind (p ∷ ps) B [] h = absurd h
body_behind (p ∷ ps) B (o ∷ b) h = body_behind ps B b h.1

headed_alone : (ps : List Part) (A B : List ℕ → Type 0) (b : List ℕ) → ((c : List ℕ) → A c → B c) → Headed ps A b → Headed ps B b
headed_alone [] A B b to h = to b h
headed_alone (p ∷ ps) A B [] to h = absurd h
headed_alone (p ∷ ps) A B (o ∷ b) to h = (h.0, headed_alone ps A B b to h.1)

-- where bodies agree behind any head, so do wholes
pub headed_same : (ps : List Part) (A B : List ℕ → Type 0) (b c : List ℕ) → ((d e : List ℕ) → A d → A e ↔ B e) → Headed ps A b → Headed ps A c ↔ Headed ps B c
headed_same ps A B b c same h =
    let q = body_behind ps A b h in
    (headed_alone ps A B c (λ e. (same q.0 e q.1).0), headed_alone ps B A c (λ e. (same q.0 e q.1).1))

pub back : {S T : Type 0} → S ↔ T → T ↔ S
back e = (e.1, e.0)

-- ---- APDUs

module _ (spelled : (k : Kind) (choice : ℕ) (v : ServiceValue) (b c : List ℕ) → IsUnchanged k choice → SpellsService false 16 k choice v b → SpellsService false 16 k choice v c ↔ SpellsService true 32 k choice v c) where
  body_same : (x : ApduValue) (b c : List ℕ) → IsKept x → SpellsFormerBody x b → SpellsFormerBody x c ↔ SpellsBody x c
  body_same (confirmed_request h s) b c k p = spelled Confirmed s.choice s b c k p
  body_same (unconfirmed_request s) b c k p = spelled Unconfirmed s.choice s b c k p
  body_same (simple_ack i n) b c k p = (λ q. q, λ q. q)
  body_same (complex_ack i s) b c k p = spelled ComplexAck s.choice s b c k p
  body_same (segment_ack i nak srv q w) b c k p = (λ q. q, λ q. q)
  body_same (error i s) b c k p = spelled Error s.choice s b c k p
  body_same (reject i r) b c k p = (λ q. q, λ q. q)
  body_same (abort i srv r) b c k p = (λ q. q, λ q. q)
  body_same (segment h q w more n piece) b c k p = (λ q. q, λ q. q)

  pub apdu_same : (x : ApduValue) (b c : List ℕ) → IsKept x → SpellsFormerApdu x b → SpellsFormerApdu x c ↔ SpellsApdu x c
  apdu_same x b c k p = headed_same (head_of x) (SpellsFormerBody x) (SpellsBody x) b c (λ d e. body_same x d e k) p
