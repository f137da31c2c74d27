-- Each APDU that a program holds has canonical octets: those of its head, and of what comes after it.
use Rattle.std.specs.Prelude.{◌≡◌, ℕ, ◌<◌, Bool, true, List, [], ◌++◌, refl}
use Rattle.std.proofs.Common.{subst}
use Rattle.bac_tag.specs.Octets.{IsOctets}
use Rattle.bac_tag.specs.Spelling.{IsLeast}
use Rattle.bac_tag.specs.HeadOctets.{IsWindow, AreParts, least_head}
use Rattle.bac_tag.proofs.HeadOctetLemmas.{headed_least}
use Rattle.bac_service.specs.declared.kind.Kind.{Kind}
use Rattle.bac_service.specs.declared.kind.Kind.TheVariants.{Confirmed, Unconfirmed, ComplexAck, Error}
use Rattle.bac_service.specs.Services.{ServiceValue, SpellsService}
use Rattle.bac_apdu.specs.declared.confirmed_request.RequestHead.{RequestHead}
use Rattle.bac_apdu.specs.declared.segment.SegHead.TheVariants.{Request, Ack}
use Rattle.bac_apdu.specs.Apdus.{ApduValue, confirmed_request, unconfirmed_request, simple_ack, complex_ack, segment_ack, error, reject, abort, segment, head_of, SpellsServiceOf, SpellsBody, SpellsApdu}
use Rattle.bac_apdu.proofs.LawLemmas.{one_least}

abbrev pub Canonical : (List ℕ → Type 0) → Type 0
Canonical Among = (b : List ℕ) × IsLeast Among b

-- the octets of a service
abbrev pub HeldService : ServiceValue → Type 0
HeldService s = Canonical (SpellsService true 32 s.kind s.choice s)

-- the numbers in the head of a request
abbrev pub RequestFits : RequestHead → Type 0
RequestFits h = (h.segs < 8) × (h.resp < 16) × (h.invoke < 256)

headed : (v : ApduValue) → AreParts (head_of v) → Canonical (SpellsBody v) → Canonical (SpellsApdu v)
headed v parts body = (least_head (head_of v) ++ body.0, headed_least (head_of v) (SpellsBody v) body.0 parts body.1)

carried : (k : Kind) (s : ServiceValue) → s.kind ≡ k → HeldService s → Canonical (SpellsServiceOf k s)
carried k s e h = subst (λ (j : Kind). Canonical (SpellsService true 32 j s.choice s)) e h

nothing : Canonical (λ (c : List ℕ). c ≡ [])
nothing = ([], one_least (λ (c : List ℕ). c ≡ []) [] refl (λ c e. e))

piece_alone : (piece : List ℕ) → IsOctets piece → Canonical (λ (c : List ℕ). (c ≡ piece) × IsOctets c)
piece_alone piece octets = (piece, one_least (λ (c : List ℕ). (c ≡ piece) × IsOctets c) piece (refl, octets) (λ c e. e.0))

pub held_confirmed : (h : RequestHead) (s : ServiceValue) → RequestFits h → s.kind ≡ Confirmed → HeldService s → Canonical (SpellsApdu (confirmed_request h s))
held_confirmed h s fits e held = headed (confirmed_request h s) (tt, ((fits.0, fits.1), (fits.2, (held.1.member.choice_fits, tt)))) (carried Confirmed s e held)

pub held_unconfirmed : (s : ServiceValue) → s.kind ≡ Unconfirmed → HeldService s → Canonical (SpellsApdu (unconfirmed_request s))
held_unconfirmed s e held = headed (unconfirmed_request s) (tt, (held.1.member.choice_fits, tt)) (carried Unconfirmed s e held)

pub held_complex_ack : (i : ℕ) (s : ServiceValue) → i < 256 → s.kind ≡ ComplexAck → HeldService s → Canonical (SpellsApdu (complex_ack i s))
held_complex_ack i s fits e held = headed (complex_ack i s) (tt, (fits, (held.1.member.choice_fits, tt))) (carried ComplexAck s e held)

pub held_error : (i : ℕ) (s : ServiceValue) → i < 256 → s.kind ≡ Error → HeldService s → Canonical (SpellsApdu (error i s))
held_error i s fits e held = headed (error i s) (tt, (fits, (held.1.member.choice_fits, tt))) (carried Error s e held)

pub held_simple_ack : (i c : ℕ) → i < 256 → c < 256 → Canonical (SpellsApdu (simple_ack i c))
held_simple_ack i c fits other = headed (simple_ack i c) (tt, (fits, (other, tt))) nothing

pub held_segment_ack : (i : ℕ) (nak srv : Bool) (q w : ℕ) → i < 256 → q < 256 → IsWindow w → Canonical (SpellsApdu (segment_ack i nak srv q w))
held_segment_ack i nak srv q w fits other window = headed (segment_ack i nak srv q w) (tt, (fits, (other, (window, tt)))) nothing

pub held_reject : (i r : ℕ) → i < 256 → r < 256 → Canonical (SpellsApdu (reject i r))
held_reject i r fits other = headed (reject i r) (tt, (fits, (other, tt))) nothing

pub held_abort : (i : ℕ) (srv : Bool) (r : ℕ) → i < 256 → r < 256 → Canonical (SpellsApdu (abort i srv r))
held_abort i srv r fits other = headed (abort i srv r) (tt, (fits, (other, tt))) nothing

pub held_request_segment : (h : RequestHead) (q w : ℕ) (more : Bool) (c : ℕ) (piece : List ℕ) → RequestFits h → q < 256 → IsWindow w → c < 256 → IsOctets piece → Canonical (SpellsApdu (segment (Request h) q w more c piece))
held_request_segment h q w more c piece fits number window choice octets =
    headed (segment (Request h) q w more c piece) (tt, ((fits.0, fits.1), (fits.2, (number, (window, (choice, tt)))))) (piece_alone piece octets)

pub held_ack_segment : (i q w : ℕ) (more : Bool) (c : ℕ) (piece : List ℕ) → i < 256 → q < 256 → IsWindow w → c < 256 → IsOctets piece → Canonical (SpellsApdu (segment (Ack i) q w more c piece))
held_ack_segment i q w more c piece fits number window choice octets =
    headed (segment (Ack i) q w more c piece) (tt, (fits, (number, (window, (choice, tt))))) (piece_alone piece octets)
