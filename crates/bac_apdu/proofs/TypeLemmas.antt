-- What the first octet tells of an APDU.
use Rattle.std.specs.Prelude.{◌≡◌, ℕ, ◌<◌, cond, nat_eq, Bool, true, false, List, [], ◌∷◌, length, refl}
use Rattle.std.proofs.Common.{sym, ◌∙◌, ap, subst, arith}
use Rattle.bac_service.specs.Services.{ServiceValue}
use Rattle.bac_apdu.specs.declared.confirmed_request.RequestHead.{RequestHead}
use Rattle.bac_apdu.specs.declared.segment.SegHead.TheVariants.{Request, Ack}
use Rattle.bac_apdu.specs.FirstOctet.{type_at, seg_at, head_size, ends_at}
use Rattle.bac_apdu.specs.Apdus.{ApduValue, confirmed_request, unconfirmed_request, simple_ack, complex_ack, segment_ack, error, reject, abort, segment, head_of, SpellsBody, SpellsApdu}
use Rattle.bac_tag.proofs.HeadOctetLemmas.{headed_long}

-- the APDUs of a type, by bit 3 where it says whether one is segmented
abbrev pub IsNamed : ℕ → ℕ → ApduValue → Type 0
IsNamed type seg x =
    cond (nat_eq type 0) (cond (nat_eq seg 0) ((h : RequestHead) × (s : ServiceValue) × (x ≡ confirmed_request h s)) ((h : RequestHead) × (q w : ℕ) × (more : Bool) × (c : ℕ) × (piece : List ℕ) × (x ≡ segment (Request h) q w more c piece)))
    (cond (nat_eq type 1) ((s : ServiceValue) × (x ≡ unconfirmed_request s))
    (cond (nat_eq type 2) ((i c : ℕ) × (x ≡ simple_ack i c))
    (cond (nat_eq type 3) (cond (nat_eq seg 0) ((i : ℕ) × (s : ServiceValue) × (x ≡ complex_ack i s)) ((i q w : ℕ) × (more : Bool) × (c : ℕ) × (piece : List ℕ) × (x ≡ segment (Ack i) q w more c piece)))
    (cond (nat_eq type 4) ((i : ℕ) × (nak srv : Bool) × (q w : ℕ) × (x ≡ segment_ack i nak srv q w))
    (cond (nat_eq type 5) ((i : ℕ) × (s : ServiceValue) × (x ≡ error i s))
    (cond (nat_eq type 6) ((i r : ℕ) × (x ≡ reject i r))
    ((i : ℕ) × (srv : Bool) × (r : ℕ) × (x ≡ abort i srv r))))))))

pub record IsTold (type seg : ℕ) (x : ApduValue) : Type 0 where
  pub low : type < 8
  pub sized : length (head_of x) ≡ head_size type seg
  pub named : IsNamed type seg x
  pub ends : ends_at type seg ≡ true → (b : List ℕ) → SpellsBody x b → b ≡ []

told_by_type : (x : ApduValue) (t u g : ℕ) → t ≡ u → IsTold u g x → IsTold t g x
told_by_type x t u g e h = subst (λ (n : ℕ). IsTold n g x) (sym e) h

told_by_both : (x : ApduValue) (t u g k : ℕ) → t ≡ u → g ≡ k → IsTold u k x → IsTold t g x
told_by_both x t u g k e f h = told_by_type x t u g e (subst (λ (n : ℕ). IsTold u n x) (sym f) h)

no_end : {P : Type 0} → false ≡ true → P
no_end e = absurd (let i : false ≡ true = e in cc)

pub told : (x : ApduValue) (o : ℕ) (b : List ℕ) → SpellsApdu x (o ∷ b) → IsTold (type_at o) (seg_at o) x
told (confirmed_request h s) o b p = told_by_both (confirmed_request h s) _ 0 _ 0 p.0.0 p.0.1 (record { low = omega arith; sized = refl; named = (h, s, refl); ends = λ e. no_end e })
told (unconfirmed_request s) o b p = told_by_type (unconfirmed_request s) _ 1 _ p.0.0 (record { low = omega arith; sized = refl; named = (s, refl); ends = λ e. no_end e })
told (simple_ack i c) o b p = told_by_type (simple_ack i c) _ 2 _ p.0.0 (record { low = omega arith; sized = refl; named = (i, c, refl); ends = λ e b h. h })
told (complex_ack i s) o b p = told_by_both (complex_ack i s) _ 3 _ 0 p.0.0 p.0.1 (record { low = omega arith; sized = refl; named = (i, s, refl); ends = λ e. no_end e })
told (segment_ack i nak srv q w) o b p = told_by_type (segment_ack i nak srv q w) _ 4 _ p.0.0 (record { low = omega arith; sized = refl; named = (i, nak, srv, q, w, refl); ends = λ e b h. h })
told (error i s) o b p = told_by_type (error i s) _ 5 _ p.0.0 (record { low = omega arith; sized = refl; named = (i, s, refl); ends = λ e. no_end e })
told (reject i r) o b p = told_by_type (reject i r) _ 6 _ p.0.0 (record { low = omega arith; sized = refl; named = (i, r, refl); ends = λ e b h. h })
told (abort i srv r) o b p = told_by_type (abort i srv r) _ 7 _ p.0.0 (record { low = omega arith; sized = refl; named = (i, srv, r, refl); ends = λ e b h. h })
told (segment (Request h) q w more c piece) o b p =
    told_by_both (segment (Request h) q w more c piece) _ 0 _ 1 p.0.0 p.0.1 (record { low = omega arith; sized = refl; named = (h, q, w, more, c, piece, refl); ends = λ e. no_end e })
told (segment (Ack i) q w more c piece) o b p =
    told_by_both (segment (Ack i) q w more c piece) _ 3 _ 1 p.0.0 p.0.1 (record { low = omega arith; sized = refl; named = (i, q, w, more, c, piece, refl); ends = λ e. no_end e })

-- the APDUs that begin with an octet of this type
pub named : (t g : ℕ) (x : ApduValue) (o : ℕ) (b : List ℕ) → type_at o ≡ t → seg_at o ≡ g → SpellsApdu x (o ∷ b) → IsNamed t g x
named t g x o b e f p = subst (λ (n : ℕ). IsNamed n g x) e (subst (λ (n : ℕ). IsNamed (type_at o) n x) f (told x o b p).named)

-- how many octets their heads have
pub sized : (t g : ℕ) (x : ApduValue) (o : ℕ) (b : List ℕ) → type_at o ≡ t → seg_at o ≡ g → SpellsApdu x (o ∷ b) → length (head_of x) ≡ head_size t g
sized t g x o b e f p = (told x o b p).sized ∙ ap (λ (n : ℕ). head_size n (seg_at o)) e ∙ ap (head_size t) f

-- what is shorter than the head spells none
pub too_short : (t g : ℕ) (x : ApduValue) (o : ℕ) (b : List ℕ) → type_at o ≡ t → seg_at o ≡ g → length (o ∷ b) < head_size t g → SpellsApdu x (o ∷ b) → ⊥
too_short t g x o b e f short p =
    let n = sized t g x o b e f p in
    let long = headed_long (head_of x) (SpellsBody x) (o ∷ b) p in
    omega (arith, n, long, short)

pub nothing_spells : (x : ApduValue) → SpellsApdu x [] → ⊥
nothing_spells (confirmed_request h s) p = p
nothing_spells (unconfirmed_request s) p = p
nothing_spells (simple_ack i c) p = p
nothing_spells (complex_ack i s) p = p
nothing_spells (segment_ack i nak srv q w) p = p
nothing_spells (error i s) p = p
nothing_spells (reject i r) p = p
nothing_spells (abort i srv r) p = p
nothing_spells (segment (Request h) q w more c piece) p = p
nothing_spells (segment (Ack i) q w more c piece) p = p
