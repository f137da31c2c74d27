-- No list spells two APDUs.
use Rattle.std.specs.Prelude.{◌≡◌, ℕ, Bool, true, List, [], ◌∷◌, length, refl}
use Rattle.std.proofs.Common.{sym, ◌∙◌, ap, subst, arith}
use Rattle.bac_service.specs.declared.kind.Kind.{Kind}
use Rattle.bac_service.specs.declared.kind.Kind.TheVariants.{Confirmed, Unconfirmed, ComplexAck, Error}
use Rattle.bac_service.specs.Services.{ServiceValue, SpellsService}
use Rattle.bac_apdu.specs.declared.confirmed_request.RequestHead.{RequestHead}
use Rattle.bac_apdu.specs.declared.segment.SegHead.TheVariants.{Request, Ack}
use Rattle.bac_tag.specs.HeadOctets.{Part, SpellsPart, Headed}
use Rattle.bac_tag.proofs.HeadOctetLemmas.{bit_once}
use Rattle.bac_apdu.specs.FirstOctet.{seg_at}
use Rattle.bac_apdu.specs.Apdus.{ApduValue, confirmed_request, unconfirmed_request, simple_ack, complex_ack, segment_ack, error, reject, abort, segment, head_of, SpellsServiceOf, SpellsBody, SpellsApdu}
use Rattle.bac_apdu.proofs.TypeLemmas.{named, nothing_spells}
use Rattle.bac_apdu.proofs.CarryingLemmas.{at_choice}

-- one octet spells both
abbrev pub BothParts : Part → Part → Type 0
BothParts p q = (o : ℕ) × SpellsPart p o × SpellsPart q o

abbrev pub Shared : List Part → List Part → Type 0
Shared [] [] = Unit {0}
Shared (p ∷ ps) (q ∷ qs) = BothParts p q × Shared ps qs
Shared _ _ = ⊥

-- two heads of one list, and what stands behind both
abbrev pub Agree : List Part → List Part → (List ℕ → Type 0) → (List ℕ → Type 0) → Type 0
Agree ps qs B C = Shared ps qs × ((c : List ℕ) × B c × C c)

agree : (ps qs : List Part) (B C : List ℕ → Type 0) (b : List ℕ) → length ps ≡ length qs → Headed ps B b → Headed qs C b → Agree ps qs B C
agree [] [] B C b e p q = (tt, (b, p, q))
agree [] (r ∷ qs) B C b e p q = absurd (omega (arith, e))
agree (r ∷ ps) [] B C b e p q = absurd (omega (arith, e))
agree (r ∷ ps) (s ∷ qs) B C [] e p q = absurd p
agree (r ∷ ps) (s ∷ qs) B C (o ∷ b) e p q = let t = agree ps qs B C b (omega (arith, e)) p.1 q.1 in (((o, p.0, q.0), t.0), t.1)

head_once : (h k : RequestHead) → h.invoke ≡ k.invoke → h.sa ≡ k.sa → h.segs ≡ k.segs → h.resp ≡ k.resp → h ≡ k
head_once h k e f g r =
    let a : h ≡ record { invoke = k.invoke; sa = h.sa; segs = h.segs; resp = h.resp } = ap (λ (n : ℕ). let x : RequestHead = record { invoke = n; sa = h.sa; segs = h.segs; resp = h.resp } in x) e in
    let b = ap (λ (n : Bool). let x : RequestHead = record { invoke = k.invoke; sa = n; segs = h.segs; resp = h.resp } in x) f in
    let c = ap (λ (n : ℕ). let x : RequestHead = record { invoke = k.invoke; sa = k.sa; segs = n; resp = h.resp } in x) g in
    let d = ap (λ (n : ℕ). let x : RequestHead = record { invoke = k.invoke; sa = k.sa; segs = k.segs; resp = n } in x) r in
    a ∙ b ∙ c ∙ d

module _ (services : (k : Kind) (c : ℕ) (v w : ServiceValue) (b : List ℕ) → SpellsService true 32 k c v b → SpellsService true 32 k c w b → v ≡ w) where
  -- two services of choices that one octet spells
  service_once : (k : Kind) (s t : ServiceValue) (c : ℕ) (b : List ℕ) → c ≡ s.choice → c ≡ t.choice → SpellsServiceOf k s b → SpellsServiceOf k t b → s ≡ t
  service_once k s t c b e f p q = services k c s t b (at_choice k c s b e p) (at_choice k c t b f q)

  pub apdu_once : (x y : ApduValue) (b : List ℕ) → SpellsApdu x b → SpellsApdu y b → x ≡ y
  apdu_once x y [] p q = absurd (nothing_spells x p)
  apdu_once (simple_ack i c) y (o ∷ b) p q =
      let n = named 2 (seg_at o) y o b p.0.0 refl q in
      let z = simple_ack n.0 n.1 in
      let a = agree (head_of (simple_ack i c)) (head_of z) (SpellsBody (simple_ack i c)) (SpellsBody z) (o ∷ b) refl p (subst (λ (y : ApduValue). SpellsApdu y (o ∷ b)) n.2 q) in
      let u : i ≡ n.0 = sym a.0.1.0.1.0 ∙ a.0.1.0.2.0 in
      let v : c ≡ n.1 = sym a.0.1.1.0.1.0 ∙ a.0.1.1.0.2.0 in
      ap (λ (i : ℕ). simple_ack i c) u ∙ ap (simple_ack n.0) v ∙ sym n.2
  apdu_once (reject i c) y (o ∷ b) p q =
      let n = named 6 (seg_at o) y o b p.0.0 refl q in
      let z = reject n.0 n.1 in
      let a = agree (head_of (reject i c)) (head_of z) (SpellsBody (reject i c)) (SpellsBody z) (o ∷ b) refl p (subst (λ (y : ApduValue). SpellsApdu y (o ∷ b)) n.2 q) in
      let u : i ≡ n.0 = sym a.0.1.0.1.0 ∙ a.0.1.0.2.0 in
      let v : c ≡ n.1 = sym a.0.1.1.0.1.0 ∙ a.0.1.1.0.2.0 in
      ap (λ (i : ℕ). reject i c) u ∙ ap (reject n.0) v ∙ sym n.2
  apdu_once (abort i s c) y (o ∷ b) p q =
      let n = named 7 (seg_at o) y o b p.0.0 refl q in
      let z = abort n.0 n.1 n.2 in
      let a = agree (head_of (abort i s c)) (head_of z) (SpellsBody (abort i s c)) (SpellsBody z) (o ∷ b) refl p (subst (λ (y : ApduValue). SpellsApdu y (o ∷ b)) n.3 q) in
      let u : i ≡ n.0 = sym a.0.1.0.1.0 ∙ a.0.1.0.2.0 in
      let v : c ≡ n.2 = sym a.0.1.1.0.1.0 ∙ a.0.1.1.0.2.0 in
      let w : s ≡ n.1 = bit_once s n.1 _ a.0.0.1.4 a.0.0.2.4 in
      ap (λ (i : ℕ). abort i s c) u ∙ ap (λ (s : Bool). abort n.0 s c) w ∙ ap (abort n.0 n.1) v ∙ sym n.3
  apdu_once (segment_ack i nak srv q w) y (o ∷ b) p r =
      let n = named 4 (seg_at o) y o b p.0.0 refl r in
      let z = segment_ack n.0 n.1 n.2 n.3 n.4 in
      let a = agree (head_of (segment_ack i nak srv q w)) (head_of z) (SpellsBody (segment_ack i nak srv q w)) (SpellsBody z) (o ∷ b) refl p (subst (λ (y : ApduValue). SpellsApdu y (o ∷ b)) n.5 r) in
      let e : i ≡ n.0 = sym a.0.1.0.1.0 ∙ a.0.1.0.2.0 in
      let f : nak ≡ n.1 = bit_once nak n.1 _ a.0.0.1.3 a.0.0.2.3 in
      let g : srv ≡ n.2 = bit_once srv n.2 _ a.0.0.1.4 a.0.0.2.4 in
      let h : q ≡ n.3 = sym a.0.1.1.0.1.0 ∙ a.0.1.1.0.2.0 in
      let k : w ≡ n.4 = sym a.0.1.1.1.0.1.0 ∙ a.0.1.1.1.0.2.0 in
      ap (λ (t : ℕ). segment_ack t nak srv q w) e ∙ ap (λ (t : Bool). segment_ack n.0 t srv q w) f ∙ ap (λ (t : Bool). segment_ack n.0 n.1 t q w) g ∙ ap (λ (t : ℕ). segment_ack n.0 n.1 n.2 t w) h ∙ ap (segment_ack n.0 n.1 n.2 n.3) k ∙ sym n.5
  apdu_once (unconfirmed_request s) y (o ∷ b) p q =
      let n = named 1 (seg_at o) y o b p.0.0 refl q in
      let z = unconfirmed_request n.0 in
      let a = agree (head_of (unconfirmed_request s)) (head_of z) (SpellsBody (unconfirmed_request s)) (SpellsBody z) (o ∷ b) refl p (subst (λ (y : ApduValue). SpellsApdu y (o ∷ b)) n.1 q) in
      ap unconfirmed_request (service_once Unconfirmed s n.0 a.0.1.0.0 a.1.0 a.0.1.0.1.0 a.0.1.0.2.0 a.1.1 a.1.2) ∙ sym n.1
  apdu_once (complex_ack i s) y (o ∷ b) p q =
      let n = named 3 0 y o b p.0.0 p.0.1 q in
      let z = complex_ack n.0 n.1 in
      let a = agree (head_of (complex_ack i s)) (head_of z) (SpellsBody (complex_ack i s)) (SpellsBody z) (o ∷ b) refl p (subst (λ (y : ApduValue). SpellsApdu y (o ∷ b)) n.2 q) in
      let u : i ≡ n.0 = sym a.0.1.0.1.0 ∙ a.0.1.0.2.0 in
      ap (λ (i : ℕ). complex_ack i s) u ∙ ap (complex_ack n.0) (service_once ComplexAck s n.1 a.0.1.1.0.0 a.1.0 a.0.1.1.0.1.0 a.0.1.1.0.2.0 a.1.1 a.1.2) ∙ sym n.2
  apdu_once (error i s) y (o ∷ b) p q =
      let n = named 5 (seg_at o) y o b p.0.0 refl q in
      let z = error n.0 n.1 in
      let a = agree (head_of (error i s)) (head_of z) (SpellsBody (error i s)) (SpellsBody z) (o ∷ b) refl p (subst (λ (y : ApduValue). SpellsApdu y (o ∷ b)) n.2 q) in
      let u : i ≡ n.0 = sym a.0.1.0.1.0 ∙ a.0.1.0.2.0 in
      ap (λ (i : ℕ). error i s) u ∙ ap (error n.0) (service_once Error s n.1 a.0.1.1.0.0 a.1.0 a.0.1.1.0.1.0 a.0.1.1.0.2.0 a.1.1 a.1.2) ∙ sym n.2
  apdu_once (confirmed_request h s) y (o ∷ b) p q =
      let n = named 0 0 y o b p.0.0 p.0.1 q in
      let z = confirmed_request n.0 n.1 in
      let a = agree (head_of (confirmed_request h s)) (head_of z) (SpellsBody (confirmed_request h s)) (SpellsBody z) (o ∷ b) refl p (subst (λ (y : ApduValue). SpellsApdu y (o ∷ b)) n.2 q) in
      let sa : h.sa ≡ n.0.sa = bit_once h.sa n.0.sa _ a.0.0.1.3 a.0.0.2.3 in
      let k : h ≡ n.0 = head_once h n.0 (sym a.0.1.1.0.1.0 ∙ a.0.1.1.0.2.0) sa (sym a.0.1.0.1.1 ∙ a.0.1.0.2.1) (sym a.0.1.0.1.2 ∙ a.0.1.0.2.2) in
      ap (λ (h : RequestHead). confirmed_request h s) k ∙ ap (confirmed_request n.0) (service_once Confirmed s n.1 a.0.1.1.1.0.0 a.1.0 a.0.1.1.1.0.1.0 a.0.1.1.1.0.2.0 a.1.1 a.1.2) ∙ sym n.2
  apdu_once (segment (Ack i) q w more c piece) y (o ∷ b) p r =
      let n = named 3 1 y o b p.0.0 p.0.1 r in
      let z = segment (Ack n.0) n.1 n.2 n.3 n.4 n.5 in
      let x = segment (Ack i) q w more c piece in
      let a = agree (head_of x) (head_of z) (SpellsBody x) (SpellsBody z) (o ∷ b) refl p (subst (λ (y : ApduValue). SpellsApdu y (o ∷ b)) n.6 r) in
      let e : i ≡ n.0 = sym a.0.1.0.1.0 ∙ a.0.1.0.2.0 in
      let f : q ≡ n.1 = sym a.0.1.1.0.1.0 ∙ a.0.1.1.0.2.0 in
      let g : w ≡ n.2 = sym a.0.1.1.1.0.1.0 ∙ a.0.1.1.1.0.2.0 in
      let h : more ≡ n.3 = bit_once more n.3 _ a.0.0.1.2 a.0.0.2.2 in
      let k : c ≡ n.4 = sym a.0.1.1.1.1.0.1.0 ∙ a.0.1.1.1.1.0.2.0 in
      let l : piece ≡ n.5 = sym a.1.1.0 ∙ a.1.2.0 in
      ap (λ (t : ℕ). segment (Ack t) q w more c piece) e ∙ ap (λ (t : ℕ). segment (Ack n.0) t w more c piece) f ∙ ap (λ (t : ℕ). segment (Ack n.0) n.1 t more c piece) g ∙ ap (λ (t : Bool). segment (Ack n.0) n.1 n.2 t c piece) h ∙ ap (λ (t : ℕ). segment (Ack n.0) n.1 n.2 n.3 t piece) k ∙ ap (segment (Ack n.0) n.1 n.2 n.3 n.4) l ∙ sym n.6
  apdu_once (segment (Request d) q w more c piece) y (o ∷ b) p r =
      let n = named 0 1 y o b p.0.0 p.0.1 r in
      let z = segment (Request n.0) n.1 n.2 n.3 n.4 n.5 in
      let x = segment (Request d) q w more c piece in
      let a = agree (head_of x) (head_of z) (SpellsBody x) (SpellsBody z) (o ∷ b) refl p (subst (λ (y : ApduValue). SpellsApdu y (o ∷ b)) n.6 r) in
      let sa : d.sa ≡ n.0.sa = bit_once d.sa n.0.sa _ a.0.0.1.3 a.0.0.2.3 in
      let e : d ≡ n.0 = head_once d n.0 (sym a.0.1.1.0.1.0 ∙ a.0.1.1.0.2.0) sa (sym a.0.1.0.1.1 ∙ a.0.1.0.2.1) (sym a.0.1.0.1.2 ∙ a.0.1.0.2.2) in
      let f : q ≡ n.1 = sym a.0.1.1.1.0.1.0 ∙ a.0.1.1.1.0.2.0 in
      let g : w ≡ n.2 = sym a.0.1.1.1.1.0.1.0 ∙ a.0.1.1.1.1.0.2.0 in
      let h : more ≡ n.3 = bit_once more n.3 _ a.0.0.1.2 a.0.0.2.2 in
      let k : c ≡ n.4 = sym a.0.1.1.1.1.1.0.1.0 ∙ a.0.1.1.1.1.1.0.2.0 in
      let l : piece ≡ n.5 = sym a.1.1.0 ∙ a.1.2.0 in
      ap (λ (t : RequestHead). segment (Request t) q w more c piece) e ∙ ap (λ (t : ℕ). segment (Request n.0) t w more c piece) f ∙ ap (λ (t : ℕ). segment (Request n.0) n.1 t more c piece) g ∙ ap (λ (t : Bool). segment (Request n.0) n.1 n.2 t c piece) h ∙ ap (λ (t : ℕ). segment (Request n.0) n.1 n.2 n.3 t piece) k ∙ ap (segment (Request n.0) n.1 n.2 n.3 n.4) l ∙ sym n.6
