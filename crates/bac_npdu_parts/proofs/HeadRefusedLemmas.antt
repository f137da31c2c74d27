-- Octets that end or go wrong in front of a body.
use Rattle.std.specs.Prelude.{◌≡◌, ◌≢◌, ℕ, ◌+◌, ◌*◌, ◌/◌, ◌%◌, ◌^◌, ◌<◌, ◌≤◌, nat_eq, cond, Bool, true, false, Option, Some, None, List, [], ◌∷◌, ◌++◌, length, slice_index, refl}
use Rattle.std.proofs.Common.{inl, inr, sym, ◌∙◌, ap, subst, append_assoc, arith}
use Rattle.std.proofs.lemmas.List.{length-append, append-nil}
use Rattle.bac_tag.specs.declared.refusals.Why.TheVariants.{Short, Trailing, Version, Address, PduType, Window, OutOfMemory}
use Rattle.bac_tag.specs.Octets.{IsOctets}
use Rattle.bac_tag.specs.Laws.Octets.{octets_append, octets_front, octets_back, zeros_to, octets_filled, length-filled}
use Rattle.bac_tag.specs.Spelling.{IsViable, IsWholeRefusal}
use Rattle.bac_tag.specs.HeadOctets.{HasBit}
use Rattle.bac_tag.proofs.BehindLemmas.{viable_shorter, whole_short, whole_hopeless}
use Rattle.bac_apdu.specs.Apdus.{reject}
use Rattle.bac_npdu_parts.specs.Addresses.{SourceValue, DestinationValue, HasAddress, address_of, address_octets, source_octets, hops_octets}
use Rattle.bac_npdu_parts.specs.Messages.{what_is_network_number}
use Rattle.bac_npdu_parts.specs.Control.{IsControl}
use Rattle.bac_npdu_parts.specs.Frames.{BodyValue, apdu, message, FrameValue, is_there, is_message, control_of, addresses_of, SpellsBody, SpellsFrame}
use Rattle.bac_npdu_parts.specs.Heads.{says_destination, says_source, source_place, hops_place, body_place}
use Rattle.bac_npdu_parts.specs.Decoded.{IsReasoned, IsRefused}
use Rattle.bac_npdu_parts.specs.HeadsRead.{behind_control, IsCutAddress}
use Rattle.bac_npdu_parts.proofs.FrameLemmas.{framed_tail, framed_long}
use Rattle.bac_npdu_parts.proofs.HeadLemmas.{addresses_then, from_agrees, flag_once, flag_told, flag_is}
use Rattle.bac_npdu_parts.proofs.PlaceLemmas.{at_source, at_hops, length_at, as_address, behind_at, source_near, source_far, hops_far}

-- ---- reasons that are no want of memory

pub short_other : Short ≢ OutOfMemory
short_other e = cc

pub version_other : Version ≢ OutOfMemory
version_other e = cc

pub address_other : Address ≢ OutOfMemory
address_other e = cc

-- ---- a frame for every head

-- the frame with these flags and priority of the control octet
abbrev pub frame_of : ℕ → Option DestinationValue → Option SourceValue → BodyValue → FrameValue
frame_of c d s x = record { reply = nat_eq (c / 2 ^ 2 % 2) 1; priority = c % 4; destination = d; source = s; body = x }

pub frame_every : (c : ℕ) (d : Option DestinationValue) (s : Option SourceValue) (x : BodyValue) (b : List ℕ) → c < 256 → HasBit 7 (Some (is_message x)) c → HasBit 5 (Some (is_there d)) c → HasBit 3 (Some (is_there s)) c
    → HasAddress s → IsOctets (behind_control d s []) → SpellsBody x b → SpellsFrame (frame_of c d s x) (1 ∷ c ∷ behind_control d s b)
frame_every c d s x b lt m h k a o spelled =
    let control : IsControl (control_of (frame_of c d s x)) c = record { small = lt; message = m; destination = h; source = k; reply = flag_is 2 c; priority = refl } in
    let are : IsOctets (addresses_of (frame_of c d s x)) = subst IsOctets (sym (addresses_then d s []) ∙ append-nil (addresses_of (frame_of c d s x))) o in
    record { control = c; body = b; octets_are = ap (λ (l : List ℕ). 1 ∷ c ∷ l) (sym (addresses_then d s b)); is_control = control; are_octets = are; has_address = a; is_body = spelled }

-- a body for either flag
any_body : Bool → BodyValue
any_body true = message what_is_network_number
any_body false = apdu (reject 0 0)

any_octets : Bool → List ℕ
any_octets true = 18 ∷ []
any_octets false = 96 ∷ 0 ∷ 0 ∷ []

any_flag : (f : Bool) → is_message (any_body f) ≡ f
unfolding any_body
any_flag true = refl
any_flag false = refl

any_spelled : (f : Bool) → SpellsBody (any_body f) (any_octets f)
unfolding any_body any_octets
any_spelled true = (tt, ((refl, omega arith), refl))
any_spelled false = ((refl, tt, tt, tt, tt), ((refl, omega arith), ((refl, omega arith), refl)))

-- the head alone, and what stands behind it
pub head_then : (d : Option DestinationValue) (s : Option SourceValue) (b : List ℕ) → behind_control d s [] ++ b ≡ behind_control d s b
head_then d s b =
    append_assoc (source_octets (address_of d)) (source_octets s ++ (hops_octets d ++ [])) b
    ∙ ap (λ (l : List ℕ). source_octets (address_of d) ++ l) (append_assoc (source_octets s) (hops_octets d ++ []) b ∙ ap (λ (l : List ℕ). source_octets s ++ l) (append_assoc (hops_octets d) [] b))

-- every head begins a frame
pub head_viable : (c : ℕ) (d : Option DestinationValue) (s : Option SourceValue) → c < 256 → HasBit 5 (Some (is_there d)) c → HasBit 3 (Some (is_there s)) c → HasAddress s → IsOctets (behind_control d s []) → IsViable SpellsFrame (1 ∷ c ∷ behind_control d s [])
head_viable c d s lt h k a o =
    let f = nat_eq (c / 2 ^ 7 % 2) 1 in
    let b = any_octets f in
    let m : HasBit 7 (Some (is_message (any_body f))) c = subst (λ (g : Bool). HasBit 7 (Some g) c) (sym (any_flag f)) (flag_is 7 c) in
    let spelled = frame_every c d s (any_body f) b lt m h k a o (any_spelled f) in
    record { value = frame_of c d s (any_body f); rest = b; spelled = subst (λ (l : List ℕ). SpellsFrame (frame_of c d s (any_body f)) (1 ∷ c ∷ l)) (sym (head_then d s b)) spelled }

-- ---- addresses that are cut

-- an address goes on behind the octets
pub record GoesOn (b : List ℕ) : Type 0 where
  pub network : ℕ
  pub address : List ℕ
  pub more : List ℕ
  pub octets_are : address_octets network address ≡ b ++ more
  pub some : 1 ≤ length address
  pub octets : IsOctets (address_octets network address)

two_same : (x y n m : ℕ) (a b : List ℕ) → n ≡ x → m ≡ y → a ≡ b → n ∷ m ∷ a ≡ x ∷ y ∷ b
two_same x y n m a b e f g = ap (λ (k : ℕ). k ∷ m ∷ a) e ∙ ap (λ (k : ℕ). x ∷ k ∷ a) f ∙ ap (λ (l : List ℕ). x ∷ y ∷ l) g

pub goes_on : (b : List ℕ) → IsOctets b → IsCutAddress b → GoesOn b
goes_on [] o cut = record { network = 0; address = 0 ∷ []; more = 0 ∷ 0 ∷ 1 ∷ 0 ∷ []; octets_are = refl; some = omega arith; octets = (omega arith, (omega arith, (omega arith, (omega arith, tt)))) }
goes_on (x ∷ []) o cut = let lt = o.0 in record {
  network = 256 * x;
  address = 0 ∷ [];
  more = 0 ∷ 1 ∷ 0 ∷ [];
  octets_are = two_same x 0 (256 * x / 256) (256 * x % 256) (1 ∷ 0 ∷ []) (1 ∷ 0 ∷ []) (omega arith) (omega arith) refl;
  some = omega arith;
  octets = (omega (arith, lt), (omega arith, (omega arith, (omega arith, tt))));
}
goes_on (x ∷ y ∷ []) o cut = let lt = o.0 in let small = o.1.0 in record {
  network = 256 * x + y;
  address = 0 ∷ [];
  more = 1 ∷ 0 ∷ [];
  octets_are = two_same x y ((256 * x + y) / 256) ((256 * x + y) % 256) (1 ∷ 0 ∷ []) (1 ∷ 0 ∷ []) (omega (arith, small)) (omega (arith, small)) refl;
  some = omega arith;
  octets = (omega (arith, lt, small), (omega arith, (omega arith, (omega arith, tt))));
}
goes_on (x ∷ y ∷ n ∷ b) o cut =
    let lt = o.0 in
    let small = o.1.0 in
    let more = zeros_to b n in
    let few : length b < n = omega (arith, cut (omega arith)) in
    let size : length (b ++ more) ≡ n = length-filled b n (omega (arith, few)) in
    record {
      network = 256 * x + y;
      address = b ++ more;
      more = more;
      octets_are = two_same x y ((256 * x + y) / 256) ((256 * x + y) % 256) (length (b ++ more) ∷ (b ++ more)) (n ∷ (b ++ more)) (omega (arith, small)) (omega (arith, small)) (ap (λ (k : ℕ). k ∷ (b ++ more)) size);
      some = omega (arith, size, few);
      octets = (omega (arith, lt, small), (omega arith, (subst (λ (k : ℕ). k < 256) (sym size) o.1.1.0, octets_filled b n o.1.1.1)));
    }

-- an address that stands there is not cut
pub not_cut : (n : ℕ) (a r b : List ℕ) → b ≡ address_octets n a ++ r → IsCutAddress b → ⊥
not_cut n a r b e cut =
    let now : IsCutAddress (address_octets n a ++ r) = subst IsCutAddress e cut in
    omega (arith, now (omega arith), length-append a r)

-- ---- reasons

-- octets that end in front of a body
pub short_reasoned : (octets : List ℕ) → length octets < body_place octets → IsReasoned octets (record { place = length octets; why = Short })
short_reasoned octets lt = record {
  of_version = (λ e. absurd (let i : Short ≡ Version = e in cc), λ p. absurd (omega (arith, p.0, p.1)));
  of_address = (λ e. absurd (let i : Short ≡ Address = e in cc), λ p. absurd (omega (arith, p.3)));
  of_type = (λ e. absurd (let i : Short ≡ PduType = e in cc), λ p. absurd (let l = p.0.long in omega arith));
  of_window = (λ e. absurd (let i : Short ≡ Window = e in cc), λ p. absurd (let l = p.0.long in omega arith));
  others = inr (inr (inr (inr (inr (inr tt)))));
}

pub short_refused : (octets : List ℕ) → IsViable SpellsFrame octets → ((f : FrameValue) → SpellsFrame f octets → ⊥) → length octets < body_place octets → IsRefused octets (record { place = length octets; why = Short })
short_refused octets v none lt = record {
  refused = λ _. whole_short SpellsFrame octets v none;
  memory = λ w. absurd (let i : Short ≡ OutOfMemory = w in cc);
  reasoned = short_reasoned octets lt;
}

-- ---- version and control octet

plain : IsViable SpellsFrame (1 ∷ 0 ∷ [])
plain = head_viable 0 None None (omega arith) refl refl tt tt

nothing_spelled : (f : FrameValue) → SpellsFrame f [] → ⊥
nothing_spelled f p = omega (arith, framed_long f [] p)

version_spelled : (f : FrameValue) (o : ℕ) → SpellsFrame f (o ∷ []) → ⊥
version_spelled f o p = omega (arith, framed_long f (o ∷ []) p)

pub nothing_refused : (octets : List ℕ) → length octets < 1 → IsRefused octets (record { place = length octets; why = Short })
nothing_refused [] lt = short_refused [] (viable_shorter SpellsFrame [] (1 ∷ 0 ∷ []) plain) nothing_spelled (omega (arith, source_near []))
nothing_refused (o ∷ b) lt = absurd (omega (arith, lt))

pub version_short : (octets : List ℕ) → 1 ≤ length octets → slice_index octets 0 ≡ 1 → length octets < 2 → IsRefused octets (record { place = length octets; why = Short })
version_short [] some e lt = absurd (omega (arith, some))
version_short (o ∷ []) some e lt =
    let v : IsViable SpellsFrame (o ∷ []) = subst (λ (n : ℕ). IsViable SpellsFrame (n ∷ [])) (sym e) (viable_shorter SpellsFrame (1 ∷ []) (0 ∷ []) plain) in
    short_refused (o ∷ []) v (λ f p. version_spelled f o p) (omega (arith, two (o ∷ [])))
  where
    two : (l : List ℕ) → 2 ≤ body_place l
    two l = omega (arith, source_near l, least l)
      where
        least : (l : List ℕ) → 2 ≤ source_place l
        least l = of_flag (says_destination l) (slice_index l 4)
          where
            of_flag : (f : Bool) (n : ℕ) → 2 ≤ cond f (5 + n) 2
            of_flag true n = omega arith
            of_flag false n = omega arith
version_short (o ∷ p ∷ b) some e lt = absurd (omega (arith, lt))

pub version_refused : (octets : List ℕ) → 1 ≤ length octets → slice_index octets 0 ≢ 1 → IsRefused octets (record { place = 0; why = Version })
version_refused [] some ne = absurd (omega (arith, some))
version_refused (o ∷ b) some ne = record {
  refused = λ _. whole_hopeless SpellsFrame [] o b Version (λ e. let i : Version ≡ Short = e in cc) (λ e. let i : Version ≡ Trailing = e in cc) (viable_shorter SpellsFrame [] (1 ∷ 0 ∷ []) plain) nothing_spelled (λ f d p. ne (ap (λ (l : List ℕ). slice_index l 0) p.octets_are));
  memory = λ w. absurd (let i : Version ≡ OutOfMemory = w in cc);
  reasoned = record {
    of_version = (λ e. (refl, some, ne), λ p. refl);
    of_address = (λ e. absurd (let i : Version ≡ Address = e in cc), λ p. absurd (ne p.0));
    of_type = (λ e. absurd (let i : Version ≡ PduType = e in cc), λ p. absurd (ne p.0.version));
    of_window = (λ e. absurd (let i : Version ≡ Window = e in cc), λ p. absurd (ne p.0.version));
    others = inl refl;
  };
}

-- ---- what a frame says of its octets

pub record HasParts (f : FrameValue) (c : ℕ) (b : List ℕ) : Type 0 where
  pub control : IsControl (control_of f) c
  pub rest : List ℕ
  pub octets_are : b ≡ behind_control f.destination f.source rest
  pub address : HasAddress f.source
  pub body : SpellsBody f.body rest

pub parts_of : (f : FrameValue) (c : ℕ) (b : List ℕ) → SpellsFrame f (1 ∷ c ∷ b) → HasParts f c b
parts_of f c b p =
    let (one, same, behind) = framed_tail f 1 c b p in
    record { control = subst (IsControl (control_of f)) (sym same) p.is_control; rest = p.body; octets_are = behind ∙ addresses_then f.destination f.source p.body; address = p.has_address; body = p.is_body }

-- behind the octets of the destination stands the source
pub source_behind : (f : FrameValue) (c : ℕ) (g : Option SourceValue) (r : List ℕ) (h : HasBit 5 (Some (is_there g)) c) (p : HasParts f c (source_octets g ++ r)) → (address_of f.destination ≡ g) × (source_octets f.source ++ (hops_octets f.destination ++ p.rest) ≡ r)
source_behind f c g r h p =
    from_agrees (address_of f.destination) g (source_octets f.source ++ (hops_octets f.destination ++ p.rest)) r
    (flag_once 5 c (is_there (address_of f.destination)) (is_there g) (as_address c f.destination p.control.destination) h) (sym p.octets_are)

-- a source whose length stands there
source_told : (s : Option SourceValue) (c : ℕ) (more r : List ℕ) → HasBit 3 (Some true) c → HasBit 3 (Some (is_there s)) c → HasAddress s → source_octets s ++ more ≡ r → (3 ≤ length r) × (1 ≤ slice_index r 2) × (3 + slice_index r 2 ≤ length r)
source_told None c more r h k a e = absurd (let i : true ≡ false = flag_once 3 c true false h k in cc)
source_told (Some s) c more r h k a e =
    let told : (3 ≤ length (address_octets s.network s.address ++ more)) × (1 ≤ length s.address) × (3 + length s.address ≤ length (address_octets s.network s.address ++ more)) = (omega arith, a, omega (arith, length-append s.address more)) in
    subst (λ (l : List ℕ). (3 ≤ length l) × (1 ≤ slice_index l 2) × (3 + slice_index l 2 ≤ length l)) e told

-- a hop count behind an address
pub with_hops : Option SourceValue → Option DestinationValue
with_hops None = None
with_hops (Some s) = Some (record { network = s.network; address = s.address; hops = 0 })

hops_address : (g : Option SourceValue) → address_of (with_hops g) ≡ g
unfolding with_hops
hops_address None = refl
hops_address (Some s) = refl

hops_there : (g : Option SourceValue) → is_there (with_hops g) ≡ is_there g
unfolding with_hops
hops_there None = refl
hops_there (Some s) = refl

hops_are_octets : (g : Option SourceValue) → IsOctets (hops_octets (with_hops g))
unfolding with_hops
hops_are_octets None = tt
hops_are_octets (Some s) = (omega arith, tt)

-- a source for either flag
any_source : Bool → Option SourceValue
any_source true = Some (record { network = 0; address = 0 ∷ [] })
any_source false = None

any_there : (f : Bool) → is_there (any_source f) ≡ f
unfolding any_source
any_there true = refl
any_there false = refl

any_address : (f : Bool) → HasAddress (any_source f)
unfolding any_source
any_address true = omega arith
any_address false = tt

any_from : (f : Bool) → IsOctets (source_octets (any_source f))
unfolding any_source
any_from true = (omega arith, (omega arith, (omega arith, (omega arith, tt))))
any_from false = tt

-- ---- a destination, a source or a hop count that is cut

module _ (c : ℕ) (g : Option SourceValue) (h : HasBit 5 (Some (is_there g)) c) where
  -- a source goes on behind the octets: the head does
  cut_viable : (s : Option SourceValue) (r more : List ℕ) → c < 256 → HasBit 3 (Some (is_there s)) c → HasAddress s → IsOctets (source_octets g) → IsOctets (source_octets s) → source_octets s ++ hops_octets (with_hops g) ≡ r ++ more → IsViable SpellsFrame (1 ∷ c ∷ (source_octets g ++ r))
  cut_viable s r more lt k a o p e =
      let d = with_hops g in
      let there : HasBit 5 (Some (is_there d)) c = subst (λ (f : Bool). HasBit 5 (Some f) c) (sym (hops_there g)) h in
      let q = octets_append (source_octets s) (hops_octets d) p (hops_are_octets g) in
      let all = octets_append (source_octets g) (source_octets s ++ hops_octets d) o q in
      let is : behind_control d s [] ≡ source_octets g ++ (source_octets s ++ hops_octets d) =
      ap (λ (x : Option SourceValue). source_octets x ++ (source_octets s ++ (hops_octets d ++ []))) (hops_address g) ∙ ap (λ (l : List ℕ). source_octets g ++ (source_octets s ++ l)) (append-nil (hops_octets d)) in
      let v = head_viable c d s lt there k a (subst IsOctets (sym is) all) in
      let to : behind_control d s [] ≡ (source_octets g ++ r) ++ more = is ∙ ap (λ (l : List ℕ). source_octets g ++ l) e ∙ sym (append_assoc (source_octets g) r more) in
      viable_shorter SpellsFrame (1 ∷ c ∷ (source_octets g ++ r)) more (subst (λ (l : List ℕ). IsViable SpellsFrame (1 ∷ c ∷ l)) to v)

  source_viable : (r : List ℕ) → c < 256 → HasBit 3 (Some true) c → IsOctets (source_octets g) → IsOctets r → IsCutAddress r → IsViable SpellsFrame (1 ∷ c ∷ (source_octets g ++ r))
  source_viable r lt k o p cut =
      let w = goes_on r p cut in
      let s : Option SourceValue = Some (record { network = w.network; address = w.address }) in
      let x = hops_octets (with_hops g) in
      cut_viable s r (w.more ++ x) lt k w.some o w.octets (ap (λ (l : List ℕ). l ++ x) w.octets_are ∙ append_assoc r w.more x)

  source_none : (r : List ℕ) → HasBit 3 (Some true) c → IsCutAddress r → (f : FrameValue) → SpellsFrame f (1 ∷ c ∷ (source_octets g ++ r)) → ⊥
  source_none r k cut f p =
      let q = parts_of f c (source_octets g ++ r) p in
      let b = source_behind f c g r h q in
      let t = source_told f.source c (hops_octets f.destination ++ q.rest) r k q.control.source q.address b.1 in
      omega (arith, cut t.0, t.2)

  pub source_cut : (r : List ℕ) → HasBit 3 (Some true) c → IsOctets (1 ∷ c ∷ (source_octets g ++ r)) → IsCutAddress r → IsRefused (1 ∷ c ∷ (source_octets g ++ r)) (record { place = length (1 ∷ c ∷ (source_octets g ++ r)); why = Short })
  source_cut r k o cut =
      let octets = 1 ∷ c ∷ (source_octets g ++ r) in
      let size : length octets ≡ 2 + length (source_octets g) + length r = omega (arith, length-append (source_octets g) r) in
      let far = source_far octets (flag_told 3 c true k) in
      let few : length r < 3 + slice_index r 2 = cut_below r cut in
      let lt : length octets < body_place octets = omega (arith, far, few, size, at_source c g r h, length_at c g r h) in
      short_refused octets (source_viable r o.1.0 k (octets_front (source_octets g) r o.1.1) (octets_back (source_octets g) r o.1.1) cut) (source_none r k cut) lt
    where
      cut_below : (r : List ℕ) → IsCutAddress r → length r < 3 + slice_index r 2
      cut_below [] cut = omega arith
      cut_below (x ∷ []) cut = omega arith
      cut_below (x ∷ y ∷ []) cut = omega arith
      cut_below (x ∷ y ∷ z ∷ r) cut = cut (omega arith)

  pub hops_cut : (s : Option SourceValue) → is_there g ≡ true → HasBit 3 (Some (is_there s)) c → HasAddress s → IsOctets (1 ∷ c ∷ (source_octets g ++ source_octets s)) → IsRefused (1 ∷ c ∷ (source_octets g ++ source_octets s)) (record { place = length (1 ∷ c ∷ (source_octets g ++ source_octets s)); why = Short })
  hops_cut s t k a o =
      let octets = 1 ∷ c ∷ (source_octets g ++ source_octets s) in
      let v = cut_viable s (source_octets s) (hops_octets (with_hops g)) o.1.0 k a (octets_front (source_octets g) (source_octets s) o.1.1) (octets_back (source_octets g) (source_octets s) o.1.1) refl in
      let says : HasBit 5 (Some true) c = subst (λ (f : Bool). HasBit 5 (Some f) c) t h in
      let at : hops_place octets ≡ 2 + length (source_octets g) + length (source_octets s) = subst (λ (l : List ℕ). hops_place (1 ∷ c ∷ (source_octets g ++ l)) ≡ 2 + length (source_octets g) + length (source_octets s)) (append-nil (source_octets s)) (at_hops c g s [] h k) in
      let lt : length octets < body_place octets = omega (arith, at, hops_far octets (flag_told 5 c true says), length-append (source_octets g) (source_octets s)) in
      short_refused octets v none lt
    where
      wanted : (d : Option DestinationValue) (rest : List ℕ) → is_there d ≡ true → hops_octets d ++ rest ≡ [] → ⊥
      wanted None rest t e = let i : false ≡ true = t in cc
      wanted (Some d) rest t e = omega (arith, ap (λ (l : List ℕ). length l) e)

      none : (f : FrameValue) → SpellsFrame f (1 ∷ c ∷ (source_octets g ++ source_octets s)) → ⊥
      none f p =
          let q = parts_of f c (source_octets g ++ source_octets s) p in
          let b = source_behind f c g (source_octets s) h q in
          let e = from_agrees f.source s (hops_octets f.destination ++ q.rest) [] (flag_once 3 c (is_there f.source) (is_there s) q.control.source k) (b.1 ∙ sym (append-nil (source_octets s))) in
          let says : HasBit 5 (Some true) c = subst (λ (x : Bool). HasBit 5 (Some x) c) t h in
          wanted f.destination q.rest (flag_once 5 c (is_there f.destination) true q.control.destination says) e.1

  pub address_refused : (x y : ℕ) (r : List ℕ) → HasBit 3 (Some true) c → IsOctets (1 ∷ c ∷ (source_octets g ++ (x ∷ y ∷ 0 ∷ r))) → IsRefused (1 ∷ c ∷ (source_octets g ++ (x ∷ y ∷ 0 ∷ r))) (record { place = 4 + length (source_octets g); why = Address })
  address_refused x y r k o = record {
    refused = λ _. subst (λ (l : List ℕ). IsWholeRefusal SpellsFrame (1 ∷ c ∷ l) (record { place = 4 + length (source_octets g); why = Address })) (append_assoc (source_octets g) (x ∷ y ∷ []) (0 ∷ r))
        (subst (λ (n : ℕ). IsWholeRefusal SpellsFrame (front ++ 0 ∷ r) (record { place = n; why = Address })) size
        (whole_hopeless SpellsFrame front 0 r Address (λ e. let i : Address ≡ Short = e in cc) (λ e. let i : Address ≡ Trailing = e in cc) (source_viable (x ∷ y ∷ []) o.1.0 k (octets_front (source_octets g) more o.1.1) (two.0, (two.1.0, tt)) cut) (source_none (x ∷ y ∷ []) k cut) hopeless));
    memory = λ w. absurd (let i : Address ≡ OutOfMemory = w in cc);
    reasoned = record {
      of_version = (λ e. absurd (let i : Address ≡ Version = e in cc), λ p. absurd (omega (arith, p.0)));
      of_address = (λ e. (refl, says, omega (arith, at), omega (arith, length-append (source_octets g) more), length_is), λ p. refl);
      of_type = (λ e. absurd (let i : Address ≡ PduType = e in cc), λ p. absurd (let l = p.0.source says in omega (arith, l, length_at c g more h)));
      of_window = (λ e. absurd (let i : Address ≡ Window = e in cc), λ p. absurd (let l = p.0.source says in omega (arith, l, length_at c g more h)));
      others = inr (inl refl);
    };
  }
    where
      more : List ℕ
      more = x ∷ y ∷ 0 ∷ r

      front : List ℕ
      front = 1 ∷ c ∷ (source_octets g ++ (x ∷ y ∷ []))

      says : says_source (1 ∷ c ∷ (source_octets g ++ (x ∷ y ∷ 0 ∷ r))) ≡ true
      says = flag_told 3 c true k

      at : source_place (1 ∷ c ∷ (source_octets g ++ (x ∷ y ∷ 0 ∷ r))) ≡ 2 + length (source_octets g)
      at = at_source c g (x ∷ y ∷ 0 ∷ r) h

      length_is : slice_index (1 ∷ c ∷ (source_octets g ++ (x ∷ y ∷ 0 ∷ r))) (4 + length (source_octets g)) ≡ 0
      length_is = ap (λ (n : ℕ). slice_index (1 ∷ c ∷ (source_octets g ++ (x ∷ y ∷ 0 ∷ r))) n) (let e : 4 + length (source_octets g) ≡ 2 + length (source_octets g) + 2 = omega arith in e) ∙ behind_at c 2 (source_octets g) (x ∷ y ∷ 0 ∷ r)

      size : length (1 ∷ c ∷ (source_octets g ++ (x ∷ y ∷ []))) ≡ 4 + length (source_octets g)
      size = omega (arith, length-append (source_octets g) (x ∷ y ∷ []))

      two : IsOctets (x ∷ y ∷ 0 ∷ r)
      two = octets_back (source_octets g) (x ∷ y ∷ 0 ∷ r) o.1.1

      cut : IsCutAddress (x ∷ y ∷ [])
      cut = λ le. absurd (omega (arith, le))

      hopeless : (f : FrameValue) (b : List ℕ) → SpellsFrame f ((1 ∷ c ∷ (source_octets g ++ (x ∷ y ∷ []))) ++ 0 ∷ b) → ⊥
      hopeless f b p =
          let s : SpellsFrame f (1 ∷ c ∷ (source_octets g ++ (x ∷ y ∷ 0 ∷ b))) = subst (λ (l : List ℕ). SpellsFrame f (1 ∷ c ∷ l)) (append_assoc (source_octets g) (x ∷ y ∷ []) (0 ∷ b)) p in
          let q = parts_of f c (source_octets g ++ (x ∷ y ∷ 0 ∷ b)) s in
          let e = source_behind f c g (x ∷ y ∷ 0 ∷ b) h q in
          let t = source_told f.source c (hops_octets f.destination ++ q.rest) (x ∷ y ∷ 0 ∷ b) k q.control.source q.address e.1 in
          omega (arith, t.1)

pub destination_cut : (c : ℕ) (b : List ℕ) → HasBit 5 (Some true) c → IsOctets (1 ∷ c ∷ b) → IsCutAddress b → IsRefused (1 ∷ c ∷ b) (record { place = length (1 ∷ c ∷ b); why = Short })
destination_cut c b h o cut = short_refused (1 ∷ c ∷ b) viable none (far b cut)
  where
    far : (b : List ℕ) → IsCutAddress b → length (1 ∷ c ∷ b) < body_place (1 ∷ c ∷ b)
    far b cut = omega (arith, source_near (1 ∷ c ∷ b), ap (λ (f : Bool). cond f (5 + slice_index (1 ∷ c ∷ b) 4) 2) (flag_told 5 c true h), below b cut)
      where
        below : (b : List ℕ) → IsCutAddress b → length b < 3 + slice_index (1 ∷ c ∷ b) 4
        below [] cut = omega arith
        below (x ∷ []) cut = omega arith
        below (x ∷ y ∷ []) cut = omega arith
        below (x ∷ y ∷ z ∷ b) cut = cut (omega arith)

    wanted : (d : Option DestinationValue) (l : List ℕ) → is_there d ≡ true → b ≡ source_octets (address_of d) ++ l → ⊥
    wanted None l t e = let i : false ≡ true = t in cc
    wanted (Some d) l t e = not_cut d.network d.address l b e cut

    none : (f : FrameValue) → SpellsFrame f (1 ∷ c ∷ b) → ⊥
    none f p =
        let q = parts_of f c b p in
        wanted f.destination (source_octets f.source ++ (hops_octets f.destination ++ q.rest)) (flag_once 5 c (is_there f.destination) true q.control.destination h) q.octets_are

    viable : IsViable SpellsFrame (1 ∷ c ∷ b)
    viable =
        let w = goes_on b o.1.1 cut in
        let g : Option SourceValue = Some (record { network = w.network; address = w.address }) in
        let f = nat_eq (c / 2 ^ 3 % 2) 1 in
        let s = any_source f in
        let k : HasBit 3 (Some (is_there s)) c = subst (λ (x : Bool). HasBit 3 (Some x) c) (sym (any_there f)) (flag_is 3 c) in
        let all = cut_viable c g h s (source_octets s ++ hops_octets (with_hops g)) [] o.1.0 k (any_address f) w.octets (any_from f) (sym (append-nil (source_octets s ++ hops_octets (with_hops g)))) in
        let x = source_octets s ++ hops_octets (with_hops g) in
        let to : source_octets g ++ x ≡ b ++ (w.more ++ x) = ap (λ (l : List ℕ). l ++ x) w.octets_are ∙ append_assoc b w.more x in
        viable_shorter SpellsFrame (1 ∷ c ∷ b) (w.more ++ x) (subst (λ (l : List ℕ). IsViable SpellsFrame (1 ∷ c ∷ l)) to all)
