-- Where the parts of a head stand.
use Rattle.std.specs.Prelude.{◌≡◌, ℕ, ◌+◌, ◌≤◌, cond, Bool, true, false, Option, Some, None, List, ◌∷◌, ◌++◌, length, slice_index, refl}
use Rattle.std.proofs.Common.{sym, ◌∙◌, ap, subst, arith}
use Rattle.std.proofs.lemmas.List.{length-append, get_or-append-add}
use Rattle.bac_tag.specs.HeadOctets.{HasBit}
use Rattle.bac_npdu_parts.specs.Addresses.{SourceValue, DestinationValue, address_of, address_octets, source_octets, hops_octets}
use Rattle.bac_npdu_parts.specs.Frames.{is_there}
use Rattle.bac_npdu_parts.specs.Heads.{says_destination, says_source, source_place, hops_place, body_place}
use Rattle.bac_npdu_parts.specs.HeadsRead.{behind_control}
use Rattle.bac_npdu_parts.proofs.HeadLemmas.{flag_told}

pub at_source : (c : ℕ) (g : Option SourceValue) (b : List ℕ) → HasBit 5 (Some (is_there g)) c → source_place (1 ∷ c ∷ (source_octets g ++ b)) ≡ 2 + length (source_octets g)
at_source c None b h = ap (λ (f : Bool). cond f (5 + slice_index (1 ∷ c ∷ b) 4) 2) (flag_told 5 c false h)
at_source c (Some s) b h = ap (λ (f : Bool). cond f (5 + length s.address) 2) (flag_told 5 c true h) ∙ omega arith

-- what stands some octets behind addresses
pub behind_at : (c k : ℕ) (a b : List ℕ) → slice_index (1 ∷ c ∷ (a ++ b)) (2 + length a + k) ≡ slice_index b k
behind_at c k a b =
    let at : 2 + length a + k ≡ length (1 ∷ c ∷ a) + k = omega arith in
    ap (λ (n : ℕ). slice_index (1 ∷ c ∷ (a ++ b)) n) at ∙ get_or-append-add (1 ∷ c ∷ a) b k 0

pub length_at : (c : ℕ) (g : Option SourceValue) (b : List ℕ) → HasBit 5 (Some (is_there g)) c → slice_index (1 ∷ c ∷ (source_octets g ++ b)) (source_place (1 ∷ c ∷ (source_octets g ++ b)) + 2) ≡ slice_index b 2
length_at c g b h = ap (λ (n : ℕ). slice_index (1 ∷ c ∷ (source_octets g ++ b)) (n + 2)) (at_source c g b h) ∙ behind_at c 2 (source_octets g) b

hops_of_source : (octets : List ℕ) (f : Bool) → says_source octets ≡ f → hops_place octets ≡ cond f (source_place octets + 3 + slice_index octets (source_place octets + 2)) (source_place octets)
hops_of_source octets f e = ap (λ (g : Bool). cond g (source_place octets + 3 + slice_index octets (source_place octets + 2)) (source_place octets)) e

pub at_hops : (c : ℕ) (g s : Option SourceValue) (b : List ℕ) → HasBit 5 (Some (is_there g)) c → HasBit 3 (Some (is_there s)) c
    → hops_place (1 ∷ c ∷ (source_octets g ++ (source_octets s ++ b))) ≡ 2 + length (source_octets g) + length (source_octets s)
at_hops c g None b h k =
    let o = 1 ∷ c ∷ (source_octets g ++ b) in
    hops_of_source o false (flag_told 3 c false k) ∙ at_source c g b h ∙ omega arith
at_hops c g (Some s) b h k =
    let more = address_octets s.network s.address ++ b in
    let o = 1 ∷ c ∷ (source_octets g ++ more) in
    let p = hops_of_source o true (flag_told 3 c true k) in
    let q = at_source c g more h in
    let r : slice_index o (source_place o + 2) ≡ length s.address = length_at c g more h in
    p ∙ ap (λ (n : ℕ). source_place o + 3 + n) r ∙ ap (λ (n : ℕ). n + 3 + length s.address) q ∙ omega arith

body_behind : (octets : List ℕ) (f : Bool) → says_destination octets ≡ f → body_place octets ≡ cond f (hops_place octets + 1) (hops_place octets)
body_behind octets f e = ap (λ (g : Bool). cond g (hops_place octets + 1) (hops_place octets)) e

is_address : (d : Option DestinationValue) → is_there (address_of d) ≡ is_there d
is_address None = refl
is_address (Some d) = refl

pub as_address : (c : ℕ) (d : Option DestinationValue) → HasBit 5 (Some (is_there d)) c → HasBit 5 (Some (is_there (address_of d))) c
as_address c d h = subst (λ (f : Bool). HasBit 5 (Some f) c) (sym (is_address d)) h

-- the octets of destination, source and hop count
abbrev pub addresses : Option DestinationValue → Option SourceValue → List ℕ
addresses d s = source_octets (address_of d) ++ (source_octets s ++ hops_octets d)

pub length-addresses : (d : Option DestinationValue) (s : Option SourceValue) → length (addresses d s) ≡ length (source_octets (address_of d)) + length (source_octets s) + length (hops_octets d)
length-addresses d s = omega (arith, length-append (source_octets (address_of d)) (source_octets s ++ hops_octets d), length-append (source_octets s) (hops_octets d))

pub at_body : (c : ℕ) (d : Option DestinationValue) (s : Option SourceValue) (b : List ℕ) → HasBit 5 (Some (is_there d)) c → HasBit 3 (Some (is_there s)) c
    → body_place (1 ∷ c ∷ behind_control d s b) ≡ 2 + length (addresses d s)
at_body c None s b h k =
    let o = 1 ∷ c ∷ behind_control None s b in
    let p = at_hops c None s b h k in
    let q : body_place o ≡ hops_place o = body_behind o false (flag_told 5 c false h) in
    omega (arith, q, p, length-addresses None s)
at_body c (Some d) s b h k =
    let o = 1 ∷ c ∷ behind_control (Some d) s b in
    let p = at_hops c (address_of (Some d)) s (d.hops ∷ b) h k in
    let q : body_place o ≡ hops_place o + 1 = body_behind o true (flag_told 5 c true h) in
    omega (arith, q, p, length-addresses (Some d) s)

-- the body stands no nearer than the source and the hop count
pub source_near : (octets : List ℕ) → source_place octets ≤ body_place octets
source_near octets = near (says_destination octets) (says_source octets) (source_place octets) (slice_index octets (source_place octets + 2))
  where
    near : (d s : Bool) (n x : ℕ) → n ≤ cond d (cond s (n + 3 + x) n + 1) (cond s (n + 3 + x) n)
    near true true n x = omega arith
    near true false n x = omega arith
    near false true n x = omega arith
    near false false n x = omega arith

pub source_far : (octets : List ℕ) → says_source octets ≡ true → source_place octets + 3 + slice_index octets (source_place octets + 2) ≤ body_place octets
source_far octets e = subst (λ (f : Bool). source_place octets + 3 + slice_index octets (source_place octets + 2) ≤ cond (says_destination octets) (cond f (source_place octets + 3 + slice_index octets (source_place octets + 2)) (source_place octets) + 1) (cond f (source_place octets + 3 + slice_index octets (source_place octets + 2)) (source_place octets))) (sym e)
    (far (says_destination octets) (source_place octets + 3 + slice_index octets (source_place octets + 2)))
  where
    far : (d : Bool) (n : ℕ) → n ≤ cond d (n + 1) n
    far true n = omega arith
    far false n = omega arith

pub hops_far : (octets : List ℕ) → says_destination octets ≡ true → hops_place octets + 1 ≡ body_place octets
hops_far octets e = sym (body_behind octets true e)
