-- Reading the octets in front of a body, step by step.
use Rattle.std.specs.Prelude.{◌≡◌, ℕ, ◌+◌, ◌-◌, ◌/◌, ◌%◌, ◌^◌, ◌<◌, ◌≤◌, Bool, true, Option, Some, None, List, [], ◌∷◌, ◌++◌, length, drop, slice_index, refl}
use Rattle.std.proofs.Common.{sym, ◌∙◌, ap, subst, arith}
use Rattle.std.proofs.lemmas.List.{length-append, append-nil}
use Rattle.bac_tag.specs.declared.refusals.Why.TheVariants.{Short, Address}
use Rattle.bac_tag.specs.Octets.{IsOctets}
use Rattle.bac_tag.specs.Laws.Octets.{octets_at}
use Rattle.bac_tag.specs.HeadOctets.{bit_of, HasBit}
use Rattle.bac_npdu_parts.specs.declared.frame_head.Addressed.{Addressed}
use Rattle.bac_npdu_parts.specs.Addresses.{SourceValue, HasAddress, source_octets}
use Rattle.bac_npdu_parts.specs.Frames.{is_there}
use Rattle.bac_npdu_parts.specs.Decoded.{IsRefused}
use Rattle.bac_npdu_parts.specs.FrameHeads.{address_read}
use Rattle.bac_npdu_parts.specs.HeadsRead.{IsCutAddress}
use Rattle.bac_npdu_parts.proofs.HeadRefusedLemmas.{destination_cut, source_cut, hops_cut, address_refused}

-- what was read is there where it was told
pub read_there : (a : Option Addressed) → is_there (address_read a) ≡ is_there a
read_there None = refl
read_there (Some a) = refl

pub is_told : (n c : ℕ) (t : Bool) (a : Option Addressed) → is_there a ≡ t → c / 2 ^ n % 2 ≡ bit_of t → HasBit n (Some (is_there (address_read a))) c
is_told n c t a e h = subst (λ (f : Bool). HasBit n (Some f) c) (sym (read_there a ∙ e)) h

-- an address that was read is not empty where its length is not 0
module _ (octets : List ℕ) (small : (k : ℕ) → slice_index octets k < 256) (c : ℕ) (q : (rest : List ℕ) × (octets ≡ 1 ∷ c ∷ rest)) (v : List ℕ) (is : v ≡ drop 2 octets) where
  all_are : IsOctets octets
  all_are = octets_at octets small

  whole : (l : List ℕ) → v ≡ l → octets ≡ 1 ∷ c ∷ l
  whole l e = q.1 ∙ ap (λ (b : List ℕ). 1 ∷ c ∷ b) (sym (is ∙ ap (λ (b : List ℕ). drop 2 b) q.1) ∙ e)

  pub read_destination_cut : HasBit 5 (Some true) c → IsCutAddress v → IsRefused octets (record { place = length octets; why = Short })
  read_destination_cut h cut =
      let e = whole v refl in
      subst (λ (l : List ℕ). IsRefused l (record { place = length l; why = Short })) (sym e) (destination_cut c v h (subst IsOctets e all_are) cut)

  module _ (g : Option SourceValue) (h : HasBit 5 (Some (is_there g)) c) (r : List ℕ) (e : v ≡ source_octets g ++ r) where
    told : octets ≡ 1 ∷ c ∷ (source_octets g ++ r)
    told = whole (source_octets g ++ r) e

    pub read_source_cut : HasBit 3 (Some true) c → IsCutAddress r → IsRefused octets (record { place = length octets; why = Short })
    read_source_cut k cut = subst (λ (l : List ℕ). IsRefused l (record { place = length l; why = Short })) (sym told) (source_cut c g h r k (subst IsOctets told all_are) cut)

    pub read_empty : HasBit 3 (Some true) c → 3 ≤ length r → slice_index r 2 ≡ 0 → IsRefused octets (record { place = length octets - length r + 2; why = Address })
    read_empty k long zero = empty r long zero told
      where
        empty : (r : List ℕ) → 3 ≤ length r → slice_index r 2 ≡ 0 → octets ≡ 1 ∷ c ∷ (source_octets g ++ r) → IsRefused octets (record { place = length octets - length r + 2; why = Address })
        empty [] long zero at = absurd (omega (arith, long))
        empty (x ∷ []) long zero at = absurd (omega (arith, long))
        empty (x ∷ y ∷ []) long zero at = absurd (omega (arith, long))
        empty (x ∷ y ∷ z ∷ r) long zero at =
            let to : octets ≡ 1 ∷ c ∷ (source_octets g ++ (x ∷ y ∷ 0 ∷ r)) = at ∙ ap (λ (n : ℕ). 1 ∷ c ∷ (source_octets g ++ (x ∷ y ∷ n ∷ r))) zero in
            let size : 4 + length (source_octets g) ≡ length octets - length (x ∷ y ∷ z ∷ r) + 2 = omega (arith, ap (λ (l : List ℕ). length l) to, length-append (source_octets g) (x ∷ y ∷ 0 ∷ r)) in
            let p = subst (λ (l : List ℕ). IsRefused l (record { place = 4 + length (source_octets g); why = Address })) (sym to) (address_refused c g h x y r k (subst IsOctets to all_are)) in
            subst (λ (n : ℕ). IsRefused octets (record { place = n; why = Address })) size p

    module _ (s : Option SourceValue) (k : HasBit 3 (Some (is_there s)) c) (a : HasAddress s) (b : List ℕ) (f : r ≡ source_octets s ++ b) where
      to_source : octets ≡ 1 ∷ c ∷ (source_octets g ++ (source_octets s ++ b))
      to_source = told ∙ ap (λ (l : List ℕ). 1 ∷ c ∷ (source_octets g ++ l)) f

      pub read_hops_cut : is_there g ≡ true → b ≡ [] → IsRefused octets (record { place = length octets; why = Short })
      read_hops_cut t end =
          let at : octets ≡ 1 ∷ c ∷ (source_octets g ++ source_octets s) = to_source ∙ ap (λ (l : List ℕ). 1 ∷ c ∷ (source_octets g ++ (source_octets s ++ l))) end ∙ ap (λ (l : List ℕ). 1 ∷ c ∷ (source_octets g ++ l)) (append-nil (source_octets s)) in
          subst (λ (l : List ℕ). IsRefused l (record { place = length l; why = Short })) (sym at) (hops_cut c g h s t k a (subst IsOctets at all_are))

-- a source whose length is not 0 has an address
pub address_some : (a : Option Addressed) (r more : List ℕ) → r ≡ source_octets (address_read a) ++ more → ((3 ≤ length r) → slice_index r 2 ≡ 0 → is_there a ≡ true → ⊥) → HasAddress (address_read a)
address_some None r more e some = tt
address_some (Some a) r more e some = positive (length a.address.now) (λ z. some (subst (λ (l : List ℕ). 3 ≤ length l) (sym e) (omega arith)) (ap (λ (l : List ℕ). slice_index l 2) e ∙ z) refl)
  where
    positive : (n : ℕ) → (n ≡ 0 → ⊥) → 1 ≤ n
    positive n ne = omega (arith, ne)
