-- Unconfirmed-Request.
use Rattle.std.specs.Prelude.{ℕ, ◌<◌, ◌≤◌, true, List, [], ◌∷◌, ◌++◌, length, slice_index, Option, refl}
use Rattle.std.proofs.Common.{sym, ap, subst, arith}
use Rattle.bac_tag.specs.declared.refusals.Refusal.{Refusal}
use Rattle.bac_tag.specs.declared.refusals.Why.TheVariants.{Short}
use Rattle.bac_tag.specs.Spelling.{IsViable, HasMark}
use Rattle.bac_service.specs.declared.kind.Kind.TheVariants.{Unconfirmed}
use Rattle.bac_service.specs.Services.{ServiceValue, opaque, SpellsService}
use Rattle.bac_apdu.specs.FirstOctet.{seg_at, HasType, HasGoodWindow}
use Rattle.bac_apdu.specs.Apdus.{ApduValue, unconfirmed_request, SpellsApdu}
use Rattle.bac_apdu.specs.Decoded.{IsRefused, IsServiceBehind, IsRefusedBehind}
use Rattle.bac_tag.proofs.FilledLemmas.{filled}
use Rattle.bac_apdu.proofs.TypeLemmas.{named}
use Rattle.bac_apdu.proofs.ReasonLemmas.{windowless, ends_within}
use Rattle.bac_apdu.proofs.CarryingLemmas.{own_choice, at_choice, nothing_carried, carrying_refused, carrying_found}

module _ (b : List ℕ) (small : (k : ℕ) → slice_index b k < 256) (h : HasType 1 b) where
  pub unconfirmed_request_begun : IsViable SpellsApdu (filled 1 b)
  unconfirmed_request_begun = record { value = unconfirmed_request (opaque Unconfirmed 1 []); rest = 1 ∷ []; spelled = ((h.1, tt, tt, tt, tt), ((refl, omega arith), nothing_carried Unconfirmed 1 (omega arith) refl)) }

  pub unconfirmed_request_every : (s : ServiceValue) (d : List ℕ) → SpellsService true 32 Unconfirmed (slice_index b 1) s d → SpellsApdu (unconfirmed_request s) (filled 2 b ++ d)
  unconfirmed_request_every s d p = ((h.1, tt, tt, tt, tt), ((sym p.choice_is, small 1), own_choice Unconfirmed (slice_index b 1) s d p))

  pub unconfirmed_request_only : (x : ApduValue) (d : List ℕ) → SpellsApdu x (filled 2 b ++ d) → (s : ServiceValue) × SpellsService true 32 Unconfirmed (slice_index b 1) s d
  unconfirmed_request_only x d p =
      let n = named 1 (seg_at (slice_index b 0)) x (slice_index b 0) (slice_index b 1 ∷ d) h.1 refl p in
      let t = subst (λ (y : ApduValue). SpellsApdu y (filled 2 b ++ d)) n.1 p in
      (n.0, at_choice Unconfirmed (slice_index b 1) n.0 d t.1.0.0 t.1.1)

  good : HasGoodWindow b
  good = windowless 1 (seg_at (slice_index b 0)) b h refl refl

  pub unconfirmed_request_short : length b < 2 → IsRefused b (record { place = length b; why = Short })
  unconfirmed_request_short lt = ends_within 1 (seg_at (slice_index b 0)) 1 b h refl (omega arith) good (omega (arith, lt)) lt unconfirmed_request_begun

  pub unconfirmed_request_refused : (r : Refusal) → 2 ≤ length b → IsRefusedBehind Unconfirmed (slice_index b 1) b (16 ∷ slice_index b 1 ∷ []) r → IsRefused b r
  unconfirmed_request_refused r long e = carrying_refused Unconfirmed (slice_index b 1) b (16 ∷ slice_index b 1 ∷ []) long 1 (seg_at (slice_index b 0)) r (λ s d p. (unconfirmed_request s, unconfirmed_request_every s d p)) unconfirmed_request_only h refl (omega arith) good refl e

  pub unconfirmed_request_found : (service : ServiceValue) (m : Option ℕ) → 2 ≤ length b → IsServiceBehind Unconfirmed (slice_index b 1) b (16 ∷ slice_index b 1 ∷ []) service m → SpellsApdu (unconfirmed_request service) b × HasMark (SpellsApdu (unconfirmed_request service)) b m
  unconfirmed_request_found service m long f = carrying_found Unconfirmed (slice_index b 1) b (16 ∷ slice_index b 1 ∷ []) long (unconfirmed_request service) service m (unconfirmed_request_every service) (λ d m k. k) (λ e. ap (λ (n : ℕ). 16 ∷ n ∷ []) (sym e)) f
