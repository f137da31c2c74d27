-- Error.
use Rattle.std.specs.Prelude.{ℕ, ◌<◌, ◌≤◌, true, List, [], ◌∷◌, ◌++◌, length, slice_index, Option, refl}
use Rattle.std.proofs.Common.{sym, ap, subst, arith}
use Rattle.bac_tag.specs.declared.refusals.Refusal.{Refusal}
use Rattle.bac_tag.specs.declared.refusals.Why.TheVariants.{Short}
use Rattle.bac_tag.specs.Spelling.{IsViable, HasMark}
use Rattle.bac_service.specs.declared.kind.Kind.TheVariants.{Error}
use Rattle.bac_service.specs.Services.{ServiceValue, opaque, SpellsService}
use Rattle.bac_apdu.specs.FirstOctet.{seg_at, HasType, HasGoodWindow}
use Rattle.bac_apdu.specs.Apdus.{ApduValue, error, SpellsApdu}
use Rattle.bac_apdu.specs.Decoded.{IsRefused, IsServiceBehind, IsRefusedBehind}
use Rattle.bac_tag.proofs.FilledLemmas.{filled}
use Rattle.bac_apdu.proofs.TypeLemmas.{named}
use Rattle.bac_apdu.proofs.ReasonLemmas.{windowless, ends_within}
use Rattle.bac_apdu.proofs.CarryingLemmas.{own_choice, at_choice, nothing_carried, carrying_refused, carrying_found}

module _ (b : List ℕ) (small : (k : ℕ) → slice_index b k < 256) (h : HasType 5 b) where
  pub error_begun : IsViable SpellsApdu (filled 2 b)
  error_begun = record { value = error (slice_index b 1) (opaque Error 0 []); rest = 0 ∷ []; spelled = ((h.1, tt, tt, tt, tt), ((refl, small 1), ((refl, omega arith), nothing_carried Error 0 (omega arith) refl))) }

  pub error_every : (s : ServiceValue) (d : List ℕ) → SpellsService true 32 Error (slice_index b 2) s d → SpellsApdu (error (slice_index b 1) s) (filled 3 b ++ d)
  error_every s d p = ((h.1, tt, tt, tt, tt), ((refl, small 1), ((sym p.choice_is, small 2), own_choice Error (slice_index b 2) s d p)))

  pub error_only : (x : ApduValue) (d : List ℕ) → SpellsApdu x (filled 3 b ++ d) → (s : ServiceValue) × SpellsService true 32 Error (slice_index b 2) s d
  error_only x d p =
      let n = named 5 (seg_at (slice_index b 0)) x (slice_index b 0) (slice_index b 1 ∷ slice_index b 2 ∷ d) h.1 refl p in
      let t = subst (λ (y : ApduValue). SpellsApdu y (filled 3 b ++ d)) n.2 p in
      (n.1, at_choice Error (slice_index b 2) n.1 d t.1.1.0.0 t.1.1.1)

  good : HasGoodWindow b
  good = windowless 5 (seg_at (slice_index b 0)) b h refl refl

  pub error_short : length b < 3 → IsRefused b (record { place = length b; why = Short })
  error_short lt = ends_within 5 (seg_at (slice_index b 0)) 2 b h refl (omega arith) good (omega (arith, lt)) lt error_begun

  pub error_refused : (r : Refusal) → 3 ≤ length b → IsRefusedBehind Error (slice_index b 2) b (80 ∷ slice_index b 1 ∷ slice_index b 2 ∷ []) r → IsRefused b r
  error_refused r long e = carrying_refused Error (slice_index b 2) b (80 ∷ slice_index b 1 ∷ slice_index b 2 ∷ []) long 5 (seg_at (slice_index b 0)) r (λ s d p. (error (slice_index b 1) s, error_every s d p)) error_only h refl (omega arith) good refl e

  pub error_found : (service : ServiceValue) (m : Option ℕ) → 3 ≤ length b → IsServiceBehind Error (slice_index b 2) b (80 ∷ slice_index b 1 ∷ slice_index b 2 ∷ []) service m → SpellsApdu (error (slice_index b 1) service) b × HasMark (SpellsApdu (error (slice_index b 1) service)) b m
  error_found service m long f = carrying_found Error (slice_index b 2) b (80 ∷ slice_index b 1 ∷ slice_index b 2 ∷ []) long (error (slice_index b 1) service) service m (error_every service) (λ d m k. k) (λ e. ap (λ (n : ℕ). 80 ∷ slice_index b 1 ∷ n ∷ []) (sym e)) f
