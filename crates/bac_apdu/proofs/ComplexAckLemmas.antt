-- ComplexACK in one piece.
use Rattle.std.specs.Prelude.{ℕ, ◌<◌, ◌≤◌, true, List, [], ◌∷◌, ◌++◌, length, slice_index, Option, refl}
use Rattle.std.proofs.Common.{sym, ap, subst, arith}
use Rattle.bac_tag.specs.declared.refusals.Refusal.{Refusal}
use Rattle.bac_tag.specs.declared.refusals.Why.TheVariants.{Short}
use Rattle.bac_tag.specs.Spelling.{IsViable, HasMark}
use Rattle.bac_service.specs.declared.kind.Kind.TheVariants.{ComplexAck}
use Rattle.bac_service.specs.Services.{ServiceValue, opaque, SpellsService}
use Rattle.bac_apdu.specs.FirstOctet.{HasType, HasSeg, HasGoodWindow}
use Rattle.bac_apdu.specs.Apdus.{ApduValue, complex_ack, SpellsApdu}
use Rattle.bac_apdu.specs.Decoded.{IsRefused, IsServiceBehind, IsRefusedBehind}
use Rattle.bac_tag.proofs.FilledLemmas.{filled}
use Rattle.bac_apdu.proofs.TypeLemmas.{named}
use Rattle.bac_apdu.proofs.ReasonLemmas.{windowless, ends_within}
use Rattle.bac_apdu.proofs.CarryingLemmas.{own_choice, at_choice, nothing_carried, carrying_refused, carrying_found}

module _ (b : List ℕ) (small : (k : ℕ) → slice_index b k < 256) (h : HasType 3 b) (g : HasSeg 0 b) where
  pub complex_ack_begun : IsViable SpellsApdu (filled 2 b)
  complex_ack_begun = record { value = complex_ack (slice_index b 1) (opaque ComplexAck 0 []); rest = 0 ∷ []; spelled = ((h.1, g, tt, tt, tt), ((refl, small 1), ((refl, omega arith), nothing_carried ComplexAck 0 (omega arith) refl))) }

  pub complex_ack_every : (s : ServiceValue) (d : List ℕ) → SpellsService true 32 ComplexAck (slice_index b 2) s d → SpellsApdu (complex_ack (slice_index b 1) s) (filled 3 b ++ d)
  complex_ack_every s d p = ((h.1, g, tt, tt, tt), ((refl, small 1), ((sym p.choice_is, small 2), own_choice ComplexAck (slice_index b 2) s d p)))

  pub complex_ack_only : (x : ApduValue) (d : List ℕ) → SpellsApdu x (filled 3 b ++ d) → (s : ServiceValue) × SpellsService true 32 ComplexAck (slice_index b 2) s d
  complex_ack_only x d p =
      let n = named 3 0 x (slice_index b 0) (slice_index b 1 ∷ slice_index b 2 ∷ d) h.1 g p in
      let t = subst (λ (y : ApduValue). SpellsApdu y (filled 3 b ++ d)) n.2 p in
      (n.1, at_choice ComplexAck (slice_index b 2) n.1 d t.1.1.0.0 t.1.1.1)

  good : HasGoodWindow b
  good = windowless 3 0 b h g refl

  pub complex_ack_short : length b < 3 → IsRefused b (record { place = length b; why = Short })
  complex_ack_short lt = ends_within 3 0 2 b h g (omega arith) good (omega (arith, lt)) lt complex_ack_begun

  pub complex_ack_refused : (r : Refusal) → 3 ≤ length b → IsRefusedBehind ComplexAck (slice_index b 2) b (48 ∷ slice_index b 1 ∷ slice_index b 2 ∷ []) r → IsRefused b r
  complex_ack_refused r long e = carrying_refused ComplexAck (slice_index b 2) b (48 ∷ slice_index b 1 ∷ slice_index b 2 ∷ []) long 3 0 r (λ s d p. (complex_ack (slice_index b 1) s, complex_ack_every s d p)) complex_ack_only h g (omega arith) good refl e

  pub complex_ack_found : (service : ServiceValue) (m : Option ℕ) → 3 ≤ length b → IsServiceBehind ComplexAck (slice_index b 2) b (48 ∷ slice_index b 1 ∷ slice_index b 2 ∷ []) service m → SpellsApdu (complex_ack (slice_index b 1) service) b × HasMark (SpellsApdu (complex_ack (slice_index b 1) service)) b m
  complex_ack_found service m long f = carrying_found ComplexAck (slice_index b 2) b (48 ∷ slice_index b 1 ∷ slice_index b 2 ∷ []) long (complex_ack (slice_index b 1) service) service m (complex_ack_every service) (λ d m k. k) (λ e. ap (λ (n : ℕ). 48 ∷ slice_index b 1 ∷ n ∷ []) (sym e)) f
