-- Who-Is-Router: nothing behind its type, or a network.
use Rattle.std.specs.Prelude.{◌≡◌, ◌≢◌, ◌⊎◌, ℕ, ◌+◌, ◌*◌, ◌<◌, Some, None, List, [], ◌∷◌, length, slice_index, Err, refl}
use Rattle.std.proofs.Common.{inl, inr, sym, ap, subst, arith}
use Rattle.bac_tag.specs.declared.refusals.Refusal.{Refusal}
use Rattle.bac_tag.specs.declared.refusals.Why.TheVariants.{Short, Trailing, OutOfMemory}
use Rattle.bac_tag.specs.Spelling.{IsWholeRefusal}
use Rattle.bac_tag.proofs.BehindLemmas.{whole_short, whole_trailing}
use Rattle.bac_tag.proofs.FilledLemmas.{filled, filled_viable, viable_itself}
use Rattle.bac_npdu_parts.specs.MessageTypes.{is_typed}
use Rattle.bac_npdu_parts.specs.Messages.{MessageValue, who_is_router, opaque, octets_of, SpellsMessage}
use Rattle.bac_npdu_parts.specs.Decoded.{IsSized, BeginsWith, IsMessageRefused}
use Rattle.bac_npdu_parts.proofs.MessageLemmas.{whole_long, not_typed, parted, high_octet, low_octet}

who_told : (m : MessageValue) (o : ℕ) (b : List ℕ) → o ≡ 0 → SpellsMessage m (o ∷ b) → (length b ≡ 0) ⊎ (length b ≡ 2)
who_told (who_is_router None) o b f p = let l = whole_long (octets_of (who_is_router None)) (o ∷ b) p.1 in inl (omega (arith, l))
who_told (who_is_router (Some n)) o b f p = let l = whole_long (octets_of (who_is_router (Some n))) (o ∷ b) p.1 in inr (omega (arith, l))
who_told (opaque x) o b f p = not_typed o x.kind p.1.0.0 p.0.0 (ap is_typed f)
who_told _ o b f p = absurd (omega (arith, f, p.1.0.0))

module _ (b : List ℕ) (small : (k : ℕ) → slice_index b k < 256) (h : BeginsWith 0 b) where
  abbrev pub begun : MessageValue
  begun = who_is_router (Some (256 * slice_index b 1 + slice_index b 2))

  pub some_spelled : SpellsMessage begun (filled 3 b)
  some_spelled = (tt, ((h.1, small 0), ((high_octet (slice_index b 1) (slice_index b 2) (small 2), small 1), ((low_octet (slice_index b 1) (slice_index b 2) (small 2), small 2), refl))))

  two_alone : (x : MessageValue) (c : List ℕ) → slice_index c 0 ≡ 0 → length c ≡ 2 → SpellsMessage x c → ⊥
  two_alone x [] f l s = absurd (omega (arith, l))
  two_alone x (o ∷ c) f l s = told (who_told x o c f s)
    where
      told : (length c ≡ 0) ⊎ (length c ≡ 2) → ⊥
      told (inl e) = absurd (omega (arith, l, e))
      told (inr e) = absurd (omega (arith, l, e))

  too_few : length b ≡ 2 → IsMessageRefused b (record { place = length b; why = Short })
  too_few e = record {
    refused = λ _. whole_short SpellsMessage b (filled_viable SpellsMessage 3 b (omega (arith, e)) (viable_itself SpellsMessage begun (filled 3 b) some_spelled)) (λ x s. two_alone x b h.1 e s);
    memory = λ w. absurd (let i : Short ≡ OutOfMemory = w in cc);
    reason = inl refl;
  }

  more_alone : (d : List ℕ) (x : MessageValue) → 2 < length d → SpellsMessage x (slice_index b 0 ∷ d) → ⊥
  more_alone d x l s = told (who_told x (slice_index b 0) d h.1 s)
    where
      told : (length d ≡ 0) ⊎ (length d ≡ 2) → ⊥
      told (inl e) = absurd (omega (arith, l, e))
      told (inr e) = absurd (omega (arith, l, e))

  too_many : 3 < length b → IsMessageRefused b (record { place = 3; why = Trailing })
  too_many lt =
      let q = parted 3 b lt in
      record {
        refused = λ _. subst (λ (l : List ℕ). IsWholeRefusal SpellsMessage l (record { place = 3; why = Trailing })) (sym q.1) (whole_trailing SpellsMessage (filled 3 b) (slice_index b 3) q.0 (begun, some_spelled) (λ x c s. more_alone (slice_index b 1 ∷ slice_index b 2 ∷ slice_index b 3 ∷ c) x (omega arith) s));
        memory = λ w. absurd (let i : Trailing ≡ OutOfMemory = w in cc);
        reason = inr (inl refl);
      }

  pub who_refused : (r : Refusal) → length b ≢ 1 → IsSized b 3 (Err r) → IsMessageRefused b r
  who_refused r more (inl w) = subst (IsMessageRefused b) (sym w.1) (too_few (two b h.0 w.0 more))
    where
      two : (c : List ℕ) → 0 < length c → length c < 3 → length c ≢ 1 → length c ≡ 2
      two [] some lt apart = absurd (omega (arith, some))
      two (o ∷ []) some lt apart = absurd (apart refl)
      two (o ∷ x ∷ []) some lt apart = refl
      two (o ∷ x ∷ y ∷ c) some lt apart = absurd (omega (arith, lt))
  who_refused r more (inr w) = subst (IsMessageRefused b) (sym w.1) (too_many w.0)
