-- Messages of networks: two octets each behind the type.
use Rattle.std.specs.Prelude.{◌≡◌, ℕ, zero, suc, ◌+◌, ◌*◌, ◌/◌, ◌%◌, ◌<◌, true, false, List, [], ◌∷◌, ◌++◌, length, drop, slice_index, refl}
use Rattle.std.proofs.Common.{inl, inr, sym, ◌∙◌, ap, subst, arith}
use Rattle.std.proofs.lemmas.List.{length-append, drop_more}
use Rattle.std.proofs.lemmas.Grind.{get_or_after_one}
use Rattle.bac_tag.specs.declared.refusals.Refusal.{Refusal}
use Rattle.bac_tag.specs.declared.refusals.Why.TheVariants.{Short, OutOfMemory}
use Rattle.bac_tag.specs.HeadOctets.{Headed}
use Rattle.bac_tag.proofs.BehindLemmas.{whole_short}
use Rattle.bac_npdu_parts.specs.MessageTypes.{is_typed, has_networks}
use Rattle.bac_npdu_parts.specs.Messages.{MessageValue, i_am_router, router_busy, router_available, opaque, networks_of, type_of, SpellsMessage}
use Rattle.bac_npdu_parts.specs.Decoded.{small_message, IsMessageRefused}
use Rattle.bac_npdu_parts.specs.Refused.{IsHalfNetwork, IsNetworksRefusal}
use Rattle.bac_npdu_parts.proofs.MessageLemmas.{not_typed, high_octet, low_octet}

not_these : {P : Type 0} (o k : ℕ) → o ≡ k → has_networks k ≡ false → has_networks o ≡ true → P
not_these o k e f g = absurd (let i : true ≡ false = sym g ∙ ap has_networks e ∙ f in cc)

networks_told : (m : MessageValue) (o : ℕ) (b : List ℕ) → is_typed o ≡ true → has_networks o ≡ true → SpellsMessage m (o ∷ b) → (ns : List ℕ) × Headed (networks_of ns) (λ rest. rest ≡ []) b
networks_told (i_am_router x) o b t n p = (x, p.1.1)
networks_told (router_busy x) o b t n p = (x, p.1.1)
networks_told (router_available x) o b t n p = (x, p.1.1)
networks_told (opaque x) o b t n p = not_typed o x.kind p.1.0.0 p.0.0 t
networks_told m o b t n p = not_these o (type_of m) p.1.0.0 refl n

-- each network has two octets
are_even : (ns b : List ℕ) → Headed (networks_of ns) (λ rest. rest ≡ []) b → length b % 2 ≡ 0
are_even [] b h = omega (arith, ap (λ (l : List ℕ). length l) h)
are_even (n ∷ ns) [] h = absurd h
are_even (n ∷ ns) (x ∷ []) h = absurd h.1
are_even (n ∷ ns) (x ∷ y ∷ b) h = let e = are_even ns b h.1.1 in omega (arith, e)

-- and any two octets are a network
pub networks_in : (b : List ℕ) → ((k : ℕ) → slice_index b k < 256) → length b % 2 ≡ 0 → (ns : List ℕ) × Headed (networks_of ns) (λ rest. rest ≡ []) b
networks_in [] small e = ([], refl)
networks_in (x ∷ []) small e = absurd (omega (arith, e))
networks_in (x ∷ y ∷ b) small e =
    let n = networks_in b (λ k. small (suc (suc k))) (omega (arith, e)) in
    ((256 * x + y) ∷ n.0, ((high_octet x y (small 1), small 0), ((low_octet x y (small 1), small 1), n.1)))

-- one more network behind those that were read
networks_next : (ns : List ℕ) (n : ℕ) (r b : List ℕ) (x y : ℕ) → x < 256 → y < 256 → n ≡ 256 * x + y → Headed (networks_of ns) (λ rest. rest ≡ x ∷ y ∷ r) b → Headed (networks_of (ns ++ n ∷ [])) (λ rest. rest ≡ r) b
networks_next [] n r b x y p q e h = rw (h, e) ((high_octet x y q, p), ((low_octet x y q, q), refl))
networks_next (m ∷ ns) n r [] x y p q e h = absurd h
networks_next (m ∷ ns) n r (o ∷ []) x y p q e h = absurd h.1
networks_next (m ∷ ns) n r (o ∷ u ∷ b) x y p q e h = (h.0, (h.1.0, networks_next ns n r b x y p q e h.1.1))

two_at : (b : List ℕ) (k : ℕ) → k + 1 < length b → drop k b ≡ slice_index b k ∷ slice_index b (k + 1) ∷ drop (k + 1 + 1) b
two_at b k lt = drop_more b k 0 (omega arith) ∙ ap (λ (l : List ℕ). slice_index b k ∷ l) (drop_more b (k + 1) 0 lt)

-- c stands behind the type
pub networks_step : (ns : List ℕ) (n i : ℕ) (b c : List ℕ) → ((k : ℕ) → slice_index b k < 256) → drop 1 b ≡ c → i < length c / 2 → n ≡ 256 * slice_index c (2 * i) + slice_index c (2 * i + 1) → Headed (networks_of ns) (λ rest. rest ≡ drop (2 * i) c) c
    → Headed (networks_of (ns ++ n ∷ [])) (λ rest. rest ≡ drop (2 * (i + 1)) c) c
networks_step ns n i b c small d lt e h =
    let octets : (k : ℕ) → slice_index c k < 256 = λ k. subst (λ (l : List ℕ). slice_index l k < 256) d (rw (get_or_after_one b k 0) (small (1 + k))) in
    let two : drop (2 * i) c ≡ slice_index c (2 * i) ∷ slice_index c (2 * i + 1) ∷ drop (2 * (i + 1)) c = two_at c (2 * i) (omega (arith, lt)) ∙ ap (λ (k : ℕ). slice_index c (2 * i) ∷ slice_index c (2 * i + 1) ∷ drop k c) (omega arith) in
    networks_next ns n (drop (2 * (i + 1)) c) c (slice_index c (2 * i)) (slice_index c (2 * i + 1)) (octets (2 * i)) (octets (2 * i + 1)) e (subst (λ (l : List ℕ). Headed (networks_of ns) (λ rest. rest ≡ l) c) two h)

zero_behind : (b : List ℕ) → ((k : ℕ) → slice_index b k < 256) → (k : ℕ) → slice_index (b ++ 0 ∷ []) k < 256
zero_behind [] small zero = omega arith
zero_behind [] small (suc k) = omega arith
zero_behind (o ∷ b) small zero = small 0
zero_behind (o ∷ b) small (suc k) = zero_behind b (λ k. small (suc k)) k

-- how messages of networks are made and refused
module _ (k : ℕ) (t : is_typed k ≡ true) (n : has_networks k ≡ true) (large : (size : ℕ) → small_message k size ≡ false) (make : List ℕ → MessageValue)
    (spelled : (ns : List ℕ) (o : ℕ) (b : List ℕ) → o ≡ k → Headed (networks_of ns) (λ rest. rest ≡ []) b → SpellsMessage (make ns) (o ∷ b)) where
  pub networks_spelled : (ns b : List ℕ) → 0 < length b → slice_index b 0 ≡ k → Headed (networks_of ns) (λ rest. rest ≡ []) (drop 1 b) → SpellsMessage (make ns) b
  networks_spelled ns [] some e h = absurd (omega (arith, some))
  networks_spelled ns (o ∷ b) some e h = spelled ns o b e h

  odd_refused : (b : List ℕ) → ((k : ℕ) → slice_index b k < 256) → 0 < length b → slice_index b 0 ≡ k → length b % 2 ≡ 0 → IsMessageRefused b (record { place = length b; why = Short })
  odd_refused [] small some e even = absurd (omega (arith, some))
  odd_refused (o ∷ b) small some e even = record {
    refused = λ _. whole_short SpellsMessage (o ∷ b)
        (let ns = networks_in (b ++ 0 ∷ []) (zero_behind b (λ k. small (suc k))) (omega (arith, length-append b (0 ∷ []), even)) in record { value = make ns.0; rest = 0 ∷ []; spelled = spelled ns.0 o (b ++ 0 ∷ []) e ns.1 })
        (λ x s. let ns = networks_told x o b (ap is_typed e ∙ t) (ap has_networks e ∙ n) s in let l = are_even ns.0 b ns.1 in omega (arith, l, even));
    memory = λ w. absurd (let i : Short ≡ OutOfMemory = w in cc);
    reason = inl refl;
  }

  pub half_refused : (b : List ℕ) → ((k : ℕ) → slice_index b k < 256) → 0 < length b → slice_index b 0 ≡ k → (r : Refusal) → IsHalfNetwork b r → IsMessageRefused b r
  half_refused b small some e r w = subst (IsMessageRefused b) (sym w.1) (odd_refused b small some e w.0)

  pub networks_refused : (b : List ℕ) → ((k : ℕ) → slice_index b k < 256) → 0 < length b → slice_index b 0 ≡ k → (r : Refusal) → IsNetworksRefusal b r → IsMessageRefused b r
  networks_refused b small some e r (inl w) = half_refused b small some e r w
  networks_refused b small some e r (inr w) = subst (IsMessageRefused b) (sym w) (record {
    refused = λ f. absurd (f refl);
    memory = λ _. (refl, ap (λ (o : ℕ). small_message o (length b)) e ∙ large (length b));
    reason = inr (inr refl);
  })
