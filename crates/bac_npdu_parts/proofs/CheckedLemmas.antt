-- What checking a network message gives.
use Rattle.std.specs.Prelude.{◌≡◌, ◌≢◌, ℕ, suc, ◌+◌, ◌*◌, ◌%◌, ◌<◌, nat_eq, ◌||◌, Bool, true, false, Some, None, List, [], ◌∷◌, length, drop, slice_index, Result, Ok, Err, refl}
use Rattle.std.proofs.Common.{inl, inr, sym, ◌∙◌, ap, subst, eqb-true, arith}
use Rattle.std.proofs.lemmas.List.{take_all, get_or-drop}
use Rattle.bac_tag.specs.declared.refusals.Refusal.{Refusal}
use Rattle.bac_tag.specs.declared.refusals.Why.TheVariants.{Short, Trailing, OutOfMemory}
use Rattle.bac_tag.specs.HeadOctets.{octet, Headed}
use Rattle.bac_tag.proofs.FilledLemmas.{filled, filled_taken}
use Rattle.bac_npdu_parts.specs.MessageTypes.{is_typed, has_networks}
use Rattle.bac_npdu_parts.specs.Messages.{MessageValue, who_is_router, i_am_router, router_busy, router_available, init_table_ack, octets_of, SpellsMessage}
use Rattle.bac_npdu_parts.specs.Decoded.{IsSized, BeginsWith, IsMessageRefused, AreMessageOctets, IsNoMessage, IsMessageChecked}
use Rattle.bac_npdu_parts.specs.Refused.{IsEarlyEnd, IsHalfNetwork, IsNoTable}
use Rattle.bac_npdu_parts.proofs.MessageLemmas.{size_at, sized_refused}
use Rattle.bac_npdu_parts.proofs.WhoIsRouterLemmas.{some_spelled, who_refused}
use Rattle.bac_npdu_parts.proofs.NumberLemmas.{numbers_told, message_numbers}
use Rattle.bac_npdu_parts.proofs.NetworksLemmas.{networks_in, networks_spelled, half_refused}

pub message_octets : (m : MessageValue) (b : List ℕ) → SpellsMessage m b → AreMessageOctets b
message_octets m b s = record { message = m; spelled = s; octets_are = numbers_told (octets_of m) b (message_numbers m) s.1 }

-- ---- refusals

pub no_message : (b : List ℕ) (r : Refusal) → IsMessageRefused b r → r.why ≢ OutOfMemory → IsNoMessage b r
no_message b r e why = record { refused = e.refused why; memory = why; reason = e.reason }

pub no_message_refused : (b : List ℕ) (r : Refusal) → IsNoMessage b r → IsMessageRefused b r
no_message_refused b r e = record { refused = λ why. e.refused; memory = λ why. absurd (e.memory why); reason = e.reason }

pub early_why : (b : List ℕ) (r : Refusal) → IsEarlyEnd b r → r.why ≢ OutOfMemory
early_why b r e why = let i : Short ≡ OutOfMemory = sym (ap (λ (r : Refusal). r.why) e) ∙ why in cc

pub no_table_why : (b : List ℕ) (r : Refusal) → IsNoTable b r → r.why ≢ OutOfMemory
no_table_why b r (inl w) why = early_why b r w.1 why
no_table_why b r (inr w) why = let i : Trailing ≡ OutOfMemory = sym w.1 ∙ why in cc

-- ---- messages of so many octets

sized_why : (b : List ℕ) (n : ℕ) (r : Refusal) → IsSized b n (Err r) → r.why ≢ OutOfMemory
sized_why b n r (inl w) why = early_why b r w.1 why
sized_why b n r (inr w) why = let i : Trailing ≡ OutOfMemory = sym (ap (λ (r : Refusal). r.why) w.1) ∙ why in cc

all_filled : (n : ℕ) (b : List ℕ) → length b ≡ n → filled n b ≡ b
all_filled n b e = sym (filled_taken n b (omega (arith, e))) ∙ take_all n b (omega (arith, e))

pub sized_checked : (k n : ℕ) (b : List ℕ) → BeginsWith k b → is_typed k ≡ true → size_at k ≡ Some (suc n) → (m : MessageValue) → SpellsMessage m (filled (suc n) b) → (r : Result Unit Refusal) → IsSized b (suc n) r → IsMessageChecked b r
sized_checked k n b h t e m s (Ok done) size = message_octets m b (subst (SpellsMessage m) (all_filled (suc n) b size) s)
sized_checked k n b h t e m s (Err r) w = no_message b r (sized_refused k n b h t e m s r w) (sized_why b (suc n) r w)

-- a type alone, where nothing has to be behind it
one_alone : (k : ℕ) (b : List ℕ) → k < 256 → BeginsWith k b → length b ≡ 1 → Headed (octet k ∷ []) (λ rest. rest ≡ []) b
one_alone k [] lt h e = absurd (omega (arith, e))
one_alone k (o ∷ []) lt h e = ((h.1, subst (λ (n : ℕ). n < 256) (sym h.1) lt), refl)
one_alone k (o ∷ p ∷ b) lt h e = absurd (omega (arith, e))

pub who_alone : (b : List ℕ) → BeginsWith 0 b → length b ≡ 1 → AreMessageOctets b
who_alone b h e = message_octets (who_is_router None) b (tt, one_alone 0 b (omega arith) h e)

pub ack_alone : (b : List ℕ) → BeginsWith 7 b → length b ≡ 1 → AreMessageOctets b
ack_alone b h e = message_octets (init_table_ack None) b (tt, one_alone 7 b (omega arith) h e)

pub who_checked : (b : List ℕ) → ((k : ℕ) → slice_index b k < 256) → BeginsWith 0 b → length b ≢ 1 → (r : Result Unit Refusal) → IsSized b 3 r → IsMessageChecked b r
who_checked b small h more (Ok done) size =
    message_octets (who_is_router (Some (256 * slice_index b 1 + slice_index b 2))) b (subst (SpellsMessage (who_is_router (Some (256 * slice_index b 1 + slice_index b 2)))) (all_filled 3 b size) (some_spelled b small h))
who_checked b small h more (Err r) w = no_message b r (who_refused b small h r more w) (sized_why b 3 r w)

-- ---- messages of networks

-- what is said of messages of networks of any type holds of those of each
by_type : (P : ℕ → Type 0) → P 1 → P 4 → P 5 → (k : ℕ) → has_networks k ≡ true → P k
by_type P one four five k = told (nat_eq k 1) (nat_eq k 4) (nat_eq k 5) (eqb-true k 1) (eqb-true k 4) (eqb-true k 5)
  where
    told : (a b c : Bool) → (a ≡ true → k ≡ 1) → (b ≡ true → k ≡ 4) → (c ≡ true → k ≡ 5) → a || (b || c) ≡ true → P k
    told true b c f g h t = subst P (sym (f refl)) one
    told false true c f g h t = subst P (sym (g refl)) four
    told false false true f g h t = subst P (sym (h refl)) five
    told false false false f g h t = absurd (let i : false ≡ true = t in cc)

module _ (b : List ℕ) (small : (k : ℕ) → slice_index b k < 256) (some : 0 < length b) where
  -- an even number of octets behind the type are networks
  pub even_octets : (k : ℕ) → has_networks k ≡ true → slice_index b 0 ≡ k → (d : List ℕ) → d ≡ drop 1 b → length d % 2 ≡ 0 → AreMessageOctets b
  even_octets k t first d e even =
      let networks = networks_in (drop 1 b) (λ k. rw (get_or-drop 1 b k 0) (small (1 + k))) (subst (λ (l : List ℕ). length l % 2 ≡ 0) e even) in
      by_type (λ n. slice_index b 0 ≡ n → AreMessageOctets b)
      (λ f. message_octets (i_am_router networks.0) b (networks_spelled 1 refl refl (λ n. refl) i_am_router (λ ns o b e h. (tt, ((e, omega (arith, e)), h))) networks.0 b some f networks.1))
      (λ f. message_octets (router_busy networks.0) b (networks_spelled 4 refl refl (λ n. refl) router_busy (λ ns o b e h. (tt, ((e, omega (arith, e)), h))) networks.0 b some f networks.1))
      (λ f. message_octets (router_available networks.0) b (networks_spelled 5 refl refl (λ n. refl) router_available (λ ns o b e h. (tt, ((e, omega (arith, e)), h))) networks.0 b some f networks.1))
      k t first

  pub half_no_message : (k : ℕ) → has_networks k ≡ true → slice_index b 0 ≡ k → (r : Refusal) → IsHalfNetwork b r → IsNoMessage b r
  half_no_message k t first r w =
      no_message b r
      (by_type (λ n. slice_index b 0 ≡ n → IsMessageRefused b r)
      (λ f. half_refused 1 refl refl (λ n. refl) i_am_router (λ ns o b e h. (tt, ((e, omega (arith, e)), h))) b small some f r w)
      (λ f. half_refused 4 refl refl (λ n. refl) router_busy (λ ns o b e h. (tt, ((e, omega (arith, e)), h))) b small some f r w)
      (λ f. half_refused 5 refl refl (λ n. refl) router_available (λ ns o b e h. (tt, ((e, omega (arith, e)), h))) b small some f r w)
      k t first)
      (early_why b r w.1)
