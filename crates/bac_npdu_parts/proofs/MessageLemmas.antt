-- Network messages of a fixed number of octets.
use Rattle.std.specs.Prelude.{◌≡◌, ℕ, zero, suc, ◌+◌, ◌*◌, ◌/◌, ◌%◌, ◌<◌, nat_eq, cond, Bool, true, false, Option, Some, None, List, [], ◌∷◌, ◌++◌, length, drop, slice_index, Err, refl}
use Rattle.std.proofs.Common.{inl, inr, sym, ◌∙◌, ap, subst, eqb-true, arith}
use Rattle.std.proofs.lemmas.List.{length-append, length-take-le}
use Rattle.bac_tag.specs.declared.refusals.Refusal.{Refusal}
use Rattle.bac_tag.specs.declared.refusals.Why.TheVariants.{Short, Trailing, OutOfMemory}
use Rattle.bac_tag.specs.Spelling.{IsWholeRefusal}
use Rattle.bac_tag.specs.HeadOctets.{Part, Headed}
use Rattle.bac_tag.proofs.BehindLemmas.{whole_short, whole_trailing}
use Rattle.bac_tag.proofs.FilledLemmas.{octets_from, filled, filled_viable, filled_taken, filled_split, viable_itself}
use Rattle.bac_npdu_parts.specs.MessageTypes.{is_typed}
use Rattle.bac_npdu_parts.specs.Messages.{MessageValue, what_is_network_number, opaque, octets_of, type_of, IsMessage, SpellsMessage}
use Rattle.bac_npdu_parts.specs.Decoded.{IsSized, BeginsWith, IsMessageRefused}

-- how many octets messages of a type have, where all have as many
abbrev pub size_at : ℕ → Option ℕ
size_at k = cond (nat_eq k 2) (Some 4) (cond (nat_eq k 3) (Some 4) (cond (nat_eq k 8) (Some 4) (cond (nat_eq k 9) (Some 3) (cond (nat_eq k 18) (Some 1) (cond (nat_eq k 19) (Some 4) None)))))

pub whole_long : (ps : List Part) (b : List ℕ) → Headed ps (λ rest. rest ≡ []) b → length b ≡ length ps
whole_long [] b h = ap (λ (l : List ℕ). length l) h
whole_long (p ∷ ps) [] h = absurd h
whole_long (p ∷ ps) (o ∷ b) h = ap suc (whole_long ps b h.1)

pub not_typed : {P : Type 0} (o k : ℕ) → o ≡ k → is_typed k ≡ false → is_typed o ≡ true → P
not_typed o k e f g = absurd (let i : true ≡ false = sym g ∙ ap is_typed e ∙ f in cc)

-- The first octet is the type. Here and below, the line after those of some messages is that of each other message.
pub first_is : (m : MessageValue) (o : ℕ) (b : List ℕ) → SpellsMessage m (o ∷ b) → o ≡ type_of m
first_is (opaque x) o b p = p.1.0.0
first_is _ o b p = p.1.0.0

-- so many octets are as many as these, where these are told
abbrev has_size : ℕ → Option ℕ → Bool
has_size size None = true
has_size size (Some n) = nat_eq size n

size_is : (m : MessageValue) → IsMessage m → is_typed (type_of m) ≡ true → has_size (length (octets_of m)) (size_at (type_of m)) ≡ true
size_is (opaque x) h t = not_typed x.kind x.kind refl h.0 t
size_is _ h t = refl

pub sized_told : (m : MessageValue) (o n : ℕ) (b : List ℕ) → is_typed o ≡ true → size_at o ≡ Some n → SpellsMessage m (o ∷ b) → length (o ∷ b) ≡ n
sized_told m o n b t e p =
    let first = first_is m o b p in
    let size = sym (ap (has_size (length (octets_of m))) (sym (ap size_at first) ∙ e)) ∙ size_is m p.0 (sym (ap is_typed first) ∙ t) in
    whole_long (octets_of m) (o ∷ b) p.1 ∙ eqb-true (length (octets_of m)) n size

-- the octet at a place is the first of those from it on
pub parted : (n : ℕ) (b : List ℕ) → n < length b → (rest : List ℕ) × (b ≡ filled n b ++ slice_index b n ∷ rest)
parted n b lt = (drop (suc n) b, filled_split n b (omega (arith, lt)) ∙ ap (λ (l : List ℕ). filled n b ++ l) (drop_at n b lt))
  where
    drop_at : (n : ℕ) (b : List ℕ) → n < length b → drop n b ≡ slice_index b n ∷ drop (suc n) b
    drop_at n [] lt = absurd (omega arith)
    drop_at zero (o ∷ b) lt = refl
    drop_at (suc n) (o ∷ b) lt = drop_at n b (omega arith)

module _ (k n : ℕ) (b : List ℕ) (h : BeginsWith k b) (t : is_typed k ≡ true) (e : size_at k ≡ Some (suc n)) (m : MessageValue) (spelled : SpellsMessage m (filled (suc n) b)) where
  first_typed : is_typed (slice_index b 0) ≡ true
  first_typed = ap is_typed h.1 ∙ t

  first_sized : size_at (slice_index b 0) ≡ Some (suc n)
  first_sized = ap size_at h.1 ∙ e

  fewer : (x : MessageValue) (c : List ℕ) → slice_index c 0 ≡ k → length c < suc n → 0 < length c → SpellsMessage x c → ⊥
  fewer x [] f lt some s = absurd (omega (arith, some))
  fewer x (o ∷ c) f lt some s = let l = sized_told x o (suc n) c (ap is_typed f ∙ t) (ap size_at f ∙ e) s in omega (arith, l, lt)

  too_few : length b < suc n → IsMessageRefused b (record { place = length b; why = Short })
  too_few lt = record {
    refused = λ _. whole_short SpellsMessage b (filled_viable SpellsMessage (suc n) b (omega (arith, lt)) (viable_itself SpellsMessage m (filled (suc n) b) spelled)) (λ x s. fewer x b h.1 lt h.0 s);
    memory = λ w. absurd (let i : Short ≡ OutOfMemory = w in cc);
    reason = inl refl;
  }

  too_many : suc n < length b → IsMessageRefused b (record { place = suc n; why = Trailing })
  too_many lt =
      let q = parted (suc n) b lt in
      let size : length (filled (suc n) b) ≡ suc n = ap (λ (l : List ℕ). length l) (sym (filled_taken (suc n) b (omega (arith, lt)))) ∙ length-take-le (suc n) b (omega (arith, lt)) in
      let whole = whole_trailing SpellsMessage (filled (suc n) b) (slice_index b (suc n)) q.0 (m, spelled) (λ x c s. let l = sized_told x (slice_index b 0) (suc n) (octets_from 1 n b ++ slice_index b (suc n) ∷ c) first_typed first_sized s in omega (arith, l, size, length-append (filled (suc n) b) (slice_index b (suc n) ∷ c))) in
      record {
        refused = λ _. subst (λ (l : List ℕ). IsWholeRefusal SpellsMessage l (record { place = suc n; why = Trailing })) (sym q.1) (subst (λ (z : ℕ). IsWholeRefusal SpellsMessage (filled (suc n) b ++ slice_index b (suc n) ∷ q.0) (record { place = z; why = Trailing })) size whole);
        memory = λ w. absurd (let i : Trailing ≡ OutOfMemory = w in cc);
        reason = inr (inl refl);
      }

  pub sized_refused : (r : Refusal) → IsSized b (suc n) (Err r) → IsMessageRefused b r
  sized_refused r (inl w) = subst (IsMessageRefused b) (sym w.1) (too_few w.0)
  sized_refused r (inr w) = subst (IsMessageRefused b) (sym w.1) (too_many w.0)

-- a number of two octets is told by them
pub high_octet : (a b : ℕ) → b < 256 → a ≡ (256 * a + b) / 256
high_octet a b lt = omega (arith, lt)

pub low_octet : (a b : ℕ) → b < 256 → b ≡ (256 * a + b) % 256
low_octet a b lt = omega (arith, lt)

pub nothing_spells : (m : MessageValue) → SpellsMessage m [] → ⊥
nothing_spells (opaque x) p = p.1
nothing_spells _ p = p.1

-- no octets begin a network message
pub nothing_refused : (b : List ℕ) → length b < 1 → IsMessageRefused b (record { place = length b; why = Short })
nothing_refused [] lt = record {
  refused = λ _. whole_short SpellsMessage [] (record { value = what_is_network_number; rest = 18 ∷ []; spelled = (tt, ((refl, omega arith), refl)) }) nothing_spells;
  memory = λ w. absurd (let i : Short ≡ OutOfMemory = w in cc);
  reason = inl refl;
}
nothing_refused (o ∷ b) lt = absurd (omega arith)
