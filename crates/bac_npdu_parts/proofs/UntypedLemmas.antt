-- Network messages without a layout.
use Rattle.std.specs.Prelude.{◌≡◌, ℕ, suc, ◌+◌, ◌-◌, ◌*◌, ◌<◌, ◌≤◌, true, false, Option, Some, None, List, [], ◌∷◌, ◌++◌, length, map, take, drop, slice_index, refl}
use Rattle.std.proofs.Common.{inl, inr, sym, ◌∙◌, ap, length-drop, arith}
use Rattle.std.proofs.lemmas.Bool.Decides.{nat_tests}
use Rattle.std.proofs.lemmas.List.{take_all}
use Rattle.bac_tag.specs.declared.refusals.Why.TheVariants.{Short, OutOfMemory}
use Rattle.bac_tag.specs.HeadOctets.{octet, Headed}
use Rattle.bac_tag.proofs.HeadOctetLemmas.{headed_long}
use Rattle.bac_tag.proofs.BehindLemmas.{whole_short}
use Rattle.bac_tag.proofs.FilledLemmas.{filled, filled_viable, viable_itself}
use Rattle.bac_npdu_parts.specs.MessageTypes.{is_typed, IsVendored}
use Rattle.bac_npdu_parts.specs.Messages.{MessageValue, opaque, network_or_none, type_of, SpellsMessage}
use Rattle.bac_npdu_parts.specs.Decoded.{small_message, IsMessageRefused}
use Rattle.bac_npdu_parts.proofs.MessageLemmas.{high_octet, low_octet}

-- octets that are told spell themselves
pub octets_headed : (xs : List ℕ) → ((k : ℕ) → slice_index xs k < 256) → Headed (map octet xs) (λ rest. rest ≡ []) xs
octets_headed [] small = refl
octets_headed (x ∷ xs) small = ((refl, small 0), octets_headed xs (λ k. small (suc k)))

pub plain_spelled : (b : List ℕ) → ((k : ℕ) → slice_index b k < 256) → 1 ≤ length b → is_typed (slice_index b 0) ≡ false → slice_index b 0 < 128 → SpellsMessage (opaque (record { kind = slice_index b 0; vendor = None; octets = drop 1 b })) b
plain_spelled [] small some t v = absurd (omega arith)
plain_spelled (o ∷ b) small some t v = ((t, v), ((refl, small 0), octets_headed b (λ k. small (suc k))))

pub vendored_spelled : (b : List ℕ) → ((k : ℕ) → slice_index b k < 256) → 3 ≤ length b → is_typed (slice_index b 0) ≡ false → 128 ≤ slice_index b 0 → SpellsMessage (opaque (record { kind = slice_index b 0; vendor = Some (256 * slice_index b 1 + slice_index b 2); octets = drop 3 b })) b
vendored_spelled [] small some t v = absurd (omega arith)
vendored_spelled (o ∷ []) small some t v = absurd (omega arith)
vendored_spelled (o ∷ x ∷ []) small some t v = absurd (omega arith)
vendored_spelled (o ∷ x ∷ y ∷ b) small some t v = ((t, v), ((refl, small 0), ((high_octet x y (small 2), small 1), ((low_octet x y (small 2), small 2), octets_headed b (λ k. small (suc (suc (suc k))))))))

-- all that stands behind so many octets
pub behind_all : (n : ℕ) (b : List ℕ) → drop n b ≡ take (length b - n) (drop n b)
behind_all n b = sym (take_all (length b - n) (drop n b) (omega (arith, length-drop n b)))

-- ---- octets that end within the vendor

as_typed : {P : Type 0} (o k : ℕ) → o ≡ k → is_typed k ≡ true → is_typed o ≡ false → P
as_typed o k e f g = absurd (let i : false ≡ true = sym g ∙ ap is_typed e ∙ f in cc)

with_vendor : (k o : ℕ) (w : Option ℕ) (xs b : List ℕ) → 128 ≤ o → o ≡ k → IsVendored k w → Headed (network_or_none w ++ map octet xs) (λ rest. rest ≡ []) b → 2 ≤ length b
with_vendor k o None xs b v e w h = absurd (omega (arith, v, e, w))
with_vendor k o (Some n) xs b v e w h = let l = headed_long (network_or_none (Some n) ++ map octet xs) (λ rest. rest ≡ []) b h in omega (arith, l)

pub vendored_long : (m : MessageValue) (o : ℕ) (b : List ℕ) → is_typed o ≡ false → 128 ≤ o → SpellsMessage m (o ∷ b) → 2 ≤ length b
vendored_long (opaque x) o b t v p = with_vendor x.kind o x.vendor x.octets b v p.1.0.0 p.0.1 p.1.1
vendored_long m o b t v p = as_typed o (type_of m) p.1.0.0 refl t

abbrev begun : List ℕ → MessageValue
begun b = opaque (record { kind = slice_index b 0; vendor = Some (256 * slice_index b 1 + slice_index b 2); octets = [] })

begun_spelled : (b : List ℕ) → ((k : ℕ) → slice_index b k < 256) → is_typed (slice_index b 0) ≡ false → 128 ≤ slice_index b 0 → SpellsMessage (begun b) (filled 3 b)
begun_spelled b small t v = ((t, v), ((refl, small 0), ((high_octet (slice_index b 1) (slice_index b 2) (small 2), small 1), ((low_octet (slice_index b 1) (slice_index b 2) (small 2), small 2), refl))))

pub vendored_short : (b : List ℕ) → ((k : ℕ) → slice_index b k < 256) → 0 < length b → is_typed (slice_index b 0) ≡ false → 128 ≤ slice_index b 0 → length b < 3 → IsMessageRefused b (record { place = length b; why = Short })
vendored_short [] small some t v lt = absurd (omega (arith, some))
vendored_short (o ∷ b) small some t v lt = record {
  refused = λ _. whole_short SpellsMessage (o ∷ b) (filled_viable SpellsMessage 3 (o ∷ b) (omega (arith, lt)) (viable_itself SpellsMessage (begun (o ∷ b)) (filled 3 (o ∷ b)) (begun_spelled (o ∷ b) small t v))) (λ x s. let l = vendored_long x o b t v s in omega (arith, l, lt));
  memory = λ w. absurd (let i : Short ≡ OutOfMemory = w in cc);
  reason = inl refl;
}

-- ---- memory

pub untyped_large : (k n : ℕ) → is_typed k ≡ false → small_message k n ≡ false
untyped_large k n t = grind (arith, nat_tests)

pub untyped_memory : (b : List ℕ) → is_typed (slice_index b 0) ≡ false → IsMessageRefused b (record { place = 0; why = OutOfMemory })
untyped_memory b t = record { refused = λ w. absurd (w refl); memory = λ _. (refl, untyped_large (slice_index b 0) (length b) t); reason = inr (inr refl) }
