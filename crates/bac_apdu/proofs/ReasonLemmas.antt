-- The reasons for which octets are no APDU.
use Rattle.std.specs.Prelude.{◌≡◌, ℕ, suc, ◌/◌, ◌%◌, ◌^◌, ◌<◌, ◌≤◌, ◌&&◌, nat_eq, cond, Bool, true, false, Option, Some, None, List, [], ◌∷◌, length, slice_index, refl}
use Rattle.std.proofs.Common.{inl, inr, sym, ◌∙◌, ap, subst, arith}
use Rattle.std.proofs.lemmas.Nat.Bits.{bit_at-lt}
use Rattle.bac_tag.specs.declared.refusals.Refusal.{Refusal}
use Rattle.bac_tag.specs.declared.refusals.Why.{Why}
use Rattle.bac_tag.specs.declared.refusals.Why.TheVariants.{Short, Trailing, PduType, Window, OutOfMemory}
use Rattle.bac_tag.specs.Spelling.{IsViable}
use Rattle.bac_data.specs.Refusals.{IsItemReason}
use Rattle.bac_productions.specs.Reasons.{IsServiceReason}
use Rattle.bac_tag.specs.HeadOctets.{bit_of, IsWindow}
use Rattle.bac_apdu.specs.FirstOctet.{HeadRow, rows, row_among, has_seg, window_of, type_at, seg_at, head_size, window_place, HasType, HasSeg, HasGoodWindow}
use Rattle.bac_apdu.specs.Apdus.{reject, SpellsApdu}
use Rattle.bac_apdu.specs.Decoded.{small_of, begins_small, IsReasoned, IsRefused}
use Rattle.bac_tag.proofs.BehindLemmas.{whole_short, whole_hopeless}
use Rattle.bac_tag.proofs.HeadOctetLemmas.{bit_is}
use Rattle.bac_tag.proofs.FilledLemmas.{filled, filled_viable}
use Rattle.bac_apdu.proofs.TypeLemmas.{told, too_short, nothing_spells}

-- ---- a bit as a flag

abbrev pub flag_at : ℕ → ℕ → Bool
flag_at place o = nat_eq (o / 2 ^ place % 2) 1

pub flag_is : (place o : ℕ) → o / 2 ^ place % 2 ≡ bit_of (flag_at place o)
flag_is place o = bit_is (o / 2 ^ place % 2) (bit_at-lt o place)

-- ---- reasons

service_tells_no_type : (w : Why) → IsServiceReason w → w ≡ PduType → ⊥
service_tells_no_type w (inl h) e = let i : PduType ≡ OutOfMemory = sym e ∙ h in cc
service_tells_no_type w (inr (inl h)) e = let i : PduType ≡ Trailing = sym e ∙ h in cc
service_tells_no_type w (inr (inr h)) e = subst IsItemReason e h

service_tells_no_window : (w : Why) → IsServiceReason w → w ≡ Window → ⊥
service_tells_no_window w (inl h) e = let i : Window ≡ OutOfMemory = sym e ∙ h in cc
service_tells_no_window w (inr (inl h)) e = let i : Window ≡ Trailing = sym e ∙ h in cc
service_tells_no_window w (inr (inr h)) e = subst IsItemReason e h

-- a reason of a service, where the type and the window are good
pub reasoned : (t : ℕ) (b : List ℕ) (r : Refusal) → HasType t b → t < 8 → HasGoodWindow b → IsServiceReason r.why → IsReasoned b r
reasoned t b r h low good s = record {
  of_type = (λ e. absurd (service_tells_no_type r.why s e), λ p. absurd (omega (arith, p.2, h.1, low)));
  of_window = (λ e. absurd (service_tells_no_window r.why s e), λ p. absurd (good r.place p));
  others = inr (inr s);
}

pub place_as : (t g : ℕ) (b : List ℕ) → HasType t b → HasSeg g b → window_place (type_at (slice_index b 0)) (seg_at (slice_index b 0)) ≡ window_place t g
place_as t g b h f = ap (λ (n : ℕ). window_place n (seg_at (slice_index b 0))) h.1 ∙ ap (window_place t) f

pub windowless : (t g : ℕ) (b : List ℕ) → HasType t b → HasSeg g b → window_place t g ≡ None → HasGoodWindow b
windowless t g b h f none p bad = absurd (let i : Some p ≡ None = sym bad.0 ∙ place_as t g b h f ∙ none in cc)

pub windowed : (t g n : ℕ) (b : List ℕ) → HasType t b → HasSeg g b → window_place t g ≡ Some n → (n < length b → IsWindow (slice_index b n)) → HasGoodWindow b
windowed t g n b h f at good p bad =
    let same : n ≡ p = (let i : Some n ≡ Some p = sym at ∙ sym (place_as t g b h f) ∙ bad.0 in cc) in
    bad.2 (subst (λ (k : ℕ). IsWindow (slice_index b k)) same (good (omega (arith, same, bad.1))))

-- ---- heads that are begun

pub begins_small_as : (t g : ℕ) (b : List ℕ) → HasType t b → HasSeg g b → begins_small b ≡ small_of t g b
begins_small_as t g b h f = ap (λ (n : ℕ). small_of n (seg_at (slice_index b 0)) b) h.1 ∙ ap (λ (n : ℕ). small_of t n b) f

short_within : (t g : ℕ) (b : List ℕ) → HasType t b → HasSeg g b → t < 8 → HasGoodWindow b → length b < head_size t g → IsViable SpellsApdu b → IsRefused b (record { place = length b; why = Short })
short_within t g [] h e low good short v = absurd (omega (arith, h.0))
short_within t g (o ∷ b) h e low good short v = record {
  refused = λ _. whole_short SpellsApdu (o ∷ b) v (λ x s. too_short t g x o b h.1 e short s);
  memory = λ w. absurd (let i : Short ≡ OutOfMemory = w in cc);
  reasoned = reasoned t (o ∷ b) (record { place = length (o ∷ b); why = Short }) h low good (inr (inr tt));
}

-- octets that end within a head, which goes on with so many
pub ends_within : (t g n : ℕ) (b : List ℕ) → HasType t b → HasSeg g b → t < 8 → HasGoodWindow b → length b ≤ n → length b < head_size t g → IsViable SpellsApdu (filled n b) → IsRefused b (record { place = length b; why = Short })
ends_within t g n b h e low good le short v = short_within t g b h e low good short (filled_viable SpellsApdu n b le v)

-- memory is refused only of what is large
pub memory_refused : (t g : ℕ) (b : List ℕ) → HasType t b → HasSeg g b → t < 8 → HasGoodWindow b → small_of t g b ≡ false → IsRefused b (record { place = 0; why = OutOfMemory })
memory_refused t g b h f low good large = record { refused = λ w. absurd (w refl); memory = λ _. (refl, begins_small_as t g b h f ∙ large); reasoned = reasoned t b (record { place = 0; why = OutOfMemory }) h low good (inl refl) }

-- ---- octets that begin no APDU

nothing_begins : IsViable SpellsApdu []
nothing_begins = record { value = reject 0 0; rest = 96 ∷ 0 ∷ 0 ∷ []; spelled = ((refl, tt, tt, tt, tt), ((refl, omega arith), ((refl, omega arith), refl))) }

pub nothing_refused : (b : List ℕ) → length b < 1 → IsRefused b (record { place = length b; why = Short })
nothing_refused [] lt = record {
  refused = λ _. whole_short SpellsApdu [] nothing_begins nothing_spells;
  memory = λ w. absurd (let i : Short ≡ OutOfMemory = w in cc);
  reasoned = record {
    of_type = (λ e. absurd (let i : Short ≡ PduType = e in cc), λ p. absurd (omega (arith, p.1)));
    of_window = (λ e. absurd (let i : Short ≡ Window = e in cc), λ p. absurd (omega (arith, p.1)));
    others = inr (inr (inr (inr tt)));
  };
}
nothing_refused (o ∷ b) lt = absurd (omega arith)

not_none : (o : Option ℕ) (n : ℕ) → o ≡ None → o ≡ Some n → ⊥
not_none o n e f = let i : Some n ≡ None = sym f ∙ e in cc

not_zero : (n : ℕ) → Some (suc n) ≡ Some 0 → ⊥
not_zero n e = let i : suc n ≡ 0 = (let j : Some (suc n) ≡ Some 0 = e in cc) in omega (arith, i)

-- a window is never the first octet
abbrev pub NotFirst : HeadRow → Type 0
NotFirst r = r.window ≡ Some 0 → ⊥

abbrev pub NoneFirst : List HeadRow → Type 0
NoneFirst [] = Unit {0}
NoneFirst (r ∷ heads) = NotFirst r × NoneFirst heads

first_of : (is_it : Bool) (r : HeadRow) (others : Option HeadRow) → NotFirst r → (window_of others ≡ Some 0 → ⊥) → window_of (cond is_it (Some r) others) ≡ Some 0 → ⊥
first_of true r others not_it none e = not_it e
first_of false r others not_it none e = none e

none_first : (heads : List HeadRow) → NoneFirst heads → (t g : ℕ) → window_of (row_among heads t g) ≡ Some 0 → ⊥
none_first [] n t g e = not_none None 0 refl e
none_first (r ∷ heads) n t g e = first_of (nat_eq r.type t && has_seg r.seg g) r (row_among heads t g) n.0 (none_first heads n.1 t g) e

no_window : ◌≡◌ {A = Option ℕ} None (Some 0) → ⊥
no_window e = not_none None 0 refl e

no_window_first : (t g : ℕ) → window_place t g ≡ Some 0 → ⊥
no_window_first = none_first rows (no_window, (not_zero 3, (no_window, (no_window, (no_window, (not_zero 2, (not_zero 2, (no_window, (no_window, (no_window, tt))))))))))

pub type_refused : (b : List ℕ) → 1 ≤ length b → 8 ≤ type_at (slice_index b 0) → IsRefused b (record { place = 0; why = PduType })
type_refused [] le high = absurd (omega arith)
type_refused (o ∷ b) le high = record {
  refused = λ _. whole_hopeless SpellsApdu [] o b PduType (λ e. let f : PduType ≡ Short = e in cc) (λ e. let f : PduType ≡ Trailing = e in cc) nothing_begins nothing_spells
      (λ x c s. let low = (told x o c s).low in omega (arith, low, high));
  memory = λ w. absurd (let i : PduType ≡ OutOfMemory = w in cc);
  reasoned = record {
    of_type = (λ e. (refl, omega arith, high), λ p. refl);
    of_window = (λ e. absurd (let i : PduType ≡ Window = e in cc), λ p. absurd (no_window_first (type_at o) (seg_at o) p.0));
    others = inl refl;
  };
}
