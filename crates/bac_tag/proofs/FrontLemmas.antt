-- Reading the front of an expected head: the initial octet and the number octet.
use Rattle.std.proofs.Common.{◌≡◌, ℕ, ◌+◌, ◌*◌, ◌<◌, ◌≤◌, ◌⊎◌, inl, inr, Bool, true, false, Option, None, Some, List, [], ◌∷◌, ◌++◌, length, get_or, refl, sym, ap, subst, ◌∙◌, append-nil, arith}
use Rattle.std.specs.Prelude.{IfSome}
use Rattle.bac_tag.specs.declared.refusals.Why.{Why}
use Rattle.bac_tag.specs.declared.refusals.Why.TheVariants.{Short}
use Rattle.bac_tag.specs.declared.reading.Front.{Front}
use Rattle.bac_tag.specs.declared.expecting.Expected.{Expected}
use Rattle.bac_tag.specs.declared.expecting.Expected.TheVariants as expected
use Rattle.bac_tag.specs.Spelling.{IsViable, IsRefusal}
use Rattle.bac_tag.specs.Laws.Spelling.{refused_at_first, short_at_start}
use Rattle.bac_tag.specs.Heads.{NumberForm, in_nibble, in_octet, numbers, nibble_of, number_octets, class_bit}
use Rattle.bac_tag.specs.Laws.Heads.{initial_parts, head_is, tail_is, class_bit_below, class_bit_one}
use Rattle.bac_tag.specs.Expected.{HasNumber, IsSound}
use Rattle.bac_tag.specs.Reading.{IsUsed, Uses, number_or_zero, example_of, IsFront}

-- ---- what is used

pub context_uses : (c : Bool) (n l : ℕ) → c ≡ true → n ≤ 254 → l < 8 → IsUsed c n l
context_uses false n l e p q = absurd cc
context_uses true n l e p q = (p, q)

pub application_uses : (c : Bool) (n l : ℕ) → c ≡ false → n ≤ 12 → l < 6 → (n ≡ 1 → l < 2) → IsUsed c n l
application_uses false n l e p q r = (p, q, r)
application_uses true n l e p q r = absurd cc

-- what an expected head has some valid head has
pub uses_used : (e : Expected) (c : Bool) (n l : ℕ) → IsSound e → Uses e c n l → IsUsed c n l
uses_used expected.AnyHead c n l s u = u
uses_used (expected.App m least most) c n l s u = application_uses c n l u.0 (omega (arith, s.0, u.1)) (omega (arith, u.2.0)) (λ one. absurd (s.1 (sym u.1 ∙ one)))
uses_used expected.AppBool c n l s u = application_uses c n l u.0 (omega (arith, u.1)) (omega (arith, u.2)) (λ one. u.2)
uses_used (expected.Ctx m least most) c n l s u = context_uses c n l u.0 u.2 (omega (arith, u.3.0))
uses_used (expected.Open m) c n l s u = context_uses c n l u.0 u.2 (omega (arith, u.3))
uses_used (expected.Close m) c n l s u = context_uses c n l u.0 u.2 (omega (arith, u.3))

pub used_lvt : (c : Bool) (n l : ℕ) → IsUsed c n l → l < 8
used_lvt false n l u = omega (arith, u.1)
used_lvt true n l u = u.1

pub used_number : (c : Bool) (n l : ℕ) → IsUsed c n l → n < 255
used_number false n l u = omega (arith, u.0)
used_number true n l u = omega (arith, u.0)

named_or_zero : (m : Option ℕ) → IfSome m (λ number. number ≤ 254) → HasNumber m (number_or_zero m) × (number_or_zero m ≤ 254)
named_or_zero None s = (tt, omega arith)
named_or_zero (Some m) s = (refl, s)

zero_used : (c : Bool) (n l : ℕ) → IsUsed c n l → IsUsed c 0 l
zero_used false n l u = (omega arith, u.1, λ e. absurd (omega arith))
zero_used true n l u = (omega arith, u.1)

-- where some number is used, the example is
pub example_used : (e : Expected) (c : Bool) (n l : ℕ) → IsSound e → Uses e c n l → Uses e c (example_of e) l
example_used expected.AnyHead c n l s u = zero_used c n l u
example_used (expected.App m least most) c n l s u = (u.0, refl, u.2)
example_used expected.AppBool c n l s u = (u.0, refl, u.2)
example_used (expected.Ctx m least most) c n l s u = let h = named_or_zero m s.0 in (u.0, h.0, h.1, u.3)
example_used (expected.Open m) c n l s u = let h = named_or_zero m s in (u.0, h.0, h.1, u.3)
example_used (expected.Close m) c n l s u = let h = named_or_zero m s in (u.0, h.0, h.1, u.3)

uses_along : (e : Expected) (c d : Bool) (n m l k : ℕ) → c ≡ d → n ≡ m → l ≡ k → Uses e c n l → Uses e d m k
uses_along e c d n m l k p q r u = subst (λ (z : Bool). Uses e z m k) p (subst (λ (z : ℕ). Uses e c z k) q (subst (λ (z : ℕ). Uses e c n z) r u))

-- The front that an initial octet begins has its number in the nibble, or in the octet behind a nibble of 15.
abbrev pub Starts : Expected → ℕ → Bool → ℕ → List ℕ → Type 0
Starts e nibble context lvt t = ((nibble < 15) × Uses e context nibble lvt) ⊎ ((n : ℕ) × (s : List ℕ) × (nibble ≡ 15) × (t ≡ n ∷ s) × Uses e context n lvt)

starts_by : (e : Expected) (f : NumberForm) (x : Front) (o nibble lvt : ℕ) (context : Bool) (t r : List ℕ) → IsSound e → o ≡ 16 * nibble + 8 * class_bit context + lvt → lvt < 8
    → Uses e x.context x.number x.lvt → x.number < numbers f
    → o ∷ t ≡ ((16 * nibble_of f x.number + 8 * class_bit x.context + x.lvt) ∷ number_octets f x.number) ++ r → Starts e nibble context lvt t
starts_by e in_nibble x o nibble lvt context t r s p q u lt is =
    let l = used_lvt x.context x.number x.lvt (uses_used e x.context x.number x.lvt s u) in
    let h = initial_parts x.number (class_bit x.context) x.lvt nibble (class_bit context) lvt (class_bit_below _) (class_bit_below _) l q (sym (head_is o _ t r is) ∙ p) in
    inl (omega (arith, h.0), uses_along e x.context context x.number nibble x.lvt lvt (class_bit_one _ _ h.1) h.0 h.2 u)
starts_by e in_octet x o nibble lvt context t r s p q u lt is =
    let l = used_lvt x.context x.number x.lvt (uses_used e x.context x.number x.lvt s u) in
    let h = initial_parts 15 (class_bit x.context) x.lvt nibble (class_bit context) lvt (class_bit_below _) (class_bit_below _) l q (sym (head_is o _ t (x.number ∷ r) is) ∙ p) in
    inr (x.number, r, sym h.0, tail_is o _ t (x.number ∷ r) is, uses_along e x.context context x.number x.number x.lvt lvt (class_bit_one _ _ h.1) refl h.2 u)

pub starts : (e : Expected) (x : Front) (b : List ℕ) (o nibble lvt : ℕ) (context : Bool) (t r : List ℕ) → IsSound e → o ≡ 16 * nibble + 8 * class_bit context + lvt → lvt < 8
    → IsFront e x b → o ∷ t ≡ b ++ r → Starts e nibble context lvt t
starts e x b o nibble lvt context t r s p q f is =
    starts_by e f.opening.form x o nibble lvt context t r s p q f.used f.opening.fits (is ∙ ap (λ (z : List ℕ). z ++ r) f.opening.octets)

-- ---- what is viable

pub front_not_empty : (e : Expected) (x : Front) → IsFront e x [] → ⊥
front_not_empty e x f = absurd (omega (arith, ap length f.opening.octets))

-- some front is expected
some_front : (e : Expected) → IsSound e → (c : Bool) × (l : ℕ) × Uses e c (example_of e) l
some_front expected.AnyHead s = (true, 0, (omega arith, omega arith))
some_front (expected.App m least most) s = (false, 5, (refl, refl, (omega arith, λ ne. absurd (ne refl))))
some_front expected.AppBool s = (false, 0, (refl, refl, omega arith))
some_front (expected.Ctx m least most) s = let h = named_or_zero m s.0 in (true, 5, (refl, h.0, h.1, (omega arith, λ ne. absurd (ne refl))))
some_front (expected.Open m) s = let h = named_or_zero m s in (true, 6, (refl, h.0, h.1, refl))
some_front (expected.Close m) s = let h = named_or_zero m s in (true, 7, (refl, h.0, h.1, refl))

front_in_octet : (e : Expected) (c : Bool) (n l : ℕ) → IsSound e → Uses e c n l → IsFront e (record { context = c; number = n; lvt = l }) ((16 * 15 + 8 * class_bit c + l) ∷ n ∷ [])
front_in_octet e c n l s u = record { used = u; opening = record { form = in_octet; fits = used_number c n l (uses_used e c n l s u); octets = refl } }

pub front_viable : (e : Expected) → IsSound e → IsViable (IsFront e) []
front_viable e s = let f = some_front e s in
    record { value = record { context = f.0; number = example_of e; lvt = f.1 }; rest = (16 * 15 + 8 * class_bit f.0 + f.1) ∷ example_of e ∷ []; spelled = front_in_octet e f.0 (example_of e) f.1 s f.2 }

viable_one : (e : Expected) (o lvt : ℕ) (context : Bool) → IsSound e → o ≡ 16 * 15 + 8 * class_bit context + lvt → Uses e context (example_of e) lvt → IsViable (IsFront e) (o ∷ [])
viable_one e o lvt context s p u = record {
  value = record { context = context; number = example_of e; lvt = lvt };
  rest = example_of e ∷ [];
  spelled = subst (λ (z : ℕ). IsFront e (record { context = context; number = example_of e; lvt = lvt }) (z ∷ example_of e ∷ [])) (sym p) (front_in_octet e context (example_of e) lvt s u);
}

-- ---- refusals

pub short_at_first : (e : Expected) (xs : List ℕ) → IsSound e → length xs ≡ 0 → IsRefusal (IsFront e) xs (record { place = 0; why = Short })
short_at_first e [] s len = short_at_start (IsFront e) (front_viable e s) (front_not_empty e)
short_at_first e (o ∷ t) s len = absurd (omega arith)

-- no front begins with this octet
pub hopeless_first : (e : Expected) (xs : List ℕ) (o nibble lvt : ℕ) (context : Bool) (why : Why) → IsSound e → (why ≡ Short → ⊥) → 0 < length xs → o ≡ get_or xs 0 0
    → o ≡ 16 * nibble + 8 * class_bit context + lvt → lvt < 8 → ((t : List ℕ) → Starts e nibble context lvt t → ⊥)
    → IsRefusal (IsFront e) xs (record { place = 0; why = why })
hopeless_first e [] o nibble lvt context why s w long is p q bad = absurd (omega arith)
hopeless_first e (i ∷ t) o nibble lvt context why s w long is p q bad =
    refused_at_first (IsFront e) i t why w (front_viable e s) (front_not_empty e)
    (λ x b f. bad b (starts e x (i ∷ b) i nibble lvt context b [] s (sym is ∙ p) q f (sym (append-nil (i ∷ b)))))

pub short_at_second : (e : Expected) (xs : List ℕ) (o nibble lvt : ℕ) (context : Bool) → IsSound e → length xs ≡ 1 → o ≡ get_or xs 0 0
    → o ≡ 16 * nibble + 8 * class_bit context + lvt → lvt < 8 → nibble ≡ 15 → Uses e context (example_of e) lvt
    → IsRefusal (IsFront e) xs (record { place = 1; why = Short })
short_at_second e [] o nibble lvt context s len is p q full used = absurd (omega arith)
short_at_second e (i ∷ n ∷ t) o nibble lvt context s len is p q full used = absurd (omega arith)
short_at_second e (i ∷ []) o nibble lvt context s len is p q full used = record {
  none = λ x b rest eq f. elim (starts e x b i nibble lvt context [] rest s (sym is ∙ p) q f eq) [ inl h ↦ absurd (omega (arith, h.0)) | inr h ↦ absurd (omega (arith, ap length h.3)) ];
  furthest = record {
    within = omega arith;
    begins = viable_one e i lvt context s (omega arith) used;
    ends = λ lt v. absurd (omega arith);
  };
  short = (λ _. refl, λ _. refl);
}

pub hopeless_second : (e : Expected) (xs : List ℕ) (o n nibble lvt : ℕ) (context : Bool) (why : Why) → IsSound e → (why ≡ Short → ⊥) → 1 < length xs → o ≡ get_or xs 0 0 → n ≡ get_or xs 1 0
    → o ≡ 16 * nibble + 8 * class_bit context + lvt → lvt < 8 → nibble ≡ 15 → Uses e context (example_of e) lvt → (Uses e context n lvt → ⊥)
    → IsRefusal (IsFront e) xs (record { place = 1; why = why })
hopeless_second e [] o n nibble lvt context why s w long is n-is p q full used bad = absurd (omega arith)
hopeless_second e (i ∷ []) o n nibble lvt context why s w long is n-is p q full used bad = absurd (omega arith)
hopeless_second e (i ∷ m ∷ t) o n nibble lvt context why s w long is n-is p q full used bad = record {
  none = λ x b rest eq f. unused (m ∷ t) t refl (starts e x b i nibble lvt context (m ∷ t) rest s (sym is ∙ p) q f eq);
  furthest = record {
    within = omega arith;
    begins = viable_one e i lvt context s (omega arith) used;
    ends = λ lt v. unused (m ∷ v.rest) v.rest refl (starts e v.value (i ∷ m ∷ v.rest) i nibble lvt context (m ∷ v.rest) [] s (sym is ∙ p) q v.spelled (sym (append-nil (i ∷ m ∷ v.rest))));
  };
  short = (λ eq. absurd (w eq), λ eq. absurd (omega arith));
}
  where
    unused : (s r : List ℕ) → s ≡ m ∷ r → Starts e nibble context lvt s → ⊥
    unused s r eq h = elim h [
      | inl k ↦ absurd (omega (arith, k.0))
      | inr k ↦ bad (subst (λ (z : ℕ). Uses e context z lvt) (head_is k.0 m k.1 r (sym k.3 ∙ eq) ∙ sym n-is) k.4)
    ]

-- Neither the nibble nor the example is used: nothing starts.
pub nothing_starts : (e : Expected) (nibble lvt number : ℕ) (context : Bool) → IsSound e → (nibble < 15 → number ≡ nibble) → (nibble ≡ 15 → number ≡ example_of e)
    → (Uses e context number lvt → ⊥) → (t : List ℕ) → Starts e nibble context lvt t → ⊥
nothing_starts e nibble lvt number context s low full unused t h = elim h [
  | inl k ↦ unused (subst (λ (z : ℕ). Uses e context z lvt) (sym (low k.0)) k.1)
  | inr k ↦ unused (subst (λ (z : ℕ). Uses e context z lvt) (sym (full k.2)) (example_used e context k.0 lvt s k.4))
]
