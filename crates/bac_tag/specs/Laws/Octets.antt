-- NoGreater is an order that joining keeps; octets, marks.
use Rattle.std.proofs.Common.{◌≡◌, ℕ, zero, suc, ◌+◌, ◌-◌, ◌<◌, ◌≤◌, inl, inr, List, [], ◌∷◌, ◌++◌, length, get_or, take, drop, replicate, Option, None, Some, refl, sym, ap, ◌∙◌, arith}
use Rattle.std.proofs.Math.Seq.{take-append-add}
use Rattle.std.proofs.lemmas.Bool.{cases_lt}
use Rattle.std.proofs.lemmas.List.{length-append, get_or_append_left, get_or-append_right, get_or-append-add, ext_get_or, length-replicate, take-append-le, take_all}
use Rattle.std.specs.Prelude.{IfNone, IfSome, slice_get}
use Rattle.std.proofs.lemmas.Option.{slice_get-get_or}
use Rattle.std.proofs.lemmas.List.Elements.{recursion_from_All, All-from_get_or, All-from_recursion, All-take, All-drop}
use Rattle.bac_tag.specs.Octets.{IsOctets, NoGreater, FirstDifference, IsMark, joined_mark}

-- ---- the order

pub NoGreater-refl : (b : List ℕ) → NoGreater b b
NoGreater-refl b = inr (refl, λ k h. omega arith)

pub NoGreater-same : (b c : List ℕ) → b ≡ c → NoGreater b c
NoGreater-same b c e = rw e (NoGreater-refl c)

-- what is no longer, and the same where it is as long
pub NoGreater-by_length : (b c : List ℕ) → length b ≤ length c → (length b ≡ length c → b ≡ c) → NoGreater b c
NoGreater-by_length b c le same = elim (cases_lt (length b) (length c)) [
  | inl shorter ↦ inl shorter
  | inr longer ↦ NoGreater-same b c (same (omega arith))
]

pub NoGreater-trans : (b c d : List ℕ) → NoGreater b c → NoGreater c d → NoGreater b d
NoGreater-trans b c d (inl p) (inl q) = inl (omega arith)
NoGreater-trans b c d (inl p) (inr q) = inl (omega (arith, q.0))
NoGreater-trans b c d (inr p) (inl q) = inl (omega (arith, p.0))
NoGreater-trans b c d (inr p) (inr q) = inr (omega (arith, p.0, q.0), λ k h. omega (arith, p.0, p.1 k h, q.1 k (omega (arith, p.0))))

pub NoGreater-antisym : (b c : List ℕ) → NoGreater b c → NoGreater c b → b ≡ c
NoGreater-antisym b c (inl p) (inl q) = absurd (omega arith)
NoGreater-antisym b c (inl p) (inr q) = absurd (omega (arith, q.0))
NoGreater-antisym b c (inr p) (inl q) = absurd (omega (arith, p.0))
NoGreater-antisym b c (inr p) (inr q) = ext_get_or 0 b c p.0 (λ k h. omega (arith, p.1 k h, q.1 k (omega (arith, p.0))))

pub NoGreater-length : (b c : List ℕ) → NoGreater b c → length b ≤ length c
NoGreater-length b c (inl p) = omega arith
NoGreater-length b c (inr p) = omega (arith, p.0)

-- at a place of two joined lists
joined_at : (a b c d : List ℕ) → length a ≡ length b → ((k : ℕ) → k < length a → get_or a k 0 ≤ get_or b k 0) → ((k : ℕ) → k < length c → get_or c k 0 ≤ get_or d k 0) → (k : ℕ) → k < length (a ++ c) → get_or (a ++ c) k 0 ≤ get_or (b ++ d) k 0
joined_at a b c d e p q k h =
    elim (cases_lt k (length a)) [
      | inl lt ↦ omega (arith, p k lt, get_or_append_left a c 0 k lt, get_or_append_left b d 0 k (omega arith))
      | inr le ↦ omega (arith, q (k - length a) (omega (arith, length-append a c)), get_or-append_right a c (length a) k 0 refl le, get_or-append_right b d (length a) k 0 (sym e) le)
    ]

pub NoGreater-append : (a b c d : List ℕ) → NoGreater a b → NoGreater c d → NoGreater (a ++ c) (b ++ d)
NoGreater-append a b c d (inl p) (inl q) = inl (omega (arith, length-append a c, length-append b d))
NoGreater-append a b c d (inl p) (inr q) = inl (omega (arith, q.0, length-append a c, length-append b d))
NoGreater-append a b c d (inr p) (inl q) = inl (omega (arith, p.0, length-append a c, length-append b d))
NoGreater-append a b c d (inr p) (inr q) = inr (omega (arith, p.0, q.0, length-append a c, length-append b d), joined_at a b c d p.0 p.1 q.1)

-- lists of one number each
pub one_no_greater : (m n : ℕ) → m ≤ n → NoGreater (m ∷ []) (n ∷ [])
one_no_greater m n le = inr (refl, at)
  where
    at : (k : ℕ) → k < 1 → get_or (m ∷ []) k 0 ≤ get_or (n ∷ []) k 0
    at k h = let e : k ≡ 0 = omega arith in rw e le

-- ---- octets

-- what the type of a slice says of its octets
pub octets_at : (octets : List ℕ) → ((k : ℕ) → get_or octets k 0 < 256) → IsOctets octets
octets_at octets small = recursion_from_All (λ x. x < 256) octets (All-from_get_or (λ x. x < 256) octets 0 (λ k _. small k))

-- each of them is below 256, and so is what is read past the end
pub octets_below : (octets : List ℕ) → IsOctets octets → (k : ℕ) → get_or octets k 0 < 256
octets_below [] h k = omega arith
octets_below (x ∷ xs) h zero = h.0
octets_below (x ∷ xs) h (suc k) = octets_below xs h.1 k

pub octets_take : (k : ℕ) (octets : List ℕ) → IsOctets octets → IsOctets (take k octets)
octets_take k octets h = recursion_from_All (λ x. x < 256) _ (All-take (λ x. x < 256) k octets (All-from_recursion (λ x. x < 256) octets h))

pub octets_drop : (k : ℕ) (octets : List ℕ) → IsOctets octets → IsOctets (drop k octets)
octets_drop k octets h = recursion_from_All (λ x. x < 256) _ (All-drop (λ x. x < 256) k octets (All-from_recursion (λ x. x < 256) octets h))

pub octets_append : (a b : List ℕ) → IsOctets a → IsOctets b → IsOctets (a ++ b)
octets_append [] b p q = q
octets_append (x ∷ xs) b p q = (p.0, octets_append xs b p.1 q)

pub octets_front : (a b : List ℕ) → IsOctets (a ++ b) → IsOctets a
octets_front [] b h = tt
octets_front (x ∷ xs) b h = (h.0, octets_front xs b h.1)

pub octets_back : (a b : List ℕ) → IsOctets (a ++ b) → IsOctets b
octets_back [] b h = h
octets_back (x ∷ xs) b h = octets_back xs b h.1

pub octets_replicate : (k : ℕ) → IsOctets (replicate k 0)
octets_replicate zero = tt
octets_replicate (suc k) = (omega arith, octets_replicate k)

-- zeros behind a front, up to a size
pub zeros_to : List ℕ → ℕ → List ℕ
zeros_to front size = replicate (size - length front) 0

pub octets_filled : (front : List ℕ) (size : ℕ) → IsOctets front → IsOctets (front ++ zeros_to front size)
unfolding zeros_to
octets_filled front size h = octets_append front (replicate (size - length front) 0) h (octets_replicate (size - length front))

pub length-filled : (front : List ℕ) (size : ℕ) → length front ≤ size → length (front ++ zeros_to front size) ≡ size
unfolding zeros_to
length-filled front size h = omega (arith, length-append front (replicate (size - length front) 0), length-replicate {A = ℕ} (size - length front) 0)

-- ---- where two lists differ

pub differs_at : (b c : List ℕ) (place : ℕ) → place < length b → place < length c → take place b ≡ take place c → (get_or b place 0 ≡ get_or c place 0 → ⊥) → FirstDifference b c place
differs_at b c place p q before differ =
    record { before = before; differ = λ e. differ (let f : Some (get_or b place 0) ≡ Some (get_or c place 0) = sym (slice_get-get_or b place 0 p) ∙ e ∙ slice_get-get_or c place 0 q in cc) }

pub differ_there : (b c : List ℕ) (place : ℕ) → place < length b → place < length c → FirstDifference b c place → get_or b place 0 ≡ get_or c place 0 → ⊥
differ_there b c place p q d e = d.differ (slice_get-get_or b place 0 p ∙ ap (λ (x : ℕ). Some x) e ∙ sym (slice_get-get_or c place 0 q))

-- lists that are as long differ at a place of both
pub mark_as_long : (a b : List ℕ) (place : ℕ) → length a ≡ length b → FirstDifference a b place → IsMark a b (Some place)
mark_as_long a b place long d = elim (cases_lt place (length a)) [
  | inl lt ↦ (lt, omega arith, d)
  | inr le ↦
      (let same : a ≡ b = sym (take_all place a le) ∙ d.before ∙ take_all place b (omega arith) in
      absurd (d.differ (ap (λ (l : List ℕ). slice_get l place) same)))
]

pub mark_by : (a b : List ℕ) (m : Option ℕ) → length a ≡ length b → IfNone m (a ≡ b) → IfSome m (FirstDifference a b) → IsMark a b m
mark_by a b None long none some = none
mark_by a b (Some place) long none some = mark_as_long a b place long some

-- a mark within the first of two parts is one of the whole
pub mark_first : (a b c d : List ℕ) (place : ℕ) → IsMark a c (Some place) → IsMark (a ++ b) (c ++ d) (Some place)
mark_first a b c d place h = (
  omega (arith, h.0, length-append a b),
  omega (arith, h.1, length-append c d),
  differs_at (a ++ b) (c ++ d) place (omega (arith, h.0, length-append a b)) (omega (arith, h.1, length-append c d))
      (take-append-le place a b (omega (arith, h.0)) ∙ h.2.before ∙ sym (take-append-le place c d (omega (arith, h.1))))
      (λ e. differ_there a c place h.0 h.1 h.2 (sym (get_or_append_left a b 0 place h.0) ∙ e ∙ get_or_append_left c d 0 place h.1)),
)

-- the mark of two parts joined
pub mark-append : (a b c d : List ℕ) (m o : Option ℕ) → IsMark a c m → IsMark b d o → IsMark (a ++ b) (c ++ d) (joined_mark m (length a) o)
mark-append a b c d None None h k = cc
mark-append a b c d (Some i) o h k = mark_first a b c d i h
mark-append a b c d None (Some i) h k =
    rw (← h) (
      omega (arith, k.0, length-append a b),
      omega (arith, k.1, length-append a d),
      differs_at (a ++ b) (a ++ d) (length a + i) (omega (arith, k.0, length-append a b)) (omega (arith, k.1, length-append a d))
          (take-append-add a b i ∙ ap (λ (l : List ℕ). a ++ l) k.2.before ∙ sym (take-append-add a d i))
          (λ e. differ_there b d i k.0 k.1 k.2 (sym (get_or-append-add a b i 0) ∙ e ∙ get_or-append-add a d i 0)),
    )
