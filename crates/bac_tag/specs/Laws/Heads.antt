-- Tag heads end themselves.
use Rattle.std.proofs.Common.{◌≡◌, ℕ, ◌+◌, ◌*◌, ◌^◌, ◌<◌, ◌⊎◌, inl, inr, Bool, true, false, List, [], ◌∷◌, ◌++◌, get_or, refl, sym, ap, subst, ◌∙◌, append_assoc, arith}
use Rattle.std.proofs.lemmas.List.{append_cancel_left}
use Rattle.bac_tag.specs.declared.heads.TagHead.{TagHead}
use Rattle.bac_tag.specs.declared.heads.TagHead.TheVariants.{App, AppBool, Ctx, Open, Close}
use Rattle.bac_tag.specs.Spelling.{EndsItself}
use Rattle.bac_tag.specs.Heads.{IsValid, class_bit, class_of, number_of, NumberForm, in_nibble, in_octet, numbers, nibble_of, number_octets, LengthForm, in_lvt, one_octet, two_octets, four_octets, lengths, lvt_of, length_octets, Opening, LengthIn, Ending, Heads}

-- ---- lists by their cells

pub head_is : (a b : ℕ) (r s : List ℕ) → a ∷ r ≡ b ∷ s → a ≡ b
head_is a b r s e = cc

pub tail_is : (a b : ℕ) (r s : List ℕ) → a ∷ r ≡ b ∷ s → r ≡ s
tail_is a b r s e = cc

-- ---- openings

-- the parts of an initial octet
pub initial_parts : (a c l b d m : ℕ) → c < 2 → d < 2 → l < 8 → m < 8 → 16 * a + 8 * c + l ≡ 16 * b + 8 * d + m → (a ≡ b) × (c ≡ d) × (l ≡ m)
initial_parts a c l b d m p q r s e = (omega arith, omega arith, omega arith)

pub record SameOpening (c n l d m k : ℕ) (a b : List ℕ) : Type 0 where
  pub class : c ≡ d
  pub number : n ≡ m
  pub lvt : l ≡ k
  pub octets : a ≡ b

openings : (f g : NumberForm) (c n l d m k : ℕ) (r s : List ℕ) → c < 2 → d < 2 → l < 8 → k < 8 → n < numbers f → m < numbers g
    → ((16 * nibble_of f n + 8 * c + l) ∷ number_octets f n) ++ r ≡ ((16 * nibble_of g m + 8 * d + k) ∷ number_octets g m) ++ s
    → SameOpening c n l d m k ((16 * nibble_of f n + 8 * c + l) ∷ number_octets f n) ((16 * nibble_of g m + 8 * d + k) ∷ number_octets g m)
openings in_nibble in_nibble c n l d m k r s p q u v x y e =
    let h = initial_parts n c l m d k p q u v (head_is _ _ r s e) in
    record { class = h.1; number = h.0; lvt = h.2; octets = ap (λ (z : ℕ). z ∷ []) (head_is _ _ r s e) }
openings in_nibble in_octet c n l d m k r s p q u v x y e =
    absurd (omega (arith, (initial_parts n c l 15 d k p q u v (head_is _ _ r (m ∷ s) e)).0))
openings in_octet in_nibble c n l d m k r s p q u v x y e =
    absurd (omega (arith, (initial_parts 15 c l m d k p q u v (head_is _ _ (n ∷ r) s e)).0))
openings in_octet in_octet c n l d m k r s p q u v x y e =
    let h = initial_parts 15 c l 15 d k p q u v (head_is _ _ (n ∷ r) (m ∷ s) e) in
    let t : n ≡ m = head_is n m r s (tail_is _ _ (n ∷ r) (m ∷ s) e) in
    record { class = h.1; number = t; lvt = h.2; octets = cc }

pub openings_end : (c n l d m k : ℕ) (a b r s : List ℕ) → c < 2 → d < 2 → l < 8 → k < 8 → Opening c n l a → Opening d m k b → a ++ r ≡ b ++ s → SameOpening c n l d m k a b
openings_end c n l d m k a b r s p q u v o w e =
    let same = openings o.form w.form c n l d m k r s p q u v o.fits w.fits (ap (λ (t : List ℕ). t ++ r) (sym o.octets) ∙ e ∙ ap (λ (t : List ℕ). t ++ s) w.octets) in
    record { class = same.class; number = same.number; lvt = same.lvt; octets = o.octets ∙ same.octets ∙ sym w.octets }

-- ---- lengths

length_forms : (f g : LengthForm) (n m : ℕ) (r s : List ℕ) → n < lengths f → m < lengths g → lvt_of f n ≡ lvt_of g m
    → length_octets f n ++ r ≡ length_octets g m ++ s → (n ≡ m) × (length_octets f n ≡ length_octets g m)
length_forms in_lvt in_lvt n m r s p q v e = let h : n ≡ m = v in (h, ap (length_octets in_lvt) h)
length_forms in_lvt one_octet n m r s p q v e = absurd (omega arith)
length_forms in_lvt two_octets n m r s p q v e = absurd (omega arith)
length_forms in_lvt four_octets n m r s p q v e = absurd (omega arith)
length_forms one_octet in_lvt n m r s p q v e = absurd (omega arith)
length_forms one_octet one_octet n m r s p q v e = let h : n ≡ m = head_is n m r s e in (h, ap (length_octets one_octet) h)
length_forms one_octet two_octets n m r s p q v e = absurd (omega (arith, ap (λ (t : List ℕ). get_or t 0 0) e))
length_forms one_octet four_octets n m r s p q v e = absurd (omega (arith, ap (λ (t : List ℕ). get_or t 0 0) e))
length_forms two_octets in_lvt n m r s p q v e = absurd (omega arith)
length_forms two_octets one_octet n m r s p q v e = absurd (omega (arith, ap (λ (t : List ℕ). get_or t 0 0) e))
length_forms two_octets two_octets n m r s p q v e = let h : n ≡ m = omega (arith, ap (λ (t : List ℕ). get_or t 1 0) e, ap (λ (t : List ℕ). get_or t 2 0) e) in (h, ap (length_octets two_octets) h)
length_forms two_octets four_octets n m r s p q v e = absurd (omega (arith, ap (λ (t : List ℕ). get_or t 0 0) e))
length_forms four_octets in_lvt n m r s p q v e = absurd (omega arith)
length_forms four_octets one_octet n m r s p q v e = absurd (omega (arith, ap (λ (t : List ℕ). get_or t 0 0) e))
length_forms four_octets two_octets n m r s p q v e = absurd (omega (arith, ap (λ (t : List ℕ). get_or t 0 0) e))
length_forms four_octets four_octets n m r s p q v e = let h : n ≡ m = omega (arith, ap (λ (t : List ℕ). get_or t 1 0) e, ap (λ (t : List ℕ). get_or t 2 0) e, ap (λ (t : List ℕ). get_or t 3 0) e, ap (λ (t : List ℕ). get_or t 4 0) e) in (h, ap (length_octets four_octets) h)

pub lengths_end : (n m l : ℕ) (a b r s : List ℕ) → LengthIn n l a → LengthIn m l b → a ++ r ≡ b ++ s → (n ≡ m) × (a ≡ b)
lengths_end n m l a b r s p q e =
    let same = length_forms p.form q.form n m r s p.fits q.fits (sym p.lvt_is ∙ q.lvt_is) (ap (λ (t : List ℕ). t ++ r) (sym p.octets) ∙ e ∙ ap (λ (t : List ℕ). t ++ s) q.octets) in
    (same.0, p.octets ∙ same.1 ∙ sym q.octets)

-- the LVT of a length is below 6
LengthIn-lvt : (f : LengthForm) (n l : ℕ) → n < lengths f → l ≡ lvt_of f n → l < 6
LengthIn-lvt in_lvt n l p e = omega arith
LengthIn-lvt one_octet n l p e = omega arith
LengthIn-lvt two_octets n l p e = omega arith
LengthIn-lvt four_octets n l p e = omega arith

pub length_lvt : (n l : ℕ) (b : List ℕ) → LengthIn n l b → l < 6
length_lvt n l b p = LengthIn-lvt p.form n l p.fits p.lvt_is

-- ---- heads

pub class_below : (h : TagHead) → class_of h < 2
class_below (App n len) = omega arith
class_below (AppBool v) = omega arith
class_below (Ctx n len) = omega arith
class_below (Open n) = omega arith
class_below (Close n) = omega arith

pub ending_lvt : (h : TagHead) (l : ℕ) (b : List ℕ) → Ending h l b → l < 8
ending_lvt (App n len) l b e = omega (arith, length_lvt len l b e)
ending_lvt (AppBool false) l b e = omega (arith, e.0)
ending_lvt (AppBool true) l b e = omega (arith, e.0)
ending_lvt (Ctx n len) l b e = omega (arith, length_lvt len l b e)
ending_lvt (Open n) l b e = omega (arith, e.0)
ending_lvt (Close n) l b e = omega (arith, e.0)

endings_end : (h k : TagHead) (l : ℕ) (a b r s : List ℕ) → IsValid h → IsValid k → class_of h ≡ class_of k → number_of h ≡ number_of k
    → Ending h l a → Ending k l b → a ++ r ≡ b ++ s → (a ≡ b) × (h ≡ k)
endings_end (App n x) (App m y) l a b r s v w c n-is p q e = let same = lengths_end x y l a b r s p q e in (same.1, cc)
endings_end (App n x) (AppBool false) l a b r s v w c n-is p q e = absurd (v.1 n-is)
endings_end (App n x) (AppBool true) l a b r s v w c n-is p q e = absurd (v.1 n-is)
endings_end (App n x) (Ctx m y) l a b r s v w c n-is p q e = absurd (omega arith)
endings_end (App n x) (Open m) l a b r s v w c n-is p q e = absurd (omega arith)
endings_end (App n x) (Close m) l a b r s v w c n-is p q e = absurd (omega arith)
endings_end (AppBool false) (App m y) l a b r s v w c n-is p q e = absurd (w.1 (sym n-is))
endings_end (AppBool false) (AppBool false) l a b r s v w c n-is p q e = (p.1 ∙ sym q.1, refl)
endings_end (AppBool false) (AppBool true) l a b r s v w c n-is p q e = absurd (omega (arith, p.0, q.0))
endings_end (AppBool false) (Ctx m y) l a b r s v w c n-is p q e = absurd (omega arith)
endings_end (AppBool false) (Open m) l a b r s v w c n-is p q e = absurd (omega arith)
endings_end (AppBool false) (Close m) l a b r s v w c n-is p q e = absurd (omega arith)
endings_end (AppBool true) (App m y) l a b r s v w c n-is p q e = absurd (w.1 (sym n-is))
endings_end (AppBool true) (AppBool false) l a b r s v w c n-is p q e = absurd (omega (arith, p.0, q.0))
endings_end (AppBool true) (AppBool true) l a b r s v w c n-is p q e = (p.1 ∙ sym q.1, refl)
endings_end (AppBool true) (Ctx m y) l a b r s v w c n-is p q e = absurd (omega arith)
endings_end (AppBool true) (Open m) l a b r s v w c n-is p q e = absurd (omega arith)
endings_end (AppBool true) (Close m) l a b r s v w c n-is p q e = absurd (omega arith)
endings_end (Ctx n x) (App m y) l a b r s v w c n-is p q e = absurd (omega arith)
endings_end (Ctx n x) (AppBool false) l a b r s v w c n-is p q e = absurd (omega arith)
endings_end (Ctx n x) (AppBool true) l a b r s v w c n-is p q e = absurd (omega arith)
endings_end (Ctx n x) (Ctx m y) l a b r s v w c n-is p q e = let same = lengths_end x y l a b r s p q e in (same.1, cc)
endings_end (Ctx n x) (Open m) l a b r s v w c n-is p q e = absurd (omega (arith, length_lvt x l a p, q.0))
endings_end (Ctx n x) (Close m) l a b r s v w c n-is p q e = absurd (omega (arith, length_lvt x l a p, q.0))
endings_end (Open n) (App m y) l a b r s v w c n-is p q e = absurd (omega arith)
endings_end (Open n) (AppBool false) l a b r s v w c n-is p q e = absurd (omega arith)
endings_end (Open n) (AppBool true) l a b r s v w c n-is p q e = absurd (omega arith)
endings_end (Open n) (Ctx m y) l a b r s v w c n-is p q e = absurd (omega (arith, length_lvt y l b q, p.0))
endings_end (Open n) (Open m) l a b r s v w c n-is p q e = (p.1 ∙ sym q.1, ap Open n-is)
endings_end (Open n) (Close m) l a b r s v w c n-is p q e = absurd (omega (arith, p.0, q.0))
endings_end (Close n) (App m y) l a b r s v w c n-is p q e = absurd (omega arith)
endings_end (Close n) (AppBool false) l a b r s v w c n-is p q e = absurd (omega arith)
endings_end (Close n) (AppBool true) l a b r s v w c n-is p q e = absurd (omega arith)
endings_end (Close n) (Ctx m y) l a b r s v w c n-is p q e = absurd (omega (arith, length_lvt y l b q, p.0))
endings_end (Close n) (Open m) l a b r s v w c n-is p q e = absurd (omega (arith, p.0, q.0))
endings_end (Close n) (Close m) l a b r s v w c n-is p q e = (p.1 ∙ sym q.1, ap Close n-is)

pub heads_end : EndsItself Heads
heads_end h k b c r s p q e =
    let parts : p.front ++ (p.back ++ r) ≡ q.front ++ (q.back ++ s) =
    sym (append_assoc p.front p.back r) ∙ ap (λ (t : List ℕ). t ++ r) (sym p.octets) ∙ e ∙ ap (λ (t : List ℕ). t ++ s) q.octets ∙ append_assoc q.front q.back s in
    let same = openings_end _ _ p.lvt _ _ q.lvt p.front q.front (p.back ++ r) (q.back ++ s) (class_below h) (class_below k)
    (ending_lvt h p.lvt p.back p.ending) (ending_lvt k q.lvt q.back q.ending) p.opening q.opening parts in
    let behind : p.back ++ r ≡ q.back ++ s = append_cancel_left p.front (p.back ++ r) (q.back ++ s) (parts ∙ ap (λ (t : List ℕ). t ++ (q.back ++ s)) (sym same.octets)) in
    let last = endings_end h k p.lvt p.back q.back r s p.valid q.valid same.class same.number p.ending (subst (λ (l : ℕ). Ending k l q.back) (sym same.lvt) q.ending) behind in
    (p.octets ∙ ap (λ (t : List ℕ). t ++ p.back) same.octets ∙ ap (λ (t : List ℕ). q.front ++ t) last.0 ∙ sym q.octets, last.1)

-- ---- the bit of the class

pub class_bit_below : (c : Bool) → class_bit c < 2
class_bit_below false = omega arith
class_bit_below true = omega arith

pub class_bit_one : (c d : Bool) → class_bit c ≡ class_bit d → c ≡ d
class_bit_one false false e = refl
class_bit_one false true e = absurd (omega arith)
class_bit_one true false e = absurd (omega arith)
class_bit_one true true e = refl

-- a length is its LVT, or stands under LVT 5
lvt_is_by : (f : LengthForm) (n l : ℕ) → l ≡ lvt_of f n → (l ≡ n) ⊎ (l ≡ 5)
lvt_is_by in_lvt n l e = inl e
lvt_is_by one_octet n l e = inr e
lvt_is_by two_octets n l e = inr e
lvt_is_by four_octets n l e = inr e

pub lvt_is_length : (n l : ℕ) (b : List ℕ) → LengthIn n l b → (l ≡ n) ⊎ (l ≡ 5)
lvt_is_length n l b p = lvt_is_by p.form n l p.lvt_is

-- the length of a spelling is that of a u32
below_form : (f : LengthForm) (n : ℕ) → n < lengths f → n < 2 ^ 32
below_form in_lvt n lt = omega arith
below_form one_octet n lt = omega arith
below_form two_octets n lt = omega arith
below_form four_octets n lt = omega arith

pub length_below : (n l : ℕ) (b : List ℕ) → LengthIn n l b → n < 2 ^ 32
length_below n l b p = below_form p.form n p.fits
