-- What is written is least.
use Rattle.std.proofs.Common.{◌≡◌, ℕ, ◌+◌, ◌*◌, ◌%◌, ◌^◌, ◌<◌, ◌≤◌, ◌⊎◌, inl, inr, Bool, true, false, cond, ltb, List, [], ◌∷◌, ◌++◌, length, refl, sym, ap, ◌∙◌, arith, bit_or}
use mir.Val.{bool_byte}
use Rattle.std.proofs.lemmas.Bool.{cases_lt, lt-ltb, le-ltb}
use Rattle.std.proofs.lemmas.List.{append-nil, length-append}
use Rattle.std.proofs.lemmas.Nat.{or_shifted}
use Rattle.bac_tag.specs.declared.heads.TagHead.{TagHead}
use Rattle.bac_tag.specs.declared.heads.TagHead.TheVariants.{App, AppBool, Ctx, Open, Close}
use Rattle.bac_tag.specs.Octets.{NoGreater}
use Rattle.bac_tag.specs.Spelling.{IsLeast}
use Rattle.bac_tag.specs.Heads.{IsValid, class_bit, class_of, number_of, NumberForm, in_nibble, in_octet, numbers, nibble_of, number_octets, LengthForm, in_lvt, one_octet, two_octets, four_octets, lengths, lvt_of, length_octets, Opening, LengthIn, Ending, Heads, LengthFits}
use Rattle.bac_tag.specs.Writing.{number_form, length_form, narrow_opening, narrow_head}
use Rattle.bac_tag.specs.Laws.Octets.{NoGreater-same}
use Rattle.bac_tag.specs.Laws.Spelling.{IsLeast-one}

pub initial_bits : (n c l : ℕ) → n < 16 → c < 2 → l < 8 → bit_or (bit_or (n * 16 % 256) (c * 8 % 256)) l ≡ 16 * n + 8 * c + l
initial_bits n c l p q r =
    let a : n * 16 % 256 ≡ n * 2 ^ 4 = omega arith in
    let b : c * 8 % 256 ≡ c * 8 = omega arith in
    let d : n * 2 ^ 4 + c * 8 ≡ (2 * n + c) * 2 ^ 3 = omega arith in
    ap (λ (z : ℕ). bit_or (bit_or z (c * 8 % 256)) l) a ∙ ap (λ (z : ℕ). bit_or (bit_or (n * 2 ^ 4) z) l) b
    ∙ ap (λ (z : ℕ). bit_or z l) (or_shifted n 4 (c * 8) (omega arith) ∙ d) ∙ or_shifted (2 * n + c) 3 l (omega arith) ∙ omega arith

-- ---- the narrowest number form

pub number_form_fits : (n : ℕ) → n < 255 → n < numbers (number_form n)
number_form_fits n lt =
    elim (cases_lt n 15) [
      | inl p ↦ rw (lt-ltb n 15 p) p
      | inr p ↦ rw (le-ltb n 15 p) lt
    ]

narrowest_number_at : (b : Bool) (n : ℕ) (f : NumberForm) → ltb n 15 ≡ b → n < numbers f
    → (f ≡ cond b in_nibble in_octet) ⊎ (length (number_octets (cond b in_nibble in_octet) n) < length (number_octets f n))
narrowest_number_at true n in_nibble e lt = inl refl
narrowest_number_at true n in_octet e lt = inr (omega arith)
narrowest_number_at false n in_nibble e lt = absurd (cc (sym (lt-ltb n 15 lt) ∙ e))
narrowest_number_at false n in_octet e lt = inl refl

pub narrowest_number : (n : ℕ) (f : NumberForm) → n < numbers f → (f ≡ number_form n) ⊎ (length (number_octets (number_form n) n) < length (number_octets f n))
narrowest_number n f lt = narrowest_number_at (ltb n 15) n f refl lt

-- ---- the narrowest length form

pub record IsNarrowest (n : ℕ) (g : LengthForm) : Type 0 where
  pub fits : n < lengths g
  pub least : (f : LengthForm) → n < lengths f → (f ≡ g) ⊎ (length (length_octets g n) < length (length_octets f n))

narrow_lvt : (n : ℕ) → n < 5 → (f : LengthForm) → n < lengths f → (f ≡ in_lvt) ⊎ (length (length_octets in_lvt n) < length (length_octets f n))
narrow_lvt n h in_lvt lt = inl refl
narrow_lvt n h one_octet lt = inr (omega arith)
narrow_lvt n h two_octets lt = inr (omega arith)
narrow_lvt n h four_octets lt = inr (omega arith)

narrow_one : (n : ℕ) → 5 ≤ n → (f : LengthForm) → n < lengths f → (f ≡ one_octet) ⊎ (length (length_octets one_octet n) < length (length_octets f n))
narrow_one n h in_lvt lt = absurd (omega arith)
narrow_one n h one_octet lt = inl refl
narrow_one n h two_octets lt = inr (omega arith)
narrow_one n h four_octets lt = inr (omega arith)

narrow_two : (n : ℕ) → 254 ≤ n → (f : LengthForm) → n < lengths f → (f ≡ two_octets) ⊎ (length (length_octets two_octets n) < length (length_octets f n))
narrow_two n h in_lvt lt = absurd (omega arith)
narrow_two n h one_octet lt = absurd (omega arith)
narrow_two n h two_octets lt = inl refl
narrow_two n h four_octets lt = inr (omega arith)

narrow_four : (n : ℕ) → 2 ^ 16 ≤ n → (f : LengthForm) → n < lengths f → (f ≡ four_octets) ⊎ (length (length_octets four_octets n) < length (length_octets f n))
narrow_four n h in_lvt lt = absurd (omega arith)
narrow_four n h one_octet lt = absurd (omega arith)
narrow_four n h two_octets lt = absurd (omega arith)
narrow_four n h four_octets lt = inl refl

pub narrowest_length : (n : ℕ) → n < 2 ^ 32 → IsNarrowest n (length_form n)
narrowest_length n lt =
    elim (cases_lt n 5) [
      | inl a ↦ rw (lt-ltb n 5 a) (record { fits = a; least = narrow_lvt n a })
      | inr a ↦ elim (cases_lt n 254) [
        | inl b ↦ rw (le-ltb n 5 a, lt-ltb n 254 b) (record { fits = b; least = narrow_one n a })
        | inr b ↦ elim (cases_lt n (2 ^ 16)) [
          | inl d ↦ rw (le-ltb n 5 a, le-ltb n 254 b, lt-ltb n (2 ^ 16) d) (record { fits = d; least = narrow_two n b })
          | inr d ↦ rw (le-ltb n 5 a, le-ltb n 254 b, le-ltb n (2 ^ 16) d) (record { fits = lt; least = narrow_four n d })
        ]
      ]
    ]

-- ---- heads

-- of heads with a length
least_length : (class number len : ℕ) (f : NumberForm) (g : LengthForm) (h : LengthForm) → IsNarrowest len g → number < numbers f → len < lengths h
    → NoGreater (narrow_opening class number (lvt_of g len) ++ length_octets g len)
    (((16 * nibble_of f number + 8 * class + lvt_of h len) ∷ number_octets f number) ++ length_octets h len)
least_length class number len f g h narrow p q =
    let a = narrowest_number number f p in
    let b = narrow.least h q in
    let x = length-append (number_octets (number_form number) number) (length_octets g len) in
    let y = length-append (number_octets f number) (length_octets h len) in
    elim a [
      | inl same ↦ elim b [
        | inl alike ↦ NoGreater-same _ _ (sym (ap (λ (z : NumberForm). ((16 * nibble_of z number + 8 * class + lvt_of h len) ∷ number_octets z number) ++ length_octets h len) same
            ∙ ap (λ (z : LengthForm). narrow_opening class number (lvt_of z len) ++ length_octets z len) alike))
        | inr less ↦ inl (omega (arith, ap (λ (z : NumberForm). length (number_octets z number)) same))
      ]
      | inr fewer ↦ elim b [
        | inl alike ↦ inl (omega (arith, ap (λ (z : LengthForm). length (length_octets z len)) alike))
        | inr less ↦ inl (omega arith)
      ]
    ]

along : (b c d e : List ℕ) → b ≡ d → c ≡ e → NoGreater d e → NoGreater b c
along b c d e p q h = rw (p, q) h

pub least_with_length : (h : TagHead) (len : ℕ) (b : List ℕ) → ((l : ℕ) (c : List ℕ) → Ending h l c → LengthIn len l c) → ((l : ℕ) (c : List ℕ) → LengthIn len l c → Ending h l c)
    → IsValid h → number_of h < 255 → len < 2 ^ 32 → b ≡ narrow_head (class_of h) (number_of h) len → IsLeast (Heads h) b
least_with_length h len b to from valid number-fits len-fits is =
    let narrow = narrowest_length len len-fits in
    record {
      member = record {
        valid = valid;
        lvt = lvt_of (length_form len) len;
        front = narrow_opening (class_of h) (number_of h) (lvt_of (length_form len) len);
        back = length_octets (length_form len) len;
        opening = record { form = number_form (number_of h); fits = number_form_fits (number_of h) number-fits; octets = refl };
        ending = from (lvt_of (length_form len) len) (length_octets (length_form len) len) (record { form = length_form len; fits = narrow.fits; lvt_is = refl; octets = refl });
        octets = is;
      };
      least = λ c s.
          let e = to s.lvt s.back s.ending in
          let o = s.opening in
          along b c _ _ is (s.octets ∙ ap (λ (t : List ℕ). t ++ s.back) o.octets ∙ ap (λ (l : ℕ). ((16 * nibble_of o.form (number_of h) + 8 * class_of h + l) ∷ number_octets o.form (number_of h)) ++ s.back) e.lvt_is
          ∙ ap (λ (t : List ℕ). ((16 * nibble_of o.form (number_of h) + 8 * class_of h + lvt_of e.form len) ∷ number_octets o.form (number_of h)) ++ t) e.octets)
          (least_length (class_of h) (number_of h) len o.form (length_form len) e.form narrow o.fits e.fits);
    }

least_opening : (class number lvt : ℕ) (f : NumberForm) → number < numbers f
    → NoGreater (narrow_opening class number lvt) ((16 * nibble_of f number + 8 * class + lvt) ∷ number_octets f number)
least_opening class number lvt f p =
    elim (narrowest_number number f p) [
      | inl same ↦ NoGreater-same _ _ (sym (ap (λ (z : NumberForm). (16 * nibble_of z number + 8 * class + lvt) ∷ number_octets z number) same))
      | inr less ↦ inl (omega arith)
    ]

pub least_alone : (h : TagHead) (lvt : ℕ) (b : List ℕ) → Ending h lvt [] → ((l : ℕ) (c : List ℕ) → Ending h l c → (l ≡ lvt) × (c ≡ []))
    → IsValid h → number_of h < 255 → b ≡ narrow_opening (class_of h) (number_of h) lvt → IsLeast (Heads h) b
least_alone h lvt b some only valid fits is = record {
  member = record {
    valid = valid;
    lvt = lvt;
    front = narrow_opening (class_of h) (number_of h) lvt;
    back = [];
    ending = some;
    opening = record { form = number_form (number_of h); fits = number_form_fits (number_of h) fits; octets = refl };
    octets = is ∙ sym (append-nil (narrow_opening (class_of h) (number_of h) lvt));
  };
  least = λ c s.
      let e = only s.lvt s.back s.ending in
      let o = s.opening in
      along b c _ _ is (s.octets ∙ ap (λ (t : List ℕ). s.front ++ t) e.1 ∙ append-nil s.front ∙ o.octets ∙ ap (λ (l : ℕ). (16 * nibble_of o.form (number_of h) + 8 * class_of h + l) ∷ number_octets o.form (number_of h)) e.0)
      (least_opening (class_of h) (number_of h) lvt o.form o.fits);
}

pub least_bool : (v : Bool) (b : List ℕ) → b ≡ narrow_opening 0 1 (bool_byte v) → IsLeast (Heads (AppBool v)) b
least_bool true b is = least_alone (AppBool true) 1 b (refl, refl) (λ l c e. (e.0, e.1)) tt (omega arith) is
least_bool false b is = least_alone (AppBool false) 0 b (refl, refl) (λ l c e. (e.0, e.1)) tt (omega arith) is

pub class_byte : (context : Bool) → bool_byte context ≡ class_bit context
class_byte true = refl
class_byte false = refl

pub least_app : (number len : ℕ) (b : List ℕ) → IsValid (App number len) → len < 2 ^ 32 → b ≡ narrow_head 0 number len → IsLeast (Heads (App number len)) b
least_app number len b v p is = least_with_length (App number len) len b (λ l c e. e) (λ l c e. e) v (omega (arith, v.0)) p is

pub least_ctx : (number len : ℕ) (b : List ℕ) → IsValid (Ctx number len) → len < 2 ^ 32 → b ≡ narrow_head 1 number len → IsLeast (Heads (Ctx number len)) b
least_ctx number len b v p is = least_with_length (Ctx number len) len b (λ l c e. e) (λ l c e. e) v (omega (arith, v)) p is

pub least_open : (number : ℕ) (b : List ℕ) → IsValid (Open number) → b ≡ narrow_opening 1 number 6 → IsLeast (Heads (Open number)) b
least_open number b v is = least_alone (Open number) 6 b (refl, refl) (λ l c e. (e.0, e.1)) v (omega (arith, v)) is

pub least_close : (number : ℕ) (b : List ℕ) → IsValid (Close number) → b ≡ narrow_opening 1 number 7 → IsLeast (Heads (Close number)) b
least_close number b v is = least_alone (Close number) 7 b (refl, refl) (λ l c e. (e.0, e.1)) v (omega (arith, v)) is

-- ---- a head of a smaller length is no longer

octets_of : (f : LengthForm) (n m : ℕ) → length (length_octets f n) ≡ length (length_octets f m)
octets_of in_lvt n m = refl
octets_of one_octet n m = refl
octets_of two_octets n m = refl
octets_of four_octets n m = refl

lengths_grow : (g f : LengthForm) (n m : ℕ) → IsNarrowest n g → m < lengths f → n ≤ m → length (length_octets g n) ≤ length (length_octets f m)
lengths_grow g f n m narrow lt le =
    elim (narrow.least f (omega arith)) [
      | inl same ↦ omega (arith, ap (λ (z : LengthForm). length (length_octets z n)) same, octets_of f n m)
      | inr less ↦ omega (arith, octets_of f n m)
    ]

openings_grow : (number : ℕ) (f : NumberForm) → number < numbers f → length (number_octets (number_form number) number) ≤ length (number_octets f number)
openings_grow number f p =
    elim (narrowest_number number f p) [
      | inl same ↦ omega (arith, ap (λ (z : NumberForm). length (number_octets z number)) same)
      | inr less ↦ omega arith
    ]

narrow_grows : (class number n m lvt : ℕ) (b front back : List ℕ) → n ≤ m → Opening class number lvt front → LengthIn m lvt back → b ≡ front ++ back → n < 2 ^ 32
    → length (narrow_head class number n) ≤ length b
narrow_grows class number n m lvt b front back le o l is fits =
    let p = openings_grow number o.form o.fits in
    let q = lengths_grow (length_form n) l.form n m (narrowest_length n fits) l.fits le in
    omega (arith, ap length is, length-append front back, ap length o.octets, ap length l.octets, length-append (number_octets (number_form number) number) (length_octets (length_form n) n))

below_form : (f : LengthForm) (n : ℕ) → n < lengths f → n < 2 ^ 32
below_form in_lvt n lt = omega arith
below_form one_octet n lt = omega arith
below_form two_octets n lt = omega arith
below_form four_octets n lt = omega arith

pub app_grows : (number n m : ℕ) (b c : List ℕ) → n ≤ m → IsLeast (Heads (App number n)) b → Heads (App number m) c → length b ≤ length c
app_grows number n m b c le p s =
    let fits = below_form p.member.ending.form n p.member.ending.fits in
    let least = least_app number n (narrow_head 0 number n) p.member.valid fits refl in
    omega (arith, narrow_grows 0 number n m s.lvt c s.front s.back le s.opening s.ending s.octets fits, ap length (IsLeast-one (Heads (App number n)) b (narrow_head 0 number n) p least))

pub ctx_grows : (number n m : ℕ) (b c : List ℕ) → n ≤ m → IsLeast (Heads (Ctx number n)) b → Heads (Ctx number m) c → length b ≤ length c
ctx_grows number n m b c le p s =
    let fits = below_form p.member.ending.form n p.member.ending.fits in
    let least = least_ctx number n (narrow_head 1 number n) p.member.valid fits refl in
    omega (arith, narrow_grows 1 number n m s.lvt c s.front s.back le s.opening s.ending s.octets fits, ap length (IsLeast-one (Heads (Ctx number n)) b (narrow_head 1 number n) p least))

pub some_least : (head : TagHead) → IsValid head → LengthFits head → (b : List ℕ) × IsLeast (Heads head) b
some_least (App number len) v f = (narrow_head 0 number len, least_app number len _ v f refl)
some_least (AppBool value) v f = (narrow_opening 0 1 (bool_byte value), least_bool value _ refl)
some_least (Ctx number len) v f = (narrow_head 1 number len, least_ctx number len _ v f refl)
some_least (Open number) v f = (narrow_opening 1 number 6, least_open number _ v refl)
some_least (Close number) v f = (narrow_opening 1 number 7, least_close number _ v refl)

-- ---- the LVT of a length in octets of its own

pub lvt_of_long : (len : ℕ) → 5 ≤ len → 5 ≡ lvt_of (length_form len) len
lvt_of_long len a =
    elim (cases_lt len 254) [
      | inl b ↦ rw (le-ltb len 5 a, lt-ltb len 254 b) refl
      | inr b ↦ elim (cases_lt len (2 ^ 16)) [
        | inl d ↦ rw (le-ltb len 5 a, le-ltb len 254 b, lt-ltb len (2 ^ 16) d) refl
        | inr d ↦ rw (le-ltb len 5 a, le-ltb len 254 b, le-ltb len (2 ^ 16) d) refl
      ]
    ]
