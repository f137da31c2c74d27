-- An expected head is a front and what stands behind it.
use Rattle.std.proofs.Common.{◌≡◌, ℕ, ◌+◌, ◌-◌, ◌^◌, ◌<◌, ◌≤◌, ◌⊎◌, inl, inr, Bool, true, false, List, [], ◌∷◌, ◌++◌, length, get_or, take, drop, refl, sym, ap, subst, ◌∙◌, take-append-drop, length-drop, arith}
use Rattle.std.proofs.Math.Seq.{take-add}
use Rattle.std.proofs.lemmas.Bool.{cases_lt, cases_eq}
use Rattle.std.proofs.lemmas.List.{length-take-le, take_rest}
use Rattle.std.specs.Prelude.{Result, Ok, Err, IfOk, IfErr}
use Rattle.std.specs.List.{AllByRecursion}
use Rattle.bac_tag.specs.declared.refusals.Refusal.{Refusal}
use Rattle.bac_tag.specs.declared.heads.TagHead.{TagHead}
use Rattle.bac_tag.specs.declared.heads.TagHead.TheVariants.{App, AppBool, Ctx, Open, Close}
use Rattle.bac_tag.specs.declared.reading.Front.{Front}
use Rattle.bac_tag.specs.declared.expecting.Expected.{Expected}
use Rattle.bac_tag.specs.declared.expecting.Expected.TheVariants as expected
use Rattle.bac_tag.specs.Spelling.{EndsItself, CanFollow, JoinedBy, OneOf, NoFront, IsRefusal, Takes}
use Rattle.bac_tag.specs.Laws.Spelling.{refused_first, refused_second, refused_alike, refused_either}
use Rattle.bac_tag.specs.Refusals.{farther_of}
use Rattle.bac_tag.specs.Heads.{IsValid, class_bit, class_of, number_of, in_lvt, four_octets, LengthIn, Opening, Ending, Heads}
use Rattle.bac_tag.specs.Laws.Heads.{heads_end, openings_end, length_lvt, lvt_is_length, length_below, class_bit_below, class_bit_one}
use Rattle.bac_tag.specs.Expected.{Fits, FitsOne, IsSound, ExpectedHeads, HeadsOfOne}
use Rattle.bac_tag.specs.Reading.{HasLvt, IsUsed, Uses, least_of, most_of, LengthWithin, IsFront, IsBack}
use Rattle.bac_tag.proofs.FrontLemmas.{uses_used, used_lvt}

same_front : (x y : Front) → x.context ≡ y.context → x.number ≡ y.number → x.lvt ≡ y.lvt → x ≡ y
same_front x y e f g =
    ap (λ (z : Bool). record { context = z; number = x.number; lvt = x.lvt }) e ∙ ap (λ (z : ℕ). record { context = y.context; number = z; lvt = x.lvt }) f
    ∙ ap (λ (z : ℕ). record { context = y.context; number = y.number; lvt = z }) g

front_lvt : (e : Expected) (x : Front) (b : List ℕ) → IsSound e → IsFront e x b → x.lvt < 8
front_lvt e x b s f = used_lvt x.context x.number x.lvt (uses_used e x.context x.number x.lvt s f.used)

fronts_end : (e : Expected) → IsSound e → EndsItself (IsFront e)
fronts_end e s x y b c r t p q is =
    let same = openings_end _ _ _ _ _ _ b c r t (class_bit_below x.context) (class_bit_below y.context) (front_lvt e x b s p) (front_lvt e y c s q) p.opening q.opening is in
    (same.octets, same_front x y (class_bit_one _ _ same.class) same.number same.lvt)

-- ---- each front begins an expected head

-- some length of the range has the LVT
some_length : (least most lvt : ℕ) → HasLvt least most lvt → least ≤ most → most < 2 ^ 32 → (len : ℕ) × (d : List ℕ) × LengthWithin least most lvt len d
some_length least most lvt h le fits =
    elim (cases_eq lvt 5) [
      | inl five ↦ (least, _, record { low = omega arith; high = le; length_is = record { form = four_octets; fits = omega arith; lvt_is = five; octets = refl } })
      | inr ne ↦ (let w = h.1 ne in (lvt, [], record { low = w.0; high = w.1; length_is = record { form = in_lvt; fits = omega (arith, h.0); lvt_is = refl; octets = refl } }))
    ]

-- a head with no length
some_bool : (lvt : ℕ) → lvt < 2 → (v : Bool) × Ending (AppBool v) lvt []
some_bool lvt lt =
    elim (cases_eq lvt 0) [
      | inl e ↦ (false, (e, refl))
      | inr ne ↦ (true, (omega arith, refl))
    ]

abbrev Follows : Expected → Bool → ℕ → ℕ → Type 0
Follows e c n l = (h : TagHead) × (d : List ℕ) × IsBack e (record { context = c; number = n; lvt = l }) h d

follows_any : (c : Bool) (n l : ℕ) → IsUsed c n l → Follows expected.AnyHead c n l
follows_any false n l u =
    elim (cases_eq n 1) [
      | inl e ↦ (let b = some_bool l (u.2 e) in (AppBool b.0, [], record { fits = tt; valid = tt; class = refl; number = e; ending = b.1 }))
      | inr ne ↦ (let len = some_length 0 (2 ^ 32 - 1) l (omega (arith, u.1), λ five. (omega arith, omega (arith, u.1))) (omega arith) (omega arith) in
          (App n len.0, len.1, record { fits = tt; valid = (u.0, ne); class = refl; number = refl; ending = len.2.length_is }))
    ]
follows_any true n l u =
    elim (cases_lt l 6) [
      | inl lt ↦ (let len = some_length 0 (2 ^ 32 - 1) l (omega arith, λ five. (omega arith, omega arith)) (omega arith) (omega arith) in
          (Ctx n len.0, len.1, record { fits = tt; valid = u.0; class = refl; number = refl; ending = len.2.length_is }))
      | inr ge ↦ elim (cases_eq l 6) [
        | inl e ↦ (Open n, [], record { fits = tt; valid = u.0; class = refl; number = refl; ending = (e, refl) })
        | inr ne ↦ (Close n, [], record { fits = tt; valid = u.0; class = refl; number = refl; ending = (omega (arith, u.1), refl) })
      ]
    ]

follows : (e : Expected) (c : Bool) (n l : ℕ) → IsSound e → Uses e c n l → Follows e c n l
follows expected.AnyHead c n l s u = follows_any c n l u
follows (expected.App m least most) c n l s u =
    let len = some_length least most l u.2 s.2 s.3 in
    (App n len.0, len.1, record { fits = (u.1, len.2.low, len.2.high); valid = (omega (arith, u.1, s.0), λ one. s.1 (sym u.1 ∙ one)); class = ap class_bit u.0; number = refl; ending = len.2.length_is })
follows expected.AppBool c n l s u =
    let b = some_bool l u.2 in (AppBool b.0, [], record { fits = tt; valid = tt; class = ap class_bit u.0; number = u.1; ending = b.1 })
follows (expected.Ctx m least most) c n l s u =
    let len = some_length least most l u.3 s.1 s.2 in
    (Ctx n len.0, len.1, record { fits = (u.1, len.2.low, len.2.high); valid = u.2; class = ap class_bit u.0; number = refl; ending = len.2.length_is })
follows (expected.Open m) c n l s u = (Open n, [], record { fits = u.1; valid = u.2; class = ap class_bit u.0; number = refl; ending = (u.3, refl) })
follows (expected.Close m) c n l s u = (Close n, [], record { fits = u.1; valid = u.2; class = ap class_bit u.0; number = refl; ending = (u.3, refl) })

pub follow : (e : Expected) → IsSound e → CanFollow (IsFront e) (IsBack e)
follow e s x b f = follows e x.context x.number x.lvt s f.used

-- ---- a head is a front and a back

pub joined_heads : (e : Expected) (p : Front × TagHead) (b : List ℕ) → JoinedBy (IsFront e) (IsBack e) p b → ExpectedHeads e p.1 b
joined_heads e p b j =
    let o : Opening (class_of p.1) (number_of p.1) p.0.lvt j.front = subst (λ (n : ℕ). Opening (class_of p.1) n p.0.lvt j.front) j.second.number (subst (λ (c : ℕ). Opening c p.0.number p.0.lvt j.front) j.second.class j.first.opening) in
    record { fits = j.second.fits; spelled = record { valid = j.second.valid; lvt = p.0.lvt; front = j.front; back = j.back; opening = o; ending = j.second.ending; octets = j.octets } }

pub heads_from : (e : Expected) (p : Front × TagHead) (b : List ℕ) → JoinedBy (IsFront e) (IsBack e) p b → (h : TagHead) × ExpectedHeads e h b
heads_from e p b j = (p.1, joined_heads e p b j)

abbrev context_of : TagHead → Bool
context_of (App number len) = false
context_of (AppBool value) = false
context_of (Ctx number len) = true
context_of (Open number) = true
context_of (Close number) = true

context_class : (h : TagHead) → class_bit (context_of h) ≡ class_of h
context_class (App number len) = refl
context_class (AppBool value) = refl
context_class (Ctx number len) = refl
context_class (Open number) = refl
context_class (Close number) = refl

lvt_within : (least most len lvt : ℕ) (b : List ℕ) → LengthIn len lvt b → least ≤ len → len ≤ most → HasLvt least most lvt
lvt_within least most len lvt b l low high = (omega (arith, length_lvt len lvt b l), λ ne. within_by l ne) where
  within_by : LengthIn len lvt b → (lvt ≡ 5 → ⊥) → (least ≤ lvt) × (lvt ≤ most)
  within_by m ne = elim (lvt_is_length len lvt b m) [ inl e ↦ (omega arith, omega arith) | inr five ↦ absurd (ne five) ]

bool_lvt : (v : Bool) (lvt : ℕ) (b : List ℕ) → Ending (AppBool v) lvt b → lvt < 2
bool_lvt false lvt b e = omega (arith, e.0)
bool_lvt true lvt b e = omega (arith, e.0)

uses_any : (h : TagHead) (lvt : ℕ) (b : List ℕ) → IsValid h → Ending h lvt b → IsUsed (context_of h) (number_of h) lvt
uses_any (App number len) lvt b v e = (v.0, length_lvt len lvt b e, λ one. absurd (v.1 one))
uses_any (AppBool value) lvt b v e = (omega arith, omega (arith, bool_lvt value lvt b e), λ one. bool_lvt value lvt b e)
uses_any (Ctx number len) lvt b v e = (v, omega (arith, length_lvt len lvt b e))
uses_any (Open number) lvt b v e = (v, omega (arith, e.0))
uses_any (Close number) lvt b v e = (v, omega (arith, e.0))

uses_by : (e : Expected) (h : TagHead) (lvt : ℕ) (b : List ℕ) → IsValid h → Fits e h → Ending h lvt b → Uses e (context_of h) (number_of h) lvt
uses_by expected.AnyHead h lvt b v f t = uses_any h lvt b v t
uses_by (expected.App m least most) (App number len) lvt b v f t = (refl, f.0, lvt_within least most len lvt b t f.1 f.2)
uses_by expected.AppBool (AppBool value) lvt b v f t = (refl, refl, bool_lvt value lvt b t)
uses_by (expected.Ctx m least most) (Ctx number len) lvt b v f t = (refl, f.0, v, lvt_within least most len lvt b t f.1 f.2)
uses_by (expected.Open m) (Open number) lvt b v f t = (refl, f, v, t.0)
uses_by (expected.Close m) (Close number) lvt b v f t = (refl, f, v, t.0)
uses_by _ _ lvt b v f t = absurd f

pub heads_to : (e : Expected) (h : TagHead) (b : List ℕ) → ExpectedHeads e h b → (p : Front × TagHead) × JoinedBy (IsFront e) (IsBack e) p b
heads_to e h b x =
    let s = x.spelled in (
      (record { context = context_of h; number = number_of h; lvt = s.lvt }, h),
      record {
        front = s.front;
        back = s.back;
        first = record { used = uses_by e h s.lvt s.back s.valid x.fits s.ending; opening = subst (λ (c : ℕ). Opening c (number_of h) s.lvt s.front) (sym (context_class h)) s.opening };
        second = record { fits = x.fits; valid = s.valid; class = context_class h; number = refl; ending = s.ending };
        octets = s.octets;
      },
    )

-- ---- refusals

pub refused_front : (e : Expected) (xs : List ℕ) (r : Refusal) → IsSound e → IsRefusal (IsFront e) xs r → IsRefusal (ExpectedHeads e) xs r
refused_front e xs r s h = refused_alike (JoinedBy (IsFront e) (IsBack e)) (ExpectedHeads e) xs r (heads_from e) (heads_to e) (refused_first (IsFront e) (IsBack e) xs r (follow e s) h)

pub refused_back : (e : Expected) (x : Front) (taken : ℕ) (xs : List ℕ) (r : Refusal) → IsSound e → Takes (IsFront e) xs (x, taken) → IsRefusal (IsBack e x) (drop taken xs) r
    → IsRefusal (ExpectedHeads e) xs (record { place = taken + r.place; why = r.why })
refused_back e x taken xs r s t h =
    let whole : take taken xs ++ drop taken xs ≡ xs = take-append-drop taken xs in
    let long : length (take taken xs) ≡ taken = length-take-le taken xs t.within in
    let both = refused_second (IsFront e) (IsBack e) x (take taken xs) (drop taken xs) r (fronts_end e s) t.spelled h in
    refused_alike (JoinedBy (IsFront e) (IsBack e)) (ExpectedHeads e) xs (record { place = taken + r.place; why = r.why }) (heads_from e) (heads_to e)
    (subst (λ (n : ℕ). IsRefusal (JoinedBy (IsFront e) (IsBack e)) xs (record { place = n + r.place; why = r.why })) long
    (subst (λ (l : List ℕ). IsRefusal (JoinedBy (IsFront e) (IsBack e)) l (record { place = length (take taken xs) + r.place; why = r.why })) whole both))

-- ---- where there is a length

-- The front is that of a head with a length.
pub record HasLength (e : Expected) (x : Front) : Type 0 where
  pub used : Uses e x.context x.number x.lvt
  pub not_six : (x.context ≡ true) → x.lvt ≡ 6 → ⊥
  pub not_seven : (x.context ≡ true) → x.lvt ≡ 7 → ⊥
  pub no_bool : (x.context ≡ false) → x.number ≡ 1 → ⊥

-- what the tests of the code leave
pub has_length : (e : Expected) (x : Front) → Uses e x.context x.number x.lvt
    → ((x.context ≡ true) × (x.lvt ≡ 6 → ⊥)) ⊎ (x.context ≡ false)
    → ((x.context ≡ true) × (x.lvt ≡ 7 → ⊥)) ⊎ (x.context ≡ false)
    → ((x.context ≡ false) × (x.number ≡ 1 → ⊥)) ⊎ (x.context ≡ true) → HasLength e x
has_length e x u six seven bool = record {
  used = u;
  not_six = λ p q. elim six [ inl h ↦ h.1 q | inr h ↦ absurd (cc (sym p ∙ h)) ];
  not_seven = λ p q. elim seven [ inl h ↦ h.1 q | inr h ↦ absurd (cc (sym p ∙ h)) ];
  no_bool = λ p q. elim bool [ inl h ↦ h.1 q | inr h ↦ absurd (cc (sym p ∙ h)) ];
}

abbrev pub head_by : Bool → ℕ → ℕ → TagHead
head_by true number len = Ctx number len
head_by false number len = App number len

fits_app : (e : Expected) (n l len : ℕ) → Uses e false n l → (n ≡ 1 → ⊥) → least_of e ≤ len → len ≤ most_of e → Fits e (App n len)
fits_app expected.AnyHead n l len u other low high = tt
fits_app (expected.App m least most) n l len u other low high = (u.1, low, high)
fits_app expected.AppBool n l len u other low high = absurd (other u.1)
fits_app (expected.Ctx m least most) n l len u other low high = absurd (let e : false ≡ true = u.0 in cc)
fits_app (expected.Open m) n l len u other low high = absurd (let e : false ≡ true = u.0 in cc)
fits_app (expected.Close m) n l len u other low high = absurd (let e : false ≡ true = u.0 in cc)

fits_ctx : (e : Expected) (n l len : ℕ) → Uses e true n l → (l ≡ 6 → ⊥) → (l ≡ 7 → ⊥) → least_of e ≤ len → len ≤ most_of e → Fits e (Ctx n len)
fits_ctx expected.AnyHead n l len u six seven low high = tt
fits_ctx (expected.App m least most) n l len u six seven low high = absurd (let e : true ≡ false = u.0 in cc)
fits_ctx expected.AppBool n l len u six seven low high = absurd (let e : true ≡ false = u.0 in cc)
fits_ctx (expected.Ctx m least most) n l len u six seven low high = (u.1, low, high)
fits_ctx (expected.Open m) n l len u six seven low high = absurd (six u.3)
fits_ctx (expected.Close m) n l len u six seven low high = absurd (seven u.3)

back_to_at : (e : Expected) (context : Bool) (number lvt len : ℕ) (b : List ℕ) → IsSound e → HasLength e (record { context = context; number = number; lvt = lvt })
    → LengthWithin (least_of e) (most_of e) lvt len b → IsBack e (record { context = context; number = number; lvt = lvt }) (head_by context number len) b
back_to_at e true number lvt len b s h l =
    record { fits = fits_ctx e number lvt len h.used (h.not_six refl) (h.not_seven refl) l.low l.high; valid = (uses_used e true number lvt s h.used).0; class = refl; number = refl; ending = l.length_is }
back_to_at e false number lvt len b s h l =
    record { fits = fits_app e number lvt len h.used (h.no_bool refl) l.low l.high; valid = ((uses_used e false number lvt s h.used).0, h.no_bool refl); class = refl; number = refl; ending = l.length_is }

back_to : (e : Expected) (x : Front) (len : ℕ) (b : List ℕ) → IsSound e → HasLength e x → LengthWithin (least_of e) (most_of e) x.lvt len b → IsBack e x (head_by x.context x.number len) b
back_to e x len b s h l = back_to_at e x.context x.number x.lvt len b s h l

context_from : (context : Bool) → class_bit context ≡ 1 → context ≡ true
context_from true e = refl
context_from false e = absurd (omega arith)

application_from : (context : Bool) → class_bit context ≡ 0 → context ≡ false
application_from true e = absurd (omega arith)
application_from false e = refl

-- a length that fits is in the expected range
app_bounds : (e : Expected) (n len l : ℕ) (b : List ℕ) → Fits e (App n len) → LengthIn len l b → (least_of e ≤ len) × (len ≤ most_of e)
app_bounds expected.AnyHead n len l b f p = (omega arith, omega (arith, length_below len l b p))
app_bounds (expected.App m least most) n len l b f p = (f.1, f.2)
app_bounds expected.AppBool n len l b f p = absurd f
app_bounds (expected.Ctx m least most) n len l b f p = absurd f
app_bounds (expected.Open m) n len l b f p = absurd f
app_bounds (expected.Close m) n len l b f p = absurd f

ctx_bounds : (e : Expected) (n len l : ℕ) (b : List ℕ) → Fits e (Ctx n len) → LengthIn len l b → (least_of e ≤ len) × (len ≤ most_of e)
ctx_bounds expected.AnyHead n len l b f p = (omega arith, omega (arith, length_below len l b p))
ctx_bounds (expected.App m least most) n len l b f p = absurd f
ctx_bounds expected.AppBool n len l b f p = absurd f
ctx_bounds (expected.Ctx m least most) n len l b f p = (f.1, f.2)
ctx_bounds (expected.Open m) n len l b f p = absurd f
ctx_bounds (expected.Close m) n len l b f p = absurd f

back_from : (e : Expected) (x : Front) (h : TagHead) (b : List ℕ) → HasLength e x → IsBack e x h b → (len : ℕ) × LengthWithin (least_of e) (most_of e) x.lvt len b
back_from e x (App number len) b l k = let w = app_bounds e number len x.lvt b k.fits k.ending in (len, record { low = w.0; high = w.1; length_is = k.ending })
back_from e x (AppBool value) b l k = absurd (l.no_bool (application_from x.context k.class) k.number)
back_from e x (Ctx number len) b l k = let w = ctx_bounds e number len x.lvt b k.fits k.ending in (len, record { low = w.0; high = w.1; length_is = k.ending })
back_from e x (Open number) b l k = absurd (l.not_six (context_from x.context k.class) k.ending.0)
back_from e x (Close number) b l k = absurd (l.not_seven (context_from x.context k.class) k.ending.0)

pub refused_length : (e : Expected) (x : Front) (taken least most : ℕ) (xs : List ℕ) (r : Refusal) → IsSound e → HasLength e x → Takes (IsFront e) xs (x, taken) → least ≡ least_of e → most ≡ most_of e
    → IsRefusal (LengthWithin least most x.lvt) (take (length xs - taken) (drop taken xs)) r → IsRefusal (ExpectedHeads e) xs (record { place = taken + r.place; why = r.why })
refused_length e x taken least most xs r s l t low high h =
    let at : IsRefusal (LengthWithin (least_of e) (most_of e) x.lvt) (drop taken xs) r =
    subst (λ (n : ℕ). IsRefusal (LengthWithin n (most_of e) x.lvt) (drop taken xs) r) low (subst (λ (n : ℕ). IsRefusal (LengthWithin least n x.lvt) (drop taken xs) r) high
    (subst (λ (z : List ℕ). IsRefusal (LengthWithin least most x.lvt) z r) (take_rest xs taken) h)) in
    refused_back e x taken xs r s t (refused_alike (LengthWithin (least_of e) (most_of e) x.lvt) (IsBack e x) (drop taken xs) r
    (λ len b p. (head_by x.context x.number len, back_to e x len b s l p)) (λ k b p. back_from e x k b l p) at)

-- ---- what is found

found_length : (e : Expected) (x : Front) (taken len more least most : ℕ) (xs : List ℕ) → IsSound e → HasLength e x → Takes (IsFront e) xs (x, taken) → least ≡ least_of e → most ≡ most_of e
    → Takes (LengthWithin least most x.lvt) (take (length xs - taken) (drop taken xs)) (len, more) → Takes (ExpectedHeads e) xs (head_by x.context x.number len, taken + more)
found_length e x taken len more least most xs s l t low high m =
    let at : Takes (LengthWithin (least_of e) (most_of e) x.lvt) (drop taken xs) (len, more) =
    subst (λ (n : ℕ). Takes (LengthWithin n (most_of e) x.lvt) (drop taken xs) (len, more)) low (subst (λ (n : ℕ). Takes (LengthWithin least n x.lvt) (drop taken xs) (len, more)) high
    (subst (λ (z : List ℕ). Takes (LengthWithin least most x.lvt) z (len, more)) (take_rest xs taken) m)) in
    record {
      within = omega (arith, t.within, at.within, length-drop taken xs);
      spelled = joined_heads e (x, head_by x.context x.number len) (take (taken + more) xs)
          (record { front = take taken xs; back = take more (drop taken xs); first = t.spelled; second = back_to e x len (take more (drop taken xs)) s l at.spelled; octets = take-add taken more xs });
    }

pub found_context : (e : Expected) (x : Front) (taken len more least most : ℕ) (xs : List ℕ) → x.context ≡ true → IsSound e → HasLength e x → Takes (IsFront e) xs (x, taken) → least ≡ least_of e → most ≡ most_of e
    → Takes (LengthWithin least most x.lvt) (take (length xs - taken) (drop taken xs)) (len, more) → Takes (ExpectedHeads e) xs (Ctx x.number len, taken + more)
found_context e x taken len more least most xs is s l t low high m =
    subst (λ (z : Bool). Takes (ExpectedHeads e) xs (head_by z x.number len, taken + more)) is (found_length e x taken len more least most xs s l t low high m)

pub found_application : (e : Expected) (x : Front) (taken len more least most : ℕ) (xs : List ℕ) → x.context ≡ false → IsSound e → HasLength e x → Takes (IsFront e) xs (x, taken) → least ≡ least_of e → most ≡ most_of e
    → Takes (LengthWithin least most x.lvt) (take (length xs - taken) (drop taken xs)) (len, more) → Takes (ExpectedHeads e) xs (App x.number len, taken + more)
found_application e x taken len more least most xs is s l t low high m =
    subst (λ (z : Bool). Takes (ExpectedHeads e) xs (head_by z x.number len, taken + more)) is (found_length e x taken len more least most xs s l t low high m)

-- ---- each valid head

pub any_found : (r : Result (TagHead × ℕ) Refusal) (xs : List ℕ) → IfOk r (Takes (ExpectedHeads expected.AnyHead) xs) → IfOk r (Takes Heads xs)
any_found (Ok found) xs t = record { within = t.within; spelled = t.spelled.spelled }
any_found (Err refusal) xs t = tt

pub any_refused : (r : Result (TagHead × ℕ) Refusal) (xs : List ℕ) → IfErr r (IsRefusal (ExpectedHeads expected.AnyHead) xs) → IfErr r (IsRefusal Heads xs)
any_refused (Ok found) xs h = tt
any_refused (Err refusal) xs h = refused_alike (ExpectedHeads expected.AnyHead) Heads xs refusal (λ x b s. (x, s.spelled)) (λ y b s. (y, record { fits = tt; spelled = s })) h

-- ---- several expectations

pub refused_one : (e : Expected) (xs : List ℕ) (r : Refusal) → IsRefusal (ExpectedHeads e) xs r → IsRefusal (HeadsOfOne (e ∷ [])) xs r
refused_one e xs r h = refused_alike (ExpectedHeads e) (HeadsOfOne (e ∷ [])) xs r
    (λ x b s. (x, record { fits = inl s.fits; spelled = s.spelled }))
    (λ x b s. (x, elim s.fits [ inl f ↦ record { fits = f; spelled = s.spelled } | inr none ↦ absurd none ])) h

pub refused_more : (e : Expected) (es : List Expected) (xs : List ℕ) (r s : Refusal) → IsRefusal (ExpectedHeads e) xs r → IsRefusal (HeadsOfOne es) xs s → IsRefusal (HeadsOfOne (e ∷ es)) xs (farther_of r s)
refused_more e es xs r s f g = refused_alike (OneOf (ExpectedHeads e) (HeadsOfOne es)) (HeadsOfOne (e ∷ es)) xs (farther_of r s) there back (refused_either (ExpectedHeads e) (HeadsOfOne es) xs r s f g)
  where
    there : (x : TagHead ⊎ TagHead) (b : List ℕ) → OneOf (ExpectedHeads e) (HeadsOfOne es) x b → (y : TagHead) × HeadsOfOne (e ∷ es) y b
    there (inl y) b t = (y, record { fits = inl t.fits; spelled = t.spelled })
    there (inr y) b t = (y, record { fits = inr t.fits; spelled = t.spelled })

    back : (x : TagHead) (b : List ℕ) → HeadsOfOne (e ∷ es) x b → (y : TagHead ⊎ TagHead) × OneOf (ExpectedHeads e) (HeadsOfOne es) y b
    back x b t = elim t.fits [ inl f ↦ (inl x, record { fits = f; spelled = t.spelled }) | inr f ↦ (inr x, record { fits = f; spelled = t.spelled }) ]

-- a head is at the front, and no expectation has it
pub none_fits : (es : List Expected) (h : TagHead) (taken : ℕ) (xs : List ℕ) → Takes Heads xs (h, taken) → (FitsOne es h → ⊥) → NoFront (HeadsOfOne es) xs
none_fits es h taken xs t none x b rest e s =
    let same = heads_end h x (take taken xs) b (drop taken xs) rest t.spelled s.spelled (take-append-drop taken xs ∙ e) in
    none (subst (FitsOne es) (sym same.1) s.fits)

pub none_there : (es : List Expected) (xs : List ℕ) → NoFront Heads xs → NoFront (HeadsOfOne es) xs
none_there es xs none x b rest e s = none x b rest e s.spelled

-- what none of several has the first has not, nor have the others
pub none_first : (e : Expected) (es : List Expected) (xs : List ℕ) → NoFront (HeadsOfOne (e ∷ es)) xs → NoFront (ExpectedHeads e) xs
none_first e es xs none x b rest is s = none x b rest is (record { fits = inl s.fits; spelled = s.spelled })

pub none_others : (e : Expected) (es : List Expected) (xs : List ℕ) → NoFront (HeadsOfOne (e ∷ es)) xs → NoFront (HeadsOfOne es) xs
none_others e es xs none x b rest is s = none x b rest is (record { fits = inr s.fits; spelled = s.spelled })

-- ---- a list of expectations by its first one

pub front_found : (es : List Expected) (d : Expected) (xs : List ℕ) (found : TagHead × ℕ) → 0 < length es → NoFront (HeadsOfOne es) xs → Takes (ExpectedHeads (get_or es 0 d)) xs found → ⊥
front_found [] d xs found some none t = absurd (omega arith)
front_found (e ∷ es) d xs found some none t = none_first e es xs none found.0 (take found.1 xs) (drop found.1 xs) (sym (take-append-drop found.1 xs)) t.spelled

pub alone_refused : (es : List Expected) (d : Expected) (xs : List ℕ) (r : Refusal) → 0 < length es → length (take (length es - 1) (drop 1 es)) ≡ 0 → IsRefusal (ExpectedHeads (get_or es 0 d)) xs r → IsRefusal (HeadsOfOne es) xs r
alone_refused [] d xs r some alone h = absurd (omega arith)
alone_refused (e ∷ []) d xs r some alone h = refused_one e xs r h
alone_refused (e ∷ f ∷ es) d xs r some alone h = absurd (omega (arith, ap (length {A = Expected}) (take_rest (e ∷ f ∷ es) 1)))

pub others_sound : (es : List Expected) → AllByRecursion IsSound es → AllByRecursion IsSound (take (length es - 1) (drop 1 es))
others_sound [] s = tt
others_sound (e ∷ es) s = rw take_rest s.1

pub others_none : (es : List Expected) (xs : List ℕ) → NoFront (HeadsOfOne es) xs → NoFront (HeadsOfOne (take (length es - 1) (drop 1 es))) xs
others_none [] xs none = λ x b rest e s. absurd s.fits
others_none (e ∷ es) xs none = rw take_rest (none_others e es xs none)

pub both_refused : (es : List Expected) (d : Expected) (xs : List ℕ) (r s : Refusal) → 0 < length es → IsRefusal (ExpectedHeads (get_or es 0 d)) xs r → IsRefusal (HeadsOfOne (take (length es - 1) (drop 1 es))) xs s
    → IsRefusal (HeadsOfOne es) xs (farther_of r s)
both_refused [] d xs r s some f g = absurd (omega arith)
both_refused (e ∷ es) d xs r s some f g = refused_more e es xs r s f (rw take_rest at g)
