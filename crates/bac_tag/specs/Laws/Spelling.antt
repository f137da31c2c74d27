-- Two parts one behind the other, a choice, and what ends itself: their spellings, places and least lists.
use Rattle.std.proofs.Common.{◌≡◌, ℕ, ◌+◌, ◌<◌, ◌≤◌, ◌⊎◌, inl, inr, ◌↔◌, List, [], ◌∷◌, ◌++◌, length, take, drop, suc, refl, sym, ap, subst, ◌∙◌, append_assoc, add_assoc, arith}
use Rattle.std.proofs.lemmas.Bool.{cases_lt, lt-ltb, le-ltb, eqb-true}
use Rattle.std.proofs.Math.Seq.{take-append-add, take-length}
use Rattle.std.proofs.lemmas.List.{length-append, take-append-le, take-append-drop, take-take, take_all, append-nil, append_cancel_left}
use Rattle.bac_tag.specs.declared.refusals.Refusal.{Refusal}
use Rattle.bac_tag.specs.declared.refusals.Why.{Why}
use Rattle.bac_tag.specs.declared.refusals.Why.TheVariants.{Short}
use Rattle.std.specs.Prelude.{slice_get, nat_eq, nat_lt, cond, ◌&&◌, Bool, true, false, Option, None, Some}
use Rattle.bac_tag.specs.Refusals.{weight_of, farther_of}
use Rattle.bac_tag.specs.Octets.{FirstDifference}
use Rattle.bac_tag.specs.Laws.Octets.{NoGreater-antisym, NoGreater-append}
use Rattle.bac_tag.specs.Spelling.{IsLeast, HasMark, IsViable, NoFront, EndsItself, IsRefusal, JoinedBy, IsPartway, CanFollow, OneOf}

module _ {A : Type 0} where
  -- Of two ways to split a list one has the longer first part, which begins with the other's.
  pub splits : (a b r s : List A) → a ++ r ≡ b ++ s → length a ≤ length b → (m : List A) × (b ≡ a ++ m) × (r ≡ m ++ s)
  splits a b r s e le =
      let front : take (length a) b ≡ a = sym (take-append-le (length a) b s le) ∙ ap (take (length a)) (sym e) ∙ take-append-le (length a) a r (omega arith) ∙ take-length a in
      let b_is : b ≡ a ++ drop (length a) b = sym (take-append-drop (length a) b) ∙ ap (λ (t : List A). t ++ drop (length a) b) front in
      (drop (length a) b, b_is, append_cancel_left a r (drop (length a) b ++ s) (e ∙ ap (λ (t : List A). t ++ s) b_is ∙ append_assoc a (drop (length a) b) s))

  module _ {X Y : Type 0} (First : X → List A → Type 0) (Second : X → Y → List A → Type 0) where
    viable_first : CanFollow First Second → (b : List A) → IsViable First b → IsViable (JoinedBy First Second) b
    viable_first follow b v =
        let f = follow v.value (b ++ v.rest) v.spelled in
        record { value = (v.value, f.0); rest = v.rest ++ f.1; spelled = record { front = b ++ v.rest; back = f.1; first = v.spelled; second = f.2; octets = sym (append_assoc b v.rest f.1) } }

    viable_second : (b : List A) → IsPartway First Second b → IsViable (JoinedBy First Second) b
    viable_second b w =
        record {
          value = (w.value, w.viable.value);
          rest = w.viable.rest;
          spelled = record {
            front = w.front;
            back = w.back ++ w.viable.rest;
            first = w.first;
            second = w.viable.spelled;
            octets = ap (λ (t : List A). t ++ w.viable.rest) w.octets ∙ append_assoc w.front w.back w.viable.rest;
          };
        }

    viable_cases : (b : List A) → IsViable (JoinedBy First Second) b → IsViable First b ⊎ IsPartway First Second b
    viable_cases b v =
        let j = v.spelled in
        elim (cases_lt (length b) (length j.front)) [
          | inl lt ↦ (let m = splits b j.front v.rest j.back j.octets (omega arith) in
              inl (record { value = v.value.0; rest = m.0; spelled = subst (λ (t : List A). First v.value.0 t) m.1 j.first }))
          | inr le ↦ (let m = splits j.front b j.back v.rest (sym j.octets) le in
              inr (record {
                value = v.value.0;
                front = j.front;
                back = m.0;
                first = j.first;
                octets = m.1;
                viable = record { value = v.value.1; rest = v.rest; spelled = subst (λ (t : List A). Second v.value.0 v.value.1 t) m.2 j.second };
              }))
        ]

    -- the law on two parts joined
    pub viable-JoinedBy : CanFollow First Second → (b : List A) → IsViable (JoinedBy First Second) b ↔ (IsViable First b ⊎ IsPartway First Second b)
    viable-JoinedBy follow b = (viable_cases b, λ s. elim s [ inl v ↦ viable_first follow b v | inr w ↦ viable_second b w ])

    -- what is refused in the first part
    pub refused_first : (input : List A) (r : Refusal) → CanFollow First Second → IsRefusal First input r → IsRefusal (JoinedBy First Second) input r
    refused_first input r follow h = record {
      none = λ x b rest e j. h.none x.0 j.front (j.back ++ rest) (e ∙ ap (λ (t : List A). t ++ rest) j.octets ∙ append_assoc j.front j.back rest) j.first;
      furthest = record {
        within = h.furthest.within;
        begins = viable_first follow (take r.place input) h.furthest.begins;
        ends = λ lt v. elim (viable_cases (take (r.place + 1) input) v) [
          | inl f ↦ h.furthest.ends lt f
          | inr w ↦ h.none w.value w.front (w.back ++ drop (r.place + 1) input)
              (sym (take-append-drop (r.place + 1) input) ∙ ap (λ (t : List A). t ++ drop (r.place + 1) input) w.octets ∙ append_assoc w.front w.back (drop (r.place + 1) input)) w.first
        ];
      };
      short = h.short;
    }

    -- what is refused in the second part, behind a spelling of the first
    pub refused_second : (x : X) (a rest : List A) (r : Refusal) → EndsItself First → First x a → IsRefusal (Second x) rest r → IsRefusal (JoinedBy First Second) (a ++ rest) (record { place = length a + r.place; why = r.why })
    refused_second x a rest r ended f h = record {
      none = λ y b more e j.
          let parts : a ++ rest ≡ j.front ++ (j.back ++ more) = e ∙ ap (λ (t : List A). t ++ more) j.octets ∙ append_assoc j.front j.back more in
          let same = ended x y.0 a j.front rest (j.back ++ more) f j.first parts in
          h.none y.1 j.back more (append_cancel_left a rest (j.back ++ more) (parts ∙ ap (λ (t : List A). t ++ (j.back ++ more)) (sym same.0)))
          (subst (λ (z : X). Second z y.1 j.back) (sym same.1) j.second);
      furthest = record {
        within = omega (arith, length-append a rest, h.furthest.within);
        begins = subst (λ (t : List A). IsViable (JoinedBy First Second) t) (sym (take-append-add a rest r.place))
            (viable_second (a ++ take r.place rest) (record { value = x; front = a; back = take r.place rest; first = f; viable = h.furthest.begins; octets = refl }));
        ends = λ lt v.
            let v' : IsViable (JoinedBy First Second) (a ++ take (r.place + 1) rest) = subst (λ (t : List A). IsViable (JoinedBy First Second) t) (ap (λ (n : ℕ). take n (a ++ rest)) (add_assoc (length a) r.place 1) ∙ take-append-add a rest (r.place + 1)) v in
            let j = v'.spelled in
            let parts : a ++ (take (r.place + 1) rest ++ v'.rest) ≡ j.front ++ j.back = sym (append_assoc a (take (r.place + 1) rest) v'.rest) ∙ j.octets in
            let same = ended x v'.value.0 a j.front _ j.back f j.first parts in
            h.furthest.ends (omega (arith, length-append a rest))
            (record {
              value = v'.value.1;
              rest = v'.rest;
              spelled = subst (λ (t : List A). Second x v'.value.1 t)
                  (sym (append_cancel_left a _ j.back (parts ∙ ap (λ (t : List A). t ++ j.back) (sym same.0))))
                  (subst (λ (z : X). Second z v'.value.1 j.back) (sym same.1) j.second);
            });
      };
      short = (λ e. omega (arith, h.short.0 e, length-append a rest), λ e. h.short.1 (omega (arith, length-append a rest)));
    }

  -- Two relations that spell the same lists are refused alike.
  pub refused_alike : {X Y : Type 0} (S : X → List A → Type 0) (T : Y → List A → Type 0) (input : List A) (r : Refusal)
      → ((x : X) (b : List A) → S x b → (y : Y) × T y b) → ((y : Y) (b : List A) → T y b → (x : X) × S x b) → IsRefusal S input r → IsRefusal T input r
  refused_alike S T input r to from h =
      let there = λ (b : List A) (v : IsViable T b). let s = from v.value (b ++ v.rest) v.spelled in let w : IsViable S b = record { value = s.0; rest = v.rest; spelled = s.1 } in w in
      let back = to h.furthest.begins.value (take r.place input ++ h.furthest.begins.rest) h.furthest.begins.spelled in
      record {
        none = λ y b rest e t. (let s = from y b t in h.none s.0 b rest e s.1);
        furthest = record {
          within = h.furthest.within;
          begins = record { value = back.0; rest = h.furthest.begins.rest; spelled = back.1 };
          ends = λ lt v. h.furthest.ends lt (there _ v);
        };
        short = h.short;
      }

  -- the law on a choice
  pub viable-OneOf : {X Y : Type 0} (First : X → List A → Type 0) (Second : Y → List A → Type 0) (b : List A) → IsViable (OneOf First Second) b ↔ (IsViable First b ⊎ IsViable Second b)
  viable-OneOf {X = X} {Y = Y} First Second b = (
    λ v. by_case v.value v.rest v.spelled,
    λ s. elim s [ inl v ↦ record { value = inl v.value; rest = v.rest; spelled = v.spelled } | inr v ↦ record { value = inr v.value; rest = v.rest; spelled = v.spelled } ],
  )
    where
      by_case : (z : X ⊎ Y) (rest : List A) → OneOf First Second z (b ++ rest) → IsViable First b ⊎ IsViable Second b
      by_case (inl x) rest s = inl (record { value = x; rest = rest; spelled = s })
      by_case (inr y) rest s = inr (record { value = y; rest = rest; spelled = s })

  -- parts that end themselves, one behind the other, end themselves
  pub JoinedBy-end : {X Y : Type 0} (First : X → List A → Type 0) (Second : X → Y → List A → Type 0) → EndsItself First → ((x : X) → EndsItself (Second x)) → EndsItself (JoinedBy First Second)
  JoinedBy-end {X = X} {Y = Y} First Second e f p q b c r s j k same =
      let parts = λ (l : List A) (x y t : List A) (is : l ≡ x ++ y). let z : l ++ t ≡ x ++ (y ++ t) = ap (λ (u : List A). u ++ t) is ∙ append_assoc x y t in z in
      let whole = sym (parts b j.front j.back r j.octets) ∙ same ∙ parts c k.front k.back s k.octets in
      let first = e p.0 q.0 j.front k.front (j.back ++ r) (k.back ++ s) j.first k.first whole in
      let behind = append_cancel_left j.front (j.back ++ r) (k.back ++ s) (whole ∙ ap (λ (t : List A). t ++ (k.back ++ s)) (sym first.0)) in
      let last = f p.0 p.1 q.1 j.back k.back r s j.second (subst (λ (z : X). Second z q.1 k.back) (sym first.1) k.second) behind in
      (j.octets ∙ ap (λ (t : List A). t ++ j.back) first.0 ∙ ap (λ (t : List A). k.front ++ t) last.0 ∙ sym k.octets, pair_is p q first.1 last.1)
    where
      pair_is : (p q : X × Y) → p.0 ≡ q.0 → p.1 ≡ q.1 → p ≡ q
      pair_is p q m n = ap (λ (x : X). (x, p.1)) m ∙ ap (λ (y : Y). (q.0, y)) n

  -- a front of a viable list is viable
  pub viable_front : {X : Type 0} (Spells : X → List A → Type 0) (xs : List A) (m n : ℕ) → m ≤ n → IsViable Spells (take n xs) → IsViable Spells (take m xs)
  viable_front Spells xs m n le v =
      let parts : take m xs ++ drop m (take n xs) ≡ take n xs = ap (λ (t : List A). t ++ drop m (take n xs)) (sym (take-take m n xs le)) ∙ take-append-drop m (take n xs) in
      record {
        value = v.value;
        rest = drop m (take n xs) ++ v.rest;
        spelled = subst (λ (t : List A). Spells v.value t) (ap (λ (t : List A). t ++ v.rest) (sym parts) ∙ append_assoc (take m xs) (drop m (take n xs)) v.rest) v.spelled;
      }

  -- what either case refuses, the farther of the two places
  pub refused_choice : {X Y : Type 0} (First : X → List A → Type 0) (Second : Y → List A → Type 0) (input : List A) (r s : Refusal)
      → s.place ≤ r.place → IsRefusal First input r → IsRefusal Second input s → IsRefusal (OneOf First Second) input r
  refused_choice {X = X} {Y = Y} First Second input r s le f g = record {
    none = none;
    furthest = record {
      within = f.furthest.within;
      begins = record { value = inl f.furthest.begins.value; rest = f.furthest.begins.rest; spelled = f.furthest.begins.spelled };
      ends = λ lt v. elim ((viable-OneOf First Second (take (r.place + 1) input)).0 v) [
        | inl a ↦ f.furthest.ends lt a
        | inr b ↦ g.furthest.ends (omega arith) (viable_front Second input (s.place + 1) (r.place + 1) (omega arith) b)
      ];
    };
    short = f.short;
  }
    where
      none : (z : X ⊎ Y) (b rest : List A) → input ≡ b ++ rest → OneOf First Second z b → ⊥
      none (inl x) b rest e p = f.none x b rest e p
      none (inr y) b rest e p = g.none y b rest e p

  -- the same where the second came farther
  pub refused_choice_second : {X Y : Type 0} (First : X → List A → Type 0) (Second : Y → List A → Type 0) (input : List A) (r s : Refusal)
      → r.place ≤ s.place → IsRefusal First input r → IsRefusal Second input s → IsRefusal (OneOf First Second) input s
  refused_choice_second {X = X} {Y = Y} First Second input r s le f g =
      refused_alike (OneOf Second First) (OneOf First Second) input s there back (refused_choice Second First input s r le g f)
    where
      there : (x : Y ⊎ X) (b : List A) → OneOf Second First x b → (y : X ⊎ Y) × OneOf First Second y b
      there (inl y) b t = (inr y, t)
      there (inr x) b t = (inl x, t)

      back : (x : X ⊎ Y) (b : List A) → OneOf First Second x b → (y : Y ⊎ X) × OneOf Second First y b
      back (inl x) b t = (inr x, t)
      back (inr y) b t = (inl y, t)

  -- what both cases refuse is refused with the farther of the two
  pub refused_either : {X Y : Type 0} (First : X → List A → Type 0) (Second : Y → List A → Type 0) (input : List A) (r s : Refusal)
      → IsRefusal First input r → IsRefusal Second input s → IsRefusal (OneOf First Second) input (farther_of r s)
  refused_either First Second input r s f g =
      elim (cases_lt r.place s.place) [
        | inl lt ↦ rw (lt-ltb r.place s.place lt) (refused_choice_second First Second input r s (omega arith) f g)
        | inr le ↦ rw (le-ltb r.place s.place le) (by_weight le (nat_eq r.place s.place) (nat_lt (weight_of r.why) (weight_of s.why)) refl)
      ]
    where
      by_weight : s.place ≤ r.place → (e w : Bool) → nat_eq r.place s.place ≡ e → IsRefusal (OneOf First Second) input (cond (e && w) s r)
      by_weight le false w is = refused_choice First Second input r s le f g
      by_weight le true false is = refused_choice First Second input r s le f g
      by_weight le true true is = refused_choice_second First Second input r s (omega (arith, eqb-true r.place s.place is)) f g

  -- ---- least spellings, and marks

  -- where a spelling ends itself, no list spells two values
  pub ends_one : {X : Type 0} (Spells : X → List A → Type 0) → EndsItself Spells → (x y : X) (b : List A) → Spells x b → Spells y b → x ≡ y
  ends_one Spells ends x y b p q = (ends x y b b [] [] p q refl).1

  -- the input ends before its first octet
  pub short_at_start : {X : Type 0} (S : X → List A → Type 0) → IsViable S [] → ((x : X) → S x [] → ⊥) → IsRefusal S [] (record { place = 0; why = Short })
  short_at_start {X = X} S viable some = record { none = none; furthest = record { within = omega arith; begins = viable; ends = λ lt v. absurd (omega arith) }; short = (λ e. refl, λ e. refl) }
    where
      none : NoFront S []
      none x [] rest e s = some x s
      none x (o ∷ b) rest e s = absurd (omega (arith, ap length e))

  -- the first octet begins nothing
  pub refused_at_first : {X : Type 0} (S : X → List A → Type 0) (o : A) (rest : List A) (why : Why) → (why ≡ Short → ⊥) → IsViable S [] → ((x : X) → S x [] → ⊥)
      → ((x : X) (b : List A) → S x (o ∷ b) → ⊥) → IsRefusal S (o ∷ rest) (record { place = 0; why = why })
  refused_at_first {X = X} S o rest why w viable some bad = record {
    none = none;
    furthest = record { within = omega arith; begins = viable; ends = λ lt v. bad v.value v.rest v.spelled };
    short = (λ e. absurd (w e), λ e. absurd (omega arith));
  }
    where
      none : NoFront S (o ∷ rest)
      none x [] more e s = some x s
      none x (p ∷ b) more e s = let same : p ≡ o = cc in bad x b (subst (λ (z : A). S x (z ∷ b)) same s)

  -- What a first octet goes on with is refused as its own.
  pub refused_behind : {X Y : Type 0} (S : X → List A → Type 0) (T : Y → List A → Type 0) (o : A) (rest : List A) (r : Refusal) → ((y : Y) → T y [] → ⊥)
      → ((y : Y) (b : List A) → T y (o ∷ b) → (x : X) × S x b) → ((x : X) (b : List A) → S x b → (y : Y) × T y (o ∷ b)) → IsRefusal S rest r
      → IsRefusal T (o ∷ rest) (record { place = 1 + r.place; why = r.why })
  refused_behind {X = X} {Y = Y} S T o rest r some from to h = record {
    none = none;
    furthest = record {
      within = omega (arith, h.furthest.within);
      begins = subst (λ (t : List A). IsViable T t) (sym front) (let t = to h.furthest.begins.value (take r.place rest ++ h.furthest.begins.rest) h.furthest.begins.spelled in record { value = t.0; rest = h.furthest.begins.rest; spelled = t.1 });
      ends = λ lt v.
          let w : IsViable T (o ∷ take (r.place + 1) rest) = subst (λ (t : List A). IsViable T t) next v in
          let s = from w.value (take (r.place + 1) rest ++ w.rest) w.spelled in
          h.furthest.ends (omega arith) (record { value = s.0; rest = w.rest; spelled = s.1 });
    };
    short = (λ e. omega (arith, h.short.0 e), λ e. h.short.1 (omega arith));
  }
    where
      front : take (1 + r.place) (o ∷ rest) ≡ o ∷ take r.place rest
      front = let e : 1 + r.place ≡ suc r.place = omega arith in rw e refl

      next : take ((1 + r.place) + 1) (o ∷ rest) ≡ o ∷ take (r.place + 1) rest
      next = let e : (1 + r.place) + 1 ≡ suc (r.place + 1) = omega arith in rw e refl

      none : NoFront T (o ∷ rest)
      none y [] more e t = some y t
      none y (p ∷ b) more e t =
          let same : p ≡ o = cc in
          let behind : rest ≡ b ++ more = cc in
          let s = from y b (subst (λ (z : A). T y (z ∷ b)) same t) in h.none s.0 b more behind s.1

-- one set has one least list
pub IsLeast-one : (Among : List ℕ → Type 0) (b c : List ℕ) → IsLeast Among b → IsLeast Among c → b ≡ c
IsLeast-one Among b c p q = NoGreater-antisym b c (p.least c q.member) (q.least b p.member)

-- octets without a mark are the least ones
pub unmarked_least : {Among : List ℕ → Type 0} {octets : List ℕ} (mark : Option ℕ) → mark ≡ None → HasMark Among octets mark → IsLeast Among octets
unmarked_least {Among} None e h = subst (λ (c : List ℕ). IsLeast Among c) (sym h.is_mark) h.is_least
unmarked_least {Among} (Some place) e h = absurd (let i : Some place ≡ None = e in cc)

-- where no list spells two values, least spellings tell them
pub IsLeast-tells : {X : Type 0} (Spells : X → List ℕ → Type 0) → ((x y : X) (b : List ℕ) → Spells x b → Spells y b → x ≡ y) → (x y : X) (b c : List ℕ) → IsLeast (Spells x) b → IsLeast (Spells y) c → (x ≡ y) ↔ (b ≡ c)
IsLeast-tells {X} Spells one x y b c p q = (
  λ e. IsLeast-one (Spells y) b c (subst (λ (z : X). IsLeast (Spells z) b) e p) q,
  λ e. one x y c (subst (Spells x) e p.member) q.member,
)

-- the least spellings of two parts joined, where the second does not go by the first
pub IsLeast-joined : {X Y : Type 0} (First : X → List ℕ → Type 0) (Second : X → Y → List ℕ → Type 0) (x : X) (y : Y) (a b : List ℕ)
    → IsLeast (First x) a → IsLeast (Second x y) b → IsLeast (JoinedBy First Second (x, y)) (a ++ b)
IsLeast-joined First Second x y a b p q = record {
  member = record { front = a; back = b; first = p.member; second = q.member; octets = refl };
  least = λ c j. rw j.octets (NoGreater-append a j.front b j.back (p.least j.front j.first) (q.least j.back j.second));
}

-- Of two lists that agree as far as the shorter goes, it begins the other.
begins_other : (a b : List ℕ) (place : ℕ) → take place a ≡ take place b → length a ≤ place → (rest : List ℕ) × (b ≡ a ++ rest)
begins_other a b place same le =
    let whole : take place a ≡ a = take_all place a le in
    (drop place b, sym (take-append-drop place b) ∙ ap (λ (t : List ℕ). t ++ drop place b) (sym same ∙ whole))

-- The first difference of two spellings that end themselves is a place of both.
pub difference_within : {X : Type 0} (Spells : X → List ℕ → Type 0) → EndsItself Spells → (x y : X) (b c : List ℕ) (place : ℕ) → Spells x b → Spells y c → FirstDifference b c place
    → (place < length b) × (place < length c)
difference_within Spells ended x y b c place p q d = (
  elim (cases_lt place (length b)) [
    | inl lt ↦ lt
    | inr le ↦ (let m = begins_other b c place d.before le in
        absurd (d.differ (ap (λ (l : List ℕ). slice_get l place) (ended x y b c m.0 [] p q (sym m.1 ∙ sym (append-nil c))).0)))
  ],
  elim (cases_lt place (length c)) [
    | inl lt ↦ lt
    | inr le ↦ (let m = begins_other c b place (sym d.before) le in
        absurd (d.differ (ap (λ (l : List ℕ). slice_get l place) (ended x y b c [] m.0 p q (append-nil b ∙ m.1)).0)))
  ],
)

-- ---- refusals at the first octet, and behind it
