-- What is said of a value tells it.
use Rattle.std.specs.Prelude.{◌≡◌, ℕ, ◌⊎◌, false, ◌==◌, IsTrue, Option, None, Some, List, [], ◌∷◌, ◌++◌, refl}
use Rattle.std.specs.List.{flat_map}
use Rattle.std.proofs.Common.{sym, ◌∙◌, ap, subst, inl, inr, arith, append_assoc}
use Rattle.std.proofs.lemmas.Bool.{or_left}
use Rattle.std.proofs.lemmas.Bool.Decides.{nat_tests}
use Rattle.std.proofs.lemmas.List.{append_cancel_left}
use Rattle.bac_tag.specs.Spelling.{Joined, OneOf}
use Rattle.bac_tag.specs.declared.heads.TagHead.{TagHead}
use Rattle.bac_productions.specs.Productions.{Head, Optional, Items}
use Rattle.bac_field_parts.specs.Symbols.{Symbol, named, numbered, containing, finished, has, disjoint, Opens, IsMessage, number_said, contents_said, end_said, nothing_said}
use Rattle.bac_field_parts.specs.Laws.Languages.{opens_apart, opens_left, opens_right, opens_more}
use Rattle.bac_field_parts.specs.Laws.Parts.{pair_said, maybe_said, list_said, either_said}

-- The symbols of a value that some octets spell begin with one of the leads, and they tell the value, whatever follows.
pub record Telling {V : Type 0} (said : V → List Symbol) (spells : V → List ℕ → Type 0) (leads : List (Option ℕ)) : Type 0 where
  pub opens : (v : V) (b : List ℕ) → spells v b → Opens leads (said v)
  pub once : (v w : V) (b c : List ℕ) (r s : List Symbol) → spells v b → spells w c → said v ++ r ≡ said w ++ s → v ≡ w

-- ---- one field

itself : (name : ℕ) → IsTrue (has (Some name ∷ []) (Some name))
itself name = or_left (name == name) false (grind (arith, nat_tests))

pub number_tells : {V : Type 0} {number : V → ℕ} {S : V → List ℕ → Type 0} (name : ℕ) → ((v w : V) (b c : List ℕ) → S v b → S w c → number v ≡ number w → v ≡ w) → Telling (number_said name number) S (Some name ∷ [])
number_tells {number} name same = record {
  opens = λ v b h. record { first = named name; rest = _; symbols = refl; among = itself name };
  once = λ v w b c r s h k e. same v w b c h k (numbers (number v) (number w) r s e);
}
  where
    numbers : (m n : ℕ) (r s : List Symbol) → named name ∷ numbered m ∷ containing (Some []) ∷ r ≡ named name ∷ numbered n ∷ containing (Some []) ∷ s → m ≡ n
    numbers m n r s e = cc

-- by number and contents
pub held_tells : {V : Type 0} {number : V → ℕ} {contents : V → List ℕ} {S : V → List ℕ → Type 0} (name : ℕ) → ((v w : V) (b c : List ℕ) → S v b → S w c → number v ≡ number w → contents v ≡ contents w → v ≡ w) → Telling (contents_said name number contents) S (Some name ∷ [])
held_tells {number} {contents} name same = record {
  opens = λ v b h. record { first = named name; rest = _; symbols = refl; among = itself name };
  once = λ v w b c r s h k e. (let p = both (number v) (number w) (contents v) (contents w) r s e in same v w b c h k p.0 p.1);
}
  where
    both : (m n : ℕ) (x y : List ℕ) (r s : List Symbol) → named name ∷ numbered m ∷ containing (Some x) ∷ r ≡ named name ∷ numbered n ∷ containing (Some y) ∷ s → (m ≡ n) × (x ≡ y)
    both m n x y r s e = (cc, cc)

pub end_tells : {S : Unit {0} → List ℕ → Type 0} → Telling end_said S (None ∷ [])
end_tells = record { opens = λ v b h. record { first = finished; rest = []; symbols = refl; among = refl }; once = λ v w b c r s h k e. refl }

-- ---- other spellings

pub spelled_by : {V : Type 0} {f : V → List Symbol} {S T : V → List ℕ → Type 0} {leads : List (Option ℕ)} → ((v : V) (b : List ℕ) → S v b → (c : List ℕ) × T v c) → Telling f T leads → Telling f S leads
spelled_by to t = record {
  opens = λ v b h. (let p = to v b h in t.opens v p.0 p.1);
  once = λ v w b c r s h k e. (let p = to v b h in let q = to w c k in t.once v w p.0 q.0 r s p.1 q.1 e);
}

-- ---- parts

module _ {V : Type 0} {f : V → List Symbol} {S : V → List ℕ → Type 0} {leads : List (Option ℕ)} where
  -- the first part, and what follows it
  first_same : Telling f S leads → (v w : V) (b c : List ℕ) → S v b → S w c → (x y r s : List Symbol) → (f v ++ x) ++ r ≡ (f w ++ y) ++ s → (v ≡ w) × (x ++ r ≡ y ++ s)
  first_same first v w b c h k x y r s e =
      let whole : f v ++ (x ++ r) ≡ f w ++ (y ++ s) = sym (append_assoc (f v) x r) ∙ e ∙ append_assoc (f w) y s in
      let same : v ≡ w = first.once v w b c (x ++ r) (y ++ s) h k whole in
      (same, append_cancel_left (f v) (x ++ r) (y ++ s) (whole ∙ ap (λ u. f u ++ (y ++ s)) (sym same)))

  module _ {W : Type 0} {g : W → List Symbol} {T : W → List ℕ → Type 0} where
    -- a value by its parts
    pub by_parts : IsMessage f g S T → Telling g T leads → Telling f S leads
    by_parts M parts = record {
      opens = λ v b h. (let p = M.parts_of v b h in subst (Opens leads) (sym (M.said p.0) ∙ ap f p.1) (parts.opens p.0 b ((M.spelled p.0 b).1 (subst (λ x. S x b) (sym p.1) h))));
      once = λ v w b c r s h k e.
          (let p = M.parts_of v b h in
          let q = M.parts_of w c k in
          let there : g p.0 ++ r ≡ g q.0 ++ s = ap (λ l. l ++ r) (sym (M.said p.0) ∙ ap f p.1) ∙ e ∙ ap (λ l. l ++ s) (sym (ap f q.1) ∙ M.said q.0) in
          let same : p.0 ≡ q.0 = parts.once p.0 q.0 b c r s ((M.spelled p.0 b).1 (subst (λ x. S x b) (sym p.1) h)) ((M.spelled q.0 c).1 (subst (λ x. S x c) (sym q.1) k)) there in
          sym p.1 ∙ ap M.of_parts same ∙ q.1);
    }

    module _ {others : List (Option ℕ)} where
      -- the first part stands only before one of the two
      never : Telling f S leads → Telling g T others → IsTrue (disjoint leads others) → (v : V) (w : W) (b c : List ℕ) → S v b → T w c → (x r s : List Symbol) → (f v ++ x) ++ r ≡ g w ++ s → ⊥
      never first second apart v w b c h k x r s e = opens_apart leads others (f v) (g w) (x ++ r) s apart (first.opens v b h) (second.opens w c k) (sym (append_assoc (f v) x r) ∙ e)

      pub and_then : Telling f S leads → Telling g T others → Telling (pair_said f g S T) (Joined S T) leads
      and_then first second = record {
        opens = λ v b j. opens_more leads (f v.0) (g v.1) (first.opens v.0 j.front j.first);
        once = λ v w b c r s j k e.
            (let p = first_same first v.0 w.0 j.front k.front j.first k.first (g v.1) (g w.1) r s e in
            ap (λ x. (x, v.1)) p.0 ∙ ap (λ y. (w.0, y)) (second.once v.1 w.1 j.back k.back r s j.second k.second p.1));
      }

      pub perhaps : Telling f S leads → Telling g T others → IsTrue (disjoint leads others) → Telling (maybe_said f g S T) (Joined (Optional S) T) (leads ++ others)
      perhaps first second apart = record {
        opens = λ v b j. begins v.0 v.1 j.front j.back j.first j.second;
        once = λ v w b c r s j k e. (let p = same v.0 w.0 v.1 w.1 j.front k.front j.back k.back r s j.first k.first j.second k.second e in ap (λ x. (x, v.1)) p.0 ∙ ap (λ y. (w.0, y)) p.1);
      }
        where
          begins : (o : Option V) (x : W) (b d : List ℕ) → Optional S o b → T x d → Opens (leads ++ others) (maybe_said f g S T (o, x))
          begins None x b d h k = opens_right leads others (g x) (second.opens x d k)
          begins (Some v) x b d h k = opens_left leads others (f v ++ g x) (opens_more leads (f v) (g x) (first.opens v b h))

          same : (o p : Option V) (x y : W) (b c d a : List ℕ) (r s : List Symbol) → Optional S o b → Optional S p c → T x d → T y a → maybe_said f g S T (o, x) ++ r ≡ maybe_said f g S T (p, y) ++ s → (o ≡ p) × (x ≡ y)
          same None None x y b c d a r s h k i j e = (refl, second.once x y d a r s i j e)
          same (Some v) None x y b c d a r s h k i j e = absurd (never first second apart v y b a h j (g x) r s e)
          same None (Some w) x y b c d a r s h k i j e = absurd (never first second apart w x c d k i (g y) s r (sym e))
          same (Some v) (Some w) x y b c d a r s h k i j e = let p = first_same first v w b c h k (g x) (g y) r s e in (ap Some p.0, second.once x y d a r s i j p.1)

      pub each : Telling f S leads → Telling g T others → IsTrue (disjoint leads others) → Telling (list_said f g S T) (Joined (Items S) T) (leads ++ others)
      each first second apart = record {
        opens = λ v b j. begins v.0 v.1 j.front j.back j.first j.second;
        once = λ v w b c r s j k e. (let p = same v.0 w.0 v.1 w.1 j.front k.front j.back k.back r s j.first k.first j.second k.second e in ap (λ x. (x, v.1)) p.0 ∙ ap (λ y. (w.0, y)) p.1);
      }
        where
          begins : (vs : List V) (x : W) (b d : List ℕ) → Items S vs b → T x d → Opens (leads ++ others) (list_said f g S T (vs, x))
          begins [] x b d h k = opens_right leads others (g x) (second.opens x d k)
          begins (v ∷ vs) x b d h k = opens_left leads others ((f v ++ flat_map f vs) ++ g x) (opens_more leads (f v ++ flat_map f vs) (g x) (opens_more leads (f v) (flat_map f vs) (first.opens v h.front h.first)))

          -- an item, and then the others and what follows them
          grouped : (v : V) (vs : List V) (x : W) (r : List Symbol) → list_said f g S T (v ∷ vs, x) ++ r ≡ (f v ++ list_said f g S T (vs, x)) ++ r
          grouped v vs x r = ap (λ l. l ++ r) (append_assoc (f v) (flat_map f vs) (g x))

          same : (vs ws : List V) (x y : W) (b c d a : List ℕ) (r s : List Symbol) → Items S vs b → Items S ws c → T x d → T y a → list_said f g S T (vs, x) ++ r ≡ list_said f g S T (ws, y) ++ s → (vs ≡ ws) × (x ≡ y)
          same [] [] x y b c d a r s h k i j e = (refl, second.once x y d a r s i j e)
          same (v ∷ vs) [] x y b c d a r s h k i j e = absurd (never first second apart v y h.front a h.first j (list_said f g S T (vs, x)) r s (sym (grouped v vs x r) ∙ e))
          same [] (w ∷ ws) x y b c d a r s h k i j e = absurd (never first second apart w x k.front d k.first i (list_said f g S T (ws, y)) s r (sym (grouped w ws y s) ∙ sym e))
          same (v ∷ vs) (w ∷ ws) x y b c d a r s h k i j e =
              let p = first_same first v w h.front k.front h.first k.first (list_said f g S T (vs, x)) (list_said f g S T (ws, y)) r s (sym (grouped v vs x r) ∙ e ∙ grouped w ws y s) in
              let q = same vs ws x y h.back k.back d a r s h.second k.second i j p.1 in
              (ap (λ z. z ∷ vs) p.0 ∙ ap (λ zs. w ∷ zs) q.0, q.1)

      pub or_else : Telling f S leads → Telling g T others → IsTrue (disjoint leads others) → Telling (either_said f g S T) (OneOf S T) (leads ++ others)
      or_else first second apart = record { opens = begins; once = same }
        where
          begins : (z : V ⊎ W) (b : List ℕ) → OneOf S T z b → Opens (leads ++ others) (either_said f g S T z)
          begins (inl v) b h = opens_left leads others (f v) (first.opens v b h)
          begins (inr w) b h = opens_right leads others (g w) (second.opens w b h)

          same : (z u : V ⊎ W) (b c : List ℕ) (r s : List Symbol) → OneOf S T z b → OneOf S T u c → either_said f g S T z ++ r ≡ either_said f g S T u ++ s → z ≡ u
          same (inl v) (inl w) b c r s h k e = ap inl (first.once v w b c r s h k e)
          same (inr v) (inr w) b c r s h k e = ap inr (second.once v w b c r s h k e)
          same (inl v) (inr w) b c r s h k e = absurd (opens_apart leads others (f v) (g w) r s apart (first.opens v b h) (second.opens w c k) e)
          same (inr w) (inl v) b c r s h k e = absurd (opens_apart leads others (f v) (g w) s r apart (first.opens v c k) (second.opens w b h) (sym e))

-- a tag that no field says, and the part after it
pub after : {V : Type 0} {f : V → List Symbol} {S : V → List ℕ → Type 0} {leads : List (Option ℕ)} (t : TagHead) → Telling f S leads → Telling (pair_said nothing_said f (Head t) S) (Joined (Head t) S) leads
after t part = record {
  opens = λ v b j. part.opens v.1 j.back j.second;
  once = λ v w b c r s j k e. ap (λ x. (tt, x)) (part.once v.1 w.1 j.back k.back r s j.second k.second e);
}
