-- The languages of parts, and where they stop.
use Rattle.std.specs.Prelude.{◌≡◌, ℕ, ◌+◌, ◌≤◌, ◌⊎◌, List, [], ◌∷◌, ◌++◌, length, take, drop, Bool, true, false, ◌||◌, not, IsTrue, Option, None, Some, refl}
use Rattle.std.proofs.Common.{sym, ◌∙◌, ap, subst, inl, inr, arith}
use Rattle.std.proofs.lemmas.Bool.{and_parts, or_cases, or_left, or_right, eqb-true, not-true, both_ways}
use Rattle.std.proofs.lemmas.List.{take-append-drop, length-take-le}
use Rattle.bac_tag.specs.declared.refusals.Why.TheVariants.{Tag}
use Rattle.bac_tag.specs.Spelling.{EndsItself, IsRefusal, Joined, OneOf, CanFollow}
use Rattle.bac_tag.specs.Laws.Spelling.{refused_first, refused_second, refused_alike, refused_choice, refused_choice_second, refused_at_first, JoinedBy-end}
use Rattle.bac_field_parts.specs.Symbols.{Symbol, lead_of, same_lead, has, disjoint, Opens, Lawful, IsStop}

-- ---- leads

same_lead_is : (m n : Option ℕ) → IsTrue (same_lead m n) → m ≡ n
same_lead_is (Some m) (Some n) h = ap Some (eqb-true m n h)
same_lead_is None None h = refl
same_lead_is (Some m) None h = absurd (cc)
same_lead_is None (Some n) h = absurd (cc)

or_false : (a b : Bool) → (a || b) ≡ false → (a ≡ false) × (b ≡ false)
or_false true b h = absurd (cc)
or_false false b h = (refl, h)

pub apart : (leads others : List (Option ℕ)) (n : Option ℕ) → IsTrue (disjoint leads others) → IsTrue (has leads n) → IsTrue (has others n) → ⊥
apart [] others n d h k = absurd (cc)
apart (m ∷ leads) others n d h k =
    let p = and_parts (not (has others m)) (disjoint leads others) d in
    elim (or_cases (same_lead m n) (has leads n) h) [
      | inl e ↦ both_ways (has others m) (not-true (has others m) p.0) (subst (λ (i : Option ℕ). has others i ≡ true) (sym (same_lead_is m n e)) k)
      | inr l ↦ apart leads others n p.1 l k
    ]

has_left : (leads others : List (Option ℕ)) (n : Option ℕ) → IsTrue (has leads n) → IsTrue (has (leads ++ others) n)
has_left [] others n h = absurd (cc)
has_left (m ∷ leads) others n h = elim (or_cases (same_lead m n) (has leads n) h) [
  | inl e ↦ or_left (same_lead m n) (has (leads ++ others) n) e
  | inr l ↦ or_right (same_lead m n) (has (leads ++ others) n) (has_left leads others n l)
]

has_right : (leads others : List (Option ℕ)) (n : Option ℕ) → IsTrue (has others n) → IsTrue (has (leads ++ others) n)
has_right [] others n h = h
has_right (m ∷ leads) others n h = or_right (same_lead m n) (has (leads ++ others) n) (has_right leads others n h)

pub has_first : (leads others : List (Option ℕ)) (n : Option ℕ) → has leads n ≡ true → has (leads ++ others) n ≡ true
has_first leads others n h = has_left leads others n h

pub has_second : (leads others : List (Option ℕ)) (n : Option ℕ) → has leads n ≡ false → has (leads ++ others) n ≡ has others n
has_second [] others n h = refl
has_second (m ∷ leads) others n h =
    let p = or_false (same_lead m n) (has leads n) h in
    ap (λ (b : Bool). b || has (leads ++ others) n) p.0 ∙ has_second leads others n p.1

pub opens_left : (leads others : List (Option ℕ)) (es : List Symbol) → Opens leads es → Opens (leads ++ others) es
opens_left leads others es o = record { first = o.first; rest = o.rest; symbols = o.symbols; among = has_left leads others (lead_of o.first) o.among }

pub opens_right : (leads others : List (Option ℕ)) (es : List Symbol) → Opens others es → Opens (leads ++ others) es
opens_right leads others es o = record { first = o.first; rest = o.rest; symbols = o.symbols; among = has_right leads others (lead_of o.first) o.among }

pub opens_more : (leads : List (Option ℕ)) (es more : List Symbol) → Opens leads es → Opens leads (es ++ more)
opens_more leads es more o = record { first = o.first; rest = o.rest ++ more; symbols = ap (λ (l : List Symbol). l ++ more) o.symbols; among = o.among }

pub opens_apart : (leads others : List (Option ℕ)) (es fs r s : List Symbol) → IsTrue (disjoint leads others) → Opens leads es → Opens others fs → es ++ r ≡ fs ++ s → ⊥
opens_apart leads others es fs r s d o p e =
    let firsts : o.first ∷ (o.rest ++ r) ≡ p.first ∷ (p.rest ++ s) = ap (λ (l : List Symbol). l ++ r) (sym o.symbols) ∙ e ∙ ap (λ (l : List Symbol). l ++ s) p.symbols in
    let same : o.first ≡ p.first = cc in
    apart leads others (lead_of p.first) d (subst (λ (f : Symbol). IsTrue (has leads (lead_of f))) same o.among) p.among

-- ---- what does not begin a list of the language

module _ (L : Unit {0} → List Symbol → Type 0) (leads : List (Option ℕ)) (lawful : Lawful L leads) where
  not_empty : (es : List Symbol) → L tt es → es ≡ [] → ⊥
  not_empty es l e = let o = lawful.opens es l in cc

  -- a first symbol that is not among the leads
  pub stop_at_first : (first : Symbol) (rest : List Symbol) → (IsTrue (has leads (lead_of first)) → ⊥) → IsStop L (first ∷ rest) 0
  stop_at_first first rest other =
      refused_at_first L first rest Tag (λ e. absurd (cc)) (record { value = tt; rest = lawful.some.0; spelled = lawful.some.1 }) (λ u l. not_empty [] l refl)
      (λ u b l. (let o = lawful.opens (first ∷ b) l in let same : o.first ≡ first = cc in other (subst (λ (f : Symbol). IsTrue (has leads (lead_of f))) same o.among)))

-- ---- one part after another

module _ (L M : Unit {0} → List Symbol → Type 0) (leads others : List (Option ℕ)) (first : Lawful L leads) (second : Lawful M others) where
  follows : CanFollow L (λ (u : Unit {0}). M)
  follows u b l = (tt, second.some.0, second.some.1)

  both_ends : EndsItself (Joined L M)
  both_ends = JoinedBy-end L (λ (u : Unit {0}). M) first.ends (λ u. second.ends)

  pub both_stop_first : (es : List Symbol) (p : ℕ) → IsStop L es p → IsRefusal (Joined L M) es (record { place = p; why = Tag })
  both_stop_first es p h = refused_first L (λ (u : Unit {0}). M) es (record { place = p; why = Tag }) follows h

  pub both_stop_second : (es : List Symbol) (n p : ℕ) → n ≤ length es → L tt (take n es) → IsStop M (drop n es) p → IsRefusal (Joined L M) es (record { place = n + p; why = Tag })
  both_stop_second es n p within l h =
      let stop = refused_second L (λ (u : Unit {0}). M) tt (take n es) (drop n es) (record { place = p; why = Tag }) first.ends l h in
      subst (λ (m : ℕ). IsRefusal (Joined L M) es (record { place = m + p; why = Tag })) (length-take-le n es within)
      (subst (λ (l : List Symbol). IsRefusal (Joined L M) l (record { place = length (take n es) + p; why = Tag })) (take-append-drop n es) stop)

  pub both_lawful : Lawful (λ (u : Unit {0}). Joined L M (tt, tt)) leads
  both_lawful = record {
    opens = λ es j. subst (λ (l : List Symbol). Opens leads l) (sym j.octets) (opens_more leads j.front j.back (first.opens j.front j.first));
    ends = λ u v b c r s j k e. ((both_ends (tt, tt) (tt, tt) b c r s j k e).0, refl);
    some = (first.some.0 ++ second.some.0, record { front = first.some.0; back = second.some.0; first = first.some.1; second = second.some.1; octets = refl });
  }

-- ---- either of two parts, by the first symbol

module _ (L M : Unit {0} → List Symbol → Type 0) (leads others : List (Option ℕ)) (first : Lawful L leads) (second : Lawful M others) (d : IsTrue (disjoint leads others)) where
  abbrev Either : Unit {0} → List Symbol → Type 0
  Either u es = L u es ⊎ M u es

  one_to : (x : Unit {0} ⊎ Unit {0}) (b : List Symbol) → OneOf L M x b → (y : Unit {0}) × Either y b
  one_to (inl tt) b l = (tt, inl l)
  one_to (inr tt) b m = (tt, inr m)

  one_from : (y : Unit {0}) (b : List Symbol) → Either y b → (x : Unit {0} ⊎ Unit {0}) × OneOf L M x b
  one_from tt b (inl l) = (inl tt, l)
  one_from tt b (inr m) = (inr tt, m)

  never : (b c r s : List Symbol) → L tt b → M tt c → b ++ r ≡ c ++ s → ⊥
  never b c r s l m e = opens_apart leads others b c r s d (first.opens b l) (second.opens c m) e

  either_ends : (b c r s : List Symbol) → Either tt b → Either tt c → b ++ r ≡ c ++ s → b ≡ c
  either_ends b c r s (inl l) (inl m) e = (first.ends tt tt b c r s l m e).0
  either_ends b c r s (inr l) (inr m) e = (second.ends tt tt b c r s l m e).0
  either_ends b c r s (inl l) (inr m) e = absurd (never b c r s l m e)
  either_ends b c r s (inr m) (inl l) e = absurd (never c b s r l m (sym e))

  either_opens : (es : List Symbol) → Either tt es → Opens (leads ++ others) es
  either_opens es (inl l) = opens_left leads others es (first.opens es l)
  either_opens es (inr m) = opens_right leads others es (second.opens es m)

  pub either_lawful : Lawful Either (leads ++ others)
  either_lawful = record {
    opens = either_opens;
    ends = λ u v b c r s l m e. (either_ends b c r s l m e, refl);
    some = (first.some.0, inl first.some.1);
  }

  pub either_stop_first : (k : Symbol) (es : List Symbol) (p : ℕ) → IsTrue (has leads (lead_of k)) → IsStop L (k ∷ es) p → IsStop Either (k ∷ es) p
  either_stop_first k es p h stop =
      let other = stop_at_first M others second k es (λ g. apart leads others (lead_of k) d h g) in
      refused_alike (OneOf L M) Either (k ∷ es) (record { place = p; why = Tag }) one_to one_from
      (refused_choice L M (k ∷ es) (record { place = p; why = Tag }) (record { place = 0; why = Tag }) (omega arith) stop other)

  pub either_stop_second : (k : Symbol) (es : List Symbol) (p : ℕ) → (IsTrue (has leads (lead_of k)) → ⊥) → IsStop M (k ∷ es) p → IsStop Either (k ∷ es) p
  either_stop_second k es p h stop =
      let other = stop_at_first L leads first k es h in
      refused_alike (OneOf L M) Either (k ∷ es) (record { place = p; why = Tag }) one_to one_from
      (refused_choice_second L M (k ∷ es) (record { place = 0; why = Tag }) (record { place = p; why = Tag }) (omega arith) other stop)

-- ---- the same lists

module _ (L M : Unit {0} → List Symbol → Type 0) (to : (es : List Symbol) → L tt es → M tt es) (from : (es : List Symbol) → M tt es → L tt es) where
  pub lawful_alike : (leads : List (Option ℕ)) → Lawful L leads → Lawful M leads
  lawful_alike leads l = record {
    opens = λ es m. l.opens es (from es m);
    ends = λ u v b c r s x y e. l.ends tt tt b c r s (from b x) (from c y) e;
    some = (l.some.0, to l.some.0 l.some.1);
  }

  pub stop_alike : (es : List Symbol) (p : ℕ) → IsStop L es p → IsStop M es p
  stop_alike es p h = refused_alike L M es (record { place = p; why = Tag }) (λ u b l. (tt, to b l)) (λ u b m. (tt, from b m)) h
