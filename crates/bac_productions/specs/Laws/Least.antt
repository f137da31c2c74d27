-- The least spellings of parts joined, and marks against them.
use Rattle.std.specs.Prelude.{◌≡◌, ◌↔◌, ℕ, ◌+◌, ◌<◌, ◌≤◌, List, [], ◌∷◌, ◌++◌, length, take, drop, Option, Some, None, IfSome, IfNone, Result, Ok, Err, OnOk, OnErr, nat_lt, refl}
use Rattle.std.proofs.Common.{sym, ◌∙◌, ap, subst, append_assoc, inl, inr, arith}
use Rattle.std.proofs.lemmas.List.{append-nil, length-take-le}
use Rattle.std.proofs.lemmas.Bool.{cases_lt, lt-ltb, le-ltb, cond-true, cond-false}
use Rattle.bac_tag.specs.Octets.{NoGreater, joined_mark, Extends}
use Rattle.bac_tag.specs.Laws.Octets.{NoGreater-append, NoGreater-same, mark_first, mark-append}
use Rattle.bac_tag.specs.Spelling.{IsLeast, Joins, HasMark, AppendsLeast}
use Rattle.bac_productions.specs.Productions.{Items, mark_within}
use Rattle.bac_productions.specs.Laws.Longest.{take_add}

-- ---- the least list

pub least_joined : {P Q : List ℕ → Type 0} {a b : List ℕ} → IsLeast P a → IsLeast Q b → IsLeast (Joins P Q) (a ++ b)
least_joined {P} {Q} {a} {b} L M = record {
  member = record { front = a; back = b; first = L.member; second = M.member; octets = refl };
  least = λ c j. subst (NoGreater (a ++ b)) (sym j.octets) (NoGreater-append a j.front b j.back (L.least j.front j.first) (M.least j.back j.second));
}

-- sets of the same lists have the same least one
pub least_alike : {P Q : List ℕ → Type 0} {a : List ℕ} → ((b : List ℕ) → P b ↔ Q b) → IsLeast P a → IsLeast Q a
least_alike {P} {Q} {a} same L = record { member = (same a).0 L.member; least = λ c q. L.least c ((same c).1 q) }

pub least_nothing : IsLeast (λ (l : List ℕ). l ≡ []) []
least_nothing = record { member = refl; least = λ c e. NoGreater-same [] c (sym e) }

-- one item more is behind the others
items_split : {V : Type 0} (S : V → List ℕ → Type 0) (vs : List V) (v : V) (c : List ℕ) → Items S (vs ++ v ∷ []) c → Joins (Items S vs) (S v) c
items_split S [] v c m = record { front = []; back = c; first = refl; second = subst (S v) (sym (m.octets ∙ ap (λ (l : List ℕ). m.front ++ l) m.second ∙ append-nil m.front)) m.first; octets = refl }
items_split S (w ∷ vs) v c m =
    let r = items_split S vs v m.back m.second in
    record {
      front = m.front ++ r.front;
      back = r.back;
      first = record { front = m.front; back = r.front; first = m.first; second = r.first; octets = refl };
      second = r.second;
      octets = m.octets ∙ ap (λ (l : List ℕ). m.front ++ l) r.octets ∙ sym (append_assoc m.front r.front r.back);
    }

items_more : {V : Type 0} (S : V → List ℕ → Type 0) (vs : List V) (v : V) (c : List ℕ) → Joins (Items S vs) (S v) c → Items S (vs ++ v ∷ []) c
items_more S [] v c j = record { front = c; back = []; first = subst (S v) (sym (j.octets ∙ ap (λ (l : List ℕ). l ++ j.back) j.first)) j.second; second = refl; octets = sym (append-nil c) }
items_more S (w ∷ vs) v c j =
    let i = j.first in
    record {
      front = i.front;
      back = i.back ++ j.back;
      first = i.first;
      second = items_more S vs v (i.back ++ j.back) (record { front = i.back; back = j.back; first = i.second; second = j.second; octets = refl });
      octets = j.octets ∙ ap (λ (l : List ℕ). l ++ j.back) i.octets ∙ append_assoc i.front i.back j.back;
    }

items_alike : {V : Type 0} (S : V → List ℕ → Type 0) (vs : List V) (v : V) (c : List ℕ) → Joins (Items S vs) (S v) c ↔ Items S (vs ++ v ∷ []) c
items_alike S vs v c = (items_more S vs v c, items_split S vs v c)

pub least_item : {V : Type 0} (S : V → List ℕ → Type 0) (vs : List V) (v : V) {a b : List ℕ} → IsLeast (Items S vs) a → IsLeast (S v) b → IsLeast (Items S (vs ++ v ∷ [])) (a ++ b)
least_item S vs v L M = least_alike (items_alike S vs v) (least_joined L M)

-- ---- what is appended

pub appends_joined : {P Q : List ℕ → Type 0} {a b c : List ℕ} → AppendsLeast P a b → AppendsLeast Q b c → AppendsLeast (Joins P Q) a c
appends_joined {P} {Q} {a} L M = record { more = L.more ++ M.more; is_least = least_joined L.is_least M.is_least; new_is = M.new_is ∙ ap (λ (l : List ℕ). l ++ M.more) L.new_is ∙ append_assoc a L.more M.more }

-- what goes on from what goes on
pub extends_more : (a b c : List ℕ) → Extends a b → Extends b c → Extends a c
extends_more a b c (more, e) (last, f) = (more ++ last, f ∙ ap (λ (l : List ℕ). l ++ last) e ∙ append_assoc a more last)

-- and then a list is appended, or nothing
pub extends_written : {X E : Type 0} (result : Result X E) (a b c w : List ℕ) → Extends a b → OnOk result (c ≡ b ++ w) → OnErr result (c ≡ b) → Extends a c
extends_written (Ok x) a b c w long ok err = extends_more a b c long (w, ok)
extends_written (Err e) a b c w (more, is) ok err = (more, err ∙ is)

pub appends_nothing : (a : List ℕ) → AppendsLeast (λ (l : List ℕ). l ≡ []) a a
appends_nothing a = record { more = []; is_least = least_nothing; new_is = sym (append-nil a) }

pub appends_item : {V : Type 0} (S : V → List ℕ → Type 0) (vs : List V) (v : V) {a b c : List ℕ} → AppendsLeast (Items S vs) a b → AppendsLeast (S v) b c → AppendsLeast (Items S (vs ++ v ∷ [])) a c
appends_item S vs v {a} L M = record { more = L.more ++ M.more; is_least = least_item S vs v L.is_least M.is_least; new_is = M.new_is ∙ ap (λ (l : List ℕ). l ++ M.more) L.new_is ∙ append_assoc a L.more M.more }

pub appends_alike : {P Q : List ℕ → Type 0} {a b : List ℕ} → ((c : List ℕ) → P c ↔ Q c) → AppendsLeast P a b → AppendsLeast Q a b
appends_alike same L = record { more = L.more; is_least = least_alike same L.is_least; new_is = L.new_is }

-- ---- marks

pub mark_joined : {P Q : List ℕ → Type 0} {a b : List ℕ} {m o : Option ℕ} → HasMark P a m → HasMark Q b o → HasMark (Joins P Q) (a ++ b) (joined_mark m (length a) o)
mark_joined {P} {Q} {a} {b} {m} {o} D E = record { least = D.least ++ E.least; is_least = least_joined D.is_least E.is_least; is_mark = mark-append a b D.least E.least m o D.is_mark E.is_mark }

pub mark_nothing : HasMark (λ (l : List ℕ). l ≡ []) [] None
mark_nothing = record { least = []; is_least = least_nothing; is_mark = refl }

pub mark_item : {V : Type 0} (S : V → List ℕ → Type 0) (vs : List V) (v : V) {a b : List ℕ} {m o : Option ℕ} → HasMark (Items S vs) a m → HasMark (S v) b o → HasMark (Items S (vs ++ v ∷ [])) (a ++ b) (joined_mark m (length a) o)
mark_item S vs v {a} {b} {m} {o} D E = record { least = D.least ++ E.least; is_least = least_item S vs v D.is_least E.is_least; is_mark = mark-append a b D.least E.least m o D.is_mark E.is_mark }

pub mark_alike : {P Q : List ℕ → Type 0} {a : List ℕ} {m : Option ℕ} → ((b : List ℕ) → P b ↔ Q b) → HasMark P a m → HasMark Q a m
mark_alike same D = record { least = D.least; is_least = least_alike same D.is_least; is_mark = D.is_mark }

-- the marks of two parts at the front of an input
pub mark_both : {P Q : List ℕ → Type 0} {m o : Option ℕ} (input : List ℕ) (n k : ℕ) (r : Option ℕ) → n ≤ length input → HasMark P (take n input) m → HasMark Q (take k (drop n input)) o → r ≡ joined_mark m n o → HasMark (Joins P Q) (take (n + k) input) r
mark_both {P} {Q} {m} {o} input n k r within D E e =
    let joined = mark_joined D E in
    rw (e, take_add n k input within) (subst (λ (i : ℕ). HasMark (Joins P Q) (take n input ++ take k (drop n input)) (joined_mark m i o)) (length-take-le n input within) joined)

-- ---- marks told by how many octets stand in front of them

pub within_some : (taken agreed : ℕ) → agreed < taken → mark_within taken agreed ≡ Some agreed
within_some taken agreed lt = cond-true (nat_lt agreed taken) (Some agreed) None (lt-ltb agreed taken lt)

pub within_none : (taken agreed : ℕ) → taken ≤ agreed → mark_within taken agreed ≡ None
within_none taken agreed le = cond-false (nat_lt agreed taken) (Some agreed) None (le-ltb agreed taken le)

-- of two parts
pub joined_within : (n s k t r : ℕ) → (s < n → r ≡ s) → (n ≤ s → r ≡ n + t) → mark_within (n + k) r ≡ joined_mark (mark_within n s) n (mark_within k t)
joined_within n s k t r first second = elim (cases_lt s n) [
  | inl lt ↦ ap (mark_within (n + k)) (first lt) ∙ within_some (n + k) s (omega arith) ∙ sym (ap (λ (m : Option ℕ). joined_mark m n (mark_within k t)) (within_some n s lt))
  | inr le ↦ elim (cases_lt t k) [
    | inl lt ↦ ap (mark_within (n + k)) (second le) ∙ within_some (n + k) (n + t) (omega arith)
        ∙ sym (ap (λ (m : Option ℕ). joined_mark m n (mark_within k t)) (within_none n s le) ∙ ap (joined_mark None n) (within_some k t lt))
    | inr more ↦ ap (mark_within (n + k)) (second le) ∙ within_none (n + k) (n + t) (omega arith)
        ∙ sym (ap (λ (m : Option ℕ). joined_mark m n (mark_within k t)) (within_none n s le) ∙ ap (joined_mark None n) (within_none k t more))
  ]
]

-- where the first part has one, that of the second need not be known
mark_ahead : {P Q : List ℕ → Type 0} {a c : List ℕ} {place : ℕ} (b : List ℕ) → HasMark P a (Some place) → IsLeast Q c → HasMark (Joins P Q) (a ++ b) (Some place)
mark_ahead {P} {Q} {a} {c} {place} b D L = record { least = D.least ++ c; is_least = least_joined D.is_least L; is_mark = mark_first a b D.least c place D.is_mark }

pub mark_either : {P Q : List ℕ → Type 0} (input : List ℕ) (n s k t r : ℕ) → n ≤ length input → s ≤ n → HasMark P (take n input) (mark_within n s) → (c : List ℕ) × IsLeast Q c → (s ≡ n → HasMark Q (take k (drop n input)) (mark_within k t))
    → (s < n → r ≡ s) → (n ≤ s → r ≡ n + t) → HasMark (Joins P Q) (take (n + k) input) (mark_within (n + k) r)
mark_either {P} {Q} input n s k t r within le D L E first second = elim (cases_lt s n) [
  | inl lt ↦
      let told : mark_within (n + k) r ≡ Some s = ap (mark_within (n + k)) (first lt) ∙ within_some (n + k) s (omega arith) in
      rw (told, take_add n k input within) (mark_ahead (take k (drop n input)) (subst (HasMark P (take n input)) (within_some n s lt) D) L.1)
  | inr ge ↦ mark_both input n k (mark_within (n + k) r) within D (E (omega arith)) (joined_within n s k t r first second)
]

-- the same of an item behind others
pub mark_either_item : {V : Type 0} (S : V → List ℕ → Type 0) (vs : List V) (v : V) (input : List ℕ) (n s k t r : ℕ) → n ≤ length input → s ≤ n → HasMark (Items S vs) (take n input) (mark_within n s) → (c : List ℕ) × IsLeast (S v) c
    → (s ≡ n → HasMark (S v) (take k (drop n input)) (mark_within k t)) → (s < n → r ≡ s) → (n ≤ s → r ≡ n + t) → HasMark (Items S (vs ++ v ∷ [])) (take (n + k) input) (mark_within (n + k) r)
mark_either_item S vs v input n s k t r within le D L E first second = mark_alike (items_alike S vs v) (mark_either input n s k t r within le D L E first second)

-- a mark lies within the octets
pub mark_below : {P : List ℕ → Type 0} (input : List ℕ) (n : ℕ) (m : Option ℕ) (r : ℕ) → n ≤ length input → HasMark P (take n input) m → IfNone m (r ≡ n) → IfSome m (λ place. r ≡ place) → r ≤ n
mark_below input n None r within D none some = omega (arith, none)
mark_below input n (Some place) r within D none some = omega (arith, some, D.is_mark.0, length-take-le n input within)

pub mark_place : {P : List ℕ → Type 0} (input : List ℕ) (n : ℕ) (m : Option ℕ) → n ≤ length input → HasMark P (take n input) m → IfSome m (λ place. place < n)
mark_place input n None within D = tt
mark_place input n (Some place) within D = omega (arith, D.is_mark.0, length-take-le n input within)

pub same_below : (n : ℕ) (m : Option ℕ) (r : ℕ) → IfSome m (λ place. place < n) → IfNone m (r ≡ n) → IfSome m (λ place. r ≡ place) → r ≤ n
same_below n None r within none some = omega (arith, none)
same_below n (Some place) r within none some = omega (arith, some, within)

pub mark_told : {P : List ℕ → Type 0} (input : List ℕ) (n : ℕ) (m : Option ℕ) (r : ℕ) → n ≤ length input → HasMark P (take n input) m → IfNone m (r ≡ n) → IfSome m (λ place. r ≡ place) → HasMark P (take n input) (mark_within n r)
mark_told {P} input n None r within D none some = subst (HasMark P (take n input)) (sym (within_none n r (omega (arith, none)))) D
mark_told {P} input n (Some place) r within D none some =
    subst (HasMark P (take n input)) (sym (ap (mark_within n) some ∙ within_some n place (omega (arith, D.is_mark.0, length-take-le n input within)))) D
