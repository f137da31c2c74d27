-- What a builder's steps do.
use Rattle.std.proofs.Common.{◌≡◌, Bool, false, ℕ, ◌<◌, ◌≤◌, List, [], ◌∷◌, ◌++◌, length, reverse, refl, sym, ◌∙◌, ap, subst, arith}
use Rattle.std.specs.Prelude.{◌==◌, Option, Some}
use Rattle.std.specs.Option.{option_to_list}
use Rattle.std.specs.List.{AllByRecursion}
use Rattle.std.proofs.lemmas.Bool.{eqb-false}
use Rattle.std.proofs.lemmas.List.{length-reverse, reverse-append}
use Rattle.bac_data.specs.Events.{Event, opening, closing, Opens}
use Rattle.bac_data.specs.Building.{HasOpen, AreOpen, MayFollow}
use Rattle.bac_data.proofs.OpenLemmas.{Opens-append, Opens-one}

-- ---- groups that are open

pub has_open_one : (es : List Event) (m n : ℕ) → HasOpen 32 es m → HasOpen 32 es n → m ≡ n
has_open_one es m n (s, o, l) (t, p, k) = sym l ∙ ap length (Opens-one 32 es [] s t o p) ∙ k

pub groups_open : (es : List Event) (groups : List ℕ) (n : ℕ) → AreOpen es groups → length groups ≡ n → HasOpen 32 es n
groups_open es groups n h e = (reverse groups, h.opened, length-reverse groups ∙ e)

-- a list that is not empty
pub not_none : (n : ℕ) (b : Bool) → b ≡ (n == 0) → b ≡ false → n ≡ 0 → ⊥
not_none n b e f = eqb-false n 0 (sym e ∙ f)

pub last_popped : (gs gs' : List ℕ) (r : Option ℕ) (number : ℕ) → gs ≡ gs' ++ option_to_list r → r ≡ Some number → gs ≡ gs' ++ number ∷ []
last_popped gs gs' r number e f = e ∙ ap (λ (r : Option ℕ). gs' ++ option_to_list r) f

-- no event, and no group
pub none_open : AreOpen [] []
none_open = record { opened = refl; numbers = tt }

-- an event that opens and closes nothing
pub open_kept : (es : List Event) (e : Event) (groups : List ℕ) → AreOpen es groups → ((s : List ℕ) → Opens 32 s (e ∷ []) s) → AreOpen (es ++ e ∷ []) groups
open_kept es e groups h keeps = record { opened = Opens-append 32 es (e ∷ []) [] (reverse groups) (reverse groups) h.opened (keeps (reverse groups)); numbers = h.numbers }

reverse_last : (groups : List ℕ) (number : ℕ) → reverse (groups ++ number ∷ []) ≡ number ∷ reverse groups
reverse_last groups number = reverse-append groups (number ∷ [])

numbers_more : (groups : List ℕ) (number : ℕ) → AllByRecursion (λ n. n ≤ 254) groups → number ≤ 254 → AllByRecursion (λ n. n ≤ 254) (groups ++ number ∷ [])
numbers_more [] number h small = (small, tt)
numbers_more (g ∷ gs) number h small = (h.0, numbers_more gs number h.1 small)

pub open_more : (es : List Event) (groups : List ℕ) (number : ℕ) → AreOpen es groups → number ≤ 254 → length groups < 32 → AreOpen (es ++ opening number ∷ []) (groups ++ number ∷ [])
open_more es groups number h small room = record {
  opened = subst (Opens 32 [] (es ++ opening number ∷ [])) (sym (reverse_last groups number))
      (Opens-append 32 es (opening number ∷ []) [] (reverse groups) (number ∷ reverse groups) h.opened (omega (arith, length-reverse groups), refl));
  numbers = numbers_more groups number h.numbers small;
}

numbers_in_front : (groups : List ℕ) (number : ℕ) → AllByRecursion (λ n. n ≤ 254) (groups ++ number ∷ []) → AllByRecursion (λ n. n ≤ 254) groups × (number ≤ 254)
numbers_in_front [] number h = (tt, h.0)
numbers_in_front (g ∷ gs) number h = let rest = numbers_in_front gs number h.1 in ((h.0, rest.0), rest.1)

-- the innermost group, and the others
module _ (es : List Event) (groups outer : List ℕ) (number : ℕ) (h : AreOpen es groups) (is : groups ≡ outer ++ number ∷ []) where
  pub innermost_opened : Opens 32 [] es (number ∷ reverse outer)
  innermost_opened = subst (Opens 32 [] es) (ap reverse is ∙ reverse_last outer number) h.opened

  pub open_less : AreOpen (es ++ closing number ∷ []) outer
  open_less = record {
    opened = Opens-append 32 es (closing number ∷ []) [] (number ∷ reverse outer) (reverse outer) innermost_opened (reverse outer, refl, refl);
    numbers = (numbers_in_front outer number (subst (AllByRecursion (λ n. n ≤ 254)) is h.numbers)).0;
  }

-- ---- what may follow

-- a group that may begin finds room
pub room_follows : (es : List Event) (groups : List ℕ) (number : ℕ) → AreOpen es groups → MayFollow 32 es (opening number) → length groups < 32
room_follows es groups number h (s, t, o, (room, e)) =
    let same : s ≡ reverse groups = Opens-one 32 es [] s (reverse groups) o h.opened in
    omega (arith, ap length same, length-reverse groups)

first_same : {a b : ℕ} {x y : List ℕ} → a ∷ x ≡ b ∷ y → a ≡ b
first_same e = cc

-- the group that may end is the innermost one
module _ (es : List Event) (groups : List ℕ) (number : ℕ) (h : AreOpen es groups) (f : MayFollow 32 es (closing number)) where
  ends_some : (r : List ℕ) × (reverse groups ≡ number ∷ r)
  ends_some = let (s, t, o, (r, e, i)) = f in (r, Opens-one 32 es [] (reverse groups) s h.opened o ∙ e)

  pub some_ends : 0 < length groups
  some_ends = let (r, e) = ends_some in omega (arith, ap length e, length-reverse groups)

  pub ends_innermost : (outer : List ℕ) (last : ℕ) → groups ≡ outer ++ last ∷ [] → AreOpen (es ++ closing number ∷ []) outer
  ends_innermost outer last is =
      let (r, e) = ends_some in
      let same : last ≡ number = first_same (sym (reverse_last outer last) ∙ ap reverse (sym is) ∙ e) in
      subst (λ (n : ℕ). AreOpen (es ++ closing n ∷ []) outer) same (open_less es groups outer last h is)
