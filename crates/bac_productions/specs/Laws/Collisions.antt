-- Where nothing collides, the next head says what comes next.
use Rattle.std.specs.Prelude.{◌≡◌, Bool, true, false, cond, not, ◌&&◌, List, [], ◌∷◌, ◌++◌, IsTrue}
use Rattle.std.proofs.Common.{refl}
use Rattle.bac_productions.specs.Leads.{Lead, has, disjoint}
use Rattle.bac_productions.specs.Collisions.{Collision, begins_again, may_be_nothing, plain, common, unless, of_list}

front_none : (xs ys : List Collision) → xs ++ ys ≡ [] → xs ≡ []
front_none [] ys e = refl
front_none (x ∷ xs) ys e = cc

back_none : (xs ys : List Collision) → xs ++ ys ≡ [] → ys ≡ []
back_none [] ys e = e
back_none (x ∷ xs) ys e = cc

pub unless_none : (test : Bool) (why : Collision) → unless test why ≡ [] → IsTrue test
unless_none true why e = refl
unless_none false why e = cc

pub common_none : (why : Lead → Collision) (leads others : List Lead) → common why leads others ≡ [] → IsTrue (disjoint leads others)
common_none why [] others e = refl
common_none why (t ∷ leads) others e = by (has others t) (common_none why leads others) e
  where
    by : (test : Bool) → (common why leads others ≡ [] → IsTrue (disjoint leads others)) → cond test (why (plain t) ∷ common why leads others) (common why leads others) ≡ [] → IsTrue (not test && disjoint leads others)
    by true rest e = absurd (cc e)
    by false rest e = rest e

and_true : (a b : Bool) → IsTrue a → IsTrue b → IsTrue (a && b)
and_true true b h k = k
and_true false b h k = cc

-- of two or three lists of collisions, each with the test that holds where it is empty
pub none_of_two : (xs ys : List Collision) (a b : Bool) → (xs ≡ [] → IsTrue a) → (ys ≡ [] → IsTrue b) → xs ++ ys ≡ [] → IsTrue (a && b)
none_of_two xs ys a b f g e = and_true a b (f (front_none xs ys e)) (g (back_none xs ys e))

pub none_of_three : (xs ys zs : List Collision) (a b c : Bool) → (xs ≡ [] → IsTrue a) → (ys ≡ [] → IsTrue b) → (zs ≡ [] → IsTrue c) → xs ++ (ys ++ zs) ≡ [] → IsTrue (a && (b && c))
none_of_three xs ys zs a b c f g h = none_of_two xs (ys ++ zs) a (b && c) f (none_of_two ys zs b c g h)

pub of_list_none : (xs : List Collision) (e : Bool) (os cs : List Lead) (a : Bool) → (xs ≡ [] → IsTrue a) → of_list xs e os cs ≡ [] → IsTrue (a && (not e && disjoint os cs))
of_list_none xs e os cs a f =
    none_of_three xs (unless (not e) may_be_nothing) (common begins_again os cs) a (not e) (disjoint os cs) f (unless_none (not e) may_be_nothing) (common_none begins_again os cs)
