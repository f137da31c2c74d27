-- Where the next head does not say what comes next. No part of a production may have one of these collisions.
-- Where one has, the goal that stays open shows it.
use Rattle.std.specs.Prelude.{ℕ, ◌+◌, Bool, true, false, cond, not, List, [], ◌∷◌, ◌++◌}
use Rattle.bac_productions.specs.Leads.{Lead, application, context, opening, closing, has}

-- A collision is a reason why the next head does not say what comes next.
pub data Collision : Type 0 where
  -- this head begins the second of two parts, and may continue the first
  goes_on : Lead → Collision
  -- this head begins both cases of a choice
  begins_both : Lead → Collision
  -- this head begins an item of a list, and may continue the item before it
  begins_again : Lead → Collision
  -- this closing tag closes a group, and may continue what is in it
  closes_early : Lead → Collision
  -- a part that is optional, listed or chosen may have no octets
  may_be_nothing : Collision
  -- no head has this number
  no_such_number : ℕ → Collision

-- The same lead with its number computed, so that a goal shows it.
abbrev pub plain : Lead → Lead
plain (application number) = application (number + 0)
plain (context number) = context (number + 0)
plain (opening number) = opening (number + 0)
plain (closing number) = closing (number + 0)

-- A collision by each lead that is in both lists.
abbrev pub common : (Lead → Collision) → List Lead → List Lead → List Collision
common why [] others = []
common why (t ∷ leads) others = cond (has others t) (why (plain t) ∷ common why leads others) (common why leads others)

-- The collision if the test does not hold, and else none.
abbrev pub unless : Bool → Collision → List Collision
unless true why = []
unless false why = why ∷ []

-- The collisions of a list: those of its items; that an item may have no octets; and those of one item and the next. They
-- follow from the collisions of the items, whether an item may have no octets, its openers and its continuers.
abbrev pub of_list : List Collision → Bool → List Lead → List Lead → List Collision
of_list collisions may_be_empty openers continuers = collisions ++ (unless (not may_be_empty) may_be_nothing ++ common begins_again openers continuers)
