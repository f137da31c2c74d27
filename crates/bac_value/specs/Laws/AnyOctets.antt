-- Laws on types of which any octets, from so many to so many, are the one list of a value.
use Rattle.std.proofs.Common.{◌≡◌, ℕ, ◌≤◌, List, [], ◌++◌, length, arith, sym, subst}
use Rattle.bac_tag.specs.Octets.{IsOctets}
use Rattle.bac_tag.specs.Laws.Octets.{zeros_to, octets_filled, length-filled}
use Rattle.bac_value.specs.Primitives.{IsTheList, IsBegun}
use Rattle.bac_value.specs.Laws.Primitives.{the_list_once}

pub record AreAnyOctets {V : Type 0} (shortest longest : ℕ) (IsValue : V → Type 0) (list : V → List ℕ) : Type 0 where
  -- two values have two lists
  pub once : (a b : V) → IsValue a → IsValue b → list a ≡ list b → a ≡ b
  -- a list is of so many octets
  pub sized : (value : V) → IsValue value → (shortest ≤ length (list value)) × (length (list value) ≤ longest)
  -- and so many octets are the list of some value
  pub any : (octets : List ℕ) → IsOctets octets → shortest ≤ length octets → length octets ≤ longest → (value : V) × IsTheList IsValue list value octets

pub any_octets_once : {V : Type 0} {shortest longest : ℕ} {IsValue : V → Type 0} {list : V → List ℕ} → AreAnyOctets shortest longest IsValue list
    → (a b : V) (octets : List ℕ) → IsTheList IsValue list a octets → IsTheList IsValue list b octets → a ≡ b
any_octets_once {IsValue = IsValue} {list = list} of = the_list_once IsValue list of.once

pub any_octets_lengths : {V : Type 0} {shortest longest : ℕ} {IsValue : V → Type 0} {list : V → List ℕ} → AreAnyOctets shortest longest IsValue list
    → (value : V) (octets : List ℕ) → IsTheList IsValue list value octets → (shortest ≤ length octets) × (length octets ≤ longest)
any_octets_lengths {shortest = shortest} {longest = longest} of value octets h =
    subst (λ (b : List ℕ). (shortest ≤ length b) × (length b ≤ longest)) (sym h.is) (of.sized value h.value_holds)

-- octets begin such a list, with zeros behind them
pub any_octets_begun : {V : Type 0} {shortest longest : ℕ} {IsValue : V → Type 0} {list : V → List ℕ} → AreAnyOctets shortest longest IsValue list
    → (front : List ℕ) (size : ℕ) → IsOctets front → length front ≤ size → shortest ≤ size → size ≤ longest → IsBegun (IsTheList IsValue list) front size
any_octets_begun of front size p sized least most =
    let all : length (front ++ zeros_to front size) ≡ size = length-filled front size sized in
    let found = of.any (front ++ zeros_to front size) (octets_filled front size p) (omega arith) (omega arith) in
    record { value = found.0; rest = zeros_to front size; spelled = found.1; sized = all }

pub any_octets_each_length : {V : Type 0} {shortest longest : ℕ} {IsValue : V → Type 0} {list : V → List ℕ} → AreAnyOctets shortest longest IsValue list
    → (size : ℕ) → shortest ≤ size → size ≤ longest → IsBegun (IsTheList IsValue list) [] size
any_octets_each_length of size least most = any_octets_begun of [] size tt (omega arith) least most
