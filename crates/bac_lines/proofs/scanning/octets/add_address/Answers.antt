use Rattle.std.proofs.Common.{◌≡◌, ◌∷◌, ◌∙◌, ℕ, List, Some, ap, arith}
use Rattle.bac_lines.proofs.Hexes.{address_found, no_address}
use Rattle.bac_lines.proofs.scanning.octets.add_address.Goals as goal

pub returns-in_default-2-clause-found : goal.returns-in_default-2-clause-found
returns-in_default-2-clause-found c =
    let other : (rest : List ℕ) → c.args.line.now ≡ 42 ∷ rest → ⊥ = λ rest star. grind arith in
    address_found c.args.line.now c.args.contents.now.items _ other _ (rw c.in_default-2.is at c.in_ok-taken.ensures.found)

pub returns-then-taken-eq0-clause-found : goal.returns-then-taken-eq0-clause-found
returns-then-taken-eq0-clause-found c =
    let other : (rest : List ℕ) → c.args.line.now ≡ 42 ∷ rest → ⊥ = λ rest star. grind arith in
    let is : c.in_ok-taken.field-0 ≡ Some 0 = c.in-Some.is ∙ ap (λ (n : ℕ). Some n) c.if-taken-eq0.true in
    no_address c.args.line.now c.args.contents.now.items _ other (rw is at c.in_ok-taken.ensures.found)

pub returns-clause-found : goal.returns-clause-found
returns-clause-found c =
    let other : (rest : List ℕ) → c.args.line.now ≡ 42 ∷ rest → ⊥ = λ rest star. grind arith in
    address_found c.args.line.now c.args.contents.now.items _ other _ (rw c.in-Some.is at c.in_ok-taken.ensures.found)
