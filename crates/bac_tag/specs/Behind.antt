-- What continues octets that were read.
use Rattle.std.specs.Prelude.{ℕ, List, ◌++◌}

-- With the octets of front before it, the list spells the value.
abbrev pub Behind : {X : Type 0} → List ℕ → (X → List ℕ → Type 0) → X → List ℕ → Type 0
Behind front Spells x b = Spells x (front ++ b)
