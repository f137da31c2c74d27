-- What begins a spelling of two parts.
use Rattle.std.specs.Prelude.{◌↔◌, ◌⊎◌, ℕ, List}
use Rattle.bac_tag.specs.Spelling.{IsViable, IsPartway, Joined}
use Rattle.bac_tag.specs.Laws.Spelling.{viable-JoinedBy}
use Rattle.bac_productions.specs.Productions.{IsInhabited}

module _ {V W : Type 0} (S : V → List ℕ → Type 0) (T : W → List ℕ → Type 0) where
  pub viable_both : IsInhabited T → (b : List ℕ) → IsViable (Joined S T) b ↔ (IsViable S b ⊎ IsPartway S (λ (v : V). T) b)
  viable_both t b = viable-JoinedBy S (λ (v : V). T) (λ v c s. (t.value, t.octets, t.spelled)) b
