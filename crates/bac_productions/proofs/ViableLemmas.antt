-- What begins an optional part, and what begins items one after another.
use Rattle.std.proofs.Common.{◌≡◌, ◌⊎◌, inl, inr, ℕ, List, [], ◌∷◌, ◌++◌, Option, Some, None, refl, ◌∙◌, append-nil}
use Rattle.std.specs.Prelude.{◌↔◌}
use Rattle.bac_tag.specs.Spelling.{IsViable, IsPartway, JoinedBy}
use Rattle.bac_tag.specs.Laws.Spelling.{viable-JoinedBy}
use Rattle.bac_productions.specs.Productions.{Items, Optional}

empty_front : (b rest : List ℕ) → b ++ rest ≡ [] → b ≡ []
empty_front [] rest e = refl
empty_front (x ∷ b) rest e = absurd (let i : x ∷ (b ++ rest) ≡ [] = e in cc)

module _ {V : Type 0} (S : V → List ℕ → Type 0) (b : List ℕ) where
  optional_cases : (value : Option V) (rest : List ℕ) → Optional S value (b ++ rest) → (b ≡ []) ⊎ IsViable S b
  optional_cases None rest s = inl (empty_front b rest s)
  optional_cases (Some v) rest s = inr (record { value = v; rest = rest; spelled = s })

  optional_of : (b ≡ []) ⊎ IsViable S b → IsViable (Optional S) b
  optional_of (inl e) = record { value = None; rest = []; spelled = append-nil b ∙ e }
  optional_of (inr v) = record { value = Some v.value; rest = v.rest; spelled = v.spelled }

  pub viable_optional : IsViable (Optional S) b ↔ ((b ≡ []) ⊎ IsViable S b)
  viable_optional = (λ v. optional_cases v.value v.rest v.spelled, optional_of)

  -- a first item, and items after it
  first_and_more : IsViable (JoinedBy S (λ v. Items S)) b ↔ (IsViable S b ⊎ IsPartway S (λ v. Items S) b)
  first_and_more = viable-JoinedBy S (λ (v : V). Items S) (λ v a s. ([], [], refl)) b

  items_cases : (values : List V) (rest : List ℕ) → Items S values (b ++ rest) → (b ≡ []) ⊎ (IsViable S b ⊎ IsPartway S (λ v. Items S) b)
  items_cases [] rest s = inl (empty_front b rest s)
  items_cases (v ∷ vs) rest s = inr (first_and_more.0 (record { value = (v, vs); rest = rest; spelled = s }))

  items_of : (b ≡ []) ⊎ (IsViable S b ⊎ IsPartway S (λ v. Items S) b) → IsViable (Items S) b
  items_of (inl e) = record { value = []; rest = []; spelled = append-nil b ∙ e }
  items_of (inr begun) = let v = first_and_more.1 begun in record { value = v.value.0 ∷ v.value.1; rest = v.rest; spelled = v.spelled }

  pub viable_items : IsViable (Items S) b ↔ ((b ≡ []) ⊎ (IsViable S b ⊎ IsPartway S (λ v. Items S) b))
  viable_items = (λ v. items_cases v.value v.rest v.spelled, items_of)
