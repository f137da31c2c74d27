-- Room behind a place.
use Rattle.std.proofs.Common.{ℕ, List, ◌++◌, take, drop, sym, ap, ◌∙◌, append_assoc}
use Rattle.std.proofs.lemmas.List.{take-append-drop}
use Rattle.std.specs.Prelude.{Result, Ok, Err, OnErr}
use Rattle.bac_tag.specs.Octets.{Extends}

-- a longer list still begins with what stood in front of the place
pub front_extends : {T E : Type 0} (r : Result T E) (at : ℕ) (old new : List ℕ) → Extends old new → OnErr r (Extends (take at old) new)
front_extends (Ok x) at old new p = tt
front_extends (Err x) at old new (more, p) = (drop at old ++ more, p ∙ ap (λ (l : List ℕ). l ++ more) (sym (take-append-drop at old)) ∙ append_assoc (take at old) (drop at old) more)
