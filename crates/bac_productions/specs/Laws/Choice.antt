-- Choices.
use Rattle.std.specs.Prelude.{ℕ, List, Bool, ◌&&◌, not, IsTrue}
use Rattle.std.proofs.lemmas.Bool.{and_parts}
use Rattle.std.proofs.Common.{inl}
use Rattle.bac_tag.specs.Spelling.{OneOf}
use Rattle.bac_productions.specs.Productions.{IsInhabited}

pub either_inhabited : {V W : Type 0} {S : V → List ℕ → Type 0} {T : W → List ℕ → Type 0} (a e d : Bool) → (IsTrue a → IsInhabited S) → IsTrue ((a && not e) && d) → IsInhabited (OneOf S T)
either_inhabited a e d inhabited h =
    let I = inhabited (and_parts a (not e) (and_parts (a && not e) d h).0).0 in
    record { value = inl I.value; octets = I.octets; spelled = I.spelled }
