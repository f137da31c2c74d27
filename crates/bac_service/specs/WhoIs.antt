-- Who-Is (clause 21): nothing, or [0] the lowest instance and [1] the highest.
use Rattle.std.specs.Prelude.{ℕ, List, refl}
use Rattle.bac_tag.specs.Spelling.{Joined}
use Rattle.bac_productions.specs.Contents.{InstanceField}
use Rattle.bac_productions.specs.Productions.{Optional, IsRecordOf}
use Rattle.bac_service.specs.declared.service.who_is.WhoIs.{WhoIs}

-- The lists that spell a Who-Is: both limits, the low one first, or nothing.
abbrev pub SpellsWhoIs : WhoIs → List ℕ → Type 0
SpellsWhoIs request = Optional (Joined (InstanceField 0) (InstanceField 1)) request.limits

-- A Who-Is is its fields, and is spelled as they are.
pub who_is_parts : IsRecordOf (Optional (Joined (InstanceField 0) (InstanceField 1))) SpellsWhoIs
who_is_parts = record {
  fields = λ r. r.limits;
  of_fields = λ p. record { limits = p };
  same = λ r. refl;
  split = λ r b s. s;
  joined = λ p b s. s;
}
