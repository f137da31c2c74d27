-- What a visitor made of an APDU.
use Rattle.std.specs.Prelude.{ℕ, Option, List, Result, Ok, Err, IfOk}
use Rattle.bac_tag.specs.declared.refusals.Refusal.{Refusal}
use Rattle.bac_apdu.specs.Apdus.{ApduValue}
use Rattle.bac_apdu.specs.Decoded.{IsMade, IsVisited}

pub visited_made : {P M : Type 0} (makes : ApduValue → Option ℕ → P → P → M → Type 0) (octets : List ℕ) (old new : P) (result : Result M Refusal) → IsVisited makes octets old new result → IfOk result (IsMade makes octets old new)
visited_made makes octets old new (Ok made) m = m
visited_made makes octets old new (Err refusal) r = tt
