-- What dealing with one record gives.
use Rattle.std.specs.Prelude.{◌≡◌, ℕ, ◌↔◌, ◌++◌, List, IsTrue, ⊤}
use Rattle.bac_tag.specs.declared.refusals.Refusal.{Refusal}
use Rattle.bac_record.specs.declared.dealing.Dealt.{Dealt}
use Rattle.bac_record.specs.declared.dealing.DealFault.{DealFault}
use Rattle.bac_record.specs.declared.dealing.DealFault.TheVariants.{Stop, Memory}

-- A record was dealt with: its output was appended, and the two answers say whether it is canonical and whether it is refused.
pub record IsDealt (line : ℕ → List ℕ → List ℕ → Type 0) (is_canonical is_refused : List ℕ → Type 0)
    (number : ℕ) (octets old new : List ℕ) (dealt : Dealt) : Type 0 where
  pub output : List ℕ
  pub is_output : line number octets output
  pub appended : new ≡ old ++ output
  pub canonical : IsTrue dealt.is_canonical ↔ is_canonical octets
  pub refused : IsTrue dealt.is_refused ↔ is_refused octets

-- A record was not dealt with: it ends the run with a refusal that may end it, or memory was refused.
abbrev pub DealFails : (Refusal → Type 0) → DealFault → Type 0
DealFails stops (Stop refusal) = stops refusal
DealFails stops Memory = ⊤

-- A record was not dealt with since it ends the run, and not for want of memory.
abbrev pub IsStop : DealFault → Type 0
IsStop (Stop refusal) = ⊤
IsStop Memory = ⊥
