-- Why nothing was read.
use Rattle.std.specs.Prelude.{◌≡◌, ℕ}
use Rattle.bac_tag.specs.declared.refusals.Refusal.{Refusal}
use Rattle.bac_tag.specs.declared.refusals.Why.TheVariants.{Trailing}
use Rattle.bac_productions.specs.Reasons.{IsReachReason}
use Rattle.bac_productions.specs.declared.production.ReadFault.{ReadFault}
use Rattle.bac_productions.specs.declared.production.ReadFault.TheVariants.{OutOfMemory, Refused}

-- A property holds of the refusal if the octets are refused. If memory was refused, nothing is demanded.
abbrev pub IfRefused : ReadFault → (Refusal → Type 0) → Type 0
IfRefused OutOfMemory P = Unit {0}
IfRefused (Refused refusal) P = P refusal

-- The reason is one of IsReachReason, and it is Trailing only if the place is the end of the octets taken. So Trailing is
-- reported only where a whole spelling ends, and OutOfMemory never.
abbrev pub EndsOrGoesOn : ℕ → Refusal → Type 0
EndsOrGoesOn taken reach = (reach.why ≡ Trailing → reach.place ≡ taken) × IsReachReason reach.why
