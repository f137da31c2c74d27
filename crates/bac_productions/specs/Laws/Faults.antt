-- Why nothing was read: what follows.
use Rattle.std.specs.Prelude.{◌≢◌}
use Rattle.std.proofs.Common.{subst}
use Rattle.bac_tag.specs.declared.refusals.Refusal.{Refusal}
use Rattle.bac_tag.specs.declared.refusals.Why.{Why}
use Rattle.bac_tag.specs.declared.refusals.Why.TheVariants.{Trailing}
use Rattle.bac_productions.specs.declared.production.ReadFault.{ReadFault}
use Rattle.bac_productions.specs.declared.production.ReadFault.TheVariants.{OutOfMemory, Refused}
use Rattle.bac_productions.specs.Reasons.{IsPartReason}
use Rattle.bac_productions.specs.ReadFaults.{IfRefused}

-- a part does not tell Trailing
pub part_trails : (w : Why) → IsPartReason w → w ≢ Trailing
part_trails w h e = subst IsPartReason e h

-- one fact on the refusal gives another
pub refused_also : (fault : ReadFault) {P Q : Refusal → Type 0} → ((refusal : Refusal) → P refusal → Q refusal) → IfRefused fault P → IfRefused fault Q
refused_also OutOfMemory f h = tt
refused_also (Refused refusal) f h = f refusal h
