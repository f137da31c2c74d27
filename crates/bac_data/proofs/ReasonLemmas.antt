-- Reasons.
use Rattle.std.specs.Prelude.{◌≢◌}
use Rattle.std.proofs.Common.{subst}
use Rattle.bac_tag.specs.declared.refusals.Why.{Why}
use Rattle.bac_tag.specs.declared.refusals.Why.TheVariants.{OutOfMemory}
use Rattle.bac_data.specs.Refusals.{IsItemReason}

-- memory is no reason of what stands next
pub item_memory : (w : Why) → IsItemReason w → w ≢ OutOfMemory
item_memory w h e = subst IsItemReason e h
