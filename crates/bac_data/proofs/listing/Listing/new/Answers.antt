use Rattle.std.proofs.Common.{refl}
use Rattle.bac_data.proofs.LinkLemmas.{lists_nothing}
use Rattle.bac_data.proofs.listing.Listing.new.Goals as goal

pub returns : goal.returns
returns c = lists_nothing c.args.number _ c.new.ensures.items refl refl refl refl refl refl
