use Rattle.std.proofs.Common.{ℕ, sym, ap, ◌∙◌}
use Rattle.std.specs.Prelude.{is_none}
use Rattle.std.specs.List.{position}
use Rattle.std.specs.Option.{unwrap_or}
use Rattle.bac_message.proofs.GatheringLemmas.{gap_is}
use Rattle.bac_message.proofs.gathering.Gathering.first_missing.Goals as goal

pub returns : goal.returns
returns c =
    let places = c.args.self.now.places in
    c.unwrap_or.ensures ∙ ap (λ o. unwrap_or o 256) c.first_free.ensures ∙ ap (λ (n : ℕ). unwrap_or (position is_none places) n) (sym c.requires.places) ∙ gap_is places
