use Rattle.std.proofs.Common.{◌+◌, ◌-◌, ◌*◌, ap, take}
use Rattle.bac_explain.proofs.LineLemmas.{near_blanks}
use Rattle.bac_explain.proofs.beginnings.put_spacing.Goals as goal

pub returns-clause-text : goal.returns-clause-text
returns-clause-text c =
    near_blanks (take c.args.at c.args.room.now) (take c.put_blanks.result c.put_blanks.new.room) _ (11 - c.args.used) c.args.depth (ap (λ n. n + 2 + 2 * c.args.depth) c.saturating_sub.ensures) c.put_blanks.ensures.text
