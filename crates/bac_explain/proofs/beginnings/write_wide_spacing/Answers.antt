use Rattle.std.proofs.Common.{◌+◌, ◌-◌, ap, take}
use Rattle.bac_explain.proofs.LineLemmas.{far_blanks}
use Rattle.bac_explain.proofs.beginnings.write_wide_spacing.Goals as goal

pub returns-clause-text : goal.returns-clause-text
returns-clause-text c =
    far_blanks c.write_blanks-3.result (take c.args.at c.args.out.now.items) (take c.in_ok-first.first c.write_blanks.new.out.items) (take c.in_ok-second.second c.write_blanks-2.new.out.items) c.write_blanks-3.new.out.items _ (11 - c.args.used) c.args.depth
    (ap (λ n. n + 2) c.saturating_sub.ensures) c.in_ok-first.ensures.text c.in_ok-second.ensures.text c.write_blanks-3.ensures.text
