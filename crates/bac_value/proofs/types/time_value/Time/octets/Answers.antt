use Rattle.std.proofs.Common.{rules, ◌≡◌, ℕ, ◌<◌, get_or, length}
use Rattle.bac_tag.specs.Laws.Octets.{octets_at}
use Rattle.bac_value.proofs.types.time_value.Time.octets.Goals as goal

pub returns-clause-value : goal.returns-clause-value
returns-clause-value c =
    let small : (k : ℕ) → get_or c.args.self.now.0 k 0 < 256 = search rules in
    let four : length c.args.self.now.0 ≡ 4 = search rules in
    (octets_at _ small, four)
