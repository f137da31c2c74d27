use Rattle.bac_lines.proofs.LineLengths.{line_short}
use Rattle.bac_lines.proofs.laws.lines_are_short.Goals as goal

pub returns : goal.returns
returns c = line_short
