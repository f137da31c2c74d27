use Rattle.std.proofs.Common.{Some, sym, arith}
use Rattle.bac_data.proofs.ProgressLemmas.{kept_within, progress_on}
use Rattle.bac_data.proofs.reading.keep_canonical.Goals as goal

pub read_canonical-requires-clause-held : goal.read_canonical-requires-clause-held
read_canonical-requires-clause-held c =
    let (start, mark, p) = c.requires.progress in
    let within = kept_within c.args.number c.args.octets.now start c.args.place c.args.kept.now mark c.args.nodes.now p in
    omega (arith, within, c.len.ensures)

pub returns-clause-progress : goal.returns-clause-progress
returns-clause-progress c = λ start mark p.
    let octets = c.args.octets.now in
    let kept = c.args.kept.now in
    let long = sym c.len.ensures in
    progress_on c.args.number octets start c.args.place c.in_ok-end.end kept c.extend.new.self (Some mark) c.args.nodes.now c.read_canonical.new.nodes p c.in_ok-end.ensures.from c.in_ok-end.ensures.within
    (c.in_ok-end.ensures.continues p.es kept p.numbers p.lists long) c.in_ok-extend.ensures
