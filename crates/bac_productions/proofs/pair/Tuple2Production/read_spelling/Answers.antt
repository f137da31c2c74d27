use Rattle.std.proofs.lemmas.List.{take_rest}
use Rattle.bac_productions.specs.Laws.Longest.{takes_both}
use Rattle.bac_productions.specs.Laws.Least.{mark_either}
use Rattle.bac_productions.proofs.pair.Tuple2Production.read_spelling.Goals as goal

pub returns-clause-found : goal.returns-clause-found
returns-clause-found g c = takes_both c.in_ok-first.ensures.found (rw take_rest at c.in_ok-second.ensures.found)

pub returns-clause-mark : goal.returns-clause-mark
returns-clause-mark g c = λ w.
    let first = c.in_ok-first.first in
    let second = c.in_ok-second.second in
    let found = rw take_rest at c.in_ok-second.ensures.found in
    mark_either c.args.octets.now first.taken first.same second.taken second.same c.joined_same.result c.in_ok-first.ensures.found.within c.in_ok-first.ensures.same (c.in_ok-first.ensures.mark w) (g.met.B.Production.has_least _ _ found.spelled)
    (λ e. (rw take_rest at c.in_ok-second.ensures.mark) (c.is_wanted_behind-wanted.ensures.1 (w, e))) c.joined_same.ensures.first c.joined_same.ensures.second
