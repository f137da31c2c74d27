use Rattle.std.proofs.Common.{◌≡◌, ◌+◌, ◌-◌, ◌≤◌, ◌++◌, ◌∷◌, [], ℕ, Option, None, take, drop, length, sym, subst, arith}
use Rattle.bac_data.specs.Building.{Keeps}
use Rattle.bac_data.specs.Progress.{part, held_so_far}
use Rattle.bac_data.specs.Reading.{item_event}
use Rattle.bac_data.proofs.MarkLemmas.{ItemMark}
use Rattle.bac_data.proofs.ProgressLemmas.{part_length, added, item_listed, progress_item}
use Rattle.bac_data.proofs.ReadingSteps.{front_least}
use Rattle.bac_data.proofs.reading.keep_item.Goals as goal

pub keep-requires-clause-front : goal.keep-requires-clause-front
keep-requires-clause-front c =
    let (number, p, behind, o) = c.requires.progress in
    (p.es, p.keeps, front_least number c.args.octets.now c.args.start c.args.place p.es c.args.mark p.begun p.opened p.marked)

pub add-requires-clause-may : goal.add-requires-clause-may
add-requires-clause-may c =
    let (number, p, behind, o) = c.requires.progress in
    let octets = c.args.octets.now in
    let start = c.args.start in
    let place = c.args.place in
    let i = c.args.found.0 in
    let head = c.args.found.1 in
    let taken = c.args.found.2 in
    let joined = c.joined_marks-joined.result in
    let whole : place + taken - place ≡ taken = omega arith in
    let front = front_least number octets start place p.es c.args.mark p.begun p.opened p.marked in
    let marks : c.args.mark ≡ None → ItemMark (take taken (drop place octets)) i c.in_ok-own.own = λ e. subst (λ (k : ℕ). ItemMark (take k (drop place octets)) i c.in_ok-own.own) whole (c.in_ok-own.ensures.mark e) in
    let keeps = subst (λ (m : Option ℕ). Keeps m (p.es ++ item_event i ∷ []) c.keep.new.kept) (sym c.joined_marks-joined.ensures) (c.in_ok-own.ensures.kept p.es place p.keeps front) in
    let more = added number octets start place head taken c.args.kept.now c.keep.new.kept c.args.mark c.in_ok-own.own joined c.args.nodes.now i p c.requires.item c.requires.lies c.requires.within c.requires.spelled marks c.joined_marks-joined.ensures keeps in
    let far : place + taken ≤ length octets = c.requires.within in
    let long = c.held_len.ensures (part octets start (place + taken)) (part_length octets start (place + taken) far) in
    let may = item_listed number octets start place head taken c.args.kept.now c.keep.new.kept c.args.mark c.in_ok-own.own joined c.args.nodes.now i p c.requires.item c.requires.lies c.requires.within c.requires.spelled marks c.joined_marks-joined.ensures keeps behind o c.held_len.result long in
    (number, p.es, held_so_far octets start place c.args.kept.now c.args.mark, more.0, p.numbers, behind, may)

pub returns : goal.returns
returns c = λ number p behind o.
    let octets = c.args.octets.now in
    let start = c.args.start in
    let place = c.args.place in
    let i = c.args.found.0 in
    let head = c.args.found.1 in
    let taken = c.args.found.2 in
    let joined = c.joined_marks-joined.result in
    let whole : place + taken - place ≡ taken = omega arith in
    let front = front_least number octets start place p.es c.args.mark p.begun p.opened p.marked in
    let marks : c.args.mark ≡ None → ItemMark (take taken (drop place octets)) i c.in_ok-own.own = λ e. subst (λ (k : ℕ). ItemMark (take k (drop place octets)) i c.in_ok-own.own) whole (c.in_ok-own.ensures.mark e) in
    let keeps = subst (λ (m : Option ℕ). Keeps m (p.es ++ item_event i ∷ []) c.keep.new.kept) (sym c.joined_marks-joined.ensures) (c.in_ok-own.ensures.kept p.es place p.keeps front) in
    let more = added number octets start place head taken c.args.kept.now c.keep.new.kept c.args.mark c.in_ok-own.own joined c.args.nodes.now i p c.requires.item c.requires.lies c.requires.within c.requires.spelled marks c.joined_marks-joined.ensures keeps in
    let far : place + taken ≤ length octets = c.requires.within in
    let long = c.held_len.ensures (part octets start (place + taken)) (part_length octets start (place + taken) far) in
    let may = item_listed number octets start place head taken c.args.kept.now c.keep.new.kept c.args.mark c.in_ok-own.own joined c.args.nodes.now i p c.requires.item c.requires.lies c.requires.within c.requires.spelled marks c.joined_marks-joined.ensures keeps behind o c.held_len.result long in
    progress_item number octets start place head taken c.args.kept.now c.keep.new.kept c.args.mark c.in_ok-own.own joined c.args.nodes.now i p c.requires.item c.requires.lies c.requires.within c.requires.spelled marks c.joined_marks-joined.ensures keeps behind c.add.new.self
    (c.in_ok-add.ensures number p.es (held_so_far octets start place c.args.kept.now c.args.mark) more.0 p.numbers behind may)
