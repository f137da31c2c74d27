use Rattle.std.proofs.Common.{◌+◌, arith, refl}
use Rattle.std.proofs.lemmas.Bool.{false≢true}
use Rattle.bac_explain.proofs.NestLemmas.{nest-more}
use Rattle.bac_explain.proofs.NestEndLemmas.{nest-rest, nest-follows, nest-found}
use Rattle.bac_explain.proofs.nests.is_nest.Goals as goal

pub loop-place-preserved : goal.loop-place-preserved
loop-place-preserved c =
    let octets = c.args.octets.now in
    let at = c.loop-place.place in
    let groups = c.loop-place.groups.items in
    let p = c.element_at-piece.result in
    let after = c.follow_piece.new.groups.items in
    let follows = c.if-not-follow_piece.ensures.found refl in
    record {
      so_far = nest-more octets c.args.from at groups p after (at + p.length) c.loop-place.invariant.so_far c.len.result c.len.ensures.value c.element_at-piece.ensures follows refl;
      rest = nest-rest octets c.args.from at groups c.len.result p after c.loop-place.invariant c.len.ensures.value c.element_at-piece.ensures c.loop-place-test.true follows;
    }

pub returns-then-not-follow_piece : goal.returns-then-not-follow_piece
returns-then-not-follow_piece c = (
  λ e. absurd (false≢true e),
  λ nest.
      let next = nest-follows c.args.octets.now c.args.from c.loop-place.place c.loop-place.groups.items c.len.result c.element_at-piece.result c.loop-place.invariant c.len.ensures.value c.element_at-piece.ensures c.loop-place-test.true nest in
      absurd (c.if-not-follow_piece.ensures.none refl next.0 next.1),
)

pub returns : goal.returns
returns c = nest-found c.args.octets.now c.args.from c.loop-place.place c.loop-place.groups.items c.loop-place.invariant (omega arith) c.is_empty.result c.is_empty.ensures
