use Rattle.std.proofs.Common.{◌⊎◌, ◌<◌, inl, inr, arith}
use Rattle.bac_tag.proofs.LengthLemmas.{short_length, hopeless_length}
use Rattle.bac_tag.proofs.reading.read_length.Goals as goal

pub returns-in_default-clause-refused : goal.returns-in_default-clause-refused
returns-in_default-clause-refused c =
    rw c.at.ensures (short_length c.args.least c.args.most c.args.lvt c.args.octets.now (omega (arith, c.requires.lvt.0)) c.requires.range (omega arith) c.in_default.len_below)

pub returns-then-len-least-clause-refused : goal.returns-then-len-least-clause-refused
returns-then-len-least-clause-refused c =
    let outside : (c.from-len.result < c.args.least) ⊎ (c.args.most < c.from-len.result) = elim c.then-len-least.either [ inl k ↦ inl k | inr k ↦ inr k.1 ] in
    rw c.at-then-len-least.ensures (hopeless_length c.args.least c.args.most c.args.lvt c.from-len.result c.args.octets.now _ (omega (arith, c.requires.lvt.0)) c.requires.range c.ranges.least.fits (λ e. cc)
    (omega arith) c.from-len.ensures (inl (λ e. c.if-first.false (omega arith))) (λ e. c.if-first-2.false (omega arith)) (λ lt. outside))
