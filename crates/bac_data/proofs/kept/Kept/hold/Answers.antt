use Rattle.std.proofs.Common.{sym, ◌∙◌, ap, arith, length, take}
use Rattle.bac_data.proofs.KeptLemmas.{few_kept, many_kept}
use Rattle.bac_data.proofs.kept.Kept.hold.Goals as goal

pub short_octets-requires : goal.short_octets-requires
short_octets-requires c =
    let few = c.requires.short (c.are_few.ensures.0 c.if-not-are_few.false) in
    let same = ap length (c.as_slice.ensures.value ∙ sym (many_kept c.self.inside.count c.self.inside.few c.self.inside.many.items c.if-self-gt-SHORT.true) ∙ c.self.view_is) in
    omega (arith, few, same)

pub returns-then-self-gt-SHORT-clause-octets : goal.returns-then-self-gt-SHORT-clause-octets
returns-then-self-gt-SHORT-clause-octets c =
    let same = sym (many_kept c.self.inside.count c.self.inside.few c.self.inside.many.items c.if-self-gt-SHORT.true) ∙ c.self.view_is in
    c.hold.ensures.octets ∙ ap (λ n. take n c.short_octets.result) (c.len.ensures ∙ c.self.inside.many.ok.0 ∙ ap length (sym c.as_slice.ensures.value)) ∙ c.short_octets.ensures.octets ∙ c.as_slice.ensures.value ∙ same

pub returns-clause-octets : goal.returns-clause-octets
returns-clause-octets c = c.hold-2.ensures.octets ∙ sym (few_kept c.self.inside.count c.self.inside.few c.self.inside.many.items (omega arith)) ∙ c.self.view_is
