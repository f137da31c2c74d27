use Rattle.std.proofs.Common.{◌<◌, get_or, arith}
use Rattle.bac_tag.specs.Laws.Heads.{class_bit_below}
use Rattle.bac_tag.proofs.ShortLemmas.{short_headed}
use Rattle.bac_tag.proofs.short.short_len.Goals as goal

pub returns-then-lvt-lt5-clause-some : goal.returns-then-lvt-lt5-clause-some
returns-then-lvt-lt5-clause-some c =
    let octet : get_or c.args.octets.now 0 0 < 256 = omega (arith, c.type_inv.octets 0) in
    short_headed c.args.context c.args.number c.from.result c.args.octets.now c.requires (omega (arith, c.from.ensures, c.if-lvt-lt5.true))
    (record {
      some = omega (arith, c.in-len1-up.len_at_least);
      nibble = omega (arith, c.if-number-gt14.false);
      octet = omega (arith, octet, c.if-number-gt14.false, class_bit_below c.args.context, c.initial_octet.ensures, c.from.ensures, c.if-lvt-lt5.true);
    })
