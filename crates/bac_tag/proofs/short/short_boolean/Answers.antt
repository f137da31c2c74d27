use Rattle.std.proofs.Common.{false, true, arith}
use Rattle.bac_tag.proofs.ShortLemmas.{short_bool}
use Rattle.bac_tag.proofs.short.short_boolean.Goals as goal

pub returns-in-16-clause-some : goal.returns-in-16-clause-some
returns-in-16-clause-some c = short_bool false c.args.octets.now (record { some = omega (arith, c.in-16.len_at_least); nibble = omega arith; octet = search })

pub returns-in-17-clause-some : goal.returns-in-17-clause-some
returns-in-17-clause-some c = short_bool true c.args.octets.now (record { some = omega (arith, c.in-17.len_at_least); nibble = omega arith; octet = search })
