use Rattle.std.proofs.Common.{rules}
use Rattle.bac_tag.proofs.ReadingLemmas.{front_found, alone_refused, others_sound, others_none, both_refused}
use Rattle.bac_tag.proofs.reading.+refusal_of_all.Goals as goal

pub unreachable-requires-in_default-read_expected : goal.unreachable-requires-in_default-read_expected
unreachable-requires-in_default-read_expected t c =
    front_found c.args.expected.now _ c.args.octets.now c.in_default-read_expected.field-0 c.requires.some c.requires.none c.in_default-read_expected.ensures.found

pub returns-then-is_empty-clause-refused : goal.returns-then-is_empty-clause-refused
returns-then-is_empty-clause-refused t c =
    alone_refused c.args.expected.now _ c.args.octets.now c.in-Err.refusal c.requires.some (search rules) c.in-Err.ensures.refused

pub refusal_of_all-requires : goal.refusal_of_all-requires
refusal_of_all-requires t c = (search rules, (search rules, (others_sound c.args.expected.now c.requires.sound, others_none c.args.expected.now c.args.octets.now c.requires.none)))

pub returns-clause-refused : goal.returns-clause-refused
returns-clause-refused t c =
    rw c.farther.ensures (both_refused c.args.expected.now _ c.args.octets.now c.in-Err.refusal c.refusal_of_all.result c.requires.some c.in-Err.ensures.refused c.refusal_of_all.ensures.refused)
