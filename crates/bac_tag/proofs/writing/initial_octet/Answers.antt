use Rattle.bac_tag.specs.Laws.Heads.{class_bit_below}
use Rattle.bac_tag.proofs.WritingLemmas.{initial_bits, class_byte}
use Rattle.bac_tag.proofs.writing.initial_octet.Goals as goal

pub returns : goal.returns
returns c = rw (c.from.ensures, class_byte c.args.context) (initial_bits _ _ _ c.requires.nibble (class_bit_below c.args.context) c.requires.lvt)
