use Rattle.bac_value.specs.Laws.Bits.{bits_same_length}
use Rattle.bac_value.proofs.variants.BitsRewritten.written_len_of.Goals as goal

pub returns : goal.returns
returns c = λ bits h. bits_same_length bits c.args.octets.now h
