use Rattle.bac_productions.proofs.decoding.decode.Goals as goal

pub read_spelling-requires : goal.read_spelling-requires
read_spelling-requires g c = g.met.P.Production.decided c.requires

pub decode_part_by_part-requires : goal.decode_part_by_part-requires
decode_part_by_part-requires g c = g.met.P.Production.decided c.requires
