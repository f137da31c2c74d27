use Rattle.bac_c.proofs.knowing.bactool_head.Goals as goal
