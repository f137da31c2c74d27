use Rattle.std.proofs.Common.{arith}
use Rattle.std.proofs.lemmas.Option.{IfSome_then}
use Rattle.bac_data.specs.declared.items.Item.TheVariants as item
use Rattle.bac_data.proofs.MarkLemmas.{mark_inside}
use Rattle.bac_data.proofs.reading.mark_closing.Goals as goal

pub joined_marks-requires : goal.joined_marks-requires
joined_marks-requires c =
    IfSome_then c.mark_read_head.result (mark_inside c.args.closing.now (item.Close c.args.number) c.mark_read_head.result c.requires.number c.mark_read_head.ensures)
    (λ place h. omega (arith, h, c.requires.fits))
