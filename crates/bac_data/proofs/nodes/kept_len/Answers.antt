use Rattle.std.proofs.Common.{length, sym, ◌∙◌, ap}
use Rattle.bac_value.specs.PrimContents.{prim_written}
use Rattle.bac_value.specs.Laws.Prim.{prim_once}
use Rattle.bac_data.proofs.nodes.kept_len.Goals as goal

pub returns-then-written : goal.returns-then-written
returns-then-written c = λ prim s.
    let w = c.requires.written c.if-written.true in
    ap length (w.is ∙ ap prim_written (prim_once w.value prim c.args.contents.now (w.spelled.0 ∙ sym s.0) w.spelled.1 s.1))
