use Rattle.std.proofs.Common.{arith}
use Rattle.bac_explain.proofs.ElementLemmas.{walked-more, depth_behind-le}
use Rattle.bac_explain.proofs.elements.put_elements.Goals as goal

pub loop-cursor-preserved : goal.loop-cursor-preserved
loop-cursor-preserved c =
    let p = c.element_at-piece.result in
    let at = c.loop-cursor.cursor in
    walked-more c.args.typed c.args.octets.now c.args.start.place c.args.room.now c.args.start.count c.loop-cursor.depth at.place c.loop-cursor.room at.count p c.depth_after-depth.result c.put-cursor.result.place c.put-cursor.new.room c.put-cursor.result.count
    c.loop-cursor.invariant c.element_at-piece.ensures c.depth_after-depth.ensures c.put-cursor.ensures.place c.put-cursor.ensures.put
    (omega (arith, c.depth_after-depth.ensures, depth_behind-le c.loop-cursor.depth p.kind))
