use Rattle.std.proofs.Common.{◌++◌, [], List, append-nil, sym, subst, take}
use Rattle.std.specs.Prelude.{drop, slice_get}
use Rattle.bac_field_parts.specs.declared.field.Field.{Field}
use Rattle.bac_explain.specs.NamedLines.{AreLinesOf}
use Rattle.bac_explain.specs.declared.piece.Piece.{Piece}
use Rattle.bac_explain.proofs.LineLemmas.{Continues, all_told, appended, begun, continued}
use Rattle.bac_explain.proofs.named_lines.write_named_lines.Goals as goal

pub loop-piece-init : goal.loop-piece-init
loop-piece-init c = (c.requires, ([], sym (append-nil (take c.args.at c.args.out.now.items)), begun c.args.octets.now c.args.canonical.now c.args.fields.now c.args.hint.now c.args.pieces.now c.args.others.now))

pub loop-piece-preserved : goal.loop-piece-preserved
loop-piece-preserved c =
    let octets = c.args.octets.now in
    let canonical = c.args.canonical.now in
    let fields = c.args.fields.now in
    let hint = c.args.hint.now in
    let all = c.args.pieces.now in
    let others = c.args.others.now in
    let ahead = c.loop-piece.ahead.now in
    let right = c.loop-piece.right.now in
    let so_far = c.loop-piece.invariant.1 in
    let is = c.fields_for-ahead.ensures in
    let lines = c.in_ok-end.ensures.text in
    let goes = subst (λ (l : List Piece). Continues octets canonical fields hint all others ahead l right so_far.0) c.in-Some.ensures.cases.0 so_far.2 in
    let first = subst (λ (l : List Field). AreLinesOf octets canonical l hint c.in-Some.piece.now (slice_get right 0) lines.0) is lines.2 in
    let told = continued octets canonical fields hint all others ahead c.in-Some.piece.now c.in-Some.more.now right so_far.0 lines.0 first goes in (
      c.in_ok-end.ensures.end,
      (
        so_far.0 ++ lines.0,
        appended (take c.args.at c.args.out.now.items) (take c.loop-piece.end c.loop-piece.out.items) (take c.in_ok-end.end c.write_lines_of.new.out.items) so_far.0 lines.0 so_far.1 lines.1,
        subst (λ (l : List Piece). Continues octets canonical fields hint all others c.fields_for-ahead.result.now c.in-Some.more.now l (so_far.0 ++ lines.0)) (sym c.after_first-right.ensures)
            (subst (λ (l : List Field). Continues octets canonical fields hint all others l c.in-Some.more.now (drop 1 right) (so_far.0 ++ lines.0)) (sym is) told),
      ),
    )

pub returns-clause-text : goal.returns-clause-text
returns-clause-text c =
    let so_far = c.loop-piece.invariant.1 in
    let cases = rw c.in_default.is at c.split_first.ensures.cases in
    (so_far.0, so_far.1, all_told c.args.octets.now c.args.canonical.now c.args.fields.now c.args.hint.now c.args.pieces.now c.args.others.now c.loop-piece.ahead.now c.loop-piece.left.now c.loop-piece.right.now so_far.0 cases so_far.2)
