use Rattle.std.proofs.Common.{◌++◌, ◌∷◌, [], List, append-nil, sym, subst, take}
use Rattle.bac_field_parts.specs.declared.field.Field.{Field}
use Rattle.bac_explain.specs.NamedLines.{ArePieceLines}
use Rattle.bac_explain.specs.declared.piece.Piece.{Piece}
use Rattle.bac_explain.proofs.LineLemmas.{Continues, all_told, appended, begun, continued}
use Rattle.bac_explain.proofs.named_lines.write_canonical_lines.Goals as goal

pub loop-piece-init : goal.loop-piece-init
loop-piece-init c = (c.requires, ([], sym (append-nil (take c.args.at c.args.out.now.items)), begun c.args.octets.now c.args.octets.now c.args.fields.now [] c.args.pieces.now c.args.pieces.now))

pub loop-piece-preserved : goal.loop-piece-preserved
loop-piece-preserved c =
    let octets = c.args.octets.now in
    let fields = c.args.fields.now in
    let all = c.args.pieces.now in
    let before = c.loop-piece.ahead.now in
    let p = c.in-Some.piece.now in
    let more = c.in-Some.more.now in
    let so_far = c.loop-piece.invariant.1 in
    let is = c.fields_ahead-ahead.ensures in
    let lines = c.in_ok-end.ensures.text in
    let goes = subst (λ (l : List Piece). Continues octets octets fields [] all all before l l so_far.0) c.in-Some.ensures.cases.0 so_far.2 in
    let first = subst (λ (l : List Field). ArePieceLines octets octets l p p lines.0) is lines.2 in
    let told = continued octets octets fields [] all all before p more (p ∷ more) so_far.0 lines.0 first goes in (
      c.in_ok-end.ensures.end,
      (
        so_far.0 ++ lines.0,
        appended (take c.args.at c.args.out.now.items) (take c.loop-piece.end c.loop-piece.out.items) (take c.in_ok-end.end c.write_canonical_piece.new.out.items) so_far.0 lines.0 so_far.1 lines.1,
        subst (λ (l : List Field). Continues octets octets fields [] all all l more more (so_far.0 ++ lines.0)) (sym is) told,
      ),
    )

pub returns-clause-text : goal.returns-clause-text
returns-clause-text c =
    let so_far = c.loop-piece.invariant.1 in
    let cases = rw c.in_default.is at c.split_first.ensures.cases in
    (so_far.0, so_far.1, all_told c.args.octets.now c.args.octets.now c.args.fields.now [] c.args.pieces.now c.args.pieces.now c.loop-piece.ahead.now c.loop-piece.left.now c.loop-piece.left.now so_far.0 cases so_far.2)
