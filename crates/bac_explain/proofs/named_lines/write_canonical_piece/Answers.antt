use Rattle.std.proofs.Common.{sym, ◌∙◌, take}
use Rattle.bac_explain.proofs.LineLemmas.{beside_own, data_told, no_data}
use Rattle.bac_explain.proofs.named_lines.write_canonical_piece.Goals as goal

pub returns-clause-text : goal.returns-clause-text
returns-clause-text c =
    let r = c.write_piece_named.result in
    let octets = c.args.octets.now in
    let fields = c.args.fields.now in
    let p = c.args.piece.now in
    let own = c.own-own.result.now in
    let old = (take c.args.at c.args.out.now.items) in
    let new = c.write_piece_named.new.out.items in
    no_data r octets octets fields p p old new (sym c.is_data.ensures ∙ c.if-is_data.false) (beside_own r octets octets fields p p own own old new c.own-own.ensures.own c.own-own.ensures.own c.write_piece_named.ensures.text)

pub returns-then-is_data-clause-text : goal.returns-then-is_data-clause-text
returns-then-is_data-clause-text c =
    data_told c.write_data.result c.args.octets.now c.args.octets.now c.args.fields.now c.args.piece.now c.args.piece.now c.own-own.result.now (take c.args.at c.args.out.now.items) c.write_data.new.out.items (sym c.is_data.ensures ∙ c.if-is_data.true) c.own-own.ensures.own c.write_data.ensures.text
