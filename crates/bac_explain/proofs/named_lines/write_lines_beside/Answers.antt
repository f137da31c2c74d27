use Rattle.std.proofs.Common.{sym, ◌∙◌, take}
use Rattle.bac_explain.proofs.LineLemmas.{beside_own, data_told, no_data}
use Rattle.bac_explain.proofs.named_lines.write_lines_beside.Goals as goal

pub returns-clause-text : goal.returns-clause-text
returns-clause-text c =
    let r = c.write_piece_beside.result in
    let octets = c.args.octets.now in
    let canonical = c.args.canonical.now in
    let fields = c.args.fields.now in
    let p = c.args.piece.now in
    let q = c.args.other.now in
    let old = (take c.args.at c.args.out.now.items) in
    let new = c.write_piece_beside.new.out.items in
    no_data r octets canonical fields p q old new (sym c.is_data.ensures ∙ c.if-is_data.false)
    (beside_own r octets canonical fields p q c.own-own.result.now c.own-beside.result.now old new c.own-own.ensures.own c.own-beside.ensures.own c.write_piece_beside.ensures.text)

pub returns-then-is_data-clause-text : goal.returns-then-is_data-clause-text
returns-then-is_data-clause-text c =
    data_told c.write_data.result c.args.octets.now c.args.canonical.now c.args.fields.now c.args.piece.now c.args.other.now c.own-own.result.now (take c.args.at c.args.out.now.items) c.write_data.new.out.items (sym c.is_data.ensures ∙ c.if-is_data.true) c.own-own.ensures.own c.write_data.ensures.text
