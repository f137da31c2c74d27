use Rattle.bac_field_parts.proofs.FieldLemmas.{writes_then, writes_none}
use Rattle.bac_fields.proofs.frames.tell_addresses.Goals as goal

pub returns-in_err-cursor : goal.returns-in_err-cursor
returns-in_err-cursor c = writes_none _ _ c.from_residual.ensures c.in_err-cursor.ensures

pub returns-in_err-cursor-2 : goal.returns-in_err-cursor-2
returns-in_err-cursor-2 c = writes_then c.in_ok-cursor.ensures (writes_none _ _ c.from_residual-in_err-cursor-2.ensures c.in_err-cursor-2.ensures)

pub returns : goal.returns
returns c = writes_then c.in_ok-cursor.ensures (writes_then c.in_ok-cursor-2.ensures c.tell-3.ensures)
