use Rattle.bac_field_parts.proofs.FieldLemmas.{writes_then, writes_none}
use Rattle.bac_fields.proofs.parts.Tuple2HasFields.tell.Goals as goal

pub returns-in_err-cursor : goal.returns-in_err-cursor
returns-in_err-cursor g c = writes_none _ _ c.from_residual.ensures c.in_err-cursor.ensures

pub returns : goal.returns
returns g c = writes_then c.in_ok-cursor.ensures c.tell-2.ensures
