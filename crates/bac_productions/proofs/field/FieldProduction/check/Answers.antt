use Rattle.std.specs.Prelude.{Some}
use Rattle.bac_productions.specs.Laws.Field.{field_longest, field_reach}
use Rattle.bac_productions.proofs.field.FieldProduction.check.Goals as goal

pub returns-clause-found : goal.returns-clause-found
returns-clause-found g c =
    let e = c.in_ok-read_field.ensures in
    rw c.split.ensures (record { value = _; longest = field_longest g.T.Primitive.contents (Some g.row.N) g.T.Primitive.APP g.met.T.Primitive.one_value c.args.octets.now _ _ e.found; marked = e.mark })

pub returns-clause-reach : goal.returns-clause-reach
returns-clause-reach g c =
    let e = c.in_ok-read_field.ensures in
    rw c.split.ensures (field_reach g.T.Primitive.contents (Some g.row.N) g.T.Primitive.APP g.met.T.Primitive.one_value c.args.octets.now _ _ _ e.found e.place e.short)
