use Rattle.bac_c.proofs.reasons.bactool_reason.Goals as goal

pub returns-in_default-clause-named : goal.returns-in_default-clause-named
returns-in_default-clause-named c = λ reason is. absurd (c.in_default.ensures.some reason is)

pub returns-in_default-clause-written : goal.returns-in_default-clause-written
returns-in_default-clause-written c = λ reason is room. absurd (c.in_default.ensures.some reason is)

pub returns-in_default-clause-of_fields : goal.returns-in_default-clause-of_fields
returns-in_default-clause-of_fields c = λ reason is. absurd (c.in_default.ensures.of_fields reason is)

pub returns-in_default-clause-written_of_fields : goal.returns-in_default-clause-written_of_fields
returns-in_default-clause-written_of_fields c = λ reason is room. absurd (c.in_default.ensures.of_fields reason is)
