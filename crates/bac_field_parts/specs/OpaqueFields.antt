-- The fields of services without a production.
use Rattle.std.specs.Prelude.{ℕ, List, [], ◌∷◌, ◌++◌}
use Rattle.bac_service.specs.declared.kind.Kind.{Kind}
use Rattle.bac_service.specs.declared.kind.Kind.TheVariants.{Error}
use Rattle.bac_field_parts.specs.declared.names.Name.TheVariants as name
use Rattle.bac_field_parts.specs.Fields.{Step, next, word, octet_field, octets_field}

-- The step of the word for a service without a production. An error has no such step, because the word for an error
-- says already that it is one.
abbrev pub opaque_word : Kind → List Step
opaque_word Error = []
opaque_word _ = next (word name.Opaque) ∷ []

-- The steps of a service without a production: its word, its service choice, and its octets.
abbrev pub opaque_steps : Kind → ℕ → List ℕ → List Step
opaque_steps kind choice octets = opaque_word kind ++ next (octet_field name.Choice choice) ∷ next (octets_field name.Octets octets) ∷ []
