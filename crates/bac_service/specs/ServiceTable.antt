-- The table of services: which production a kind and a service choice name (clause 21).
use Rattle.std.specs.Prelude.{ℕ, Bool, true, false, nat_eq, Option, Some, IsNone, List, [], ◌∷◌, ◌++◌}
use Rattle.std.specs.Map.{lookup}
use Rattle.bac_service.specs.declared.kind.Kind.{Kind}
use Rattle.bac_service.specs.declared.kind.Kind.TheVariants.{Confirmed, Unconfirmed, ComplexAck, Error}

-- The names of the twelve productions. Both notifications have one, cov_notification, and the errors of a class and a
-- code have one, service_error.
pub data ServiceProduction : Type 0 where
  read_property read_property_ack read_property_multiple read_property_multiple_ack : ServiceProduction
  write_property write_property_multiple write_property_multiple_error : ServiceProduction
  who_is i_am subscribe_cov cov_notification service_error : ServiceProduction

-- The rows of a kind that the table already had when WritePropertyMultiple was opaque. They are those that are not in
-- later_rows, and all rows where the first argument of rows is false.
abbrev pub former_rows : Kind → List (ℕ × ServiceProduction)
former_rows Confirmed = (1, cov_notification) ∷ (5, subscribe_cov) ∷ (12, read_property) ∷ (14, read_property_multiple) ∷ (15, write_property) ∷ []
former_rows Unconfirmed = (0, i_am) ∷ (2, cov_notification) ∷ (8, who_is) ∷ []
former_rows ComplexAck = (12, read_property_ack) ∷ (14, read_property_multiple_ack) ∷ []
former_rows Error = (1, service_error) ∷ (5, service_error) ∷ (12, service_error) ∷ (14, service_error) ∷ (15, service_error) ∷ []

-- The rows of a kind that the table got when WritePropertyMultiple became typed: choice 16 of a confirmed request and
-- of an error.
abbrev pub later_rows : Kind → List (ℕ × ServiceProduction)
later_rows Confirmed = (16, write_property_multiple) ∷ []
later_rows Error = (16, write_property_multiple_error) ∷ []
later_rows _ = []

-- The service choices of a kind that have a production, and which: section 5 of docs/FORMATS.md as a list. The first
-- argument says whether WritePropertyMultiple is typed, here and below. Every contract has it true, except those on
-- former spellings.
abbrev pub rows : Bool → Kind → List (ℕ × ServiceProduction)
rows true kind = former_rows kind ++ later_rows kind
rows false kind = former_rows kind

-- The production in the row of a kind and a choice, or none if no row has it.
abbrev pub production_of : Bool → Kind → ℕ → Option ServiceProduction
production_of multiple kind choice = lookup (λ c. nat_eq c choice) (rows multiple kind)

-- The kind and the choice name the same production whether WritePropertyMultiple is typed or not. They are in none of
-- the later_rows, so they are not choice 16 of a confirmed request or of an error.
abbrev pub IsUnchanged : Kind → ℕ → Type 0
IsUnchanged kind choice = IsNone (lookup (λ c. nat_eq c choice) (later_rows kind))

-- True for a production without a list and without an open value. It is false if there is no production.
abbrev pub is_small_production : Option ServiceProduction → Bool
is_small_production (Some read_property) = true
is_small_production (Some who_is) = true
is_small_production (Some i_am) = true
is_small_production (Some subscribe_cov) = true
is_small_production (Some service_error) = true
is_small_production (Some write_property_multiple_error) = true
is_small_production _ = false

-- True for the kind and the choice of a small service, which has no list, no open value and no opaque octets. The
-- small services are SubscribeCOV, ReadProperty, I-Am, Who-Is, and the errors that have a production, including that
-- of WritePropertyMultiple.
abbrev pub is_small : Kind → ℕ → Bool
is_small kind choice = is_small_production (production_of true kind choice)
