-- Errors of typed services, which are a class and a code.
use Rattle.std.specs.Prelude.{ℕ}
use Rattle.bac_service.specs.declared.service.error_cause.ErrorCause.{ErrorCause}

-- An error of a typed service as a value: the choice of the service that failed, and a class and a code. Contracts
-- see a ServiceError as this.
pub record ErrorValue : Type 0 where
  pub choice : ℕ
  pub cause : ErrorCause
