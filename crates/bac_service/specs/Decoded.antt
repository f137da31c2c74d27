-- What decoding a service of a kind and a choice gives. Each definition has clauses of decode_service_marked in one
-- word, for the functions below it.
use Rattle.std.specs.Prelude.{◌≡◌, ◌≢◌, ℕ, true, false, Option, List, Result, Ok, Err}
use Rattle.bac_tag.specs.declared.refusals.Refusal.{Refusal}
use Rattle.bac_tag.specs.declared.refusals.Why.TheVariants.{OutOfMemory}
use Rattle.bac_tag.specs.Spelling.{HasMark, IsWholeRefusal}
use Rattle.bac_productions.specs.Productions.{IsMarked}
use Rattle.bac_productions.specs.Reasons.{IsReachReason, IsServiceReason}
use Rattle.bac_service.specs.declared.kind.Kind.{Kind}
use Rattle.bac_service.specs.declared.service.Service.{Service}
use Rattle.bac_service.specs.ServiceTable.{is_small}
use Rattle.bac_service.specs.Services.{value_of, SpellsService}

-- The octets spell the service, which has this kind and this choice, and they have the mark.
pub record IsFound (kind : Kind) (choice : ℕ) (octets : List ℕ) (service : Service) (mark : Option ℕ) : Type 0 where
  pub spelled : SpellsService true 32 kind choice (value_of service) octets
  pub marked : HasMark (SpellsService true 32 kind choice (value_of service)) octets mark

-- The octets are refused: they spell no service of this kind and this choice, or memory was refused. If memory was
-- refused, the place is 0. That is never reported of a small service.
pub record IsRefused (kind : Kind) (choice : ℕ) (octets : List ℕ) (refusal : Refusal) : Type 0 where
  pub refused : refusal.why ≢ OutOfMemory → IsWholeRefusal (SpellsService true 32 kind choice) octets refusal
  pub memory : refusal.why ≡ OutOfMemory → (refusal.place ≡ 0) × (is_small kind choice ≡ false)
  pub reason : IsServiceReason refusal.why

-- The result of decoding octets as a service of a kind and a choice is a service with its mark or a refusal. The
-- service is one by IsFound, the refusal one by IsRefused.
abbrev pub IsDecoded : Kind → ℕ → List ℕ → Result (Service × Option ℕ) Refusal → Type 0
IsDecoded kind choice octets (Ok found) = IsFound kind choice octets found.0 found.1
IsDecoded kind choice octets (Err refusal) = IsRefused kind choice octets refusal

-- The result of checking octets as a service of a kind and a choice is a mark or a refusal. With a mark the octets spell
-- some such service, and the mark is that against its canonical octets. With a refusal they spell none.
abbrev pub IsServiceChecked : Kind → ℕ → List ℕ → Result (Option ℕ) Refusal → Type 0
IsServiceChecked kind choice octets (Ok mark) = IsMarked (SpellsService true 32 kind choice) octets mark
IsServiceChecked kind choice octets (Err refusal) = IsWholeRefusal (SpellsService true 32 kind choice) octets refusal × IsReachReason refusal.why
