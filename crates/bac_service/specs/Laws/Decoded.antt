-- What is told of a part is told of its service.
use Rattle.std.specs.Prelude.{◌≡◌, ◌≢◌, ◌↔◌, ℕ, true, false, Option, List}
use Rattle.bac_tag.specs.declared.refusals.Refusal.{Refusal}
use Rattle.bac_tag.specs.declared.refusals.Why.TheVariants.{OutOfMemory}
use Rattle.bac_tag.specs.Spelling.{HasMark, IsWholeRefusal}
use Rattle.bac_productions.specs.Reasons.{IsServiceReason}
use Rattle.bac_productions.specs.Laws.Whole.{whole_alike}
use Rattle.bac_productions.specs.Laws.Least.{mark_alike}
use Rattle.bac_service.specs.declared.kind.Kind.{Kind}
use Rattle.bac_service.specs.declared.service.Service.{Service}
use Rattle.bac_service.specs.ServiceTable.{is_small}
use Rattle.bac_service.specs.Services.{value_of, SpellsService, IsServiceOf}
use Rattle.bac_service.specs.Decoded.{IsFound, IsRefused}

-- what is found of a part is found of its service
pub found_as : (k : Kind) (c : ℕ) (octets : List ℕ) (service : Service) (mark : Option ℕ) {P : List ℕ → Type 0} → ((b : List ℕ) → P b ↔ SpellsService true 32 k c (value_of service) b) → P octets → HasMark P octets mark → IsFound k c octets service mark
found_as k c octets service mark alike s m = record { spelled = (alike octets).0 s; marked = mark_alike alike m }

pub refused_as : {V : Type 0} {S : V → List ℕ → Type 0} (k : Kind) (c : ℕ) (octets : List ℕ) (refusal : Refusal) → IsServiceOf S k c
    → (refusal.why ≢ OutOfMemory → IsWholeRefusal S octets refusal) → (refusal.why ≡ OutOfMemory → (refusal.place ≡ 0) × (is_small k c ≡ false)) → IsServiceReason refusal.why → IsRefused k c octets refusal
refused_as {V} {S} k c octets refusal same h memory reason = record {
  refused = λ w. whole_alike S (SpellsService true 32 k c) octets refusal (λ v b s. let x = same.every v in (x.0, (x.1 b).0 s)) same.only (h w);
  memory = memory;
  reason = reason;
}
