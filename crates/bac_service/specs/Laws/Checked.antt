-- What was checked of the parts of a service was checked of the service.
use Rattle.std.specs.Prelude.{◌≡◌, ◌≢◌, ℕ, ◌<◌, List, true, false, Option, None, Some, Result, Ok, Err, IfOk, IfErr, refl}
use Rattle.std.specs.Option.{is_some}
use Rattle.std.proofs.Common.{sym, inl, inr, ◌∙◌}
use Rattle.bac_tag.specs.declared.refusals.Refusal.{Refusal}
use Rattle.bac_tag.specs.declared.refusals.Why.TheVariants.{OutOfMemory}
use Rattle.bac_tag.specs.Octets.{IsOctets}
use Rattle.bac_tag.specs.Laws.Octets.{NoGreater-same}
use Rattle.bac_tag.specs.Spelling.{IsWholeRefusal}
use Rattle.bac_productions.specs.Productions.{IsMarked}
use Rattle.bac_productions.specs.Reasons.{IsReachReason, IsServiceReason}
use Rattle.bac_productions.specs.Laws.Least.{mark_alike}
use Rattle.bac_productions.specs.Laws.Whole.{whole_alike}
use Rattle.bac_service.specs.declared.kind.Kind.{Kind}
use Rattle.bac_service.specs.declared.service.Service.{Service}
use Rattle.bac_service.specs.Decoded.{IsDecoded, IsServiceChecked}
use Rattle.bac_service.specs.ServiceTable.{ServiceProduction, production_of, is_small}
use Rattle.bac_service.specs.Services.{value_of, opaque, SpellsService, IsServiceOf}

reason_of : (refusal : Refusal) → (refusal.why ≡ OutOfMemory → ⊥) → IsServiceReason refusal.why → IsReachReason refusal.why
reason_of refusal none (inl e) = absurd (none e)
reason_of refusal none (inr h) = h

-- a service is checked as its parts are
pub checked_as : {V : Type 0} {S : V → List ℕ → Type 0} (k : Kind) (c : ℕ) (octets : List ℕ) (r : Result (Option ℕ) Refusal) → IsServiceOf S k c → IfOk r (IsMarked S octets) → IfErr r (λ refusal. refusal.why ≢ OutOfMemory → IsWholeRefusal S octets refusal)
    → IfErr r (λ refusal. refusal.why ≡ OutOfMemory → ⊥) → IfErr r (λ refusal. IsServiceReason refusal.why) → IsServiceChecked k c octets r
checked_as {S} k c octets (Ok mark) of found refused memory reasons = let x = of.every found.value in record { value = x.0; spelled = (x.1 octets).0 found.spelled; marked = mark_alike x.1 found.marked }
checked_as {S} k c octets (Err refusal) of found refused memory reasons = (
  whole_alike S (SpellsService true 32 k c) octets refusal (λ v b s. let x = of.every v in (x.0, (x.1 b).0 s)) of.only (refused memory),
  reason_of refusal memory reasons,
)

untyped : (p : Option ServiceProduction) → is_some p ≡ false → None ≡ p
untyped None e = refl
untyped (Some p) e = absurd (let i : true ≡ false = e in cc)

-- opaque octets are their own only spelling
pub marked_opaque : (k : Kind) (c : ℕ) (octets : List ℕ) → c < 256 → is_some (production_of true k c) ≡ false → IsOctets octets → IsMarked (SpellsService true 32 k c) octets None
marked_opaque k c octets fits none are =
    let spelled : SpellsService true 32 k c (opaque k c octets) octets = record { kind_is = refl; choice_is = refl; choice_fits = fits; production_is = untyped (production_of true k c) none; spelled = (refl, are) } in
    record {
      value = opaque k c octets;
      spelled = spelled;
      marked = record { least = octets; is_least = record { member = spelled; least = λ d s. NoGreater-same octets d (sym s.spelled.0) }; is_mark = refl };
    }

-- a small service is checked where it was decoded
pub checked_small : (k : Kind) (c : ℕ) (octets : List ℕ) (service : Service) (mark : Option ℕ) → IsDecoded k c octets (Ok (service, mark)) → IsServiceChecked k c octets (Ok mark)
checked_small k c octets service mark h = record { value = value_of service; spelled = h.spelled; marked = h.marked }

pub refused_small : (k : Kind) (c : ℕ) (octets : List ℕ) (refusal : Refusal) → is_small k c ≡ true → IsDecoded k c octets (Err refusal) → IsServiceChecked k c octets (Err refusal)
refused_small k c octets refusal small h =
    let memory : refusal.why ≡ OutOfMemory → ⊥ = λ e. let i : true ≡ false = sym small ∙ (h.memory e).1 in cc in
    (h.refused memory, reason_of refusal memory h.reason)
