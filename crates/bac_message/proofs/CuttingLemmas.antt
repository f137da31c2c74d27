-- What is cut, and why a frame is not.
use Rattle.std.proofs.Common.{◌≡◌, ℕ, true, Option, Some, None, Result, Ok, Err, List, map, refl, sym, ap, subst, ◌∙◌}
use Rattle.std.specs.Prelude.{IsSome, IfErr, IsErrOf, MatchOption}
use Rattle.bac_tag.specs.Spelling.{IsLeast}
use Rattle.bac_service.specs.declared.kind.Kind.{Kind}
use Rattle.bac_service.specs.Services.{ServiceValue, SpellsService}
use Rattle.bac_npdu_parts.specs.Frames.{FrameValue}
use Rattle.bac_segment.specs.declared.cutting.CutPlan.{CutPlan}
use Rattle.bac_segment.specs.declared.cutting.CutFault.{CutFault}
use Rattle.bac_segment.specs.declared.cutting.CutFault.TheVariants.{Size, Window, TooLong, TooMany, OutOfMemory}
use Rattle.bac_segment.specs.Deliveries.{Delivery}
use Rattle.bac_segment.specs.Pieces.{IsCutOf, cut_fault}
use Rattle.bac_message.specs.declared.faults.FrameCutFault.TheVariants.{Cut}
use Rattle.bac_message.specs.Messages.{Message, message_of, kind_of, SpellsContent, segment_frame}
use Rattle.bac_message.specs.CutFrames.{plan_of, IsCutFrame, IsFrameCutFault}

-- the plan with a choice that was read off
abbrev plan_with : Message → ℕ → ℕ → ℕ → CutPlan
plan_with m size window choice = record { head = m.head; choice = choice; size = size; window = window }

content : (m : Message) (octets : List ℕ) → m.service.kind ≡ kind_of m.head → IsLeast (SpellsService true 32 m.service.kind m.service.choice m.service) octets → IsLeast (SpellsContent m) octets
content m octets e h = subst (λ (k : Kind). IsLeast (SpellsService true 32 k m.service.choice m.service) octets) e h

pub octets_are : (service : ServiceValue) (written octets : List ℕ) → octets ≡ written → IsLeast (SpellsService true 32 service.kind service.choice service) written → IsLeast (SpellsService true 32 service.kind service.choice service) octets
octets_are service written octets e h = subst (λ (o : List ℕ). IsLeast (SpellsService true 32 service.kind service.choice service) o) (sym e) h

is_fine : {T : Type 0} (o : Option CutFault) (result : Result T CutFault) (found : T) → result ≡ Ok found → MatchOption o (IfErr result (λ fault. fault ≡ OutOfMemory)) (λ fault. IsErrOf result fault) → o ≡ None
is_fine None result found e h = refl
is_fine (Some fault) result found e h = absurd (let i : Ok found ≡ Err fault = sym e ∙ h in cc)

-- the fault that is told
told : {T : Type 0} (o : Option CutFault) (result : Result T CutFault) (fault : CutFault) → result ≡ Err fault → MatchOption o (IfErr result (λ f. f ≡ OutOfMemory)) (λ f. IsErrOf result f) → (fault ≡ OutOfMemory → ⊥) → o ≡ Some fault
told {T = T} None result fault e h other = absurd (other (subst (λ (r : Result T CutFault). IfErr r (λ f. f ≡ OutOfMemory)) e h))
told {T = T} (Some f) result fault e h other = let i : (let r : Result T CutFault = Err f in r) ≡ Err fault = sym h ∙ e in let j : f ≡ fault = cc in ap (λ (x : CutFault). let o : Option CutFault = Some x in o) j

pub cut_failed : {T : Type 0} (frame : FrameValue) (m : Message) (size window choice : ℕ) (octets : List ℕ) (result : Result T CutFault) (fault : CutFault) → message_of frame ≡ Some m → m.service.kind ≡ kind_of m.head
    → IsLeast (SpellsService true 32 m.service.kind m.service.choice m.service) octets → choice ≡ m.service.choice → result ≡ Err fault
    → MatchOption (cut_fault (plan_with m size window choice) octets) (IfErr result (λ f. f ≡ OutOfMemory)) (λ f. IsErrOf result f) → IsFrameCutFault frame size window (Cut fault)
cut_failed frame m size window choice octets result fault e k least c r h =
    by_fault fault (λ other. ap (λ (n : ℕ). cut_fault (plan_with m size window n) octets) (sym c) ∙ told (cut_fault (plan_with m size window choice) octets) result fault r h other)
  where
    by_fault : (f : CutFault) → ((f ≡ OutOfMemory → ⊥) → cut_fault (plan_of m size window) octets ≡ Some f) → IsFrameCutFault frame size window (Cut f)
    by_fault Size i = (m, e, (octets, content m octets k least, i (λ x. let y : Size ≡ OutOfMemory = x in cc)))
    by_fault Window i = (m, e, (octets, content m octets k least, i (λ x. let y : Window ≡ OutOfMemory = x in cc)))
    by_fault TooLong i = (m, e, (octets, content m octets k least, i (λ x. let y : TooLong ≡ OutOfMemory = x in cc)))
    by_fault TooMany i = (m, e, (octets, content m octets k least, i (λ x. let y : TooMany ≡ OutOfMemory = x in cc)))
    by_fault OutOfMemory i = subst (λ (o : Option Message). IsSome o) (sym e) refl

pub cut_made : {T : Type 0} (frame : FrameValue) (m : Message) (size window choice : ℕ) (octets : List ℕ) (result : Result T CutFault) (found : T) (segments : List Delivery) (frames : List FrameValue) → message_of frame ≡ Some m
    → m.service.kind ≡ kind_of m.head → IsLeast (SpellsService true 32 m.service.kind m.service.choice m.service) octets → choice ≡ m.service.choice → result ≡ Ok found
    → MatchOption (cut_fault (plan_with m size window choice) octets) (IfErr result (λ f. f ≡ OutOfMemory)) (λ f. IsErrOf result f) → IsCutOf (plan_with m size window choice) octets segments → frames ≡ map (segment_frame m.frame) segments
    → IsCutFrame frame size window frames
cut_made frame m size window choice octets result found segments frames e k least c r h cut is = record {
  message = m;
  message_is = e;
  octets = octets;
  canonical = content m octets k least;
  fine = subst (λ (n : ℕ). cut_fault (plan_with m size window n) octets ≡ None) c (is_fine (cut_fault (plan_with m size window choice) octets) result found r h);
  segments = segments;
  cut = subst (λ (n : ℕ). IsCutOf (plan_with m size window n) octets segments) c cut;
  frames_are = is;
}
