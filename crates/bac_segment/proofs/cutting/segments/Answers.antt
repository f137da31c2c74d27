use Rattle.std.proofs.Common.{◌++◌, ◌∷◌, [], map, ℕ, true, false, List, drop, sym, ap, ◌∙◌, arith}
use Rattle.std.proofs.lemmas.List.{map-append, take-append-drop}
use Rattle.std.proofs.lemmas.Grind.{rows}
use Rattle.bac_segment.specs.Deliveries.{Delivery, delivery}
use Rattle.bac_segment.proofs.PieceLemmas.{cut_more, cut_last}
use Rattle.bac_segment.proofs.cutting.segments.Goals as goal

pub loop-rest-preserved : goal.loop-rest-preserved
loop-rest-preserved c = record {
  so_far = cut_more c.args.plan.now c.args.octets.now (map delivery c.loop-rest.segments.items) (map delivery c.push.new.self.items) (delivery c.in_ok-segment.field-0) c.loop-rest.number c.split_at.result.0.now c.split_at.result.1.now c.loop-rest.rest.now c.loop-rest.invariant.so_far
      (sym (take-append-drop c.args.plan.now.size c.loop-rest.rest.now) ∙ ap (λ (o : List ℕ). o ++ drop c.args.plan.now.size c.loop-rest.rest.now) (sym c.split_at.ensures.front) ∙ ap (λ (o : List ℕ). c.split_at.result.0.now ++ o) (sym c.split_at.ensures.back))
      c.split_at.ensures.front_len (omega (arith, c.split_at.ensures.back_len, c.loop-rest-test.true)) (c.in_ok-segment.ensures ∙ ap (λ (w : ℕ). let d : Delivery = record { head = c.args.plan.now.head; window = w; choice = c.args.plan.now.choice; seq = c.loop-rest.number; more = true; piece = c.split_at.result.0.now } in d) c.requires.window)
      (ap (λ xs. map delivery xs) c.in_ok-push.ensures.items ∙ map-append delivery c.loop-rest.segments.items (c.in_ok-segment.field-0 ∷ []));
  place = grind (arith, rows, c.loop-rest.invariant.place, c.split_at.ensures.back_len);
}

pub returns-clause-ok : goal.returns-clause-ok
returns-clause-ok c = cut_last c.args.plan.now c.args.octets.now (map delivery c.loop-rest.segments.items) (map delivery c.push-2.new.self.items) (delivery c.in_ok-segment-2.field-0) c.loop-rest.number c.loop-rest.rest.now c.loop-rest.invariant.so_far
    (omega (arith, c.loop-rest-test.false)) (c.in_ok-segment-2.ensures ∙ ap (λ (w : ℕ). let d : Delivery = record { head = c.args.plan.now.head; window = w; choice = c.args.plan.now.choice; seq = c.loop-rest.number; more = false; piece = c.loop-rest.rest.now } in d) c.requires.window)
    (ap (λ xs. map delivery xs) c.in_ok-push-2.ensures.items ∙ map-append delivery c.loop-rest.segments.items (c.in_ok-segment-2.field-0 ∷ []))
