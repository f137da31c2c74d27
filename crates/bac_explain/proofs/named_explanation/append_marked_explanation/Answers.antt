use Rattle.std.proofs.Common.{◌≡◌, ◌++◌, List, ℕ, OnOk, subst, sym}
use Rattle.std.specs.Prelude.{Option}
use Rattle.bac_npdu_parts.specs.Frames.{value_of}
use Rattle.bac_explain.specs.Explanations.{IsFrameExplanation}
use Rattle.bac_explain.proofs.named_explanation.append_marked_explanation.Goals as goal

pub returns-in-None-clause-ok : goal.returns-in-None-clause-ok
returns-in-None-clause-ok c =
    let r = c.append_canonical_explanation.result in
    let new = c.append_canonical_explanation.new.out.items in
    subst (λ (mark : Option ℕ). OnOk r ((x : List ℕ) × (new ≡ c.args.out.now.items ++ x) × IsFrameExplanation c.args.octets.now (value_of c.args.frame.now) mark x)) (sym c.in-None.is) c.append_canonical_explanation.ensures.ok
