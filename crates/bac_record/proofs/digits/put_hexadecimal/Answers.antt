use Rattle.std.proofs.Common.{arith, ℕ, ◌≡◌, ◌+◌, ◌*◌, List, [], ◌∷◌, ◌++◌, take, slice_index_or, ap, refl, ◌∙◌}
use Rattle.bac_record.proofs.DigitLemmas.{hexadecimal_step}
use Rattle.bac_record.proofs.digits.put_hexadecimal.Goals as goal

pub loop-index-preserved : goal.loop-index-preserved
loop-index-preserved c =
    let behind : c.args.at + 2 * (c.loop-index.index + 1) ≡ c.args.at + 2 * c.loop-index.index + 2 = omega arith in
    hexadecimal_step (take c.args.at c.args.room.now) (take (c.args.at + 2 * c.loop-index.index) c.loop-index.room) (take (c.args.at + 2 * (c.loop-index.index + 1)) c.put_pair.new.room) c.args.octets.now _ c.loop-index.index (omega arith) refl
    c.loop-index.invariant
    (ap (λ (k : ℕ). take k c.put_pair.new.room) behind
    ∙ c.put_pair.ensures
    ∙ ap (λ (l : List ℕ). take (c.args.at + 2 * c.loop-index.index) c.loop-index.room ++ slice_index_or l 0 0 ∷ slice_index_or l 1 0 ∷ []) c.digits_of.ensures)
