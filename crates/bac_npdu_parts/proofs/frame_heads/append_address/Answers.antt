use Rattle.std.specs.Prelude.{List, [], ◌∷◌, ◌++◌, ◌/◌, ◌%◌, ℕ, length}
use Rattle.std.proofs.Common.{ap, ◌∙◌}
use Rattle.bac_npdu_parts.proofs.WrittenLemmas.{one_behind}
use Rattle.bac_npdu_parts.proofs.frame_heads.append_address.Goals as goal

pub returns-clause-written : goal.returns-clause-written
returns-clause-written c =
    let old = c.args.out.now.items in
    let number = c.args.network in
    let address = c.args.address.now in
    let network = c.in_ok-extend_from_slice.ensures.items ∙ ap (λ (l : List ℕ). old ++ l) c.octets_of_number.ensures in
    let numbers = one_behind old (number / 256 ∷ number % 256 ∷ []) _ network c.in_ok-push.ensures.items in
    one_behind old (number / 256 ∷ number % 256 ∷ length address ∷ []) _ numbers c.in_ok-extend_from_slice-2.ensures.items
