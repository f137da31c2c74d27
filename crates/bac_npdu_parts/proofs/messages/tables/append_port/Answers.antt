use Rattle.std.specs.Prelude.{List, [], ◌∷◌, ◌++◌, ◌/◌, ◌%◌, ℕ, length}
use Rattle.std.proofs.Common.{ap, ◌∙◌}
use Rattle.bac_npdu_parts.proofs.WrittenLemmas.{one_behind, told}
use Rattle.bac_npdu_parts.proofs.messages.tables.append_port.Goals as goal

pub returns-clause-written : goal.returns-clause-written
returns-clause-written c =
    let old = c.args.out.now.items in
    let port = c.args.port.now in
    let network = c.in_ok-extend_from_slice.ensures.items ∙ ap (λ (l : List ℕ). old ++ l) c.octets_of_number.ensures in
    let numbers = one_behind old (port.network / 256 ∷ port.network % 256 ∷ []) _ network c.in_ok-extend_from_slice-2.ensures.items in
    let count = ap (λ (l : List ℕ). old ++ port.network / 256 ∷ port.network % 256 ∷ port.id ∷ length l ∷ []) c.octets-info.ensures.octets in
    one_behind old (port.network / 256 ∷ port.network % 256 ∷ port.id ∷ length port.info ∷ []) _ (numbers ∙ count) (c.in_ok-extend_from_slice-3.ensures.items ∙ ap (λ (l : List ℕ). c.extend_from_slice-2.new.self.items ++ l) (c.octets-info.ensures.octets ∙ told port.info))
