use Rattle.std.specs.Prelude.{◌<◌, ℕ, List, None, slice_index}
use Rattle.std.proofs.Common.{subst, arith}
use Rattle.bac_npdu_parts.specs.Messages.{opaque, SpellsMessage}
use Rattle.bac_npdu_parts.proofs.UntypedLemmas.{behind_all, plain_spelled}
use Rattle.bac_npdu_parts.proofs.messages.untyped.find_opaque.Goals as goal

pub returns-clause-found : goal.returns-clause-found
returns-clause-found c =
    let small : (k : ℕ) → slice_index c.args.octets.now k < 256 = λ k. omega (arith, c.type_inv.octets k) in
    let b = c.args.octets.now in
    subst (λ (l : List ℕ). SpellsMessage (opaque (record { kind = slice_index b 0; vendor = None; octets = l })) b) (behind_all 1 b) (plain_spelled b small c.in-len1-up.len_at_least c.requires.untyped (omega arith))
