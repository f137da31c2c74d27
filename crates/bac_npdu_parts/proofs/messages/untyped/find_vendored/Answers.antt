use Rattle.std.specs.Prelude.{◌<◌, ℕ, List, Some, drop, slice_index}
use Rattle.std.proofs.Common.{sym, subst, arith}
use Rattle.bac_npdu_parts.specs.Messages.{opaque, SpellsMessage}
use Rattle.bac_npdu_parts.proofs.UntypedLemmas.{behind_all, vendored_spelled, vendored_short}
use Rattle.bac_npdu_parts.proofs.CheckedLemmas.{early_why, no_message}
use Rattle.bac_npdu_parts.proofs.messages.untyped.find_vendored.Goals as goal

pub returns-in_default-clause-refused : goal.returns-in_default-clause-refused
returns-in_default-clause-refused c =
    let small : (k : ℕ) → slice_index c.args.octets.now k < 256 = λ k. omega (arith, c.type_inv.octets k) in
    no_message c.args.octets.now c.at.result (rw c.at.ensures (vendored_short c.args.octets.now small c.requires.some c.requires.untyped c.requires.vendored c.in_default.len_below)) (early_why c.args.octets.now c.at.result c.at.ensures)

pub returns-clause-found : goal.returns-clause-found
returns-clause-found c =
    let small : (k : ℕ) → slice_index c.args.octets.now k < 256 = λ k. omega (arith, c.type_inv.octets k) in
    let b = c.args.octets.now in
    let spelled = vendored_spelled b small c.in-len3-up.len_at_least c.requires.untyped c.requires.vendored in
    let numbered = subst (λ (n : ℕ). SpellsMessage (opaque (record { kind = slice_index b 0; vendor = Some n; octets = drop 3 b })) b) (sym c.number_at.ensures) spelled in
    subst (λ (l : List ℕ). SpellsMessage (opaque (record { kind = slice_index b 0; vendor = Some c.number_at.result; octets = l })) b) (behind_all 3 b) numbered
