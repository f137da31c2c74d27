use Rattle.std.proofs.Common.{ℤ, ◌∙◌, ap, rules}
use Rattle.std.specs.Int.{w64, to_be_bytes, cast_unsigned}
use Rattle.std.proofs.lemmas.Int.{to_z-of_z}
use Rattle.std.specs.Prelude.{FitsSigned}
use Rattle.bac_numbers.specs.SignedContents.{signed_number}
use Rattle.bac_numbers.specs.Laws.Signed.{signed_number-to_be_bytes}
use Rattle.bac_numbers.proofs.signed_numbers.eight_octets.Goals as goal

pub returns : goal.returns
returns c =
    let fits : FitsSigned w64 c.args.value = search rules in
    ap signed_number (c.to_be_bytes.ensures ∙ ap (λ (z : ℤ). to_be_bytes w64 (cast_unsigned w64 z)) (to_z-of_z w64 c.args.value fits)) ∙ (signed_number-to_be_bytes c.args.value fits).is
