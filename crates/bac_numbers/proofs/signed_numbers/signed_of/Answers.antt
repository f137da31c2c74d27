use Rattle.std.proofs.Common.{rules, List, ℕ, ◌∙◌, ap, arith, inl, inr, get_or}
use Rattle.std.proofs.lemmas.Bool.{cases_lt}
use Rattle.std.specs.Int.{w64, from_be_bytes, cast_signed}
use Rattle.std.specs.Prelude.{FitsSigned}
use Rattle.std.proofs.lemmas.Int.{to_z-of_z}
use Rattle.bac_tag.specs.Octets.{IsOctets}
use Rattle.bac_tag.specs.Laws.Octets.{octets_at}
use Rattle.bac_numbers.specs.Laws.Signed.{widened_low, widened_high}
use Rattle.bac_numbers.proofs.signed_numbers.signed_of.Goals as goal

pub returns : goal.returns
returns c =
    let octets : IsOctets c.args.octets.now = octets_at _ (λ k. omega (arith, c.type_inv.octets k)) in
    let fits : FitsSigned w64 c.from_be_bytes.result = search rules in
    to_z-of_z w64 _ fits ∙ elim (cases_lt (get_or c.args.octets.now 0 0) 128) [
      | inl low ↦ c.from_be_bytes.ensures ∙ ap (λ (l : List ℕ). cast_signed w64 (from_be_bytes w64 l)) (c.widened.ensures.low low) ∙ widened_low c.args.octets.now octets c.requires.0 c.requires.1 low
      | inr high ↦ c.from_be_bytes.ensures ∙ ap (λ (l : List ℕ). cast_signed w64 (from_be_bytes w64 l)) (c.widened.ensures.high high) ∙ widened_high c.args.octets.now octets c.requires.0 c.requires.1 high
    ]
