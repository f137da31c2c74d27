use Rattle.std.proofs.Common.{◌≡◌, ◌+◌, ℕ, false, map, slice_index, ap, sym, ◌∙◌, arith}
use Rattle.std.specs.Prelude.{◌==◌}
use Rattle.std.specs.List.{slice_index_or}
use Rattle.std.proofs.Math.ListN.{get_or-map}
use Rattle.bac_value.specs.BitsContents.{worth}
use Rattle.bac_lines.proofs.BitsAndTexts.{is_one}
use Rattle.bac_lines.proofs.scanning.strings.octet_at.Goals as goal

pub returns : goal.returns
returns c =
    let bit : (place : ℕ) → worth (slice_index c.args.digits.now place == 49) ≡ worth (slice_index_or (map is_one c.args.digits.now) place false) = λ place. ap worth (sym (get_or-map is_one c.args.digits.now place 0)) in
    omega (
      arith,
      c.bit_at.ensures ∙ bit c.args.place,
      c.bit_at-2.ensures ∙ bit (c.args.place + 1),
      c.bit_at-3.ensures ∙ bit (c.args.place + 2),
      c.bit_at-4.ensures ∙ bit (c.args.place + 3),
      c.bit_at-5.ensures ∙ bit (c.args.place + 4),
      c.bit_at-6.ensures ∙ bit (c.args.place + 5),
      c.bit_at-7.ensures ∙ bit (c.args.place + 6),
      c.bit_at-8.ensures ∙ bit (c.args.place + 7),
    )
