use Rattle.std.proofs.Common.{arith, ◌≡◌, ◌<◌, ◌∙◌, ◌+◌, ◌-◌, ◌%◌, ◌/◌, ℕ, false, length, get_or, sym, ap}
use Rattle.std.specs.Prelude.{Some, ◌==◌}
use Rattle.std.specs.Int.{bit_at}
use Rattle.std.proofs.lemmas.Nat.Bits.{shr_and_one}
use Rattle.std.proofs.lemmas.Option.{slice_get-get_or}
use Rattle.bac_value.specs.BitsContents.{bits_of}
use Rattle.bac_value.specs.Laws.Bits.{least_length, least_bit}
use Rattle.bac_value.proofs.types.bit_string.bit_of.Goals as goal

pub bounds-contents-place : goal.bounds-contents-place
bounds-contents-place c = let all = least_length c.args.contents.now c.requires in omega (arith, all.0, c.bit_count.ensures, c.if-place-bit_count.false)

pub returns : goal.returns
returns c =
    let inside : c.args.place < length (bits_of c.args.contents.now) = omega (arith, c.bit_count.ensures, c.if-place-bit_count.false) in
    let bit : get_or (bits_of c.args.contents.now) c.args.place false ≡ (bit_at (get_or c.args.contents.now (1 + c.args.place / 8) 0) (7 - c.args.place % 8) == 1) = least_bit c.args.contents.now c.args.place c.requires inside in
    ap (λ (n : ℕ). Some (n == 1)) (shr_and_one (get_or c.args.contents.now (1 + c.args.place / 8) 0) (7 - c.args.place % 8)) ∙ ap Some (sym bit) ∙ sym (slice_get-get_or (bits_of c.args.contents.now) c.args.place false inside)
