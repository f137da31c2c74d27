use Rattle.std.proofs.Common.{◌∙◌, ap, sym, ◌++◌, arith}
use Rattle.std.specs.Prelude.{ℕ, List}
use Rattle.bac_numbers.specs.Laws.Numbers.{written_in_one, written_in_two, written_in_three, written_in_four}
use Rattle.bac_numbers.proofs.ranged_numbers.write_closely.Goals as goal

pub returns-in_ok-push-in-0-to-255-clause-ok : goal.returns-in_ok-push-in-0-to-255-clause-ok
returns-in_ok-push-in-0-to-255-clause-ok c =
    c.in_ok-push-in-0-to-255.ensures.items ∙ ap (λ (l : List ℕ). c.args.out.now.items ++ l) (sym (written_in_one c.args.number (omega (arith, c.in-0-to-255))))

pub returns-in_ok-extend_from_slice-in-256-to-65535-clause-ok : goal.returns-in_ok-extend_from_slice-in-256-to-65535-clause-ok
returns-in_ok-extend_from_slice-in-256-to-65535-clause-ok c =
    rw (c.to_be_bytes.ensures, written_in_two c.args.number (omega (arith, c.in-256-to-65535)) (omega (arith, c.in-256-to-65535))) at c.in_ok-extend_from_slice-in-256-to-65535.ensures.items

pub returns-in_ok-extend_from_slice-in-65536-to-16777215-clause-ok : goal.returns-in_ok-extend_from_slice-in-65536-to-16777215-clause-ok
returns-in_ok-extend_from_slice-in-65536-to-16777215-clause-ok c =
    rw c.to_be_bytes-in-65536-to-16777215.ensures at c.in_ok-extend_from_slice-in-65536-to-16777215.ensures.items ∙ ap (λ (l : List ℕ). c.args.out.now.items ++ l) (written_in_three c.args.number (omega (arith, c.in-65536-to-16777215)) (omega (arith, c.in-65536-to-16777215)))

pub returns-in_ok-extend_from_slice-in_default-clause-ok : goal.returns-in_ok-extend_from_slice-in_default-clause-ok
returns-in_ok-extend_from_slice-in_default-clause-ok c =
    rw (c.to_be_bytes-in_default.ensures, written_in_four c.args.number (omega (arith, c.in_default)) (omega (arith, c.ranges.number.fits))) at c.in_ok-extend_from_slice-in_default.ensures.items
