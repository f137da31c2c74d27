use Rattle.std.proofs.Common.{◌≡◌, ◌%◌, ℕ, get_or, subst, sym, take, drop}
use Rattle.bac_tag.specs.Heads.{class_bit, LengthIn, Opening}
use Rattle.bac_tag.specs.Laws.Heads.{class_bit_below}
use Rattle.bac_tag.proofs.QuickHeadLemmas.{valid_number, opens_in_first, opens_in_two, takes_headed}
use Rattle.bac_tag.proofs.quick_heads.long_length.Goals.{then-octets-lt240, else-octets-lt240+then-octets-gt1+then-octets-number}
use Rattle.bac_tag.proofs.quick_heads.long_length.Goals as goal

pub returns-in-Some : goal.returns-in-Some
returns-in-Some c =
    let opening : Opening (class_bit c.args._context) c.args.number (get_or c.args.octets.now 0 0 % 8) (take c.if-octets-lt240.start c.args.octets.now) = elim c.if-octets-lt240.branch [
      | then-octets-lt240 w ↦ rw w.start-is (opens_in_first (class_bit c.args._context) c.args.number c.args.octets.now (class_bit_below c.args._context) c.requires.begins w.if-octets-lt240.true)
      | else-octets-lt240+then-octets-gt1+then-octets-number w ↦ rw w.start-is (opens_in_two (class_bit c.args._context) c.args.number c.args.octets.now (class_bit_below c.args._context) (valid_number c.args._context c.args.number c.requires.valid) c.requires.begins
          w.if-octets-lt240.false w.if-octets-gt1.true w.if-octets-number.true)
    ] in
    takes_headed c.args._context c.args.number c.in-Some.found.0 c.args.octets.now c.if-octets-lt240.start c.in-Some.found.1 (get_or c.args.octets.now 0 0 % 8) c.requires.valid c.in-Some.ensures.within.0 c.in-Some.ensures.within.1 opening c.in-Some.ensures.length

pub returns : goal.returns
returns c =
    let opening : Opening (class_bit c.args._context) c.args.number (get_or c.args.octets.now 0 0 % 8) (take c.if-octets-lt240.start c.args.octets.now) = elim c.if-octets-lt240.branch [
      | then-octets-lt240 w ↦ rw w.start-is (opens_in_first (class_bit c.args._context) c.args.number c.args.octets.now (class_bit_below c.args._context) c.requires.begins w.if-octets-lt240.true)
      | else-octets-lt240+then-octets-gt1+then-octets-number w ↦ rw w.start-is (opens_in_two (class_bit c.args._context) c.args.number c.args.octets.now (class_bit_below c.args._context) (valid_number c.args._context c.args.number c.requires.valid) c.requires.begins
          w.if-octets-lt240.false w.if-octets-gt1.true w.if-octets-number.true)
    ] in
    let five : 5 ≡ get_or c.args.octets.now 0 0 % 8 = sym c.if-lvt-ne5.false in
    takes_headed c.args._context c.args.number c.in_ok-len.len c.args.octets.now c.if-octets-lt240.start c.in_ok-len.end (get_or c.args.octets.now 0 0 % 8) c.requires.valid c.in_ok-len.ensures.within.0 c.in_ok-len.ensures.within.1 opening
    (subst (λ (lvt : ℕ). LengthIn c.in_ok-len.len lvt (drop c.if-octets-lt240.start (take c.in_ok-len.end c.args.octets.now))) five c.in_ok-len.ensures.length)
