use Rattle.std.proofs.Common.{◌++◌, ◌≤◌, ◌<◌, List, ℕ, ap, arith, take, ◌∙◌}
use Rattle.bac_explain.proofs.LineLemmas.{place_one, place_two}
use Rattle.bac_explain.proofs.beginnings.put_place.Goals as goal

pub returns-then-number-lt10-clause-text : goal.returns-then-number-lt10-clause-text
returns-then-number-lt10-clause-text c =
    c.put_word.ensures.text ∙ ap (λ (l : List ℕ). take c.args.at c.args.room.now ++ l) (place_one c.args.place c.digit.result (omega (arith, c.if-number-lt10.true)) c.digit.ensures)

pub returns-then-number-lt100-clause-text : goal.returns-then-number-lt100-clause-text
returns-then-number-lt100-clause-text c =
    let n = c.args.place in
    let ten : 10 ≤ n = omega (arith, c.if-number-lt10.false) in
    let few : n < 100 = omega (arith, c.if-number-lt100.true) in
    c.put_word-then-number-lt100.ensures.text ∙ ap (λ (l : List ℕ). take c.args.at c.args.room.now ++ l) (place_two n c.digit-tens.result c.digit-then-number-lt100.result ten few c.digit-tens.ensures c.digit-then-number-lt100.ensures)
