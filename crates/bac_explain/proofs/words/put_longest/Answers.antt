use Rattle.std.specs.Prelude.{codes, nat_lt}
use Rattle.std.specs.Fmt.{decimal}
use Rattle.std.proofs.Common.{◌≡◌, ◌++◌, take, sym, ap, ◌∙◌, append_assoc, arith}
use Rattle.std.proofs.lemmas.Bool.{cond-true, cond-false, lt-ltb, le-ltb}
use Rattle.bac_explain.specs.Words.{apdu_words, longest_apdu}
use Rattle.bac_explain.proofs.words.put_longest.Goals as goal

pub returns-then-number-lt6-clause-text : goal.returns-then-number-lt6-clause-text
returns-then-number-lt6-clause-text c =
    let n = c.args.number in
    let front = take c.args.at c.args.room.now in
    let small : apdu_words n ≡ codes ", APDU up to " ++ decimal (longest_apdu n) = cond-true (nat_lt n 6) _ _ (lt-ltb n 6 c.if-number-lt6.true) in
    let digits = c.put_decimal.ensures.digits ∙ ap (λ m. take c.put_word-end.result c.put_word-end.new.room ++ decimal m) (c.from.ensures ∙ c.longest_apdu.ensures) in
    digits ∙ ap (λ l. l ++ decimal (longest_apdu n)) c.put_word-end.ensures.text ∙ append_assoc front (codes ", APDU up to ") (decimal (longest_apdu n)) ∙ ap (λ l. front ++ l) (sym small)

pub returns-clause-text : goal.returns-clause-text
returns-clause-text c =
    let n = c.args.number in
    let reserved : apdu_words n ≡ codes ", APDU of reserved length " ++ decimal n = cond-false (nat_lt n 6) _ _ (le-ltb n 6 (omega (arith, c.if-number-lt6.false))) in
    c.put_counted.ensures.text ∙ ap (λ l. take c.args.at c.args.room.now ++ l) (sym reserved)
