use Rattle.std.proofs.Common.{ℕ, List, ◌+◌, ◌++◌, take, ap, ◌∙◌}
use Rattle.std.proofs.Math.Seq.{take-append-add}
use Rattle.bac_numbers.specs.Numbers.{least_number}
use Rattle.bac_numbers.specs.Laws.Numbers.{written_in_word}
use Rattle.bac_numbers.proofs.ranged_numbers.write_number.Goals as goal

pub returns-clause-ok : goal.returns-clause-ok
returns-clause-ok c =
    let old : List ℕ = c.args.out.now.items in
    let count = c.len_of_word-count.result in
    let (small, same) = c.in-Ok.ensures in
    let told = c.len_of_word-count.ensures in
    c.truncate.ensures.items
    ∙ ap (take (c.len-2.result + count)) c.in_ok-extend_from_slice.ensures.items
    ∙ ap (λ (k : ℕ). take (k + count) (old ++ c.last_of_word.result)) (c.len-2.ensures ∙ c.args.out.now.ok.0)
    ∙ take-append-add old c.last_of_word.result count
    ∙ ap (λ (l : List ℕ). old ++ l) (c.last_of_word.ensures ∙ written_in_word c.in-Ok.word count (rw same small) told.one told.two told.three told.four)
    ∙ ap (λ (n : ℕ). old ++ least_number n) same
