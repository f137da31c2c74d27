use Rattle.std.proofs.Common.{◌≡◌, ℕ, List, [], ◌∷◌, ◌++◌, slice_index, length, sym, ap, ◌∙◌, arith}
use Rattle.bac_tag.proofs.WritingLemmas.{some_least}
use Rattle.bac_tag.proofs.appending.append_head.Goals as goal

-- a list of one octet
list_of_one : (b : List ℕ) (octet : ℕ) → length b ≡ 1 → slice_index b 0 ≡ octet → b ≡ octet ∷ []
list_of_one [] octet l e = absurd (omega (arith, l))
list_of_one (x ∷ []) octet l e = ap (λ (n : ℕ). n ∷ []) e
list_of_one (x ∷ (y ∷ ys)) octet l e = absurd (omega (arith, l))

pub returns-then-head_len-eq1-clause-ok : goal.returns-then-head_len-eq1-clause-ok
returns-then-head_len-eq1-clause-ok c =
    let (b, p) = some_least c.args.head c.requires c.first_octet.ensures.fits in
    let is = list_of_one b c.first_octet.result (sym (c.head_len.ensures b p) ∙ c.if-head_len-eq1.true) (c.first_octet.ensures.first b p) in
    record { more = b; is_least = p; new_is = c.in_ok-push.ensures.items ∙ ap (λ (more : List ℕ). c.args.out.now.items ++ more) (sym is) }
