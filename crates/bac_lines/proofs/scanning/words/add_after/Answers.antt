use Rattle.std.specs.Prelude.{◌-◌, take, drop, ◌≡◌, ◌+◌, ℕ, List, [], ◌∷◌, ◌++◌, length, refl}
use Rattle.std.specs.Cmp.Lexicographic.{bytes_decides}
use Rattle.std.proofs.Common.{◌∙◌, sym, ap, subst, arith, inl, inr}
use Rattle.std.proofs.lemmas.Bool.Decides.{not_from_Decides}
use Rattle.bac_fields.specs.Line.{Form, form_of, as_text, as_type}
use Rattle.bac_lines.specs.Scanning.{TokenIn}
use Rattle.bac_lines.specs.Found.{word_before, after_word, value_shown, IsAdded}
use Rattle.bac_lines.proofs.ScanLemmas.{first_is, rest_after}
use Rattle.bac_lines.proofs.FoundLemmas.{found_both, found_so, word_alone, word_of_form, word_and_sign}
use Rattle.bac_lines.proofs.WordLemmas.{the_net, after_equals, after_colon, tail_is}
use Rattle.bac_lines.proofs.StartLemmas.{equals_after, equals_word, equals_begins, colon_after, colon_word, colon_begins}
use Rattle.bac_lines.proofs.scanning.words.add_after.Goals as goal

pub returns-then-octet-eq61-clause-found : goal.returns-then-octet-eq61-clause-found
returns-then-octet-eq61-clause-found c v after more s t b w l =
    let form = form_of v.name in
    let ends = c.args.ends.now.items in
    let first = first_is c.args.line.now c.in-Some.octet.now c.in-Some.ensures.value in
    let begun : c.args.line.now ≡ 61 ∷ first.0 = first.1 ∙ ap (λ (z : ℕ). z ∷ first.0) c.if-octet-eq61.true in
    let whole : 61 ∷ first.0 ≡ after_word form v ++ more = sym begun ∙ l in
    let rest = rest_after c.args.line.now (61 ∷ []) first.0 1 begun refl in
    let at = λ (f : Form). IsAdded v after (length (after_word f v)) c.args.said.now c.add_equals.new.said c.add_equals.new.ends.items c.add_equals.result in
    elim (after_equals form ends v after more first.0 s t b whole) [
      | inl k ↦ subst at (sym k)
          (c.add_equals.ensures.list v after more k (subst (λ (f : Form). TokenIn f ends v after) k t) (w ∙ ap (λ (f : Form). word_before f v) k)
          (rest ∙ tail_is (whole ∙ ap (λ (f : Form). after_word f v ++ more) k)))
      | inr other ↦ elim other [
        | inl k ↦ subst at (sym k)
            (c.add_equals.ensures.value v after more k (subst (λ (f : Form). TokenIn f ends v after) k t) (w ∙ ap (λ (f : Form). word_before f v) k) (rest ∙ tail_is (whole ∙ ap (λ (f : Form). after_word f v ++ more) k)))
        | inr k ↦
            let size : length (value_shown form v) + 1 ≡ length (after_word form v) = omega (arith, ap length (equals_after form v k)) in
            subst (λ (n : ℕ). IsAdded v after n c.args.said.now c.add_equals.new.said c.add_equals.new.ends.items c.add_equals.result) size
            (c.add_equals.ensures.held v after more k t (b (equals_begins form v k)) (w ∙ equals_word form v k) (rest ∙ tail_is (whole ∙ ap (λ (l : List ℕ). l ++ more) (equals_after form v k))))
      ]
    ]

pub returns-then-octet-eq58-clause-found : goal.returns-then-octet-eq58-clause-found
returns-then-octet-eq58-clause-found c v after more s t b w l =
    let form = form_of v.name in
    let ends = c.args.ends.now.items in
    let first = first_is c.args.line.now c.in-Some.octet.now c.in-Some.ensures.value in
    let begun : c.args.line.now ≡ 58 ∷ first.0 = first.1 ∙ ap (λ (z : ℕ). z ∷ first.0) c.if-octet-eq58.true in
    let whole : 58 ∷ first.0 ≡ after_word form v ++ more = sym begun ∙ l in
    let k = after_colon form ends v after more first.0 s t b (λ e. not_from_Decides _ (bytes_decides c.args.word.now c.as_slice.result.now) (sym c.if-eq.ensures) (w ∙ e ∙ sym c.as_slice.ensures)) whole in
    let size : length (value_shown form v) + 1 ≡ length (after_word form v) = omega (arith, ap length (colon_after form v k)) in
    subst (λ (n : ℕ). IsAdded v after n c.args.said.now c.add_colon.new.said ends c.add_colon.result) size
    (c.add_colon.ensures.found ends v after more k t (b (colon_begins form v k)) (w ∙ colon_word form v k)
    (rest_after c.args.line.now (58 ∷ []) first.0 1 begun refl ∙ tail_is (whole ∙ ap (λ (l : List ℕ). l ++ more) (colon_after form v k))))

pub returns-in_default-clause-sound : goal.returns-in_default-clause-sound
returns-in_default-clause-sound c =
    let ends = c.args.ends.now.items in
    found_both (word_alone c.args.word.now c.args.line.now ends c.args.said.now c.add_word.new.said) c.add_word.result (c.add_word.ensures.sound ends) c.add_word.ensures.none

pub returns-clause-sound : goal.returns-clause-sound
returns-clause-sound c =
    let ends = c.args.ends.now.items in
    found_both (word_alone c.args.word.now c.args.line.now ends c.args.said.now c.add_word-2.new.said) c.add_word-2.result (c.add_word-2.ensures.sound ends) c.add_word-2.ensures.none

pub returns-then-eq-clause-sound : goal.returns-then-eq-clause-sound
returns-then-eq-clause-sound c =
    let ends = c.args.ends.now.items in
    let word = (bytes_decides c.args.word.now c.as_slice.result.now).0 (sym c.eq.ensures ∙ c.if-eq.true) ∙ c.as_slice.ensures in
    found_so (word_of_form as_text c.args.word.now c.args.line.now ends c.args.said.now c.add_after_s.new.said refl refl (λ v k. word)) c.add_after_s.result (c.add_after_s.ensures.sound ends)

pub returns-then-eq-2-clause-sound : goal.returns-then-eq-2-clause-sound
returns-then-eq-2-clause-sound c =
    let ends = c.args.ends.now.items in
    let word = (bytes_decides c.args.word.now c.as_slice-2.result.now).0 (sym c.eq-2.ensures ∙ c.if-eq-2.true) ∙ c.as_slice-2.ensures in
    found_so (word_of_form as_type c.args.word.now c.args.line.now ends c.args.said.now c.add_type.new.said refl refl (λ v k. word ∙ sym (the_net v.name k))) c.add_type.result (c.add_type.ensures.sound ends)

pub returns-then-octet-eq58-clause-sound : goal.returns-then-octet-eq58-clause-sound
returns-then-octet-eq58-clause-sound c =
    let ends = c.args.ends.now.items in
    let first = first_is c.args.line.now c.in-Some.octet.now c.in-Some.ensures.value in
    let begun : c.args.line.now ≡ 58 ∷ first.0 = first.1 ∙ ap (λ (z : ℕ). z ∷ first.0) c.if-octet-eq58.true in
    let rest = rest_after c.args.line.now (58 ∷ []) first.0 1 begun refl in
    found_so (word_and_sign 58 c.args.word.now c.args.line.now (take (length c.args.line.now - 1) (drop 1 c.args.line.now)) ends ends c.args.said.now c.add_colon.new.said (begun ∙ ap (λ (l : List ℕ). 58 ∷ l) (sym rest))) c.add_colon.result (c.add_colon.ensures.sound ends)
