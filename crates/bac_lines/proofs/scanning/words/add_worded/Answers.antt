use Rattle.std.specs.Prelude.{◌≡◌, ◌-◌, ℕ, List, ◌++◌, length, take, drop}
use Rattle.std.proofs.Common.{◌∙◌, sym, ap, arith, append_assoc}
use Rattle.std.proofs.lemmas.List.{length-append, length-take-le, take-append-drop}
use Rattle.bac_fields.specs.Line.{form_of}
use Rattle.bac_lines.specs.Scanning.{is_letter}
use Rattle.bac_lines.specs.Found.{sort_of, word_before, after_word}
use Rattle.bac_lines.proofs.SymbolRuns.{run_is_one}
use Rattle.bac_lines.proofs.ScanLemmas.{not_both, found_is, pair_is, rest_after, take_next}
use Rattle.bac_lines.proofs.StartLemmas.{not_end_sort, is_end_sort}
use Rattle.bac_lines.proofs.WordLemmas.{word_shape, word_is, after_clear, not_nil}
use Rattle.bac_lines.proofs.scanning.words.add_worded.Goals as goal

pub returns-then-length-eq0-clause-found : goal.returns-then-length-eq0-clause-found
returns-then-length-eq0-clause-found c v after more s t b l =
    let form = form_of v.name in
    let line : c.args.line.now ≡ word_before form v ++ (after_word form v ++ more) = l ∙ ap (λ (w : List ℕ). w ++ more) (word_shape form v s) ∙ append_assoc (word_before form v) (after_word form v) more in
    let n = c.word_len-length.result in
    let same : word_before form v ≡ take n c.args.line.now =
    run_is_one is_letter (take n c.args.line.now) (word_before form v) (drop n c.args.line.now) (after_word form v ++ more) c.word_len-length.ensures.run (word_is form v s).letters (take-append-drop n c.args.line.now ∙ line)
    c.word_len-length.ensures.ends (after_clear form c.args.ends.now.items v after more s t b) in
    absurd (not_nil (sym (ap (λ (k : ℕ). take k c.args.line.now) c.if-length-eq0.true) ∙ sym same ∙ (word_is form v s).is))

pub returns-in-Some-clause-found : goal.returns-in-Some-clause-found
returns-in-Some-clause-found c v after more s t b l =
    let form = form_of v.name in
    let line : c.args.line.now ≡ word_before form v ++ (after_word form v ++ more) = l ∙ ap (λ (w : List ℕ). w ++ more) (word_shape form v s) ∙ append_assoc (word_before form v) (after_word form v) more in
    let n = c.word_len-length.result in
    let same : word_before form v ≡ take n c.args.line.now =
    run_is_one is_letter (take n c.args.line.now) (word_before form v) (drop n c.args.line.now) (after_word form v ++ more) c.word_len-length.ensures.run (word_is form v s).letters (take-append-drop n c.args.line.now ∙ line)
    c.word_len-length.ensures.ends (after_clear form c.args.ends.now.items v after more s t b) in
    let size : n ≡ length (word_before form v) = sym (length-take-le n c.args.line.now c.word_len-length.ensures.within) ∙ sym (ap length same) in
    let r = c.in_ok-taken.ensures.found v after more s t b (sym same) (rest_after c.args.line.now (word_before form v) (after_word form v ++ more) n line size) in
    let p = pair_is (sym c.in-Some.is ∙ r.0) in
    (found_is (omega (arith, size, p.0, ap length (word_shape form v s), length-append (word_before form v) (after_word form v))) p.1, r.1)

pub returns-in-None-clause-found : goal.returns-in-None-clause-found
returns-in-None-clause-found c v after more s t b l =
    let form = form_of v.name in
    let line : c.args.line.now ≡ word_before form v ++ (after_word form v ++ more) = l ∙ ap (λ (w : List ℕ). w ++ more) (word_shape form v s) ∙ append_assoc (word_before form v) (after_word form v) more in
    let n = c.word_len-length.result in
    let same : word_before form v ≡ take n c.args.line.now =
    run_is_one is_letter (take n c.args.line.now) (word_before form v) (drop n c.args.line.now) (after_word form v ++ more) c.word_len-length.ensures.run (word_is form v s).letters (take-append-drop n c.args.line.now ∙ line)
    c.word_len-length.ensures.ends (after_clear form c.args.ends.now.items v after more s t b) in
    let size : n ≡ length (word_before form v) = sym (length-take-le n c.args.line.now c.word_len-length.ensures.within) ∙ sym (ap length same) in
    absurd (not_both c.in-None.is (c.in_ok-taken.ensures.found v after more s t b (sym same) (rest_after c.args.line.now (word_before form v) (after_word form v ++ more) n line size)).0)

pub returns-in-Some-clause-sound : goal.returns-in-Some-clause-sound
returns-in-Some-clause-sound c =
    let s = (rw c.in-Some.is at c.in_ok-taken.ensures.sound) in
    let line = c.args.line.now in
    let n = c.word_len-length.result in
    record {
      field = s.field;
      no_end = λ e. not_end_sort (sort_of (form_of s.field.name)) (ap is_end_sort s.worded) e;
      token = s.token;
      is_text = take_next line n c.in-Some.taken c.word_len-length.ensures.within ∙ ap (λ (l : List ℕ). l ++ take c.in-Some.taken (take (length line - n) (drop n line))) s.is_word ∙ ap (λ (l : List ℕ). word_before (form_of s.field.name) s.field ++ l) s.is_text
          ∙ sym (word_shape (form_of s.field.name) s.field s.worded);
      begun = s.begun;
      added = s.added;
    }
