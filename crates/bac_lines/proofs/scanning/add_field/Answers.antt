use Rattle.std.specs.Prelude.{◌==◌, ◌-◌, take, drop, ◌≡◌, ◌⊎◌, ℕ, [], ◌∷◌, ◌++◌, length, Bool, true, false, refl}
use Rattle.std.proofs.Common.{◌∙◌, List, sym, ap, subst, arith, inl, inr}
use Rattle.std.proofs.lemmas.List.{length-append}
use Rattle.bac_text.specs.WalkText.{blank}
use Rattle.bac_fields.specs.Line.{Form, form_of, lead, shown}
use Rattle.bac_lines.specs.Scanning.{TokenIn}
use Rattle.bac_lines.specs.Found.{ending, Sort, by_end, sort_of, IsAdded}
use Rattle.bac_lines.proofs.FoundLemmas.{found_both, found_so, end_octet, end_scanned, shows_first, shows_next}
use Rattle.bac_lines.proofs.ScanLemmas.{first_is, none_is, rest_after, pair_is, found_is}
use Rattle.bac_lines.proofs.WordLemmas.{head_is, apart_numbers}
use Rattle.bac_lines.proofs.StartLemmas.{HasSort, shown_begins, sort_end, form_with, lead_of, whole_of, whole_some, parenthesis_bare, brace_bare}
use Rattle.bac_lines.proofs.scanning.add_field.Goals as goal
use Rattle.bac_lines.proofs.scanning.add_field.Goals.{then-octet-eq41-via-then-octet-eq41, then-octet-eq41-via-else-octet-eq41+then-octet-eq125}

pub returns-in_default-clause-found : goal.returns-in_default-clause-found
returns-in_default-clause-found c v after more t b l =
    absurd (whole_some c.args.first (form_of v.name) c.args.ends.now.items v after more t (sym (none_is c.args.line.now c.in_default.ensures.value) ∙ l))

pub returns-then-octet-eq41-clause-found : goal.returns-then-octet-eq41-clause-found
returns-then-octet-eq41-clause-found c v after more t b l =
    let form = form_of v.name in
    let begun = shown_begins form c.args.ends.now.items v after more t in
    let first = first_is c.args.line.now c.in-Some.octet.now c.in-Some.ensures.value in
    let octet : (c.in-Some.octet.now ≡ 41) ⊎ (c.in-Some.octet.now ≡ 125) =
    elim c.then-octet-eq41.branch [
      | then-octet-eq41-via-then-octet-eq41 w ↦ inl w.if-octet-eq41.true
      | then-octet-eq41-via-else-octet-eq41+then-octet-eq125 w ↦ inr w.if-octet-eq125.true
    ] in
    let at = λ (f : Form). IsAdded v after (length (lead c.args.first f ++ shown f v)) c.args.said.now c.add_end.new.said c.add_end.new.ends.items c.add_end.result in
    elim (whole_of c.args.first form v more) [
      | inl w ↦ elim (form_with by_end form w.0) [
        | inl k ↦ subst at (sym k) (c.add_end.ensures.found v after (k ∙ sym (ap (λ (x : ℕ). ending (x == 41)) (head_is (sym first.1 ∙ l ∙ w.1 ∙ ap (λ (f : Form). shown f v ++ more) k)))) (parenthesis_bare v.name k) (subst (λ (f : Form). TokenIn f c.args.ends.now.items v after) k t))
        | inr k ↦ subst at (sym k) (c.add_end.ensures.found v after (k ∙ sym (ap (λ (x : ℕ). ending (x == 41)) (head_is (sym first.1 ∙ l ∙ w.1 ∙ ap (λ (f : Form). shown f v ++ more) k)))) (brace_bare v.name k) (subst (λ (f : Form). TokenIn f c.args.ends.now.items v after) k t))
      ]
      | inr r ↦ elim r [
        | inl w ↦
            let same = head_is (sym first.1 ∙ l ∙ w.1.1 ∙ begun.is) in
            absurd (w.0 (sort_end (sort_of form) begun.first (subst (λ (x : ℕ). (x ≡ 41) ⊎ (x ≡ 125)) same octet) begun.looks))
        | inr w ↦
            let same = head_is (sym first.1 ∙ l ∙ w.1.1) in
            elim octet [
              | inl e ↦ absurd (apart_numbers 32 41 refl (sym same ∙ e))
              | inr e ↦ absurd (apart_numbers 32 125 refl (sym same ∙ e))
            ]
      ]
    ]

pub returns-in-Some-2-clause-found : goal.returns-in-Some-2-clause-found
returns-in-Some-2-clause-found c v after more t b l =
    let form = form_of v.name in
    let begun = shown_begins form c.args.ends.now.items v after more t in
    let first = first_is c.args.line.now c.in-Some.octet.now c.in-Some.ensures.value in
    elim (whole_of c.args.first form v more) [
      | inl w ↦
          let same = head_is (sym first.1 ∙ l ∙ w.1 ∙ begun.is) in
          let looks : (begun.first ≡ 41) ⊎ (begun.first ≡ 125) = subst (λ (s : Sort). HasSort s begun.first) w.0 begun.looks in
          elim looks [
            | inl e ↦ absurd (c.if-octet-eq41.false (same ∙ e))
            | inr e ↦ absurd (c.if-octet-eq125.false (same ∙ e))
          ]
      | inr r ↦ elim r [
        | inl w ↦ (let e : true ≡ false = sym w.1.0 ∙ c.if-first.false in absurd (cc))
        | inr w ↦
            let tail = rest_after c.args.line.now (32 ∷ []) (shown form v ++ more) 1 (l ∙ w.1.1) refl in
            let r = c.in_ok-taken.ensures.found v after more w.0 t b tail in
            let p = pair_is (sym c.in-Some-2.is ∙ r.0) in
            let before : length (lead c.args.first form) ≡ 1 = ap length (lead_of c.args.first form w.0) ∙ ap (λ (f : Bool). length (blank f)) w.1.0 in
            (found_is (omega (arith, p.0, before, length-append (lead c.args.first form) (shown form v))) p.1, r.1)
      ]
    ]

pub returns-then-octet-eq41-clause-sound : goal.returns-then-octet-eq41-clause-sound
returns-then-octet-eq41-clause-sound c =
    let first = first_is c.args.line.now c.in-Some.octet.now c.in-Some.ensures.value in
    let octet : (c.in-Some.octet.now ≡ 41) ⊎ (c.in-Some.octet.now ≡ 125) =
    elim c.then-octet-eq41.branch [
      | then-octet-eq41-via-then-octet-eq41 w ↦ inl w.if-octet-eq41.true
      | then-octet-eq41-via-else-octet-eq41+then-octet-eq125 w ↦ inr w.if-octet-eq125.true
    ] in
    found_both (end_scanned c.args.first (c.in-Some.octet.now == 41) c.args.line.now first.0 c.in-Some.octet.now c.args.ends.now.items c.add_end.new.ends.items c.args.said.now c.add_end.new.said first.1 (end_octet c.in-Some.octet.now octet))
    c.add_end.result c.add_end.ensures.sound c.add_end.ensures.one

pub returns-then-first-clause-sound : goal.returns-then-first-clause-sound
returns-then-first-clause-sound c =
    found_so (shows_first c.args.first c.args.line.now c.args.ends.now.items c.add_shown.new.ends.items c.args.said.now c.add_shown.new.said c.if-first.true) c.add_shown.result c.add_shown.ensures.sound

pub returns-in-Some-2-clause-sound : goal.returns-in-Some-2-clause-sound
returns-in-Some-2-clause-sound c =
    let first = first_is c.args.line.now c.in-Some.octet.now c.in-Some.ensures.value in
    let begun : c.args.line.now ≡ 32 ∷ first.0 = first.1 ∙ ap (λ (z : ℕ). z ∷ first.0) c.if-octet-ne32.false in
    let rest = rest_after c.args.line.now (32 ∷ []) first.0 1 begun refl in
    shows_next c.args.first c.in-Some-2.begins c.args.line.now (take (length c.args.line.now - 1) (drop 1 c.args.line.now)) c.in-Some-2.taken c.args.ends.now.items c.add_shown-2.new.ends.items c.args.said.now c.add_shown-2.new.said
    c.if-first.false (begun ∙ ap (λ (l : List ℕ). 32 ∷ l) (sym rest)) (rw c.in-Some-2.is at c.in_ok-taken.ensures.sound)
