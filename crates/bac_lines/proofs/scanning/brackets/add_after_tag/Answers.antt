use Rattle.std.specs.Prelude.{[], take, refl}
use Rattle.std.proofs.Common.{◌∙◌, ◌∷◌, ℕ, sym, ap, subst, inl, inr}
use Rattle.bac_fields.specs.Line.{Form, begins}
use Rattle.bac_field_parts.specs.declared.names.Name.TheVariants as name
use Rattle.bac_lines.specs.Scanning.{TokenIn}
use Rattle.bac_lines.specs.Found.{tagged_text}
use Rattle.bac_lines.proofs.ScanLemmas.{some_is, not_both, found_is, first_is, not_digits}
use Rattle.bac_lines.proofs.scanning.brackets.add_after_tag.Goals as goal

pub returns-then-octet-eq123-clause-context : goal.returns-then-octet-eq123-clause-context
returns-then-octet-eq123-clause-context c v after more f t e n l =
    let first = first_is c.args.line.now c.in-Some.octet.now c.in-Some.ensures.value in
    absurd (not_digits 123 refl refl v.contents more first.0 t.1.0 e (ap (λ (z : ℕ). z ∷ first.0) (sym c.if-octet-eq123.true) ∙ sym first.1 ∙ l))

pub returns-in-Some-2-clause-context : goal.returns-in-Some-2-clause-context
returns-in-Some-2-clause-context c v after more f t e n l =
    let r = c.in_ok-taken.ensures.found c.args.ends.now.items v after more f t e n l in
    (found_is (some_is _ _ (sym c.in-Some-2.is ∙ r.0)) (sym (ap begins f)), (sym t.1.1, r.1))

pub returns-in-None-clause-context : goal.returns-in-None-clause-context
returns-in-None-clause-context c v after more f t e n l = absurd (not_both c.in-None.is (c.in_ok-taken.ensures.found c.args.ends.now.items v after more f t e n l).0)

pub returns-then-octet-eq123-clause-sound : goal.returns-then-octet-eq123-clause-sound
returns-then-octet-eq123-clause-sound c small =
    let first = first_is c.args.line.now c.in-Some.octet.now c.in-Some.ensures.value in
    record {
      field = record { name = name.Group; number = c.args.number; head = []; contents = [] };
      is_tag = inl refl;
      token = (small, c.in_ok-open.ensures.opened);
      is_number = refl;
      is_text = ap (take 1) (first.1 ∙ ap (λ (z : ℕ). z ∷ first.0) c.if-octet-eq123.true);
      begun = refl;
      added = c.in_ok-add.ensures.added (record { name = name.Group; number = c.args.number; head = []; contents = [] }) refl refl refl;
    }

pub returns-in-Some-2-clause-sound : goal.returns-in-Some-2-clause-sound
returns-in-Some-2-clause-sound c small =
    let s = (rw c.in-Some-2.is at c.in_ok-taken.ensures.sound) c.args.ends.now.items small in
    record {
      field = s.field;
      is_tag = inr s.has.0;
      token = subst (λ (f : Form). TokenIn f c.args.ends.now.items s.field c.args.ends.now.items) (sym s.has.0) s.has.1.0;
      is_number = s.has.1.1;
      is_text = s.is_text ∙ sym (ap (λ (f : Form). tagged_text f s.field) s.has.0);
      begun = sym (ap begins s.has.0);
      added = s.added;
    }
