use Rattle.std.specs.Prelude.{take, codes, ◌≡◌, ℕ, List, [], ◌∷◌, ◌++◌, length, drop, refl}
use Rattle.std.proofs.Common.{◌∙◌, sym, ap, subst, arith}
use Rattle.std.specs.Cmp.Lexicographic.{bytes_decides}
use Rattle.std.proofs.lemmas.List.{take-append-drop}
use Rattle.std.proofs.Math.Seq.{take-append-add}
use Rattle.bac_record.specs.Digits.{hexadecimal}
use Rattle.bac_field_parts.specs.declared.names.Name.TheVariants as name
use Rattle.bac_fields.specs.Line.{Form, begins}
use Rattle.bac_lines.specs.Scanning.{is_hex}
use Rattle.bac_lines.proofs.Hexes.{one_octet}
use Rattle.bac_lines.proofs.NameLemmas.{Named, named}
use Rattle.bac_lines.proofs.ScanLemmas.{clear_of, pair_is, not_both, found_is}
use Rattle.bac_lines.proofs.scanning.words.add_type.Goals as goal

pub returns-in_default-find_bits-clause-found : goal.returns-in_default-find_bits-clause-found
returns-in_default-find_bits-clause-found c ends v after more f t e l =
    let digits : c.in-Some.digits.now ≡ hexadecimal (v.number ∷ []) ++ more =
    c.in-Some.ensures.cases.1 ∙ ap (λ (p : List ℕ). drop (length p) c.args.line.now) c.as_slice.ensures ∙ ap (λ (l : List ℕ). drop 6 l) l in
    absurd (not_both c.in_default-find_bits.is (c.find_bits.ensures.found (v.number ∷ []) more (omega arith) (t.0, tt) (clear_of is_hex refl refl refl more e) digits))

pub returns-clause-found : goal.returns-clause-found
returns-clause-found c ends v after more f t e l =
    let digits : c.in-Some.digits.now ≡ hexadecimal (v.number ∷ []) ++ more =
    c.in-Some.ensures.cases.1 ∙ ap (λ (p : List ℕ). drop (length p) c.args.line.now) c.as_slice.ensures ∙ ap (λ (l : List ℕ). drop 6 l) l in
    let p = pair_is (sym c.in-Some-find_bits.is ∙ c.find_bits.ensures.found (v.number ∷ []) more (omega arith) (t.0, tt) (clear_of is_hex refl refl refl more e) digits) in
    let number : v.number ≡ c.in-Some-find_bits.kind = omega (arith, p.0) in
    (found_is (omega (arith, p.1)) (sym (ap begins f)), (sym t.1, c.in_ok-add.ensures.added v (subst (λ (form : Form). Named form v.name) f (named v.name)) number refl))

pub returns-then-taken-ne2-clause-found : goal.returns-then-taken-ne2-clause-found
returns-then-taken-ne2-clause-found c ends v after more f t e l =
    let digits : c.in-Some.digits.now ≡ hexadecimal (v.number ∷ []) ++ more =
    c.in-Some.ensures.cases.1 ∙ ap (λ (p : List ℕ). drop (length p) c.args.line.now) c.as_slice.ensures ∙ ap (λ (l : List ℕ). drop 6 l) l in
    let p = pair_is (sym c.in-Some-find_bits.is ∙ c.find_bits.ensures.found (v.number ∷ []) more (omega arith) (t.0, tt) (clear_of is_hex refl refl refl more e) digits) in
    absurd (c.if-taken-ne2.true p.1)

pub returns-clause-sound : goal.returns-clause-sound
returns-clause-sound c ends =
    let s = c.in-Some-find_bits.ensures.sound in
    let taken : c.in-Some-find_bits.taken ≡ 2 = c.if-taken-ne2.false in
    let one = one_octet c.in-Some.digits.now c.in-Some-find_bits.kind c.in-Some-find_bits.taken s.0 taken c.in-Some-find_bits.ensures.within s.1.1.1 s.1.1.0 s.1.0 in
    let line : c.args.line.now ≡ codes " type=" ++ c.in-Some.digits.now =
    sym (take-append-drop (length c.as_slice.result.now) c.args.line.now) ∙ ap (λ (l : List ℕ). l ++ drop (length c.as_slice.result.now) c.args.line.now) ((bytes_decides (take (length c.as_slice.result.now) c.args.line.now) c.as_slice.result.now).0 c.in-Some.ensures.cases.0)
    ∙ ap (λ (l : List ℕ). c.as_slice.result.now ++ l) (sym c.in-Some.ensures.cases.1) ∙ ap (λ (l : List ℕ). l ++ c.in-Some.digits.now) c.as_slice.ensures in (
      record { name = name.NetworkMessage; number = c.in-Some-find_bits.kind; head = []; contents = [] },
      (
        refl,
        (
          (one.0, refl),
          (
            ap (λ (l : List ℕ). take 8 l) line ∙ take-append-add (codes " type=") c.in-Some.digits.now 2 ∙ ap (λ (l : List ℕ). codes " type=" ++ l) one.1,
            (refl, c.in_ok-add.ensures.added (record { name = name.NetworkMessage; number = c.in-Some-find_bits.kind; head = []; contents = [] }) refl refl refl),
          ),
        ),
      ),
    )
