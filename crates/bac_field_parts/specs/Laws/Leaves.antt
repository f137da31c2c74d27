-- One field, and its three symbols.
use Rattle.std.specs.Prelude.{slice_get, nat_le, nat_eq, ◌≡◌, ℕ, ◌≤◌, List, [], ◌∷◌, ◌++◌, length, take, Bool, true, false, ◌||◌, ◌==◌, ◌&&◌, not, IsTrue, Option, None, Some, refl}
use Rattle.std.proofs.Common.{sym, ◌∙◌, ap, subst, arith}
use Rattle.std.proofs.lemmas.Bool.{or_left, eqb-true, eqb-false, leb-true}
use Rattle.std.proofs.lemmas.Bool.Decides.{nat_tests}
use Rattle.bac_tag.specs.Spelling.{EndsItself, NoFront}
use Rattle.bac_productions.specs.Productions.{IsInhabited}
use Rattle.bac_field_parts.specs.Symbols.{Symbol, named, numbered, containing, finished, has, Says, Language, Opens, Lawful, IsStop, end_said, no_octets, symbols_in, has_contents, contents_in, number_said, contents_said, HasForm, HasContents, IsNumber, IsNoNumber, Made, the_octet}
use Rattle.std.proofs.lemmas.Bool.{and_parts, not-true}
use Rattle.bac_field_parts.specs.declared.field.Field.{Field}
use Rattle.bac_field_parts.specs.Laws.Languages.{stop_at_first}

module _ {V : Type 0} (name : ℕ) (number : V → ℕ) (contents : V → Option (List ℕ)) (S : V → List ℕ → Type 0) where
  abbrev pub leaf_said : V → List Symbol
  leaf_said v = named name ∷ numbered (number v) ∷ containing (contents v) ∷ []

  leaf_opens : (es : List Symbol) → Language leaf_said S tt es → Opens (Some name ∷ []) es
  leaf_opens es l = record {
    first = named name;
    rest = numbered (number l.0) ∷ containing (contents l.0) ∷ [];
    symbols = l.1.is_said;
    among = or_left (name == name) false (grind (arith, nat_tests));
  }

  leaf_ends : EndsItself (Language leaf_said S)
  leaf_ends u v b c r s l m e =
      let front : (w : V) (b r : List Symbol) → b ≡ leaf_said w → take 3 (b ++ r) ≡ b = λ w b r is. rw is refl in
      (sym (front l.0 b r l.1.is_said) ∙ ap (take 3) e ∙ front m.0 c s m.1.is_said, refl)

  pub leaf_lawful : (v : V) (b : List ℕ) → S v b → Lawful (Language leaf_said S) (Some name ∷ [])
  leaf_lawful v b s = record {
    opens = leaf_opens;
    ends = leaf_ends;
    some = (leaf_said v, (v, record { octets = b; spelled = s; is_said = refl }));
  }

  -- the number is that of no value
  pub leaf_stop_number : (v : V) (b : List ℕ) → S v b → (n : ℕ) (rest : List Symbol) → ((w : V) (c : List ℕ) → S w c → number w ≡ n → ⊥) → IsStop (Language leaf_said S) (named name ∷ numbered n ∷ rest) 1
  leaf_stop_number v b s n rest never = record {
    none = none;
    furthest = record {
      within = omega arith;
      begins = record { value = tt; rest = numbered (number v) ∷ containing (contents v) ∷ []; spelled = (v, record { octets = b; spelled = s; is_said = refl }) };
      ends = λ lt v. none_more v.spelled.0 v.rest v.spelled.1;
    };
    short = (λ e. absurd (cc), λ e. absurd (omega arith));
  }
    where
      none : NoFront (Language leaf_said S) (named name ∷ numbered n ∷ rest)
      none u c more e l =
          let is = l.1.is_said in
          let whole : named name ∷ numbered n ∷ rest ≡ named name ∷ numbered (number l.0) ∷ containing (contents l.0) ∷ more = e ∙ ap (λ (t : List Symbol). t ++ more) is in
          let same : number l.0 ≡ n = cc in
          never l.0 l.1.octets l.1.spelled same

      none_more : (w : V) (more : List Symbol) → Says leaf_said S w (named name ∷ numbered n ∷ more) → ⊥
      none_more w more h =
          let is = h.is_said in
          let same : number w ≡ n = cc in
          never w h.octets h.spelled same

  -- some value has the number, and none has it with these contents
  pub leaf_stop_contents : (v : V) (b : List ℕ) → S v b → (c : Option (List ℕ)) (rest : List Symbol) → ((w : V) (d : List ℕ) → S w d → number w ≡ number v → contents w ≡ c → ⊥)
      → IsStop (Language leaf_said S) (named name ∷ numbered (number v) ∷ containing c ∷ rest) 2
  leaf_stop_contents v b s c rest never = record {
    none = none;
    furthest = record {
      within = omega arith;
      begins = record { value = tt; rest = containing (contents v) ∷ []; spelled = (v, record { octets = b; spelled = s; is_said = refl }) };
      ends = λ lt v. none_more v.spelled.0 v.rest v.spelled.1;
    };
    short = (λ e. absurd (cc), λ e. absurd (omega arith));
  }
    where
      none : NoFront (Language leaf_said S) (named name ∷ numbered (number v) ∷ containing c ∷ rest)
      none u d more e l =
          let is = l.1.is_said in
          let whole : named name ∷ numbered (number v) ∷ containing c ∷ rest ≡ named name ∷ numbered (number l.0) ∷ containing (contents l.0) ∷ more = e ∙ ap (λ (t : List Symbol). t ++ more) is in
          let same : number l.0 ≡ number v = cc in
          let content : contents l.0 ≡ c = cc in
          never l.0 l.1.octets l.1.spelled same content

      none_more : (w : V) (more : List Symbol) → Says leaf_said S w (named name ∷ numbered (number v) ∷ containing c ∷ more) → ⊥
      none_more w more h =
          let is = h.is_said in
          let same : number w ≡ number v = cc in
          let content : contents w ≡ c = cc in
          never w h.octets h.spelled same content

-- ---- the end

module _ (S : Unit {0} → List ℕ → Type 0) (i : IsInhabited S) where
  pub end_lawful : Lawful (Language end_said S) (None ∷ [])
  end_lawful = record {
    opens = λ es l. record { first = finished; rest = []; symbols = l.1.is_said; among = refl };
    ends = λ u v b c r s l m e. (l.1.is_said ∙ sym m.1.is_said, refl);
    some = (finished ∷ [], (tt, record { octets = i.octets; spelled = i.spelled; is_said = refl }));
  }

  pub end_stopped : (octets : List ℕ) (fields : List Field) → false ≡ (length fields == 0) → IsStop (Language end_said S) (symbols_in octets fields) 0
  end_stopped octets [] e = absurd (cc)
  end_stopped octets (field ∷ fields) e = stop_at_first (Language end_said S) (None ∷ []) end_lawful (named field.name) _ other
    where
      other : IsTrue (has (None ∷ []) (Some field.name)) → ⊥
      other h = absurd (cc)

-- ---- a field that says a value by its number

pub one_lawful : {V : Type 0} (name : ℕ) (number : V → ℕ) (S : V → List ℕ → Type 0) (form other : Bool) → (IsTrue form → IsInhabited S) → IsTrue (form && other) → Lawful (Language (number_said name number) S) (Some name ∷ [])
one_lawful name number S form other inhabited sound =
    let i = inhabited (and_parts form other sound).0 in
    leaf_lawful name number (λ v. Some []) S i.value i.octets i.spelled

module _ {V : Type 0} (name : ℕ) (number : V → ℕ) (con : V → Option (List ℕ)) (S : V → List ℕ → Type 0) (i : IsInhabited S) (octets : List ℕ) where
  lawful : Lawful (Language (leaf_said name number con S) S) (Some name ∷ [])
  lawful = leaf_lawful name number con S i.value i.octets i.spelled

  pub one_none : (fields : List Field) → None ≡ slice_get fields 0 → IsStop (Language (leaf_said name number con S) S) (symbols_in octets fields) 0
  one_none [] e = stop_at_first (Language (leaf_said name number con S) S) (Some name ∷ []) lawful finished [] (λ h. absurd (cc))
  one_none (field ∷ fields) e = absurd (cc)

  pub one_other_name : (fields : List Field) (field : Field) → Some field ≡ slice_get fields 0 → (field.name ≡ name → ⊥) → IsStop (Language (leaf_said name number con S) S) (symbols_in octets fields) 0
  one_other_name [] field e other = absurd (cc)
  one_other_name (first ∷ fields) field e other =
      let same : first ≡ field = cc in
      stop_at_first (Language (leaf_said name number con S) S) (Some name ∷ []) lawful (named first.name) _ (λ h. other (ap (λ (f : Field). f.name) (sym same) ∙ sym (eqb-true name first.name (or_nothing (name == first.name) h))))
    where
      or_nothing : (b : Bool) → IsTrue (b || false) → IsTrue b
      or_nothing true h = refl
      or_nothing false h = h

  pub one_other_number : (fields : List Field) (field : Field) → Some field ≡ slice_get fields 0 → field.name ≡ name → IsNoNumber number S field.number → IsStop (Language (leaf_said name number con S) S) (symbols_in octets fields) 1
  one_other_number [] field e is none = absurd (cc)
  one_other_number (first ∷ fields) field e is none =
      let same : first ≡ field = cc in
      let first_is : first.name ≡ name = ap (λ (f : Field). f.name) same ∙ is in
      let number_is : first.number ≡ field.number = ap (λ (f : Field). f.number) same in
      rw first_is (leaf_stop_number name number con S i.value i.octets i.spelled first.number _ (rw number_is none))

  -- the number is that of a value, and the contents are those of none that has it
  pub one_other_contents : (fields : List Field) (field : Field) → Some field ≡ slice_get fields 0 → field.name ≡ name → IsNumber number S field.number
      → ((v : V) (b : List ℕ) → S v b → number v ≡ field.number → con v ≡ contents_in octets field → ⊥) → IsStop (Language (leaf_said name number con S) S) (symbols_in octets fields) 2
  one_other_contents [] field e is some never = absurd (cc)
  one_other_contents (first ∷ fields) field e is some never =
      let same : field ≡ first = cc in
      let stop = leaf_stop_contents name number con S some.value some.octets some.spelled (contents_in octets field) (symbols_in octets fields) (λ w d h n c. never w d h (n ∙ some.is_given) c) in
      let there : IsStop (Language (leaf_said name number con S) S) (named name ∷ numbered field.number ∷ containing (contents_in octets field) ∷ symbols_in octets fields) 2 =
      subst (λ (k : ℕ). IsStop (Language (leaf_said name number con S) S) (named name ∷ numbered k ∷ containing (contents_in octets field) ∷ symbols_in octets fields) 2) some.is_given stop in
      let at_field : IsStop (Language (leaf_said name number con S) S) (symbols_in octets (field ∷ fields)) 2 =
      subst (λ (k : ℕ). IsStop (Language (leaf_said name number con S) S) (named k ∷ numbered field.number ∷ containing (contents_in octets field) ∷ symbols_in octets fields) 2) (sym is) there in
      subst (λ (f : Field). IsStop (Language (leaf_said name number con S) S) (symbols_in octets (f ∷ fields)) 2) same at_field

module _ {V : Type 0} (name : ℕ) (number : V → ℕ) (S : V → List ℕ → Type 0) (octets : List ℕ) where
  pub one_made : (fields : List Field) (field : Field) (old new : List ℕ) → Some field ≡ slice_get fields 0 → field.name ≡ name → has_contents name ≡ false → HasForm number S field.number old new
      → Made (number_said name number) S (symbols_in octets fields) 3 old new
  one_made [] field old new e is plain form = absurd (cc)
  one_made (first ∷ fields) field old new e is plain form =
      let same : first ≡ field = cc in
      let first_is : first.name ≡ name = ap (λ (f : Field). f.name) same ∙ is in
      let number_is : first.number ≡ number form.value = ap (λ (f : Field). f.number) same ∙ sym form.is_given in
      record { value = form.value; within = omega arith; is_said = said_is first first_is number_is plain; appended = form.appended }
    where
      said_is : (first : Field) {n : ℕ} → first.name ≡ name → first.number ≡ n → has_contents name ≡ false → take 3 (symbols_in octets (first ∷ fields)) ≡ named name ∷ numbered n ∷ containing (Some []) ∷ []
      said_is first first_is number_is plain = rw (first_is, number_is, plain) refl

  pub held_made : (contents : V → List ℕ) (fields : List Field) (field : Field) (held old new : List ℕ) → Some field ≡ slice_get fields 0 → field.name ≡ name → contents_in octets field ≡ Some held → HasContents number contents S field.number held old new
      → Made (contents_said name number contents) S (symbols_in octets fields) 3 old new
  held_made contents [] field held old new e is holds form = absurd (cc)
  held_made contents (first ∷ fields) field held old new e is holds form =
      let same : first ≡ field = cc in
      let said : take 3 (symbols_in octets (field ∷ fields)) ≡ contents_said name number contents form.value =
      ap (λ (n : ℕ). named n ∷ numbered field.number ∷ containing (contents_in octets field) ∷ []) is
      ∙ ap (λ (c : Option (List ℕ)). named name ∷ numbered field.number ∷ containing c ∷ []) (holds ∙ ap Some (sym form.is_held))
      ∙ ap (λ (n : ℕ). named name ∷ numbered n ∷ containing (Some (contents form.value)) ∷ []) (sym form.is_given) in
      record { value = form.value; within = omega arith; is_said = ap (λ (f : Field). take 3 (symbols_in octets (f ∷ fields))) same ∙ said; appended = form.appended }

-- ---- words and octets

pub nothing_inhabited : IsInhabited no_octets
nothing_inhabited = record { value = tt; octets = []; spelled = refl }

pub octet_inhabited : (n : ℕ) → IsInhabited (the_octet n)
octet_inhabited n = record { value = tt; octets = n ∷ []; spelled = refl }

-- ---- under tags

pub tag_fits : (n : ℕ) → IsTrue (nat_le n 254) → n ≤ 254
tag_fits n h = leb-true n 254 h

pub type_fits : (n : ℕ) → IsTrue (nat_le n 12 && not (nat_eq n 1)) → (n ≤ 12) × (n ≡ 1 → ⊥)
type_fits n h =
    let p = and_parts (nat_le n 12) (not (nat_eq n 1)) h in
    (leb-true n 12 p.0, eqb-false n 1 (not-true (nat_eq n 1) p.1))

-- ---- a field that says a value by its number and its contents

pub held_lawful : {V : Type 0} (name : ℕ) (number : V → ℕ) (contents : V → List ℕ) (S : V → List ℕ → Type 0) → IsInhabited S → Lawful (Language (contents_said name number contents) S) (Some name ∷ [])
held_lawful name number contents S i = leaf_lawful name number (λ v. Some (contents v)) S i.value i.octets i.spelled
