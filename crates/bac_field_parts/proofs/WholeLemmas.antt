-- Fields that are all of what a value says, and fields that are not.
use Rattle.std.specs.Prelude.{◌≡◌, ◌≢◌, ℕ, ◌+◌, ◌*◌, ◌<◌, ◌≤◌, Bool, Some, List, [], ◌∷◌, ◌++◌, length, take, drop, slice_get, refl}
use Rattle.std.proofs.Common.{sym, ◌∙◌, ap, subst, arith, inl, inr, zero, suc, append_assoc}
use Rattle.std.proofs.Math.Seq.{take-append-add, take-length}
use Rattle.std.proofs.lemmas.Bool.{cases_lt}
use Rattle.std.proofs.lemmas.Option.{slice_get_within}
use Rattle.std.proofs.lemmas.List.{take-take, take-append-drop, length-take-le, append-nil, length-drop}
use Rattle.bac_tag.specs.Spelling.{IsViable}
use Rattle.bac_field_parts.specs.declared.field.Field.{Field}
use Rattle.bac_field_parts.specs.declared.field_refusal.FieldWhy.TheVariants.{Short, Trailing, OutOfMemory}
use Rattle.bac_field_parts.specs.declared.making.Part.{Part}
use Rattle.bac_field_parts.specs.declared.making.Part.TheVariants as part
use Rattle.bac_field_parts.specs.declared.making.Stop.{Stop}
use Rattle.bac_field_parts.specs.Refused.{EndsWithThem, AreAllOfOne, BeginOne, field_symbols, MadeOfAll, IsRefusalOf, IsHopeless, before_part, through_part, why_of}
use Rattle.bac_field_parts.specs.Symbols.{Symbol, named, numbered, containing, contents_in, finished, symbols_in, taken_symbols, part_place, place_of, Made, Language, IsStop}
use Rattle.bac_field_parts.specs.Laws.Making.{symbols_after, symbols_length}

-- ---- the symbol after the last field comes last

last_same : (a b : List Symbol) (x y : Symbol) → a ++ x ∷ [] ≡ b ++ y ∷ [] → x ≡ y
last_same [] [] x y e = cc
last_same [] (k ∷ b) x y e = absurd (no_more b e)
  where
    no_more : (b : List Symbol) → x ∷ [] ≡ k ∷ (b ++ y ∷ []) → ⊥
    no_more [] e = absurd (cc)
    no_more (j ∷ b) e = absurd (cc)
last_same (k ∷ a) [] x y e = absurd (no_more a e)
  where
    no_more : (a : List Symbol) → k ∷ (a ++ x ∷ []) ≡ y ∷ [] → ⊥
    no_more [] e = absurd (cc)
    no_more (j ∷ a) e = absurd (cc)
last_same (k ∷ a) (j ∷ b) x y e = last_same a b x y (tail_same k j (a ++ x ∷ []) (b ++ y ∷ []) e)
  where
    tail_same : (k j : Symbol) (r s : List Symbol) → k ∷ r ≡ j ∷ s → r ≡ s
    tail_same k j r s e = cc

module _ (octets : List ℕ) (fields : List Field) (n : ℕ) (within : n ≤ length fields) (front : List Symbol) (said : take (3 * n + 1) (symbols_in octets fields) ≡ front ++ finished ∷ []) where
  one_after : (rest : List Field) → symbols_in octets (drop n fields) ≡ symbols_in octets rest → take (3 * n + 1) (symbols_in octets fields) ≡ take (3 * n) (symbols_in octets fields) ++ take 1 (symbols_in octets rest)
  one_after rest same =
      let es = symbols_in octets fields in
      let long : length (take (3 * n) es) ≡ 3 * n = length-take-le (3 * n) es (omega (arith, within, symbols_length octets fields)) in
      ap (λ (l : List Symbol). take (3 * n + 1) l) (sym (take-append-drop (3 * n) es)) ∙ ap (λ (k : ℕ). take (k + 1) (take (3 * n) es ++ drop (3 * n) es)) (sym long)
      ∙ take-append-add (take (3 * n) es) (drop (3 * n) es) 1 ∙ ap (λ (l : List Symbol). take (3 * n) es ++ take 1 l) (symbols_after octets fields n within ∙ same)

  -- so they are all
  all_taken : n ≡ length fields
  all_taken = by (drop n fields) refl
    where
      by : (rest : List Field) → drop n fields ≡ rest → n ≡ length fields
      by [] e = omega (arith, within, ap length e, length-drop n fields)
      by (field ∷ rest) e =
          let clash : named field.name ≡ finished = last_same (take (3 * n) (symbols_in octets fields)) front (named field.name) finished (sym (one_after (field ∷ rest) (ap (symbols_in octets) e)) ∙ said) in
          absurd (cc)

  whole_said : symbols_in octets fields ≡ front ++ finished ∷ []
  whole_said =
      let all : 3 * n + 1 ≡ length (symbols_in octets fields) = omega (arith, all_taken, symbols_length octets fields) in
      sym (take-length (symbols_in octets fields)) ∙ ap (λ (k : ℕ). take k (symbols_in octets fields)) (sym all) ∙ said

-- ---- what was made

module _ {V : Type 0} (f : V → List Symbol) (S : V → List ℕ → Type 0) (at_end : Bool) (to : EndsWithThem at_end f) (octets : List ℕ) (fields : List Field) (n : ℕ) (within : n ≤ length fields) (old new : List ℕ) (made : Made f S (symbols_in octets fields) (taken_symbols at_end n) old new) where
  all_said : symbols_in octets fields ≡ f made.value
  all_said =
      let last = to.last made.value in
      let taken : take (3 * n + 1) (symbols_in octets fields) ≡ f made.value = ap (λ (b : Bool). take (taken_symbols b n) (symbols_in octets fields)) (sym to.is_at_end) ∙ made.is_said in
      whole_said octets fields n within last.0 (taken ∙ last.1) ∙ sym last.1

  pub made_of_all : MadeOfAll f S octets fields old new
  made_of_all = record { value = made.value; is_said = all_said; appended = made.appended }

  pub are_all_of_one : AreAllOfOne f S octets fields
  are_all_of_one = (made.value, record { octets = made.appended.more; spelled = made.appended.is_least.member; is_said = all_said })

-- fields that stop somewhere are not all of one
pub are_of_none : {V : Type 0} (f : V → List Symbol) (S : V → List ℕ → Type 0) (octets : List ℕ) (fields : List Field) (p : ℕ) → IsStop (Language f S) (symbols_in octets fields) p → AreAllOfOne f S octets fields → ⊥
are_of_none f S octets fields p stop l = stop.none tt (symbols_in octets fields) [] (sym (append-nil (symbols_in octets fields))) l

-- ---- refusals

-- a front of what begins a list of the language begins it too
viable_front : (L : Unit {0} → List Symbol → Type 0) (es : List Symbol) (n m : ℕ) → n ≤ m → IsViable L (take m es) → IsViable L (take n es)
viable_front L es n m le v = record {
  value = tt;
  rest = drop n (take m es) ++ v.rest;
  spelled = subst (λ (l : List Symbol). L tt l) (ap (λ (l : List Symbol). l ++ v.rest) (sym (take-append-drop n (take m es)) ∙ ap (λ (l : List Symbol). l ++ drop n (take m es)) (take-take n m es le)) ∙ append_assoc (take n es) (drop n (take m es)) v.rest) v.spelled;
}

take_fields : (octets : List ℕ) (fields : List Field) (n : ℕ) → n ≤ length fields → take (3 * n) (symbols_in octets fields) ≡ field_symbols octets (take n fields)
take_fields octets fields zero le = refl
take_fields octets [] (suc n) le = absurd (omega (arith, le))
take_fields octets (f ∷ fields) (suc n) le =
    let e : 3 * suc n ≡ suc (suc (suc (3 * n))) = omega arith in
    rw e (ap (λ (l : List Symbol). named f.name ∷ numbered f.number ∷ containing (contents_in octets f) ∷ l) (take_fields octets fields n (omega (arith, le))))

-- the first symbols of the fields, up to a part of one of them
take_before : (octets : List ℕ) (fields : List Field) (n : ℕ) (field : Field) (p : Part) → Some field ≡ slice_get fields n
    → take (3 * n + part_place p) (symbols_in octets fields) ≡ field_symbols octets (take n fields) ++ before_part p octets field
take_before octets [] n field p is = absurd (cc)
take_before octets (f ∷ fields) zero field p is = first p (cc)
  where
    first : (p : Part) → field ≡ f → take (3 * zero + part_place p) (symbols_in octets (f ∷ fields)) ≡ before_part p octets field
    first part.Name same = refl
    first part.Number same = rw same refl
    first part.Contents same = rw same refl
take_before octets (f ∷ fields) (suc n) field p is =
    let e : 3 * suc n + part_place p ≡ suc (suc (suc (3 * n + part_place p))) = omega arith in
    rw e (ap (λ (l : List Symbol). named f.name ∷ numbered f.number ∷ containing (contents_in octets f) ∷ l) (take_before octets fields n field p is))

-- and with this part
take_through : (octets : List ℕ) (fields : List Field) (n : ℕ) (field : Field) (p : Part) → Some field ≡ slice_get fields n
    → take (3 * n + part_place p + 1) (symbols_in octets fields) ≡ field_symbols octets (take n fields) ++ through_part p octets field
take_through octets [] n field p is = absurd (cc)
take_through octets (f ∷ fields) zero field p is = first p (cc)
  where
    first : (p : Part) → field ≡ f → take (3 * zero + part_place p + 1) (symbols_in octets (f ∷ fields)) ≡ through_part p octets field
    first part.Name same = rw same refl
    first part.Number same = rw same refl
    first part.Contents same = rw same refl
take_through octets (f ∷ fields) (suc n) field p is =
    let e : 3 * suc n + part_place p + 1 ≡ suc (suc (suc (3 * n + part_place p + 1))) = omega arith in
    rw e (ap (λ (l : List Symbol). named f.name ∷ numbered f.number ∷ containing (contents_in octets f) ∷ l) (take_through octets fields n field p is))

module _ {V : Type 0} (f : V → List Symbol) (S : V → List ℕ → Type 0) (octets : List ℕ) (fields : List Field) (s : Stop) (stop : IsStop (Language f S) (symbols_in octets fields) (place_of s)) (near : place_of s ≤ 3 * length fields) where
  index_within : s.index ≤ length fields
  index_within = omega (arith, near)

  part_few : (p : Part) → part_place p ≤ 2
  part_few part.Name = omega arith
  part_few part.Number = omega arith
  part_few part.Contents = omega arith

  begins : BeginOne f S octets (take s.index fields)
  begins =
      subst (λ (l : List Symbol). IsViable (Language f S) l) (take_fields octets fields s.index index_within)
      (viable_front (Language f S) (symbols_in octets fields) (3 * s.index) (place_of s) (omega arith) stop.furthest.begins)

  ends : s.index < length fields → BeginOne f S octets (take (s.index + 1) fields) → ⊥
  ends earlier more =
      let there = subst (λ (l : List Symbol). IsViable (Language f S) l) (sym (take_fields octets fields (s.index + 1) (omega (arith, earlier)))) more in
      stop.furthest.ends (omega (arith, near, symbols_length octets fields)) (viable_front (Language f S) (symbols_in octets fields) (place_of s + 1) (3 * (s.index + 1)) (omega (arith, part_few s.part)) there)

  no_value : AreAllOfOne f S octets fields → ⊥
  no_value = are_of_none f S octets fields (place_of s) stop

  -- the field there, if there is one
  at_field : (field : Field) → Some field ≡ slice_get fields s.index → IsHopeless f S octets (take s.index fields) field s.part
  at_field field is = record {
    begins = subst (λ (l : List Symbol). IsViable (Language f S) l) (take_before octets fields s.index field s.part is) stop.furthest.begins;
    ends = λ more.
        stop.furthest.ends (omega (arith, part_few s.part, symbols_length octets fields, slice_get_within fields s.index field (sym is)))
        (subst (λ (l : List Symbol). IsViable (Language f S) l) (sym (take_through octets fields s.index field s.part is)) more);
  }

  pub short_refused : s.index ≡ length fields → IsRefusalOf f S octets fields (record { index = s.index; why = Short })
  short_refused last = record {
    stopped = λ other. record {
      none = no_value;
      within = index_within;
      begins = begins;
      ends = ends;
      hopeless = s.part;
      stop = at_field;
      short = (λ e. last, λ e. refl);
      trailing = (λ e. absurd (cc), λ t. absurd (omega (arith, t.0, last)));
      others = λ no. absurd (no refl);
    };
    memory = λ e. absurd (cc);
  }

  module _ (before : s.index ≢ length fields) where
    earlier : s.index < length fields
    earlier = elim (cases_lt s.index (length fields)) [
      | inl lt ↦ lt
      | inr le ↦ (let same : s.index ≡ length fields = omega (arith, index_within, le) in absurd (before same))
    ]

    pub trailing_refused : s.part ≡ part.Name → AreAllOfOne f S octets (take s.index fields) → IsRefusalOf f S octets fields (record { index = s.index; why = Trailing })
    trailing_refused name whole = record {
      stopped = λ other. record {
        none = no_value;
        within = index_within;
        begins = begins;
        ends = ends;
        hopeless = s.part;
        stop = at_field;
        short = (λ e. absurd (cc), λ e. absurd (before e));
        trailing = (λ e. (earlier, whole, name), λ t. refl);
        others = λ no never. absurd (never refl);
      };
      memory = λ e. absurd (cc);
    }

    -- the reasons that are none of the others
    other_why : (p : Part) → (why_of p ≡ Short → ⊥) × ((why_of p ≡ Trailing → ⊥) × (why_of p ≡ OutOfMemory → ⊥))
    other_why part.Name = (λ e. absurd (cc), (λ e. absurd (cc), λ e. absurd (cc)))
    other_why part.Number = (λ e. absurd (cc), (λ e. absurd (cc), λ e. absurd (cc)))
    other_why part.Contents = (λ e. absurd (cc), (λ e. absurd (cc), λ e. absurd (cc)))

    -- what is hopeless, if it is no name after all the fields of a value
    hopeless_refused : (AreAllOfOne f S octets (take s.index fields) → s.part ≡ part.Name → ⊥) → IsRefusalOf f S octets fields (record { index = s.index; why = why_of s.part })
    hopeless_refused never =
        let other = other_why s.part in
        record {
          stopped = λ no_memory. record {
            none = no_value;
            within = index_within;
            begins = begins;
            ends = ends;
            hopeless = s.part;
            stop = at_field;
            short = (λ e. absurd (other.0 e), λ e. absurd (before e));
            trailing = (λ e. absurd (other.1.0 e), λ t. absurd (never t.1 t.2));
            others = λ no trailing. refl;
          };
          memory = λ e. absurd (other.1.1 e);
        }

    pub part_refused : (p : Part) → s.part ≡ p → (AreAllOfOne f S octets (take s.index fields) → p ≡ part.Name → ⊥) → IsRefusalOf f S octets fields (record { index = s.index; why = why_of p })
    part_refused p same never = subst (λ (q : Part). IsRefusalOf f S octets fields (record { index = s.index; why = why_of q })) same (hopeless_refused (λ all name. never all (sym same ∙ name)))
