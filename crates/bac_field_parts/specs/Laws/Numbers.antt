-- Numbers that are read before octets are written, and heads.
use Rattle.std.specs.Prelude.{slice_get, ◌≡◌, ◌↔◌, ℕ, ◌+◌, ◌-◌, ◌*◌, ◌≤◌, List, [], ◌∷◌, ◌++◌, length, take, drop, Bool, false, ◌&&◌, IsTrue, Option, None, Some, refl}
use Rattle.std.proofs.Common.{sym, ◌∙◌, ap, subst, arith}
use Rattle.std.proofs.Math.Seq.{take-append-add}
use Rattle.std.proofs.lemmas.Bool.{and_parts}
use Rattle.std.proofs.lemmas.List.{length-drop, take-append-drop, length-take-le, take_rest, append-nil}
use Rattle.bac_tag.specs.HeadOctets.{Part, Headed, least_head, AreParts}
use Rattle.bac_tag.specs.Laws.Octets.{NoGreater-same}
use Rattle.bac_tag.specs.Spelling.{IsLeast, Joined, Joins}
use Rattle.bac_productions.specs.Productions.{IsInhabited}
use Rattle.bac_tag.proofs.HeadOctetLemmas.{headed_least, parts_are}
use Rattle.bac_field_parts.specs.declared.field.Field.{Field}
use Rattle.bac_field_parts.specs.declared.making.Fault.{Fault}
use Rattle.bac_field_parts.specs.Symbols.{Symbol, named, numbered, containing, has_contents, Language, Lawful, IsStop, IfStop, Made, Read, Unwritten, Heads, behind, symbols_in, number_said}
use Rattle.bac_field_parts.specs.Laws.Languages.{lawful_alike, stop_alike}
use Rattle.bac_field_parts.specs.Laws.Leaves.{leaf_lawful, one_none, one_other_name, one_other_number}
use Rattle.bac_field_parts.specs.Laws.Making.{symbols_after, stop_behind}
use Rattle.bac_field_parts.specs.Laws.Parts.{pair_said, pair_lawful, pair_stop_first, pair_stop_second}

pub number_lawful : {V : Type 0} (name : ℕ) (number : V → ℕ) (fits : V → Type 0) → (v : V) × fits v → Lawful (Language (number_said name number) (Unwritten fits)) (Some name ∷ [])
number_lawful name number fits some = leaf_lawful name number (λ v. Some []) (Unwritten fits) some.0 [] (some.1, refl)

-- ---- one after the other

module _ {V W : Type 0} (f : V → List Symbol) (g : W → List Symbol) (F : V → Type 0) (G : W → Type 0) where
  abbrev pub both_fit : V × W → Type 0
  both_fit v = F v.0 × G v.1

  abbrev pub both_said : V × W → List Symbol
  both_said v = f v.0 ++ g v.1

  to : (es : List Symbol) → Language (pair_said f g (Unwritten F) (Unwritten G)) (Joined (Unwritten F) (Unwritten G)) tt es → Language both_said (Unwritten both_fit) tt es
  to es l = (l.0, record { octets = []; spelled = ((l.1.spelled.first.0, l.1.spelled.second.0), refl); is_said = l.1.is_said })

  from : (es : List Symbol) → Language both_said (Unwritten both_fit) tt es → Language (pair_said f g (Unwritten F) (Unwritten G)) (Joined (Unwritten F) (Unwritten G)) tt es
  from es l = (l.0, record { octets = []; spelled = record { front = []; back = []; first = (l.1.spelled.0.0, refl); second = (l.1.spelled.0.1, refl); octets = refl }; is_said = l.1.is_said })

  pub read_says : (es : List Symbol) (n : ℕ) (v : V) → Read f F es n v → Language f (Unwritten F) tt (take n es)
  read_says es n v r = (v, record { octets = []; spelled = (r.in_range, refl); is_said = r.is_said })

  pub read_pair : (es : List Symbol) (m n : ℕ) (v : V) (w : W) → Read f F es m v → Read g G (drop m es) n w → Read both_said both_fit es (m + n) (v, w)
  read_pair es m n v w a b = record {
    within = omega (arith, a.within, b.within, length-drop m es);
    is_said = whole ∙ ap (λ (l : List Symbol). l ++ take n (drop m es)) a.is_said ∙ ap (λ (l : List Symbol). f v ++ l) b.is_said;
    in_range = (a.in_range, b.in_range);
  }
    where
      whole : take (m + n) es ≡ take m es ++ take n (drop m es)
      whole =
          let front : length (take m es) ≡ m = length-take-le m es a.within in
          ap (λ (l : List Symbol). take (m + n) l) (sym (take-append-drop m es)) ∙ ap (λ (k : ℕ). take (k + n) (take m es ++ drop m es)) (sym front) ∙ take-append-add (take m es) (drop m es) n

  -- after so many fields that say the first
  pub read_behind : (octets : List ℕ) (fields : List Field) (m n : ℕ) (v : V) (w : W) → m ≤ length fields → Read f F (symbols_in octets fields) (3 * m) v → Read g G (symbols_in octets (take (length fields - m) (drop m fields))) (3 * n) w
      → Read both_said both_fit (symbols_in octets fields) (3 * (m + n)) (v, w)
  read_behind octets fields m n v w within a b =
      let second : Read g G (drop (3 * m) (symbols_in octets fields)) (3 * n) w = subst (λ (es : List Symbol). Read g G es (3 * n) w) (sym (symbols_after octets fields m within ∙ ap (symbols_in octets) (sym (take_rest fields m)))) b in
      let sum : 3 * m + 3 * n ≡ 3 * (m + n) = omega arith in
      subst (λ (k : ℕ). Read both_said both_fit (symbols_in octets fields) k (v, w)) sum (read_pair (symbols_in octets fields) (3 * m) (3 * n) v w a second)

  module _ (leads others : List (Option ℕ)) (first : Lawful (Language f (Unwritten F)) leads) (second : Lawful (Language g (Unwritten G)) others) where
    pub numbers_lawful : Lawful (Language both_said (Unwritten both_fit)) leads
    numbers_lawful = lawful_alike _ (Language both_said (Unwritten both_fit)) to from leads (pair_lawful f g (Unwritten F) (Unwritten G) leads others first second)

    pub numbers_stop_first : (es : List Symbol) (p : ℕ) → IsStop (Language f (Unwritten F)) es p → IsStop (Language both_said (Unwritten both_fit)) es p
    numbers_stop_first es p h = stop_alike _ (Language both_said (Unwritten both_fit)) to from es p (pair_stop_first f g (Unwritten F) (Unwritten G) leads others first second es p h)

    pub numbers_stop_second : (octets : List ℕ) (fields : List Field) (m : ℕ) (v : V) (fault : Fault) → m ≤ length fields → Read f F (symbols_in octets fields) (3 * m) v
        → IfStop fault (IsStop (Language g (Unwritten G)) (symbols_in octets (take (length fields - m) (drop m fields)))) → IfStop (behind m fault) (IsStop (Language both_said (Unwritten both_fit)) (symbols_in octets fields))
    numbers_stop_second octets fields m v fault within a h =
        stop_behind fault m _ _ (λ p stop. stop_alike _ (Language both_said (Unwritten both_fit)) to from (symbols_in octets fields) (3 * m + p)
        (pair_stop_second f g (Unwritten F) (Unwritten G) leads others first second (symbols_in octets fields) (3 * m) p a.within (read_says (symbols_in octets fields) (3 * m) v a)
        (subst (λ (es : List Symbol). IsStop (Language g (Unwritten G)) es p) (sym (symbols_after octets fields m within ∙ ap (symbols_in octets) (sym (take_rest fields m)))) stop))) h

pub numbers_sound : {V W : Type 0} (f : V → List Symbol) (g : W → List Symbol) (F : V → Type 0) (G : W → Type 0) (a b : Bool) (leads others : List (Option ℕ))
    → (IsTrue a → Lawful (Language f (Unwritten F)) leads) → (IsTrue b → Lawful (Language g (Unwritten G)) others) → IsTrue (a && b) → Lawful (Language (both_said f g F G) (Unwritten (both_fit f g F G))) leads
numbers_sound f g F G a b leads others first second sound =
    let p = and_parts a b sound in
    numbers_lawful f g F G leads others (first p.0) (second p.1)

-- ---- the octets of a head

pub head_least : (ps : List Part) → AreParts ps → IsLeast (Headed ps (λ (rest : List ℕ). rest ≡ [])) (least_head ps)
head_least ps are =
    let nothing : IsLeast (λ (rest : List ℕ). rest ≡ []) [] = record { member = refl; least = λ c e. NoGreater-same [] c (sym e) } in
    subst (IsLeast (Headed ps (λ (rest : List ℕ). rest ≡ []))) (append-nil (least_head ps)) (headed_least ps (λ (rest : List ℕ). rest ≡ []) [] are nothing)

module _ {V : Type 0} (f : V → List Symbol) (fits : V → Type 0) (parts : V → List Part) (fit : (v : V) → fits v ↔ AreParts (parts v)) where
  head_to : (es : List Symbol) → Language f (Unwritten fits) tt es → Language f (Heads parts) tt es
  head_to es l = (l.0, record { octets = least_head (parts l.0); spelled = (head_least (parts l.0) ((fit l.0).0 l.1.spelled.0)).member; is_said = l.1.is_said })

  head_from : (es : List Symbol) → Language f (Heads parts) tt es → Language f (Unwritten fits) tt es
  head_from es l = (l.0, record { octets = []; spelled = ((fit l.0).1 (parts_are (parts l.0) (λ (rest : List ℕ). rest ≡ []) l.1.octets l.1.spelled), refl); is_said = l.1.is_said })

  pub heading_lawful : (leads : List (Option ℕ)) → Lawful (Language f (Unwritten fits)) leads → Lawful (Language f (Heads parts)) leads
  heading_lawful leads l = lawful_alike (Language f (Unwritten fits)) (Language f (Heads parts)) head_to head_from leads l

  pub heading_stopped : (es : List Symbol) (p : ℕ) → IsStop (Language f (Unwritten fits)) es p → IsStop (Language f (Heads parts)) es p
  heading_stopped es p h = stop_alike (Language f (Unwritten fits)) (Language f (Heads parts)) head_to head_from es p h

  pub heading_made : (es : List Symbol) (n : ℕ) (v : V) (old new : List ℕ) → Read f fits es n v → new ≡ old ++ least_head (parts v) → Made f (Heads parts) es n old new
  heading_made es n v old new r e = record {
    value = v;
    within = r.within;
    is_said = r.is_said;
    appended = record { more = least_head (parts v); is_least = head_least (parts v) ((fit v).0 r.in_range); new_is = e };
  }

-- ---- a head, and what comes after it

-- the octets of a head, and then a body
pub headed_joined : (ps : List Part) (B : List ℕ → Type 0) (b : List ℕ) → Joins (Headed ps (λ (rest : List ℕ). rest ≡ [])) B b ↔ Headed ps B b
headed_joined [] B b = (
  λ j. subst B (sym (j.octets ∙ ap (λ (l : List ℕ). l ++ j.back) j.first)) j.second,
  λ h. record { front = []; back = b; first = refl; second = h; octets = refl },
)
headed_joined (p ∷ ps) B b = (λ j. to j.front j.first j.back j.second b j.octets (λ c. headed_joined ps B c), from b (λ c. headed_joined ps B c))
  where
    to : (front : List ℕ) → Headed (p ∷ ps) (λ (rest : List ℕ). rest ≡ []) front → (back : List ℕ) → B back → (b : List ℕ) → b ≡ front ++ back → ((c : List ℕ) → Joins (Headed ps (λ (rest : List ℕ). rest ≡ [])) B c ↔ Headed ps B c) → Headed (p ∷ ps) B b
    to [] h back second b e rest = absurd h
    to (o ∷ front) h back second b e rest = subst (Headed (p ∷ ps) B) (sym e) (h.0, (rest (front ++ back)).0 (record { front = front; back = back; first = h.1; second = second; octets = refl }))

    from : (b : List ℕ) → ((c : List ℕ) → Joins (Headed ps (λ (rest : List ℕ). rest ≡ [])) B c ↔ Headed ps B c) → Headed (p ∷ ps) B b → Joins (Headed (p ∷ ps) (λ (rest : List ℕ). rest ≡ [])) B b
    from [] rest h = absurd h
    from (o ∷ b) rest h =
        let j = (rest b).1 h.1 in
        record { front = o ∷ j.front; back = j.back; first = (h.0, j.first); second = j.second; octets = ap (λ (l : List ℕ). o ∷ l) j.octets }

-- ---- one field

module _ {V : Type 0} (name : ℕ) (number : V → ℕ) (fits : V → Type 0) (some : (v : V) × fits v) (octets : List ℕ) where
  inhabited : IsInhabited (Unwritten fits)
  inhabited = record { value = some.0; octets = []; spelled = (some.1, refl) }

  pub number_none : (fields : List Field) → None ≡ slice_get fields 0 → IsStop (Language (number_said name number) (Unwritten fits)) (symbols_in octets fields) 0
  number_none fields e = one_none name number (λ v. Some []) (Unwritten fits) inhabited octets fields e

  pub number_other_name : (fields : List Field) (field : Field) → Some field ≡ slice_get fields 0 → (field.name ≡ name → ⊥) → IsStop (Language (number_said name number) (Unwritten fits)) (symbols_in octets fields) 0
  number_other_name fields field e other = one_other_name name number (λ v. Some []) (Unwritten fits) inhabited octets fields field e other

  pub number_other_number : (fields : List Field) (field : Field) → Some field ≡ slice_get fields 0 → field.name ≡ name → ((v : V) → fits v → number v ≡ field.number → ⊥) → IsStop (Language (number_said name number) (Unwritten fits)) (symbols_in octets fields) 1
  number_other_number fields field e is none = one_other_number name number (λ v. Some []) (Unwritten fits) inhabited octets fields field e is (λ v b u same. none v u.0 same)

  pub number_read : (fields : List Field) (field : Field) (v : V) → Some field ≡ slice_get fields 0 → field.name ≡ name → has_contents name ≡ false → number v ≡ field.number → fits v → Read (number_said name number) fits (symbols_in octets fields) 3 v
  number_read [] field v e is plain same fit = absurd (cc)
  number_read (first ∷ fields) field v e is plain same fit =
      let here : first ≡ field = cc in
      let first_is : first.name ≡ name = ap (λ (f : Field). f.name) here ∙ is in
      let number_is : first.number ≡ number v = ap (λ (f : Field). f.number) here ∙ sym same in
      record { within = omega arith; is_said = said_is first first_is number_is; in_range = fit }
    where
      said_is : (first : Field) {n : ℕ} → first.name ≡ name → first.number ≡ n → take 3 (symbols_in octets (first ∷ fields)) ≡ named name ∷ numbered n ∷ containing (Some []) ∷ []
      said_is first first_is number_is = rw (first_is, number_is, plain) refl
