-- Kinds of elements: the fields of one name in an open value.
use Rattle.std.specs.Prelude.{◌≡◌, ◌↔◌, ℕ, ◌+◌, ◌≤◌, List, [], ◌∷◌, ◌++◌, length, take, drop, Option, Some, refl}
use Rattle.std.specs.List.{AllByRecursion}
use Rattle.std.proofs.Common.{sym, ◌∙◌, ap, subst, arith, append_assoc, inl, inr, suc}
use Rattle.std.proofs.lemmas.Bool.{cases_lt}
use Rattle.std.proofs.lemmas.List.{take-append-drop, length-take-le}
use Rattle.bac_tag.specs.Spelling.{AppendsLeast}
use Rattle.bac_tag.specs.Laws.Spelling.{splits}
use Rattle.bac_data.specs.Events.{Event, Opens, SpellsEvent}
use Rattle.bac_productions.specs.Laws.Least.{least_alike}
use Rattle.bac_field_parts.specs.Names.{number_of}
use Rattle.bac_field_parts.specs.OpenValueFields.{event_field}
use Rattle.bac_field_parts.specs.declared.field.Field.{Field}
use Rattle.bac_field_parts.specs.Symbols.{Symbol, named, Language, IsStop, Made, lead_in, symbols_in}
use Rattle.bac_field_parts.specs.Laws.Firsts.{field_then}
use Rattle.bac_field_parts.specs.Laws.Rests.{event_said, Rest, Rests, MayCome, rest_some, rest_firsts, then_rest}
use Rattle.bac_field_parts.specs.Laws.Rests.MayCome.{event, ended}

-- The values are the events whose field has the name with this number, and no group begins or ends with one.
pub record IsKind {V : Type 0} (said : V → List Symbol) (spells : V → List ℕ → Type 0) (name : ℕ) (event_of : V → Event) : Type 0 where
  pub element : name ≡ 118 → ⊥
  pub told : (v : V) → said v ≡ event_said (event_of v)
  pub spelled : (v : V) (b : List ℕ) → spells v b ↔ SpellsEvent (event_of v) b
  pub only : (e : Event) (b : List ℕ) → number_of (event_field e).name ≡ name → SpellsEvent e b → (v : V) × (e ≡ event_of v)
  pub keeps : (v : V) (s : List ℕ) → Opens 32 s (event_of v ∷ []) s

-- Where a language of the fields with one name stops, the rest does.
module _ (L : Unit {0} → List Symbol → Type 0) (name : ℕ) (s : List ℕ) (sound : AllByRecursion (λ k. k ≤ 254) s) (known : (n m : ℕ) (c : Option (List ℕ)) → n ≡ name → MayCome s n m c → L tt (field_then n m c []))
    (continues : (es : List Symbol) → L tt es → (rest : List Symbol) × Rest s (es ++ rest)) where
  pub part_stopped : (n : ℕ) (tail : List Symbol) (p : ℕ) → n ≡ name → IsStop L (named n ∷ tail) p → IsStop (Rests s) (named n ∷ tail) p
  part_stopped n tail p is h = record {
    none = λ u b more e r.
        let l = (rest_firsts s sound).starts b r in
        let whole : named n ∷ tail ≡ field_then l.name l.number l.contents [] ++ (l.rest ++ more) = e ∙ ap (λ (t : List Symbol). t ++ more) l.symbols in
        let same : l.name ≡ n = cc in
        h.none tt (field_then l.name l.number l.contents []) (l.rest ++ more) whole (known l.name l.number l.contents (same ∙ is) l.first);
    furthest = record {
      within = h.furthest.within;
      begins =
          let v = h.furthest.begins in
          let more = continues (take p (named n ∷ tail) ++ v.rest) v.spelled in
          record { value = tt; rest = v.rest ++ more.0; spelled = subst (λ (t : List Symbol). Rest s t) (append_assoc (take p (named n ∷ tail)) v.rest more.0) more.1 };
      ends = λ lt v.
          let l = (rest_firsts s sound).starts _ v.spelled in
          let begun : take (p + 1) (named n ∷ tail) ≡ named n ∷ take p tail = next in
          let whole : named n ∷ (take p tail ++ v.rest) ≡ field_then l.name l.number l.contents l.rest = ap (λ (t : List Symbol). t ++ v.rest) (sym begun) ∙ l.symbols in
          let same : l.name ≡ n = cc in
          let found = known l.name l.number l.contents (same ∙ is) l.first in
          let parts : take (p + 1) (named n ∷ tail) ++ v.rest ≡ field_then l.name l.number l.contents [] ++ l.rest = l.symbols in
          elim (cases_lt 3 (length (take (p + 1) (named n ∷ tail)))) [
            | inl lt ↦ (let m = splits (field_then l.name l.number l.contents []) (take (p + 1) (named n ∷ tail)) l.rest v.rest (sym parts) (omega arith) in
                h.none tt (field_then l.name l.number l.contents []) (m.0 ++ drop (p + 1) (named n ∷ tail))
                (sym (take-append-drop (p + 1) (named n ∷ tail)) ∙ ap (λ (t : List Symbol). t ++ drop (p + 1) (named n ∷ tail)) m.1 ∙ append_assoc (field_then l.name l.number l.contents []) m.0 (drop (p + 1) (named n ∷ tail))) found)
            | inr le ↦ (let m = splits (take (p + 1) (named n ∷ tail)) (field_then l.name l.number l.contents []) v.rest l.rest parts (omega arith) in
                h.furthest.ends lt (record { value = tt; rest = m.0; spelled = subst (λ (t : List Symbol). L tt t) m.1 found }))
          ];
    };
    short = h.short;
  }
    where
      next : take (p + 1) (named n ∷ tail) ≡ named n ∷ take p tail
      next = let e : p + 1 ≡ suc p = omega arith in rw e refl

module _ {V : Type 0} (f : V → List Symbol) (S : V → List ℕ → Type 0) (name : ℕ) (event_of : V → Event) (K : IsKind f S name event_of) where
  -- an event with the name is said by the language
  event_known : (e : Event) (b : List ℕ) → number_of (event_field e).name ≡ name → SpellsEvent e b → Language f S tt (event_said e)
  event_known e b is p =
      let k = K.only e b is p in
      (k.0, record { octets = b; spelled = (K.spelled k.0 b).1 (subst (λ (x : Event). SpellsEvent x b) k.1 p); is_said = ap event_said k.1 ∙ sym (K.told k.0) })

  -- the first field of a list of the rest, if it has the name
  first_known : (s : List ℕ) (n m : ℕ) (c : Option (List ℕ)) → n ≡ name → MayCome s n m c → Language f S tt (field_then n m c [])
  first_known s n m c is (event e t b o p said) = subst (λ (l : List Symbol). Language f S tt l) said (event_known e b (same_name (number_of (event_field e).name) n _ _ said ∙ is) p)
    where
      same_name : (a b : ℕ) (x y : List Symbol) → named a ∷ x ≡ named b ∷ y → a ≡ b
      same_name a b x y e = cc
  first_known s n m c is (ended none names numbers contents) = absurd (K.element (sym is ∙ names))

  -- where the language stops, the rest does
  pub kind_stopped : (s : List ℕ) → AllByRecursion (λ k. k ≤ 254) s → (n : ℕ) (tail : List Symbol) (p : ℕ) → n ≡ name → IsStop (Language f S) (named n ∷ tail) p → IsStop (Rests s) (named n ∷ tail) p
  kind_stopped s sound = part_stopped (Language f S) name s sound (λ n m c. first_known s n m c) continues
    where
      continues : (es : List Symbol) → Language f S tt es → (rest : List Symbol) × Rest s (es ++ rest)
      continues es l =
          let more = rest_some s sound in
          (more.0, subst (λ (t : List Symbol). Rest s (t ++ more.0)) (sym (l.1.is_said ∙ K.told l.0)) (then_rest s (event_of l.0) s l.1.octets more.0 (K.keeps l.0 s) ((K.spelled l.0 l.1.octets).0 l.1.spelled) more.1))

-- ---- what is made

-- The symbols begin with those of an event that begins and ends no group, and its canonical octets are appended.
pub record MadeEvent (es : List Symbol) (old new : List ℕ) : Type 0 where
  pub made : Event
  pub within : 3 ≤ length es
  pub is_said : take 3 es ≡ event_said made
  pub keeps : (s : List ℕ) → Opens 32 s (made ∷ []) s
  pub appended : AppendsLeast (SpellsEvent made) old new

module _ {V : Type 0} (f : V → List Symbol) (S : V → List ℕ → Type 0) (name : ℕ) (event_of : V → Event) (K : IsKind f S name event_of) where
  pub kind_made : (es : List Symbol) (n : ℕ) (old new : List ℕ) → Made f S es n old new → MadeEvent es old new
  kind_made es n old new m =
      let said = m.is_said ∙ K.told m.value in
      let three : n ≡ 3 = sym (length-take-le n es m.within) ∙ ap length said in
      record {
        made = event_of m.value;
        within = omega (arith, three, m.within);
        is_said = ap (λ (k : ℕ). take k es) (sym three) ∙ said;
        keeps = K.keeps m.value;
        appended = record { more = m.appended.more; is_least = least_alike (K.spelled m.value) m.appended.is_least; new_is = m.appended.new_is };
      }

  pub kind_stopped_in : (octets : List ℕ) (fields : List Field) (p : ℕ) → lead_in fields ≡ Some name → IsStop (Language f S) (symbols_in octets fields) p → (s : List ℕ) → AllByRecursion (λ k. k ≤ 254) s → IsStop (Rests s) (symbols_in octets fields) p
  kind_stopped_in octets [] p lead h s sound = absurd (cc)
  kind_stopped_in octets (field ∷ fields) p lead h s sound = kind_stopped f S name event_of K s sound field.name _ p (let e : field.name ≡ name = cc in e) h
