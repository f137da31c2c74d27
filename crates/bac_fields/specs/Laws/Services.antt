-- Which service a name tells.
use Rattle.std.specs.Prelude.{◌≡◌, ◌↔◌, ℕ, ◌<◌, nat_eq, cond, Bool, ◌==◌, ◌||◌, true, false, IsTrue, Option, None, Some, List, [], ◌∷◌, ◌++◌, refl}
use Rattle.std.specs.Map.{lookup}
use Rattle.std.proofs.Common.{sym, ◌∙◌, ap, subst, eqb-true}
use Rattle.bac_tag.specs.Spelling.{Joins, EndsItself}
use Rattle.bac_productions.specs.Laws.Least.{least_alike}
use Rattle.bac_service.specs.ServiceTable.{ServiceProduction, read_property, read_property_ack, read_property_multiple, read_property_multiple_ack, write_property, write_property_multiple, write_property_multiple_error, who_is, i_am, subscribe_cov, cov_notification, service_error, rows, production_of}
use Rattle.bac_service.specs.Services.{SaidBy, Said, typed, opaque, SpellsBy, SpellsSaid, SpellsService}
use Rattle.bac_service.specs.Laws.Service.{spelled_as}
use Rattle.bac_service.specs.declared.kind.Kind.{Kind}
use Rattle.bac_service.specs.declared.kind.Kind.TheVariants.{Confirmed, Unconfirmed, ComplexAck, Error}
use Rattle.bac_fields.specs.ServiceSymbols.{service_said, SpellsAfterHead, first_name, named_choice, service_leads}
use Rattle.bac_field_parts.specs.Symbols.{Symbol, named, numbered, containing, finished, contents_in, symbols_in, lead_in, has, Opens, Lawful, IsStop, Made, Language, the_octet, field_said, steps_said}
use Rattle.bac_field_parts.specs.Fields.{FieldValue, Step, next, aside, pass, held_field}
use Rattle.bac_field_parts.specs.Laws.Messages.{second_alike}
use Rattle.bac_field_parts.specs.Laws.Opaques.{has_word, opaque_said, SpellsOpaque, opaque_choice_inhabited}
use Rattle.bac_fields.specs.Laws.Among.{among_stopped}
use Rattle.bac_field_parts.specs.Laws.Languages.{stop_at_first}
use Rattle.bac_field_parts.specs.declared.field.Field.{Field}
use Rattle.bac_fields.specs.ServiceFields.{service_steps}

not_none : {A : Type 0} (a : A) → None ≡ Some a → ⊥
not_none a e = absurd (cc)

-- a name that is not the first, and none of the others
pub not_first : (m n : ℕ) (leads : List (Option ℕ)) → (n ≡ m → ⊥) → (IsTrue (has leads (Some n)) → ⊥) → IsTrue (has (Some m ∷ leads) (Some n)) → ⊥
not_first m n leads other later h = by_first (m == n) refl h
  where
    by_first : (b : Bool) → (m == n) ≡ b → IsTrue (b || has leads (Some n)) → ⊥
    by_first true e h = other (sym (eqb-true m n e))
    by_first false e h = later h

-- all of a list
abbrev pub AllOf : {A : Type 0} → (A → Type 0) → List A → Type 0
AllOf P [] = Unit {0}
AllOf P (a ∷ rest) = P a × AllOf P rest

-- the name of a row tells the row
abbrev IsToldBy : Kind → ℕ × ServiceProduction → Type 0
IsToldBy k row = named_choice k (first_name k row.1) ≡ Some row

rows_told : (k : Kind) → IsTrue (has_word k) → AllOf (IsToldBy k) (rows true k)
rows_told Confirmed word = (refl, (refl, (refl, (refl, (refl, (refl, tt))))))
rows_told Unconfirmed word = (refl, (refl, (refl, tt)))
rows_told ComplexAck word = (refl, (refl, tt))
rows_told Error word = absurd (cc)

-- what is found in a table is one of its rows
pub found : (P : ℕ × ServiceProduction → Type 0) (c : ℕ) (p : ServiceProduction) (table : List (ℕ × ServiceProduction)) → AllOf P table → lookup (λ n. nat_eq n c) table ≡ Some p → P (c, p)
found P c p [] h e = absurd (cc)
found P c p (row ∷ table) h e = in_row (nat_eq row.0 c) refl e (found P c p table h.1)
  where
    in_row : (here : Bool) → nat_eq row.0 c ≡ here → cond here (Some row.1) (lookup (λ n. nat_eq n c) table) ≡ Some p → (lookup (λ n. nat_eq n c) table ≡ Some p → P (c, p)) → P (c, p)
    in_row true same e later =
        let number : row.0 ≡ c = eqb-true row.0 c same in
        let production : row.1 ≡ p = cc in
        subst (λ (n : ℕ). P (n, p)) number (subst (λ (q : ServiceProduction). P (row.0, q)) production h.0)
    in_row false same e later = later e

pub production_told : (k : Kind) → IsTrue (has_word k) → (c : ℕ) (p : ServiceProduction) → production_of true k c ≡ Some p → named_choice k (first_name k p) ≡ Some (c, p)
production_told k word c p e = found (IsToldBy k) c p (rows true k) (rows_told k word) e

-- what a service says begins with the name of its production
pub begins_with : (k : Kind) (c : ℕ) (p : ServiceProduction) (v : SaidBy p) (n : ℕ) (rest : List Symbol) → named n ∷ rest ≡ service_said (typed k c p v) → n ≡ first_name k p
begins_with k c read_property v n rest e = cc
begins_with k c read_property_ack v n rest e = cc
begins_with k c read_property_multiple v n rest e = cc
begins_with k c read_property_multiple_ack v n rest e = cc
begins_with k c write_property v n rest e = cc
begins_with k c write_property_multiple v n rest e = cc
begins_with k c write_property_multiple_error v n rest e = cc
begins_with k c who_is v n rest e = cc
begins_with k c i_am v n rest e = cc
begins_with k c subscribe_cov v n rest e = cc
begins_with Confirmed c cov_notification v n rest e = cc
begins_with Unconfirmed c cov_notification v n rest e = cc
begins_with ComplexAck c cov_notification v n rest e = cc
begins_with Error c cov_notification v n rest e = cc
begins_with k c service_error v n rest e = cc

-- no production begins with the word for none
no_production : (k : Kind) → named_choice k 69 ≡ None
no_production Confirmed = refl
no_production Unconfirmed = refl
no_production ComplexAck = refl
no_production Error = refl

opaque_begins : (k : Kind) → IsTrue (has_word k) → (c : ℕ) (octets : List ℕ) (n : ℕ) (rest : List Symbol) → named n ∷ rest ≡ service_said (opaque k c octets) → n ≡ 69
opaque_begins Confirmed word c octets n rest e = cc
opaque_begins Unconfirmed word c octets n rest e = cc
opaque_begins ComplexAck word c octets n rest e = cc
opaque_begins Error word c octets n rest e = absurd (cc)

-- the services of a row, after their choice
abbrev pub row_said : (k : Kind) (row : ℕ × ServiceProduction) → SaidBy row.1 → List Symbol
row_said k row v = service_said (typed k row.0 row.1 v)

abbrev pub SpellsRow : (row : ℕ × ServiceProduction) → SaidBy row.1 → List ℕ → Type 0
SpellsRow row v = Joins (the_octet row.0 tt) (SpellsBy 32 row.1 v)

module _ (k : Kind) (word : IsTrue (has_word k)) where
  pub row_to : (c : ℕ) (p : ServiceProduction) → c < 256 → production_of true k c ≡ Some p → (es : List Symbol) → Language (row_said k (c, p)) (SpellsRow (c, p)) tt es → Language service_said (SpellsAfterHead k) tt es
  row_to c p fits row es l = (typed k c p l.0, record { octets = l.1.octets; spelled = (second_alike (spelled_as k c p l.0 fits row) l.1.octets).0 l.1.spelled; is_said = l.1.is_said })

  pub row_from : (row : ℕ × ServiceProduction) (n : ℕ) → named_choice k n ≡ Some row → (rest : List Symbol) → Language service_said (SpellsAfterHead k) tt (named n ∷ rest) → Language (row_said k row) (SpellsRow row) tt (named n ∷ rest)
  row_from row n told rest l =
      let s = l.1.spelled.second in
      by l.0.choice l.0.production l.0.said s.production_is l.1.octets (record { front = l.1.spelled.front; back = l.1.spelled.back; first = l.1.spelled.first; second = s.spelled; octets = l.1.spelled.octets })
      (l.1.is_said ∙ ap (λ (i : Kind). service_said (record { kind = i; choice = l.0.choice; production = l.0.production; said = l.0.said })) s.kind_is)
    where
      by : (c : ℕ) (production : Option ServiceProduction) (v : Said production) → production ≡ production_of true k c → (b : List ℕ) → Joins (the_octet c tt) (SpellsSaid 32 production v) b
          → named n ∷ rest ≡ service_said (record { kind = k; choice = c; production = production; said = v }) → Language (row_said k row) (SpellsRow row) tt (named n ∷ rest)
      by c (Some p) v is b j e =
          let name_is : n ≡ first_name k p = begins_with k c p v n rest e in
          let same : Some (c, p) ≡ Some row = sym (production_told k word c p (sym is)) ∙ ap (named_choice k) (sym name_is) ∙ told in
          let rows_same : (c, p) ≡ row = cc in
          subst (λ (r : ℕ × ServiceProduction). Language (row_said k r) (SpellsRow r) tt (named n ∷ rest)) rows_same (v, record { octets = b; spelled = j; is_said = e })
      by c None v is b j e =
          let none : named_choice k n ≡ None = ap (named_choice k) (opaque_begins k word c v n rest e) ∙ no_production k in
          let clash : Some row ≡ None = sym told ∙ none in
          absurd (cc)

  pub opaque_to : (es : List Symbol) → Language (opaque_said k) (SpellsOpaque k) tt es → Language service_said (SpellsAfterHead k) tt es
  opaque_to es l =
      let j = l.1.spelled in
      let spelled : SpellsService true 32 k l.0.0 (opaque k l.0.0 l.0.1) j.back = record { kind_is = refl; choice_is = refl; choice_fits = j.first.fits; production_is = sym j.first.production_is; spelled = j.second } in
      (opaque k l.0.0 l.0.1, record { octets = l.1.octets; spelled = record { front = j.front; back = j.back; first = j.first.octet; second = spelled; octets = j.octets }; is_said = l.1.is_said })

  pub opaque_from : (rest : List Symbol) → Language service_said (SpellsAfterHead k) tt (named 69 ∷ rest) → Language (opaque_said k) (SpellsOpaque k) tt (named 69 ∷ rest)
  opaque_from rest l =
      let s = l.1.spelled.second in
      by l.0.choice l.0.production l.0.said s.choice_fits s.production_is l.1.octets
      (record { front = l.1.spelled.front; back = l.1.spelled.back; first = l.1.spelled.first; second = s.spelled; octets = l.1.spelled.octets })
      (l.1.is_said ∙ ap (λ (i : Kind). service_said (record { kind = i; choice = l.0.choice; production = l.0.production; said = l.0.said })) s.kind_is)
    where
      by : (c : ℕ) (production : Option ServiceProduction) (v : Said production) → c < 256 → production ≡ production_of true k c → (b : List ℕ) → Joins (the_octet c tt) (SpellsSaid 32 production v) b
          → named 69 ∷ rest ≡ service_said (record { kind = k; choice = c; production = production; said = v }) → Language (opaque_said k) (SpellsOpaque k) tt (named 69 ∷ rest)
      by c (Some p) v fits is b j e =
          let name_is : 69 ≡ first_name k p = begins_with k c p v 69 rest e in
          let clash : None ≡ Some (c, p) = sym (no_production k) ∙ ap (named_choice k) name_is ∙ production_told k word c p (sym is) in
          absurd (not_none (c, p) clash)
      by c None v fits is b j e = (
        (c, v),
        record { octets = b; spelled = record { front = j.front; back = j.back; first = record { octet = j.first; fits = fits; production_is = sym is }; second = j.second; octets = j.octets }; is_said = e },
      )

-- ---- all services of a kind

-- two fields at the fronts of two lists
field_first : (v w : FieldValue) (x y : List Symbol) → field_said v ++ x ≡ field_said w ++ y → field_said v ≡ field_said w
field_first v w x y e = cc

field_rest : (v w : FieldValue) (x y : List Symbol) → field_said v ++ x ≡ field_said w ++ y → x ≡ y
field_rest v w x y e = cc

-- fields, and then the end
abbrev to_end : List Step → List Symbol
to_end a = steps_said a ++ finished ∷ []

one_more : (v w : FieldValue) (a b : List Step) (r s : List Symbol) → field_said v ++ (to_end a ++ r) ≡ field_said w ++ (to_end b ++ s) → (to_end a ++ r ≡ to_end b ++ s → (to_end a ≡ to_end b) × (r ≡ s))
    → (field_said v ++ to_end a ≡ field_said w ++ to_end b) × (r ≡ s)
one_more v w a b r s e rest =
    let later = rest (field_rest v w (to_end a ++ r) (to_end b ++ s) e) in
    (ap (λ (l : List Symbol). field_said v ++ l) later.0 ∙ ap (λ (l : List Symbol). l ++ to_end b) (field_first v w (to_end a ++ r) (to_end b ++ s) e), later.1)

-- where one is a front of the other, they are one
pub ended : (a b : List Step) (r s : List Symbol) → to_end a ++ r ≡ to_end b ++ s → (to_end a ≡ to_end b) × (r ≡ s)
ended (pass n ∷ a) b r s e = ended a b r s e
ended [] (pass n ∷ b) r s e = ended [] b r s e
ended (next v ∷ a) (pass n ∷ b) r s e = ended (next v ∷ a) b r s e
ended (aside n i j ∷ a) (pass m ∷ b) r s e = ended (aside n i j ∷ a) b r s e
ended [] [] r s e = (refl, cc)
ended [] (next v ∷ b) r s e = absurd (cc)
ended [] (aside n i j ∷ b) r s e = absurd (cc)
ended (next v ∷ a) [] r s e = absurd (cc)
ended (aside n i j ∷ a) [] r s e = absurd (cc)
ended (next v ∷ a) (next w ∷ b) r s e = one_more v w a b r s e (ended a b r s)
ended (next v ∷ a) (aside n i j ∷ b) r s e = one_more v (held_field i j) a b r s e (ended a b r s)
ended (aside n i j ∷ a) (next w ∷ b) r s e = one_more (held_field i j) w a b r s e (ended a b r s)
ended (aside n i j ∷ a) (aside m g h ∷ b) r s e = one_more (held_field i j) (held_field g h) a b r s e (ended a b r s)

-- what a service says begins so
begins_so : (k : Kind) (c : ℕ) (p : ServiceProduction) (v : SaidBy p) → (rest : List Symbol) × (service_said (typed k c p v) ≡ named (first_name k p) ∷ rest)
begins_so k c read_property v = (_, refl)
begins_so k c read_property_ack v = (_, refl)
begins_so k c read_property_multiple v = (_, refl)
begins_so k c read_property_multiple_ack v = (_, refl)
begins_so k c write_property v = (_, refl)
begins_so k c write_property_multiple v = (_, refl)
begins_so k c write_property_multiple_error v = (_, refl)
begins_so k c who_is v = (_, refl)
begins_so k c i_am v = (_, refl)
begins_so k c subscribe_cov v = (_, refl)
begins_so Confirmed c cov_notification v = (_, refl)
begins_so Unconfirmed c cov_notification v = (_, refl)
begins_so ComplexAck c cov_notification v = (_, refl)
begins_so Error c cov_notification v = (_, refl)
begins_so k c service_error v = (_, refl)

opaque_begins_so : (k : Kind) → IsTrue (has_word k) → (c : ℕ) (octets : List ℕ) → (rest : List Symbol) × (service_said (opaque k c octets) ≡ named 69 ∷ rest)
opaque_begins_so Confirmed word c octets = (_, refl)
opaque_begins_so Unconfirmed word c octets = (_, refl)
opaque_begins_so ComplexAck word c octets = (_, refl)
opaque_begins_so Error word c octets = absurd (cc)

abbrev IsLedBy : Kind → ℕ × ServiceProduction → Type 0
IsLedBy k row = IsTrue (has (service_leads k) (Some (first_name k row.1)))

rows_led : (k : Kind) → IsTrue (has_word k) → AllOf (IsLedBy k) (rows true k)
rows_led Confirmed word = (refl, (refl, (refl, (refl, (refl, (refl, tt))))))
rows_led Unconfirmed word = (refl, (refl, (refl, tt)))
rows_led ComplexAck word = (refl, (refl, tt))
rows_led Error word = absurd (cc)

opaque_led : (k : Kind) → IsTrue (has_word k) → IsTrue (has (service_leads k) (Some 69))
opaque_led Confirmed word = refl
opaque_led Unconfirmed word = refl
opaque_led ComplexAck word = refl
opaque_led Error word = absurd (cc)

pub not_nothing : (a : List Symbol) → [] ≡ a ++ finished ∷ [] → ⊥
not_nothing [] e = absurd (cc)
not_nothing (k ∷ a) e = absurd (cc)

module _ (k : Kind) (word : IsTrue (has_word k)) where
  service_filled : Language service_said (SpellsAfterHead k) tt [] → ⊥
  service_filled l = not_nothing (steps_said (service_steps l.0)) l.1.is_said

  service_opens : (es : List Symbol) → Language service_said (SpellsAfterHead k) tt es → Opens (service_leads k) es
  service_opens es l =
      let s = l.1.spelled.second in
      by l.0.choice l.0.production l.0.said s.production_is (l.1.is_said ∙ ap (λ (i : Kind). service_said (record { kind = i; choice = l.0.choice; production = l.0.production; said = l.0.said })) s.kind_is)
    where
      by : (c : ℕ) (production : Option ServiceProduction) (v : Said production) → production ≡ production_of true k c → es ≡ service_said (record { kind = k; choice = c; production = production; said = v }) → Opens (service_leads k) es
      by c (Some p) v is e = let b = begins_so k c p v in record { first = named (first_name k p); rest = b.0; symbols = e ∙ b.1; among = found (IsLedBy k) c p (rows true k) (rows_led k word) (sym is) }
      by c None v is e = let b = opaque_begins_so k word c v in record { first = named 69; rest = b.0; symbols = e ∙ b.1; among = opaque_led k word }

  service_ends : EndsItself (Language service_said (SpellsAfterHead k))
  service_ends u v b c r s l m e =
      let one = ended (service_steps l.0) (service_steps m.0) r s (ap (λ (x : List Symbol). x ++ r) (sym l.1.is_said) ∙ e ∙ ap (λ (x : List Symbol). x ++ s) m.1.is_said) in
      (l.1.is_said ∙ one.0 ∙ sym m.1.is_said, refl)

  pub service_lawful : Lawful (Language service_said (SpellsAfterHead k)) (service_leads k)
  service_lawful = record { opens = service_opens; ends = service_ends; some = (_, opaque_to k word _ some_opaque) }
    where
      some_opaque : Language (opaque_said k) (SpellsOpaque k) tt (opaque_said k ((opaque_choice_inhabited k).value, []))
      some_opaque =
          let i = opaque_choice_inhabited k in
          ((i.value, []), record { octets = i.octets ++ []; spelled = record { front = i.octets; back = []; first = i.spelled; second = (refl, tt); octets = refl }; is_said = refl })

  pub row_stopped : (c : ℕ) (p : ServiceProduction) (n : ℕ) → c < 256 → production_of true k c ≡ Some p → named_choice k n ≡ Some (c, p) → (rest : List Symbol) (q : ℕ)
      → IsStop (Language (row_said k (c, p)) (SpellsRow (c, p))) (named n ∷ rest) q → IsStop (Language service_said (SpellsAfterHead k)) (named n ∷ rest) q
  row_stopped c p n fits row told rest q stop = among_stopped (row_said k (c, p)) (SpellsRow (c, p)) service_said (SpellsAfterHead k) n (row_to k word c p fits row) (row_from k word (c, p) n told) service_filled rest q stop

  pub opaque_stopped : (rest : List Symbol) (q : ℕ) → IsStop (Language (opaque_said k) (SpellsOpaque k)) (named 69 ∷ rest) q → IsStop (Language service_said (SpellsAfterHead k)) (named 69 ∷ rest) q
  opaque_stopped rest q stop = among_stopped (opaque_said k) (SpellsOpaque k) service_said (SpellsAfterHead k) 69 (opaque_to k word) (opaque_from k word) service_filled rest q stop

  pub row_made : (c : ℕ) (p : ServiceProduction) → c < 256 → production_of true k c ≡ Some p → (es : List Symbol) (n : ℕ) (old new : List ℕ) → Made (row_said k (c, p)) (SpellsRow (c, p)) es n old new → Made service_said (SpellsAfterHead k) es n old new
  row_made c p fits row es n old new m = record {
    value = typed k c p m.value;
    within = m.within;
    is_said = m.is_said;
    appended = record { more = m.appended.more; is_least = least_alike (second_alike (spelled_as k c p m.value fits row)) m.appended.is_least; new_is = m.appended.new_is };
  }

  pub opaque_made : (es : List Symbol) (n : ℕ) (old new : List ℕ) → Made (opaque_said k) (SpellsOpaque k) es n old new → Made service_said (SpellsAfterHead k) es n old new
  opaque_made es n old new m = record {
    value = opaque k m.value.0 m.value.1;
    within = m.within;
    is_said = m.is_said;
    appended = record { more = m.appended.more; is_least = least_alike (alike m.value.0 m.value.1) m.appended.is_least; new_is = m.appended.new_is };
  }
    where
      alike : (c : ℕ) (octets b : List ℕ) → SpellsOpaque k (c, octets) b ↔ SpellsAfterHead k (opaque k c octets) b
      alike c octets b = (
        λ j. record {
          front = j.front;
          back = j.back;
          first = j.first.octet;
          second = record { kind_is = refl; choice_is = refl; choice_fits = j.first.fits; production_is = sym j.first.production_is; spelled = j.second };
          octets = j.octets;
        },
        λ j. record { front = j.front; back = j.back; first = record { octet = j.first; fits = j.second.choice_fits; production_is = sym j.second.production_is }; second = j.second.spelled; octets = j.octets },
      )

  -- ---- at fields

  pub row_stopped_at : (c : ℕ) (p : ServiceProduction) (n : ℕ) → c < 256 → production_of true k c ≡ Some p → named_choice k n ≡ Some (c, p) → (octets : List ℕ) (fields : List Field) → Some n ≡ lead_in fields → (q : ℕ)
      → IsStop (Language (row_said k (c, p)) (SpellsRow (c, p))) (symbols_in octets fields) q → IsStop (Language service_said (SpellsAfterHead k)) (symbols_in octets fields) q
  row_stopped_at c p n fits row told octets [] lead q stop = absurd (cc)
  row_stopped_at c p n fits row told octets (field ∷ fields) lead q stop =
      let name_is : n ≡ field.name = cc in
      row_stopped c p field.name fits row (subst (λ (i : ℕ). named_choice k i ≡ Some (c, p)) name_is told) _ q stop

  pub opaque_stopped_at : (octets : List ℕ) (fields : List Field) → Some 69 ≡ lead_in fields → (q : ℕ)
      → IsStop (Language (opaque_said k) (SpellsOpaque k)) (symbols_in octets fields) q → IsStop (Language service_said (SpellsAfterHead k)) (symbols_in octets fields) q
  opaque_stopped_at octets [] lead q stop = absurd (cc)
  opaque_stopped_at octets (field ∷ fields) lead q stop =
      let name_is : field.name ≡ 69 = cc in
      subst (λ (i : ℕ). IsStop (Language service_said (SpellsAfterHead k)) (named i ∷ (numbered field.number ∷ containing (contents_in octets field) ∷ symbols_in octets fields)) q) (sym name_is)
      (opaque_stopped _ q (subst (λ (i : ℕ). IsStop (Language (opaque_said k) (SpellsOpaque k)) (named i ∷ (numbered field.number ∷ containing (contents_in octets field) ∷ symbols_in octets fields)) q) name_is stop))

  pub other_stopped_at : (octets : List ℕ) (fields : List Field) → (IsTrue (has (service_leads k) (lead_in fields)) → ⊥) → IsStop (Language service_said (SpellsAfterHead k)) (symbols_in octets fields) 0
  other_stopped_at octets [] other = stop_at_first (Language service_said (SpellsAfterHead k)) (service_leads k) service_lawful finished [] other
  other_stopped_at octets (field ∷ fields) other = stop_at_first (Language service_said (SpellsAfterHead k)) (service_leads k) service_lawful (named field.name) _ other
