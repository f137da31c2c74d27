-- Which error a service choice tells.
use Rattle.std.specs.Prelude.{◌≡◌, ◌↔◌, ℕ, ◌<◌, true, Option, None, Some, List, [], ◌∷◌, ◌++◌, refl, slice_get}
use Rattle.std.proofs.Common.{sym, ◌∙◌, ap, subst, lit<}
use Rattle.bac_tag.specs.Spelling.{Joins, EndsItself}
use Rattle.bac_productions.specs.Laws.Least.{least_alike}
use Rattle.bac_service.specs.ServiceTable.{ServiceProduction, read_property, read_property_ack, read_property_multiple, read_property_multiple_ack, write_property, write_property_multiple, write_property_multiple_error, who_is, i_am, subscribe_cov, cov_notification, service_error, rows, production_of}
use Rattle.bac_service.specs.Services.{SaidBy, Said, ServiceValue, typed, opaque, SpellsSaid, SpellsService}
use Rattle.bac_service.specs.declared.kind.Kind.TheVariants.{Error}
use Rattle.bac_fields.specs.ServiceFields.{service_steps}
use Rattle.bac_fields.specs.ServiceSymbols.{service_said, SpellsAfterHead}
use Rattle.bac_field_parts.specs.Symbols.{Symbol, named, numbered, containing, finished, contents_in, symbols_in, Opens, Lawful, IsStop, Made, Language, the_octet}
use Rattle.bac_fields.specs.Laws.Among.{numbered_stopped}
use Rattle.bac_fields.specs.Laws.ErrorMessages.{service_error_said, SpellsServiceError}
use Rattle.bac_field_parts.specs.Laws.Opaques.{opaque_said, SpellsOpaque}
use Rattle.bac_fields.specs.Laws.Services.{AllOf, found, ended, not_first}
use Rattle.bac_field_parts.specs.Laws.Languages.{stop_at_first}
use Rattle.bac_field_parts.specs.declared.field.Field.{Field}

-- the choices of errors with a production
abbrev IsErrorRow : ℕ × ServiceProduction → Type 0
IsErrorRow (c, service_error) = Unit {0}
IsErrorRow (c, write_property_multiple_error) = c ≡ 16
IsErrorRow _ = ⊥

error_rows : AllOf IsErrorRow (rows true Error)
error_rows = (tt, (tt, (tt, (tt, (tt, (refl, tt))))))

error_row : (c : ℕ) (p : ServiceProduction) → production_of true Error c ≡ Some p → IsErrorRow (c, p)
error_row c p e = found IsErrorRow c p (rows true Error) error_rows e

number_of_typed : (c m : ℕ) (p : ServiceProduction) (v : SaidBy p) (rest : List Symbol) → IsErrorRow (c, p) → named 30 ∷ numbered m ∷ rest ≡ service_said (typed Error c p v) → m ≡ c
number_of_typed c m service_error v rest h e = cc
number_of_typed c m write_property_multiple_error v rest h e = let number : m ≡ 16 = cc in number ∙ sym h
number_of_typed c m read_property v rest h e = absurd h
number_of_typed c m read_property_ack v rest h e = absurd h
number_of_typed c m read_property_multiple v rest h e = absurd h
number_of_typed c m read_property_multiple_ack v rest h e = absurd h
number_of_typed c m write_property v rest h e = absurd h
number_of_typed c m write_property_multiple v rest h e = absurd h
number_of_typed c m who_is v rest h e = absurd h
number_of_typed c m i_am v rest h e = absurd h
number_of_typed c m subscribe_cov v rest h e = absurd h
number_of_typed c m cov_notification v rest h e = absurd h

number_of_opaque : (c m : ℕ) (octets : List ℕ) (rest : List Symbol) → named 30 ∷ numbered m ∷ rest ≡ service_said (opaque Error c octets) → m ≡ c
number_of_opaque c m octets rest e = cc

-- an error of this choice and this production, or of none
abbrev pub error_said : (c : ℕ) (production : Option ServiceProduction) → Said production → List Symbol
error_said c production v = service_said (record { kind = Error; choice = c; production = production; said = v })

abbrev pub SpellsError : (c : ℕ) (production : Option ServiceProduction) → Said production → List ℕ → Type 0
SpellsError c production v = Joins (the_octet c tt) (SpellsSaid 32 production v)

pub error_from : (m : ℕ) (production : Option ServiceProduction) → production_of true Error m ≡ production → (rest : List Symbol) → Language service_said (SpellsAfterHead Error) tt (named 30 ∷ numbered m ∷ rest)
    → (m < 256) × Language (error_said m production) (SpellsError m production) tt (named 30 ∷ numbered m ∷ rest)
error_from m production row rest l =
    let s = l.1.spelled.second in
    by l.0.choice l.0.production l.0.said s.choice_fits s.production_is l.1.octets
    (record { front = l.1.spelled.front; back = l.1.spelled.back; first = l.1.spelled.first; second = s.spelled; octets = l.1.spelled.octets })
    (l.1.is_said ∙ ap (λ i. service_said (record { kind = i; choice = l.0.choice; production = l.0.production; said = l.0.said })) s.kind_is)
  where
    number_is : (c : ℕ) (q : Option ServiceProduction) (v : Said q) → q ≡ production_of true Error c → named 30 ∷ numbered m ∷ rest ≡ error_said c q v → m ≡ c
    number_is c (Some p) v is e = number_of_typed c m p v rest (error_row c p (sym is)) e
    number_is c None v is e = number_of_opaque c m v rest e

    by : (c : ℕ) (q : Option ServiceProduction) (v : Said q) → c < 256 → q ≡ production_of true Error c → (b : List ℕ) → SpellsError c q v b → named 30 ∷ numbered m ∷ rest ≡ error_said c q v
        → (m < 256) × Language (error_said m production) (SpellsError m production) tt (named 30 ∷ numbered m ∷ rest)
    by c q v fits is b j e =
        let same : c ≡ m = sym (number_is c q v is e) in
        let here : Language (error_said c q) (SpellsError c q) tt (named 30 ∷ numbered m ∷ rest) = (v, record { octets = b; spelled = j; is_said = e }) in
        let at_m : Language (error_said m q) (SpellsError m q) tt (named 30 ∷ numbered m ∷ rest) = subst (λ (i : ℕ). Language (error_said i q) (SpellsError i q) tt (named 30 ∷ numbered m ∷ rest)) same here in
        let produced : q ≡ production = is ∙ ap (production_of true Error) same ∙ row in
        (subst (λ (i : ℕ). i < 256) same fits, subst (λ (r : Option ServiceProduction). Language (error_said m r) (SpellsError m r) tt (named 30 ∷ numbered m ∷ rest)) produced at_m)

-- ---- all errors

begins_typed : (c : ℕ) (p : ServiceProduction) (v : SaidBy p) → IsErrorRow (c, p) → (m : ℕ) × ((rest : List Symbol) × (service_said (typed Error c p v) ≡ named 30 ∷ numbered m ∷ rest))
begins_typed c service_error v h = (c, (_, refl))
begins_typed c write_property_multiple_error v h = (16, (_, refl))
begins_typed c read_property v h = absurd h
begins_typed c read_property_ack v h = absurd h
begins_typed c read_property_multiple v h = absurd h
begins_typed c read_property_multiple_ack v h = absurd h
begins_typed c write_property v h = absurd h
begins_typed c write_property_multiple v h = absurd h
begins_typed c who_is v h = absurd h
begins_typed c i_am v h = absurd h
begins_typed c subscribe_cov v h = absurd h
begins_typed c cov_notification v h = absurd h

error_begins : (es : List Symbol) → Language service_said (SpellsAfterHead Error) tt es → (m : ℕ) × ((rest : List Symbol) × (es ≡ named 30 ∷ numbered m ∷ rest))
error_begins es l =
    let s = l.1.spelled.second in
    let (m, (r, e)) = by l.0.choice l.0.production l.0.said s.production_is in
    (m, (r, l.1.is_said ∙ ap (λ i. service_said (record { kind = i; choice = l.0.choice; production = l.0.production; said = l.0.said })) s.kind_is ∙ e))
  where
    by : (c : ℕ) (q : Option ServiceProduction) (v : Said q) → q ≡ production_of true Error c → (m : ℕ) × ((rest : List Symbol) × (error_said c q v ≡ named 30 ∷ numbered m ∷ rest))
    by c (Some p) v is = begins_typed c p v (error_row c p (sym is))
    by c None v is = (c, (_, refl))

error_filled : Language service_said (SpellsAfterHead Error) tt [] → ⊥
error_filled l = let (m, (r, e)) = error_begins [] l in absurd (cc)

error_longer : (k : Symbol) → Language service_said (SpellsAfterHead Error) tt (k ∷ []) → ⊥
error_longer k l = let (m, (r, e)) = error_begins (k ∷ []) l in absurd (cc)

error_opens : (es : List Symbol) → Language service_said (SpellsAfterHead Error) tt es → Opens (Some 30 ∷ []) es
error_opens es l = let (m, (r, e)) = error_begins es l in record { first = named 30; rest = numbered m ∷ r; symbols = e; among = refl }

error_ends : EndsItself (Language service_said (SpellsAfterHead Error))
error_ends u v b c r s l m e =
    let one = ended (service_steps l.0) (service_steps m.0) r s (ap (λ (x : List Symbol). x ++ r) (sym l.1.is_said) ∙ e ∙ ap (λ (x : List Symbol). x ++ s) m.1.is_said) in
    (l.1.is_said ∙ one.0 ∙ sym m.1.is_said, refl)

pub error_to : (m : ℕ) (production : Option ServiceProduction) → m < 256 → production_of true Error m ≡ production → (es : List Symbol) → Language (error_said m production) (SpellsError m production) tt es → Language service_said (SpellsAfterHead Error) tt es
error_to m production fits row es l =
    let j = l.1.spelled in
    let x : ServiceValue = record { kind = Error; choice = m; production = production; said = l.0 } in
    let spelled : SpellsService true 32 Error m x j.back = record { kind_is = refl; choice_is = refl; choice_fits = fits; production_is = sym row; spelled = j.second } in
    (x, record { octets = l.1.octets; spelled = record { front = j.front; back = j.back; first = j.first; second = spelled; octets = j.octets }; is_said = l.1.is_said })

opaque_error : Language (error_said 255 None) (SpellsError 255 None) tt (error_said 255 None [])
opaque_error = ([], record { octets = 255 ∷ []; spelled = record { front = 255 ∷ []; back = []; first = refl; second = (refl, tt); octets = refl }; is_said = refl })

pub error_lawful : Lawful (Language service_said (SpellsAfterHead Error)) (Some 30 ∷ [])
error_lawful = record { opens = error_opens; ends = error_ends; some = (_, error_to 255 None (lit< tt) refl _ opaque_error) }

-- what stops the errors of one choice stops them all
pub error_stopped : (m : ℕ) (production : Option ServiceProduction) → m < 256 → production_of true Error m ≡ production → (rest : List Symbol) × Language (error_said m production) (SpellsError m production) tt (named 30 ∷ rest)
    → (rest : List Symbol) (p : ℕ) → IsStop (Language (error_said m production) (SpellsError m production)) (named 30 ∷ numbered m ∷ rest) p → IsStop (Language service_said (SpellsAfterHead Error)) (named 30 ∷ numbered m ∷ rest) p
error_stopped m production fits row some rest p stop =
    numbered_stopped (error_said m production) (SpellsError m production) service_said (SpellsAfterHead Error) 30 m (error_to m production fits row) (λ r l. (error_from m production row r l).1) some error_filled error_longer rest p stop

-- ---- errors with a class and a code

cause_to : (es : List Symbol) → Language service_error_said SpellsServiceError tt es → Language service_said (SpellsAfterHead Error) tt es
cause_to es l =
    let j = l.1.spelled in
    error_to l.0.0 (Some service_error) j.first.fits j.first.production_is es (l.0.1, record { octets = l.1.octets; spelled = record { front = j.front; back = j.back; first = j.first.octet; second = j.second; octets = j.octets }; is_said = l.1.is_said })

pub cause_stopped : (m : ℕ) → production_of true Error m ≡ Some service_error → (rest : List Symbol) × Language service_error_said SpellsServiceError tt (named 30 ∷ rest) → (rest : List Symbol) (p : ℕ)
    → IsStop (Language service_error_said SpellsServiceError) (named 30 ∷ numbered m ∷ rest) p → IsStop (Language service_said (SpellsAfterHead Error)) (named 30 ∷ numbered m ∷ rest) p
cause_stopped m row some rest p stop = numbered_stopped service_error_said SpellsServiceError service_said (SpellsAfterHead Error) 30 m cause_to from some error_filled error_longer rest p stop
  where
    from : (r : List Symbol) → Language service_said (SpellsAfterHead Error) tt (named 30 ∷ numbered m ∷ r) → Language service_error_said SpellsServiceError tt (named 30 ∷ numbered m ∷ r)
    from r l =
        let (fits, here) = error_from m (Some service_error) row r l in
        let j = here.1.spelled in
        ((m, here.0), record { octets = here.1.octets; spelled = record { front = j.front; back = j.back; first = record { octet = j.first; fits = fits; production_is = row }; second = j.second; octets = j.octets }; is_said = here.1.is_said })

-- ---- errors without a production

opaque_to : (es : List Symbol) → Language (opaque_said Error) (SpellsOpaque Error) tt es → Language service_said (SpellsAfterHead Error) tt es
opaque_to es l =
    let j = l.1.spelled in
    error_to l.0.0 None j.first.fits j.first.production_is es (l.0.1, record { octets = l.1.octets; spelled = record { front = j.front; back = j.back; first = j.first.octet; second = j.second; octets = j.octets }; is_said = l.1.is_said })

pub opaque_error_stopped : (m : ℕ) → production_of true Error m ≡ None → (rest : List Symbol) (p : ℕ)
    → IsStop (Language (opaque_said Error) (SpellsOpaque Error)) (named 30 ∷ numbered m ∷ rest) p → IsStop (Language service_said (SpellsAfterHead Error)) (named 30 ∷ numbered m ∷ rest) p
opaque_error_stopped m row rest p stop = numbered_stopped (opaque_said Error) (SpellsOpaque Error) service_said (SpellsAfterHead Error) 30 m opaque_to from (_, some) error_filled error_longer rest p stop
  where
    some : Language (opaque_said Error) (SpellsOpaque Error) tt (opaque_said Error (255, []))
    some = ((255, []), record { octets = 255 ∷ []; spelled = record { front = 255 ∷ []; back = []; first = record { octet = refl; fits = lit< tt; production_is = refl }; second = (refl, tt); octets = refl }; is_said = refl })

    from : (r : List Symbol) → Language service_said (SpellsAfterHead Error) tt (named 30 ∷ numbered m ∷ r) → Language (opaque_said Error) (SpellsOpaque Error) tt (named 30 ∷ numbered m ∷ r)
    from r l =
        let (fits, here) = error_from m None row r l in
        let j = here.1.spelled in
        ((m, here.0), record { octets = here.1.octets; spelled = record { front = j.front; back = j.back; first = record { octet = j.first; fits = fits; production_is = row }; second = j.second; octets = j.octets }; is_said = here.1.is_said })

-- neither of the two is left
pub nothing_left : (m : ℕ) → (m ≡ 16 → ⊥) → (production_of true Error m ≡ Some service_error → ⊥) → production_of true Error m ≡ None
nothing_left m other cause = by (production_of true Error m) refl
  where
    of_row : (p : ServiceProduction) → IsErrorRow (m, p) → production_of true Error m ≡ Some p → production_of true Error m ≡ None
    of_row service_error h e = absurd (cause e)
    of_row write_property_multiple_error h e = absurd (other h)
    of_row read_property h e = absurd h
    of_row read_property_ack h e = absurd h
    of_row read_property_multiple h e = absurd h
    of_row read_property_multiple_ack h e = absurd h
    of_row write_property h e = absurd h
    of_row write_property_multiple h e = absurd h
    of_row who_is h e = absurd h
    of_row i_am h e = absurd h
    of_row subscribe_cov h e = absurd h
    of_row cov_notification h e = absurd h

    by : (q : Option ServiceProduction) → production_of true Error m ≡ q → production_of true Error m ≡ None
    by None e = e
    by (Some p) e = of_row p (error_row m p e) e

-- ---- at fields

abbrev Errors : Unit {0} → List Symbol → Type 0
Errors = Language service_said (SpellsAfterHead Error)

pub error_none : (octets : List ℕ) (fields : List Field) → None ≡ slice_get fields 0 → IsStop Errors (symbols_in octets fields) 0
error_none octets [] e = stop_at_first Errors (Some 30 ∷ []) error_lawful finished [] (λ h. absurd (cc))
error_none octets (field ∷ fields) e = absurd (cc)

pub error_other_name : (octets : List ℕ) (fields : List Field) (field : Field) → Some field ≡ slice_get fields 0 → (field.name ≡ 30 → ⊥) → IsStop Errors (symbols_in octets fields) 0
error_other_name octets [] field e other = absurd (cc)
error_other_name octets (first ∷ fields) field e other =
    let same : first ≡ field = cc in
    stop_at_first Errors (Some 30 ∷ []) error_lawful (named first.name) _ (not_first 30 first.name [] (λ is. other (ap (λ (f : Field). f.name) (sym same) ∙ is)) (λ h. absurd (cc)))

-- what holds of lists that begin with a choice holds of such fields
pub at_choice : (M : Unit {0} → List Symbol → Type 0) (octets : List ℕ) (fields : List Field) (field : Field) → Some field ≡ slice_get fields 0 → field.name ≡ 30
    → ((rest : List Symbol) (p : ℕ) → IsStop M (named 30 ∷ numbered field.number ∷ rest) p → IsStop Errors (named 30 ∷ numbered field.number ∷ rest) p) → (p : ℕ) → IsStop M (symbols_in octets fields) p → IsStop Errors (symbols_in octets fields) p
at_choice M octets [] field e is stops p stop = absurd (cc)
at_choice M octets (first ∷ fields) field e is stops p stop =
    let same : first ≡ field = cc in
    let there : symbols_in octets (first ∷ fields) ≡ named 30 ∷ numbered field.number ∷ (containing (contents_in octets field) ∷ symbols_in octets fields) =
    ap (λ (f : Field). symbols_in octets (f ∷ fields)) same ∙ ap (λ (n : ℕ). named n ∷ numbered field.number ∷ (containing (contents_in octets field) ∷ symbols_in octets fields)) is in
    subst (λ (es : List Symbol). IsStop Errors es p) (sym there) (stops _ p (subst (λ (es : List Symbol). IsStop M es p) there stop))

-- ---- what is made

error_alike : (c : ℕ) (q : Option ServiceProduction) (v : Said q) → c < 256 → production_of true Error c ≡ q → (b : List ℕ) → SpellsError c q v b ↔ SpellsAfterHead Error (record { kind = Error; choice = c; production = q; said = v }) b
error_alike c q v fits row b = (
  λ j. record {
    front = j.front;
    back = j.back;
    first = j.first;
    second = record { kind_is = refl; choice_is = refl; choice_fits = fits; production_is = sym row; spelled = j.second };
    octets = j.octets;
  },
  λ j. record { front = j.front; back = j.back; first = j.first; second = j.second.spelled; octets = j.octets },
)

pub write_error_made : (es : List Symbol) (n : ℕ) (old new : List ℕ) → Made (error_said 16 (Some write_property_multiple_error)) (SpellsError 16 (Some write_property_multiple_error)) es n old new → Made service_said (SpellsAfterHead Error) es n old new
write_error_made es n old new m = record {
  value = typed Error 16 write_property_multiple_error m.value;
  within = m.within;
  is_said = m.is_said;
  appended = record { more = m.appended.more; is_least = least_alike (error_alike 16 (Some write_property_multiple_error) m.value (lit< tt) refl) m.appended.is_least; new_is = m.appended.new_is };
}

pub cause_made : (es : List Symbol) (n : ℕ) (old new : List ℕ) → Made service_error_said SpellsServiceError es n old new → Made service_said (SpellsAfterHead Error) es n old new
cause_made es n old new m = record {
  value = typed Error m.value.0 service_error m.value.1;
  within = m.within;
  is_said = m.is_said;
  appended = record { more = m.appended.more; is_least = least_alike alike m.appended.is_least; new_is = m.appended.new_is };
}
  where
    alike : (b : List ℕ) → SpellsServiceError m.value b ↔ SpellsAfterHead Error (typed Error m.value.0 service_error m.value.1) b
    alike b = (
      λ j. record {
        front = j.front;
        back = j.back;
        first = j.first.octet;
        second = record { kind_is = refl; choice_is = refl; choice_fits = j.first.fits; production_is = sym j.first.production_is; spelled = j.second };
        octets = j.octets;
      },
      λ j. record { front = j.front; back = j.back; first = record { octet = j.first; fits = j.second.choice_fits; production_is = sym j.second.production_is }; second = j.second.spelled; octets = j.octets },
    )

pub opaque_error_made : (es : List Symbol) (n : ℕ) (old new : List ℕ) → Made (opaque_said Error) (SpellsOpaque Error) es n old new → Made service_said (SpellsAfterHead Error) es n old new
opaque_error_made es n old new m = record {
  value = opaque Error m.value.0 m.value.1;
  within = m.within;
  is_said = m.is_said;
  appended = record { more = m.appended.more; is_least = least_alike alike m.appended.is_least; new_is = m.appended.new_is };
}
  where
    alike : (b : List ℕ) → SpellsOpaque Error m.value b ↔ SpellsAfterHead Error (opaque Error m.value.0 m.value.1) b
    alike b = (
      λ j. record {
        front = j.front;
        back = j.back;
        first = j.first.octet;
        second = record { kind_is = refl; choice_is = refl; choice_fits = j.first.fits; production_is = sym j.first.production_is; spelled = j.second };
        octets = j.octets;
      },
      λ j. record { front = j.front; back = j.back; first = record { octet = j.first; fits = j.second.choice_fits; production_is = sym j.second.production_is }; second = j.second.spelled; octets = j.octets },
    )
