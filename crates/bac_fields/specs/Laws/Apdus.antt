-- Which APDU a name tells.
use Rattle.std.specs.Prelude.{◌≡◌, ℕ, IsTrue, Some, List, [], ◌∷◌, ◌++◌, refl}
use Rattle.std.proofs.Common.{sym, ◌∙◌, ap, subst, lit<}
use Rattle.bac_tag.specs.Spelling.{EndsItself}
use Rattle.bac_apdu.specs.declared.segment.SegHead.TheVariants.{Request, Ack}
use Rattle.bac_apdu.specs.Apdus.{ApduValue, SpellsApdu}
use Rattle.bac_apdu.specs.Apdus as apdus
use Rattle.bac_field_parts.specs.declared.field.Field.{Field}
use Rattle.bac_fields.specs.ApduFields.{apdu_steps}
use Rattle.bac_fields.specs.ApduSymbols.{apdu_said, ApduType, confirmed_request, unconfirmed_request, simple_ack, complex_ack, segment_ack, error, reject, abort, request_segment, ack_segment, SaidBy, apdu_of, said_by, SpellsBy, first_name, type_named, apdu_leads}
use Rattle.bac_field_parts.specs.Symbols.{Symbol, named, finished, steps_said, symbols_in, lead_in, has, Opens, Lawful, IsStop, Made, Language}
use Rattle.bac_fields.specs.Laws.Among.{among_stopped}
use Rattle.bac_field_parts.specs.Laws.Languages.{stop_at_first}
use Rattle.bac_fields.specs.Laws.Services.{ended, not_nothing}

-- an APDU is one of its type
pub type_of : (apdu : ApduValue) → (type : ApduType) × (v : SaidBy type) × (apdu_of type v ≡ apdu)
type_of (apdus.confirmed_request head service) = (confirmed_request, (head, service), refl)
type_of (apdus.unconfirmed_request service) = (unconfirmed_request, service, refl)
type_of (apdus.simple_ack invoke choice) = (simple_ack, (invoke, choice), refl)
type_of (apdus.complex_ack invoke service) = (complex_ack, (invoke, service), refl)
type_of (apdus.segment_ack invoke nak srv seq size) = (segment_ack, (invoke, (nak, (srv, (seq, size)))), refl)
type_of (apdus.error invoke service) = (error, (invoke, service), refl)
type_of (apdus.reject invoke reason) = (reject, (invoke, reason), refl)
type_of (apdus.abort invoke srv reason) = (abort, (invoke, (srv, reason)), refl)
type_of (apdus.segment (Request head) seq size more choice piece) = (request_segment, (head, (seq, (size, (more, (choice, piece))))), refl)
type_of (apdus.segment (Ack invoke) seq size more choice piece) = (ack_segment, (invoke, (seq, (size, (more, (choice, piece))))), refl)

-- it begins with the name of its type
pub begins_so : (type : ApduType) (v : SaidBy type) → (rest : List Symbol) × (said_by type v ≡ named (first_name type) ∷ rest)
begins_so confirmed_request v = (_, refl)
begins_so unconfirmed_request v = (_, refl)
begins_so simple_ack v = (_, refl)
begins_so complex_ack v = (_, refl)
begins_so segment_ack v = (_, refl)
begins_so error v = (_, refl)
begins_so reject v = (_, refl)
begins_so abort v = (_, refl)
begins_so request_segment v = (_, refl)
begins_so ack_segment v = (_, refl)

pub name_tells : (type : ApduType) → type_named (first_name type) ≡ Some type
name_tells confirmed_request = refl
name_tells unconfirmed_request = refl
name_tells simple_ack = refl
name_tells complex_ack = refl
name_tells segment_ack = refl
name_tells error = refl
name_tells reject = refl
name_tells abort = refl
name_tells request_segment = refl
name_tells ack_segment = refl

name_leads : (type : ApduType) → IsTrue (has apdu_leads (Some (first_name type)))
name_leads confirmed_request = refl
name_leads unconfirmed_request = refl
name_leads simple_ack = refl
name_leads complex_ack = refl
name_leads segment_ack = refl
name_leads error = refl
name_leads reject = refl
name_leads abort = refl
name_leads request_segment = refl
name_leads ack_segment = refl

pub some_same : {A : Type 0} (a b : A) → Some a ≡ Some b → a ≡ b
some_same a b e = cc

first_same : (m n : ℕ) (r s : List Symbol) → named m ∷ r ≡ named n ∷ s → m ≡ n
first_same m n r s e = cc

type_to : (type : ApduType) (es : List Symbol) → Language (said_by type) (SpellsBy type) tt es → Language apdu_said SpellsApdu tt es
type_to type es l = (apdu_of type l.0, record { octets = l.1.octets; spelled = l.1.spelled; is_said = l.1.is_said })

-- of the type that an APDU has
of_type : (apdu : ApduValue) (es : List Symbol) (b : List ℕ) → SpellsApdu apdu b → es ≡ apdu_said apdu → (type : ApduType) × Language (said_by type) (SpellsBy type) tt es
of_type apdu es b spelled is =
    let (type, v, e) = type_of apdu in
    (type, (v, record { octets = b; spelled = subst (λ (a : ApduValue). SpellsApdu a b) (sym e) spelled; is_said = is ∙ ap apdu_said (sym e) }))

type_from : (type : ApduType) (n : ℕ) → type_named n ≡ Some type → (rest : List Symbol) → Language apdu_said SpellsApdu tt (named n ∷ rest) → Language (said_by type) (SpellsBy type) tt (named n ∷ rest)
type_from type n told rest l =
    let (other, m) = of_type l.0 (named n ∷ rest) l.1.octets l.1.spelled l.1.is_said in
    let begins = begins_so other m.0 in
    let name_is : n ≡ first_name other = first_same n (first_name other) rest begins.0 (m.1.is_said ∙ begins.1) in
    let same : other ≡ type = some_same other type (sym (name_tells other) ∙ ap type_named (sym name_is) ∙ told) in
    subst (λ (t : ApduType). Language (said_by t) (SpellsBy t) tt (named n ∷ rest)) same m

-- ---- all of them

apdu_filled : Language apdu_said SpellsApdu tt [] → ⊥
apdu_filled l = not_nothing (steps_said (apdu_steps l.0)) l.1.is_said

apdu_opens : (es : List Symbol) → Language apdu_said SpellsApdu tt es → Opens apdu_leads es
apdu_opens es l =
    let (type, m) = of_type l.0 es l.1.octets l.1.spelled l.1.is_said in
    let begins = begins_so type m.0 in
    record { first = named (first_name type); rest = begins.0; symbols = m.1.is_said ∙ begins.1; among = name_leads type }

apdu_ends : EndsItself (Language apdu_said SpellsApdu)
apdu_ends u v b c r s l m e =
    let one = ended (apdu_steps l.0) (apdu_steps m.0) r s (ap (λ (x : List Symbol). x ++ r) (sym l.1.is_said) ∙ e ∙ ap (λ (x : List Symbol). x ++ s) m.1.is_said) in
    (l.1.is_said ∙ one.0 ∙ sym m.1.is_said, refl)

pub apdu_lawful : Lawful (Language apdu_said SpellsApdu) apdu_leads
apdu_lawful = record { opens = apdu_opens; ends = apdu_ends; some = (_, some_reject) }
  where
    some_reject : Language apdu_said SpellsApdu tt (apdu_said (apdus.reject 0 0))
    some_reject = (apdus.reject 0 0, record { octets = 96 ∷ 0 ∷ 0 ∷ []; spelled = ((refl, tt, tt, tt, tt), ((refl, lit< tt), ((refl, lit< tt), refl))); is_said = refl })

module _ (type : ApduType) where
  pub type_made : (es : List Symbol) (n : ℕ) (old new : List ℕ) → Made (said_by type) (SpellsBy type) es n old new → Made apdu_said SpellsApdu es n old new
  type_made es n old new m = record { value = apdu_of type m.value; within = m.within; is_said = m.is_said; appended = m.appended }

  pub type_stopped_at : (n : ℕ) → type_named n ≡ Some type → (octets : List ℕ) (fields : List Field) → Some n ≡ lead_in fields → (q : ℕ)
      → IsStop (Language (said_by type) (SpellsBy type)) (symbols_in octets fields) q → IsStop (Language apdu_said SpellsApdu) (symbols_in octets fields) q
  type_stopped_at n told octets [] lead q stop = absurd (cc)
  type_stopped_at n told octets (field ∷ fields) lead q stop =
      let name_is : n ≡ field.name = some_same n field.name lead in
      among_stopped (said_by type) (SpellsBy type) apdu_said SpellsApdu field.name (type_to type) (type_from type field.name (subst (λ (i : ℕ). type_named i ≡ Some type) name_is told)) apdu_filled _ q stop

pub no_apdu_stopped_at : (octets : List ℕ) (fields : List Field) → (IsTrue (has apdu_leads (lead_in fields)) → ⊥) → IsStop (Language apdu_said SpellsApdu) (symbols_in octets fields) 0
no_apdu_stopped_at octets [] other = stop_at_first (Language apdu_said SpellsApdu) apdu_leads apdu_lawful finished [] other
no_apdu_stopped_at octets (field ∷ fields) other = stop_at_first (Language apdu_said SpellsApdu) apdu_leads apdu_lawful (named field.name) _ other
