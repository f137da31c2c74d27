-- The fields of a service tell it.
use Rattle.std.specs.Prelude.{◌≡◌, ℕ, ◌*◌, nat_eq, cond, true, Option, Some, None, List, [], ◌∷◌, ◌++◌, drop, refl}
use Rattle.std.proofs.Common.{sym, ◌∙◌, ap, subst}
use Rattle.bac_productions.specs.Productions.{Items}
use Rattle.bac_service.specs.CovNotification.{SpellsNotification}
use Rattle.bac_service.specs.IAm.{SpellsIAm}
use Rattle.bac_service.specs.ReadAccessResult.{SpellsAccessResult}
use Rattle.bac_service.specs.ReadAccessSpecification.{SpellsSpecification}
use Rattle.bac_service.specs.ReadProperty.{SpellsReadProperty}
use Rattle.bac_service.specs.ReadPropertyAck.{SpellsReadPropertyAck}
use Rattle.bac_service.specs.ServiceTable.{ServiceProduction, read_property, read_property_ack, read_property_multiple, read_property_multiple_ack, write_property, write_property_multiple, write_property_multiple_error, who_is, i_am, subscribe_cov, cov_notification, service_error, production_of}
use Rattle.bac_service.specs.Services.{Said, ServiceValue, SpellsSaid}
use Rattle.bac_service.specs.SubscribeCov.{SpellsSubscribeCov}
use Rattle.bac_service.specs.WhoIs.{SpellsWhoIs}
use Rattle.bac_service.specs.WriteAccessSpecification.{SpellsWriteSpecification}
use Rattle.bac_service.specs.WriteProperty.{SpellsWriteProperty}
use Rattle.bac_service.specs.WritePropertyMultipleError.{SpellsWriteError}
use Rattle.bac_service.specs.declared.kind.Kind.{Kind}
use Rattle.bac_service.specs.declared.kind.Kind.TheVariants as kind
use Rattle.bac_service.specs.declared.service.error_cause.ErrorCause.{ErrorCause}
use Rattle.bac_apdu.specs.Apdus.{SpellsServiceOf}
use Rattle.bac_fields.specs.ServiceFields.{said_steps}
use Rattle.bac_fields.specs.ServiceSymbols.{service_said}
use Rattle.bac_field_parts.specs.Symbols.{Symbol, named, numbered, containing, finished, steps_said}
use Rattle.bac_fields.specs.Laws.ErrorMessages.{write_error_said, write_error_message}
use Rattle.bac_fields.specs.Laws.NotificationMessages.{notification_said, confirmed_message, unconfirmed_message}
use Rattle.bac_fields.specs.Laws.ServiceMessages.{SpellsChosen, read_property_said, read_property_message, read_property_ack_said, read_property_ack_message, write_property_said, write_property_message, who_is_said, who_is_message, i_am_said, i_am_message, subscribe_cov_said, subscribe_cov_message, read_multiple_said, read_multiple_message, read_multiple_ack_said, read_multiple_ack_message, write_multiple_said, write_multiple_message}
use Rattle.bac_fields.proofs.Once.{Telling, and_then, perhaps, each, after, end_tells, by_parts}
use Rattle.bac_fields.proofs.OnceItems.{word, plain, enumerated, boolean_value, object, value_tells, specification_tells, access_tells, write_specification_tells}
use Rattle.bac_fields.proofs.OnceValues.{open_tells}
use Rattle.bac_fields.proofs.ServicePlaces.{choice_is}
use Rattle.bac_tag.specs.declared.heads.TagHead.TheVariants.{Open, Close}

-- ---- productions

read_property_tells : Telling read_property_said (λ v. SpellsChosen 12 (SpellsReadProperty v)) (Some 60 ∷ [])
read_property_tells = by_parts read_property_message (and_then (word 60) (and_then (object 80) (and_then (enumerated 81) (perhaps (plain 82) end_tells refl))))

read_property_ack_tells : Telling read_property_ack_said (λ v. SpellsChosen 12 (SpellsReadPropertyAck 32 v)) (Some 60 ∷ [])
read_property_ack_tells = by_parts read_property_ack_message (and_then (word 60) (and_then (object 80) (and_then (enumerated 81) (perhaps (plain 82) (and_then (open_tells 3) end_tells) refl))))

write_property_tells : Telling write_property_said (λ v. SpellsChosen 15 (SpellsWriteProperty 32 v)) (Some 62 ∷ [])
write_property_tells = by_parts write_property_message (and_then (word 62) (and_then (object 80) (and_then (enumerated 81) (perhaps (plain 82) (and_then (open_tells 3) (perhaps (plain 83) end_tells refl)) refl))))

who_is_tells : Telling who_is_said (λ v. SpellsChosen 8 (SpellsWhoIs v)) (Some 64 ∷ [])
who_is_tells = by_parts who_is_message (and_then (word 64) (perhaps (and_then (plain 89) (plain 90)) end_tells refl))

i_am_tells : Telling i_am_said (λ v. SpellsChosen 0 (SpellsIAm v)) (Some 65 ∷ [])
i_am_tells = by_parts i_am_message (and_then (word 65) (and_then (object 80) (and_then (plain 91) (and_then (enumerated 92) (and_then (plain 50) end_tells)))))

subscribe_cov_tells : Telling subscribe_cov_said (λ v. SpellsChosen 5 (SpellsSubscribeCov v)) (Some 66 ∷ [])
subscribe_cov_tells = by_parts subscribe_cov_message (and_then (word 66) (and_then (plain 84) (and_then (object 80) (perhaps (boolean_value 86) (perhaps (plain 87) end_tells refl) refl))))

read_multiple_tells : Telling read_multiple_said (λ v. SpellsChosen 14 (Items SpellsSpecification v)) (Some 61 ∷ [])
read_multiple_tells = by_parts read_multiple_message (and_then (word 61) (and_then (word 110) (each specification_tells (and_then (word 114) end_tells) refl)))

read_multiple_ack_tells : Telling read_multiple_ack_said (λ v. SpellsChosen 14 (Items (SpellsAccessResult 32) v)) (Some 61 ∷ [])
read_multiple_ack_tells = by_parts read_multiple_ack_message (and_then (word 61) (and_then (word 112) (each access_tells (and_then (word 114) end_tells) refl)))

write_multiple_tells : Telling write_multiple_said (λ v. SpellsChosen 16 (Items (SpellsWriteSpecification 32) v)) (Some 63 ∷ [])
write_multiple_tells = by_parts write_multiple_message (and_then (word 63) (and_then (word 110) (each write_specification_tells (and_then (word 114) end_tells) refl)))

write_error_tells : Telling write_error_said (λ v. SpellsChosen 16 (SpellsWriteError v)) (Some 30 ∷ [])
write_error_tells =
    by_parts write_error_message
    (and_then (word 30) (after (Open 0) (and_then (enumerated 93) (and_then (enumerated 94) (after (Close 0) (after (Open 1) (and_then (object 80) (and_then (enumerated 81) (perhaps (plain 82) end_tells refl)))))))))

confirmed_tells : Telling (notification_said kind.Confirmed) (λ v. SpellsChosen 1 (SpellsNotification 32 v)) (Some 67 ∷ [])
confirmed_tells =
    by_parts confirmed_message (and_then (word 67) (and_then (plain 84) (and_then (object 85) (and_then (object 80) (and_then (plain 88) (and_then (and_then (word 113) (each value_tells (word 114) refl)) end_tells))))))

unconfirmed_tells : Telling (notification_said kind.Unconfirmed) (λ v. SpellsChosen 2 (SpellsNotification 32 v)) (Some 68 ∷ [])
unconfirmed_tells =
    by_parts unconfirmed_message (and_then (word 68) (and_then (plain 84) (and_then (object 85) (and_then (object 80) (and_then (plain 88) (and_then (and_then (word 113) (each value_tells (word 114) refl)) end_tells))))))

-- ---- by production

-- the octets of the choice, and then those of a value
behind : {V : Type 0} {f : V → List Symbol} {S : V → List ℕ → Type 0} {leads : List (Option ℕ)} (n : ℕ) → Telling f (λ v. SpellsChosen n (S v)) leads → (v w : V) (b c : List ℕ) → S v b → S w c → f v ≡ f w → v ≡ w
behind n t v w b c h k e =
    t.once v w (n ∷ b) (n ∷ c) [] [] (record { front = n ∷ []; back = b; first = refl; second = h; octets = refl }) (record { front = n ∷ []; back = c; first = refl; second = k; octets = refl }) (ap (λ l. l ++ []) e)

abbrev to_end : Kind → ℕ → (p : Option ServiceProduction) → Said p → List Symbol
to_end k choice p said = steps_said (said_steps k choice p said) ++ finished ∷ []

abbrev cause : ℕ → ℕ → ErrorCause
cause class code = record { class = class; code = code }

cause_same : (k : Kind) (choice : ℕ) (v w : ErrorCause) → to_end k choice (Some service_error) v ≡ to_end k choice (Some service_error) w → v ≡ w
cause_same k choice v w e =
    let class : v.class ≡ w.class = cc in
    let code : v.code ≡ w.code = cc in
    ap (λ n. cause n v.code) class ∙ ap (λ n. cause w.class n) code

opaque_same : (k : Kind) (choice : ℕ) (v w : List ℕ) → to_end k choice None v ≡ to_end k choice None w → v ≡ w
opaque_same kind.Confirmed choice v w e = cc
opaque_same kind.Unconfirmed choice v w e = cc
opaque_same kind.ComplexAck choice v w e = cc
opaque_same kind.Error choice v w e = cc

said_same : (k : Kind) (choice : ℕ) (p : Option ServiceProduction) (v w : Said p) (b c : List ℕ) → SpellsSaid 32 p v b → SpellsSaid 32 p w c → to_end k choice p v ≡ to_end k choice p w → v ≡ w
said_same k choice (Some read_property) v w b c h j e = behind 12 read_property_tells v w b c h j e
said_same k choice (Some read_property_ack) v w b c h j e = behind 12 read_property_ack_tells v w b c h j e
said_same k choice (Some read_property_multiple) v w b c h j e = behind 14 read_multiple_tells v w b c h j e
said_same k choice (Some read_property_multiple_ack) v w b c h j e = behind 14 read_multiple_ack_tells v w b c h j e
said_same k choice (Some write_property) v w b c h j e = behind 15 write_property_tells v w b c h j e
said_same k choice (Some write_property_multiple) v w b c h j e = behind 16 write_multiple_tells v w b c h j e
said_same k choice (Some write_property_multiple_error) v w b c h j e = behind 16 write_error_tells v w b c h j e
said_same k choice (Some who_is) v w b c h j e = behind 8 who_is_tells v w b c h j e
said_same k choice (Some i_am) v w b c h j e = behind 0 i_am_tells v w b c h j e
said_same k choice (Some subscribe_cov) v w b c h j e = behind 5 subscribe_cov_tells v w b c h j e
said_same kind.Confirmed choice (Some cov_notification) v w b c h j e = behind 1 confirmed_tells v w b c h j e
said_same kind.Unconfirmed choice (Some cov_notification) v w b c h j e = behind 2 unconfirmed_tells v w b c h j e
said_same kind.ComplexAck choice (Some cov_notification) v w b c h j e = behind 2 unconfirmed_tells v w b c h j e
said_same kind.Error choice (Some cov_notification) v w b c h j e = behind 2 unconfirmed_tells v w b c h j e
said_same k choice (Some service_error) v w b c h j e = cause_same k choice v w e
said_same k choice None v w b c h j e = opaque_same k choice v w e

-- ---- what a list says at a place

abbrev first_name : List Symbol → ℕ
first_name (named n ∷ rest) = n
first_name _ = 0

abbrev first_number : List Symbol → ℕ
first_number (k ∷ numbered n ∷ rest) = n
first_number _ = 0

abbrev first_contents : List Symbol → List ℕ
first_contents (j ∷ k ∷ containing (Some octets) ∷ rest) = octets
first_contents _ = []

-- the name, the number and the contents of a field, of which so many precede
abbrev pub name_at : ℕ → List Symbol → ℕ
name_at n es = first_name (drop (3 * n) es)

abbrev pub number_at : ℕ → List Symbol → ℕ
number_at n es = first_number (drop (3 * n) es)

abbrev pub contents_at : ℕ → List Symbol → List ℕ
contents_at n es = first_contents (drop (3 * n) es)

-- ---- services

-- the number of the first field, and behind the word for octets that of the second
abbrev choice_in : List Symbol → ℕ
choice_in es = cond (nat_eq (name_at 0 es) 69) (number_at 1 es) (number_at 0 es)

choice_told : (k : Kind) (choice : ℕ) (p : Option ServiceProduction) (said : Said p) → p ≡ production_of true k choice → choice_in (to_end k choice p said) ≡ choice
choice_told k choice (Some read_property) said e = sym (choice_is k choice read_property e)
choice_told k choice (Some read_property_ack) said e = sym (choice_is k choice read_property_ack e)
choice_told k choice (Some read_property_multiple) said e = sym (choice_is k choice read_property_multiple e)
choice_told k choice (Some read_property_multiple_ack) said e = sym (choice_is k choice read_property_multiple_ack e)
choice_told k choice (Some write_property) said e = sym (choice_is k choice write_property e)
choice_told k choice (Some write_property_multiple) said e = sym (choice_is k choice write_property_multiple e)
choice_told k choice (Some write_property_multiple_error) said e = sym (choice_is k choice write_property_multiple_error e)
choice_told k choice (Some who_is) said e = sym (choice_is k choice who_is e)
choice_told k choice (Some i_am) said e = sym (choice_is k choice i_am e)
choice_told k choice (Some subscribe_cov) said e = sym (choice_is k choice subscribe_cov e)
choice_told kind.Confirmed choice (Some cov_notification) said e = sym (choice_is kind.Confirmed choice cov_notification e)
choice_told kind.Unconfirmed choice (Some cov_notification) said e = sym (choice_is kind.Unconfirmed choice cov_notification e)
choice_told kind.ComplexAck choice (Some cov_notification) said e = sym (choice_is kind.ComplexAck choice cov_notification e)
choice_told kind.Error choice (Some cov_notification) said e = sym (choice_is kind.Error choice cov_notification e)
choice_told k choice (Some service_error) said e = refl
choice_told kind.Confirmed choice None said e = refl
choice_told kind.Unconfirmed choice None said e = refl
choice_told kind.ComplexAck choice None said e = refl
choice_told kind.Error choice None said e = refl

abbrev with_said : Kind → ℕ → (p : Option ServiceProduction) → Said p → ServiceValue
with_said k choice p said = record { kind = k; choice = choice; production = p; said = said }

across : (k : Kind) (choice : ℕ) (p q : Option ServiceProduction) (r : p ≡ q) (v : Said p) (w : Said q) (b c : List ℕ) → SpellsSaid 32 p v b → SpellsSaid 32 q w c → to_end k choice p v ≡ to_end k choice q w → with_said k choice p v ≡ with_said k choice q w
across k choice p q r v w b c h =
    subst (λ (q : Option ServiceProduction). (w : Said q) → SpellsSaid 32 q w c → to_end k choice p v ≡ to_end k choice q w → with_said k choice p v ≡ with_said k choice q w) r
    (λ w j e. ap (with_said k choice p) (said_same k choice p v w b c h j e)) w

pub service_same : (k : Kind) (s t : ServiceValue) (b c : List ℕ) → SpellsServiceOf k s b → SpellsServiceOf k t c → service_said s ≡ service_said t → s ≡ t
service_same k s t b c h j e =
    let row : (x : ServiceValue) (c : List ℕ) → SpellsServiceOf k x c → x.production ≡ production_of true x.kind x.choice = λ x c g. g.production_is ∙ ap (λ i. production_of true i x.choice) (sym g.kind_is) in
    let kinds = h.kind_is ∙ sym j.kind_is in
    let choices = sym (choice_told s.kind s.choice s.production s.said (row s b h)) ∙ ap choice_in e ∙ choice_told t.kind t.choice t.production t.said (row t c j) in
    let productions = row s b h ∙ ap (λ i. production_of true i s.choice) kinds ∙ ap (λ n. production_of true t.kind n) choices ∙ sym (row t c j) in
    ap (λ i. with_said i s.choice s.production s.said) kinds ∙ ap (λ n. with_said t.kind n s.production s.said) choices
    ∙ across t.kind t.choice s.production t.production productions s.said t.said b c h.spelled j.spelled
    (ap (λ n. to_end t.kind n s.production s.said) (sym choices) ∙ ap (λ i. to_end i s.choice s.production s.said) (sym kinds) ∙ e)
