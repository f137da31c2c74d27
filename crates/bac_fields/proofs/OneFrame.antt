-- Frames with the same fields are the same.
use Rattle.std.specs.Prelude.{Option, None, Some, Bool, true, false, nat_eq, cond, slice_index, min}
use Rattle.std.proofs.Common.{◌≡◌, ℕ, ◌≤◌, ◌<◌, List, [], ◌∷◌, ◌++◌, drop, get_or, refl, sym, ap, subst, ◌∙◌, arith, lit≤, lit<}
use Rattle.std.proofs.lemmas.Bool.{ne_eqb}
use Rattle.bac_tag.proofs.HeadOctetLemmas.{headed_rest}
use Rattle.bac_tag.specs.HeadOctets.{least_head}
use Rattle.bac_value.specs.Identifier.{Identifier, IsIdentifier}
use Rattle.bac_service.specs.declared.kind.Kind.{Kind}
use Rattle.bac_service.specs.declared.kind.Kind.TheVariants as kind
use Rattle.bac_service.specs.declared.service.write_property_multiple_error.WritePropertyMultipleError.{WritePropertyMultipleError}
use Rattle.bac_service.specs.ServiceTable.{ServiceProduction, write_property_multiple_error, production_of}
use Rattle.bac_service.specs.Services.{Said, ServiceValue, SpellsBy, SpellsSaid, SpellsService}
use Rattle.bac_apdu.specs.declared.confirmed_request.RequestHead.{RequestHead}
use Rattle.bac_apdu.specs.declared.segment.SegHead.{SegHead}
use Rattle.bac_apdu.specs.declared.segment.SegHead.TheVariants.{Request, Ack}
use Rattle.bac_apdu.specs.Apdus.{ApduValue, confirmed_request, unconfirmed_request, simple_ack, complex_ack, segment_ack, error, reject, abort, segment, head_of, SpellsServiceOf, SpellsBody as SpellsApduBody}
use Rattle.bac_npdu_parts.specs.Messages.{MessageValue, opaque, octets_of, SpellsMessage}
use Rattle.bac_npdu_parts.specs.Addresses.{SourceValue, DestinationValue}
use Rattle.bac_npdu_parts.specs.Frames.{FrameValue, BodyValue, apdu, message, SpellsBody, SpellsFrame}
use Rattle.bac_npdu_parts.proofs.OnceLemmas.{message_one}
use Rattle.bac_field_parts.specs.declared.names.Name.TheVariants as name
use Rattle.bac_field_parts.specs.Names.{number_of}
use Rattle.bac_field_parts.specs.Fields.{FieldValue, Step, pass, fields_of, word, optional, held_field, address_field}
use Rattle.bac_field_parts.specs.PrimitiveFields.{truth, object_number, number_under}
use Rattle.bac_fields.specs.WritePropertyMultipleFields.{write_error_steps}
use Rattle.bac_fields.specs.ServiceFields.{said_steps, service_steps}
use Rattle.bac_fields.specs.ApduFields.{part_steps, apdu_steps}
use Rattle.bac_fields.specs.MessageFields.{message_steps}
use Rattle.bac_fields.specs.FrameFields.{addresses_steps, body_steps, fields}
use Rattle.bac_fields.specs.Line.{object_of}
use Rattle.bac_fields.proofs.LineLemmas.{object_is}
use Rattle.bac_fields.proofs.PlaceLemmas.{joined}
use Rattle.bac_fields.proofs.ServicePlaces.{Led, plain_led, choice_is, opaque_tells}
use Rattle.bac_fields.proofs.FramePlaces.{message_tells, message_spelled, body_of}

-- ---- what a list of fields says at a place

nothing : FieldValue
nothing = word name.Item

abbrev number_at : ℕ → List FieldValue → ℕ
number_at k vs = (get_or vs k nothing).number

abbrev contents_at : ℕ → List FieldValue → List ℕ
contents_at k vs = (get_or vs k nothing).contents

abbrev name_at : ℕ → List FieldValue → ℕ
name_at k vs = number_of (get_or vs k nothing).name

pub truth_same : (a b : Bool) → truth a ≡ truth b → a ≡ b
truth_same true true e = refl
truth_same true false e = absurd (omega (arith, e))
truth_same false true e = absurd (omega (arith, e))
truth_same false false e = refl

object_same : (a b : Identifier) → IsIdentifier a → IsIdentifier b → object_number a ≡ object_number b → a ≡ b
object_same a b h k e = sym (object_is a h) ∙ ap object_of e ∙ object_is b k

-- ---- services

tail_same : (a b : ℕ) (r s : List ℕ) → a ∷ r ≡ b ∷ s → r ≡ s
tail_same a b r s e = cc

-- the index behind a property
abbrev index_at : List FieldValue → Option ℕ
index_at [] = None
index_at (v ∷ vs) = Some v.number

index_told : (index : Option ℕ) → index_at (fields_of (optional (number_under name.Index 2) index ++ pass 1 ∷ [])) ≡ index
index_told None = refl
index_told (Some index) = refl

abbrev write_error : ℕ → ℕ → Identifier → ℕ → Option ℕ → WritePropertyMultipleError
write_error class code object property index = record { class = class; code = code; object = object; property = property; index = index }

error_same : (v w : WritePropertyMultipleError) (b d : List ℕ) → SpellsBy 32 write_property_multiple_error v b → SpellsBy 32 write_property_multiple_error w d → fields_of (write_error_steps v) ≡ fields_of (write_error_steps w) → v ≡ w
error_same v w b d h j e =
    ap (λ class. write_error class v.code v.object v.property v.index) (ap (number_at 1) e)
    ∙ ap (λ code. write_error w.class code v.object v.property v.index) (ap (number_at 2) e)
    ∙ ap (λ object. write_error w.class w.code object v.property v.index) (object_same v.object w.object h.second.second.first.first.spelled.value_holds j.second.second.first.first.spelled.value_holds (ap (number_at 3) e))
    ∙ ap (λ property. write_error w.class w.code w.object property v.index) (ap (number_at 4) e)
    ∙ ap (λ index. write_error w.class w.code w.object w.property index) (sym (index_told v.index) ∙ ap (λ vs. index_at (drop 5 vs)) e ∙ index_told w.index)

opaque_same : (k : Kind) (choice : ℕ) (v w : List ℕ) → fields_of (said_steps k choice None v) ≡ fields_of (said_steps k choice None w) → v ≡ w
opaque_same k choice v w e = tail_same choice choice v w (sym (opaque_tells k choice v).told ∙ ap joined e ∙ (opaque_tells k choice w).told)

-- the choice is the first octet
choice_told : (k : Kind) (choice : ℕ) (production : Option ServiceProduction) (said : Said production) (b : List ℕ) → production ≡ production_of true k choice → SpellsSaid 32 production said b
    → slice_index (joined (fields_of (said_steps k choice production said))) 0 ≡ choice
choice_told k choice (Some write_property_multiple_error) said b e h = sym (choice_is k choice write_property_multiple_error e)
choice_told k choice (Some p) said b e h = ap (λ l. slice_index l 0) (plain_led k choice p said b tt (choice_is k choice p e) h).tells.told
choice_told k choice None octets b e h = ap (λ l. slice_index l 0) (opaque_tells k choice octets).told

-- ---- APDUs

-- one number for each APDU, and one for both segments
abbrev key : ApduValue → ℕ
key (confirmed_request head service) = 10
key (unconfirmed_request service) = 11
key (simple_ack invoke choice) = 12
key (complex_ack invoke service) = 13
key (segment_ack invoke nak srv seq window) = 14
key (error invoke service) = 15
key (reject invoke reason) = 16
key (abort invoke srv reason) = 17
key (segment head seq window more choice piece) = 18

key_told : (a : ApduValue) → min (name_at 0 (fields_of (apdu_steps a))) 18 ≡ key a
key_told (segment (Request head) seq window more choice piece) = refl
key_told (segment (Ack invoke) seq window more choice piece) = refl
key_told a = refl

keys : (a c : ApduValue) → fields_of (apdu_steps a) ≡ fields_of (apdu_steps c) → key a ≡ key c
keys a c e = sym (key_told a) ∙ ap (λ vs. min (name_at 0 vs) 18) e ∙ key_told c

abbrev request_head : ℕ → Bool → ℕ → ℕ → RequestHead
request_head invoke sa segs resp = record { invoke = invoke; sa = sa; segs = segs; resp = resp }

pub head_same : (a b : RequestHead) → a.invoke ≡ b.invoke → a.sa ≡ b.sa → a.segs ≡ b.segs → a.resp ≡ b.resp → a ≡ b
head_same a b e f g h =
    ap (λ i. request_head i a.sa a.segs a.resp) e ∙ ap (λ s. request_head b.invoke s a.segs a.resp) f ∙ ap (λ s. request_head b.invoke b.sa s a.resp) g ∙ ap (λ r. request_head b.invoke b.sa b.segs r) h

segment_same : (head other : SegHead) (seq window choice : ℕ) (more : Bool) (piece : List ℕ) (seq2 window2 choice2 : ℕ) (more2 : Bool) (piece2 : List ℕ)
    → fields_of (part_steps head seq window more choice piece) ≡ fields_of (part_steps other seq2 window2 more2 choice2 piece2) → segment head seq window more choice piece ≡ segment other seq2 window2 more2 choice2 piece2
segment_same (Request a) (Request b) seq window choice more piece seq2 window2 choice2 more2 piece2 e =
    let heads = head_same a b (ap (number_at 1) e) (truth_same a.sa b.sa (ap (number_at 2) e)) (ap (number_at 3) e) (ap (number_at 4) e) in
    ap (λ h. segment (Request h) seq window more choice piece) heads ∙ ap (λ n. segment (Request b) n window more choice piece) (ap (number_at 5) e)
    ∙ ap (λ n. segment (Request b) seq2 n more choice piece) (ap (number_at 6) e) ∙ ap (λ m. segment (Request b) seq2 window2 m choice piece) (truth_same more more2 (ap (number_at 7) e))
    ∙ ap (λ n. segment (Request b) seq2 window2 more2 n piece) (ap (number_at 8) e) ∙ ap (λ l. segment (Request b) seq2 window2 more2 choice2 l) (ap (contents_at 9) e)
segment_same (Ack a) (Ack b) seq window choice more piece seq2 window2 choice2 more2 piece2 e =
    ap (λ n. segment (Ack n) seq window more choice piece) (ap (number_at 1) e) ∙ ap (λ n. segment (Ack b) n window more choice piece) (ap (number_at 2) e)
    ∙ ap (λ n. segment (Ack b) seq2 n more choice piece) (ap (number_at 3) e) ∙ ap (λ m. segment (Ack b) seq2 window2 m choice piece) (truth_same more more2 (ap (number_at 4) e))
    ∙ ap (λ n. segment (Ack b) seq2 window2 more2 n piece) (ap (number_at 5) e) ∙ ap (λ l. segment (Ack b) seq2 window2 more2 choice2 l) (ap (contents_at 6) e)
segment_same (Request a) (Ack b) seq window choice more piece seq2 window2 choice2 more2 piece2 e = absurd (omega (arith, ap (name_at 0) e))
segment_same (Ack a) (Request b) seq window choice more piece seq2 window2 choice2 more2 piece2 e = absurd (omega (arith, ap (name_at 0) e))

-- ---- network messages and frames

message_same : (m n : MessageValue) (b d : List ℕ) → SpellsMessage m b → SpellsMessage n d → fields_of (message_steps m) ≡ fields_of (message_steps n) → m ≡ n
message_same m n b d h j e =
    let octets = sym (message_tells m).told ∙ ap joined e ∙ (message_tells n).told in
    message_one m n (least_head (octets_of n)) (subst (SpellsMessage m) octets (message_spelled m b h).member) (message_spelled n d j).member

-- the names of the first field of a body
message_first : (m : MessageValue) → name_at 0 (fields_of (message_steps m)) ≡ 40
message_first (opaque m) = refl
message_first m = refl

apdu_first : (a : ApduValue) → (10 ≤ name_at 0 (fields_of (apdu_steps a))) × (name_at 0 (fields_of (apdu_steps a)) < 40)
apdu_first (segment (Request head) seq window more choice piece) = (lit≤ tt, lit< tt)
apdu_first (segment (Ack invoke) seq window more choice piece) = (lit≤ tt, lit< tt)
apdu_first a = (lit≤ tt, lit< tt)

body_first : (x : BodyValue) → 10 ≤ name_at 0 (fields_of (body_steps x))
body_first (apdu a) = (apdu_first a).0
body_first (message m) = omega (arith, message_first m)

abbrev destination_in : List FieldValue → Option DestinationValue
destination_in [] = None
destination_in (v ∷ vs) = cond (nat_eq (number_of v.name) 3) (Some (record { network = v.number; address = v.contents; hops = number_at 0 vs })) None

abbrev behind_destination : List FieldValue → List FieldValue
behind_destination [] = []
behind_destination (v ∷ vs) = cond (nat_eq (number_of v.name) 3) (drop 1 vs) (v ∷ vs)

abbrev source_in : List FieldValue → Option SourceValue
source_in [] = None
source_in (v ∷ vs) = cond (nat_eq (number_of v.name) 5) (Some (record { network = v.number; address = v.contents })) None

abbrev behind_source : List FieldValue → List FieldValue
behind_source [] = []
behind_source (v ∷ vs) = cond (nat_eq (number_of v.name) 5) vs (v ∷ vs)

apart : (n k : ℕ) → k < 10 → 10 ≤ n → nat_eq n k ≡ false
apart n k small large = ne_eqb n k (λ e. omega (arith, e, small, large))

no_destination : (vs : List FieldValue) → 10 ≤ name_at 0 vs → (destination_in vs ≡ None) × (behind_destination vs ≡ vs)
no_destination [] h = (refl, refl)
no_destination (v ∷ vs) h = let e = apart (number_of v.name) 3 (lit< tt) h in (rw e refl, rw e refl)

no_source : (vs : List FieldValue) → 10 ≤ name_at 0 vs → (source_in vs ≡ None) × (behind_source vs ≡ vs)
no_source [] h = (refl, refl)
no_source (v ∷ vs) h = let e = apart (number_of v.name) 5 (lit< tt) h in (rw e refl, rw e refl)

-- the fields of a source, if there is one, before those of a body
abbrev source_fields : Option SourceValue → List FieldValue → List FieldValue
source_fields None vs = vs
source_fields (Some s) vs = address_field name.Source s.network s.address ∷ vs

abbrev destination_fields : Option DestinationValue → List FieldValue → List FieldValue
destination_fields None vs = vs
destination_fields (Some d) vs = address_field name.Destination d.network d.address ∷ held_field name.HopCount d.hops ∷ vs

source_told : (s : Option SourceValue) (vs : List FieldValue) → 10 ≤ name_at 0 vs → (source_in (source_fields s vs) ≡ s) × (behind_source (source_fields s vs) ≡ vs)
source_told None vs h = no_source vs h
source_told (Some s) vs h = (refl, refl)

destination_told : (d : Option DestinationValue) (s : Option SourceValue) (vs : List FieldValue) → 10 ≤ name_at 0 vs
    → (destination_in (destination_fields d (source_fields s vs)) ≡ d) × (behind_destination (destination_fields d (source_fields s vs)) ≡ source_fields s vs)
destination_told None None vs h = no_destination vs h
destination_told None (Some s) vs h = (refl, refl)
destination_told (Some d) s vs h = (refl, refl)

addresses_fields : (d : Option DestinationValue) (s : Option SourceValue) (steps : List Step) → fields_of (addresses_steps d s ++ steps) ≡ destination_fields d (source_fields s (fields_of steps))
addresses_fields None None steps = refl
addresses_fields None (Some s) steps = refl
addresses_fields (Some d) None steps = refl
addresses_fields (Some d) (Some s) steps = refl

module _ (once : (kind : Kind) (choice : ℕ) (v w : ServiceValue) (b : List ℕ) → SpellsService true 32 kind choice v b → SpellsService true 32 kind choice w b → v ≡ w) where
  abbrev with_said : Kind → ℕ → (p : Option ServiceProduction) → Said p → ServiceValue
  with_said k choice p said = record { kind = k; choice = choice; production = p; said = said }

  -- the same octets
  plain_same : (k : Kind) (choice : ℕ) (p : ServiceProduction) (v w : Said (Some p)) (x : Led choice (SpellsBy 32 p v) (said_steps k choice (Some p) v)) (y : Led choice (SpellsBy 32 p w) (said_steps k choice (Some p) w))
      → choice < 256 → Some p ≡ production_of true k choice → fields_of (said_steps k choice (Some p) v) ≡ fields_of (said_steps k choice (Some p) w) → with_said k choice (Some p) v ≡ with_said k choice (Some p) w
  plain_same k choice p v w x y fits row e =
      let same = tail_same choice choice x.octets y.octets (sym x.tells.told ∙ ap joined e ∙ y.tells.told) in
      once k choice (with_said k choice (Some p) v) (with_said k choice (Some p) w) y.octets
      (record { kind_is = refl; choice_is = refl; choice_fits = fits; production_is = row; spelled = subst (SpellsBy 32 p v) same x.is_least.member })
      (record { kind_is = refl; choice_is = refl; choice_fits = fits; production_is = row; spelled = y.is_least.member })

  said_same : (k : Kind) (choice : ℕ) (p : Option ServiceProduction) (v w : Said p) (b d : List ℕ) → choice < 256 → p ≡ production_of true k choice → SpellsSaid 32 p v b → SpellsSaid 32 p w d
      → fields_of (said_steps k choice p v) ≡ fields_of (said_steps k choice p w) → with_said k choice p v ≡ with_said k choice p w
  said_same k choice (Some write_property_multiple_error) v w b d fits row h j e = ap (with_said k choice (Some write_property_multiple_error)) (error_same v w b d h j e)
  said_same k choice (Some p) v w b d fits row h j e =
      let number = choice_is k choice p row in
      plain_same k choice p v w (plain_led k choice p v b tt number h) (plain_led k choice p w d tt number j) fits row e
  said_same k choice None v w b d fits row h j e = ap (with_said k choice None) (opaque_same k choice v w e)

  across : (k : Kind) (choice : ℕ) (p q : Option ServiceProduction) (r : p ≡ q) (v : Said p) (w : Said q) (b d : List ℕ) → choice < 256 → p ≡ production_of true k choice → SpellsSaid 32 p v b → SpellsSaid 32 q w d
      → fields_of (said_steps k choice p v) ≡ fields_of (said_steps k choice q w) → with_said k choice p v ≡ with_said k choice q w
  across k choice p q r v w b d fits row h =
      subst (λ (q : Option ServiceProduction). (w : Said q) → SpellsSaid 32 q w d → fields_of (said_steps k choice p v) ≡ fields_of (said_steps k choice q w) → with_said k choice p v ≡ with_said k choice q w) r
      (λ w j e. said_same k choice p v w b d fits row h j e) w

  service_same : (k : Kind) (s t : ServiceValue) (b d : List ℕ) → SpellsServiceOf k s b → SpellsServiceOf k t d → fields_of (service_steps s) ≡ fields_of (service_steps t) → s ≡ t
  service_same k s t b d h j e =
      let row : (x : ServiceValue) (c : List ℕ) → SpellsServiceOf k x c → x.production ≡ production_of true x.kind x.choice = λ x c g. g.production_is ∙ ap (λ i. production_of true i x.choice) (sym g.kind_is) in
      let kinds = h.kind_is ∙ sym j.kind_is in
      let choices = sym (choice_told s.kind s.choice s.production s.said b (row s b h) h.spelled) ∙ ap (λ vs. slice_index (joined vs) 0) e ∙ choice_told t.kind t.choice t.production t.said d (row t d j) j.spelled in
      let productions = row s b h ∙ ap (λ i. production_of true i s.choice) kinds ∙ ap (λ c. production_of true t.kind c) choices ∙ sym (row t d j) in
      let there = ap (λ i. fields_of (said_steps i s.choice s.production s.said)) (sym kinds) ∙ e in
      ap (λ i. with_said i s.choice s.production s.said) kinds ∙ ap (λ c. with_said t.kind c s.production s.said) choices
      ∙ across t.kind t.choice s.production t.production productions s.said t.said b d j.choice_fits (productions ∙ row t d j) h.spelled j.spelled
      (ap (λ c. fields_of (said_steps t.kind c s.production s.said)) (sym choices) ∙ there)

  apdu_same : (a c : ApduValue) (b d : List ℕ) → SpellsApduBody a b → SpellsApduBody c d → fields_of (apdu_steps a) ≡ fields_of (apdu_steps c) → a ≡ c
  apdu_same (confirmed_request head service) (confirmed_request head2 service2) b d h j e =
      let heads = head_same head head2 (ap (number_at 1) e) (truth_same head.sa head2.sa (ap (number_at 2) e)) (ap (number_at 3) e) (ap (number_at 4) e) in
      ap (λ h. confirmed_request h service) heads ∙ ap (λ s. confirmed_request head2 s) (service_same kind.Confirmed service service2 b d h j (ap (drop 5) e))
  apdu_same (unconfirmed_request service) (unconfirmed_request service2) b d h j e = ap unconfirmed_request (service_same kind.Unconfirmed service service2 b d h j (ap (drop 1) e))
  apdu_same (simple_ack invoke choice) (simple_ack invoke2 choice2) b d h j e = ap (λ n. simple_ack n choice) (ap (number_at 1) e) ∙ ap (λ n. simple_ack invoke2 n) (ap (number_at 2) e)
  apdu_same (complex_ack invoke service) (complex_ack invoke2 service2) b d h j e =
      ap (λ n. complex_ack n service) (ap (number_at 1) e) ∙ ap (λ s. complex_ack invoke2 s) (service_same kind.ComplexAck service service2 b d h j (ap (drop 2) e))
  apdu_same (segment_ack invoke nak srv seq window) (segment_ack invoke2 nak2 srv2 seq2 window2) b d h j e =
      ap (λ n. segment_ack n nak srv seq window) (ap (number_at 1) e) ∙ ap (λ f. segment_ack invoke2 f srv seq window) (truth_same nak nak2 (ap (number_at 2) e))
      ∙ ap (λ f. segment_ack invoke2 nak2 f seq window) (truth_same srv srv2 (ap (number_at 3) e)) ∙ ap (λ n. segment_ack invoke2 nak2 srv2 n window) (ap (number_at 4) e)
      ∙ ap (λ n. segment_ack invoke2 nak2 srv2 seq2 n) (ap (number_at 5) e)
  apdu_same (error invoke service) (error invoke2 service2) b d h j e =
      ap (λ n. error n service) (ap (number_at 1) e) ∙ ap (λ s. error invoke2 s) (service_same kind.Error service service2 b d h j (ap (drop 2) e))
  apdu_same (reject invoke reason) (reject invoke2 reason2) b d h j e = ap (λ n. reject n reason) (ap (number_at 1) e) ∙ ap (λ n. reject invoke2 n) (ap (number_at 2) e)
  apdu_same (abort invoke srv reason) (abort invoke2 srv2 reason2) b d h j e =
      ap (λ n. abort n srv reason) (ap (number_at 1) e) ∙ ap (λ f. abort invoke2 f reason) (truth_same srv srv2 (ap (number_at 2) e)) ∙ ap (λ n. abort invoke2 srv2 n) (ap (number_at 3) e)
  apdu_same (segment head seq window more choice piece) (segment head2 seq2 window2 more2 choice2 piece2) b d h j e = segment_same head head2 seq window choice more piece seq2 window2 choice2 more2 piece2 e
  apdu_same a c b d h j e = absurd (omega (arith, keys a c e))

  body_same : (x y : BodyValue) (b d : List ℕ) → SpellsBody x b → SpellsBody y d → fields_of (body_steps x) ≡ fields_of (body_steps y) → x ≡ y
  body_same (apdu a) (apdu c) b d h j e =
      let first = headed_rest (head_of a) (SpellsApduBody a) b h in
      let second = headed_rest (head_of c) (SpellsApduBody c) d j in
      ap apdu (apdu_same a c first.0 second.0 first.1 second.1 e)
  body_same (message m) (message n) b d h j e = ap message (message_same m n b d h j e)
  body_same (apdu a) (message m) b d h j e = absurd (omega (arith, (apdu_first a).1, message_first m, ap (name_at 0) e))
  body_same (message m) (apdu a) b d h j e = absurd (omega (arith, (apdu_first a).1, message_first m, ap (name_at 0) e))

  abbrev frame : Bool → ℕ → Option DestinationValue → Option SourceValue → BodyValue → FrameValue
  frame reply priority destination source body = record { reply = reply; priority = priority; destination = destination; source = source; body = body }

  pub frame_same : (f g : FrameValue) (b c : List ℕ) → SpellsFrame f b → SpellsFrame g c → fields f ≡ fields g → f ≡ g
  frame_same f g b c h j e =
      let rest : (x : FrameValue) → drop 2 (fields x) ≡ destination_fields x.destination (source_fields x.source (fields_of (body_steps x.body))) = λ x. addresses_fields x.destination x.source (body_steps x.body) in
      let same = sym (rest f) ∙ ap (drop 2) e ∙ rest g in
      let there = destination_told f.destination f.source (fields_of (body_steps f.body)) (body_first f.body) in
      let here = destination_told g.destination g.source (fields_of (body_steps g.body)) (body_first g.body) in
      let destinations = sym there.0 ∙ ap destination_in same ∙ here.0 in
      let behind = sym there.1 ∙ ap behind_destination same ∙ here.1 in
      let from = source_told f.source (fields_of (body_steps f.body)) (body_first f.body) in
      let to = source_told g.source (fields_of (body_steps g.body)) (body_first g.body) in
      let sources = sym from.0 ∙ ap source_in behind ∙ to.0 in
      let bodies = sym from.1 ∙ ap behind_source behind ∙ to.1 in
      let first = body_of f b h in
      let second = body_of g c j in
      ap (λ r. frame r f.priority f.destination f.source f.body) (truth_same f.reply g.reply (ap (number_at 1) e)) ∙ ap (λ p. frame g.reply p f.destination f.source f.body) (ap (number_at 0) e)
      ∙ ap (λ d. frame g.reply g.priority d f.source f.body) destinations ∙ ap (λ s. frame g.reply g.priority g.destination s f.body) sources
      ∙ ap (λ x. frame g.reply g.priority g.destination g.source x) (body_same f.body g.body first.0 second.0 first.1 second.1 bodies)
