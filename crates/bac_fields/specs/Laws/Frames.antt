-- A frame as its head and its body.
use Rattle.std.specs.Prelude.{slice_get, nat_le, if◌then◌else◌, ◌≡◌, ◌⊎◌, ℕ, ◌+◌, ◌*◌, ◌<◌, ◌≤◌, Bool, true, false, ◌||◌, ◌==◌, IsTrue, Option, None, Some, List, [], ◌∷◌, ◌++◌, length, take, drop, refl}
use Rattle.std.proofs.Common.{sym, ◌∙◌, ap, subst, inl, inr, arith, zero, suc, lit<, lit≤}
use Rattle.std.proofs.lemmas.List.{take-append-drop}
use Rattle.std.proofs.lemmas.Bool.{both_ways, eqb-true}
use Rattle.bac_tag.specs.Octets.{IsOctets}
use Rattle.bac_tag.specs.Laws.Octets.{octets_append, octets_front, octets_back}
use Rattle.bac_tag.specs.Spelling.{Joined, OneOf}
use Rattle.bac_productions.specs.Productions.{Optional, IsInhabited}
use Rattle.bac_npdu_parts.specs.Addresses.{SourceValue, DestinationValue, address_octets, destination_octets, source_octets, hops_octets, HasAddress}
use Rattle.bac_npdu_parts.specs.Control.{least_of}
use Rattle.bac_npdu_parts.specs.Frames.{FrameValue, BodyValue, apdu, message, SpellsBody, SpellsFrame, control_of}
use Rattle.bac_npdu_parts.proofs.FrameLemmas.{least_before, control_spelled}
use Rattle.bac_apdu.specs.Apdus.{ApduValue, SpellsApdu}
use Rattle.bac_npdu_parts.specs.Messages.{MessageValue, SpellsMessage}
use Rattle.bac_field_parts.specs.declared.field.Field.{Field}
use Rattle.bac_field_parts.specs.PrimitiveFields.{truth}
use Rattle.bac_fields.specs.ApduSymbols.{apdu_said, apdu_leads}
use Rattle.bac_fields.specs.MessageSymbols.{message_said}
use Rattle.bac_fields.specs.FrameSymbols.{frame_said, body_said, address_said, address_fits, destination_said, destination_fits, hops_fit, source_said, source_fits, control_said, control_fits, priority_fits, reply_fits, destination_leads, source_leads, IsOptionalRead, frame_of_parts, destination_of_parts, IfThere}
use Rattle.bac_field_parts.specs.Symbols.{Symbol, has_contents, named, numbered, containing, IsNumber, contents_in, finished, lead_in, lead_of, has, disjoint, Language, Lawful, IsStop, Read, Unwritten, symbols_in, number_said}
use Rattle.bac_fields.specs.Laws.Apdus.{apdu_lawful}
use Rattle.bac_field_parts.specs.Laws.Languages.{lawful_alike, stop_alike, stop_at_first, has_second}
use Rattle.bac_field_parts.specs.Laws.Leaves.{leaf_lawful, one_none, one_other_name, one_other_number, one_other_contents}
use Rattle.bac_field_parts.specs.Laws.Making.{symbols_after, some_stopped, none_stopped, first_stopped, second_stopped}
use Rattle.bac_field_parts.specs.Laws.Numbers.{number_lawful, numbers_lawful, read_says}
use Rattle.bac_fields.specs.Laws.Layouts.{messages_lawful}
use Rattle.bac_field_parts.specs.Laws.Parts.{pair_said, pair_lawful, pair_stop_first, pair_stop_second, maybe_said, maybe_lawful, either_said, choice_lawful}

-- ---- the body: an APDU or a network message

abbrev pub EitherBody : ApduValue ⊎ MessageValue → List ℕ → Type 0
EitherBody = OneOf SpellsApdu SpellsMessage

abbrev pub either_body_said : ApduValue ⊎ MessageValue → List Symbol
either_body_said = either_said apdu_said message_said SpellsApdu SpellsMessage

body_to : (es : List Symbol) → Language either_body_said EitherBody tt es → Language body_said SpellsBody tt es
body_to es l = by l.0 l.1.octets l.1.spelled l.1.is_said
  where
    by : (x : ApduValue ⊎ MessageValue) (b : List ℕ) → EitherBody x b → es ≡ either_body_said x → Language body_said SpellsBody tt es
    by (inl a) b s e = (apdu a, record { octets = b; spelled = s; is_said = e })
    by (inr m) b s e = (message m, record { octets = b; spelled = s; is_said = e })

body_from : (es : List Symbol) → Language body_said SpellsBody tt es → Language either_body_said EitherBody tt es
body_from es l = by l.0 l.1.octets l.1.spelled l.1.is_said
  where
    by : (x : BodyValue) (b : List ℕ) → SpellsBody x b → es ≡ body_said x → Language either_body_said EitherBody tt es
    by (apdu a) b s e = (inl a, record { octets = b; spelled = s; is_said = e })
    by (message m) b s e = (inr m, record { octets = b; spelled = s; is_said = e })

abbrev message_leads : List (Option ℕ)
message_leads = Some 40 ∷ []

abbrev pub body_leads : List (Option ℕ)
body_leads = apdu_leads ++ message_leads

pub body_lawful : Lawful (Language body_said SpellsBody) body_leads
body_lawful = lawful_alike (Language either_body_said EitherBody) (Language body_said SpellsBody) body_to body_from body_leads (choice_lawful apdu_said message_said SpellsApdu SpellsMessage apdu_leads message_leads apdu_lawful messages_lawful refl)

pub message_stops_body : (octets : List ℕ) (fields : List Field) (p : ℕ) → (lead_in fields ≡ Some 40) → IsStop (Language message_said SpellsMessage) (symbols_in octets fields) p → IsStop (Language body_said SpellsBody) (symbols_in octets fields) p
message_stops_body octets fields p is stop =
    let other : IsTrue (has apdu_leads (Some 40)) → ⊥ = λ h. absurd (cc) in
    stop_alike (Language either_body_said EitherBody) (Language body_said SpellsBody) body_to body_from (symbols_in octets fields) p
    (second_stopped apdu_said message_said SpellsApdu SpellsMessage octets fields apdu_leads message_leads apdu_lawful messages_lawful refl (Some 40) p (sym is) other stop)

-- where no list of the language begins so, it stops at once
stops_at_once : (L : Unit {0} → List Symbol → Type 0) (leads : List (Option ℕ)) → Lawful L leads → (k : Symbol) (rest : List Symbol) (p : ℕ) → (IsTrue (has leads (lead_of k)) → ⊥) → IsStop L (k ∷ rest) p → p ≡ 0
stops_at_once L leads lawful k rest zero other stop = refl
stops_at_once L leads lawful k rest (suc p) other stop =
    let v = stop.furthest.begins in
    let o = lawful.opens (k ∷ (take p rest ++ v.rest)) v.spelled in
    let same : o.first ≡ k = cc in
    absurd (other (subst (λ (f : Symbol). IsTrue (has leads (lead_of f))) same o.among))

not_message : (n : Option ℕ) → (n ≡ Some 40 → ⊥) → IsTrue (has message_leads n) → ⊥
not_message None other h = absurd (cc)
not_message (Some n) other h = other (ap Some (sym (eqb-true 40 n (or_nothing (40 == n) h))))
  where
    or_nothing : (b : Bool) → IsTrue (b || false) → IsTrue b
    or_nothing true h = refl
    or_nothing false h = h

module _ (octets : List ℕ) (fields : List Field) (p : ℕ) (other : lead_in fields ≡ Some 40 → ⊥) (stop : IsStop (Language apdu_said SpellsApdu) (symbols_in octets fields) p) where
  pub apdu_stops_body : IsStop (Language body_said SpellsBody) (symbols_in octets fields) p
  apdu_stops_body = by_lead (has apdu_leads (lead_in fields)) refl
    where
      none_begins : has apdu_leads (lead_in fields) ≡ false → IsTrue (has body_leads (lead_in fields)) → ⊥
      none_begins none h = not_message (lead_in fields) other (subst IsTrue (has_second apdu_leads message_leads (lead_in fields) none) h)

      at_once : (l : List Field) → has apdu_leads (lead_in l) ≡ false → (IsTrue (has body_leads (lead_in l)) → ⊥) → IsStop (Language apdu_said SpellsApdu) (symbols_in octets l) p → IsStop (Language body_said SpellsBody) (symbols_in octets l) p
      at_once [] none never stop =
          let zero_is = stops_at_once (Language apdu_said SpellsApdu) apdu_leads apdu_lawful finished [] p (λ h. both_ways _ none h) stop in
          subst (λ (q : ℕ). IsStop (Language body_said SpellsBody) (symbols_in octets []) q) (sym zero_is) (stop_at_first (Language body_said SpellsBody) body_leads body_lawful finished [] never)
      at_once (field ∷ l) none never stop =
          let zero_is = stops_at_once (Language apdu_said SpellsApdu) apdu_leads apdu_lawful (named field.name) _ p (λ h. both_ways _ none h) stop in
          subst (λ (q : ℕ). IsStop (Language body_said SpellsBody) (symbols_in octets (field ∷ l)) q) (sym zero_is) (stop_at_first (Language body_said SpellsBody) body_leads body_lawful (named field.name) _ never)

      by_lead : (b : Bool) → has apdu_leads (lead_in fields) ≡ b → IsStop (Language body_said SpellsBody) (symbols_in octets fields) p
      by_lead true some =
          stop_alike (Language either_body_said EitherBody) (Language body_said SpellsBody) body_to body_from (symbols_in octets fields) p
          (first_stopped apdu_said message_said SpellsApdu SpellsMessage octets fields apdu_leads message_leads apdu_lawful messages_lawful refl (lead_in fields) p refl some stop)
      by_lead false none = at_once fields none (none_begins none) stop

-- ---- what comes before the body

abbrev some_address : SourceValue
some_address = record { network = 0; address = 0 ∷ [] }

zero_fits : 0 < 256
zero_fits = lit< tt

pub address_lawful : (name least : ℕ) → least ≤ 1 → Lawful (Language (address_said name) (Unwritten (address_fits least))) (Some name ∷ [])
address_lawful name least few = leaf_lawful name (λ a. a.network) (λ a. Some a.address) (Unwritten (address_fits least)) some_address [] ((lit< tt, (few, (lit< tt, (zero_fits, tt)))), refl)

pub destination_lawful : Lawful (Language destination_said (Unwritten destination_fits)) destination_leads
destination_lawful = numbers_lawful (address_said 3) (number_said 4 (λ n. n)) (address_fits 0) hops_fit destination_leads (Some 4 ∷ []) (address_lawful 3 0 (lit≤ tt)) (number_lawful 4 (λ n. n) hops_fit (0, zero_fits))

pub source_lawful : Lawful (Language source_said (Unwritten source_fits)) source_leads
source_lawful = address_lawful 5 1 (lit≤ tt)

pub control_lawful : Lawful (Language control_said (Unwritten control_fits)) (Some 1 ∷ [])
control_lawful = numbers_lawful (number_said 1 (λ n. n)) (number_said 2 truth) priority_fits reply_fits (Some 1 ∷ []) (Some 2 ∷ []) (number_lawful 1 (λ n. n) priority_fits (0, lit< tt)) (number_lawful 2 truth reply_fits (true, tt))

-- one address
module _ (name least : ℕ) (few : least ≤ 1) (octets : List ℕ) where
  abbrev pub Addresses : Unit {0} → List Symbol → Type 0
  Addresses = Language (address_said name) (Unwritten (address_fits least))

  fitting : address_fits least some_address
  fitting = (lit< tt, (few, (lit< tt, (zero_fits, tt))))

  inhabited : IsInhabited (Unwritten (address_fits least))
  inhabited = record { value = some_address; octets = []; spelled = (fitting, refl) }

  pub address_none : (fields : List Field) → None ≡ slice_get fields 0 → IsStop Addresses (symbols_in octets fields) 0
  address_none fields e = one_none name (λ a. a.network) (λ a. Some a.address) (Unwritten (address_fits least)) inhabited octets fields e

  pub address_other_name : (fields : List Field) (field : Field) → Some field ≡ slice_get fields 0 → (field.name ≡ name → ⊥) → IsStop Addresses (symbols_in octets fields) 0
  address_other_name fields field e other = one_other_name name (λ a. a.network) (λ a. Some a.address) (Unwritten (address_fits least)) inhabited octets fields field e other

  pub address_other_number : (fields : List Field) (field : Field) → Some field ≡ slice_get fields 0 → field.name ≡ name → ((n : ℕ) → n < 65536 → n ≡ field.number → ⊥) → IsStop Addresses (symbols_in octets fields) 1
  address_other_number fields field e is none = one_other_number name (λ a. a.network) (λ a. Some a.address) (Unwritten (address_fits least)) inhabited octets fields field e is (λ v b u same. none v.network u.0.0 same)

  pub address_other_contents : (fields : List Field) (field : Field) (network : ℕ) → Some field ≡ slice_get fields 0 → field.name ≡ name → network ≡ field.number → network < 65536
      → ((a : SourceValue) → address_fits least a → Some a.address ≡ contents_in octets field → ⊥) → IsStop Addresses (symbols_in octets fields) 2
  address_other_contents fields field network e is number_is small never =
      let numbered : IsNumber (λ (a : SourceValue). a.network) (Unwritten (address_fits least)) field.number =
      record { value = record { network = network; address = 0 ∷ [] }; octets = []; spelled = ((small, fitting.1), refl); is_given = number_is } in
      one_other_contents name (λ a. a.network) (λ a. Some a.address) (Unwritten (address_fits least)) inhabited octets fields field e is numbered (λ v b u same held. never v u.0 held)

  pub address_of_other_length : (fields : List Field) (field : Field) (network : ℕ) (address : List ℕ) → Some field ≡ slice_get fields 0 → field.name ≡ name → network ≡ field.number → network < 65536 → contents_in octets field ≡ Some address
      → (least ≤ length address → length address < 256 → ⊥) → IsStop Addresses (symbols_in octets fields) 2
  address_of_other_length fields field network address e is number_is small held other =
      address_other_contents fields field network e is number_is small (λ a fits there. let same : a.address ≡ address = some_same (there ∙ held) in other (subst (λ (l : List ℕ). least ≤ length l) same fits.1.0) (subst (λ (l : List ℕ). length l < 256) same fits.1.1.0))
    where
      some_same : {a b : List ℕ} → Some a ≡ Some b → a ≡ b
      some_same e = cc

  pub address_said_so : (fields : List Field) (field : Field) (network : ℕ) (address : List ℕ) → Some field ≡ slice_get fields 0 → field.name ≡ name → network ≡ field.number → contents_in octets field ≡ Some address → address_fits least (record { network = network; address = address })
      → Read (address_said name) (address_fits least) (symbols_in octets fields) 3 (record { network = network; address = address })
  address_said_so [] field network address e is number_is held fits = absurd (cc)
  address_said_so (first ∷ fields) field network address e is number_is held fits =
      let same : first ≡ field = cc in
      let said : take 3 (symbols_in octets (field ∷ fields)) ≡ address_said name (record { network = network; address = address }) =
      ap (λ (n : ℕ). named n ∷ numbered field.number ∷ containing (contents_in octets field) ∷ []) is
      ∙ ap (λ (c : Option (List ℕ)). named name ∷ numbered field.number ∷ containing c ∷ []) held
      ∙ ap (λ (n : ℕ). named name ∷ numbered n ∷ containing (Some address) ∷ []) (sym number_is) in
      record { within = omega arith; is_said = ap (λ (f : Field). take 3 (symbols_in octets (f ∷ fields))) same ∙ said; in_range = fits }

-- contents that are in octets are octets
pub contents_octets : (octets : List ℕ) (field : Field) (contents : List ℕ) → IsOctets octets → contents_in octets field ≡ Some contents → IsOctets contents
contents_octets octets field contents are there =
    by (has_contents field.name) (nat_le (field.place + field.head + field.length) (length octets)) (take field.length (drop (field.place + field.head) octets)) part there
  where
    behind : IsOctets (drop (field.place + field.head) octets)
    behind = octets_back (take (field.place + field.head) octets) (drop (field.place + field.head) octets) (subst IsOctets (sym (take-append-drop (field.place + field.head) octets)) are)

    part : IsOctets (take field.length (drop (field.place + field.head) octets))
    part = octets_front (take field.length (drop (field.place + field.head) octets)) (drop field.length (drop (field.place + field.head) octets)) (subst IsOctets (sym (take-append-drop field.length (drop (field.place + field.head) octets))) behind)

    some_same : {a b : List ℕ} → Some a ≡ Some b → a ≡ b
    some_same e = cc

    by : (a b : Bool) (x : List ℕ) → IsOctets x → (if a then (if b then Some x else None) else Some []) ≡ Some contents → IsOctets contents
    by true true x o e = subst IsOctets (some_same e) o
    by true false x o e = absurd (cc)
    by false b x o e = subst IsOctets (some_same e) tt

-- ---- what may be absent, and what comes after it

module _ {V W : Type 0} (f : V → List Symbol) (F : V → Type 0) (g : W → List Symbol) (T : W → List ℕ → Type 0) (leads others : List (Option ℕ)) (first : Lawful (Language f (Unwritten F)) leads) (second : Lawful (Language g T) others) (d : IsTrue (disjoint leads others)) (octets : List ℕ) (fields : List Field) where
  -- what stops after it stops both
  pub optional_stops : (v : Option V) (n : ℕ) → IsOptionalRead f F leads octets fields v n → (p : ℕ) → IsStop (Language g T) (symbols_in octets (drop n fields)) p
      → IsStop (Language (maybe_said f g (Unwritten F) T) (Joined (Optional (Unwritten F)) T)) (symbols_in octets fields) (3 * n + p)
  optional_stops None n read p stop =
      let here : IsStop (Language g T) (symbols_in octets fields) p = subst (λ (k : ℕ). IsStop (Language g T) (symbols_in octets (drop k fields)) p) read.0 stop in
      let place_is : p ≡ 3 * n + p = omega (arith, read.0) in
      subst (λ (k : ℕ). IsStop (Language (maybe_said f g (Unwritten F) T) (Joined (Optional (Unwritten F)) T)) (symbols_in octets fields) k) place_is
      (none_stopped f g (Unwritten F) T octets fields leads others first second d (lead_in fields) p refl read.1 here)
  optional_stops (Some v) n read p stop =
      let says = read_says f (λ (u : Unit {0}). []) F (λ (u : Unit {0}). Unit {0}) (symbols_in octets fields) (3 * n) v read.1.1 in
      let there = subst (λ (es : List Symbol). IsStop (Language g T) es p) (sym (symbols_after octets fields n read.0)) stop in
      some_stopped f g (Unwritten F) T octets fields leads others first second d (lead_in fields) (3 * n + p) refl read.1.0
      (pair_stop_second f g (Unwritten F) T leads others first second (symbols_in octets fields) (3 * n) p read.1.1.within says there)

  -- and what stops it
  pub optional_stopped : (p : ℕ) → IsTrue (has leads (lead_in fields)) → IsStop (Language f (Unwritten F)) (symbols_in octets fields) p → IsStop (Language (maybe_said f g (Unwritten F) T) (Joined (Optional (Unwritten F)) T)) (symbols_in octets fields) p
  optional_stopped p some stop = some_stopped f g (Unwritten F) T octets fields leads others first second d (lead_in fields) p refl some (pair_stop_first f g (Unwritten F) T leads others first second (symbols_in octets fields) p stop)

-- ---- all of them

abbrev pub FromSource : Option SourceValue × BodyValue → List ℕ → Type 0
FromSource = Joined (Optional (Unwritten source_fits)) SpellsBody

abbrev pub from_source_said : Option SourceValue × BodyValue → List Symbol
from_source_said = maybe_said source_said body_said (Unwritten source_fits) SpellsBody

pub from_source_lawful : Lawful (Language from_source_said FromSource) (source_leads ++ body_leads)
from_source_lawful = maybe_lawful source_said body_said (Unwritten source_fits) SpellsBody source_leads body_leads source_lawful body_lawful refl

abbrev pub FromDestination : Option (SourceValue × ℕ) × (Option SourceValue × BodyValue) → List ℕ → Type 0
FromDestination = Joined (Optional (Unwritten destination_fits)) FromSource

abbrev pub from_destination_said : Option (SourceValue × ℕ) × (Option SourceValue × BodyValue) → List Symbol
from_destination_said = maybe_said destination_said from_source_said (Unwritten destination_fits) FromSource

pub from_destination_lawful : Lawful (Language from_destination_said FromDestination) (destination_leads ++ (source_leads ++ body_leads))
from_destination_lawful = maybe_lawful destination_said from_source_said (Unwritten destination_fits) FromSource destination_leads (source_leads ++ body_leads) destination_lawful from_source_lawful refl

abbrev pub FrameParts : Type 0
FrameParts = (ℕ × Bool) × (Option (SourceValue × ℕ) × (Option SourceValue × BodyValue))

abbrev FromControl : FrameParts → List ℕ → Type 0
FromControl = Joined (Unwritten control_fits) FromDestination

abbrev pub from_control_said : FrameParts → List Symbol
from_control_said = pair_said control_said from_destination_said (Unwritten control_fits) FromDestination

from_control_lawful : Lawful (Language from_control_said FromControl) (Some 1 ∷ [])
from_control_lawful = pair_lawful control_said from_destination_said (Unwritten control_fits) FromDestination (Some 1 ∷ []) _ control_lawful from_destination_lawful

abbrev pub parts_frame : FrameParts → FrameValue
parts_frame w = frame_of_parts (w.0, (w.1.0, w.1.1.0)) w.1.1.1

pub said_is : (c : ℕ × Bool) (d : Option (SourceValue × ℕ)) (s : Option SourceValue) (body : BodyValue) → frame_said (frame_of_parts (c, (d, s)) body) ≡ from_control_said (c, (d, (s, body)))
said_is c None None body = refl
said_is c None (Some s) body = refl
said_is c (Some d) None body = refl
said_is c (Some d) (Some s) body = refl

-- ---- a frame that is said has a spelling

address_spelled : (least : ℕ) (a : SourceValue) → address_fits least a → IsOctets (address_octets a.network a.address)
address_spelled least a f = (omega (arith, f.0), (omega (arith, f.0), (f.1.1.0, f.1.1.1)))

address_fitting : (least : ℕ) (a : SourceValue) → least ≤ length a.address → IsOctets (address_octets a.network a.address) → address_fits least a
address_fitting least a long h = (omega (arith, h.0), (long, (h.1.1.0, h.1.1.1)))

source_spelled : (s : Option SourceValue) → IfThere source_fits s → IsOctets (source_octets s) × HasAddress s
source_spelled None f = (tt, tt)
source_spelled (Some s) f = (address_spelled 1 s f, f.1.0)

source_fitting : (s : Option SourceValue) → HasAddress s → IsOctets (source_octets s) → IfThere source_fits s
source_fitting None a h = tt
source_fitting (Some s) a h = address_fitting 1 s a h

-- addresses that fit are octets
pub head_spelled : (d : Option (SourceValue × ℕ)) (s : Option SourceValue) → IfThere destination_fits d → IfThere source_fits s
    → IsOctets (destination_octets (destination_of_parts d) ++ (source_octets s ++ hops_octets (destination_of_parts d))) × HasAddress s
head_spelled None s f g = let p = source_spelled s g in (octets_append (source_octets s) [] p.0 tt, p.1)
head_spelled (Some d) s f g =
    let p = source_spelled s g in
    (octets_append (address_octets d.0.network d.0.address) (source_octets s ++ d.1 ∷ []) (address_spelled 0 d.0 f.0) (octets_append (source_octets s) (d.1 ∷ []) p.0 (f.1, tt)), p.1)

head_fitting : (d : Option DestinationValue) (s : Option SourceValue) → HasAddress s → IsOctets (destination_octets d ++ (source_octets s ++ hops_octets d)) → (p : Option (SourceValue × ℕ)) × (destination_of_parts p ≡ d) × IfThere destination_fits p × IfThere source_fits s
head_fitting None s a h = (None, refl, tt, source_fitting s a (octets_front (source_octets s) [] h))
head_fitting (Some d) s a h =
    let to : SourceValue = record { network = d.network; address = d.address } in
    let rest = octets_back (address_octets d.network d.address) (source_octets s ++ d.hops ∷ []) h in
    let first = octets_front (address_octets d.network d.address) (source_octets s ++ d.hops ∷ []) h in
    (Some (to, d.hops), refl, (address_fitting 0 to (omega arith) first, (octets_back (source_octets s) (d.hops ∷ []) rest).0), source_fitting s a (octets_front (source_octets s) (d.hops ∷ []) rest))

pub frame_to : (es : List Symbol) → Language from_control_said FromControl tt es → Language frame_said SpellsFrame tt es
frame_to es l =
    let j = l.1.spelled in
    let (c, (d, (s, body))) = l.0 in
    by c d s body j.first.0 _ _ j.second.first j.second.second.first j.second.second.back j.second.second.second l.1.is_said
  where
    optional : {V : Type 0} (F : V → Type 0) (v : Option V) (b : List ℕ) → Optional (Unwritten F) v b → IfThere F v
    optional F None b h = tt
    optional F (Some v) b h = h.0

    by : (c : ℕ × Bool) (d : Option (SourceValue × ℕ)) (s : Option SourceValue) (body : BodyValue) → control_fits c → (x y : List ℕ) → Optional (Unwritten destination_fits) d x → Optional (Unwritten source_fits) s y → (b : List ℕ) → SpellsBody body b → es ≡ from_control_said (c, (d, (s, body)))
        → Language frame_said SpellsFrame tt es
    by c d s body fits x y to from b spelled e =
        let f = frame_of_parts (c, (d, s)) body in
        let head = head_spelled d s (optional destination_fits d x to) (optional source_fits s y from) in (
          f,
          record {
            octets = least_before f ++ b;
            spelled = record { control = least_of (control_of f); body = b; octets_are = refl; is_control = control_spelled (control_of f) fits.0; are_octets = head.0; has_address = head.1; is_body = spelled };
            is_said = e ∙ sym (said_is c d s body);
          },
        )

pub frame_from : (es : List Symbol) → Language frame_said SpellsFrame tt es → Language from_control_said FromControl tt es
frame_from es l = by l.0 l.1.octets l.1.spelled l.1.is_said
  where
    present : {V : Type 0} (F : V → Type 0) (v : Option V) → IfThere F v → Optional (Unwritten F) v []
    present F None h = refl
    present F (Some v) h = (h, refl)

    by : (f : FrameValue) (b : List ℕ) → SpellsFrame f b → es ≡ frame_said f → Language from_control_said FromControl tt es
    by f b spelled e =
        let (d, same, to, from) = head_fitting f.destination f.source spelled.has_address spelled.are_octets in
        let priority : f.priority < 4 = omega (arith, spelled.is_control.priority) in
        let frame_is : f ≡ frame_of_parts ((f.priority, f.reply), (d, f.source)) f.body = ap (λ (x : Option DestinationValue). record { reply = f.reply; priority = f.priority; destination = x; source = f.source; body = f.body }) (sym same) in (
          ((f.priority, f.reply), (d, (f.source, f.body))),
          record {
            octets = spelled.body;
            spelled = record {
              front = [];
              back = spelled.body;
              first = ((priority, tt), refl);
              second = record { front = []; back = spelled.body; first = present destination_fits d to; second = record { front = []; back = spelled.body; first = present source_fits f.source from; second = spelled.is_body; octets = refl }; octets = refl };
              octets = refl;
            };
            is_said = e ∙ ap frame_said frame_is ∙ said_is (f.priority, f.reply) d f.source f.body;
          },
        )

pub frame_lawful : Lawful (Language frame_said SpellsFrame) (Some 1 ∷ [])
frame_lawful = lawful_alike (Language from_control_said FromControl) (Language frame_said SpellsFrame) frame_to frame_from (Some 1 ∷ []) from_control_lawful

module _ (octets : List ℕ) (fields : List Field) where
  pub control_stopped : (p : ℕ) → IsStop (Language control_said (Unwritten control_fits)) (symbols_in octets fields) p → IsStop (Language frame_said SpellsFrame) (symbols_in octets fields) p
  control_stopped p stop = stop_alike (Language from_control_said FromControl) (Language frame_said SpellsFrame) frame_to frame_from (symbols_in octets fields) p
      (pair_stop_first control_said from_destination_said (Unwritten control_fits) FromDestination (Some 1 ∷ []) _ control_lawful from_destination_lawful (symbols_in octets fields) p stop)

  pub control_stops : (n : ℕ) (v : ℕ × Bool) → n ≤ length fields → Read control_said control_fits (symbols_in octets fields) (3 * n) v → (p : ℕ) → IsStop (Language from_destination_said FromDestination) (symbols_in octets (drop n fields)) p
      → IsStop (Language frame_said SpellsFrame) (symbols_in octets fields) (3 * n + p)
  control_stops n v within read p stop = stop_alike (Language from_control_said FromControl) (Language frame_said SpellsFrame) frame_to frame_from (symbols_in octets fields) (3 * n + p)
      (pair_stop_second control_said from_destination_said (Unwritten control_fits) FromDestination (Some 1 ∷ []) _ control_lawful from_destination_lawful (symbols_in octets fields) (3 * n) p read.within
      (read_says control_said (λ (u : Unit {0}). []) control_fits (λ (u : Unit {0}). Unit {0}) (symbols_in octets fields) (3 * n) v read)
      (subst (λ (es : List Symbol). IsStop (Language from_destination_said FromDestination) es p) (sym (symbols_after octets fields n within)) stop))
