-- The line of tokens is determined by what they say.
use Rattle.std.proofs.Common.{◌≡◌, ℕ, ◌*◌, ◌+◌, Bool, true, List, [], ◌∷◌, ◌++◌, length, refl, sym, ◌∙◌, ap, subst, arith}
use Rattle.std.proofs.lemmas.List.{append_cancel_right}
use Rattle.std.specs.Prelude.{◌==◌, if◌then◌else◌}
use Rattle.bac_tag.specs.Octets.{IsOctets}
use Rattle.bac_field_parts.specs.declared.names.Name.{Name}
use Rattle.bac_field_parts.specs.declared.names.Name.TheVariants as name
use Rattle.bac_field_parts.specs.Names.{number_of}
use Rattle.bac_field_parts.specs.Fields.{FieldValue}
use Rattle.bac_fields.specs.Line.{Form, as_word, as_number, as_object, as_octets, as_address, as_type, as_network, as_list, as_item, as_value, as_group, as_parenthesis, as_brace, as_truth, as_element, as_signed, as_contents, as_bits, as_identifier, as_text, as_context, form_of, shown, begins, lead, printed, printed_from}
use Rattle.bac_field_parts.specs.Symbols.{has_contents}
use Rattle.bac_lines.specs.declared.closing.Closing.{Closing}
use Rattle.bac_lines.specs.Scanning.{number_after, open_end, TokenIn, AreTokens}
use Rattle.bac_lines.specs.Found.{fields_said}

-- ---- the number of a name says the name

abbrev all_names : List Name
all_names =
    name.NetworkPriority ∷ name.ReplyExpected ∷ name.Destination ∷ name.HopCount ∷ name.Source ∷ name.ConfirmedRequest ∷ name.UnconfirmedRequest ∷ name.SimpleAck ∷ name.ComplexAck ∷
    name.SegmentAck ∷ name.Error ∷ name.Reject ∷ name.Abort ∷ name.RequestSegment ∷ name.AckSegment ∷ name.InvokeId ∷ name.SegmentedAccepted ∷ name.MaxSegments ∷ name.MaxResponse ∷
    name.Sequence ∷ name.Window ∷ name.More ∷ name.Negative ∷ name.Server ∷ name.Reason ∷ name.Choice ∷ name.Octets ∷ name.NetworkMessage ∷ name.Network ∷ name.Networks ∷ name.ListedNetwork ∷
    name.Performance ∷ name.Ports ∷ name.PortId ∷ name.PortInfo ∷ name.Time ∷ name.Flag ∷ name.Vendor ∷ name.Data ∷ name.ReadProperty ∷ name.ReadPropertyMultiple ∷ name.WriteProperty ∷
    name.WritePropertyMultiple ∷ name.WhoIs ∷ name.IAm ∷ name.SubscribeCov ∷ name.ConfirmedCovNotification ∷ name.UnconfirmedCovNotification ∷ name.Opaque ∷ name.Object ∷ name.Property ∷
    name.Index ∷ name.Priority ∷ name.Process ∷ name.Device ∷ name.Confirmed ∷ name.Lifetime ∷ name.Remaining ∷ name.Low ∷ name.High ∷ name.MaxApdu ∷ name.Segmentation ∷ name.ErrorClass ∷
    name.ErrorCode ∷ name.Specifications ∷ name.Properties ∷ name.Results ∷ name.Values ∷ name.ListEnd ∷ name.Item ∷ name.ItemEnd ∷ name.Value ∷ name.ValueEnd ∷ name.PropertyError ∷
    name.PropertyErrorEnd ∷ name.Group ∷ name.GroupEnd ∷ name.Null ∷ name.Boolean ∷ name.Unsigned ∷ name.Signed ∷ name.Real ∷ name.Double ∷ name.OctetString ∷ name.CharacterString ∷
    name.BitString ∷ name.Enumerated ∷ name.Date ∷ name.TimeOfDay ∷ name.ObjectIdentifier ∷ name.ContextPrimitive ∷ []

-- the first name with the number
abbrev name_with : ℕ → List Name → Name
name_with number [] = name.Null
name_with number (one ∷ names) = if number_of one == number then one else name_with number names

named_again : (n : Name) → name_with (number_of n) all_names ≡ n
named_again name.NetworkPriority = refl
named_again name.ReplyExpected = refl
named_again name.Destination = refl
named_again name.HopCount = refl
named_again name.Source = refl
named_again name.ConfirmedRequest = refl
named_again name.UnconfirmedRequest = refl
named_again name.SimpleAck = refl
named_again name.ComplexAck = refl
named_again name.SegmentAck = refl
named_again name.Error = refl
named_again name.Reject = refl
named_again name.Abort = refl
named_again name.RequestSegment = refl
named_again name.AckSegment = refl
named_again name.InvokeId = refl
named_again name.SegmentedAccepted = refl
named_again name.MaxSegments = refl
named_again name.MaxResponse = refl
named_again name.Sequence = refl
named_again name.Window = refl
named_again name.More = refl
named_again name.Negative = refl
named_again name.Server = refl
named_again name.Reason = refl
named_again name.Choice = refl
named_again name.Octets = refl
named_again name.NetworkMessage = refl
named_again name.Network = refl
named_again name.Networks = refl
named_again name.ListedNetwork = refl
named_again name.Performance = refl
named_again name.Ports = refl
named_again name.PortId = refl
named_again name.PortInfo = refl
named_again name.Time = refl
named_again name.Flag = refl
named_again name.Vendor = refl
named_again name.Data = refl
named_again name.ReadProperty = refl
named_again name.ReadPropertyMultiple = refl
named_again name.WriteProperty = refl
named_again name.WritePropertyMultiple = refl
named_again name.WhoIs = refl
named_again name.IAm = refl
named_again name.SubscribeCov = refl
named_again name.ConfirmedCovNotification = refl
named_again name.UnconfirmedCovNotification = refl
named_again name.Opaque = refl
named_again name.Object = refl
named_again name.Property = refl
named_again name.Index = refl
named_again name.Priority = refl
named_again name.Process = refl
named_again name.Device = refl
named_again name.Confirmed = refl
named_again name.Lifetime = refl
named_again name.Remaining = refl
named_again name.Low = refl
named_again name.High = refl
named_again name.MaxApdu = refl
named_again name.Segmentation = refl
named_again name.ErrorClass = refl
named_again name.ErrorCode = refl
named_again name.Specifications = refl
named_again name.Properties = refl
named_again name.Results = refl
named_again name.Values = refl
named_again name.ListEnd = refl
named_again name.Item = refl
named_again name.ItemEnd = refl
named_again name.Value = refl
named_again name.ValueEnd = refl
named_again name.PropertyError = refl
named_again name.PropertyErrorEnd = refl
named_again name.Group = refl
named_again name.GroupEnd = refl
named_again name.Null = refl
named_again name.Boolean = refl
named_again name.Unsigned = refl
named_again name.Signed = refl
named_again name.Real = refl
named_again name.Double = refl
named_again name.OctetString = refl
named_again name.CharacterString = refl
named_again name.BitString = refl
named_again name.Enumerated = refl
named_again name.Date = refl
named_again name.TimeOfDay = refl
named_again name.ObjectIdentifier = refl
named_again name.ContextPrimitive = refl

same_name : (m n : Name) → number_of m ≡ number_of n → m ≡ n
same_name m n e = sym (named_again m) ∙ ap (λ (number : ℕ). name_with number all_names) e ∙ named_again n

-- ---- the contents are said, or their number is

-- as many octets that come to the same number
same_octets : (m n : ℕ) (xs ys : List ℕ) → IsOctets xs → IsOctets ys → length xs ≡ length ys → number_after m xs ≡ number_after n ys → (m ≡ n) × (xs ≡ ys)
same_octets m n [] [] o p e f = (f, refl)
same_octets m n [] (y ∷ ys) o p e f = absurd (omega (arith, e))
same_octets m n (x ∷ xs) [] o p e f = absurd (omega (arith, e))
same_octets m n (x ∷ xs) (y ∷ ys) o p e f =
    let h = same_octets (m * 256 + x) (n * 256 + y) xs ys o.1 p.1 (omega (arith, e)) f in
    let first : x ≡ y = omega (arith, h.0, o.0, p.0) in
    (omega (arith, h.0, o.0, p.0), rw (first, h.1) refl)

-- a field, by its parts
abbrev pub field : Name → ℕ → List ℕ → List ℕ → FieldValue
field name number head contents = record { name = name; number = number; head = head; contents = contents }

abbrev pub contents_said : Name → List ℕ → List ℕ
contents_said name contents = if has_contents (number_of name) then contents else []

-- The contents are the same, if they are in the line.
abbrev pub Alike : Form → List ℕ → List ℕ → Type 0
Alike as_octets xs ys = xs ≡ ys
Alike as_address xs ys = xs ≡ ys
Alike as_contents xs ys = xs ≡ ys
Alike as_bits xs ys = xs ≡ ys
Alike as_text xs ys = xs ≡ ys
Alike as_context xs ys = xs ≡ ys
Alike _ xs ys = Unit {0}

-- Of a Real and a Double the number says the contents, and of each other field with contents in its line they are said.
alike : (name : Name) (number : ℕ) (h k xs ys : List ℕ) (ends after later : List Closing) → TokenIn (form_of name) ends (field name number h xs) after → TokenIn (form_of name) ends (field name number k ys) later
    → contents_said name xs ≡ contents_said name ys → Alike (form_of name) xs ys
alike name.Destination number h k xs ys ends after later t u e = e
alike name.Source number h k xs ys ends after later t u e = e
alike name.Octets number h k xs ys ends after later t u e = e
alike name.PortInfo number h k xs ys ends after later t u e = e
alike name.Data number h k xs ys ends after later t u e = e
alike name.OctetString number h k xs ys ends after later t u e = e
alike name.CharacterString number h k xs ys ends after later t u e = e
alike name.BitString number h k xs ys ends after later t u e = e
alike name.Date number h k xs ys ends after later t u e = e
alike name.TimeOfDay number h k xs ys ends after later t u e = e
alike name.ContextPrimitive number h k xs ys ends after later t u e = e
alike name.Real number h k xs ys ends after later t u e = (same_octets 0 0 xs ys t.1.0 u.1.0 (t.0.1 ∙ sym u.0.1) (sym t.0.0 ∙ u.0.0)).1
alike name.Double number h k xs ys ends after later t u e = (same_octets 0 0 xs ys t.1.0 u.1.0 (t.0.1 ∙ sym u.0.1) (sym t.0.0 ∙ u.0.0)).1
alike _ number h k xs ys ends after later t u e = tt

shown_alike : (form : Form) (name : Name) (number : ℕ) (h k xs ys : List ℕ) → Alike form xs ys → shown form (field name number h xs) ≡ shown form (field name number k ys)
shown_alike as_octets name number h k xs ys e = ap (λ (contents : List ℕ). shown as_octets (field name number [] contents)) e
shown_alike as_address name number h k xs ys e = ap (λ (contents : List ℕ). shown as_address (field name number [] contents)) e
shown_alike as_contents name number h k xs ys e = ap (λ (contents : List ℕ). shown as_contents (field name number [] contents)) e
shown_alike as_bits name number h k xs ys e = ap (λ (contents : List ℕ). shown as_bits (field name number [] contents)) e
shown_alike as_text name number h k xs ys e = ap (λ (contents : List ℕ). shown as_text (field name number [] contents)) e
shown_alike as_context name number h k xs ys e = ap (λ (contents : List ℕ). shown as_context (field name number [] contents)) e
shown_alike _ name number h k xs ys e = refl

-- ---- what is open after a token is determined

pub open_after : (form : Form) (name : Name) (number : ℕ) (h k xs ys : List ℕ) (ends after later : List Closing) → TokenIn form ends (field name number h xs) after → TokenIn form ends (field name number k ys) later → after ≡ later
open_after as_word name number h k xs ys ends after later t u = t.1 ∙ sym u.1
open_after as_number name number h k xs ys ends after later t u = t.1.1 ∙ sym u.1.1
open_after as_object name number h k xs ys ends after later t u = t.1 ∙ sym u.1
open_after as_octets name number h k xs ys ends after later t u = t.1.1 ∙ sym u.1.1
open_after as_address name number h k xs ys ends after later t u = t.1.1 ∙ sym u.1.1
open_after as_type name number h k xs ys ends after later t u = t.1 ∙ sym u.1
open_after as_network name number h k xs ys ends after later t u = t.1 ∙ sym u.1
open_after as_list name number h k xs ys ends after later t u = t.1 ∙ sym u.1
open_after as_item name number h k xs ys ends after later t u = t.1 ∙ sym u.1
open_after as_value name number h k xs ys ends after later t u = t.1 ∙ sym u.1
open_after as_group name number h k xs ys ends after later t u = t.1 ∙ sym u.1
open_after as_parenthesis name number h k xs ys ends after later t u = append_cancel_right after later (open_end name number ∷ []) (sym t ∙ u)
open_after as_brace name number h k xs ys ends after later t u = append_cancel_right after later (open_end name number ∷ []) (sym t ∙ u)
open_after as_truth name number h k xs ys ends after later t u = t.1 ∙ sym u.1
open_after as_element name number h k xs ys ends after later t u = t.1 ∙ sym u.1
open_after as_signed name number h k xs ys ends after later t u = t.1 ∙ sym u.1
open_after as_contents name number h k xs ys ends after later t u = t.1.1 ∙ sym u.1.1
open_after as_bits name number h k xs ys ends after later t u = t.1.1.1.1 ∙ sym u.1.1.1.1
open_after as_identifier name number h k xs ys ends after later t u = t.1 ∙ sym u.1
open_after as_text name number h k xs ys ends after later t u = t.1.1 ∙ sym u.1.1
open_after as_context name number h k xs ys ends after later t u = t.1.1 ∙ sym u.1.1

-- ---- lines

-- Two fields are shown as the same, and what is open after them is the same.
record Same (first : Bool) (v w : FieldValue) (after later : List Closing) : Type 0 where
  texts : lead first (form_of v.name) ++ shown (form_of v.name) v ≡ lead first (form_of w.name) ++ shown (form_of w.name) w
  starts : begins (form_of v.name) ≡ begins (form_of w.name)
  opens : after ≡ later

module _ (first : Bool) (name : Name) (number : ℕ) (h k xs ys : List ℕ) (ends after later : List Closing) (t : TokenIn (form_of name) ends (field name number h xs) after) where
  abbrev IfSame : Name → ℕ → Type 0
  IfSame other more = TokenIn (form_of other) ends (field other more k ys) later → contents_said name xs ≡ contents_said other ys → Same first (field name number h xs) (field other more k ys) after later

  same : IfSame name number
  same u e =
      let shows = shown_alike (form_of name) name number h k xs ys (alike name number h k xs ys ends after later t u e) in
      record { texts = ap (λ (l : List ℕ). lead first (form_of name) ++ l) shows; starts = refl; opens = open_after (form_of name) name number h k xs ys ends after later t u }

  same_field : (other : Name) (more : ℕ) → name ≡ other → number ≡ more → IfSame other more
  same_field other more e f = subst (λ (n : Name). IfSame n more) e (subst (λ (n : ℕ). IfSame name n) f same)

same_from : (first : Bool) (ends : List Closing) (vs ws : List FieldValue) → AreTokens ends vs → AreTokens ends ws → fields_said vs ≡ fields_said ws → printed_from first vs ≡ printed_from first ws
same_from first ends [] [] t u e = refl
same_from first ends [] (w ∷ ws) t u e = absurd (cc)
same_from first ends (v ∷ vs) [] t u e = absurd (cc)
same_from first ends (v ∷ vs) (w ∷ ws) t u e =
    let names : number_of v.name ≡ number_of w.name = cc in
    let numbers : v.number ≡ w.number = cc in
    let contents : contents_said v.name v.contents ≡ contents_said w.name w.contents = cc in
    let more : fields_said vs ≡ fields_said ws = cc in
    let is = same_field first v.name v.number v.head w.head v.contents w.contents ends t.0 u.0 t.1.0 w.name w.number (same_name v.name w.name names) numbers u.1.0 contents in
    let others = same_from (begins (form_of v.name)) t.0 vs ws t.1.1 (subst (λ (l : List Closing). AreTokens l ws) (sym is.opens) u.1.1) more in
    ap (λ (l : List ℕ). l ++ printed_from (begins (form_of v.name)) vs) is.texts
    ∙ ap (λ (l : List ℕ). (lead first (form_of w.name) ++ shown (form_of w.name) w) ++ l) (others ∙ ap (λ (begun : Bool). printed_from begun ws) is.starts)

-- the lines of two lists of tokens that say the same
pub same_printed : (ends : List Closing) (vs ws : List FieldValue) → AreTokens ends vs → AreTokens ends ws → fields_said vs ≡ fields_said ws → printed vs ≡ printed ws
same_printed = same_from true
