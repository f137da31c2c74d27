-- The symbols that fields come to: what of a field counts if a frame or another message is made of fields.
use Rattle.bac_field_parts.specs.declared.field.Field.{Field}
use Rattle.bac_field_parts.specs.declared.names.Name.TheVariants as name
use Rattle.bac_field_parts.specs.Names.{number_of}
use Rattle.bac_field_parts.specs.Fields.{FieldValue, Step, next, aside, pass, held_field}
use Rattle.bac_field_parts.specs.declared.making.Part.{Part}
use Rattle.bac_field_parts.specs.declared.making.Part.TheVariants.{Name, Number, Contents}
use Rattle.bac_field_parts.specs.declared.making.Stop.{Stop}
use Rattle.bac_field_parts.specs.declared.making.Fault.{Fault}
use Rattle.bac_field_parts.specs.declared.making.Fault.TheVariants.{OutOfMemory, Stop as Stopped}
use Rattle.std.specs.Prelude.{◌↔◌, ◌≤◌, nat_le, if◌then◌else◌, ◌≡◌, ℕ, ◌+◌, ◌*◌, List, [], ◌∷◌, ◌++◌, length, take, drop, Bool, true, false, ◌||◌, ◌&&◌, ◌==◌, not, IsTrue, Option, None, Some}
use Rattle.bac_tag.specs.declared.heads.TagHead.{TagHead}
use Rattle.bac_tag.specs.declared.heads.TagHead.TheVariants.{Open, Close}
use Rattle.bac_tag.specs.declared.refusals.Why.TheVariants.{Tag}
use Rattle.bac_tag.specs.Spelling.{EndsItself, IsRefusal, AppendsLeast}
use Rattle.bac_tag.specs.HeadOctets.{Part as HeadOctet, Headed}

-- What of a field counts if a frame is made of fields. A field is three symbols: the number of its name, its number, and its
-- contents, or None if they are not in the octets. After the last field there is another symbol, so that a list of fields is
-- all of a frame or only the first ones.
pub data Symbol : Type 0 where
  named numbered : ℕ → Symbol
  containing : Option (List ℕ) → Symbol
  finished : Symbol

-- What comes next by a symbol (a lead): the number of the name of a field, or None if there is no field.
abbrev pub lead_of : Symbol → Option ℕ
lead_of (named name) = Some name
lead_of _ = None

-- Whether two leads are the same.
abbrev pub same_lead : Option ℕ → Option ℕ → Bool
same_lead (Some m) (Some n) = m == n
same_lead None None = true
same_lead _ _ = false

-- Whether a lead is among these.
abbrev pub has : List (Option ℕ) → Option ℕ → Bool
has [] lead = false
has (m ∷ leads) lead = same_lead m lead || has leads lead

-- Whether no lead is in both lists.
abbrev pub disjoint : List (Option ℕ) → List (Option ℕ) → Bool
disjoint [] others = true
disjoint (m ∷ leads) others = not (has others m) && disjoint leads others

-- The symbols say the value: some octets spell it, and the symbols are those of the value.
pub record Says {V : Type 0} (said : V → List Symbol) (spells : V → List ℕ → Type 0) (v : V) (es : List Symbol) : Type 0 where
  pub octets : List ℕ
  pub spelled : spells v octets
  pub is_said : es ≡ said v

-- The lists of symbols that say a value which some octets spell.
abbrev pub Language : {V : Type 0} → (V → List Symbol) → (V → List ℕ → Type 0) → Unit {0} → List Symbol → Type 0
Language {V} said spells u es = (v : V) × Says said spells v es

-- The list begins with one of these leads.
pub record Opens (leads : List (Option ℕ)) (es : List Symbol) : Type 0 where
  pub first : Symbol
  pub rest : List Symbol
  pub symbols : es ≡ first ∷ rest
  pub among : IsTrue (has leads (lead_of first))

-- No list of the language is the front of another one, each begins with one of the leads, and there is one.
pub record Lawful (L : Unit {0} → List Symbol → Type 0) (leads : List (Option ℕ)) : Type 0 where
  pub opens : (es : List Symbol) → L tt es → Opens leads es
  pub ends : EndsItself L
  pub some : (es : List Symbol) × L tt es

-- At this place the list stops: so many symbols begin a list of the language, and one more do not. No front of the list is in
-- the language. It is IsRefusal of bac_tag, for symbols.
abbrev pub IsStop : (Unit {0} → List Symbol → Type 0) → List Symbol → ℕ → Type 0
IsStop L es place = IsRefusal L es (record { place = place; why = Tag })

-- Whether fields of the name with this number have contents.
abbrev pub has_contents : ℕ → Bool
has_contents number =
    (number == number_of name.Destination) || (number == number_of name.Source) || (number == number_of name.Octets) || (number == number_of name.PortInfo) || (number == number_of name.Data) || (number == number_of name.OctetString)
    || (number == number_of name.CharacterString) || (number == number_of name.BitString) || (number == number_of name.Date) || (number == number_of name.TimeOfDay) || (number == number_of name.ContextPrimitive)

-- The contents of a field, which are so many octets from its place and its head on. It is None if they do not lie within the
-- octets. For a name without contents there are none, which is an empty list.
abbrev pub contents_in : List ℕ → Field → Option (List ℕ)
contents_in octets field =
    if has_contents field.name
    then (if nat_le (field.place + field.head + field.length) (length octets) then Some (take field.length (drop (field.place + field.head) octets)) else None)
    else Some []

-- The lead of fields: the number of the name of the first one, or None if there is no field.
abbrev pub lead_in : List Field → Option ℕ
lead_in [] = None
lead_in (field ∷ fields) = Some field.name

-- The symbols of fields, with the one after the last field.
abbrev pub symbols_in : List ℕ → List Field → List Symbol
symbols_in octets [] = finished ∷ []
symbols_in octets (field ∷ fields) = named field.name ∷ numbered field.number ∷ containing (contents_in octets field) ∷ symbols_in octets fields

-- How many symbols so many fields have. If at_end is true, the one after the last field counts as well.
abbrev pub taken_symbols : Bool → ℕ → ℕ
taken_symbols at_end taken = if at_end then 3 * taken + 1 else 3 * taken

-- So many symbols say a value, and its canonical octets are appended.
pub record Made {V : Type 0} (said : V → List Symbol) (spells : V → List ℕ → Type 0) (es : List Symbol) (n : ℕ) (old new : List ℕ) : Type 0 where
  pub value : V
  pub within : n ≤ length es
  pub is_said : take n es ≡ said value
  pub appended : AppendsLeast (spells value) old new

-- Which of the three symbols of a field is this part: 0 for its name, 1 for its number, 2 for its contents.
abbrev pub part_place : Part → ℕ
part_place Name = 0
part_place Number = 1
part_place Contents = 2

-- The place of a stop among the symbols, of which each field before it has three.
abbrev pub place_of : Stop → ℕ
place_of s = 3 * s.index + part_place s.part

-- The place of a fault among the symbols has this property, if the fault is a stop. Nothing is required if memory was refused.
abbrev pub IfStop : Fault → (ℕ → Type 0) → Type 0
IfStop OutOfMemory P = Unit {0}
IfStop (Stopped s) P = P (place_of s)

-- The fault as it is seen so many fields earlier: its index is greater by as many.
abbrev pub behind : ℕ → Fault → Fault
behind fields OutOfMemory = OutOfMemory
behind fields (Stopped s) = Stopped (record { index = s.index + fields; part = s.part })

-- The symbols of the end of the fields: only the one after the last field.
abbrev pub end_said : Unit {0} → List Symbol
end_said u = finished ∷ []

-- The symbols of what no field says, which are none.
abbrev pub nothing_said : Unit {0} → List Symbol
nothing_said u = []

-- Whether a head is an opening or a closing tag with a number that a tag can have, at most 254.
abbrev pub is_edge : TagHead → Bool
is_edge (Open n) = nat_le n 254
is_edge (Close n) = nat_le n 254
is_edge _ = false

-- The list has no octets.
abbrev pub no_octets : Unit {0} → List ℕ → Type 0
no_octets u b = b ≡ []

-- ---- one field

-- The symbols of a field that says a value by its number.
abbrev pub number_said : {V : Type 0} → ℕ → (V → ℕ) → V → List Symbol
number_said name number v = named name ∷ numbered (number v) ∷ containing (Some []) ∷ []

-- The canonical octets of a value with this number are appended.
pub record HasForm {V : Type 0} (number : V → ℕ) (spells : V → List ℕ → Type 0) (given : ℕ) (old new : List ℕ) : Type 0 where
  pub value : V
  pub is_given : number value ≡ given
  pub appended : AppendsLeast (spells value) old new

-- No value that octets spell has this number.
abbrev pub IsNoNumber : {V : Type 0} → (V → ℕ) → (V → List ℕ → Type 0) → ℕ → Type 0
IsNoNumber {V} number spells given = (v : V) (b : List ℕ) → spells v b → number v ≡ given → ⊥

-- The number of a field that is a word, which is 0.
abbrev pub no_number : Unit {0} → ℕ
no_number u = 0

-- The number of a field that is octets by themselves, which is 0.
abbrev pub no_octet_number : List ℕ → ℕ
no_octet_number octets = 0

-- The number of a field that always has this number, which is one octet.
abbrev pub the_number : ℕ → Unit {0} → ℕ
the_number n u = n

-- The list is only this one octet.
abbrev pub the_octet : ℕ → Unit {0} → List ℕ → Type 0
the_octet n u b = b ≡ n ∷ []

-- ---- messages

-- A value that is spelled has parts, and it is said and spelled as they are.
pub record IsMessage {V W : Type 0} (f : V → List Symbol) (g : W → List Symbol) (S : V → List ℕ → Type 0) (T : W → List ℕ → Type 0) : Type 0 where
  pub of_parts : W → V
  pub parts_of : (v : V) (b : List ℕ) → S v b → (w : W) × (of_parts w ≡ v)
  pub said : (w : W) → f (of_parts w) ≡ g w
  pub spelled : (w : W) (b : List ℕ) → T w b ↔ S (of_parts w) b

-- ---- the symbols of fields and of steps

-- The symbols of a field. Its contents count only if its name has contents.
abbrev pub field_said : FieldValue → List Symbol
field_said v = named (number_of v.name) ∷ numbered v.number ∷ containing (Some (if has_contents (number_of v.name) then v.contents else [])) ∷ []

-- The symbols of the fields of steps (field_said for each).
abbrev pub steps_said : List Step → List Symbol
steps_said [] = []
steps_said (next v ∷ steps) = field_said v ++ steps_said steps
steps_said (aside n name number ∷ steps) = field_said (held_field name number) ++ steps_said steps
steps_said (pass n ∷ steps) = steps_said steps

-- The symbols of a field that says a value by its number and its contents.
abbrev pub contents_said : {V : Type 0} → ℕ → (V → ℕ) → (V → List ℕ) → V → List Symbol
contents_said name number contents v = named name ∷ numbered (number v) ∷ containing (Some (contents v)) ∷ []

-- The canonical octets of a value with this number and these contents are appended.
pub record HasContents {V : Type 0} (number : V → ℕ) (contents : V → List ℕ) (spells : V → List ℕ → Type 0) (given : ℕ) (held old new : List ℕ) : Type 0 where
  pub value : V
  pub is_given : number value ≡ given
  pub is_held : contents value ≡ held
  pub appended : AppendsLeast (spells value) old new

-- Some value that octets spell has this number.
pub record IsNumber {V : Type 0} (number : V → ℕ) (spells : V → List ℕ → Type 0) (given : ℕ) : Type 0 where
  pub value : V
  pub octets : List ℕ
  pub spelled : spells value octets
  pub is_given : number value ≡ given

-- No value that octets spell has this number and these contents.
abbrev pub HasNoContents : {V : Type 0} → (V → ℕ) → (V → List ℕ) → (V → List ℕ → Type 0) → ℕ → List ℕ → Type 0
HasNoContents {V} number contents spells given held = (v : V) (b : List ℕ) → spells v b → number v ≡ given → contents v ≡ held → ⊥

-- ---- heads, whose octets are in another order than their fields

-- So many symbols say the value, and each of its numbers lies in its range.
pub record Read {V : Type 0} (said : V → List Symbol) (fits : V → Type 0) (es : List Symbol) (n : ℕ) (v : V) : Type 0 where
  pub within : n ≤ length es
  pub is_said : take n es ≡ said v
  pub in_range : fits v

-- What is said before any octet is written: a value whose numbers are in their ranges, and no octets.
abbrev pub Unwritten : {V : Type 0} → (V → Type 0) → V → List ℕ → Type 0
Unwritten fits v b = fits v × (b ≡ [])

-- The list is the octets of a head, and nothing after them.
abbrev pub Heads : {V : Type 0} → (V → List HeadOctet) → V → List ℕ → Type 0
Heads parts v = Headed (parts v) (λ rest. rest ≡ [])
