-- What is known of a value by its type gives it a spelling: the parts that services have.
use Rattle.std.proofs.Common.{◌≡◌, ℕ, suc, ◌+◌, ◌*◌, ◌^◌, ◌-◌, ◌/◌, ◌%◌, ◌<◌, ◌≤◌, Bool, Option, None, Some, List, [], ◌∷◌, ◌++◌, length, map, refl, ap, sym, subst, arith, w32}
use Rattle.std.proofs.lemmas.List.{map-id}
use Rattle.std.proofs.Math.Nat.{pow-le-pow_right}
use denote.RattleType.{RattleType}
use denote.Builtin.{u32}
use denote.Known.{Known, All, uint_known}
use Rattle.std.specs.contracts.option.Option as option
use Rattle.bac_tag.specs.declared.heads.TagHead.TheVariants.{Open, Close}
use Rattle.bac_tag.specs.Spelling.{Joins}
use Rattle.bac_tag.proofs.WritingLemmas.{some_least}
use Rattle.bac_numbers.specs.Numbers.{NumberContents, least_number}
use Rattle.bac_numbers.specs.Laws.Numbers.{number_written_in, number_lengths}
use Rattle.bac_value.specs.Primitives.{IsTheList}
use Rattle.bac_value.specs.Identifier.{Identifier, IsIdentifier, identifier_octets}
use Rattle.bac_value.specs.Laws.Identifier.{identifier_any_octets}
use Rattle.bac_value.specs.BooleanContents.{IsBoolean, boolean_octets}
use Rattle.bac_data.specs.OpenValue.{Elements}
use Rattle.bac_data.specs.Spells.{SpellsOpen}
use Rattle.bac_data.proofs.ValueLemmas.{open_value_spelled}
use Rattle.bac_productions.specs.Fields.{heading, IsHeading, IsField}
use Rattle.bac_productions.specs.Contents.{ObjectField, EnumeratedField, UnsignedField, InstanceField, PriorityField, BooleanField, ApplicationObject, ApplicationEnumerated}
use Rattle.bac_productions.specs.Productions.{Optional, Items, Grouped}
use Rattle.bac_productions.specs.Laws.Field.{heading_least}
use Rattle.bac_value.specs.declared.types.enumeration.Enumerated.{Enumerated}
use Rattle.bac_value.specs.contracts.types.priority.Priority as priority_row
use Rattle.bac_service.proofs.HeldParts.{some_known, object_known, instance_known, priority_known, any_known, index_known}
use Rattle.bac_service.proofs.HeldValueLemmas.{held_value}

-- some list is in the set
abbrev pub Spelled : (List ℕ → Type 0) → Type 0
Spelled Spells = (b : List ℕ) × Spells b

-- ---- parts

pub joined : {P Q : List ℕ → Type 0} → Spelled P → Spelled Q → Spelled (Joins P Q)
joined p q = (p.0 ++ q.0, record { front = p.0; back = q.0; first = p.1; second = q.1; octets = refl })

pub grouped : {V : Type 0} (number : ℕ) (S : V → List ℕ → Type 0) (v : V) → number ≤ 254 → Spelled (S v) → Spelled (Grouped number S v)
grouped number S v small inside =
    let first = some_least (Open number) small tt in
    let last = some_least (Close number) small tt in
    joined (first.0, first.1.member) (joined inside (last.0, last.1.member))

-- the items, each seen by what it says
pub items_of : {V W : Type 0} {K : W → Type 0} (view : W → V) (S : V → List ℕ → Type 0) → ((w : W) → K w → Spelled (S (view w))) → (ws : List W) → All K ws → Spelled (Items S (map view ws))
items_of view S each [] are = ([], refl)
items_of view S each (w ∷ ws) are = joined (each w (are 0 w (omega arith))) (items_of view S each ws (λ i d lt. are (suc i) d (omega arith)))

pub items : {V : Type 0} {K : V → Type 0} (S : V → List ℕ → Type 0) → ((v : V) → K v → Spelled (S v)) → (vs : List V) → All K vs → Spelled (Items S vs)
items S each vs are = subst (λ l. Spelled (Items S l)) (map-id vs) (items_of (λ v. v) S each vs are)

-- ---- fields

pub field : {V : Type 0} (contents : V → List ℕ → Type 0) (c : Option ℕ) (app : ℕ) (v : V) (w : List ℕ) → IsHeading c app → length w < 2 ^ 32 → contents v w → Spelled (IsField (heading c app) contents v)
field contents c app v w fits short spelled =
    let h = heading_least c app (length w) fits short in
    (h.0 ++ w, record { head = h.0; body = w; headed = h.1.member; spelled = spelled; octets = refl })

-- a number under a head
numeric : {V : Type 0} (low high n : ℕ) (number_of : V → ℕ) (v : V) (c : Option ℕ) (app : ℕ) → number_of v ≡ n → IsHeading c app → low ≤ n → n ≤ high → n < 2 ^ 64
    → Spelled (IsField (heading c app) (λ (v : V) octets. NumberContents low high (number_of v) octets) v)
numeric low high n number_of v c app is fits least most below =
    let w = number_written_in low high n least most below in
    field (λ v octets. NumberContents low high (number_of v) octets) c app v (least_number n) fits (omega (arith, number_lengths low high n (least_number n) w)) (subst (λ (m : ℕ). NumberContents low high m (least_number n)) (sym is) w)

identifier : (c : Option ℕ) (id : Identifier) → IsHeading c 12 → IsIdentifier id → Spelled (IsField (heading c 12) (IsTheList IsIdentifier identifier_octets) id)
identifier c id fits h = field (IsTheList IsIdentifier identifier_octets) c 12 id (identifier_octets id) fits (omega (arith, identifier_any_octets.sized id h)) (record { value_holds = h; is = refl })

identifier_held : (id : Identifier) → object_known.Fact id → IsIdentifier id
identifier_held id f =
    let kind : (id.kind * 2 ^ 22 + id.instance) / 2 ^ 22 ≡ id.kind = ap (λ (i : Identifier). i.kind) f.1.0.0 in
    let instance : (id.kind * 2 ^ 22 + id.instance) % 2 ^ 22 ≡ id.instance = ap (λ (i : Identifier). i.instance) f.1.0.0 in
    let below : id.kind * 2 ^ 22 + id.instance < 2 ^ 32 = f.1.0.1 in
    (omega arith, omega arith)

pub object : (tag : ℕ) (id : Identifier) → tag ≤ 254 → object_known.Fact id → Spelled (ObjectField tag id)
object tag id small f = identifier (Some tag) id small (identifier_held id f)

pub enumerated : (tag n : ℕ) → tag ≤ 254 → n < 2 ^ 32 → Spelled (EnumeratedField tag n)
enumerated tag n small h = numeric 0 (2 ^ 32 - 1) n (λ (v : Enumerated). v.0) (record { 0 = n }) (Some tag) 9 refl small (omega arith) (omega arith) (omega arith)

pub unsigned : (tag n : ℕ) → tag ≤ 254 → n < 2 ^ 32 → Spelled (UnsignedField tag n)
unsigned tag n small h = numeric 0 (2 ^ 32 - 1) n (λ (v : ℕ). v) n (Some tag) 2 refl small (omega arith) (omega arith) (omega arith)

pub instance : (tag n : ℕ) → tag ≤ 254 → instance_known.Fact n → Spelled (InstanceField tag n)
instance tag n small f =
    let h : n ≤ 4194303 = f.1.0.1 in
    numeric 0 4194303 n (λ (v : ℕ). v) n (Some tag) 2 refl small (omega arith) h (omega arith)

priority : (tag n : ℕ) → tag ≤ 254 → priority_known.Fact n → Spelled (PriorityField tag n)
priority tag n small f =
    let h : (1 ≤ n) × (n ≤ 16) = f.1.0.1 in
    numeric 1 16 n (λ (v : ℕ). v) n (Some tag) 2 refl small h.0 h.1 (omega (arith, h.1))

boolean : (tag : ℕ) (bit : Bool) → tag ≤ 254 → Spelled (BooleanField tag bit)
boolean tag bit small = field (IsTheList IsBoolean boolean_octets) (Some tag) 1 (record { 0 = bit }) (boolean_octets (record { 0 = bit })) small (omega arith) (record { value_holds = tt; is = refl })

pub open_value : (tag : ℕ) (v : Elements) → tag ≤ 254 → any_known.Fact v → Spelled (SpellsOpen 32 tag v)
open_value tag v small f = let l = open_value_spelled 32 tag v small (held_value v f) in (l.0, l.1.member)

pub application_object : (id : Identifier) → object_known.Fact id → Spelled (ApplicationObject id)
application_object id f = identifier None id (omega arith, λ e. omega arith) (identifier_held id f)

pub application_enumerated : (n : ℕ) → n < 2 ^ 32 → Spelled (ApplicationEnumerated n)
application_enumerated n h = numeric 0 (2 ^ 32 - 1) n (λ (v : Enumerated). v.0) (record { 0 = n }) None 9 refl (omega arith, λ e. omega arith) (omega arith) (omega arith) (omega arith)

pub application_unsigned : (width n : ℕ) → width ≤ 32 → n < 2 ^ width → Spelled (IsField (heading None 2) (λ value octets. NumberContents 0 (2 ^ width - 1) value octets) n)
application_unsigned width n small h =
    let most : 2 ^ width ≤ 2 ^ 32 = pow-le-pow_right (omega arith) small in
    numeric 0 (2 ^ width - 1) n (λ (v : ℕ). v) n None 2 refl (omega arith, λ e. omega arith) (omega arith) (omega (arith, h)) (omega arith)

-- ---- what may be absent

pub optional : (R : RattleType) (k : Known R) (S : R.Denot → List ℕ → Type 0) → ((x : R.Denot) → k.Fact x → Spelled (S x)) → (o : Option R.Denot) → (some_known R k).Fact ((option.the_type R).to o) → Spelled (Optional S o)
optional R k S each None f = ([], refl)
optional R k S each (Some x) f = each x f.0

pub index : (tag : ℕ) (o : Option ℕ) → tag ≤ 254 → index_known.Fact ((option.the_type u32).to o) → Spelled (Optional (UnsignedField tag) o)
index tag o small = optional u32 (uint_known w32) (UnsignedField tag) (λ n. unsigned tag n small) o

pub command : (tag : ℕ) (o : Option ℕ) → tag ≤ 254 → (some_known priority_row.the_row priority_known).Fact ((option.the_type priority_row.the_row).to o) → Spelled (Optional (PriorityField tag) o)
command tag o small = optional priority_row.the_row priority_known (PriorityField tag) (λ n. priority tag n small) o

pub bit : (tag : ℕ) (o : Option Bool) → tag ≤ 254 → Spelled (Optional (BooleanField tag) o)
bit tag None small = ([], refl)
bit tag (Some b) small = boolean tag b small
