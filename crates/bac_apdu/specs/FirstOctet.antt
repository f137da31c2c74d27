-- What the first octet of an APDU says (clause 20.1).
use Rattle.std.specs.Prelude.{◌≡◌, ℕ, ◌/◌, ◌%◌, ◌^◌, ◌<◌, ◌≤◌, ◌&&◌, cond, nat_eq, Bool, true, false, Option, Some, None, List, [], ◌∷◌, length, slice_index}
use Rattle.bac_tag.specs.HeadOctets.{IsWindow}
use Rattle.bac_service.specs.declared.kind.Kind.{Kind}
use Rattle.bac_service.specs.declared.kind.Kind.TheVariants.{Confirmed, Unconfirmed, ComplexAck, Error}

-- The type in a first octet: its bits 7 to 4.
abbrev pub type_at : ℕ → ℕ
type_at o = o / 16

-- The bit 3 of a first octet, which is SEG in types 0 and 3.
abbrev pub seg_at : ℕ → ℕ
seg_at o = o / 2 ^ 3 % 2

-- What is after a head: a service, a piece of a service, or nothing.
pub data Behind : Type 0 where
  -- a service of this kind, whose choice is the octet at this place
  a_service : Kind → ℕ → Behind
  -- a piece of a service
  a_piece : Behind
  nothing : Behind

-- A row describes one head: the type; SEG, in types 0 and 3; how many octets the head has; where a window is in it; and
-- what is after it.
pub record HeadRow : Type 0 where
  pub type : ℕ
  pub seg : Option ℕ
  pub size : ℕ
  pub window : Option ℕ
  pub behind : Behind

-- The row of a head with these parts.
abbrev pub row : ℕ → Option ℕ → ℕ → Option ℕ → Behind → HeadRow
row type seg size window behind = record { type = type; seg = seg; size = size; window = window; behind = behind }

-- The rows of the ten heads (clauses 20.1.2 to 20.1.9).
abbrev pub rows : List HeadRow
rows =
    row 0 (Some 0) 4 None (a_service Confirmed 3)
    ∷ row 0 (Some 1) 6 (Some 4) a_piece
    ∷ row 1 None 2 None (a_service Unconfirmed 1)
    ∷ row 2 None 3 None nothing
    ∷ row 3 (Some 0) 3 None (a_service ComplexAck 2)
    ∷ row 3 (Some 1) 5 (Some 3) a_piece
    ∷ row 4 None 4 (Some 3) nothing
    ∷ row 5 None 3 None (a_service Error 2)
    ∷ row 6 None 3 None nothing
    ∷ row 7 None 3 None nothing
    ∷ []

-- Whether a row with this SEG is for this bit 3. A row without a SEG is for both.
abbrev pub has_seg : Option ℕ → ℕ → Bool
has_seg None bit = true
has_seg (Some seg) bit = nat_eq seg bit

-- The first of some rows that is for this type and this bit 3, or None if there is none.
abbrev pub row_among : List HeadRow → ℕ → ℕ → Option HeadRow
row_among [] type bit = None
row_among (r ∷ heads) type bit = cond (nat_eq r.type type && has_seg r.seg bit) (Some r) (row_among heads type bit)

-- The row among the ten that is for this type and this bit 3, or None if there is none.
abbrev pub row_of : ℕ → ℕ → Option HeadRow
row_of type bit = row_among rows type bit

-- How many octets the head of a row has, and 0 without a row.
abbrev pub size_of : Option HeadRow → ℕ
size_of None = 0
size_of (Some r) = r.size

-- Where a window is in the head of a row, or None.
abbrev pub window_of : Option HeadRow → Option ℕ
window_of None = None
window_of (Some r) = r.window

-- Whether nothing is after a head.
abbrev pub is_nothing : Behind → Bool
is_nothing (a_service kind place) = false
is_nothing a_piece = false
is_nothing nothing = true

-- Whether nothing is after the head of a row, and false without a row.
abbrev pub ends_by : Option HeadRow → Bool
ends_by None = false
ends_by (Some r) = is_nothing r.behind

-- How many octets the head of that type and bit 3 has, by its row.
abbrev pub head_size : ℕ → ℕ → ℕ
head_size type bit = size_of (row_of type bit)

-- Where the octet of a window is in the head of that type and bit 3, by its row.
abbrev pub window_place : ℕ → ℕ → Option ℕ
window_place type bit = window_of (row_of type bit)

-- Whether an APDU of that type and bit 3 ends after its head, by its row.
abbrev pub ends_at : ℕ → ℕ → Bool
ends_at type bit = ends_by (row_of type bit)

-- The first octet has this type.
abbrev pub HasType : ℕ → List ℕ → Type 0
HasType type octets = (0 < length octets) × (type_at (slice_index octets 0) ≡ type)

-- The first octet has this bit 3.
abbrev pub HasSeg : ℕ → List ℕ → Type 0
HasSeg seg octets = seg_at (slice_index octets 0) ≡ seg

-- The place is 0, and the first octet is of type 8 to 15, which are no types.
abbrev pub IsTypePlace : List ℕ → ℕ → Type 0
IsTypePlace octets place = (place ≡ 0) × (0 < length octets) × (8 ≤ type_at (slice_index octets 0))

-- At the place is the octet of a window, and it is no number from 1 to 127.
abbrev pub IsWindowPlace : List ℕ → ℕ → Type 0
IsWindowPlace octets place = (window_place (type_at (slice_index octets 0)) (seg_at (slice_index octets 0)) ≡ Some place) × (place < length octets) × (IsWindow (slice_index octets place) → ⊥)

-- If the head has a window and its octet is there, it is a number from 1 to 127: there is no place of IsWindowPlace.
abbrev pub HasGoodWindow : List ℕ → Type 0
HasGoodWindow octets = (place : ℕ) → IsWindowPlace octets place → ⊥

-- The octets begin an APDU that ends after its head: a SimpleACK, a SegmentACK, a Reject or an Abort.
abbrev pub HasEnd : List ℕ → Type 0
HasEnd octets = (0 < length octets) × (ends_at (type_at (slice_index octets 0)) (seg_at (slice_index octets 0)) ≡ true)
