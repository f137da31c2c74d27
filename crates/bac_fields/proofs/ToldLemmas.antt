-- How many fields are written, and where.
use Rattle.std.specs.Prelude.{nat_lt, Option, None, Some, IfNone, IfSome, MatchOption, is_some}
use Rattle.std.proofs.Common.{◌≡◌, ◌≤◌, ◌<◌, ◌+◌, ◌++◌, ℕ, suc, true, false, zero-add, List, [], ◌∷◌, length, take, drop, refl, sym, ap, ◌∙◌, append_assoc, arith}
use Rattle.std.proofs.Math.ListN.{set}
use Rattle.std.proofs.lemmas.Bool.{cond-true, lt-ltb}
use Rattle.std.proofs.lemmas.List.{take-append-drop, take_more_set, drop-set-lt, length-set}
use Rattle.bac_field_parts.specs.declared.cursor.Cursor.{Cursor}
use Rattle.bac_field_parts.specs.declared.field.Field.{Field}
use Rattle.bac_field_parts.specs.Fields.{Step, next, aside, pass, told, placed, pen_of, Writes, Fits, size_of, field_at, held_at, room_with}

-- each field counts
pub count-told : (steps : List Step) (room : List Field) (count place : ℕ) → (told (record { room = room; count = count; place = place }) steps).count ≡ count + length (placed place steps)
count-told [] room count place = omega arith
count-told (next v ∷ steps) room count place =
    count-told steps (room_with room count (field_at place v)) (count + 1) (place + size_of v) ∙ omega arith
count-told (aside n name number ∷ steps) room count place =
    count-told steps (room_with room count (held_at (place + n) name number)) (count + 1) place ∙ omega arith
count-told (pass n ∷ steps) room count place = count-told steps room count (place + n)

-- one field more
one_more : (room new : List Field) (count m : ℕ) (f : Field) (fs : List Field) → count < length room → m ≡ length fs → new ≡ take (count + 1) (room_with room count f) ++ (fs ++ drop ((count + 1) + m) (room_with room count f)) → new ≡ take count room ++ ((f ∷ fs) ++ drop (count + suc m) room)
one_more room new count m f fs lt e is =
    let stored : room_with room count f ≡ set room count f = cond-true (nat_lt count (length room)) (set room count f) room (lt-ltb count (length room) lt) in
    let rest : drop ((count + 1) + m) (set room count f) ≡ drop (count + suc m) room =
    ap (λ n. drop n (set room count f)) (let n : (count + 1) + m ≡ count + suc m = omega arith in n) ∙ drop-set-lt (count + suc m) room count f (omega arith) in
    is ∙ ap (λ r. take (count + 1) r ++ (fs ++ drop ((count + 1) + m) r)) stored ∙ ap (λ r. take (count + 1) (set room count f) ++ (fs ++ r)) rest
    ∙ ap (λ r. r ++ (fs ++ drop (count + suc m) room)) (take_more_set room count f lt) ∙ append_assoc (take count room) (f ∷ []) (fs ++ drop (count + suc m) room)

-- the fields are written one after another, and what was before and behind them stays
pub room-told : (steps : List Step) (room : List Field) (count place : ℕ) → count + length (placed place steps) ≤ length room
    → (told (record { room = room; count = count; place = place }) steps).room ≡ take count room ++ (placed place steps ++ drop (count + length (placed place steps)) room)
room-told [] room count place fit = sym (ap (λ n. take count room ++ drop n room) (let n : count + 0 ≡ count = omega arith in n) ∙ take-append-drop count room)
room-told (next v ∷ steps) room count place fit =
    let lt : count < length room = omega arith in
    let stored : room_with room count (field_at place v) ≡ set room count (field_at place v) = cond-true (nat_lt count (length room)) (set room count (field_at place v)) room (lt-ltb count (length room) lt) in
    one_more room _ count (length (placed (place + size_of v) steps)) (field_at place v) (placed (place + size_of v) steps) lt refl
    (room-told steps (room_with room count (field_at place v)) (count + 1) (place + size_of v) (omega (arith, ap length stored, length-set room count (field_at place v))))
room-told (aside n name number ∷ steps) room count place fit =
    let lt : count < length room = omega arith in
    let stored : room_with room count (held_at (place + n) name number) ≡ set room count (held_at (place + n) name number) =
    cond-true (nat_lt count (length room)) (set room count (held_at (place + n) name number)) room (lt-ltb count (length room) lt) in
    one_more room _ count (length (placed place steps)) (held_at (place + n) name number) (placed place steps) lt refl
    (room-told steps (room_with room count (held_at (place + n) name number)) (count + 1) place (omega (arith, ap length stored, length-set room count (held_at (place + n) name number))))
room-told (pass n ∷ steps) room count place fit = room-told steps room count (place + n) fit

-- whether each number has room does not depend on the room for fields
pub Fits-room : (steps : List Step) (room other : List Field) (count place : ℕ) → Fits (record { room = room; count = count; place = place }) steps → Fits (record { room = other; count = count; place = place }) steps
Fits-room [] room other count place fits = tt
Fits-room (next v ∷ steps) room other count place fits =
    (fits.0, Fits-room steps (room_with room count (field_at place v)) (room_with other count (field_at place v)) (count + 1) (place + size_of v) fits.1)
Fits-room (aside n name number ∷ steps) room other count place fits =
    (fits.0, Fits-room steps (room_with room count (held_at (place + n) name number)) (room_with other count (held_at (place + n) name number)) (count + 1) place fits.1)
Fits-room (pass n ∷ steps) room other count place fits = (fits.0, Fits-room steps room other count (place + n) fits.1)

-- ---- from the first octet on

abbrev start : Cursor
start = record { count = 0; place = 0 }

filled : (end : Option Cursor) (steps : List Step) (room new : List Field) → IfSome end (λ e. pen_of new e ≡ told (pen_of room start) steps) → is_some end ≡ true → length (placed 0 steps) ≤ length room → new ≡ placed 0 steps ++ drop (length (placed 0 steps)) room
filled None steps room new pen some fit = cc
filled (Some e) steps room new pen some fit =
    ap (λ p. p.room) pen ∙ room-told steps room 0 0 (omega arith) ∙ ap (λ n. placed 0 steps ++ drop n room) (zero-add (length (placed 0 steps)))

-- room for all fields has all of them
pub writes_all : {steps : List Step} {room new : List Field} {end : Option Cursor} → Writes steps room start new end → is_some end ≡ true → length (placed 0 steps) ≤ length room → new ≡ placed 0 steps ++ drop (length (placed 0 steps)) room
writes_all {steps} {room} {new} {end} written some fit = filled end steps room new written.pen some fit

refuted : (end : Option Cursor) (steps : List Step) (room : List Field) → MatchOption end (Fits (pen_of room start) steps → ⊥) (λ e. Fits (pen_of room start) steps) → is_some end ≡ false → Fits (record { room = []; count = 0; place = 0 }) steps → ⊥
refuted None steps room told none fits = told (Fits-room steps [] room 0 0 fits)
refuted (Some e) steps room told none fits = let e : true ≡ false = none in cc

-- numbers that have room have it whatever the room for fields is
pub writes_where_it_fits : {steps : List Step} {room new : List Field} {end : Option Cursor} → Writes steps room start new end → is_some end ≡ false → Fits (record { room = []; count = 0; place = 0 }) steps → ⊥
writes_where_it_fits {steps} {room} {new} {end} written none fits = refuted end steps room written.fits none fits

pub if_none : {T P : Type 0} (r : Option T) → P → IfNone r P
if_none None p = p
if_none (Some x) p = tt
