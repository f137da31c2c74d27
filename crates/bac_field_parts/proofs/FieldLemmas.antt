-- Lemmas on fields.
use Rattle.std.specs.Prelude.{Option, None, Some, IfSome, MatchOption, Bool, ◌*◌}
use Rattle.std.specs.List.{flat_map}
use Rattle.std.proofs.Common.{◌≡◌, ◌+◌, ◌++◌, ℕ, length, map, take, drop, append_assoc, List, [], ◌∷◌, refl, sym, ap, subst, ◌∙◌}
use Rattle.std.proofs.lemmas.List.Folds.{flat_map-map}
use Rattle.std.proofs.lemmas.List.{take-append-drop}
use Rattle.std.proofs.lemmas.Grind.{flat_map-append}
use Rattle.bac_field_parts.specs.declared.names.Name.{Name}
use Rattle.bac_field_parts.specs.declared.names.Name.TheVariants.{ListEnd}
use Rattle.std.proofs.lemmas.List.{length-append}
use Rattle.std.proofs.lemmas.List.FromFn.{length-map-range_with_len}
use Rattle.bac_tag.specs.Writing.{narrow_head}
use Rattle.bac_value.specs.BitsContents.{bit_in, bits_in, octet_from, octets_for, packed_bits}
use Rattle.bac_field_parts.specs.declared.cursor.Cursor.{Cursor}
use Rattle.bac_field_parts.specs.declared.field.Field.{Field}
use Rattle.bac_field_parts.specs.Fields.{Step, next, Pen, with_step, told, pen_of, Fits, Writes, word, item_steps, listed}

-- some fields, and then others
pub told_append : (pen : Pen) (vs ws : List Step) → told (told pen vs) ws ≡ told pen (vs ++ ws)
told_append pen [] ws = refl
told_append pen (v ∷ vs) ws = told_append (with_step pen v) vs ws

-- fields are written, and then, if they are, others
told_then : (end : Option Cursor) (room : List Field) (pen between : Pen) (vs ws : List Step) → between ≡ told pen vs → IfSome end (λ e. pen_of room e ≡ told between ws) → IfSome end (λ e. pen_of room e ≡ told pen (vs ++ ws))
told_then None room pen between vs ws first second = tt
told_then (Some e) room pen between vs ws first second = second ∙ ap (λ p. told p ws) first ∙ told_append pen vs ws

-- ---- whether each number has room

Fits-join : (pen : Pen) (vs ws : List Step) → Fits pen vs → Fits (told pen vs) ws → Fits pen (vs ++ ws)
Fits-join pen [] ws f g = g
Fits-join pen (v ∷ vs) ws f g = (f.0, Fits-join (with_step pen v) vs ws f.1 g)

Fits-first : (pen : Pen) (vs ws : List Step) → Fits pen (vs ++ ws) → Fits pen vs
Fits-first pen [] ws f = tt
Fits-first pen (v ∷ vs) ws f = (f.0, Fits-first (with_step pen v) vs ws f.1)

Fits-second : (pen : Pen) (vs ws : List Step) → Fits pen (vs ++ ws) → Fits (told pen vs) ws
Fits-second pen [] ws f = f
Fits-second pen (v ∷ vs) ws f = Fits-second (with_step pen v) vs ws f.1

-- ---- one part after another

fits_then : (end : Option Cursor) (pen between : Pen) (vs ws : List Step) → between ≡ told pen vs → Fits pen vs → MatchOption end (Fits between ws → ⊥) (λ e. Fits between ws) → MatchOption end (Fits pen (vs ++ ws) → ⊥) (λ e. Fits pen (vs ++ ws))
fits_then None pen between vs ws is first second = λ fits. second (subst (λ (p : Pen). Fits p ws) (sym is) (Fits-second pen vs ws fits))
fits_then (Some e) pen between vs ws is first second = Fits-join pen vs ws first (subst (λ (p : Pen). Fits p ws) is second)

pub writes_then : {vs ws : List Step} {old between new : List Field} {cursor next : Cursor} {end : Option Cursor} → Writes vs old cursor between (Some next) → Writes ws between next new end → Writes (vs ++ ws) old cursor new end
writes_then {vs} {ws} {old} {between} {new} {cursor} {next} {end} first second = record {
  pen = told_then end new (pen_of old cursor) (pen_of between next) vs ws first.pen second.pen;
  fits = fits_then end (pen_of old cursor) (pen_of between next) vs ws first.pen first.fits second.fits;
}

-- where the first has no room, both have none
pub writes_none : {vs : List Step} (ws : List Step) {old between : List Field} (new : List Field) {cursor : Cursor} {end : Option Cursor} → end ≡ None → Writes vs old cursor between None → Writes (vs ++ ws) old cursor new end
writes_none {vs} ws {old} {between} new {cursor} {end} none first =
    let nothing : Writes (vs ++ ws) old cursor new None = record { pen = tt; fits = λ fits. first.fits (Fits-first (pen_of old cursor) vs ws fits) } in
    subst (λ (e : Option Cursor). Writes (vs ++ ws) old cursor new e) (sym none) nothing

-- a head, and one octet more that belongs to it
pub length-head_more : (type size given x got : ℕ) → size ≡ given → got ≡ length (narrow_head 0 type given) → length (narrow_head 0 type size ++ x ∷ []) ≡ got + 1
length-head_more type size given x got e h = length-append (narrow_head 0 type size) (x ∷ []) ∙ ap (λ n. length (narrow_head 0 type n) + 1) e ∙ ap (λ n. n + 1) (sym h)

-- so many bits of octets
pub length-bits_in : (packed : List ℕ) (count : ℕ) → length (bits_in packed count) ≡ count
length-bits_in packed count = length-map-range_with_len (bit_in packed) 0 count

-- the octets that hold bits
pub length-packed_bits : (bits : List Bool) → length (packed_bits bits) ≡ octets_for (length bits)
unfolding packed_bits
length-packed_bits bits = length-map-range_with_len (λ i. octet_from bits (8 * i)) 0 (octets_for (length bits))

-- the same steps
pub writes_same : {vs ws : List Step} {old new : List Field} {cursor : Cursor} {end : Option Cursor} → vs ≡ ws → Writes vs old cursor new end → Writes ws old cursor new end
writes_same {vs} {ws} {old} {new} {cursor} {end} e written = subst (λ (steps : List Step). Writes steps old cursor new end) e written

-- a list of items that are seen as values
pub listed-map : {X V : Type 0} (name : Name) (view : X → V) (steps : V → List Step) (items : List X) → listed name (λ x. steps (view x)) items ≡ listed name steps (map view items)
listed-map name view steps items = ap (λ (l : List Step). next (word name) ∷ (l ++ next (word ListEnd) ∷ [])) (sym (flat_map-map (item_steps steps) view items))

-- a list from one of its items on
pub flat_map-from : {X Y : Type 0} (f : X → List Y) (xs : List X) (i : ℕ) (x : X) → flat_map f (take (i + 1) xs) ≡ flat_map f (take i xs) ++ f x → flat_map f (take i xs) ++ (f x ++ flat_map f (drop (i + 1) xs)) ≡ flat_map f xs
flat_map-from f xs i x e =
    sym (append_assoc (flat_map f (take i xs)) (f x) (flat_map f (drop (i + 1) xs))) ∙ ap (λ l. l ++ flat_map f (drop (i + 1) xs)) (sym e)
    ∙ sym (flat_map-append f (take (i + 1) xs) (drop (i + 1) xs)) ∙ ap (flat_map f) (take-append-drop (i + 1) xs)
