-- Octets that are laid out as steps say.
use Rattle.std.proofs.Common.{◌≡◌, ℕ, ◌+◌, ◌*◌, ◌^◌, ◌<◌, ◌≤◌, List, [], ◌∷◌, ◌++◌, length, take, drop, get_or, suc, length-drop, refl, sym, ap, subst, ◌∙◌, append_assoc, append-nil, arith}
use Rattle.std.specs.Prelude.{slice_index, false}
use Rattle.std.specs.List.{flat_map}
use Rattle.std.proofs.lemmas.Grind.{flat_map-append}
use Rattle.std.proofs.lemmas.List.{length-append, take-append-drop, get_or-append-add, length-take-le}
use Rattle.std.proofs.Math.ListN.{get_or-append}
use Rattle.std.proofs.Math.Seq.{take-append_seam, drop-append_seam}
use Rattle.bac_tag.specs.Spelling.{IsLeast, Joins}
use Rattle.bac_productions.specs.Laws.Least.{least_joined}
use Rattle.bac_field_parts.specs.declared.names.Name.{Name}
use Rattle.bac_field_parts.specs.declared.field.Field.{Field}
use Rattle.bac_field_parts.specs.Fields.{FieldValue, Step, next, aside, pass, size_of, fields_of, placed, field_at, held_at, room_with, Fits}
use Rattle.bac_fields.proofs.LineLemmas.{fields_of-append}
use Rattle.bac_field_parts.specs.Names.{number_of}
use Rattle.bac_fields.specs.Places.{HoldsNumber, AreAt}
use Rattle.bac_field_parts.specs.Symbols.{has_contents}

-- From here on, the octets are those of the steps, one after another.
abbrev pub LaidOut : List Step → List ℕ → Type 0
LaidOut [] b = b ≡ []
LaidOut (next v ∷ steps) b = (rest : List ℕ) × (b ≡ (v.head ++ v.contents) ++ rest) × LaidOut steps rest
LaidOut (aside n name number ∷ steps) b = (has_contents (number_of name) ≡ false) × (n < length b) × HoldsNumber name number (slice_index b n) × LaidOut steps b
LaidOut (pass n ∷ steps) b = (n ≤ length b) × LaidOut steps (drop n b)

-- The octets are those of the steps, whatever comes after them.
pub record Lays (steps : List Step) (octets : List ℕ) : Type 0 where
  pub lays : (more : List Step) (rest : List ℕ) → LaidOut more rest → LaidOut (steps ++ more) (octets ++ rest)

pub lays_nothing : Lays [] []
lays_nothing = record { lays = λ more rest h. h }

pub lays_next : (v : FieldValue) → Lays (next v ∷ []) (v.head ++ v.contents)
lays_next v = record { lays = λ more rest h. (rest, refl, h) }

pub lays_both : {a b : List Step} {x y : List ℕ} → Lays a x → Lays b y → Lays (a ++ b) (x ++ y)
lays_both {a} {b} {x} {y} p q = record {
  lays = λ more rest h.
      subst (λ (steps : List Step). LaidOut steps ((x ++ y) ++ rest)) (sym (append_assoc a b more))
      (subst (λ (octets : List ℕ). LaidOut (a ++ (b ++ more)) octets) (sym (append_assoc x y rest)) (p.lays (b ++ more) (y ++ rest) (q.lays more rest h)));
}

pub lays_same : {steps : List Step} {x y : List ℕ} → x ≡ y → Lays steps x → Lays steps y
lays_same {steps} e p = subst (λ (octets : List ℕ). Lays steps octets) e p

pub lays_pass : (n : ℕ) (x : List ℕ) → length x ≡ n → Lays (pass n ∷ []) x
lays_pass n x e = record {
  lays = λ more rest h.
      let behind : drop n (x ++ rest) ≡ rest = ap (λ k. drop k (x ++ rest)) (sym e) ∙ drop-append_seam x rest in
      (omega (arith, length-append x rest, e), subst (λ (l : List ℕ). LaidOut more l) (sym behind) h);
}

-- a number in one of the octets of the steps that follow
pub lays_aside : (n : ℕ) (name : Name) (number : ℕ) → has_contents (number_of name) ≡ false → {steps : List Step} {octets : List ℕ} → n < length octets → HoldsNumber name number (slice_index octets n) → Lays steps octets → Lays (aside n name number ∷ steps) octets
lays_aside n name number plain {octets = octets} lt holds p = record {
  lays = λ more rest h.
      (plain, omega (arith, length-append octets rest, lt), subst (λ (octet : ℕ). HoldsNumber name number octet) (sym (get_or-append octets rest 0 n lt)) holds, p.lays more rest h);
}

-- ---- fields alone

-- the octets of fields, one after another
abbrev pub joined : List FieldValue → List ℕ
joined vs = flat_map (λ v. v.head ++ v.contents) vs

-- The octets are those of the steps, and the fields have all of them.
pub record Tells (steps : List Step) (octets : List ℕ) : Type 0 where
  pub lays : Lays steps octets
  pub told : joined (fields_of steps) ≡ octets

pub tells_nothing : Tells [] []
tells_nothing = record { lays = lays_nothing; told = refl }

pub tells_next : (v : FieldValue) → Tells (next v ∷ []) (v.head ++ v.contents)
tells_next v = record { lays = lays_next v; told = append-nil (v.head ++ v.contents) }

pub tells_both : {a b : List Step} {x y : List ℕ} → Tells a x → Tells b y → Tells (a ++ b) (x ++ y)
tells_both {a} {b} {x} {y} p q = record {
  lays = lays_both p.lays q.lays;
  told = ap joined (fields_of-append a b) ∙ flat_map-append (λ v. v.head ++ v.contents) (fields_of a) (fields_of b) ∙ ap (λ l. l ++ joined (fields_of b)) p.told ∙ ap (λ l. x ++ l) q.told;
}

pub tells_same : {steps : List Step} {x y : List ℕ} → x ≡ y → Tells steps x → Tells steps y
tells_same {steps} e p = subst (λ (octets : List ℕ). Tells steps octets) e p

-- ---- canonical octets of parts

-- so many fields in steps
abbrev pub count : List Step → ℕ
count steps = length (fields_of steps)

pub count-append : (a b : List Step) → count (a ++ b) ≡ count a + count b
count-append a b = ap length (fields_of-append a b) ∙ length-append (fields_of a) (fields_of b)

-- The steps lay out the least octets of a set, and have all of them in fields. There are at most two fields for each octet.
pub record Laid (Among : List ℕ → Type 0) (steps : List Step) : Type 0 where
  pub octets : List ℕ
  pub is_least : IsLeast Among octets
  pub tells : Tells steps octets
  pub few : count steps ≤ 2 * length octets

pub laid_joined : {P Q : List ℕ → Type 0} {a b : List Step} → Laid P a → Laid Q b → Laid (Joins P Q) (a ++ b)
laid_joined {a = a} {b = b} p q = record {
  octets = p.octets ++ q.octets;
  is_least = least_joined p.is_least q.is_least;
  tells = tells_both p.tells q.tells;
  few = omega (arith, p.few, q.few, count-append a b, length-append p.octets q.octets);
}

-- There are so few fields that two more do not matter.
pub record Roomy (Among : List ℕ → Type 0) (steps : List Step) : Type 0 where
  pub laid : Laid Among steps
  pub roomy : count steps + 2 ≤ 2 * length laid.octets

pub roomy_joined : {P Q : List ℕ → Type 0} {a b : List Step} → Roomy P a → Laid Q b → Roomy (Joins P Q) (a ++ b)
unfolding laid_joined
roomy_joined {a = a} {b = b} p q = record { laid = laid_joined p.laid q; roomy = omega (arith, p.roomy, q.few, count-append a b, length-append p.laid.octets q.octets) }

-- the same, where some octets are in no field, and at most two fields have no octets for them
pub record Placed (Among : List ℕ → Type 0) (steps : List Step) : Type 0 where
  pub octets : List ℕ
  pub is_least : IsLeast Among octets
  pub lays : Lays steps octets
  pub few : count steps ≤ 2 * length octets + 2

-- ---- from the first octet on

module _ (c : List ℕ) where
  at_from : (steps : List Step) (place : ℕ) (before b : List ℕ) → c ≡ before ++ b → length before ≡ place → LaidOut steps b → AreAt c place steps
  at_from [] place before b e n h = sym n ∙ ap length (sym (append-nil before)) ∙ ap (λ l. length (before ++ l)) (sym h) ∙ ap length (sym e)
  at_from (next v ∷ steps) place before b e n h =
      let octets : List ℕ = v.head ++ v.contents in
      let from : drop place c ≡ b = ap (λ k. drop k c) (sym n) ∙ ap (drop (length before)) e ∙ drop-append_seam before b in
      let size : length octets ≡ size_of v = length-append v.head v.contents in
      let first : take (size_of v) (drop place c) ≡ octets = ap (take (size_of v)) (from ∙ h.1) ∙ ap (λ k. take k (octets ++ h.0)) (sym size) ∙ take-append_seam octets h.0 in
      (first, at_from steps (place + size_of v) (before ++ octets) h.0 (e ∙ ap (λ l. before ++ l) h.1 ∙ sym (append_assoc before octets h.0)) (omega (arith, length-append before octets, size, n)) h.2)
  at_from (aside k name number ∷ steps) place before b e n h =
      let there : slice_index c (place + k) ≡ slice_index b k = ap (λ l. get_or l (place + k) 0) e ∙ ap (λ m. get_or (before ++ b) (m + k) 0) (sym n) ∙ get_or-append-add before b k 0 in
      (h.0, omega (arith, ap length e, length-append before b, n, h.1), subst (λ (octet : ℕ). HoldsNumber name number octet) (sym there) h.2, at_from steps place before b e n h.3)
  at_from (pass k ∷ steps) place before b e n h =
      at_from steps (place + k) (before ++ take k b) (drop k b) (e ∙ ap (λ l. before ++ l) (sym (take-append-drop k b)) ∙ sym (append_assoc before (take k b) (drop k b)))
      (omega (arith, length-append before (take k b), length-take-le k b h.0, n)) h.1

laid_whole : (steps : List Step) (octets : List ℕ) → Lays steps octets → LaidOut steps octets
laid_whole steps octets p =
    subst (λ (s : List Step). LaidOut s octets) (append-nil steps) (subst (λ (l : List ℕ). LaidOut (steps ++ []) l) (append-nil octets) (p.lays [] [] refl))

pub are_at : (steps : List Step) (octets : List ℕ) → Lays steps octets → AreAt octets 0 steps
are_at steps octets p = at_from octets steps 0 [] octets refl refl (laid_whole steps octets p)

-- ---- how many fields there are, and whether each number has room

pub count-placed : (steps : List Step) (place : ℕ) → length (placed place steps) ≡ count steps
count-placed [] place = refl
count-placed (next v ∷ steps) place = ap suc (count-placed steps (place + size_of v))
count-placed (aside n name number ∷ steps) place = ap suc (count-placed steps place)
count-placed (pass n ∷ steps) place = count-placed steps (place + n)

fits_from : (steps : List Step) (b : List ℕ) (room : List Field) (number place : ℕ) → LaidOut steps b → number + count steps < 2 ^ 64 → place + length b < 2 ^ 64 → Fits (record { room = room; count = number; place = place }) steps
fits_from [] b room number place h few long = tt
fits_from (next v ∷ steps) b room number place h few long =
    let size : size_of v + length h.0 ≡ length b = omega (arith, ap length h.1, length-append (v.head ++ v.contents) h.0, length-append v.head v.contents) in
    ((omega (arith, few), omega (arith, size, long)), fits_from steps h.0 (room_with room number (field_at place v)) (number + 1) (place + size_of v) h.2 (omega (arith, few)) (omega (arith, size, long)))
fits_from (aside n name value ∷ steps) b room number place h few long =
    ((omega (arith, few), omega (arith, h.1, long)), fits_from steps b (room_with room number (held_at (place + n) name value)) (number + 1) place h.3 (omega (arith, few)) long)
fits_from (pass n ∷ steps) b room number place h few long =
    (omega (arith, h.0, long), fits_from steps (drop n b) room number (place + n) h.1 few (omega (arith, h.0, long, length-drop n b)))

pub fits_all : (steps : List Step) (octets : List ℕ) → Lays steps octets → count steps < 2 ^ 64 → length octets < 2 ^ 64 → Fits (record { room = []; count = 0; place = 0 }) steps
fits_all steps octets p few long = fits_from steps octets [] 0 0 (laid_whole steps octets p) (omega (arith, few)) (omega (arith, long))
