-- Fields at their places say what the steps say.
use Rattle.std.specs.Prelude.{◌≡◌, ℕ, ◌+◌, ◌≤◌, nat_le, if◌then◌else◌, Bool, true, false, Option, None, Some, List, [], ◌∷◌, ◌++◌, length, take, drop, refl}
use Rattle.std.proofs.Common.{sym, ◌∙◌, ap, arith, append_assoc}
use Rattle.std.proofs.Math.Seq.{take-append_seam, drop-append_seam}
use Rattle.std.proofs.lemmas.Bool.{le-leb}
use Rattle.std.proofs.lemmas.List.{take-append-drop, drop-drop}
use Rattle.bac_field_parts.specs.declared.names.Name.{Name}
use Rattle.bac_field_parts.specs.Names.{number_of}
use Rattle.bac_field_parts.specs.Fields.{FieldValue, Step, next, aside, pass, size_of, placed, field_at, held_at, held_field}
use Rattle.bac_fields.specs.Places.{AreAt}
use Rattle.bac_field_parts.specs.Symbols.{Symbol, named, numbered, containing, finished, has_contents, contents_in, symbols_in, field_said, steps_said}

module _ (c : List ℕ) where
  -- nothing is past the last octet
  place_within : (steps : List Step) (place : ℕ) → AreAt c place steps → place ≤ length c
  place_within [] place h = omega (arith, h)
  place_within (next v ∷ steps) place h = omega (arith, place_within steps (place + size_of v) h.1)
  place_within (aside n name number ∷ steps) place h = place_within steps place h.3
  place_within (pass n ∷ steps) place h = omega (arith, place_within steps (place + n) h)

  -- the contents of a field whose octets come next
  contents_there : (v : FieldValue) (place : ℕ) → take (size_of v) (drop place c) ≡ v.head ++ v.contents → take (length v.contents) (drop (place + length v.head) c) ≡ v.contents
  contents_there v place e =
      let rest = drop (size_of v) (drop place c) in
      let whole : drop place c ≡ (v.head ++ v.contents) ++ rest = sym (take-append-drop (size_of v) (drop place c)) ∙ ap (λ (l : List ℕ). l ++ rest) e in
      let behind : drop (place + length v.head) c ≡ v.contents ++ rest = sym (drop-drop (length v.head) place c) ∙ ap (drop (length v.head)) (whole ∙ append_assoc v.head v.contents rest) ∙ drop-append_seam v.head (v.contents ++ rest) in
      ap (take (length v.contents)) behind ∙ take-append_seam v.contents rest

  same_contents : (held within : Bool) (taken contents : List ℕ) → within ≡ true → taken ≡ contents → (if held then (if within then Some taken else None) else Some []) ≡ Some (if held then contents else [])
  same_contents true within taken contents w e = rw (w, e) refl
  same_contents false within taken contents w e = refl

  field_there : (v : FieldValue) (place : ℕ) → place + size_of v ≤ length c → take (size_of v) (drop place c) ≡ v.head ++ v.contents → contents_in c (field_at place v) ≡ Some (if has_contents (number_of v.name) then v.contents else [])
  field_there v place within e =
      same_contents (has_contents (number_of v.name)) (nat_le (place + length v.head + length v.contents) (length c)) (take (length v.contents) (drop (place + length v.head) c)) v.contents (le-leb (place + length v.head + length v.contents) (length c) (omega (arith, within))) (contents_there v place e)

  no_contents : (place n number : ℕ) (name : Name) → has_contents (number_of name) ≡ false → contents_in c (held_at (place + n) name number) ≡ Some (if has_contents (number_of name) then [] else [])
  no_contents place n number name plain = rw plain refl

  pub places_say : (steps : List Step) (place : ℕ) → AreAt c place steps → symbols_in c (placed place steps) ≡ steps_said steps ++ finished ∷ []
  places_say [] place h = refl
  places_say (next v ∷ steps) place h =
      let rest = places_say steps (place + size_of v) h.1 in
      ap (λ (x : Option (List ℕ)). named (number_of v.name) ∷ numbered v.number ∷ containing x ∷ symbols_in c (placed (place + size_of v) steps)) (field_there v place (place_within steps (place + size_of v) h.1) h.0)
      ∙ ap (λ (l : List Symbol). field_said v ++ l) rest
  places_say (aside n name number ∷ steps) place h =
      ap (λ (x : Option (List ℕ)). named (number_of name) ∷ numbered number ∷ containing x ∷ symbols_in c (placed place steps)) (no_contents place n number name h.0)
      ∙ ap (λ (l : List Symbol). field_said (held_field name number) ++ l) (places_say steps place h.3)
  places_say (pass n ∷ steps) place h = places_say steps (place + n) h
