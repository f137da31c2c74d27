-- The fields of steps are tokens.
use Rattle.std.specs.Prelude.{Option, None, Some, slice_index}
use Rattle.std.specs.List.{flat_map}
use Rattle.std.proofs.Common.{◌≡◌, ℕ, ◌+◌, ◌<◌, ◌^◌, Bool, true, false, List, [], ◌∷◌, ◌++◌, drop, refl, sym, ap, subst, ◌∙◌, append_assoc, append-nil, arith, lit<}
use Rattle.bac_tag.specs.Octets.{IsOctets}
use Rattle.bac_tag.specs.Laws.Octets.{octets_take, octets_drop, octets_below}
use Rattle.bac_value.specs.Identifier.{Identifier, IsIdentifier}
use Rattle.bac_productions.specs.Productions.{Items, Optional}
use Rattle.bac_field_parts.specs.declared.names.Name.{Name}
use Rattle.bac_field_parts.specs.declared.names.Name.TheVariants as name
use Rattle.bac_field_parts.specs.Fields.{FieldValue, Step, next, aside, pass, size_of, fields_of, word, held_field, item_steps, optional}
use Rattle.bac_field_parts.specs.PrimitiveFields.{truth, object_number}
use Rattle.bac_fields.specs.Places.{HoldsNumber, AreAt}
use Rattle.bac_fields.specs.Line.{form_of}
use Rattle.bac_fields.proofs.EventRanges.{Each}
use Rattle.bac_fields.proofs.LineLemmas.{fields_of-append}
use Rattle.bac_lines.specs.declared.closing.Closing.{Closing}
use Rattle.bac_lines.specs.Scanning.{open_end, TokenIn, AreTokens}

-- ---- the octets of steps

-- the octets of a field, or the one that holds its number
abbrev pub HasOctets : Step → Type 0
HasOctets (next v) = IsOctets (v.head ++ v.contents)
HasOctets (aside n name number) = (octet : ℕ) × ((octet < 256) × HoldsNumber name number octet)
HasOctets (pass n) = Unit {0}

-- the steps have theirs where octets are as they say
pub have_octets : (c : List ℕ) → IsOctets c → (steps : List Step) (place : ℕ) → AreAt c place steps → Each HasOctets steps
have_octets c o [] place h = tt
have_octets c o (next v ∷ steps) place h = (subst IsOctets h.0 (octets_take (size_of v) (drop place c) (octets_drop place c o)), have_octets c o steps (place + size_of v) h.1)
have_octets c o (aside n name number ∷ steps) place h = ((slice_index c (place + n), (octets_below c o (place + n), h.2)), have_octets c o steps place h.3)
have_octets c o (pass n ∷ steps) place h = (tt, have_octets c o steps (place + n) h)

each_front : (a b : List Step) → Each HasOctets (a ++ b) → Each HasOctets a
each_front [] b h = tt
each_front (step ∷ a) b h = (h.0, each_front a b h.1)

each_back : (a b : List Step) → Each HasOctets (a ++ b) → Each HasOctets b
each_back [] b h = h
each_back (step ∷ a) b h = each_back a b h.1

-- ---- steps, one after another

-- The fields of the steps are tokens, whatever tokens come after them. The first ends are those of what is open before the
-- steps, and the second ones those after them.
pub record Lexes (before after : List Closing) (steps : List Step) : Type 0 where
  pub lexes : (rest : List FieldValue) → Each HasOctets steps → AreTokens after rest → AreTokens before (fields_of steps ++ rest)

pub same_steps : {before after : List Closing} {a b : List Step} → a ≡ b → Lexes before after a → Lexes before after b
same_steps {before = before} {after = after} e p = subst (λ (l : List Step). Lexes before after l) e p

pub both : {before middle after : List Closing} {a b : List Step} → Lexes before middle a → Lexes middle after b → Lexes before after (a ++ b)
both {before = before} {a = a} {b = b} p q = record {
  lexes = λ rest octets tokens.
      subst (λ (l : List FieldValue). AreTokens before l) (sym (append_assoc (fields_of a) (fields_of b) rest) ∙ ap (λ (l : List FieldValue). l ++ rest) (sym (fields_of-append a b)))
      (p.lexes (fields_of b ++ rest) (each_front a b octets) (q.lexes rest (each_back a b octets) tokens));
}

pub nothing : (ends : List Closing) → Lexes ends ends []
nothing ends = record { lexes = λ rest octets tokens. tokens }

-- a field with which something begins or ends
pub edge : (before after : List Closing) (v : FieldValue) → (IsOctets (v.head ++ v.contents) → TokenIn (form_of v.name) before v after) → Lexes before after (next v ∷ [])
edge before after v token = record { lexes = λ rest octets tokens. (after, (token octets.0, tokens)) }

-- any other one
pub one : (ends : List Closing) (v : FieldValue) → (IsOctets (v.head ++ v.contents) → TokenIn (form_of v.name) ends v ends) → Lexes ends ends (next v ∷ [])
one ends v token = edge ends ends v token

-- a number that an octet of a head holds
pub held : (ends : List Closing) (n : ℕ) (name : Name) (number : ℕ) → ((octet : ℕ) → octet < 256 → HoldsNumber name number octet → TokenIn (form_of name) ends (held_field name number) ends)
    → Lexes ends ends (aside n name number ∷ [])
held ends n name number token = record { lexes = λ rest octets tokens. (ends, (token octets.0.0 octets.0.1.0 octets.0.1.1, tokens)) }

-- octets of no field
pub passed : {before after : List Closing} {steps : List Step} (n : ℕ) → Lexes before after steps → Lexes before after (pass n ∷ steps)
passed n p = record { lexes = λ rest octets tokens. p.lexes rest octets.1 tokens }

pub closed : {before after : List Closing} {steps : List Step} (n : ℕ) → Lexes before after steps → Lexes before after (steps ++ pass n ∷ [])
closed {after = after} n p = both p (passed n (nothing after))

-- all of the fields, if nothing is open at last
pub all_tokens : (steps : List Step) → Lexes [] [] steps → Each HasOctets steps → AreTokens [] (fields_of steps)
all_tokens steps p octets = subst (λ (l : List FieldValue). AreTokens [] l) (append-nil (fields_of steps)) (p.lexes [] octets tt)

-- ---- numbers

pub truth_small : (value : Bool) → truth value < 2
truth_small true = lit< tt
truth_small false = lit< tt

pub truth_below : (value : Bool) → truth value < 2 ^ 64
truth_below true = lit< tt
truth_below false = lit< tt

-- a number that an octet is
pub octet_below : (number octet : ℕ) → octet < 256 → octet ≡ number → number < 2 ^ 64
octet_below number octet h e = omega (arith, h, e)

pub object_below : (object : Identifier) → IsIdentifier object → object_number object < 2 ^ 32
object_below object h = omega (arith, h)

-- ---- parts that may be absent, items and lists

pub optional_part : {X : Type 0} (ends : List Closing) (Spells : X → List ℕ → Type 0) (field : X → FieldValue) (part : Option X) (b : List ℕ) → Optional Spells part b
    → ((x : X) (c : List ℕ) → Spells x c → Lexes ends ends (next (field x) ∷ [])) → Lexes ends ends (optional field part)
optional_part ends Spells field None b h each = nothing ends
optional_part ends Spells field (Some x) b h each = each x b h

-- the ends inside of an item, and inside of a list
abbrev pub in_item : List Closing → List Closing
in_item ends = ends ++ open_end name.ItemEnd 0 ∷ []

abbrev pub in_list : List Closing → List Closing
in_list ends = ends ++ open_end name.ListEnd 0 ∷ []

pub item : {X : Type 0} (ends : List Closing) (steps : X → List Step) (x : X) → Lexes (in_item ends) (in_item ends) (steps x) → Lexes ends ends (item_steps steps x)
item ends steps x p = both (edge ends (in_item ends) (word name.Item) (λ o. (refl, refl))) (both p (edge (in_item ends) ends (word name.ItemEnd) (λ o. refl)))

-- items, one after another
pub items : {X : Type 0} (ends : List Closing) (Spells : X → List ℕ → Type 0) (steps : X → List Step) (each : (x : X) (b : List ℕ) → Spells x b → Lexes ends ends (steps x)) (xs : List X) (b : List ℕ)
    → Items Spells xs b → Lexes ends ends (flat_map steps xs)
items ends Spells steps each [] b h = nothing ends
items ends Spells steps each (x ∷ xs) b h = both (each x h.front h.first) (items ends Spells steps each xs h.back h.second)

-- what begins, what is in it, and its end
pub enclosed : {before inner after : List Closing} {first last : FieldValue} {steps : List Step} → Lexes before inner (next first ∷ []) → Lexes inner inner steps → Lexes inner after (next last ∷ [])
    → Lexes before after (next first ∷ (steps ++ next last ∷ []))
enclosed p q r = both p (both q r)
