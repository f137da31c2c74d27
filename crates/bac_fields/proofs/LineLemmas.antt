-- What is printed of steps.
use Rattle.std.specs.Prelude.{codes, Option, None, Some}
use Rattle.std.specs.List.{flat_map, join_by}
use Prim.Native.String.{String}
use Rattle.std.proofs.Common.{◌≡◌, ℕ, Bool, true, false, List, [], ◌∷◌, ◌++◌, refl, sym, ap, subst, ◌∙◌, append_assoc, append-nil, arith}
use Rattle.std.proofs.lemmas.Fmt.{decimal_digit}
use Rattle.bac_value.specs.Identifier.{Identifier, IsIdentifier}
use Rattle.bac_text.specs.Words.{number, truth as truth_text, object_text, optional as optional_text}
use Rattle.bac_text.specs.WalkText.{blank}
use Rattle.bac_field_parts.specs.declared.names.Name.{Name}
use Rattle.bac_field_parts.specs.declared.names.Name.TheVariants as name
use Rattle.bac_field_parts.specs.Fields.{FieldValue, Step, next, aside, pass, fields_of, word, held_field, item_steps, optional}
use Rattle.bac_field_parts.specs.Names.{word_of}
use Rattle.bac_field_parts.specs.PrimitiveFields.{truth, object_number}
use Rattle.bac_fields.proofs.EventRanges.{Each}
use Rattle.bac_fields.specs.Line.{as_object, as_number, as_parenthesis, form_of, object_of, shown, begins, lead, printed_from}

-- The steps are printed as this, whatever comes after them. What comes is not the first of something.
pub record Prints (first : Bool) (steps : List Step) (line : List ℕ) : Type 0 where
  pub prints : (vs : List FieldValue) → printed_from first (fields_of steps ++ vs) ≡ line ++ printed_from false vs

-- what is printed of one field, and before it
abbrev pub line_of : Bool → FieldValue → List ℕ
line_of first v = lead first (form_of v.name) ++ shown (form_of v.name) v

pub same_line : {first : Bool} {steps : List Step} {t u : List ℕ} → t ≡ u → Prints first steps t → Prints first steps u
same_line {first} {steps} e p = subst (λ (l : List ℕ). Prints first steps l) e p

pub same_steps : {first : Bool} {a b : List Step} {t : List ℕ} → a ≡ b → Prints first a t → Prints first b t
same_steps {first = first} {t = t} e p = subst (λ (l : List Step). Prints first l t) e p

pub fields_of-append : (a b : List Step) → fields_of (a ++ b) ≡ fields_of a ++ fields_of b
fields_of-append [] b = refl
fields_of-append (next v ∷ a) b = ap (λ (l : List FieldValue). v ∷ l) (fields_of-append a b)
fields_of-append (aside n name number ∷ a) b = ap (λ (l : List FieldValue). held_field name number ∷ l) (fields_of-append a b)
fields_of-append (pass n ∷ a) b = fields_of-append a b

-- some steps, and then others
pub both : {first : Bool} {a b : List Step} {t u : List ℕ} → Prints first a t → Prints false b u → Prints first (a ++ b) (t ++ u)
both {first} {a} {b} {t} {u} p q = record {
  prints = λ vs. ap (λ l. printed_from first (l ++ vs)) (fields_of-append a b) ∙ ap (printed_from first) (append_assoc (fields_of a) (fields_of b) vs) ∙ p.prints (fields_of b ++ vs)
      ∙ ap (λ l. t ++ l) (q.prints vs) ∙ sym (append_assoc t u (printed_from false vs));
}

-- one field, after which steps may be the first of something
pub stepped : {first flag : Bool} {v : FieldValue} {steps : List Step} {t u : List ℕ} → line_of first v ≡ t → begins (form_of v.name) ≡ flag → Prints flag steps u → Prints first (next v ∷ steps) (t ++ u)
stepped {first} {flag} {v} {steps} {t} {u} e b p = record {
  prints = λ vs. ap (λ l. l ++ printed_from (begins (form_of v.name)) (fields_of steps ++ vs)) e ∙ ap (λ f. t ++ printed_from f (fields_of steps ++ vs)) b ∙ ap (λ l. t ++ l) (p.prints vs)
      ∙ sym (append_assoc t u (printed_from false vs));
}

-- what begins something
pub opened : (first : Bool) (v : FieldValue) {steps : List Step} {u : List ℕ} → begins (form_of v.name) ≡ true → Prints true steps u → Prints first (next v ∷ steps) (line_of first v ++ u)
opened first v b p = stepped refl b p

-- a field that begins nothing
pub one : (first : Bool) (v : FieldValue) → begins (form_of v.name) ≡ false → Prints first (next v ∷ []) (line_of first v)
one first v b = record { prints = λ vs. ap (λ f. line_of first v ++ printed_from f vs) b }

pub held : (first : Bool) (n : ℕ) (name : Name) (number : ℕ) → begins (form_of name) ≡ false → Prints first (aside n name number ∷ []) (line_of first (held_field name number))
held first n name number b = record { prints = λ vs. ap (λ f. line_of first (held_field name number) ++ printed_from f vs) b }

-- octets of no field
pub passed : {first : Bool} {steps : List Step} {t : List ℕ} (n : ℕ) → Prints first steps t → Prints first (pass n ∷ steps) t
passed n p = record { prints = p.prints }

pub nothing : Prints false [] []
nothing = record { prints = λ vs. refl }

pub closed : {first : Bool} {steps : List Step} {t : List ℕ} (n : ℕ) → Prints first steps t → Prints first (steps ++ pass n ∷ []) t
closed {t = t} n p = same_line (append-nil t) (both p (passed n nothing))

-- ---- truth values and objects

pub truth_line : (value : Bool) → number (truth value) ≡ truth_text value
truth_line true = decimal_digit 1 (omega arith)
truth_line false = decimal_digit 0 (omega arith)

pub truth_in : {steps : List Step} (v : FieldValue) (value : Bool) → form_of v.name ≡ as_number → v.number ≡ truth value → Prints false steps (line_of false v)
    → Prints false steps (codes " " ++ (word_of v.name ++ (codes "=" ++ truth_text value)))
truth_in v value e n p =
    same_line (ap (λ f. lead false f ++ shown f v) e ∙ ap (λ k. codes " " ++ (word_of v.name ++ (codes "=" ++ number k))) n ∙ ap (λ l. codes " " ++ (word_of v.name ++ (codes "=" ++ l))) (truth_line value)) p

same_object : (o : Identifier) (kind instance : ℕ) → kind ≡ o.kind → instance ≡ o.instance → record { kind = kind; instance = instance } ≡ o
same_object o kind instance k i =
    let a = ap (λ (n : ℕ). let p : Identifier = record { kind = n; instance = instance } in p) k in
    let b = ap (λ (n : ℕ). let p : Identifier = record { kind = o.kind; instance = n } in p) i in
    a ∙ b

pub object_is : (o : Identifier) → IsIdentifier o → object_of (object_number o) ≡ o
object_is o h = same_object o _ _ (omega (arith, h)) (omega (arith, h))

pub object_in : {first : Bool} {steps : List Step} (v : FieldValue) (object : Identifier) → form_of v.name ≡ as_object → v.number ≡ object_number object → IsIdentifier object → Prints first steps (line_of first v)
    → Prints first steps (blank first ++ (word_of v.name ++ (codes "=" ++ object_text object)))
object_in {first = first} v object e n h p =
    same_line (ap (λ f. lead first f ++ shown f v) e ∙ ap (λ k. blank first ++ (word_of v.name ++ (codes "=" ++ object_text k))) (ap object_of n ∙ object_is object h)) p

-- ---- parts that may be absent, items and lists

pub optional_part : {X : Type 0} (word : String) (field : X → FieldValue) (text : X → List ℕ) (part : Option X) → ((x : X) → Prints false (next (field x) ∷ []) (codes word ++ text x))
    → Prints false (optional field part) (optional_text word text part)
optional_part word field text None each = nothing
optional_part word field text (Some x) each = each x

-- an item, of which this is between the parentheses
pub item : (first : Bool) {X : Type 0} (steps : X → List Step) (x : X) {t : List ℕ} → Prints true (steps x) t → Prints first (item_steps steps x) (blank first ++ (codes "(" ++ (t ++ codes ")")))
item first steps x {t} p = same_line (append_assoc (blank first) (codes "(") (t ++ codes ")")) (opened first (word name.Item) refl (both p (one false (word name.ItemEnd) refl)))

module _ {X : Type 0} (Holds : X → Type 0) (steps : X → List Step) (text : X → List ℕ) (each : (first : Bool) (x : X) → Holds x → Prints first (steps x) (blank first ++ text x)) where
  -- items after another one
  others : (xs : List X) → Each Holds xs → Prints false (flat_map steps xs) (flat_map (λ y. codes " " ++ text y) xs)
  others [] h = nothing
  others (x ∷ xs) h = both (each false x h.0) (others xs h.1)

  -- the items of a list, and its end
  pub list_rest : (end : FieldValue) (xs : List X) → form_of end.name ≡ as_parenthesis → Each Holds xs → Prints true (flat_map steps xs ++ next end ∷ []) (join_by text (codes " ") xs ++ codes ")")
  list_rest end [] e h = same_line (ap (λ f. lead true f ++ shown f end) e) (one true end (ap begins e))
  list_rest end (x ∷ xs) e h = both (both (each true x h.0) (others xs h.1)) (same_line (ap (λ f. lead false f ++ shown f end) e) (one false end (ap begins e)))
