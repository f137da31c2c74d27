-- The line of tokens tells what they say.
use Rattle.std.specs.Prelude.{◌≡◌, ℕ, ◌<◌, ◌^◌, List, [], ◌∷◌, ◌++◌, Bool, true, false, ◌==◌, if◌then◌else◌, IsTrue, Some, refl}
use Rattle.std.proofs.Common.{sym, ◌∙◌, ap, subst, inl, inr, arith, append_assoc}
use Rattle.std.proofs.lemmas.Bool.{both_ways, eqb-true, not-true}
use Rattle.bac_tag.specs.Octets.{IsOctets}
use Rattle.bac_record.specs.Digits.{hexadecimal}
use Rattle.bac_text.specs.Words.{number}
use Rattle.bac_field_parts.specs.declared.names.Name.{Name}
use Rattle.bac_field_parts.specs.declared.names.Name.TheVariants as name
use Rattle.bac_field_parts.specs.Names.{number_of}
use Rattle.bac_field_parts.specs.Fields.{FieldValue}
use Rattle.bac_field_parts.specs.Symbols.{Symbol, named as name_said, numbered, containing, field_said}
use Rattle.bac_fields.specs.Line.{Form, as_network, as_item, as_group, as_parenthesis, as_brace, as_context, form_of, shown, begins, lead, printed_from}
use Rattle.bac_lines.specs.declared.closing.Closing.{Closing}
use Rattle.bac_lines.specs.Scanning.{is_decimal, is_letter, ends_field, open_end, TokenIn, AreTokens}
use Rattle.bac_lines.specs.Found.{Sort, by_end, by_parenthesis, by_bracket, by_digit, by_word, sort_of, word_before, after_word, fields_said}
use Rattle.bac_lines.proofs.NameLemmas.{Named, named}
use Rattle.bac_lines.proofs.ScanLemmas.{clear_of, not_digits}
use Rattle.bac_lines.proofs.WordLemmas.{apart_numbers, head_is, heads, tail_is, no_letter}
use Rattle.bac_lines.proofs.StartLemmas.{HasSort, shown_begins, sort_40, sort_91, sort_end, FormsOf, form_with, whole_of, whole_some}
use Rattle.bac_lines.proofs.PrintedLemmas.{field, contents_said, Alike, open_after}
use Rattle.bac_lines.proofs.PartwayLemmas.{follows}
use Rattle.bac_lines.proofs.ValueSaidLemmas.{number_told, hex_told, Told, value_told}
use Rattle.bac_lines.proofs.WordSaidLemmas.{name_told}

-- ---- the blank before a field

-- a line without the blank at its front
abbrev without_blank : List ℕ → List ℕ
without_blank [] = []
without_blank (x ∷ l) = if x == 32 then l else x ∷ l

-- no field begins with a blank
no_blank : (sort : Sort) (x : ℕ) → HasSort sort x → (x == 32) ≡ false
no_blank sort x h = by (x == 32) refl
  where
    never : (sort : Sort) → HasSort sort 32 → ⊥
    never by_end (inl e) = apart_numbers 32 41 refl e
    never by_end (inr e) = apart_numbers 32 125 refl e
    never by_parenthesis e = apart_numbers 32 40 refl e
    never by_bracket e = apart_numbers 32 91 refl e
    never by_digit d = both_ways (is_decimal 32) refl d
    never by_word d = both_ways (is_letter 32) refl d

    by : (b : Bool) → (x == 32) ≡ b → b ≡ false
    by true e = absurd (never sort (subst (λ (y : ℕ). HasSort sort y) (eqb-true x 32 e) h))
    by false e = refl

blank_told : (first : Bool) (form : Form) (ends : List Closing) (v : FieldValue) (after : List Closing) (more : List ℕ) → TokenIn form ends v after → without_blank ((lead first form ++ shown form v) ++ more) ≡ shown form v ++ more
blank_told first form ends v after more t = elim (whole_of first form v more) [
  | inl a ↦ ap without_blank a.1 ∙ bare
  | inr r ↦ elim r [
    | inl b ↦ ap without_blank b.1.1 ∙ bare
    | inr b ↦ ap without_blank b.1.1
  ]
]
  where
    bare : without_blank (shown form v ++ more) ≡ shown form v ++ more
    bare =
        let b = shown_begins form ends v after more t in
        ap without_blank b.is ∙ ap (λ (blank : Bool). if blank then b.rest else b.first ∷ b.rest) (no_blank (sort_of form) b.first b.looks) ∙ sym b.is

-- ---- the first octet tells the sort

one_sort : (r s : Sort) (x : ℕ) → HasSort r x → HasSort s x → r ≡ s
one_sort by_end s x h k = sym (sort_end s x h k)
one_sort by_parenthesis s x h k = sym (sort_40 s x h k)
one_sort by_bracket s x h k = sym (sort_91 s x h k)
one_sort by_digit by_end x h k = sort_end by_digit x k h
one_sort by_digit by_parenthesis x h k = sort_40 by_digit x k h
one_sort by_digit by_bracket x h k = sort_91 by_digit x k h
one_sort by_digit by_digit x h k = refl
one_sort by_digit by_word x h k = absurd (both_ways (is_letter x) (not-true (is_letter x) (no_letter x h)) k)
one_sort by_word by_end x h k = sort_end by_word x k h
one_sort by_word by_parenthesis x h k = sort_40 by_word x k h
one_sort by_word by_bracket x h k = sort_91 by_word x k h
one_sort by_word by_digit x h k = absurd (both_ways (is_letter x) (not-true (is_letter x) (no_letter x k)) h)
one_sort by_word by_word x h k = refl

-- ---- ends and tags

-- the innermost end, or this one if there is none
abbrev last : List Closing → Closing → Closing
last [] x = x
last (y ∷ ends) x = last ends y

last_is : (ends : List Closing) (x y : Closing) → last (ends ++ x ∷ []) y ≡ x
last_is [] x y = refl
last_is (z ∷ ends) x y = last_is ends x z

-- what is last among the ends is one end
one_end : (after later : List Closing) (x y : Closing) → after ++ x ∷ [] ≡ later ++ y ∷ [] → x ≡ y
one_end after later x y e = sym (last_is after x x) ∙ ap (λ (ends : List Closing). last ends x) e ∙ last_is later y x

-- a tag in brackets, and what comes after it
tag_told : (m n : ℕ) (inner other more rest : List ℕ) → m < 256 → n < 256 → (91 ∷ (number m ++ 93 ∷ inner)) ++ more ≡ (91 ∷ (number n ++ 93 ∷ other)) ++ rest → (m ≡ n) × (inner ++ more ≡ other ++ rest)
tag_told m n inner other more rest small low e =
    let room : m < 2 ^ 64 = omega (arith, small) in
    let space : n < 2 ^ 64 = omega (arith, low) in
    let tags = number_told m n (93 ∷ (inner ++ more)) (93 ∷ (other ++ rest)) room space refl refl (sym (append_assoc (number m) (93 ∷ inner) more) ∙ tail_is e ∙ append_assoc (number n) (93 ∷ other) rest) in
    (tags.0, tail_is tags.1)

-- a tag with octets is none with which a group begins
mixed_tags : (m n : ℕ) (octets more rest : List ℕ) → m < 256 → n < 256 → IsOctets octets → IsTrue (ends_field rest) → (91 ∷ (number m ++ 93 ∷ 123 ∷ [])) ++ more ≡ (91 ∷ (number n ++ 93 ∷ hexadecimal octets)) ++ rest → ⊥
mixed_tags m n octets more rest small low o k e = not_digits 123 refl refl octets rest more o k (tag_told m n (123 ∷ []) (hexadecimal octets) more rest small low e).1

-- ---- fields without a word

module _ (v w : FieldValue) (ends after later : List Closing) (more rest : List ℕ) where
  -- so it is where the fields have one form, and what is shown of them is the same
  abbrev Tells : Form → Type 0
  Tells form =
      TokenIn form ends v after → TokenIn form ends w later → (begins form ≡ false → IsTrue (ends_field more)) → (begins form ≡ false → IsTrue (ends_field rest)) → shown form v ++ more ≡ shown form w ++ rest
      → Named form v.name → Named form w.name → (v.name ≡ w.name) × Told form v w more rest

  -- each of the forms without a word
  bare_told : (form : Form) → (sort_of form ≡ by_word → ⊥) → Tells form
  bare_told as_item s t u k l e n m = (n ∙ sym m, (t.0 ∙ sym u.0, (tt, tail_is e)))
  bare_told as_network s t u k l e n m =
      let room : v.number < 2 ^ 64 = omega (arith, t.0) in
      let space : w.number < 2 ^ 64 = omega (arith, u.0) in
      let r = number_told v.number w.number more rest room space (clear_of is_decimal refl refl refl more (k refl)) (clear_of is_decimal refl refl refl rest (l refl)) e in
      (n ∙ sym m, (r.0, (tt, r.1)))
  bare_told as_group s t u k l e n m =
      let tags = tag_told v.number w.number (123 ∷ []) (123 ∷ []) more rest t.0 u.0 e in
      (n ∙ sym m, (tags.0, (tt, tail_is tags.1)))
  bare_told as_context s t u k l e n m =
      let tags = tag_told v.number w.number (hexadecimal v.contents) (hexadecimal w.contents) more rest t.0 u.0 e in
      (n ∙ sym m, (tags.0, hex_told v.contents w.contents more rest t.1.0 u.1.0 (k refl) (l refl) tags.1))
  bare_told as_parenthesis s t u k l e n m =
      let same = one_end after later (open_end v.name v.number) (open_end w.name w.number) (sym t ∙ u) in
      (ap (λ (x : Closing). x.name) same, (ap (λ (x : Closing). x.number) same, (tt, tail_is e)))
  bare_told as_brace s t u k l e n m =
      let same = one_end after later (open_end v.name v.number) (open_end w.name w.number) (sym t ∙ u) in
      (ap (λ (x : Closing). x.name) same, (ap (λ (x : Closing). x.number) same, (tt, tail_is e)))
  bare_told _ s t u k l e n m = absurd (s refl)

  -- two forms of one sort, if no word comes first
  one_form : (F G : Form) (sort : Sort) → FormsOf sort F → FormsOf sort G → (sort ≡ by_word → ⊥) → TokenIn F ends v after → TokenIn G ends w later → (begins F ≡ false → IsTrue (ends_field more)) → (begins G ≡ false → IsTrue (ends_field rest))
      → shown F v ++ more ≡ shown G w ++ rest → F ≡ G
  one_form F G by_end (inl f) (inl g) s t u k l e = f ∙ sym g
  one_form F G by_end (inl f) (inr g) s t u k l e = absurd (heads 41 125 refl (sym (ap (λ (H : Form). shown H v ++ more) f) ∙ e ∙ ap (λ (H : Form). shown H w ++ rest) g))
  one_form F G by_end (inr f) (inl g) s t u k l e = absurd (heads 125 41 refl (sym (ap (λ (H : Form). shown H v ++ more) f) ∙ e ∙ ap (λ (H : Form). shown H w ++ rest) g))
  one_form F G by_end (inr f) (inr g) s t u k l e = f ∙ sym g
  one_form F G by_parenthesis f g s t u k l e = f ∙ sym g
  one_form F G by_bracket (inl f) (inl g) s t u k l e = f ∙ sym g
  one_form F G by_bracket (inl f) (inr g) s t u k l e =
      let p : TokenIn as_group ends v after = subst (λ (H : Form). TokenIn H ends v after) f t in
      let q : TokenIn as_context ends w later = subst (λ (H : Form). TokenIn H ends w later) g u in
      absurd (mixed_tags v.number w.number w.contents more rest p.0 q.0 q.1.0 (l (ap begins g)) (sym (ap (λ (H : Form). shown H v ++ more) f) ∙ e ∙ ap (λ (H : Form). shown H w ++ rest) g))
  one_form F G by_bracket (inr f) (inl g) s t u k l e =
      let p : TokenIn as_context ends v after = subst (λ (H : Form). TokenIn H ends v after) f t in
      let q : TokenIn as_group ends w later = subst (λ (H : Form). TokenIn H ends w later) g u in
      absurd (mixed_tags w.number v.number v.contents rest more q.0 p.0 p.1.0 (k (ap begins f)) (sym (ap (λ (H : Form). shown H w ++ rest) g) ∙ sym e ∙ ap (λ (H : Form). shown H v ++ more) f))
  one_form F G by_bracket (inr f) (inr g) s t u k l e = f ∙ sym g
  one_form F G by_digit f g s t u k l e = f ∙ sym g
  one_form F G by_word f g s t u k l e = absurd (s refl)

-- ---- one field

module _ (v w : FieldValue) (ends after later : List Closing) (more rest : List ℕ) (t : TokenIn (form_of v.name) ends v after) (u : TokenIn (form_of w.name) ends w later) (k : begins (form_of v.name) ≡ false → IsTrue (ends_field more))
    (l : begins (form_of w.name) ≡ false → IsTrue (ends_field rest)) where
  abbrev F : Form
  F = form_of v.name

  abbrev G : Form
  G = form_of w.name

  -- the two fields say the same, and the same comes after them
  abbrev AreOne : Type 0
  AreOne = (v.name ≡ w.name) × Told F v w more rest

  -- what is known of the second field, if it has the form of the first one
  token_so : F ≡ G → TokenIn F ends w later
  token_so same = subst (λ (H : Form). TokenIn H ends w later) (sym same) u

  ends_so : F ≡ G → begins F ≡ false → IsTrue (ends_field rest)
  ends_so same = subst (λ (H : Form). begins H ≡ false → IsTrue (ends_field rest)) (sym same) l

  without_word : (sort : Sort) → (sort ≡ by_word → ⊥) → sort_of F ≡ sort → sort_of G ≡ sort → shown F v ++ more ≡ shown G w ++ rest → AreOne
  without_word sort other r s e =
      let same = one_form v w ends after later more rest F G sort (form_with sort F r) (form_with sort G s) other t u k l e in
      bare_told v w ends after later more rest F (λ is. other (sym r ∙ is)) t (token_so same) k (ends_so same) (e ∙ ap (λ (H : Form). shown H w ++ rest) (sym same)) (named v.name) (subst (λ (H : Form). Named H w.name) (sym same) (named w.name))

  with_word : sort_of F ≡ by_word → sort_of G ≡ by_word → shown F v ++ more ≡ shown G w ++ rest → AreOne
  with_word r s e =
      let p = name_told v w ends after later t u more rest r s k l e in
      let same : F ≡ G = ap form_of p.0 in
      (p.0, value_told v w ends after later more rest p.0 F r t (token_so same) k (ends_so same) (p.1.0 ∙ ap (λ (H : Form). word_before H w) (sym same)) (p.1.1 ∙ ap (λ (H : Form). after_word H w ++ rest) (sym same)))

  shown_told : shown F v ++ more ≡ shown G w ++ rest → AreOne
  shown_told e =
      let a = shown_begins F ends v after more t in
      let b = shown_begins G ends w later rest u in
      let firsts : a.first ≡ b.first = head_is (sym a.is ∙ e ∙ b.is) in
      let sorts = one_sort (sort_of F) (sort_of G) a.first a.looks (subst (λ (x : ℕ). HasSort (sort_of G) x) (sym firsts) b.looks) in
      by (sort_of F) refl (sym sorts)
    where
      by : (sort : Sort) → sort_of F ≡ sort → sort_of G ≡ sort → AreOne
      by by_end r s = without_word by_end (λ is. absurd (cc)) r s e
      by by_parenthesis r s = without_word by_parenthesis (λ is. absurd (cc)) r s e
      by by_bracket r s = without_word by_bracket (λ is. absurd (cc)) r s e
      by by_digit r s = without_word by_digit (λ is. absurd (cc)) r s e
      by by_word r s = with_word r s e

  -- with the blank before them
  one_field : (first : Bool) → (lead first F ++ shown F v) ++ more ≡ (lead first G ++ shown G w) ++ rest → AreOne
  one_field first e = shown_told (sym (blank_told first F ends v after more t) ∙ ap without_blank e ∙ blank_told first G ends w later rest u)

-- ---- what is said

-- contents that are in no line are not said
alike_said : (n : Name) (xs ys : List ℕ) → Alike (form_of n) xs ys → contents_said n xs ≡ contents_said n ys
alike_said name.Destination xs ys e = e
alike_said name.Source xs ys e = e
alike_said name.Octets xs ys e = e
alike_said name.PortInfo xs ys e = e
alike_said name.Data xs ys e = e
alike_said name.OctetString xs ys e = e
alike_said name.CharacterString xs ys e = e
alike_said name.BitString xs ys e = e
alike_said name.Date xs ys e = e
alike_said name.TimeOfDay xs ys e = e
alike_said name.ContextPrimitive xs ys e = e
alike_said _ xs ys e = refl

-- so both fields have the same symbols
field_told : (v w : FieldValue) (more rest : List ℕ) → v.name ≡ w.name → Told (form_of v.name) v w more rest → field_said v ≡ field_said w
field_told v w more rest names told =
    let contents : contents_said v.name v.contents ≡ contents_said w.name w.contents = alike_said v.name v.contents w.contents told.1.0 ∙ ap (λ (n : Name). contents_said n w.contents) names in
    ap (λ (n : Name). name_said (number_of n) ∷ numbered v.number ∷ containing (Some (contents_said v.name v.contents)) ∷ []) names
    ∙ ap (λ (n : ℕ). name_said (number_of w.name) ∷ numbered n ∷ containing (Some (contents_said v.name v.contents)) ∷ []) told.0
    ∙ ap (λ (octets : List ℕ). name_said (number_of w.name) ∷ numbered w.number ∷ containing (Some octets) ∷ []) contents

-- and what is open after both is the same
open_same : (v w : FieldValue) (ends after later : List Closing) → v.name ≡ w.name → v.number ≡ w.number → TokenIn (form_of v.name) ends v after → TokenIn (form_of w.name) ends w later → after ≡ later
open_same v w ends after later names numbers t u =
    let named_so : TokenIn (form_of v.name) ends (field v.name w.number w.head w.contents) later = subst (λ (n : Name). TokenIn (form_of n) ends (field n w.number w.head w.contents) later) (sym names) u in
    let numbered_so : TokenIn (form_of v.name) ends (field v.name v.number w.head w.contents) later = subst (λ (n : ℕ). TokenIn (form_of v.name) ends (field v.name n w.head w.contents) later) (sym numbers) named_so in
    open_after (form_of v.name) v.name v.number v.head w.head v.contents w.contents ends after later t numbered_so

-- Tokens with the same line say the same.
pub same_said : (first : Bool) (ends : List Closing) (vs ws : List FieldValue) → AreTokens ends vs → AreTokens ends ws → printed_from first vs ≡ printed_from first ws → fields_said vs ≡ fields_said ws
same_said first ends [] [] t u e = refl
same_said first ends [] (w ∷ ws) t u e = absurd (whole_some first (form_of w.name) ends w u.0 (printed_from (begins (form_of w.name)) ws) u.1.0 e)
same_said first ends (v ∷ vs) [] t u e = absurd (whole_some first (form_of v.name) ends v t.0 (printed_from (begins (form_of v.name)) vs) t.1.0 (sym e))
same_said first ends (v ∷ vs) (w ∷ ws) t u e =
    let more = printed_from (begins (form_of v.name)) vs in
    let rest = printed_from (begins (form_of w.name)) ws in
    let one = one_field v w ends t.0 u.0 more rest t.1.0 u.1.0 (follows v vs) (follows w ws) first e in
    let opens = open_same v w ends t.0 u.0 one.0 one.1.0 t.1.0 u.1.0 in
    let rests : printed_from (begins (form_of v.name)) vs ≡ printed_from (begins (form_of v.name)) ws = one.1.1.1 ∙ ap (λ (n : Name). printed_from (begins (form_of n)) ws) (sym one.0) in
    let others = same_said (begins (form_of v.name)) t.0 vs ws t.1.1 (subst (λ (l : List Closing). AreTokens l ws) (sym opens) u.1.1) rests in
    ap (λ (l : List Symbol). l ++ fields_said vs) (field_told v w more rest one.0 one.1) ∙ ap (λ (l : List Symbol). field_said w ++ l) others
