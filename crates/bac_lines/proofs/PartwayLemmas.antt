-- A line that is scanned to some place.
use Rattle.std.specs.Prelude.{◌≡◌, ℕ, ◌+◌, ◌-◌, ◌<◌, ◌≤◌, List, [], ◌∷◌, ◌++◌, length, take, drop, Bool, false, IsTrue, Option, refl}
use Rattle.std.proofs.Common.{sym, ◌∙◌, ap, subst, arith, append_assoc}
use Rattle.std.proofs.lemmas.List.{append-nil, drop-drop, drop_all, take_all, length-drop}
use Rattle.std.proofs.Math.Seq.{drop-append_seam}
use Rattle.bac_field_parts.specs.declared.field.Field.{Field}
use Rattle.bac_field_parts.specs.Names.{number_of}
use Rattle.bac_field_parts.specs.Fields.{FieldValue}
use Rattle.bac_fields.specs.Line.{form_of, lead, shown, begins, printed, printed_from}
use Rattle.bac_field_parts.specs.Refused.{field_symbols}
use Rattle.bac_field_parts.specs.Symbols.{Symbol, named, numbered, containing, finished, field_said, contents_in, symbols_in}
use Rattle.bac_lines.specs.declared.closing.Closing.{Closing}
use Rattle.bac_lines.specs.declared.said.Said.{Said}
use Rattle.bac_lines.specs.Scanning.{TokenIn, AreTokens, ends_field}
use Rattle.bac_lines.specs.Found.{Adds, Scanned, AreScanned, fields_said}
use Rattle.bac_lines.proofs.ScanLemmas.{take_next}
use Rattle.bac_lines.proofs.StartLemmas.{whole_some, printed_ends}

-- ---- what is said so far

-- The fields are said, whatever contents come after theirs.
pub record Holds (vs : List FieldValue) (said : Said) : Type 0 where
  pub are : (tail : List ℕ) → field_symbols (said.contents.items ++ tail) said.fields.items ≡ fields_said vs

field_symbols-append : (octets : List ℕ) (xs ys : List Field) → field_symbols octets (xs ++ ys) ≡ field_symbols octets xs ++ field_symbols octets ys
field_symbols-append octets [] ys = refl
field_symbols-append octets (x ∷ xs) ys = ap (λ (l : List Symbol). named x.name ∷ numbered x.number ∷ containing (contents_in octets x) ∷ l) (field_symbols-append octets xs ys)

fields_said-append : (vs ws : List FieldValue) → fields_said (vs ++ ws) ≡ fields_said vs ++ fields_said ws
fields_said-append [] ws = refl
fields_said-append (v ∷ vs) ws = ap (λ (l : List Symbol). field_said v ++ l) (fields_said-append vs ws) ∙ sym (append_assoc (field_said v) (fields_said vs) (fields_said ws))

pub said_more : (vs : List FieldValue) (v : FieldValue) (old new : Said) → Holds vs old → Adds v old new → Holds (vs ++ v ∷ []) new
said_more vs v old new h a = record {
  are = λ tail.
      ap (field_symbols (new.contents.items ++ tail)) a.fields_are
      ∙ field_symbols-append (new.contents.items ++ tail) old.fields.items (a.field ∷ [])
      ∙ ap (λ (l : List Symbol). l ++ field_symbols (new.contents.items ++ tail) (a.field ∷ [])) (before tail)
      ∙ ap (λ (l : List Symbol). fields_said vs ++ l) (last tail)
      ∙ sym (fields_said-append vs (v ∷ []));
}
  where
    before : (tail : List ℕ) → field_symbols (new.contents.items ++ tail) old.fields.items ≡ fields_said vs
    before tail = ap (λ (c : List ℕ). field_symbols c old.fields.items) (ap (λ (c : List ℕ). c ++ tail) a.contents_are ∙ append_assoc old.contents.items a.contents tail) ∙ h.are (a.contents ++ tail)

    last : (tail : List ℕ) → field_symbols (new.contents.items ++ tail) (a.field ∷ []) ≡ field_said v ++ []
    last tail =
        ap (λ (n : ℕ). named n ∷ numbered a.field.number ∷ containing (contents_in (new.contents.items ++ tail) a.field) ∷ []) a.is_named
        ∙ ap (λ (n : ℕ). named (number_of v.name) ∷ numbered n ∷ containing (contents_in (new.contents.items ++ tail) a.field) ∷ []) a.is_numbered
        ∙ ap (λ (c : Option (List ℕ)). named (number_of v.name) ∷ numbered v.number ∷ containing c ∷ []) (a.holds tail)

symbols_are : (octets : List ℕ) (fields : List Field) → symbols_in octets fields ≡ field_symbols octets fields ++ finished ∷ []
symbols_are octets [] = refl
symbols_are octets (x ∷ xs) = ap (λ (l : List Symbol). named x.name ∷ numbered x.number ∷ containing (contents_in octets x) ∷ l) (symbols_are octets xs)

pub all_said : (vs : List FieldValue) (said : Said) → Holds vs said → symbols_in said.contents.items said.fields.items ≡ fields_said vs ++ finished ∷ []
all_said vs said h =
    symbols_are said.contents.items said.fields.items
    ∙ ap (λ (l : List Symbol). l ++ finished ∷ []) (ap (λ (c : List ℕ). field_symbols c said.fields.items) (sym (append-nil said.contents.items)) ∙ h.are [])

-- ---- how far a line is scanned

-- Of the fields of the line some are said, and the rest of the line has the others.
pub record IsPartway (line : List ℕ) (vs : List FieldValue) (first : Bool) (taken : ℕ) (ends : List Closing) (said : Said) : Type 0 where
  pub done : List FieldValue
  pub rest : List FieldValue
  pub are : vs ≡ done ++ rest
  pub is_line : drop taken line ≡ printed_from first rest
  pub tokens : AreTokens ends rest
  pub holds : Holds done said

-- so for each list of fields that the line may have
abbrev pub ScansTo : List ℕ → Bool → ℕ → List Closing → Said → Type 0
ScansTo line first taken ends said = (vs : List FieldValue) → AreTokens [] vs → line ≡ printed vs → IsPartway line vs first taken ends said

-- the next field, where the line goes on
pub record NextField (line : List ℕ) (vs : List FieldValue) (first : Bool) (taken : ℕ) (ends : List Closing) (said : Said) : Type 0 where
  pub done : List FieldValue
  pub v : FieldValue
  pub rest : List FieldValue
  pub after : List Closing
  pub are : vs ≡ done ++ v ∷ rest
  pub is_line : drop taken line ≡ (lead first (form_of v.name) ++ shown (form_of v.name) v) ++ printed_from (begins (form_of v.name)) rest
  pub token : TokenIn (form_of v.name) ends v after
  pub tokens : AreTokens after rest
  pub holds : Holds done said

pub next_field : (line : List ℕ) (vs : List FieldValue) (first : Bool) (taken : ℕ) (ends : List Closing) (said : Said) → taken < length line → IsPartway line vs first taken ends said → NextField line vs first taken ends said
next_field line vs first taken ends said lt p = by p.rest p.are p.is_line p.tokens
  where
    left : (l : List ℕ) (n : ℕ) → n < length l → drop n l ≡ [] → ⊥
    left l n lt e = omega (arith, lt, length-drop n l, ap length e)

    by : (rest : List FieldValue) → vs ≡ p.done ++ rest → drop taken line ≡ printed_from first rest → AreTokens ends rest → NextField line vs first taken ends said
    by [] a l t = absurd (left line taken lt l)
    by (v ∷ rest) a l t = record { done = p.done; v = v; rest = rest; after = t.0; are = a; is_line = l; token = t.1.0; tokens = t.1.1; holds = p.holds }

pub follows : (v : FieldValue) (rest : List FieldValue) → begins (form_of v.name) ≡ false → IsTrue (ends_field (printed_from (begins (form_of v.name)) rest))
follows v rest e = subst (λ (b : Bool). IsTrue (ends_field (printed_from b rest))) (sym e) (printed_ends rest)

pub scan_goes_on : (line : List ℕ) (vs : List FieldValue) (first begin : Bool) (taken more : ℕ) (ends next : List Closing) (old new : Said) (f : NextField line vs first taken ends old)
    → more ≡ length (lead first (form_of f.v.name) ++ shown (form_of f.v.name) f.v) → begin ≡ begins (form_of f.v.name) → next ≡ f.after → Adds f.v old new → IsPartway line vs begin (taken + more) next new
scan_goes_on line vs first begin taken more ends next old new f size flag after a = record {
  done = f.done ++ f.v ∷ [];
  rest = f.rest;
  are = f.are ∙ sym (append_assoc f.done (f.v ∷ []) f.rest);
  is_line = sym (drop-drop more taken line) ∙ ap (drop more) f.is_line ∙ ap (λ (n : ℕ). drop n ((lead first (form_of f.v.name) ++ shown (form_of f.v.name) f.v) ++ printed_from (begins (form_of f.v.name)) f.rest)) size
      ∙ drop-append_seam (lead first (form_of f.v.name) ++ shown (form_of f.v.name) f.v) (printed_from (begins (form_of f.v.name)) f.rest) ∙ ap (λ (b : Bool). printed_from b f.rest) (sym flag);
  tokens = subst (λ (s : List Closing). AreTokens s f.rest) (sym after) f.tokens;
  holds = said_more f.done f.v old new f.holds a;
}

-- at its end all fields are said
pub scan_ends : (line : List ℕ) (vs : List FieldValue) (first : Bool) (taken : ℕ) (ends : List Closing) (said : Said) → length line ≤ taken → IsPartway line vs first taken ends said
    → symbols_in said.contents.items said.fields.items ≡ fields_said vs ++ finished ∷ []
scan_ends line vs first taken ends said le p = by p.rest p.are (sym (drop_all taken line le) ∙ p.is_line) p.tokens
  where
    by : (rest : List FieldValue) → vs ≡ p.done ++ rest → [] ≡ printed_from first rest → AreTokens ends rest → symbols_in said.contents.items said.fields.items ≡ fields_said vs ++ finished ∷ []
    by [] a l t = all_said p.done said p.holds ∙ ap (λ (ws : List FieldValue). fields_said ws ++ finished ∷ []) (sym (a ∙ append-nil p.done))
    by (v ∷ rest) a l t = absurd (whole_some first (form_of v.name) ends v t.0 (printed_from (begins (form_of v.name)) rest) t.1.0 l)

-- ---- what is scanned is printed

-- So many octets of the line are those of fields, and these are said, whatever fields come next.
pub record IsScannedTo (line : List ℕ) (first : Bool) (taken : ℕ) (ends : List Closing) (said : Said) : Type 0 where
  pub done : List FieldValue
  pub tokens : (rest : List FieldValue) → AreTokens ends rest → AreTokens [] (done ++ rest)
  pub is_line : (rest : List FieldValue) → take taken line ++ printed_from first rest ≡ printed (done ++ rest)
  pub holds : Holds done said

pub scanned_more : (line : List ℕ) (first begin : Bool) (taken more : ℕ) (ends next : List Closing) (old new : Said) → taken ≤ length line → IsScannedTo line first taken ends old
    → Scanned first (take (length line - taken) (drop taken line)) (more, begin) ends next old new → IsScannedTo line begin (taken + more) next new
scanned_more line first begin taken more ends next old new le p s = record {
  done = p.done ++ s.field ∷ [];
  tokens = λ rest t. subst (λ (vs : List FieldValue). AreTokens [] vs) (sym (append_assoc p.done (s.field ∷ []) rest)) (p.tokens (s.field ∷ rest) (next, (s.token, t)));
  is_line = λ rest.
      ap (λ (l : List ℕ). l ++ printed_from begin rest) (take_next line taken more le ∙ ap (λ (l : List ℕ). take taken line ++ l) s.is_text)
      ∙ append_assoc (take taken line) (lead first (form_of s.field.name) ++ shown (form_of s.field.name) s.field) (printed_from begin rest)
      ∙ ap (λ (b : Bool). take taken line ++ ((lead first (form_of s.field.name) ++ shown (form_of s.field.name) s.field) ++ printed_from b rest)) s.begun
      ∙ p.is_line (s.field ∷ rest)
      ∙ ap printed (sym (append_assoc p.done (s.field ∷ []) rest));
  holds = said_more p.done s.field old new p.holds s.added;
}

pub all_scanned : (line : List ℕ) (first : Bool) (taken : ℕ) (ends : List Closing) (said : Said) → length line ≤ taken → IsScannedTo line first taken ends said → AreScanned line said
all_scanned line first taken ends said le p = record {
  fields = p.done ++ [];
  tokens = p.tokens [] tt;
  is_line = sym (append-nil line) ∙ ap (λ (l : List ℕ). l ++ []) (sym (take_all taken line le)) ∙ p.is_line [];
  are_said = all_said p.done said p.holds ∙ ap (λ (vs : List FieldValue). fields_said vs ++ finished ∷ []) (sym (append-nil p.done));
}
