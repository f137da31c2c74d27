-- What is found of a part of a line, told of the whole.
use Rattle.std.specs.Prelude.{◌≡◌, ◌⊎◌, ℕ, ◌+◌, ◌==◌, if◌then◌else◌, Bool, true, false, List, [], ◌∷◌, ◌++◌, take, Option, Result, IfOk, IfSome}
use Rattle.std.proofs.Common.{sym, ◌∙◌, ap, subst, inl, inr, Some, None, Ok, Err}
use Rattle.bac_text.specs.WalkText.{blank}
use Rattle.bac_field_parts.specs.Fields.{FieldValue}
use Rattle.bac_fields.specs.Line.{Form, form_of, as_word, as_truth, shown, begins}
use Rattle.bac_lines.specs.declared.closing.Closing.{Closing}
use Rattle.bac_lines.specs.declared.fault.LineFault.{LineFault}
use Rattle.bac_lines.specs.declared.said.Said.{Said}
use Rattle.bac_lines.specs.Scanning.{TokenIn, open_end}
use Rattle.bac_lines.specs.Found.{by_word, sort_of, word_before, after_word, ending, Adds, WordedSo, WordedAs, Scanned, Shows}
use Rattle.bac_lines.proofs.ScanLemmas.{take_sign}
use Rattle.bac_lines.proofs.StartLemmas.{lead_of, end_shown, end_token, end_begins}

-- what follows of what was found
pub found_both : {P R Q : ℕ × Bool → Type 0} → ((f : ℕ × Bool) → P f → R f → Q f) → (r : Result (Option (ℕ × Bool)) LineFault) → IfOk r (λ o. IfSome o P) → IfOk r (λ o. IfSome o R) → IfOk r (λ o. IfSome o Q)
found_both to (Ok (Some f)) p r = to f p r
found_both to (Ok None) p r = tt
found_both to (Err e) p r = tt

pub found_so : {P Q : ℕ × Bool → Type 0} → ((f : ℕ × Bool) → P f → Q f) → (r : Result (Option (ℕ × Bool)) LineFault) → IfOk r (λ o. IfSome o P) → IfOk r (λ o. IfSome o Q)
found_so to r p = found_both (λ f p q. to f p) r p p

-- a word by itself
pub word_alone : (word line : List ℕ) (ends : List Closing) (old new : Said) (f : ℕ × Bool)
    → (v : FieldValue) × (((form_of v.name ≡ as_word) ⊎ (form_of v.name ≡ as_truth)) × (TokenIn (form_of v.name) ends v ends × ((word ≡ word_before (form_of v.name) v) × ((f.1 ≡ false) × Adds v old new))))
    → f.0 ≡ 0 → WordedAs word line f ends ends old new
word_alone word line ends old new f (v, (inl k, (t, (w, (b, a))))) z =
    record { field = v; worded = ap sort_of k; token = t; is_word = w; is_text = ap (λ (n : ℕ). take n line) z ∙ sym (ap (λ (form : Form). after_word form v) k); begun = b ∙ sym (ap begins k); added = a }
word_alone word line ends old new f (v, (inr k, (t, (w, (b, a))))) z =
    record { field = v; worded = ap sort_of k; token = t; is_word = w; is_text = ap (λ (n : ℕ). take n line) z ∙ sym (ap (λ (form : Form). after_word form v) k); begun = b ∙ sym (ap begins k); added = a }

-- a word with which only one form begins
pub word_of_form : (form : Form) (word line : List ℕ) (ends : List Closing) (old new : Said) → sort_of form ≡ by_word → begins form ≡ false → ((v : FieldValue) → form_of v.name ≡ form → word ≡ word_before form v) → (f : ℕ × Bool)
    → (v : FieldValue) × ((form_of v.name ≡ form) × (TokenIn form ends v ends × ((take f.0 line ≡ after_word form v) × ((f.1 ≡ false) × Adds v old new))))
    → WordedAs word line f ends ends old new
word_of_form form word line ends old new s b w f (v, (k, (t, (l, (e, a))))) =
    record {
      field = v;
      worded = ap sort_of k ∙ s;
      token = subst (λ (form : Form). TokenIn form ends v ends) (sym k) t;
      is_word = w v k ∙ sym (ap (λ (form : Form). word_before form v) k);
      is_text = l ∙ sym (ap (λ (form : Form). after_word form v) k);
      begun = e ∙ sym (ap begins k ∙ b);
      added = a;
    }

-- a word and a sign
pub word_and_sign : (sign : ℕ) (word line tail : List ℕ) (ends after : List Closing) (old new : Said) → line ≡ sign ∷ tail → (f : ℕ × Bool) → WordedSo sign word tail f ends after old new → WordedAs word line f ends after old new
word_and_sign sign word line tail ends after old new l f s =
    record { field = s.field; worded = s.worded; token = s.token; is_word = s.is_word; is_text = ap (λ (line : List ℕ). take f.0 line) l ∙ s.is_text; begun = s.begun; added = s.added }

-- an end
pub end_octet : (x : ℕ) → (x ≡ 41) ⊎ (x ≡ 125) → x ≡ (if x == 41 then 41 else 125)
end_octet x (inl e) = e ∙ sym (ap (λ (y : ℕ). if y == 41 then 41 else 125) e)
end_octet x (inr e) = e ∙ sym (ap (λ (y : ℕ). if y == 41 then 41 else 125) e)

pub end_scanned : (first parenthesis : Bool) (line rest : List ℕ) (x : ℕ) (ends after : List Closing) (old new : Said) → line ≡ x ∷ rest → x ≡ (if parenthesis then 41 else 125) → (f : ℕ × Bool)
    → (v : FieldValue) × ((form_of v.name ≡ ending parenthesis) × ((ends ≡ after ++ open_end v.name v.number ∷ []) × ((f.1 ≡ false) × Adds v old new)))
    → f.0 ≡ 1 → Scanned first line f ends after old new
end_scanned first parenthesis line rest x ends after old new l is f (v, (k, (e, (b, a)))) one =
    record {
      field = v;
      token = end_token parenthesis (form_of v.name) v ends after k e;
      is_text = ap (λ (n : ℕ). take n line) one ∙ ap (λ (l : List ℕ). take 1 l) l ∙ ap (λ (y : ℕ). y ∷ []) is ∙ sym (end_shown first parenthesis (form_of v.name) v k);
      begun = b ∙ sym (end_begins parenthesis (form_of v.name) k);
      added = a;
    }

-- what is no end, with the blank before it, if it has one
pub shows_first : (first : Bool) (line : List ℕ) (ends after : List Closing) (old new : Said) → first ≡ true → (f : ℕ × Bool) → Shows line f ends after old new → Scanned first line f ends after old new
shows_first first line ends after old new e f s =
    record {
      field = s.field;
      token = s.token;
      is_text = s.is_text ∙ sym (ap (λ (l : List ℕ). l ++ shown (form_of s.field.name) s.field) (lead_of first (form_of s.field.name) s.no_end ∙ ap blank e));
      begun = s.begun;
      added = s.added;
    }

pub shows_next : (first begin : Bool) (line tail : List ℕ) (n : ℕ) (ends after : List Closing) (old new : Said) → first ≡ false → line ≡ 32 ∷ tail → Shows tail (n, begin) ends after old new → Scanned first line (n + 1, begin) ends after old new
shows_next first begin line tail n ends after old new e l s =
    record {
      field = s.field;
      token = s.token;
      is_text = ap (λ (l : List ℕ). take (n + 1) l) l ∙ take_sign 32 tail n ∙ ap (λ (l : List ℕ). 32 ∷ l) s.is_text
          ∙ sym (ap (λ (l : List ℕ). l ++ shown (form_of s.field.name) s.field) (lead_of first (form_of s.field.name) s.no_end ∙ ap blank e));
      begun = s.begun;
      added = s.added;
    }
