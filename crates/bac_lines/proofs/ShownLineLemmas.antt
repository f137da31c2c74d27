-- The number before a line, and lines that are those of no frame.
use Rattle.std.specs.Prelude.{◌≡◌, ℕ, ◌+◌, ◌<◌, ◌≤◌, List, ◌∷◌, ◌++◌, length, take, drop, slice_index, true, false, IsTrue, Option, None, Some, IfNone, IfSome, MatchOption, refl}
use Rattle.std.specs.Option.{is_some, option_map, unwrap_or}
use Rattle.std.proofs.Common.{sym, ◌∙◌, ap, subst, arith, inl, inr, suc}
use Rattle.std.proofs.Math.Seq.{split_at}
use Rattle.std.proofs.lemmas.List.{take-append-drop, append_cancel_left, get_or-drop}
use Rattle.bac_text.specs.Words.{number}
use Rattle.bac_pack.specs.LineForms.{IsRefused}
use Rattle.bac_pack.specs.Lines.{without_return}
use Rattle.bac_pack.specs.declared.faults.PackFault.{PackFault}
use Rattle.bac_pack.specs.declared.faults.PackFault.TheVariants.{LineTooLong, NotHex, RecordTooLong, ReadFault, WriteFault, TooManyLines, OutOfMemory, Unreadable, Refused}
use Rattle.bac_lines.specs.declared.fault.LineFault.{LineFault}
use Rattle.bac_lines.specs.declared.fault.LineFault.TheVariants.{OutOfMemory as Memory, Stop}
use Rattle.bac_lines.specs.Lines.{IfStop, IsNoLine, after, farther}
use Rattle.bac_lines.specs.Scanning.{clear, each, is_decimal}
use Rattle.bac_lines.specs.ShownLines.{RECORDS, HasNoLine, IsColumn, IsNumbered, IsUnread, StandsForNone}
use Rattle.bac_lines.proofs.Digits.{decimal_digits}
use Rattle.bac_lines.proofs.RecordNumbers.{no_digit}
use Rattle.bac_lines.proofs.SymbolRuns.{run_is_one}

pub where_none : {X P : Type 0} (o : Option X) → is_some o ≡ false → IfNone o P → P
where_none None e h = h
where_none (Some x) e h = absurd (cc)

pub where_some : {X : Type 0} {P : X → Type 0} (o : Option X) → is_some o ≡ true → IfSome o P → (x : X) × P x
where_some (Some x) e h = (x, h)
where_some None e h = absurd (cc)

pub at_some : {X : Type 0} (P : Type 0) (Q : X → Type 0) (o : Option X) (x : X) → o ≡ Some x → MatchOption o P Q → Q x
at_some {X} P Q o x e h = subst (λ (p : Option X). MatchOption p P Q) e h

pub at_none : {X : Type 0} (f : X → ℕ) (n : ℕ) (o : Option X) → o ≡ None → unwrap_or (option_map f o) 0 ≡ n → 0 ≡ n
at_none {X} f n o e h = subst (λ (p : Option X). unwrap_or (option_map f p) 0 ≡ n) e h

-- the line of no frame begins with a digit
no_text : (line : List ℕ) (digit : ℕ) → digit < 10 → slice_index line 0 ≡ 48 + digit → IsNoLine line
no_text line digit small is f octets least e = omega (arith, small, is, ap (λ (l : List ℕ). slice_index l 0) e)

-- no number comes before a line that begins with no digit
pub only_alone : (line : List ℕ) → IsTrue (clear is_decimal line) → IsNoLine line → HasNoLine line
only_alone line ends none rest (inl same) = subst IsNoLine same none
only_alone line ends none rest (inr n) = absurd (no_digit line ends n.0 (32 ∷ rest) (omega (arith, n.2)) n.3)

-- a line that begins with a digit
module _ (line : List ℕ) (digit : ℕ) (small : digit < 10) (is : slice_index line 0 ≡ 48 + digit) where
  pub no_number : ((n : ℕ) (more : List ℕ) → 1 ≤ n → n ≤ RECORDS → IsTrue (clear is_decimal more) → line ≡ number n ++ more → ⊥) → HasNoLine line
  no_number none rest (inl same) = subst IsNoLine same (no_text line digit small is)
  no_number none rest (inr n) = absurd (none n.0 (32 ∷ rest) n.1 n.2 refl n.3)

  -- and with the number of a record
  module _ (digits n : ℕ) (fits : n ≤ RECORDS) (read : take digits line ≡ number n) where
    -- what comes after another number comes after that one
    one_rest : (m : ℕ) (more rest : List ℕ) → m ≤ RECORDS → IsTrue (clear is_decimal more) → IsTrue (clear is_decimal rest) → line ≡ take digits line ++ more → line ≡ number m ++ rest → more ≡ rest
    one_rest m more rest low ends clears e f =
        let same : number m ≡ take digits line =
        run_is_one is_decimal (take digits line) (number m) more rest (subst (λ (l : List ℕ). IsTrue (each is_decimal l)) (sym read) (decimal_digits n (omega (arith, fits)))) (decimal_digits m (omega (arith, low))) (sym e ∙ f) ends clears in
        append_cancel_left (take digits line) more rest (sym e ∙ f ∙ ap (λ (l : List ℕ). l ++ rest) same)

    pub after_blank : digits < length line → slice_index line digits ≡ 32 → IsNoLine (drop (digits + 1) line) → HasNoLine line
    after_blank within blank none rest (inl same) = subst IsNoLine same (no_text line digit small is)
    after_blank within blank none rest (inr m) =
        let next : suc digits ≡ digits + 1 = omega arith in
        let whole : line ≡ take digits line ++ 32 ∷ drop (digits + 1) line =
        split_at line digits 0 within ∙ ap (λ (k : ℕ). take digits line ++ slice_index line digits ∷ drop k line) next ∙ ap (λ (k : ℕ). take digits line ++ k ∷ drop (digits + 1) line) blank in
        let same : 32 ∷ drop (digits + 1) line ≡ 32 ∷ rest = one_rest m.0 (32 ∷ drop (digits + 1) line) (32 ∷ rest) m.2 refl refl whole m.3 in
        subst IsNoLine (ap (drop 1) same) none

    pub no_blank : IsTrue (clear is_decimal (drop digits line)) → (slice_index line digits ≡ 32 → ⊥) → HasNoLine line
    no_blank ends other rest (inl same) = subst IsNoLine same (no_text line digit small is)
    no_blank ends other rest (inr m) =
        let same : drop digits line ≡ 32 ∷ rest = one_rest m.0 (drop digits line) (32 ∷ rest) m.2 ends refl (sym (take-append-drop digits line)) m.3 in
        let place : digits ≡ digits + 0 = omega arith in
        absurd (other (ap (slice_index line) place ∙ sym (get_or-drop digits line 0 0) ∙ ap (λ (l : List ℕ). slice_index l 0) same))

-- ---- what is reported

pub refused_line : (line stripped : List ℕ) (number : ℕ) (fault : PackFault) → stripped ≡ without_return line → IsRefused (IsUnread stripped) number fault → IsRefused (StandsForNone line) number fault
refused_line line stripped number (Unreadable at column) same h =
    (h.0, (subst (λ (l : List ℕ). IsColumn l column) same h.1.0, λ octets s. h.1.1 s.rest (subst (λ (l : List ℕ). IsNumbered l s.rest) (sym same) s.numbered) s.frame octets s.canonical s.is_line))
refused_line line stripped number (NotHex at) same h = absurd h.1
refused_line line stripped number (RecordTooLong at) same h = absurd h.1
refused_line line stripped number (Refused at) same h = absurd h.1
refused_line line stripped number (OutOfMemory at) same h = h
refused_line line stripped number (LineTooLong at) same h = h
refused_line line stripped number (ReadFault at) same h = h
refused_line line stripped number (WriteFault written) same h = h
refused_line line stripped number TooManyLines same h = h

-- the place at which a line stops does not matter
pub none_of_rest : (line rest slice : List ℕ) (start place : ℕ) (fault farthest told : LineFault) → (IsNoLine rest → HasNoLine line) → slice ≡ rest → farthest ≡ farther place fault → told ≡ after start farthest → IfStop fault (λ p. IsNoLine slice) → IfStop told (λ p. HasNoLine line)
none_of_rest line rest slice start place fault farthest told only same far at h = subst (λ (f : LineFault). IfStop f (λ p. HasNoLine line)) (sym (at ∙ ap (after start) far)) (by fault h)
  where
    by : (f : LineFault) → IfStop f (λ p. IsNoLine slice) → IfStop (after start (farther place f)) (λ p. HasNoLine line)
    by Memory h = tt
    by (Stop q) h = only (subst IsNoLine same h)
