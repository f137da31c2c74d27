-- Outputs of which a part was written.
use Rattle.std.proofs.Common.{◌≡◌, ◌≢◌, ℕ, zero, suc, ◌+◌, ◌-◌, ◌≤◌, ◌<◌, List, [], ◌∷◌, ◌++◌, length, take, drop, refl, sym, ap, subst, ◌∙◌, append_assoc, arith, length-append, length-drop, take-append-drop}
use Rattle.std.proofs.lemmas.List.{take-append-le}
use lib.Seq.{take-append-add}
use Rattle.bac_record.specs.Outputs.{Outputs, OutputsWithEnds}
use Rattle.bac_record.specs.Batches.{IsFirstPast}

-- So many octets of the outputs are those of the records in front, and a part of the next one's.
pub record Cut (line : ℕ → List ℕ → List ℕ → Type 0) (number : ℕ) (list : List (List ℕ)) (output : List ℕ) (count index : ℕ) : Type 0 where
  pub front : List (List ℕ)
  pub octets : List ℕ
  pub behind : List (List ℕ)
  pub before : List ℕ
  pub part : List ℕ
  pub unsent : List ℕ
  pub whole : list ≡ front ++ octets ∷ behind
  pub counted : length front ≡ index
  pub outputs : Outputs line number front before
  pub next : line (length front + number) octets (part ++ unsent)
  pub is_unsent : unsent ≢ []
  pub is_taken : take count output ≡ before ++ part

-- a part of the first output
cut_first : (line : ℕ → List ℕ → List ℕ → Type 0) (number : ℕ) (octets : List ℕ) (list : List (List ℕ)) (first more output : List ℕ) (count : ℕ)
    → line number octets first → output ≡ first ++ more → count < length first → Cut line number (octets ∷ list) output count 0
cut_first line number octets list first more output count here is short =
    let at : number ≡ 0 + number = omega arith in
    let halves : take count first ++ drop count first ≡ first = take-append-drop count first in
    record {
      front = [];
      octets = octets;
      behind = list;
      before = [];
      part = take count first;
      unsent = drop count first;
      whole = refl;
      counted = refl;
      outputs = refl;
      next = subst (λ n. line n octets (take count first ++ drop count first)) at (subst (line number octets) (sym halves) here);
      is_unsent = λ none. omega (arith, ap length none, length-drop count first);
      is_taken = ap (take count) is ∙ take-append-le count first more (omega arith);
    }

-- the first output and a cut of the others
cut_behind : (line : ℕ → List ℕ → List ℕ → Type 0) (number : ℕ) (octets : List ℕ) (list : List (List ℕ)) (first more output : List ℕ) (count index : ℕ)
    → line number octets first → output ≡ first ++ more → Cut line (number + 1) list more count index → Cut line number (octets ∷ list) output (length first + count) (suc index)
cut_behind line number octets list first more output count index here is later =
    let at : length later.front + (number + 1) ≡ length (octets ∷ later.front) + number = omega arith in
    record {
      front = octets ∷ later.front;
      octets = later.octets;
      behind = later.behind;
      before = first ++ later.before;
      part = later.part;
      unsent = later.unsent;
      whole = ap (λ (l : List (List ℕ)). octets ∷ l) later.whole;
      counted = omega (arith, later.counted);
      outputs = (first, later.before, here, later.outputs, refl);
      next = subst (λ n. line n later.octets (later.part ++ later.unsent)) at later.next;
      is_unsent = later.is_unsent;
      is_taken = ap (take (length first + count)) is ∙ take-append-add first more count ∙ ap (λ l. first ++ l) later.is_taken ∙ sym (append_assoc first later.before later.part);
    }

-- The first end that is past the place tells the record.
pub cut_at : (line : ℕ → List ℕ → List ℕ → Type 0) (number start : ℕ) (list : List (List ℕ)) (output ends : List ℕ) (count index : ℕ)
    → OutputsWithEnds line number start list output ends → count < length output → IsFirstPast ends (start + count) index → Cut line number list output count index
cut_at line number start [] output ends count index outputs short past = absurd (omega (arith, ap length outputs.0))
cut_at line number start (octets ∷ list) output ends count zero outputs short past =
    let here = subst (λ l. IsFirstPast l (start + count) zero) outputs.6 past in
    let below : start + count < start + length outputs.0 = here.2 (omega arith) in
    cut_first line number octets list outputs.0 outputs.1 output count outputs.3 outputs.5 (omega arith)
cut_at line number start (octets ∷ list) output ends count (suc index) outputs short past =
    let begin = start + length outputs.0 in
    let here = subst (λ l. IsFirstPast l (start + count) (suc index)) outputs.6 past in
    let passed : begin ≤ start + count = here.1 0 (omega arith) in
    let rest = count - length outputs.0 in
    let same : length outputs.0 + rest ≡ count = omega arith in
    let place : start + count ≡ begin + rest = omega arith in
    let later : IsFirstPast outputs.2 (start + count) index = (omega (arith, here.0), (λ k h. here.1 (suc k) (omega arith)), λ h. here.2 (omega arith)) in
    let small : rest < length outputs.1 = omega (arith, ap length outputs.5, length-append outputs.0 outputs.1) in
    subst (λ n. Cut line number (octets ∷ list) output n (suc index)) same
    (cut_behind line number octets list outputs.0 outputs.1 output rest index outputs.3 outputs.5
    (cut_at line (number + 1) begin list outputs.1 outputs.2 rest index outputs.4 small (subst (λ n. IsFirstPast outputs.2 n index) place later)))
