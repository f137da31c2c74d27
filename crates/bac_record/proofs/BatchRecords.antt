-- One record more in a batch.
use Rattle.std.proofs.Common.{◌≡◌, inl, inr, ℕ, ◌+◌, ◌*◌, ◌-◌, ◌≤◌, ◌<◌, List, [], ◌∷◌, ◌++◌, length, take, drop, refl, sym, ap, subst, ◌∙◌, arith, length-append, length-drop}
use lib.Seq.{take-add, take-append_seam}
use Rattle.std.proofs.lemmas.List.{take_rest}
use Rattle.std.proofs.Math.Nat.{mul-le-mul_right}
use Rattle.std.specs.Prelude.{vec_capacity}
use Rattle.bac_record.specs.Records.{joined, record_of, HELD, IsRecord, MOST}
use Rattle.bac_record.specs.Outputs.{OutputsWithEnds, Tally}
use Rattle.bac_record.specs.Batches.{Counts, IsAdded, Holds, HasRoom, Deals, IsFront, MOST_HELD}
use Rattle.bac_record.specs.declared.batches.Batch.{Batch}
use Rattle.bac_record.proofs.Appended.{joined-more, AllByRecursion-append, Tally-append, with_ends-more}

-- the count of one record
pub counted : (P : List ℕ → Type 0) (list : List (List ℕ)) (octets : List ℕ) (old new : ℕ) → Tally P list old → Counts (P octets) old new → Tally P (list ++ octets ∷ []) new
counted P list octets old new tally counts = elim counts [
  | inl c ↦ subst (Tally P (list ++ octets ∷ [])) (sym c.1) (Tally-append P list (octets ∷ []) old 1 tally (inl (0, c.0, refl, refl)))
  | inr c ↦ (let none : new ≡ old + 0 = omega (arith, c.1) in
      subst (Tally P (list ++ octets ∷ [])) (sym none) (Tally-append P list (octets ∷ []) old 0 tally (inr (c.0, refl))))
]

-- The batch holds one record more.
pub holds_more : (line : ℕ → List ℕ → List ℕ → Type 0) (is_canonical is_refused : List ℕ → Type 0) (number : ℕ) (list : List (List ℕ)) (octets : List ℕ) (old new : Batch)
    → Holds line is_canonical is_refused number list old → IsRecord octets
    → IsAdded line is_canonical is_refused (length list + number) octets old new → Holds line is_canonical is_refused number (list ++ octets ∷ []) new
holds_more line is_canonical is_refused number list octets old new before small added =
    let end : 0 + length (old.output.items ++ added.output) ≡ length new.output.items = omega (arith, ap length added.appended) in
    let outputs = with_ends-more line number 0 list old.output.items old.ends.items octets added.output before.outputs added.is_output in
    let ended = subst (λ n. OutputsWithEnds line number 0 (list ++ octets ∷ []) (old.output.items ++ added.output) (old.ends.items ++ n ∷ [])) end outputs in
    let written = subst (λ l. OutputsWithEnds line number 0 (list ++ octets ∷ []) l (old.ends.items ++ length new.output.items ∷ [])) (sym added.appended) ended in
    record {
      each = AllByRecursion-append IsRecord list (octets ∷ []) before.each (small, tt);
      outputs = subst (OutputsWithEnds line number 0 (list ++ octets ∷ []) new.output.items) (sym added.ends) written;
      sums = record {
        records = simp length-append (omega (arith, added.records, before.sums.records));
        canonical = counted is_canonical list octets old.summary.canonical new.summary.canonical before.sums.canonical added.canonical;
        refused = counted is_refused list octets old.summary.refused new.summary.refused before.sums.refused added.refused;
      };
    }

-- the octets of one record more
pub taken_record : (count : ℕ) (octets first : List ℕ) (list : List (List ℕ)) → count ≤ length octets → take count octets ≡ joined list → IsFront first (drop count octets)
    → take (count + (length first + 2)) octets ≡ joined (list ++ first ∷ [])
taken_record count octets first list within whole front =
    let size : length (record_of first) ≡ length first + 2 = omega arith in
    let next : take (length first + 2) (drop count octets) ≡ record_of first =
    ap (take (length first + 2)) front.2 ∙ ap (λ n. take n (record_of first ++ front.0)) (sym size) ∙ take-append_seam (record_of first) front.0 in
    take-add count (length first + 2) octets ∙ ap (λ l. l ++ take (length first + 2) (drop count octets)) whole ∙ ap (λ l. joined list ++ l) next ∙ sym (joined-more list first)

pub within_more : (count : ℕ) (octets first : List ℕ) → count ≤ length octets → IsFront first (drop count octets) → count + (length first + 2) ≤ length octets
within_more count octets first within front = omega (arith, ap length front.2, length-append (record_of first) front.0, length-drop count octets)

-- one record more was dealt with
pub deals_more : (line : ℕ → List ℕ → List ℕ → Type 0) (is_canonical is_refused : List ℕ → Type 0) (before : ℕ) (octets : List ℕ) (count more : ℕ) (old new : Batch) (first : List ℕ)
    → Deals line is_canonical is_refused before octets count old → IsFront first (take (length octets - count) (drop count octets)) → more ≡ length first + 2 → before + old.summary.records < MOST
    → IsAdded line is_canonical is_refused ((before + old.summary.records) + 1) first old new
    → Deals line is_canonical is_refused before octets (count + more) new
deals_more line is_canonical is_refused before octets count more old new first deals front size room added =
    let list = deals.list in
    let behind : IsFront first (drop count octets) = subst (IsFront first) (take_rest octets count) front in
    let at : (before + old.summary.records) + 1 ≡ length list + (before + 1) = omega (arith, deals.holds.sums.records) in
    let same : count + (length first + 2) ≡ count + more = omega arith in
    record {
      list = list ++ first ∷ [];
      within = omega (arith, within_more count octets first deals.within behind);
      whole = subst (λ n. take n octets ≡ joined (list ++ first ∷ [])) same (taken_record count octets first list deals.within deals.whole behind);
      few = simp length-append (omega (arith, deals.holds.sums.records));
      holds = holds_more line is_canonical is_refused (before + 1) list first old new deals.holds behind.1 (subst (λ n. IsAdded line is_canonical is_refused n first old new) at added);
    }

-- A count of records is no more than their number.
pub counts_few : (P : Type 0) (old new most more : ℕ) → Counts P old new → old ≤ most → more ≡ most + 1 → new ≤ more
counts_few P old new most more counts few is = elim counts [ inl c ↦ omega (arith, c.1) | inr c ↦ omega (arith, c.1) ]

-- There is room for the output of one record more.
pub fits_one : (room : ℕ) (batch : Batch) → HasRoom room batch → length batch.ends.items < MOST_HELD → length batch.output.items + room ≤ vec_capacity batch.output
fits_one room batch has few =
    let more : (length batch.ends.items + 1) * room ≤ MOST_HELD * room = mul-le-mul_right room (omega arith) in
    omega (arith, more, has.within, has.output)

-- one end more
pub ends_more : (line : ℕ → List ℕ → List ℕ → Type 0) (is_canonical is_refused : List ℕ → Type 0) (number : ℕ) (octets : List ℕ) (old new : Batch)
    → IsAdded line is_canonical is_refused number octets old new → length new.ends.items ≡ length old.ends.items + 1
ends_more line is_canonical is_refused number octets old new added = ap length added.ends ∙ length-append old.ends.items (length new.output.items ∷ [])

-- Two octets for each record dealt with, and the octets after them, are held.
pub still_held : (ends count : ℕ) (octets : List ℕ) → 2 * ends ≤ count → count ≤ length octets → length octets ≤ HELD
    → 2 * ends + length (take (length octets - count) (drop count octets)) ≤ HELD
still_held ends count octets few within held = omega (arith, ap length (take_rest octets count), length-drop count octets)
