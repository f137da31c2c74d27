-- What a run writes for a list of records, and how it counts them. The output of one record is a relation and not a function of
-- it, since a line for a refused record may name any refusal that the reader may give. In these definitions line is that
-- relation.
use Rattle.std.specs.Prelude.{◌≡◌, ◌⊎◌, ℕ, ◌+◌, List, [], ◌∷◌, ◌++◌, length}

-- The output is the outputs of these records one after another, the first record with this number.
abbrev pub Outputs : (ℕ → List ℕ → List ℕ → Type 0) → ℕ → List (List ℕ) → List ℕ → Type 0
Outputs line number [] output = output ≡ []
Outputs line number (octets ∷ records) output =
    (first more : List ℕ) × line number octets first × Outputs line (number + 1) records more × (output ≡ first ++ more)

-- The output is that of Outputs, with the place where each output ends. The first output begins at the place start.
abbrev pub OutputsWithEnds : (ℕ → List ℕ → List ℕ → Type 0) → ℕ → ℕ → List (List ℕ) → List ℕ → List ℕ → Type 0
OutputsWithEnds line number start [] output ends = (output ≡ []) × (ends ≡ [])
OutputsWithEnds line number start (octets ∷ records) output ends =
    (first more later : List ℕ) × line number octets first × OutputsWithEnds line (number + 1) (start + length first) records more later
    × (output ≡ first ++ more) × (ends ≡ (start + length first) ∷ later)

-- Exactly so many of the records have P.
abbrev pub Tally : (List ℕ → Type 0) → List (List ℕ) → ℕ → Type 0
Tally P [] count = count ≡ 0
Tally P (octets ∷ records) count =
    ((fewer : ℕ) × P octets × Tally P records fewer × (count ≡ fewer + 1)) ⊎ ((P octets → ⊥) × Tally P records count)
