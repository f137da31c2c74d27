-- A record that is held in part, and completed.
use Rattle.std.proofs.Common.{◌≡◌, ◌⊎◌, inl, inr, ℕ, ◌+◌, ◌-◌, ◌*◌, ◌<◌, ◌≤◌, List, [], ◌∷◌, ◌++◌, length, take, drop, get_or, refl, sym, ap, subst, ◌∙◌, append_assoc, append-nil, length-append, arith}
use Rattle.std.proofs.lemmas.Bool.{cases_lt}
use Rattle.std.proofs.lemmas.List.{append_cancel_left, take_rest}
use Rattle.bac_record.specs.Batches.{IsPartial}
use Rattle.bac_record.specs.Records.{BeginsRecord, IsRecord, LONGEST, record_of}
use Rattle.bac_record.proofs.RecordFronts.{front_is, front_long}

-- the record that the octets have at the front, by its length
abbrev behind_length : List ℕ → ℕ → List ℕ
behind_length octets n = take n (take (length octets - 2) (drop 2 octets))

-- Less than a record is shorter than its length octets say.
pub partial_short : (octets : List ℕ) (n : ℕ) → (BeginsRecord octets → ⊥) → 2 ≤ length octets → get_or octets 1 0 < 256 → n ≡ 256 * get_or octets 0 0 + get_or octets 1 0 → n ≤ LONGEST → length octets < 2 + n
partial_short octets n partial long low is small = elim (cases_lt (length octets) (2 + n)) [
  | inl short ↦ short
  | inr within ↦ (let found = front_is octets n long low is (omega (arith, within)) small in absurd (partial (behind_length octets n, found.0, found.1, found.2)))
]

no_octets : (octets : List ℕ) → length octets ≡ 0 → octets ≡ []
no_octets [] none = refl
no_octets (octet ∷ octets) none = absurd (omega arith)

-- As many octets as a record has are the record.
exact_record : (octets more : List ℕ) (n : ℕ) → 2 ≤ length octets → get_or octets 1 0 < 256 → n ≡ 256 * get_or octets 0 0 + get_or octets 1 0 → n ≤ LONGEST → length (octets ++ more) ≡ 2 + n
    → (first : List ℕ) × IsRecord first × (octets ++ more ≡ record_of first)
exact_record [] more n long low is small size = absurd (omega arith)
exact_record (a ∷ []) more n long low is small size = absurd (omega arith)
exact_record (a ∷ b ∷ octets) more n long low is small size =
    let whole = a ∷ b ∷ (octets ++ more) in
    let fits : n + 2 ≤ length whole = omega (arith, size) in
    let found = front_is whole n (omega arith) low is fits small in
    let first = behind_length whole n in
    let first_long : length first ≡ n = front_long whole n fits in
    let none : length found.0 ≡ 0 = omega (arith, size, first_long, ap length found.2, length-append (record_of first) found.0) in
    (first, found.1, found.2 ∙ ap (λ l. record_of first ++ l) (no_octets found.0 none) ∙ append-nil (record_of first))

-- The octets held were completed to the record that they begin.
pub completed : (old mid new more : List ℕ) (n : ℕ) → IsPartial old → (mid ≡ old) ⊎ (length mid ≤ 2) → 2 ≤ length mid → get_or mid 1 0 < 256 → n ≡ 256 * get_or mid 0 0 + get_or mid 1 0 → n ≤ LONGEST
    → new ≡ mid ++ more → (new ≡ mid) ⊎ (length new ≤ 2 + n) → 2 + n ≤ length new → (first : List ℕ) × IsRecord first × (new ≡ record_of first)
completed old mid new more n partial began long low is small extends few full =
    let found = exact_record mid more n long low is small (exact few) in
    (found.0, found.1, extends ∙ found.2)
  where
    begun : (mid ≡ old) ⊎ (length mid ≤ 2) → length mid ≤ 2 + n
    begun (inl same) = let none : BeginsRecord mid → ⊥ = subst (λ l. BeginsRecord l → ⊥) (sym same) partial.0 in
        let short = partial_short mid n none long low is small in omega (arith, short)
    begun (inr short) = omega (arith, short)

    exact : (new ≡ mid) ⊎ (length new ≤ 2 + n) → length (mid ++ more) ≡ 2 + n
    exact (inl same) = let b = begun began in omega (arith, ap length same, ap length extends, full, b)
    exact (inr short) = omega (arith, ap length extends, full, short)

-- Length octets are octets.
pub small_front : (octets more whole : List ℕ) → whole ≡ octets ++ more → 2 ≤ length octets → ((i d : ℕ) → i < length whole → get_or whole i d < 256)
    → (get_or octets 0 0 < 256) × (get_or octets 1 0 < 256)
small_front [] more whole is long small = absurd (omega arith)
small_front (a ∷ []) more whole is long small = absurd (omega arith)
small_front (a ∷ b ∷ octets) more whole is long small =
    let all : (i d : ℕ) → i < length (a ∷ b ∷ (octets ++ more)) → get_or (a ∷ b ∷ (octets ++ more)) i d < 256 =
    subst (λ l. (i d : ℕ) → i < length l → get_or l i d < 256) is small in
    (all 0 0 (omega arith), all 1 0 (omega arith))

-- what is left of a piece in which a record was completed
pub piece_front : (old piece front new behind : List ℕ) → new ≡ old ++ front → old ++ piece ≡ new ++ behind → piece ≡ front ++ behind
piece_front old piece front new behind extends same =
    append_cancel_left old piece (front ++ behind) (same ∙ ap (λ l. l ++ behind) extends ∙ append_assoc old front behind)

-- the octets behind the length octets
pub behind_head : (first held : List ℕ) → held ≡ record_of first → take (length held - 2) (drop 2 held) ≡ first
behind_head first held is = take_rest held 2 ∙ ap (drop 2) is
