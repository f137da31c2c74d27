-- All octets are records and a rest.
use Rattle.std.proofs.Common.{◌≡◌, ◌⊎◌, inl, inr, ℕ, zero, suc, ◌+◌, ◌*◌, ◌/◌, ◌%◌, ◌<◌, ◌≤◌, List, [], ◌∷◌, ◌++◌, length, refl, sym, ap, ◌∙◌, append_assoc, length-append, arith}
use Rattle.std.proofs.lemmas.Bool.{cases_lt}
use Rattle.bac_record.specs.Records.{joined, record_of, IsRecord, BeginsRecord, RecordsUpTo, LONGEST}
use Rattle.bac_record.proofs.RecordFronts.{front_is}

-- what two octets in front of a record are
pub heads_of : (a b : ℕ) (octets : List ℕ) → BeginsRecord (a ∷ b ∷ octets) → (256 * a + b ≤ LONGEST) × (256 * a + b ≤ length octets) × (b < 256)
heads_of a b octets found =
    let e = found.3 in
    let high : a ≡ length found.0 / 256 = cc in
    let low : b ≡ length found.0 % 256 = cc in
    let behind : octets ≡ found.0 ++ found.1 = cc in
    let small : length found.0 ≤ LONGEST = found.2 in
    (omega arith, omega (arith, length-append found.0 found.1, ap length behind), omega arith)

-- A whole record stands at the front, or none does.
pub begins_or_not : (octets : List ℕ) → BeginsRecord octets ⊎ (BeginsRecord octets → ⊥)
begins_or_not [] = inr (λ found. let e = found.3 in cc)
begins_or_not (a ∷ []) = inr (λ found. let e = found.3 in cc)
begins_or_not (a ∷ b ∷ octets) =
    elim (cases_lt LONGEST (256 * a + b)) [
      | inl long ↦ inr (λ found. let h = heads_of a b octets found in omega arith)
      | inr small ↦ elim (cases_lt (length octets) (256 * a + b)) [
        | inl short ↦ inr (λ found. let h = heads_of a b octets found in omega arith)
        | inr within ↦ elim (cases_lt b 256) [
          | inl low ↦ (let found = front_is (a ∷ b ∷ octets) (256 * a + b) (omega arith) low refl (omega arith) small in inl (_, found.0, found.1, found.2))
          | inr high ↦ inr (λ found. let h = heads_of a b octets found in omega arith)
        ]
      ]
    ]

-- one record in front of others
pub in_front : (most : ℕ) (first more octets rest : List ℕ) (list : List (List ℕ)) → IsRecord first → octets ≡ record_of first ++ more
    → RecordsUpTo most list rest more → RecordsUpTo (suc most) (first ∷ list) rest octets
in_front most first more octets rest list small is records =
    let few : length list ≤ most = records.few in
    record {
      whole = is ∙ ap (λ l. record_of first ++ l) records.whole ∙ sym (append_assoc (record_of first) (joined list) rest);
      each = (small, records.each);
      few = omega arith;
      partial = λ less. records.partial (omega arith);
    }

pub exist : (most : ℕ) (octets : List ℕ) → (list : List (List ℕ)) × (rest : List ℕ) × RecordsUpTo most list rest octets
exist zero octets = ([], octets, record { whole = refl; each = tt; few = omega arith; partial = λ less. absurd (omega arith) })
exist (suc most) octets = elim (begins_or_not octets) [
  | inl found ↦ (let behind = exist most found.1 in
      (found.0 ∷ behind.0, behind.1, in_front most found.0 found.1 octets behind.1 behind.0 found.2 found.3 behind.2))
  | inr none ↦ ([], octets, record { whole = refl; each = tt; few = omega arith; partial = λ less. none })
]
