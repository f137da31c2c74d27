-- Octets are records and a rest in one way.
use Rattle.std.proofs.Common.{◌≡◌, ℕ, zero, suc, ◌/◌, ◌%◌, ◌≤◌, List, [], ◌∷◌, ◌++◌, length, take, refl, sym, ap₂, subst, ◌∙◌, append_assoc, arith}
use Rattle.std.proofs.lemmas.List.{append_cancel_left}
use lib.Seq.{take-append_seam}
use Rattle.bac_record.specs.Records.{joined, record_of, RecordsUpTo}

-- A record ends itself.
pub first_same : (a b x y : List ℕ) → record_of a ++ x ≡ record_of b ++ y → (a ≡ b) × (x ≡ y)
first_same a b x y e =
    let high : length a / 256 ≡ length b / 256 = cc in
    let low : length a % 256 ≡ length b % 256 = cc in
    let rest : a ++ x ≡ b ++ y = cc in
    let same_length : length a ≡ length b = omega arith in
    let same : a ≡ b = sym (take-append_seam a x) ∙ ap₂ take same_length rest ∙ take-append_seam b y in
    (same, append_cancel_left b x y (subst (λ (l : List ℕ). l ++ x ≡ b ++ y) same rest))

-- the records behind the first one
pub tail_of : (most : ℕ) (first : List ℕ) (list : List (List ℕ)) (rest octets : List ℕ) → RecordsUpTo (suc most) (first ∷ list) rest octets → RecordsUpTo most list rest (joined list ++ rest)
tail_of most first list rest octets records =
    let few : length {A = List ℕ} (first ∷ list) ≤ suc most = records.few in
    record { whole = refl; each = records.each.1; few = omega arith; partial = λ less. records.partial (omega arith) }

pub unique : (most : ℕ) (list others : List (List ℕ)) (rest left octets : List ℕ) → RecordsUpTo most list rest octets → RecordsUpTo most others left octets
    → (list ≡ others) × (rest ≡ left)
unique most [] [] rest left octets one two = (refl, sym one.whole ∙ two.whole)
unique most [] (b ∷ others) rest left octets one two =
    let few : length {A = List ℕ} (b ∷ others) ≤ most = two.few in
    absurd (one.partial (omega arith) (b, joined others ++ left, two.each.0, sym one.whole ∙ two.whole ∙ append_assoc (record_of b) (joined others) left))
unique most (a ∷ list) [] rest left octets one two =
    let few : length {A = List ℕ} (a ∷ list) ≤ most = one.few in
    absurd (two.partial (omega arith) (a, joined list ++ rest, one.each.0, sym two.whole ∙ one.whole ∙ append_assoc (record_of a) (joined list) rest))
unique zero (a ∷ list) (b ∷ others) rest left octets one two =
    let few : length {A = List ℕ} (a ∷ list) ≤ 0 = one.few in
    absurd (omega arith)
unique (suc most) (a ∷ list) (b ∷ others) rest left octets one two =
    let heads = first_same a b (joined list ++ rest) (joined others ++ left)
    (sym (append_assoc (record_of a) (joined list) rest) ∙ sym one.whole ∙ two.whole ∙ append_assoc (record_of b) (joined others) left) in
    let others_tail = tail_of most b others left octets two in
    let tails = unique most list others rest left (joined list ++ rest) (tail_of most a list rest octets one)
    (record { whole = heads.1; each = others_tail.each; few = others_tail.few; partial = others_tail.partial }) in
    (ap₂ (λ (x : List ℕ) (xs : List (List ℕ)). x ∷ xs) heads.0 tails.0, tails.1)
