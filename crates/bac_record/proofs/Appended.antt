-- Lists of records, one after another.
use Rattle.std.proofs.Common.{◌≡◌, inl, inr, ℕ, ◌+◌, ◌*◌, ◌^◌, ◌≤◌, List, [], ◌∷◌, ◌++◌, length, refl, sym, ap, subst, ◌∙◌, append_assoc, append-nil, arith, length-append}
use Rattle.std.specs.List.{AllByRecursion}
use Rattle.bac_record.specs.Records.{joined, record_of}
use Rattle.bac_record.specs.Outputs.{Outputs, OutputsWithEnds, Tally}

pub joined-append : (list others : List (List ℕ)) → joined (list ++ others) ≡ joined list ++ joined others
joined-append [] others = refl
joined-append (first ∷ list) others = ap (λ l. record_of first ++ l) (joined-append list others) ∙ sym (append_assoc (record_of first) (joined list) (joined others))

pub joined-more : (list : List (List ℕ)) (octets : List ℕ) → joined (list ++ octets ∷ []) ≡ joined list ++ record_of octets
joined-more list octets = joined-append list (octets ∷ []) ∙ ap (λ l. joined list ++ l) (append-nil (record_of octets))

pub AllByRecursion-append : (P : List ℕ → Type 0) (list others : List (List ℕ)) → AllByRecursion P list → AllByRecursion P others → AllByRecursion P (list ++ others)
AllByRecursion-append P [] others all here = here
AllByRecursion-append P (first ∷ list) others all here = (all.0, AllByRecursion-append P list others all.1 here)

pub Outputs-append : (line : ℕ → List ℕ → List ℕ → Type 0) (number : ℕ) (list others : List (List ℕ)) (output more : List ℕ)
    → Outputs line number list output → Outputs line (length list + number) others more → Outputs line number (list ++ others) (output ++ more)
Outputs-append line number [] others output more outputs here =
    let at : 0 + number ≡ number = omega arith in
    subst (λ l. Outputs line number others (l ++ more)) (sym outputs) (subst (λ n. Outputs line n others more) at here)
Outputs-append line number (first ∷ list) others output more outputs here =
    let at : length (first ∷ list) + number ≡ length list + (number + 1) = omega arith in (
      outputs.0,
      outputs.1 ++ more,
      outputs.2,
      Outputs-append line (number + 1) list others outputs.1 more outputs.3 (subst (λ n. Outputs line n others more) at here),
      ap (λ l. l ++ more) outputs.4 ∙ append_assoc outputs.0 outputs.1 more,
    )

pub Tally-append : (P : List ℕ → Type 0) (list others : List (List ℕ)) (count more : ℕ) → Tally P list count → Tally P others more → Tally P (list ++ others) (count + more)
Tally-append P [] others count more tally here = subst (Tally P others) (let e : more ≡ count + more = omega (arith, tally) in e) here
Tally-append P (first ∷ list) others count more tally here = elim tally [
  | inl t ↦ inl (t.0 + more, t.1, Tally-append P list others t.0 more t.2 here, omega (arith, t.3))
  | inr t ↦ inr (t.0, Tally-append P list others count more t.1 here)
]

pub Tally-few : (P : List ℕ → Type 0) (list : List (List ℕ)) (count : ℕ) → Tally P list count → count ≤ length list
Tally-few P [] count tally = omega (arith, tally)
Tally-few P (first ∷ list) count tally = elim tally [
  | inl t ↦ (let h = Tally-few P list t.0 t.2 in omega (arith, t.3))
  | inr t ↦ (let h = Tally-few P list count t.1 in omega arith)
]

-- outputs without their ends
pub without_ends : (line : ℕ → List ℕ → List ℕ → Type 0) (number start : ℕ) (list : List (List ℕ)) (output ends : List ℕ)
    → OutputsWithEnds line number start list output ends → Outputs line number list output
without_ends line number start [] output ends outputs = outputs.0
without_ends line number start (first ∷ list) output ends outputs =
    (outputs.0, outputs.1, outputs.3, without_ends line (number + 1) (start + length outputs.0) list outputs.1 outputs.2 outputs.4, outputs.5)

-- Each record has an end.
pub ends_length : (line : ℕ → List ℕ → List ℕ → Type 0) (number start : ℕ) (list : List (List ℕ)) (output ends : List ℕ)
    → OutputsWithEnds line number start list output ends → length ends ≡ length list
ends_length line number start [] output ends outputs = ap length outputs.1
ends_length line number start (first ∷ list) output ends outputs =
    let behind = ends_length line (number + 1) (start + length outputs.0) list outputs.1 outputs.2 outputs.4 in
    omega (arith, ap length outputs.6)

-- one output more, and its end
pub with_ends-more : (line : ℕ → List ℕ → List ℕ → Type 0) (number start : ℕ) (list : List (List ℕ)) (output ends octets last : List ℕ)
    → OutputsWithEnds line number start list output ends → line (length list + number) octets last
    → OutputsWithEnds line number start (list ++ octets ∷ []) (output ++ last) (ends ++ (start + length (output ++ last)) ∷ [])
with_ends-more line number start [] output ends octets last outputs here =
    let at : 0 + number ≡ number = omega arith in
    let whole : output ++ last ≡ last = ap (λ l. l ++ last) outputs.0 in (
      last,
      [],
      [],
      subst (λ n. line n octets last) at here,
      (refl, refl),
      whole ∙ sym (append-nil last),
      ap (λ l. l ++ (start + length (output ++ last)) ∷ []) outputs.1 ∙ ap (λ l. (start + length l) ∷ []) whole,
    )
with_ends-more line number start (first ∷ list) output ends octets last outputs here =
    let at : length (first ∷ list) + number ≡ length list + (number + 1) = omega arith in
    let begin = start + length outputs.0 in
    let whole : output ++ last ≡ outputs.0 ++ (outputs.1 ++ last) = ap (λ l. l ++ last) outputs.5 ∙ append_assoc outputs.0 outputs.1 last in
    let last_end : start + length (output ++ last) ≡ begin + length (outputs.1 ++ last) =
    omega (arith, ap length whole, length-append outputs.0 (outputs.1 ++ last)) in (
      outputs.0,
      outputs.1 ++ last,
      outputs.2 ++ (begin + length (outputs.1 ++ last)) ∷ [],
      outputs.3,
      with_ends-more line (number + 1) begin list outputs.1 outputs.2 octets last outputs.4 (subst (λ n. line n octets last) at here),
      whole,
      ap (λ l. l ++ (start + length (output ++ last)) ∷ []) outputs.6 ∙ ap (λ n. begin ∷ (outputs.2 ++ n ∷ [])) last_end,
    )

-- What holds of all records holds of those in front, and of the next one.
pub front_all : (P : List ℕ → Type 0) (list others : List (List ℕ)) → AllByRecursion P (list ++ others) → AllByRecursion P list
front_all P [] others all = tt
front_all P (first ∷ list) others all = (all.0, front_all P list others all.1)

pub next_all : (P : List ℕ → Type 0) (list : List (List ℕ)) (octets : List ℕ) (others : List (List ℕ)) → AllByRecursion P (list ++ octets ∷ others) → P octets
next_all P [] octets others all = all.0
next_all P (first ∷ list) octets others all = next_all P list octets others all.1

-- The records behind some of a list go to what is behind.
pub rejoined : (list front : List (List ℕ)) (octets : List ℕ) (behind others : List (List ℕ)) (rest whole : List ℕ) → others ≡ front ++ octets ∷ behind → joined others ++ rest ≡ whole
    → joined (list ++ front) ++ (record_of octets ++ (joined behind ++ rest)) ≡ joined list ++ whole
rejoined list front octets behind others rest whole is same =
    let split : joined others ≡ joined front ++ (record_of octets ++ joined behind) = ap joined is ∙ joined-append front (octets ∷ behind) in
    let inner : joined front ++ (record_of octets ++ (joined behind ++ rest)) ≡ whole =
    sym (append_assoc (joined front) (record_of octets ++ joined behind) rest ∙ ap (λ l. joined front ++ l) (append_assoc (record_of octets) (joined behind) rest))
    ∙ ap (λ l. l ++ rest) (sym split) ∙ same in
    ap (λ l. l ++ (record_of octets ++ (joined behind ++ rest))) (joined-append list front) ∙ append_assoc (joined list) (joined front) (record_of octets ++ (joined behind ++ rest))
    ∙ ap (λ l. joined list ++ l) inner

-- no records, no output
pub output_room : (line : ℕ → List ℕ → List ℕ → Type 0) (number start : ℕ) (list : List (List ℕ)) (output ends : List ℕ)
    → OutputsWithEnds line number start list output ends → length output ≤ 2 ^ 64 → length output ≤ length list * 2 ^ 64
output_room line number start [] output ends outputs few = omega (arith, ap length outputs.0)
output_room line number start (first ∷ list) output ends outputs few = omega arith
