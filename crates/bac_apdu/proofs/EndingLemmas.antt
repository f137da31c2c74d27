-- APDUs that end behind their head: SimpleACK, SegmentACK, Reject and Abort.
use Rattle.std.specs.Prelude.{◌≡◌, ℕ, ◌<◌, ◌≤◌, true, Option, None, Some, List, [], ◌∷◌, ◌++◌, length, take, drop, Ok, Err, refl}
use Rattle.std.proofs.Common.{inl, inr, sym, ◌∙◌, ap, subst, length-drop, arith}
use Rattle.std.proofs.Math.Seq.{take-length}
use Rattle.std.proofs.lemmas.List.{append-nil, take-append-drop, length-take-le}
use Rattle.bac_tag.specs.declared.refusals.Refusal.{Refusal}
use Rattle.bac_tag.specs.declared.refusals.Why.TheVariants.{Trailing, OutOfMemory}
use Rattle.bac_tag.specs.Octets.{IsMark, joined_mark}
use Rattle.bac_tag.specs.Laws.Octets.{NoGreater-same}
use Rattle.bac_tag.specs.Spelling.{HasMark}
use Rattle.bac_tag.specs.HeadOctets.{least_head}
use Rattle.bac_apdu.specs.FirstOctet.{type_at, seg_at, ends_at, HasEnd, HasGoodWindow}
use Rattle.bac_apdu.specs.Apdus.{ApduValue, head_of, SpellsBody, SpellsApdu}
use Rattle.bac_apdu.specs.Decoded.{IsRefused, IsEnded}
use Rattle.bac_tag.proofs.HeadOctetLemmas.{length-least, headed_body, headed_mark}
use Rattle.bac_tag.proofs.BehindLemmas.{whole_trailing}
use Rattle.bac_tag.proofs.FilledLemmas.{filled, filled_taken, filled_split}
use Rattle.bac_apdu.proofs.TypeLemmas.{told, nothing_spells}
use Rattle.bac_apdu.proofs.ReasonLemmas.{reasoned}

-- nothing stands behind the head of a value that shares it
nothing_follows : (v x : ApduValue) (o : ℕ) (front b : List ℕ) → length (o ∷ front) ≡ length (head_of v) → ends_at (type_at o) (seg_at o) ≡ true → SpellsApdu v (o ∷ front) → SpellsApdu x (o ∷ front ++ b) → b ≡ []
nothing_follows v x o front b long ends p q =
    let t = told v o front p in
    let u = told x o (front ++ b) q in
    u.ends ends b (headed_body (head_of x) (SpellsBody x) (o ∷ front) b (long ∙ t.sized ∙ sym u.sized) q)

trails : (v : ApduValue) (front : List ℕ) (p : ℕ) (rest : List ℕ) → HasEnd (front ++ p ∷ rest) → HasGoodWindow (front ++ p ∷ rest) → length front ≡ length (head_of v) → SpellsApdu v front → IsRefused (front ++ p ∷ rest) (record { place = length front; why = Trailing })
trails v [] p rest h good long s = absurd (nothing_spells v s)
trails v (o ∷ front) p rest h good long s = record {
  refused = λ _. whole_trailing SpellsApdu (o ∷ front) p rest (v, s) (λ x c q. let e : p ∷ c ≡ [] = nothing_follows v x o front (p ∷ c) long h.1 s q in cc);
  memory = λ e. absurd (let i : Trailing ≡ OutOfMemory = e in cc);
  reasoned = reasoned (type_at o) (o ∷ front ++ p ∷ rest) (record { place = length (o ∷ front); why = Trailing }) (h.0, refl) (told v o front s).low good (inr (inl refl));
}

nonempty : (b : List ℕ) → 0 < length b → (p : ℕ) × (rest : List ℕ) × (b ≡ p ∷ rest)
nonempty [] lt = absurd (omega (arith, lt))
nonempty (p ∷ rest) lt = (p, rest, refl)

-- more octets than the head, whose own spell an APDU
pub ending_trails : (n : ℕ) (v : ApduValue) (b : List ℕ) → HasEnd b → HasGoodWindow b → n ≡ length (head_of v) → n < length b → SpellsApdu v (take n b) → IsRefused b (record { place = n; why = Trailing })
ending_trails n v b h good long lt s =
    let split : take n b ++ drop n b ≡ b = take-append-drop n b in
    let within : length (take n b) ≡ n = length-take-le n b (omega (arith, lt)) in
    let m = nonempty (drop n b) (omega (arith, length-drop n b, lt)) in
    let whole : take n b ++ m.0 ∷ m.1 ≡ b = ap (λ (l : List ℕ). take n b ++ l) (sym m.2) ∙ split in
    subst (λ (k : ℕ). IsRefused b (record { place = k; why = Trailing })) within
    (subst (λ (l : List ℕ). IsRefused l (record { place = length (take n b); why = Trailing })) whole
    (trails v (take n b) m.0 m.1 (subst HasEnd (sym whole) h) (subst HasGoodWindow (sym whole) good) (within ∙ long) s))

unmarked : (m : Option ℕ) (n : ℕ) → joined_mark m n None ≡ m
unmarked None n = refl
unmarked (Some place) n = refl

-- the body that is one list alone
mark_exactly : (B : List ℕ → Type 0) (piece : List ℕ) → B piece → ((c : List ℕ) → B c → c ≡ piece) → HasMark B piece None
mark_exactly B piece h only = record { least = piece; is_least = record { member = h; least = λ c k. NoGreater-same piece c (sym (only c k)) }; is_mark = refl }

-- a head, and behind it the one list that can stand there: the mark is that of the head
pub marked_exactly : (v : ApduValue) (m : Option ℕ) (front piece : List ℕ) → SpellsApdu v (front ++ piece) → SpellsBody v piece → ((c : List ℕ) → SpellsBody v c → c ≡ piece) → IsMark front (least_head (head_of v)) m → HasMark (SpellsApdu v) (front ++ piece) m
marked_exactly v m front piece s h only i =
    subst (HasMark (SpellsApdu v) (front ++ piece)) (unmarked m (length front)) (headed_mark (head_of v) (SpellsBody v) m None front piece s i (mark_exactly (SpellsBody v) piece h only))

-- the octets of a head, behind which nothing stands
pub marked_end : (v : ApduValue) (m : Option ℕ) (b : List ℕ) → SpellsBody v [] → ((c : List ℕ) → SpellsBody v c → c ≡ []) → SpellsApdu v b → IsMark b (least_head (head_of v)) m → HasMark (SpellsApdu v) b m
marked_end v m b h only s i = subst (λ (c : List ℕ). HasMark (SpellsApdu v) c m) (append-nil b) (marked_exactly v m b [] (subst (SpellsApdu v) (sym (append-nil b)) s) h only i)

pub ending_found : (v : ApduValue) (b : List ℕ) (m : Option ℕ) → HasEnd b → length b ≡ length (head_of v) → SpellsApdu v b → IsMark b (least_head (head_of v)) m → HasMark (SpellsApdu v) b m
ending_found v [] m h long s i = absurd (nothing_spells v s)
ending_found v (o ∷ b) m h long s i =
    marked_end v m (o ∷ b) (headed_body (head_of v) (SpellsBody v) (o ∷ b) [] long (subst (SpellsApdu v) (sym (append-nil (o ∷ b))) s)) ((told v o b s).ends h.1) s i

module _ (v : ApduValue) (b least : List ℕ) (h : HasEnd b) (long : length least ≤ length b) (same : least ≡ least_head (head_of v)) (s : SpellsApdu v (filled (length least) b)) where
  head_long : length least ≡ length (head_of v)
  head_long = ap (λ (l : List ℕ). length l) same ∙ length-least (head_of v)

  taken : SpellsApdu v (take (length least) b)
  taken = subst (SpellsApdu v) (sym (filled_taken (length least) b long)) s

  pub end_refused : (r : Refusal) → HasGoodWindow b → IsEnded b least (Err r) → IsRefused b r
  end_refused r good e = subst (IsRefused b) (sym e.1) (ending_trails (length least) v b h good head_long e.0 taken)

  pub end_found : (m : Option ℕ) → IsEnded b least (Ok m) → SpellsApdu v b × HasMark (SpellsApdu v) b m
  end_found m e =
      let whole : SpellsApdu v b = subst (SpellsApdu v) (ap (λ (n : ℕ). take n b) (sym e.0) ∙ take-length b) taken in
      (whole, ending_found v b m h (e.0 ∙ head_long) whole (subst (λ (l : List ℕ). IsMark b l m) same e.1))

-- a head of so many octets, and behind it the one list that can stand there
pub piece_found : (v : ApduValue) (b : List ℕ) (n : ℕ) (m : Option ℕ) → n ≤ length b → SpellsApdu v (filled n b ++ drop n b) → SpellsBody v (drop n b) → ((c : List ℕ) → SpellsBody v c → c ≡ drop n b) → IsMark (take n b) (least_head (head_of v)) m → SpellsApdu v b × HasMark (SpellsApdu v) b m
piece_found v b n m long s body only i =
    let at : filled n b ++ drop n b ≡ b = sym (filled_split n b long) in
    (subst (SpellsApdu v) at s, subst (λ (l : List ℕ). HasMark (SpellsApdu v) l m) at (marked_exactly v m (filled n b) (drop n b) s body only (subst (λ (l : List ℕ). IsMark l (least_head (head_of v)) m) (filled_taken n b long) i)))
