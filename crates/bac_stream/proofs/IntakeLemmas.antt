-- Pieces that are taken in one after another.
use Rattle.std.proofs.Common.{◌≡◌, ◌≢◌, inl, inr, ℕ, ◌+◌, ◌-◌, ◌<◌, ◌≤◌, List, [], ◌∷◌, ◌++◌, length, take, drop, refl, sym, ap, subst, ◌∙◌, append_assoc, append-nil, length-append, drop_at, arith, Bool, true, false, nat_eq, if◌then◌else◌}
use Rattle.std.proofs.lemmas.Bool.{cases_lt}
use Rattle.std.proofs.lemmas.Bool.Decides.{nat_tests}
use Rattle.std.proofs.lemmas.List.{take_rest}
use Rattle.std.specs.List.{AllByRecursion, AllZip}
use Rattle.bac_record.specs.Batches.{IsFront}
use Rattle.bac_record.specs.Records.{BeginsRecord, IsRecord, MOST, Clean, TooMany, Truncated, end_of, joined, record_of}
use Rattle.bac_record.proofs.Appended.{joined-append, AllByRecursion-append}
use Rattle.bac_record.proofs.Partial.{nothing_begins_none}
use Rattle.bac_stream.specs.Intakes.{IntakeValue, Item, IsItem, RecordsBehind, TakesIn, FeedFails}
use Rattle.bac_stream.specs.declared.modes.Mode.{Mode}
use Rattle.bac_stream.specs.declared.feed_faults.FeedFault.{FeedFault}
use Rattle.bac_stream.specs.declared.feed_faults.FeedFault.TheVariants as fault

-- an intake with nothing held
abbrev pub at_record : Mode → ℕ → IntakeValue
at_record mode records = record { mode = mode; records = records; rest = [] }

-- an intake that holds these octets
abbrev pub holding : Mode → ℕ → List ℕ → IntakeValue
holding mode records rest = record { mode = mode; records = records; rest = rest }

tests_most : (is_most : Bool) → (if is_most then TooMany else Truncated) ≡ TooMany → is_most ≡ true
tests_most true e = refl
tests_most false e = cc

most_when : (n : ℕ) → nat_eq n MOST ≡ true → n ≡ MOST
most_when n tells = grind (arith, nat_tests)

when_most : (n : ℕ) → n ≡ MOST → nat_eq n MOST ≡ true
when_most n is = grind (arith, nat_tests)

-- Nothing behind the most records is not too many.
pub not_too_many : (count : ℕ) (rest : List ℕ) → (count ≡ MOST → rest ≡ []) → end_of count rest ≢ TooMany
not_too_many count [] none = λ e. let i : Clean ≡ TooMany = e in cc
not_too_many count (octet ∷ octets) none = λ e. let i = none (most_when count (tests_most (nat_eq count MOST) e)) in cc

-- Octets behind the most records are too many.
pub too_many : (count : ℕ) (rest : List ℕ) → count ≡ MOST → 0 < length rest → end_of count rest ≡ TooMany
too_many count [] is some = absurd (omega arith)
too_many count (octet ∷ octets) is some = rw (when_most count is) refl

AllZip-append : {A B : Type 0} (R : A → B → Type 0) (xs us : List A) (ys vs : List B) → AllZip R xs ys → AllZip R us vs → AllZip R (xs ++ us) (ys ++ vs)
AllZip-append R [] us [] vs one two = two
AllZip-append R [] us (y ∷ ys) vs one two = absurd one
AllZip-append R (x ∷ xs) us [] vs one two = absurd one
AllZip-append R (x ∷ xs) us (y ∷ ys) vs one two = (one.0, AllZip-append R xs us ys vs one.1 two)

-- further records behind records
pub splits_more : (before : ℕ) (list others : List (List ℕ)) (held mid rest front behind : List ℕ) → before ≤ MOST → RecordsBehind before list mid (held ++ front)
    → RecordsBehind (before + length list) others rest (mid ++ behind) → RecordsBehind before (list ++ others) rest (held ++ (front ++ behind))
splits_more before list others held mid rest front behind within one two =
    let few : length list ≤ MOST - before = one.few in
    let more : length others ≤ MOST - (before + length list) = two.few in
    let long : length (list ++ others) ≡ length list + length others = length-append list others in
    record {
      whole = sym (append_assoc held front behind) ∙ ap (λ l. l ++ behind) one.whole ∙ append_assoc (joined list) mid behind ∙ ap (λ l. joined list ++ l) two.whole
          ∙ sym (append_assoc (joined list) (joined others) rest) ∙ ap (λ l. l ++ rest) (sym (joined-append list others));
      each = AllByRecursion-append IsRecord list others one.each two.each;
      few = omega (arith, few, more, long, within);
      partial = λ less. two.partial (omega (arith, few, long, less, within));
    }

-- Two pieces are taken in as their join is.
pub takes_more : (old mid new : IntakeValue) (front behind : List ℕ) (items more : List Item) → old.records ≤ MOST → TakesIn old front items mid → TakesIn mid behind more new
    → TakesIn old (front ++ behind) (items ++ more) new
takes_more old mid new front behind items more within one two = record {
  list = one.list ++ two.list;
  splits = splits_more old.records one.list two.list old.rest mid.rest new.rest front behind within one.splits (subst (λ n. RecordsBehind n two.list new.rest (mid.rest ++ behind)) one.records two.splits);
  given = AllZip-append (IsItem old.mode) one.list two.list items more one.given (subst (λ (m : Mode). AllZip (IsItem m) two.list more) one.mode two.given);
  mode = two.mode ∙ one.mode;
  records = omega (arith, two.records, one.records, length-append one.list two.list);
  ends = two.ends;
}

-- a record behind others
begins_behind : (list : List (List ℕ)) (octets whole : List ℕ) → AllByRecursion IsRecord list → whole ≡ joined list ++ octets → BeginsRecord octets → BeginsRecord whole
begins_behind [] octets whole each is begins = subst BeginsRecord (sym is) begins
begins_behind (first ∷ list) octets whole each is begins = (first, joined list ++ octets, each.0, is ∙ append_assoc (record_of first) (joined list) octets)

-- A fault behind a piece that was taken in is one of the two pieces joined.
pub fails_behind : (old mid : IntakeValue) (front behind : List ℕ) (items : List Item) (why : FeedFault) → old.records ≤ MOST → TakesIn old front items mid → FeedFails mid behind why
    → FeedFails old (front ++ behind) why
fails_behind old mid front behind items fault.Truncated within one fails = absurd fails
fails_behind old mid front behind items fault.RecordTooLong within one fails = absurd fails
fails_behind old mid front behind items fault.TooManyFrames within one fails =
    let list = fails.0 in
    let rest = fails.1 in
    let count : mid.records + length list ≡ old.records + length (one.list ++ list) = omega (arith, one.records, length-append one.list list) in (
      one.list ++ list,
      rest,
      splits_more old.records one.list list old.rest mid.rest rest front behind within one.splits (subst (λ n. RecordsBehind n list rest (mid.rest ++ behind)) one.records fails.2),
      ap (λ n. end_of n rest) (sym count) ∙ fails.3,
    )
fails_behind old mid front behind items fault.OutOfMemory within one fails = (
  omega (arith, one.records, fails.0),
  begins_behind one.list (mid.rest ++ behind) (old.rest ++ (front ++ behind)) one.splits.each
      (sym (append_assoc old.rest front behind) ∙ ap (λ l. l ++ behind) one.splits.whole ∙ append_assoc (joined one.list) mid.rest behind) fails.1,
)

-- One record is whole, and nothing is behind it.
pub takes_one : (old : IntakeValue) (front first : List ℕ) (item : Item) → old.records < MOST → IsRecord first → old.rest ++ front ≡ record_of first → IsItem old.mode first item
    → TakesIn old front (item ∷ []) (at_record old.mode (old.records + 1))
takes_one old front first item room small is given = record {
  list = first ∷ [];
  splits = record {
    whole = is ∙ sym (append-nil (record_of first)) ∙ sym (append-nil (record_of first ++ []));
    each = (small, tt);
    few = omega arith;
    partial = λ less. nothing_begins_none;
  };
  given = (given, tt);
  mode = refl;
  records = refl;
  ends = λ e. let i : Clean ≡ TooMany = e in cc;
}

-- No record is whole.
pub takes_none : (old : IntakeValue) (piece : List ℕ) → (BeginsRecord (old.rest ++ piece) → ⊥) → (old.records ≡ MOST → old.rest ++ piece ≡ [])
    → TakesIn old piece [] (holding old.mode old.records (old.rest ++ piece))
takes_none old piece none room = record {
  list = [];
  splits = record { whole = refl; each = tt; few = omega arith; partial = λ less. none };
  given = tt;
  mode = refl;
  records = omega arith;
  ends = not_too_many old.records (old.rest ++ piece) room;
}

-- what stands behind the record at the front
pub behind_record : (octets first : List ℕ) → IsFront first octets → octets ≡ record_of first ++ take (length octets - (2 + length first)) (drop (2 + length first) octets)
behind_record octets first front =
    let size : length (record_of first) ≡ 2 + length first = omega arith in
    let rest : drop (2 + length first) octets ≡ front.0 = ap (drop (2 + length first)) front.2 ∙ drop_at (record_of first) front.0 (2 + length first) size in
    front.2 ∙ ap (λ l. record_of first ++ l) (sym rest ∙ sym (take_rest octets (2 + length first)))

-- Nothing was taken in.
pub takes_nothing : (mode : Mode) (records : ℕ) → TakesIn (at_record mode records) [] [] (at_record mode records)
takes_nothing mode records = takes_none (at_record mode records) [] nothing_begins_none (λ most. refl)

-- one record more of some octets
pub takes_record : (mode : Mode) (before records : ℕ) (front first : List ℕ) (items : List Item) (item : Item) → before ≤ MOST → TakesIn (at_record mode before) front items (at_record mode records)
    → records < MOST → IsRecord first → IsItem mode first item → TakesIn (at_record mode before) (front ++ record_of first) (items ++ item ∷ []) (at_record mode (records + 1))
takes_record mode before records front first items item within one room small given =
    takes_more (at_record mode before) (at_record mode records) (at_record mode (records + 1)) front (record_of first) items (item ∷ []) within one
    (takes_one (at_record mode records) (record_of first) first item room small refl given)

-- a fault behind some octets
pub fails_later : (mode : Mode) (before records : ℕ) (octets front rest : List ℕ) (items : List Item) (why : FeedFault) → before ≤ MOST → octets ≡ front ++ rest
    → TakesIn (at_record mode before) front items (at_record mode records) → FeedFails (at_record mode records) rest why → FeedFails (at_record mode before) octets why
fails_later mode before records octets front rest items why within splits one fails =
    subst (λ l. FeedFails (at_record mode before) l why) (sym splits) (fails_behind (at_record mode before) (at_record mode records) front rest items why within one fails)

-- The record held in part was completed, and what is behind it was taken in.
pub takes_completed : (mode : Mode) (before : ℕ) (held piece front behind first : List ℕ) (item : Item) (items : List Item) (new : IntakeValue) → before < MOST → piece ≡ front ++ behind
    → IsRecord first → held ++ front ≡ record_of first → IsItem mode first item → TakesIn (at_record mode (before + 1)) behind items new
    → TakesIn (holding mode before held) piece (item ∷ items) new
takes_completed mode before held piece front behind first item items new room splits small is given more =
    subst (λ l. TakesIn (holding mode before held) l (item ∷ items) new) (sym splits)
    (takes_more (holding mode before held) (at_record mode (before + 1)) new front behind (item ∷ []) items (omega (arith, room))
    (takes_one (holding mode before held) front first item room small is given) more)

pub fails_completed : (mode : Mode) (before : ℕ) (held piece front behind first : List ℕ) (item : Item) (why : FeedFault) → before < MOST → piece ≡ front ++ behind
    → IsRecord first → held ++ front ≡ record_of first → IsItem mode first item → FeedFails (at_record mode (before + 1)) behind why
    → FeedFails (holding mode before held) piece why
fails_completed mode before held piece front behind first item why room splits small is given fails =
    subst (λ l. FeedFails (holding mode before held) l why) (sym splits)
    (fails_behind (holding mode before held) (at_record mode (before + 1)) front behind (item ∷ []) why (omega (arith, room))
    (takes_one (holding mode before held) front first item room small is given) fails)

-- Where octets are held there is room for their record.
pub room_for_held : (records : ℕ) (held : List ℕ) → records ≤ MOST → (records ≡ MOST → held ≡ []) → 0 < length held → records < MOST
room_for_held records held few none some = elim (cases_lt records MOST) [
  | inl room ↦ room
  | inr most ↦ (let all : records ≡ MOST = omega (arith, few, most) in absurd (omega (arith, some, ap length (none all))))
]
