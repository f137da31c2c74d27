-- One line more that is packed, or is not.
use Rattle.std.proofs.Common.{◌≡◌, inl, ℕ, ◌+◌, ◌<◌, ◌≤◌, List, [], ◌∷◌, ◌++◌, length, take, drop, refl, sym, ap, subst, ◌∙◌, append_assoc, append-nil, arith, length-append, length-drop}
use lib.Seq.{take-add, take-append_seam}
use Rattle.bac_record.specs.Records.{joined, record_of}
use Rattle.bac_record.proofs.Appended.{joined-more, AllByRecursion-append}
use Rattle.bac_pack.specs.Lines.{LF, MOST_LINES, ended, IsLine}
use Rattle.bac_pack.specs.LineForms.{IsRefused}
use Rattle.bac_pack.specs.Runs.{NextLine}
use Rattle.bac_pack.specs.Packing.{EndsAt, Adds, PacksFront, IsFound}
use Rattle.bac_pack.specs.declared.packers.Packer.{Packer}
use Rattle.bac_pack.specs.declared.faults.PackFault.{PackFault}
use Rattle.bac_pack.specs.declared.faults.PackFault.TheVariants.{LineTooLong, NotHex, RecordTooLong, ReadFault, WriteFault, TooManyLines, OutOfMemory, Unreadable, Refused}
use Rattle.bac_pack.proofs.LineLists.{ended-more, AllZip-append}

-- the line that stands before the first LF
pub taken_line : (octets : List ℕ) (end : ℕ) (found : EndsAt octets end) → take end octets ≡ found.0
taken_line octets end found =
    ap (take end) found.2 ∙ ap (λ n. take n (found.0 ++ LF ∷ found.1)) found.3 ∙ take-append_seam found.0 (LF ∷ found.1)

is_line : (longest : ℕ) (octets : List ℕ) (end : ℕ) (found : EndsAt octets end) → length octets ≤ longest + 1 → IsLine longest found.0
is_line longest octets end found room = (found.4, omega (arith, ap length found.2, length-append found.0 (LF ∷ found.1)))

next_line : (longest count : ℕ) (octets : List ℕ) (end : ℕ) (P : List ℕ → Type 0) → EndsAt octets end → length octets ≤ longest + 1 → count < MOST_LINES → P (take end octets) → NextLine longest count octets ⊥ P
next_line longest count octets end P found room few here =
    (few, found.0, is_line longest octets end found room, inl (found.1, found.2), subst P (taken_line octets end found) here)

-- A line that is no record is the next one.
pub found_next : (refuses : List ℕ → PackFault → Type 0) (longest count : ℕ) (octets : List ℕ) (end : ℕ) (fault : PackFault) → EndsAt octets end → length octets ≤ longest + 1
    → count < MOST_LINES → IsRefused (refuses (take end octets)) (count + 1) fault → IsFound refuses longest count octets fault
found_next refuses longest count octets end (NotHex number) found room few none =
    (none.0, next_line longest count octets end (λ line. refuses line (NotHex number)) found room few none.1)
found_next refuses longest count octets end (RecordTooLong number) found room few none =
    (none.0, next_line longest count octets end (λ line. refuses line (RecordTooLong number)) found room few none.1)
found_next refuses longest count octets end (Unreadable number column) found room few none =
    (none.0, next_line longest count octets end (λ line. refuses line (Unreadable number column)) found room few none.1)
found_next refuses longest count octets end (Refused number) found room few none =
    (none.0, next_line longest count octets end (λ line. refuses line (Refused number)) found room few none.1)
found_next refuses longest count octets end (OutOfMemory number) found room few none =
    (none, next_line longest count octets end (λ line. Unit {0}) found room few tt)
found_next refuses longest count octets end (LineTooLong number) found room few none = absurd none
found_next refuses longest count octets end (ReadFault number) found room few none = absurd none
found_next refuses longest count octets end (WriteFault written) found room few none = absurd none
found_next refuses longest count octets end TooManyLines found room few none = absurd none

-- no lines yet
pub packs_none : (packs : List ℕ → List ℕ → Type 0) (longest : ℕ) (octets : List ℕ) (packer : Packer) → packer.lines ≤ MOST_LINES → PacksFront packs longest octets 0 packer packer
packs_none packs longest octets packer few = record {
  lines = [];
  records = [];
  within = omega arith;
  whole = refl;
  each = tt;
  packed = tt;
  few = few;
  output = sym (append-nil packer.output.items);
  counted = omega arith;
  sent = refl;
}

-- the octets of one line more
taken_more : (octets : List ℕ) (count end : ℕ) (lines : List (List ℕ)) → take count octets ≡ ended lines → (found : EndsAt (drop count octets) end)
    → take (count + (end + 1)) octets ≡ ended (lines ++ found.0 ∷ [])
taken_more octets count end lines whole found =
    let line = found.0 in
    let size : end + 1 ≡ length (line ++ LF ∷ []) = omega (arith, found.3, length-append line (LF ∷ [])) in
    let next : take (end + 1) (drop count octets) ≡ line ++ LF ∷ [] =
    ap (take (end + 1)) (found.2 ∙ sym (append_assoc line (LF ∷ []) found.1)) ∙ ap (λ n. take n ((line ++ LF ∷ []) ++ found.1)) size ∙ take-append_seam (line ++ LF ∷ []) found.1 in
    take-add count (end + 1) octets ∙ ap (λ l. l ++ take (end + 1) (drop count octets)) whole ∙ ap (λ l. ended lines ++ l) next ∙ sym (ended-more lines line)

pub packs_within : (octets : List ℕ) (count end : ℕ) → count ≤ length octets → EndsAt (drop count octets) end → count + (end + 1) ≤ length octets
packs_within octets count end within found =
    omega (arith, found.3, ap length found.2, length-append found.0 (LF ∷ found.1), length-drop count octets)

-- one line more
pub packs_more : (packs : List ℕ → List ℕ → Type 0) (longest : ℕ) (octets : List ℕ) (count end more : ℕ) (begin old new : Packer) → PacksFront packs longest octets count begin old
    → EndsAt (drop count octets) end → length octets ≤ longest + 1 → more ≡ end + 1 → old.lines < MOST_LINES → Adds packs (take end (drop count octets)) old new
    → PacksFront packs longest octets (count + more) begin new
packs_more packs longest octets count end more begin old new before found room is few adds =
    let line = found.0 in
    let short : length (drop count octets) ≤ longest + 1 = omega (arith, length-drop count octets) in
    let same : count + (end + 1) ≡ count + more = omega arith in
    let stands : packs line adds.octets = subst (λ l. packs l adds.octets) (taken_line (drop count octets) end found) adds.packed in
    record {
      lines = before.lines ++ line ∷ [];
      records = before.records ++ adds.octets ∷ [];
      within = omega (arith, packs_within octets count end before.within found);
      whole = subst (λ n. take n octets ≡ ended (before.lines ++ line ∷ [])) same (taken_more octets count end before.lines before.whole found);
      each = AllByRecursion-append (IsLine longest) before.lines (line ∷ []) before.each (is_line longest (drop count octets) end found short, tt);
      packed = AllZip-append packs before.lines before.records (line ∷ []) (adds.octets ∷ []) before.packed (stands, tt);
      few = omega (arith, adds.lines);
      output = adds.output ∙ ap (λ l. l ++ record_of adds.octets) before.output ∙ append_assoc begin.output.items (joined before.records) (record_of adds.octets)
          ∙ ap (λ l. begin.output.items ++ l) (sym (joined-more before.records adds.octets));
      counted = simp length-append (omega (arith, adds.lines, before.counted));
      sent = adds.sent ∙ before.sent;
    }
