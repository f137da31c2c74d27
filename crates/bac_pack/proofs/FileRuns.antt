-- What a run read is the front of the file.
use Rattle.std.proofs.Common.{◌≡◌, ◌≢◌, ◌==◌, ◌⊎◌, inl, inr, ℕ, ◌+◌, ◌≤◌, ◌<◌, List, [], ◌∷◌, ◌++◌, length, refl, sym, ap, subst, ◌∙◌, append_assoc, append-nil, arith, length-append, Option, Some, Result, Ok, Err, IfOk, IfErr, Bool, true, false, if◌then◌else◌}
use Rattle.std.specs.Prelude.{⊤}
use Rattle.std.specs.Io.KnownBytes.{Appends, IsAtEnd}
use Rattle.bac_record.specs.Records.{joined}
use Rattle.bac_record.proofs.Appended.{joined-more, AllByRecursion-append}
use Rattle.bac_record.proofs.FileRuns.{split}
use Rattle.bac_pack.specs.Lines.{LF, in_first, lines_of, ended, IsUnbroken, IsShort}
use Rattle.bac_pack.specs.Runs.{LinesThrough, LinesStopped, IsWhole, NextLine}
use Rattle.bac_pack.specs.Files.{LinesOver, StopsBefore, FaultAt, Writes}
use Rattle.bac_pack.specs.declared.faults.PackFault.{PackFault}
use Rattle.bac_pack.specs.declared.faults.PackFault.TheVariants.{LineTooLong, NotHex, RecordTooLong, ReadFault, WriteFault, TooManyLines, OutOfMemory, Unreadable, Refused}
use Rattle.bac_pack.proofs.LineLists.{AllZip-append, AllZip-length, lines_of-line, lines_of-ended, lines_of-front, lines_of-last}
use Rattle.bac_pack.proofs.RunSoFar.{short_lines, unbroken_lines}

-- A line that is whole at the front of the rest is the first of the lines there, whatever of the file is left.
first_whole : (line rest unread : List ℕ) (is_end : Type 0) → IsUnbroken line → IsWhole line rest is_end → (is_end → unread ≡ []) → (more : List (List ℕ)) × (lines_of (rest ++ unread) ≡ line ∷ more)
first_whole line rest unread is_end unbroken (inl behind) none =
    (lines_of (behind.0 ++ unread), ap (λ l. lines_of (l ++ unread)) behind.1 ∙ ap lines_of (append_assoc line (LF ∷ behind.0) unread) ∙ lines_of-line line (behind.0 ++ unread) unbroken)
first_whole line rest unread is_end unbroken (inr last) none =
    ([], ap (λ l. lines_of (rest ++ l)) (none last.2) ∙ ap lines_of (append-nil rest ∙ last.0) ∙ lines_of-last line unbroken last.1)

-- A text that is not empty has a line.
some_lines : (octets unread : List ℕ) → octets ≢ [] → lines_of (octets ++ unread) ≢ []
some_lines [] unread some = absurd (some refl)
some_lines (octet ∷ octets) unread some = step (octet == LF) (lines_of (octets ++ unread))
  where
    step : (b : Bool) (lines : List (List ℕ)) → (if b then [] ∷ lines else in_first octet lines) ≢ []
    step true lines e = cc
    step false [] e = cc
    step false (line ∷ lines) e = cc

module _ (packs : List ℕ → List ℕ → Type 0) (refuses : List ℕ → PackFault → Type 0) (longest : ℕ) (left' taken taken' : Option (List ℕ)) (file : List ℕ) where
  through_over : (count : ℕ) → LinesThrough packs longest (Some file) left' taken taken' count → LinesOver packs refuses longest (lines_of file) taken taken' (Ok count)
  through_over count run =
      let parts = split file run.text left' run.read in
      let same : file ≡ run.text = parts.1 ∙ ap (λ l. run.text ++ l) (parts.2 run.is_end) ∙ append-nil run.text in
      subst (λ l. LinesOver packs refuses longest (lines_of l) taken taken' (Ok count)) (sym same) (run.counted, run.few, (run.short, run.records, run.packed, run.wrote))

  -- the lines of the file, of which those in front were packed
  pub record Front (fault : PackFault) (run : LinesStopped packs refuses longest (Some file) left' taken taken' fault) : Type 0 where
    pub unread : List ℕ
    pub none : IsAtEnd left' → unread ≡ []
    pub lines_are : lines_of file ≡ run.lines ++ lines_of (run.rest ++ unread)

  front_of : (fault : PackFault) (run : LinesStopped packs refuses longest (Some file) left' taken taken' fault) → Front fault run
  front_of fault run =
      let parts = split file (ended run.lines ++ run.rest) left' run.read in
      record {
        unread = parts.0;
        none = parts.2;
        lines_are = ap lines_of (parts.1 ∙ append_assoc (ended run.lines) run.rest parts.0) ∙ lines_of-ended run.lines (run.rest ++ parts.0) (unbroken_lines packs longest run.lines run.each);
      }

  writes_front : (fault : PackFault) (run : LinesStopped packs refuses longest (Some file) left' taken taken' fault) → run.written ≡ joined run.records → Writes packs longest run.lines taken taken'
  writes_front fault run all = (short_lines packs longest run.lines run.each, run.records, run.packed, subst (Appends taken taken') all run.wrote)

  stops_before : (fault : PackFault) (number : ℕ) (run : LinesStopped packs refuses longest (Some file) left' taken taken' fault) → run.written ≡ joined run.records → number ≡ length run.lines + 1
      → StopsBefore packs longest (lines_of file) taken taken' number
  stops_before fault number run all is =
      let front = front_of fault run in
      (run.lines, lines_of (run.rest ++ front.unread), front.lines_are, is, run.few, writes_front fault run all)

  fault_next : (fault : PackFault) (number : ℕ) (P : List ℕ → Type 0) (run : LinesStopped packs refuses longest (Some file) left' taken taken' fault) → run.written ≡ joined run.records
      → number ≡ length run.lines + 1 → NextLine longest (length run.lines) run.rest (IsAtEnd left') P → FaultAt packs longest (lines_of file) taken taken' number (λ line. IsShort longest line × P line)
  fault_next fault number P run all is next =
      let front = front_of fault run in
      let first = first_whole next.1 run.rest front.unread (IsAtEnd left') next.2.0 next.3 front.none in
      (run.lines, first.0, next.1, front.lines_are ∙ ap (λ (l : List (List ℕ)). run.lines ++ l) first.1, is, next.0, (next.2.1, next.4), writes_front fault run all)

  fault_long : (number : ℕ) (run : LinesStopped packs refuses longest (Some file) left' taken taken' (LineTooLong number)) → LinesOver packs refuses longest (lines_of file) taken taken' (Err (LineTooLong number))
  fault_long number run =
      let front = front_of (LineTooLong number) run in
      let long : longest < length run.rest = run.cause.3 in
      let some : run.rest ≢ [] = λ none. omega (arith, long, ap length none) in
      let first = lines_of-front run.rest front.unread run.cause.2 some in (
        run.lines,
        first.1,
        run.rest ++ first.0,
        front.lines_are ∙ ap (λ (l : List (List ℕ)). run.lines ++ l) first.2,
        run.cause.0,
        run.cause.1,
        omega (arith, long, length-append run.rest first.0),
        writes_front (LineTooLong number) run run.records_out,
      )

  fault_many : (run : LinesStopped packs refuses longest (Some file) left' taken taken' TooManyLines) → LinesOver packs refuses longest (lines_of file) taken taken' (Err TooManyLines)
  fault_many run =
      let front = front_of TooManyLines run in
      (run.lines, lines_of (run.rest ++ front.unread), front.lines_are, run.cause.0, some_lines run.rest front.unread run.cause.1, writes_front TooManyLines run run.records_out)

  fault_memory : (number : ℕ) (run : LinesStopped packs refuses longest (Some file) left' taken taken' (OutOfMemory number)) → LinesOver packs refuses longest (lines_of file) taken taken' (Err (OutOfMemory number))
  fault_memory number run = (
    elim run.cause.1 as (λ _. (number ≡ 1) ⊎ (number ≤ length (lines_of file))) [
      | inl begins ↦ inl (omega (arith, run.cause.0, begins.0))
      | inr next ↦ (let at = fault_next (OutOfMemory number) number (λ line. ⊤) run run.records_out run.cause.0 next in
          inr (omega (arith, at.4, ap (length {A = List ℕ}) at.3, length-append at.0 (at.2 ∷ at.1))))
    ],
    stops_before (OutOfMemory number) number run run.records_out run.cause.0,
  )

  fault_written : (count : ℕ) (run : LinesStopped packs refuses longest (Some file) left' taken taken' (WriteFault count)) → LinesOver packs refuses longest (lines_of file) taken taken' (Err (WriteFault count))
  fault_written count run =
      let out = run.records_out in
      let front = front_of (WriteFault count) run in
      elim out.3 as (λ _. LinesOver packs refuses longest (lines_of file) taken taken' (Err (WriteFault count))) [
        | inl none ↦ (
          run.lines,
          lines_of (run.rest ++ front.unread),
          run.records,
          run.written,
          out.1,
          front.lines_are,
          run.few,
          short_lines packs longest run.lines run.each,
          run.packed,
          out.4 ∙ ap (λ l. joined run.records ++ l) none ∙ append-nil (joined run.records),
          out.5,
          run.wrote,
          out.0,
        )
        | inr last ↦ (let first = first_whole run.rest run.rest front.unread (IsAtEnd left') last.2.0 (inr (refl, last.1, last.3)) front.none in (
          run.lines ++ run.rest ∷ [],
          first.0,
          run.records ++ last.4 ∷ [],
          run.written,
          out.1,
          front.lines_are ∙ ap (λ (l : List (List ℕ)). run.lines ++ l) first.1 ∙ sym (append_assoc run.lines (run.rest ∷ []) first.0),
          simp length-append (omega (arith, last.0, AllZip-length packs run.lines run.records run.packed)),
          AllByRecursion-append (IsShort longest) run.lines (run.rest ∷ []) (short_lines packs longest run.lines run.each) (last.2.1, tt),
          AllZip-append packs run.lines run.records (run.rest ∷ []) (last.4 ∷ []) run.packed (last.5, tt),
          out.4 ∙ ap (λ l. joined run.records ++ l) last.6 ∙ sym (joined-more run.records last.4),
          out.5,
          run.wrote,
          out.0,
        ))
      ]

  pub stopped_over : (fault : PackFault) → LinesStopped packs refuses longest (Some file) left' taken taken' fault → LinesOver packs refuses longest (lines_of file) taken taken' (Err fault)
  stopped_over (LineTooLong number) run = fault_long number run
  stopped_over (NotHex number) run = fault_next (NotHex number) number (λ line. refuses line (NotHex number)) run run.records_out run.cause.0 run.cause.1
  stopped_over (RecordTooLong number) run = fault_next (RecordTooLong number) number (λ line. refuses line (RecordTooLong number)) run run.records_out run.cause.0 run.cause.1
  stopped_over (Unreadable number column) run = fault_next (Unreadable number column) number (λ line. refuses line (Unreadable number column)) run run.records_out run.cause.0 run.cause.1
  stopped_over (Refused number) run = fault_next (Refused number) number (λ line. refuses line (Refused number)) run run.records_out run.cause.0 run.cause.1
  stopped_over (ReadFault number) run = stops_before (ReadFault number) number run run.records_out run.cause.0
  stopped_over (WriteFault count) run = fault_written count run
  stopped_over TooManyLines run = fault_many run
  stopped_over (OutOfMemory number) run = fault_memory number run

  pub result_over : (left : Option (List ℕ)) (result : Result ℕ PackFault) → left ≡ Some file → IfOk result (LinesThrough packs longest left left' taken taken')
      → IfErr result (LinesStopped packs refuses longest left left' taken taken') → LinesOver packs refuses longest (lines_of file) taken taken' result
  result_over left (Ok count) known through stopped = through_over count (subst (λ l. LinesThrough packs longest l left' taken taken' count) known through)
  result_over left (Err fault) known through stopped = stopped_over fault (subst (λ l. LinesStopped packs refuses longest l left' taken taken' fault) known stopped)
