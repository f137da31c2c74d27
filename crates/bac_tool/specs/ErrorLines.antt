-- The lines on standard error.
use Rattle.std.specs.Prelude.{ℕ, List, ◌++◌, codes}
use Rattle.std.specs.Fmt.{decimal}
use Rattle.bac_tag.specs.Refusals.{name_of}
use Rattle.bac_record.specs.declared.faults.StreamFault.{StreamFault}
use Rattle.bac_record.specs.declared.faults.StreamFault.TheVariants as stream
use Rattle.bac_record.specs.declared.faults.RunFault.{RunFault}
use Rattle.bac_record.specs.declared.faults.RunFault.TheVariants.{Stream, Frame}
use Rattle.bac_pack.specs.declared.faults.PackFault.{PackFault}
use Rattle.bac_pack.specs.declared.faults.PackFault.TheVariants as pack
use Rattle.bac_tool.specs.declared.job_faults.JobFault.{JobFault}
use Rattle.bac_tool.specs.declared.job_faults.JobFault.TheVariants.{Run, Pack}

-- A text after a word and a number: the word, the number, a colon and a blank, the text.
abbrev pub numbered : List ℕ → ℕ → List ℕ → List ℕ
numbered what number text = what ++ decimal number ++ codes ": " ++ text

-- The text of a fault of a record, after "record N: ".
abbrev pub record_text : ℕ → List ℕ → List ℕ
record_text at text = numbered (codes "record ") at text

-- The text of a fault of a line, after "line N: ".
abbrev pub line_text : ℕ → List ℕ → List ℕ
line_text at text = numbered (codes "line ") at text

-- The text of a failed write, with the number of octets that were taken.
abbrev pub write_text : ℕ → List ℕ
write_text count = codes "write fault after " ++ decimal count ++ codes " octets"

-- The text of too many records.
abbrev pub too_many_text : List ℕ
too_many_text = codes "more than 1000000 records"

-- The text of lack of memory.
abbrev pub memory_text : List ℕ
memory_text = codes "out of memory"

-- The text of a fault of the stream, at the record of this number.
abbrev pub stream_text : ℕ → StreamFault → List ℕ
stream_text at stream.Truncated = record_text at (codes "truncated")
stream_text at stream.RecordTooLong = record_text at (codes "too long")
stream_text at stream.ReadFault = record_text at (codes "read fault")
stream_text at (stream.WriteFault count) = write_text count
stream_text at stream.TooManyFrames = too_many_text
stream_text at stream.OutOfMemory = memory_text

-- The text of a fault of a run over records, by stream_text if it is one of the stream.
abbrev pub run_text : RunFault → List ℕ
run_text (Stream at fault) = stream_text at fault
run_text (Frame at refusal) = record_text at (codes "refused " ++ name_of refusal.why ++ codes " at " ++ decimal refusal.place)

-- The text of a fault of a run over lines.
abbrev pub pack_text : PackFault → List ℕ
pack_text (pack.LineTooLong at) = line_text at (codes "too long")
pack_text (pack.NotHex at) = line_text at (codes "not hexadecimal")
pack_text (pack.RecordTooLong at) = line_text at (codes "too long")
pack_text (pack.ReadFault at) = line_text at (codes "read fault")
pack_text (pack.WriteFault count) = write_text count
pack_text pack.TooManyLines = too_many_text
pack_text (pack.OutOfMemory at) = memory_text
pack_text (pack.Unreadable at column) = line_text at (codes "unreadable at column " ++ decimal column)
pack_text (pack.Refused at) = line_text at (codes "refused")

-- The text of the fault of a job, by run_text or by pack_text.
abbrev pub fault_text : JobFault → List ℕ
fault_text (Run fault) = run_text fault
fault_text (Pack fault) = pack_text fault

-- The line of a text on standard error: "bactool: ", the text, a line end.
abbrev pub error_line : List ℕ → List ℕ
error_line text = codes "bactool: " ++ text ++ codes "\n"
