-- What the program does with its words, its input and its output.
use Rattle.std.specs.Prelude.{◌≡◌, ◌⊎◌, ℕ, Bool, true, List, Option, Result, Ok, Err, MatchResult, [], nat_eq, if◌then◌else◌}
use Rattle.std.specs.Io.KnownBytes.{Appends}
use Rattle.clap.specs.Words.{IsAmong, Kinds, Row, Text}
use Rattle.clap.specs.declared.error.ErrorKind.{ErrorKind}
use Rattle.clap.specs.declared.error.ErrorKind.TheVariants.{DisplayHelp, DisplayVersion, OutOfMemory}
use Rattle.bac_tool.specs.CommandLine.{NamesJob}
use Rattle.bac_tool.specs.ErrorLines.{error_line, fault_text, memory_text, write_text}
use Rattle.bac_stream.specs.Explaining.{ExplainsAs}
use Rattle.bac_stream.specs.Judging.{IsCanonical, IsRefused, Refuses}
use Rattle.bac_stream.specs.declared.modes.Mode.{Mode}
use Rattle.bac_stream.specs.Lines.{ShowsAs, ChecksAs, NormalisesTo}
use Rattle.bac_record.specs.Devices.{HasRisen}
use Rattle.bac_record.specs.Runs.{RanThrough, RunCounts, Stopped}
use Rattle.bac_pack.specs.Runs as packing
use Rattle.bac_pack.specs.Runs.{LinesStopped, LinesThrough, PacksThrough}
use Rattle.bac_lines.specs.ShownLines.{LONGEST_LINE, StandsFor, StandsForNone}
use Rattle.bac_record.specs.Transfers.{TakesFront}
use Rattle.bac_tool.specs.declared.command_line.Job.{Job}
use Rattle.bac_tool.specs.declared.command_line.Job.TheVariants.{Show, Check, Normalise, Pack, Read, Explain}
use Rattle.bac_tool.specs.declared.job_faults.JobFault.{JobFault}
use Rattle.bac_tool.specs.declared.job_faults.JobFault.TheVariants as fault
use Rattle.bac_record.specs.declared.faults.RunFault.TheVariants.{Frame}
use Rattle.bac_record.specs.declared.summaries.Summary.{Summary}

-- A run over records ended well, with so many refused ones.
abbrev pub RanOver : (ℕ → List ℕ → List ℕ → Type 0) → Mode → Option (List ℕ) → Option (List ℕ) → Option (List ℕ) → Option (List ℕ) → ℕ → Type 0
RanOver line mode left left' taken taken' refused =
    (summary : Summary) × RanThrough line IsCanonical (IsRefused mode) left left' taken taken' summary × (refused ≡ summary.refused)

-- What a job leaves in its input and its output, in the words of the runs of bac_record and bac_pack. It goes by the answer of
-- the job: how many records were refused, or a fault.
abbrev pub RunsAs : Job → Option (List ℕ) → Option (List ℕ) → Option (List ℕ) → Option (List ℕ) → Result ℕ JobFault → Type 0
RunsAs (Show mode) left left' taken taken' (Ok refused) = RanOver (ShowsAs mode) mode left left' taken taken' refused
RunsAs (Show mode) left left' taken taken' (Err (fault.Run stop)) = Stopped (ShowsAs mode) (λ _ _. ⊥) left left' taken taken' stop
RunsAs (Check mode) left left' taken taken' (Ok refused) = RanOver (ChecksAs mode) mode left left' taken taken' refused
RunsAs (Check mode) left left' taken taken' (Err (fault.Run stop)) = Stopped (ChecksAs mode) (λ _ _. ⊥) left left' taken taken' stop
RunsAs (Normalise mode) left left' taken taken' (Ok refused) = RanOver (NormalisesTo mode) mode left left' taken taken' refused
RunsAs (Normalise mode) left left' taken taken' (Err (fault.Run stop)) = Stopped (NormalisesTo mode) (Refuses mode) left left' taken taken' stop
RunsAs Pack left left' taken taken' (Ok refused) = (count : ℕ) × PacksThrough left left' taken taken' count × (refused ≡ 0)
RunsAs Pack left left' taken taken' (Err (fault.Pack stop)) = packing.Stopped left left' taken taken' stop
RunsAs Read left left' taken taken' (Ok refused) = (count : ℕ) × LinesThrough StandsFor LONGEST_LINE left left' taken taken' count × (refused ≡ 0)
RunsAs Read left left' taken taken' (Err (fault.Pack stop)) = LinesStopped StandsFor StandsForNone LONGEST_LINE left left' taken taken' stop
RunsAs (Explain mode) left left' taken taken' (Ok refused) = RanOver (ExplainsAs mode) mode left left' taken taken' refused
RunsAs (Explain mode) left left' taken taken' (Err (fault.Run stop)) = Stopped (ExplainsAs mode) (λ _ _. ⊥) left left' taken taken' stop
RunsAs _ left left' taken taken' (Err _) = ⊥

-- A device's failures rose if the fault is its own, and else they stay.
abbrev pub Counts : ℕ → ℕ → ℕ → ℕ → JobFault → Type 0
Counts read read' write write' (fault.Run stop) = RunCounts read read' write write' stop
Counts read read' write write' (fault.Pack stop) = packing.RunCounts read read' write write' stop

-- The exit status by the answer of the job: 0 if no record was refused, 1 if one or more were, 2 for any other fault. It is 1
-- too if normalise stopped at a refused record.
abbrev pub status_of : Result ℕ JobFault → ℕ
status_of (Ok refused) = if nat_eq refused 0 then 0 else 1
status_of (Err (fault.Run (Frame at refusal))) = 1
status_of (Err _) = 2

-- What is known of an input: the octets that it will give, and how often it has failed.
pub record Source : Type 0 where
  pub left : Option (List ℕ)
  pub failures : ℕ

-- What is known of an output: the octets that it has taken, and how often it has failed.
pub record Sink : Type 0 where
  pub taken : Option (List ℕ)
  pub failures : ℕ

-- What is known of the devices of the program: the input, the output, and the errors.
pub record Devices : Type 0 where
  pub input : Source
  pub output : Sink
  pub errors : Sink

-- A run of the program: the devices before it and after it, and the exit status.
pub record Run : Type 0 where
  pub before : Devices
  pub after : Devices
  pub status : ℕ

-- The output took a part of the octets, which is not all of them, and failed.
abbrev pub TakesPart : Sink → Sink → List ℕ → Type 0
TakesPart old new octets = (count : ℕ) × TakesFront old.taken new.taken octets count × HasRisen old.failures new.failures

-- The output took all of the octets, or it took a part of them, which is not all, and failed.
abbrev pub Receives : Sink → Sink → List ℕ → Type 0
Receives old new octets = (Appends old.taken new.taken octets × (new.failures ≡ old.failures)) ⊎ TakesPart old new octets

-- The job that the words name was run. The words have no fault. The answer of the job determines the counts of failures, the
-- line that the errors received, if it is a fault, and the status.
pub record HasRun (named : Option (Text × List Row)) (faults : Kinds) (run : Run) : Type 0 where
  pub job : Job
  pub answer : Result ℕ JobFault
  pub names : NamesJob named job
  pub faultless : faults ≡ []
  pub runs : RunsAs job run.before.input.left run.after.input.left run.before.output.taken run.after.output.taken answer
  pub counted : MatchResult answer
      (λ _. (run.after.input.failures ≡ run.before.input.failures) × (run.after.output.failures ≡ run.before.output.failures))
      (Counts run.before.input.failures run.after.input.failures run.before.output.failures run.after.output.failures)
  pub told : MatchResult answer
      (λ _. run.after.errors ≡ run.before.errors)
      (λ stopped. Receives run.before.errors run.after.errors (error_line (fault_text stopped)))
  pub status_is : run.status ≡ status_of answer

-- The line that reports lack of memory.
abbrev pub out_of_memory : List ℕ
out_of_memory = error_line memory_text

-- Nothing was written to the output, the errors received this text, and the status is 2.
pub record Tells (output output' errors errors' : Sink) (text : List ℕ) (status : ℕ) : Type 0 where
  pub unwritten : output' ≡ output
  pub told : Receives errors errors' text
  pub status_is : status ≡ 2

-- The text was written to the output. If the output took it whole, nothing is on the errors and the status is 0. If it took a
-- part and failed, the errors received the line of a write fault and the status is 2.
abbrev pub Gives : List ℕ → Sink → Sink → Sink → Sink → ℕ → Type 0
Gives text output output' errors errors' status =
    (Appends output.taken output'.taken text × (output'.failures ≡ output.failures) × (errors' ≡ errors) × (status ≡ 0))
    ⊎ ((count : ℕ) × TakesFront output.taken output'.taken text count × HasRisen output.failures output'.failures
    × Receives errors errors' (error_line (write_text count)) × (status ≡ 2))

-- Some text was written to the output, as Gives says. The contracts of clap do not say which.
abbrev pub Writes : Sink → Sink → Sink → Sink → ℕ → Type 0
Writes output output' errors errors' status = (text : List ℕ) × Gives text output output' errors errors' status

-- How words that name no job are answered, by the kind of error. Lack of memory is reported by its line on the errors, help and
-- the version are written to the output, and each other fault is reported by some text on the errors. Lack of memory may be
-- reported instead of any kind, since the texts need memory.
abbrev pub Answers : ErrorKind → Sink → Sink → Sink → Sink → ℕ → Type 0
Answers OutOfMemory output output' errors errors' status = Tells output output' errors errors' out_of_memory status
Answers DisplayHelp output output' errors errors' status = Tells output output' errors errors' out_of_memory status ⊎ Writes output output' errors errors' status
Answers DisplayVersion output output' errors errors' status = Tells output output' errors errors' out_of_memory status ⊎ Writes output output' errors errors' status
Answers _ output output' errors errors' status = (text : List ℕ) × Tells output output' errors errors' text status

-- No job was run and nothing was read. The words have a fault and are answered by its kind, or lack of memory is reported. For
-- words that the command line takes, or that have no fault, it is lack of memory. A contract cannot say whether memory was
-- refused.
pub record HasNotRun (takes : Bool) (faults : Kinds) (run : Run) : Type 0 where
  pub kind : ErrorKind
  pub is_fault : (kind ≡ OutOfMemory) ⊎ IsAmong kind faults
  pub memory : takes ≡ true → kind ≡ OutOfMemory
  pub unread : run.after.input ≡ run.before.input
  pub answered : Answers kind run.before.output run.after.output run.before.errors run.after.errors run.status
