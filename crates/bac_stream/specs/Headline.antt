-- What the headline speaks of: answers of calls, in the words of the clauses of their contracts.
use Rattle.std.specs.Prelude.{◌≡◌, ◌≢◌, ℕ, List, ⊤, Option, Some, Result, Ok, Err, IfOk, IfErr}
use Rattle.bac_tag.specs.declared.refusals.Refusal.{Refusal}
use Rattle.bac_tag.specs.declared.refusals.Why.TheVariants.{NotCanonical, OutOfMemory}
use Rattle.bac_tag.specs.Spelling.{IsLeast, IsWholeRefusal}
use Rattle.bac_npdu_parts.specs.Frames.{SpellsFrame, value_of}
use Rattle.bac_npdu.specs.Meanings.{IsFirstFlaw}
use Rattle.bac_record.specs.Files.{RunsOver}
use Rattle.bac_record.specs.Records.{Records}
use Rattle.bac_record.specs.Runs.{RanThrough, Stopped}
use Rattle.bac_record.specs.declared.faults.RunFault.{RunFault}
use Rattle.bac_record.specs.declared.summaries.Summary.{Summary}
use Rattle.bac_stream.specs.Intakes.{Item}
use Rattle.bac_stream.specs.Judging.{IsCanonical, IsRefused}
use Rattle.bac_stream.specs.declared.modes.Mode.{Mode}

-- The answer is not that memory was refused.
abbrev pub HadMemory : Item → Type 0
HadMemory (Ok frame) = ⊤
HadMemory (Err refusal) = refusal.why ≢ OutOfMemory

-- An answer of decode_frame, in the words of its clauses: a frame that the octets spell, or a refusal if they spell none.
abbrev pub IsDecoded : List ℕ → Item → Type 0
IsDecoded octets (Ok frame) = SpellsFrame (value_of frame) octets
IsDecoded octets (Err refusal) = refusal.why ≢ OutOfMemory → IsWholeRefusal SpellsFrame octets refusal

-- An answer of decode_strict, in the words of its clauses: the frame whose canonical octets these are, the place where they
-- differ from those of the frame that they spell, or a refusal if they spell none.
abbrev pub IsDecodedStrictly : List ℕ → Item → Type 0
IsDecodedStrictly octets (Ok frame) = IsLeast (SpellsFrame (value_of frame)) octets
IsDecodedStrictly octets (Err refusal) = (refusal.why ≡ NotCanonical → IsFirstFlaw octets refusal.place)
    × (refusal.why ≢ OutOfMemory → refusal.why ≢ NotCanonical → IsWholeRefusal SpellsFrame octets refusal)

-- A run over a file answers and writes by the file's records, whatever pieces the reader's reads give. What the contract of a
-- run says of its reader and its writer, if the reader has a file, is what there is to say of the records of that file.
abbrev pub RunsByRecords : (ℕ → List ℕ → List ℕ → Type 0) → (List ℕ → Refusal → Type 0) → Mode → Type 0
RunsByRecords line stops mode = (list : List (List ℕ)) (rest file : List ℕ) (left taken after : Option (List ℕ)) (result : Result Summary RunFault) → Records list rest file
    → IfOk result (RanThrough line IsCanonical (IsRefused mode) (Some file) left taken after) → IfErr result (Stopped line stops (Some file) left taken after)
    → RunsOver line stops IsCanonical (IsRefused mode) list rest taken after result
