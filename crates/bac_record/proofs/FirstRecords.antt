-- The first record of a file.
use Rattle.std.proofs.Common.{◌≡◌, ℕ, ◌<◌, List, [], ◌∷◌, ◌++◌, length, refl, sym, ap, subst, ◌∙◌, append-nil, arith, Option, Some, None, Result, Ok, Err, IfOk, IfErr, MatchResult}
use Rattle.std.specs.Option.{option_map}
use Rattle.bac_record.specs.Records.{Records, Clean, record_of, joined, end_of}
use Rattle.bac_record.specs.Records as records
use Rattle.bac_record.specs.Transfers.{GivesRecord, StopsReading, IsFirst, IsFirstFault}
use Rattle.bac_record.specs.declared.faults.StreamFault.{StreamFault}
use Rattle.bac_record.specs.declared.faults.StreamFault.TheVariants.{Truncated, RecordTooLong, ReadFault, WriteFault, TooManyFrames, OutOfMemory}
use Rattle.bac_record.proofs.Partial.{nothing_begins_none}
use Rattle.bac_record.proofs.FileRuns.{split, next_of_file, ends_file}

-- what each side of a result tells
both : {T E : Type 0} (result : Result T E) (P P' : T → Type 0) (Q Q' : E → Type 0) → IfOk result P → IfErr result Q → ((v : T) → P v → P' v) → ((e : E) → Q e → Q' e) → MatchResult result P' Q'
both (Ok v) P P' Q Q' p q f g = f v p
both (Err e) P P' Q Q' p q f g = g e q

cut_end : (octets : List ℕ) → 0 < length octets → end_of 0 octets ≡ records.Truncated
cut_end [] some = absurd (omega arith)
cut_end (octet ∷ octets) some = refl

first_of : (list : List (List ℕ)) (rest file : List ℕ) (new : Option (List ℕ)) (found : Option (List ℕ)) → Records list rest file → GivesRecord (Some file) new found → IsFirst list rest found
first_of list rest file new (Some octets) known gives =
    let parts = split file (record_of octets) new gives.1 in
    next_of_file list [] octets rest file parts.0 file known tt (omega arith) gives.0 refl parts.1
first_of list rest file new None known gives =
    let parts = split file [] new gives.1 in
    let whole : file ≡ [] = parts.1 ∙ parts.2 gives.0 in
    let found = ends_file list [] rest [] file Clean known tt whole (omega arith, (λ less. nothing_begins_none), refl) in
    (found.0, sym (known.whole ∙ ap (λ (l : List (List ℕ)). joined l ++ rest) found.0) ∙ whole)

fault_of : (list : List (List ℕ)) (rest file : List ℕ) (new : Option (List ℕ)) (fault : StreamFault) → Records list rest file → StopsReading (Some file) new fault → IsFirstFault list rest fault
fault_of list rest file new Truncated known stops =
    let parts = split file stops.0 new stops.1 in
    let whole : file ≡ stops.0 = parts.1 ∙ ap (λ l. stops.0 ++ l) (parts.2 stops.2) ∙ append-nil stops.0 in
    let found = ends_file list [] rest stops.0 file records.Truncated known tt whole (omega arith, (λ less. stops.4), cut_end stops.0 stops.3) in
    (found.0, ap (λ (l : List (List ℕ)). end_of (length l) rest) (sym found.0) ∙ found.1)
fault_of list rest file new RecordTooLong known stops = absurd stops
fault_of list rest file new ReadFault known stops = tt
fault_of list rest file new OutOfMemory known stops = tt
fault_of list rest file new (WriteFault count) known stops = stops
fault_of list rest file new TooManyFrames known stops = stops

pub first_in_file : {V : Type 0} (items : V → List ℕ) (list : List (List ℕ)) (rest file : List ℕ) (left new : Option (List ℕ)) (result : Result (Option V) StreamFault) → left ≡ Some file → Records list rest file
    → IfOk result (λ found. GivesRecord left new (option_map items found)) → IfErr result (StopsReading left new)
    → MatchResult result (λ found. IsFirst list rest (option_map items found)) (IsFirstFault list rest)
first_in_file items list rest file left new result known known_records gives stops =
    both result _ _ _ _ gives stops (λ found given. first_of list rest file new (option_map items found) known_records (subst (λ l. GivesRecord l new (option_map items found)) known given))
    (λ fault stopped. fault_of list rest file new fault known_records (subst (λ l. StopsReading l new fault) known stopped))
