-- The command line of the program, and the job that it names.
use Rattle.std.specs.Prelude.{◌≡◌, List, [], ◌∷◌, ◌++◌, codes, true, Option, Some, None}
use Rattle.clap.specs.Words.{App, Row, Rule, Text, new_app, new_rule, one_of, with_rule, with_subcommand}
use Rattle.clap.specs.declared.builder.action.ArgAction.TheVariants.{SetTrue}
use Rattle.bac_stream.specs.declared.modes.Mode.{Mode}
use Rattle.bac_stream.specs.declared.modes.Mode.TheVariants.{Tolerant, Strict}
use Rattle.bac_tool.specs.declared.command_line.Job.{Job}
use Rattle.bac_tool.specs.declared.command_line.Job.TheVariants.{Show, Check, Normalise, Pack, Read, Explain}

-- The flag --strict.
abbrev pub strict : Rule
strict = record (new_rule (codes "strict")) { long = Some (codes "strict"); action = Some SetTrue }

-- A subcommand that takes the flag --strict.
abbrev pub moded : Text → App
moded name = with_rule (new_app name) strict

-- A command with one more name, which help does not show.
abbrev pub with_alias : App → Text → App
with_alias a name = record a { top = record a.top { aliases = a.top.aliases ++ name ∷ [] } }

-- The program with its version, before its subcommands, of which one is required. The crate clap adds the subcommand help,
-- which names no job.
abbrev pub bare : App
bare = record (new_app (codes "bactool")) { top = record (new_app (codes "bactool")).top { subcommand_required = true; has_version = true } }

-- The program with the subcommands that write lines of records. Each takes the flag --strict.
abbrev pub reporting : App
reporting = with_subcommand (with_subcommand (with_subcommand bare (moded (codes "show")).top) (moded (codes "explain")).top) (moded (codes "check")).top

-- The program with its version and its six subcommands, of which one is required. Four take the flag --strict, pack and read
-- do not. A second name of normalise is normalize.
abbrev pub bactool : App
bactool = with_subcommand (with_subcommand (with_subcommand reporting (with_alias (moded (codes "normalise")) (codes "normalize")).top) (new_app (codes "pack")).top) (new_app (codes "read")).top

-- The mode is the one that the text of the flag names: Strict for true, Tolerant for false or no text.
abbrev pub HasMode : Option Text → Mode → Type 0
HasMode flag mode = (flag ≡ Some (codes "true") → mode ≡ Strict) × (flag ≡ Some (codes "false") → mode ≡ Tolerant) × (flag ≡ None → mode ≡ Tolerant)

-- The job has the name of the subcommand and the mode of the flag.
abbrev pub IsJobOf : Text → Option Text → Job → Type 0
IsJobOf name flag (Show mode) = (name ≡ codes "show") × HasMode flag mode
IsJobOf name flag (Check mode) = (name ≡ codes "check") × HasMode flag mode
IsJobOf name flag (Normalise mode) = (name ≡ codes "normalise") × HasMode flag mode
IsJobOf name flag Pack = name ≡ codes "pack"
IsJobOf name flag Read = name ≡ codes "read"
IsJobOf name flag (Explain mode) = (name ≡ codes "explain") × HasMode flag mode

-- The job is the one that the matches name: it has the subcommand's name and the flag's mode.
abbrev pub NamesJob : Option (Text × List Row) → Job → Type 0
NamesJob None job = ⊥
NamesJob (Some found) job = IsJobOf found.0 (one_of (codes "strict") found.1) job

-- Twelve word lists that the command line takes, each with its job. Others are taken too, as "show --" is: what the crate clap
-- says of the command line decides. In its words takes says that the words pass, and fault_of lists the kinds of error that
-- they may be refused for, none if they have no fault.
abbrev pub word_lists : List (List Text × Job)
word_lists = (codes "bactool" ∷ codes "show" ∷ [], Show Tolerant)
    ∷ (codes "bactool" ∷ codes "show" ∷ codes "--strict" ∷ [], Show Strict)
    ∷ (codes "bactool" ∷ codes "check" ∷ [], Check Tolerant)
    ∷ (codes "bactool" ∷ codes "check" ∷ codes "--strict" ∷ [], Check Strict)
    ∷ (codes "bactool" ∷ codes "normalise" ∷ [], Normalise Tolerant)
    ∷ (codes "bactool" ∷ codes "normalise" ∷ codes "--strict" ∷ [], Normalise Strict)
    ∷ (codes "bactool" ∷ codes "normalize" ∷ [], Normalise Tolerant)
    ∷ (codes "bactool" ∷ codes "normalize" ∷ codes "--strict" ∷ [], Normalise Strict)
    ∷ (codes "bactool" ∷ codes "pack" ∷ [], Pack)
    ∷ (codes "bactool" ∷ codes "read" ∷ [], Read)
    ∷ (codes "bactool" ∷ codes "explain" ∷ [], Explain Tolerant)
    ∷ (codes "bactool" ∷ codes "explain" ∷ codes "--strict" ∷ [], Explain Strict)
    ∷ []
