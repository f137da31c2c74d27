-- What one more name makes of a command.
use Rattle.std.proofs.Common.{◌≡◌, ◌∙◌, ap, List, [], ◌∷◌, map, ℕ, Bool, false, Bor}
use Rattle.std.proofs.lemmas.List.{map-append}
use Rattle.clap.specs.Words.{App, Text, app_of, AddsCommandAliases}
use Rattle.clap.specs.Simple.{app_of_fields}
use Rattle.clap.specs.declared.builder.command.Command.{Command}
use Rattle.clap.specs.declared.builder.command.Command.{out-Command as fields_of}
use Rattle.bac_tool.specs.CommandLine.{with_alias}

-- the name of an alias
abbrev alias_name : Bor (List ℕ) × Bool → List ℕ
alias_name alias = alias.0.now

-- the command with these other names
abbrev named : App → List Text → App
named a names = record a { top = record a.top { aliases = names } }

pub has_alias : (old new : Command) (name : Bor (List ℕ)) → AddsCommandAliases old new ((name, false) ∷ []) → app_of new ≡ with_alias (app_of old) name.now
has_alias old new name adds =
    ap app_of_fields adds.0 ∙ ap (λ l. named (app_of old) (map alias_name l)) adds.1
    ∙ ap (named (app_of old)) (map-append alias_name (fields_of old).aliases.items ((name, false) ∷ []))
