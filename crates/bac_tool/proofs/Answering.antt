-- What answers words that name no job.
use Rattle.std.proofs.Common.{ℕ, inl}
use Rattle.clap.specs.declared.error.ErrorKind.{ErrorKind}
use Rattle.clap.specs.declared.error.ErrorKind.TheVariants.{InvalidValue, UnknownArgument, InvalidSubcommand, NoEquals, ValueValidation, TooManyValues, TooFewValues, WrongNumberOfValues, ArgumentConflict, MissingRequiredArgument, MissingSubcommand, DisplayHelp, DisplayHelpOnMissingArgumentOrSubcommand, DisplayVersion, Io, Format, OutOfMemory}
use Rattle.bac_tool.specs.Tool.{Answers, Sink, Tells, out_of_memory}

-- Want of memory may be told whatever the words ask for.
pub memory_answers : (kind : ErrorKind) (output output' errors errors' : Sink) (status : ℕ) → Tells output output' errors errors' out_of_memory status → Answers kind output output' errors errors' status
memory_answers InvalidValue output output' errors errors' status told = (out_of_memory, told)
memory_answers UnknownArgument output output' errors errors' status told = (out_of_memory, told)
memory_answers InvalidSubcommand output output' errors errors' status told = (out_of_memory, told)
memory_answers NoEquals output output' errors errors' status told = (out_of_memory, told)
memory_answers ValueValidation output output' errors errors' status told = (out_of_memory, told)
memory_answers TooManyValues output output' errors errors' status told = (out_of_memory, told)
memory_answers TooFewValues output output' errors errors' status told = (out_of_memory, told)
memory_answers WrongNumberOfValues output output' errors errors' status told = (out_of_memory, told)
memory_answers ArgumentConflict output output' errors errors' status told = (out_of_memory, told)
memory_answers MissingRequiredArgument output output' errors errors' status told = (out_of_memory, told)
memory_answers MissingSubcommand output output' errors errors' status told = (out_of_memory, told)
memory_answers DisplayHelp output output' errors errors' status told = inl told
memory_answers DisplayHelpOnMissingArgumentOrSubcommand output output' errors errors' status told = (out_of_memory, told)
memory_answers DisplayVersion output output' errors errors' status told = inl told
memory_answers Io output output' errors errors' status told = (out_of_memory, told)
memory_answers Format output output' errors errors' status told = (out_of_memory, told)
memory_answers OutOfMemory output output' errors errors' status told = told
