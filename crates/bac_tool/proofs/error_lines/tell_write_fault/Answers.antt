use Rattle.std.proofs.Common.{◌≡◌, take, ℕ, List, subst}
use Rattle.bac_tool.specs.ErrorLines.{error_line, write_text}
use Rattle.bac_tool.specs.Tool.{Receives}
use Rattle.bac_tool.proofs.ErrorLemmas.{line_of}
use Rattle.bac_tool.proofs.error_lines.tell_write_fault.Goals as goal

pub returns : goal.returns
returns g c =
    let line : take c.put_word-end-2.result c.put_word-end-2.new.room ≡ error_line (write_text c.args.count) = line_of _ _ _ (write_text c.args.count) c.put_word-end.ensures.text c.put_write_fault-end.ensures.text c.put_word-end-2.ensures.text in
    subst (λ (text : List ℕ). Receives (record { taken = g.E.Output.taken c.args.errors.now; failures = g.E.Output.failures c.args.errors.now }) (record { taken = g.E.Output.taken c.tell_text.new.errors; failures = g.E.Output.failures c.tell_text.new.errors }) text) line c.tell_text.ensures
