use Rattle.std.proofs.Common.{sym, ◌∙◌, refl}
use Rattle.std.proofs.lemmas.Bool.{false≢true}
use Rattle.bac_lines.proofs.ReadingLemmas.{read_of, says_of, not_whole, no_refusal, only_line}
use Rattle.bac_lines.proofs.reading.LineReader.append_scanned.Goals as goal

pub returns-then-not-branch-clause-none : goal.returns-then-not-branch-clause-none
returns-then-not-branch-clause-none c =
    λ e. not_whole c.args.line.now c.scan.new.said.contents.items c.scan.new.said.fields.items c.in_ok-scan.field-0 c.in_ok-scan.ensures.found c.the_line_is_the_fields.ensures c.if-not-branch.true

pub returns-in-Ok-clause-read : goal.returns-in-Ok-clause-read
returns-in-Ok-clause-read c =
    λ whole. read_of c.args.line.now c.deref-2.result.now c.args.out.now.items c.append_octets.new.out.items c.deref.result.now c.scan.new.said (c.in_ok-scan.ensures.sound c.if-not-branch.false) c.deref-2.ensures.value c.deref.ensures.value
    c.the_line_is_the_fields.ensures c.in-Ok.ensures.made

pub returns-in-Ok-clause-says : goal.returns-in-Ok-clause-says
returns-in-Ok-clause-says c =
    λ whole. says_of c.args.line.now c.deref-2.result.now c.args.out.now.items c.append_octets.new.out.items c.deref.result.now c.scan.new.said (c.in_ok-scan.ensures.sound c.if-not-branch.false) c.deref-2.ensures.value c.deref.ensures.value
    c.the_line_is_the_fields.ensures c.in-Ok.ensures.made

pub returns-in-Err-2-clause-none : goal.returns-in-Err-2-clause-none
returns-in-Err-2-clause-none c =
    λ e. no_refusal c.args.line.now c.scan.new.said.contents.items c.scan.new.said.fields.items c.in_ok-scan.field-0 c.in_ok-scan.ensures.found c.the_line_is_the_fields.ensures c.deref-2.result.now c.deref.result.now c.deref-2.ensures.value c.deref.ensures.value
    c.in-Err.refusal (λ same. absurd (false≢true (sym c.if-eq.false ∙ c.eq.ensures ∙ rw same refl))) c.in-Err.ensures.refused

pub returns-in-Ok-clause-only : goal.returns-in-Ok-clause-only
returns-in-Ok-clause-only c =
    λ whole. only_line c.args.line.now c.scan.new.said.contents.items c.scan.new.said.fields.items c.in_ok-scan.field-0 c.in_ok-scan.ensures.found c.the_line_is_the_fields.ensures c.deref-2.result.now c.deref.result.now
    c.deref-2.ensures.value c.deref.ensures.value c.fields_are_of_one_frame.ensures c.args.out.now.items c.append_octets.new.out.items c.in-Ok.ensures.made
