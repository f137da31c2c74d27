use Rattle.std.proofs.Common.{rules, ap, codes, ◌≡◌, ◌∙◌, sym, subst, map}
use Rattle.std.proofs.lemmas.Result.{err_from_is_err_and}
use Rattle.clap.specs.Words.{App, is_simple, takes, subcommand_of, found_of, rows_of}
use Rattle.std.proofs.Common.{ℕ, List, Option, inl, inr, Bor}
use Rattle.clap.proofs.WalkLemmas.{one_text-rows}
use Rattle.bac_tool.specs.CommandLine.{HasMode}
use Rattle.bac_tool.specs.declared.command_line.Job.TheVariants as job
use Rattle.bac_tool.proofs.Named.{faultless, has_kind, is_simple_program, names_job, read_apart, program_names}
use Rattle.bac_tool.proofs.words.named_job.Goals as goal

pub returns-in_err-matches-clause-taken : goal.returns-in_err-matches-clause-taken
returns-in_err-matches-clause-taken c =
    let p = err_from_is_err_and c.from_residual-in_err-matches.result c.from_residual-in_err-matches.ensures.1 in
    rw (p.1, p.2) (λ all. c.in_err-matches.ensures.passes (ap (λ a. takes a (map (λ s. s.now) c.args.words.now)) c.in_ok-command.ensures ∙ all))

pub returns-in_err-matches-clause-kinds : goal.returns-in_err-matches-clause-kinds
returns-in_err-matches-clause-kinds c =
    let p = err_from_is_err_and c.from_residual-in_err-matches.result c.from_residual-in_err-matches.ensures.1 in
    rw (p.1, p.2) (has_kind _ _ c.in_err-matches.field-0.0 c.in_ok-command.ensures c.in_err-matches.ensures.kinds)

pub returns-then-eq-clause-faultless : goal.returns-then-eq-clause-faultless
returns-then-eq-clause-faultless c = faultless _ _ c.in_ok-command.ensures c.in_ok-matches.ensures.kinds

pub returns-then-eq-2-clause-faultless : goal.returns-then-eq-2-clause-faultless
returns-then-eq-2-clause-faultless c = faultless _ _ c.in_ok-command.ensures c.in_ok-matches.ensures.kinds

pub returns-then-eq-3-clause-faultless : goal.returns-then-eq-3-clause-faultless
returns-then-eq-3-clause-faultless c = faultless _ _ c.in_ok-command.ensures c.in_ok-matches.ensures.kinds

pub returns-then-eq-4-clause-faultless : goal.returns-then-eq-4-clause-faultless
returns-then-eq-4-clause-faultless c = faultless _ _ c.in_ok-command.ensures c.in_ok-matches.ensures.kinds

pub returns-then-eq-5-clause-faultless : goal.returns-then-eq-5-clause-faultless
returns-then-eq-5-clause-faultless c = faultless _ _ c.in_ok-command.ensures c.in_ok-matches.ensures.kinds

pub returns-clause-faultless : goal.returns-clause-faultless
returns-clause-faultless c = faultless _ _ c.in_ok-command.ensures c.in_ok-matches.ensures.kinds

-- where the subcommand stands in the words
pub returns-then-eq-clause-named : goal.returns-then-eq-clause-named
returns-then-eq-clause-named c =
    let texts = map {A = Bor (List ℕ)} {B = List ℕ} (λ word. word.now) c.args.words.now in
    let rows = (c.in_ok-matches.ensures.matches (ap is_simple c.in_ok-command.ensures ∙ is_simple_program)).1 ∙ ap (λ (a : App). subcommand_of a texts) c.in_ok-command.ensures in
    let found = sym rows ∙ read_apart _ _ _ _ _ (rw c.in-Some.is at c.subcommand.ensures.name) (rw c.in-Some.is at c.subcommand.ensures.rows) in
    let name_is : c.in-Some.name.now ≡ codes "pack" = search rules in
    names_job texts c.in-Some.name.now (rows_of (found_of c.in-Some.matches.now)) job.Pack found name_is

pub returns-then-eq-2-clause-named : goal.returns-then-eq-2-clause-named
returns-then-eq-2-clause-named c =
    let texts = map {A = Bor (List ℕ)} {B = List ℕ} (λ word. word.now) c.args.words.now in
    let rows = (c.in_ok-matches.ensures.matches (ap is_simple c.in_ok-command.ensures ∙ is_simple_program)).1 ∙ ap (λ (a : App). subcommand_of a texts) c.in_ok-command.ensures in
    let found = sym rows ∙ read_apart _ _ _ _ _ (rw c.in-Some.is at c.subcommand.ensures.name) (rw c.in-Some.is at c.subcommand.ensures.rows) in
    let name_is : c.in-Some.name.now ≡ codes "read" = search rules in
    names_job texts c.in-Some.name.now (rows_of (found_of c.in-Some.matches.now)) job.Read found name_is

pub returns-then-eq-3-clause-named : goal.returns-then-eq-3-clause-named
returns-then-eq-3-clause-named c =
    let texts = map {A = Bor (List ℕ)} {B = List ℕ} (λ word. word.now) c.args.words.now in
    let rows = (c.in_ok-matches.ensures.matches (ap is_simple c.in_ok-command.ensures ∙ is_simple_program)).1 ∙ ap (λ (a : App). subcommand_of a texts) c.in_ok-command.ensures in
    let found = sym rows ∙ read_apart _ _ _ _ _ (rw c.in-Some.is at c.subcommand.ensures.name) (rw c.in-Some.is at c.subcommand.ensures.rows) in
    let name_is : c.in-Some.name.now ≡ codes "show" = search rules in
    let mode_is = subst (λ (t : Option (List ℕ)). HasMode t c.mode_of-mode.result) (one_text-rows (found_of c.in-Some.matches.now) (codes "strict")) c.mode_of-mode.ensures in
    names_job texts c.in-Some.name.now (rows_of (found_of c.in-Some.matches.now)) (job.Show c.mode_of-mode.result) found (name_is, mode_is)

pub returns-then-eq-4-clause-named : goal.returns-then-eq-4-clause-named
returns-then-eq-4-clause-named c =
    let texts = map {A = Bor (List ℕ)} {B = List ℕ} (λ word. word.now) c.args.words.now in
    let rows = (c.in_ok-matches.ensures.matches (ap is_simple c.in_ok-command.ensures ∙ is_simple_program)).1 ∙ ap (λ (a : App). subcommand_of a texts) c.in_ok-command.ensures in
    let found = sym rows ∙ read_apart _ _ _ _ _ (rw c.in-Some.is at c.subcommand.ensures.name) (rw c.in-Some.is at c.subcommand.ensures.rows) in
    let name_is : c.in-Some.name.now ≡ codes "check" = search rules in
    let mode_is = subst (λ (t : Option (List ℕ)). HasMode t c.mode_of-mode.result) (one_text-rows (found_of c.in-Some.matches.now) (codes "strict")) c.mode_of-mode.ensures in
    names_job texts c.in-Some.name.now (rows_of (found_of c.in-Some.matches.now)) (job.Check c.mode_of-mode.result) found (name_is, mode_is)

pub returns-then-eq-5-clause-named : goal.returns-then-eq-5-clause-named
returns-then-eq-5-clause-named c =
    let texts = map {A = Bor (List ℕ)} {B = List ℕ} (λ word. word.now) c.args.words.now in
    let rows = (c.in_ok-matches.ensures.matches (ap is_simple c.in_ok-command.ensures ∙ is_simple_program)).1 ∙ ap (λ (a : App). subcommand_of a texts) c.in_ok-command.ensures in
    let found = sym rows ∙ read_apart _ _ _ _ _ (rw c.in-Some.is at c.subcommand.ensures.name) (rw c.in-Some.is at c.subcommand.ensures.rows) in
    let name_is : c.in-Some.name.now ≡ codes "explain" = search rules in
    let mode_is = subst (λ (t : Option (List ℕ)). HasMode t c.mode_of-mode.result) (one_text-rows (found_of c.in-Some.matches.now) (codes "strict")) c.mode_of-mode.ensures in
    names_job texts c.in-Some.name.now (rows_of (found_of c.in-Some.matches.now)) (job.Explain c.mode_of-mode.result) found (name_is, mode_is)

pub returns-clause-named : goal.returns-clause-named
returns-clause-named c =
    let texts = map {A = Bor (List ℕ)} {B = List ℕ} (λ word. word.now) c.args.words.now in
    let rows = (c.in_ok-matches.ensures.matches (ap is_simple c.in_ok-command.ensures ∙ is_simple_program)).1 ∙ ap (λ (a : App). subcommand_of a texts) c.in_ok-command.ensures in
    let found = sym rows ∙ read_apart _ _ _ _ _ (rw c.in-Some.is at c.subcommand.ensures.name) (rw c.in-Some.is at c.subcommand.ensures.rows) in
    let mode_is = subst (λ (t : Option (List ℕ)). HasMode t c.mode_of-mode.result) (one_text-rows (found_of c.in-Some.matches.now) (codes "strict")) c.mode_of-mode.ensures in
    let not_show : c.in-Some.name.now ≡ codes "show" → ⊥ = search rules in
    let not_check : c.in-Some.name.now ≡ codes "check" → ⊥ = search rules in
    let not_explain : c.in-Some.name.now ≡ codes "explain" → ⊥ = search rules in
    let none = faultless _ _ c.in_ok-command.ensures c.in_ok-matches.ensures.kinds in
    let not_pack : c.in-Some.name.now ≡ codes "pack" → ⊥ = search rules in
    let not_read : c.in-Some.name.now ≡ codes "read" → ⊥ = search rules in
    names_job texts c.in-Some.name.now (rows_of (found_of c.in-Some.matches.now)) (job.Normalise c.mode_of-mode.result) found (elim (program_names texts c.in-Some.name.now (rows_of (found_of c.in-Some.matches.now)) none found) [
      | inl show ↦ absurd (not_show show)
      | inr rest ↦ elim rest [ inl explain ↦ absurd (not_explain explain) | inr next ↦ elim next [ inl check ↦ absurd (not_check check) | inr later ↦ elim later [ inl normalise ↦ (normalise, mode_is) | inr last ↦ elim last [ inl pack ↦ absurd (not_pack pack) | inr more ↦ elim more [ inl read ↦ absurd (not_read read) | inr none ↦ absurd none ] ] ] ] ]
    ])
