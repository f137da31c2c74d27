-- What the matches of the program name.
use Rattle.std.proofs.Common.{◌≡◌, ◌⊎◌, inl, inr, Bool, true, false, cond, List, [], ◌∷◌, Option, Some, None, refl, sym, ap, ◌∙◌, subst, codes, option_map, get_or, arith, ℕ, Result, Ok, Err, IfOk, IfErr, MatchResult}
use Rattle.std.proofs.lemmas.Bool.{false≢true}
use Rattle.std.proofs.lemmas.Cmp.{nat_list_eq_equiv}
use Rattle.clap.specs.Words.{kind_of}
use Rattle.clap.specs.declared.error.Error.{Error}
use Rattle.clap.specs.declared.error.ErrorKind.TheVariants.{DisplayHelp, InvalidSubcommand, OutOfMemory}
use Rattle.std.specs.Prelude.{⊤, ◌&&◌, ◌||◌, find, fold, is_some, not}
use Rattle.std.specs.Str.{bytes_eq}
use Rattle.clap.specs.Words.{App, Row, Shape, Text, built, fault_of, is_simple, is_simple_and_free, one_of, subcommand_of, takes}
use Rattle.clap.specs.Simple.{entered, names_of, argument_words, label_of}
use Rattle.clap.specs.Faults.{other_fault, step_fault, turn_fault, walk_fault, word_fault}
use Rattle.clap.specs.Kinds.{HasKind, Kinds, or_else}
use Rattle.clap.specs.Lexer.{long_of, short_of}
use Rattle.clap.specs.Walk.{Held, Names, Outcome, Rule, Step, Waiting, Walk, idle, option, positional, done, waits, plain, refused, next, trailing, subcommand, value, after_flag, after_step, answers_to, arg_by_index, arg_by_long, bundle, long_met, long_or_other, nothing_held, plain_word, rows_after, short_or_plain, stop_after, subcommand_met, subcommand_or_other, to_positional, walk_from, walked, walked_from, word_met}
use Rattle.clap.proofs.OnLiterals.{clap_on_literals}
use Rattle.std.specs.List.{AllByRecursion}
use Rattle.bac_tool.specs.CommandLine.{bactool, NamesJob, IsJobOf, HasMode, word_lists}
use Rattle.bac_tool.specs.declared.command_line.Job.{Job}
use Rattle.bac_tool.specs.declared.command_line.Job.TheVariants.{Show, Check, Normalise, Pack, Read, Explain}
use Rattle.bac_stream.specs.declared.modes.Mode.{Mode}
use Rattle.bac_stream.specs.declared.modes.Mode.TheVariants.{Tolerant, Strict}

pub is_simple_program : is_simple bactool ≡ true
unfolding clap_on_literals
is_simple_program = refl

is_free_program : is_simple_and_free bactool ≡ true
unfolding clap_on_literals
is_free_program = refl

-- A parse that succeeds is one of words without a fault.
pub faultless : (command : App) (words : List Text) → command ≡ bactool → (is_simple_and_free command ≡ true → fault_of command words ≡ []) → fault_of bactool words ≡ []
faultless command words is kinds = ap (λ (a : App). fault_of a words) (sym is) ∙ kinds (ap is_simple_and_free is ∙ is_free_program)

-- A parse that fails does so by a fault of the words.
pub has_kind : (command : App) (words : List Text) (error : Error) → command ≡ bactool → (is_simple_and_free command ≡ true → HasKind (fault_of command words) error) → HasKind (fault_of bactool words) error
has_kind command words error is kinds = subst (λ (a : App). HasKind (fault_of a words) error) is (kinds (ap is_simple_and_free is ∙ is_free_program))

-- a name and rows that are read apart come from one subcommand
pub read_apart : {X : Type 0} (s : Option X) (name : X → Text) (rows : X → List Row) (n : Text) (r : List Row)
    → Some n ≡ option_map name s → Some r ≡ option_map (λ p. p.1) (option_map {U = Text × List Row} (λ b. (name b, rows b)) s)
    → option_map {U = Text × List Row} (λ b. (name b, rows b)) s ≡ Some (n, r)
read_apart None name rows n r named read = cc
read_apart (Some b) name rows n r named read =
    let same_name : n ≡ name b = cc in
    let same_rows : r ≡ rows b = cc in
    cc

-- no fault of two parts is none of either
both_none : (a b : Kinds) → or_else a b ≡ [] → (a ≡ []) × (b ≡ [])
both_none [] b none = (refl, none)
both_none (k ∷ ks) b none = cc

or_false : (a : Bool) → (a || false) ≡ true → a ≡ true
or_false true e = refl
or_false false e = e

-- the subcommand's name and its flag
abbrev pub named : Option (Text × List Row) → Option (Text × Option Text)
named = option_map {U = Text × Option Text} (λ p. (p.0, one_of (codes "strict") p.1))

-- the name and the flag of a job
abbrev pub name_of_job : Job → Text
name_of_job (Show mode) = codes "show"
name_of_job (Check mode) = codes "check"
name_of_job (Normalise mode) = codes "normalise"
name_of_job Pack = codes "pack"
name_of_job Read = codes "read"
name_of_job (Explain mode) = codes "explain"

abbrev pub flag_of_mode : Mode → Text
flag_of_mode Strict = codes "true"
flag_of_mode Tolerant = codes "false"

abbrev pub flag_of_job : Job → Option Text
flag_of_job (Show mode) = Some (flag_of_mode mode)
flag_of_job (Check mode) = Some (flag_of_mode mode)
flag_of_job (Normalise mode) = Some (flag_of_mode mode)
flag_of_job Pack = None
flag_of_job Read = None
flag_of_job (Explain mode) = Some (flag_of_mode mode)

-- the name that was found
abbrev name_of : Option (Text × List Row) → Text
name_of None = []
name_of (Some p) = p.0

-- one of these, for which the test holds
abbrev pub Among : (Shape → Bool) → Text → List Shape → Type 0
Among p n [] = ⊥
Among p n (x ∷ xs) = ((n ≡ x.name) × (p x ≡ true)) ⊎ Among p n xs

-- what is found is one of them
found_among : (p : Shape → Bool) (rows : Shape → List Row) (n : Text) (r : List Row) (xs : List Shape)
    → option_map {U = Text × List Row} (λ s. (s.name, rows s)) (find p xs) ≡ Some (n, r) → Among p n xs
found_among p rows n r [] e = cc
found_among p rows n r (x ∷ xs) e = go (p x) refl (found_among p rows n r xs) e where
  go : (b : Bool) → p x ≡ b → (option_map {U = Text × List Row} (λ (s : Shape). (s.name, rows s)) (find p xs) ≡ Some (n, r) → Among p n xs)
      → option_map {U = Text × List Row} (λ (s : Shape). (s.name, rows s)) (cond b (Some x) (find p xs)) ≡ Some (n, r) → ((n ≡ x.name) × (p x ≡ true)) ⊎ Among p n xs
  go true holds more e' = inl (sym (ap name_of e'), holds)
  go false holds more e' = inr (more e')

-- ---- the word help names no job: clap answers it with an error that has the help

-- the subcommand that was met, if any, has another name
abbrev IsOther : Option (Text × List Text) → Type 0
IsOther None = ⊤
IsOther (Some p) = bytes_eq p.0 (codes "help") ≡ false

-- the step enters no subcommand
abbrev Stays : Step → Type 0
Stays (subcommand name) = ⊥
Stays _ = ⊤

plain_stays : (c : List Rule) (waiting : Waiting) (word : Text) (h : Held) → Stays (plain_word c waiting word h).1
plain_stays c idle word h = tt
plain_stays c (option id) word h = tt
plain_stays c positional word h = tt

flag_stays : (c : List Rule) (waiting : Waiting) (word : Text) (h : Held) (o : Outcome) → Stays (after_flag c waiting word h o).1
flag_stays c waiting word h done = tt
flag_stays c waiting word h (waits id) = tt
flag_stays c waiting word h plain = plain_stays c waiting word h
flag_stays c waiting word h refused = plain_stays c waiting word h

short_stays : (c : List Rule) (waiting : Waiting) (word : Text) (flags : Option Text) (h : Held) → Stays (short_or_plain c waiting word flags h).1
short_stays c waiting word None h = plain_stays c waiting word h
short_stays c waiting word (Some flags) h = flag_stays c waiting word (bundle c flags h).0 (bundle c flags h).1

long_stays : (c : List Rule) (waiting : Waiting) (word : Text) (p : Option (Text × Option Text)) (h : Held) → Stays (long_or_other c waiting word p h).1
long_stays c waiting word None h = short_stays c waiting word (short_of word) h
long_stays c waiting word (Some p) h = flag_stays c waiting word (long_met c (arg_by_long c p.0) p.1 h).0 (long_met c (arg_by_long c p.0) p.1 h).1

-- the step enters no subcommand named help
abbrev IsOtherStep : Step → Type 0
IsOtherStep (subcommand name) = bytes_eq name (codes "help") ≡ false
IsOtherStep _ = ⊤

stays_other : (step : Step) → Stays step → IsOtherStep step
stays_other (next waiting) stays = tt
stays_other (trailing position) stays = tt
stays_other (subcommand name) stays = absurd stays
stays_other value stays = tt

-- where the word help has its faults, no fault means that the word is another one
not_help : (a b : Bool) → b ≡ false → cond (a && not b) (DisplayHelp ∷ InvalidSubcommand ∷ []) [] ≡ [] → a ≡ false
not_help false b enabled none = refl
not_help true true enabled none = cc
not_help true false enabled none = cc

-- a walk of which no word has a fault enters no subcommand named help
module _ (s : Shape) (names : Names) (enabled : s.disable_help_subcommand ≡ false) where
  met_other : (o : Option Text) (waiting : Waiting) (position : ℕ) (word : Text) (h : Held) → other_fault s o word h ≡ [] → IsOtherStep (subcommand_or_other s.rules o waiting position word h).1
  met_other (Some name) waiting position word h none = not_help (bytes_eq name (codes "help")) s.disable_help_subcommand enabled none
  met_other None waiting position word h none = go (bytes_eq word (45 ∷ 45 ∷ [])) where
    go : (b : Bool) → IsOtherStep (cond b (h, trailing position) (long_or_other s.rules waiting word (long_of word) h)).1
    go true = tt
    go false = stays_other (long_or_other s.rules waiting word (long_of word) h).1 (long_stays s.rules waiting word (long_of word) h)

  word_other : (is_trailing : Bool) (waiting : Waiting) (position : ℕ) (word : Text) (h : Held) → word_fault s names is_trailing waiting word h ≡ []
      → IsOtherStep (word_met s.rules names is_trailing waiting position word h).1
  word_other true waiting position word h none = tt
  word_other false waiting position word h none = met_other (subcommand_met names waiting word) waiting position word h none

  step_other : (word : Text) (w : Walk) (h : Held) (step : Step) → IsOther w.stopped → IsOtherStep step → IsOther (after_step s.rules word w h step).stopped
  step_other word w h (next waiting) before is = before
  step_other word w h (trailing position) before is = before
  step_other word w h (subcommand name) before is = is
  step_other word w h value before is = go (arg_by_index s.rules w.position) where
    go : (o : Option Rule) → IsOther (to_positional s.rules o word w h).stopped
    go None = before
    go (Some a) = tt

  turn_other : (w : Walk) (word : Text) → IsOther w.stopped → turn_fault s names w word ≡ [] → IsOther (walked s.rules names w word).stopped
  unfolding walked
  turn_other w word before none = go w.stopped before none where
    met : Held × Step
    met = word_met s.rules names w.is_trailing w.waiting w.position word w.held

    go : (o : Option (Text × List Text)) → IsOther o
        → cond (is_some o) [] (or_else (word_fault s names w.is_trailing w.waiting word w.held) (step_fault s w.position met.0 met.1)) ≡ []
        → IsOther (walked_from s.rules names o w word).stopped
    go None is clear = step_other word w met.0 met.1 before (word_other w.is_trailing w.waiting w.position word w.held (both_none _ _ clear).0)
    go (Some p) is clear = is

  walk_other : (words : List Text) (w : Walk) → IsOther w.stopped → walk_fault s names w words ≡ [] → IsOther (fold (walked s.rules names) w words).stopped
  unfolding walk_fault
  walk_other [] w before none = before
  walk_other (word ∷ rest) w before none =
      let both = both_none (turn_fault s names w word) (walk_fault s names (walked s.rules names w word) rest) none in
      walk_other rest (walked s.rules names w word) (turn_other w word before both.0) both.1

-- words without a fault meet no subcommand named help
stop_other : (words : List Text) → fault_of bactool words ≡ [] → IsOther (stop_after (built bactool).top.rules (names_of (built bactool)) (argument_words bactool words))
stop_other words none =
    let a = built bactool in
    let given = argument_words bactool words in
    walk_other a.top (names_of a) refl given (walk_from nothing_held) tt (both_none (walk_fault a.top (names_of a) (walk_from nothing_held) given) _ none).0

-- the names of the six subcommands that have a job
abbrev IsName : Text → Type 0
IsName n = (n ≡ codes "show") ⊎ ((n ≡ codes "explain") ⊎ ((n ≡ codes "check") ⊎ ((n ≡ codes "normalise") ⊎ ((n ≡ codes "pack") ⊎ ((n ≡ codes "read") ⊎ ⊥)))))

names_apart : (m n : Text) → bytes_eq m (codes "help") ≡ false → Among (λ s. answers_to m (label_of s)) n (built bactool).subs → IsName n
names_apart m n other (inl show) = inl show.0
names_apart m n other (inr (inl explain)) = inr (inl explain.0)
names_apart m n other (inr (inr (inl check))) = inr (inr (inl check.0))
names_apart m n other (inr (inr (inr (inl normalise)))) = inr (inr (inr (inl normalise.0)))
names_apart m n other (inr (inr (inr (inr (inl pack))))) = inr (inr (inr (inr (inl pack.0))))
names_apart m n other (inr (inr (inr (inr (inr (inl read)))))) = inr (inr (inr (inr (inr (inl read.0)))))
names_apart m n other (inr (inr (inr (inr (inr (inr (inl help))))))) =
    let is : bytes_eq (codes "help") m ≡ true = or_false _ help.1 in
    absurd (false≢true (sym other ∙ nat_list_eq_equiv.symm m (codes "help") ∙ is))
names_apart m n other (inr (inr (inr (inr (inr (inr (inr none))))))) = absurd none

among_subcommands : (stop : Option (Text × List Text)) (n : Text) (r : List Row) → IsOther stop → entered (built bactool) stop ≡ Some (n, r) → IsName n
among_subcommands None n r other e = cc
among_subcommands (Some p) n r other e = names_apart p.0 n other (found_among (λ s. answers_to p.0 (label_of s)) (λ s. rows_after s.rules [] p.1) n r (built bactool).subs e)

pub program_names : (words : List Text) (n : Text) (r : List Row) → fault_of bactool words ≡ [] → subcommand_of bactool words ≡ Some (n, r) → IsName n
program_names words n r none e = among_subcommands (stop_after (built bactool).top.rules (names_of (built bactool)) (argument_words bactool words)) n r (stop_other words none) e

-- the job of the subcommand that was found
pub names_job : (words : List Text) (n : Text) (r : List Row) (job : Job) → subcommand_of bactool words ≡ Some (n, r) → IsJobOf n (one_of (codes "strict") r) job → NamesJob (subcommand_of bactool words) job
names_job words n r job found is = subst (λ o. NamesJob o job) (sym found) is

-- ---- the twelve command lines

pub words_taken : AllByRecursion (λ entry. takes bactool entry.0 ≡ true) word_lists
unfolding clap_on_literals
words_taken = (refl, (refl, (refl, (refl, (refl, (refl, (refl, (refl, (refl, (refl, (refl, (refl, tt))))))))))))

-- the name and the flag of each
pub words_named : AllByRecursion (λ entry. named (subcommand_of bactool entry.0) ≡ Some (name_of_job entry.1, flag_of_job entry.1)) word_lists
unfolding clap_on_literals
words_named = (refl, (refl, (refl, (refl, (refl, (refl, (refl, (refl, (refl, (refl, (refl, (refl, tt))))))))))))

one_mode : (flag : Option Text) (mode m : Mode) → HasMode flag mode → flag ≡ Some (flag_of_mode m) → mode ≡ m
one_mode flag mode Strict h e = h.0 e
one_mode flag mode Tolerant h e = h.1 e

-- the first letters of two names
letters : (n a b : Text) → n ≡ a → n ≡ b → get_or a 0 0 ≡ get_or b 0 0
letters n a b p q = ap (λ (t : Text). get_or t 0 0) (sym p ∙ q)

job_is : (n : Text) (flag : Option Text) (job j : Job) → IsJobOf n flag job → n ≡ name_of_job j → flag ≡ flag_of_job j → job ≡ j
job_is n flag (Show mode) (Show m) h e f = ap Show (one_mode flag mode m h.1 f)
job_is n flag (Check mode) (Check m) h e f = ap Check (one_mode flag mode m h.1 f)
job_is n flag (Normalise mode) (Normalise m) h e f = ap Normalise (one_mode flag mode m h.1 f)
job_is n flag (Show mode) (Check m) h e f = absurd (omega (arith, letters n (codes "show") (codes "check") h.0 e))
job_is n flag (Show mode) (Normalise m) h e f = absurd (omega (arith, letters n (codes "show") (codes "normalise") h.0 e))
job_is n flag (Check mode) (Show m) h e f = absurd (omega (arith, letters n (codes "check") (codes "show") h.0 e))
job_is n flag (Check mode) (Normalise m) h e f = absurd (omega (arith, letters n (codes "check") (codes "normalise") h.0 e))
job_is n flag (Normalise mode) (Show m) h e f = absurd (omega (arith, letters n (codes "normalise") (codes "show") h.0 e))
job_is n flag (Normalise mode) (Check m) h e f = absurd (omega (arith, letters n (codes "normalise") (codes "check") h.0 e))
job_is n flag Pack Pack h e f = refl
job_is n flag Pack (Show m) h e f = absurd (omega (arith, letters n (codes "pack") (codes "show") h e))
job_is n flag Pack (Check m) h e f = absurd (omega (arith, letters n (codes "pack") (codes "check") h e))
job_is n flag Pack (Normalise m) h e f = absurd (omega (arith, letters n (codes "pack") (codes "normalise") h e))
job_is n flag (Show mode) Pack h e f = absurd (omega (arith, letters n (codes "show") (codes "pack") h.0 e))
job_is n flag (Check mode) Pack h e f = absurd (omega (arith, letters n (codes "check") (codes "pack") h.0 e))
job_is n flag (Normalise mode) Pack h e f = absurd (omega (arith, letters n (codes "normalise") (codes "pack") h.0 e))
job_is n flag Read Read h e f = refl
job_is n flag Read (Show m) h e f = absurd (omega (arith, letters n (codes "read") (codes "show") h e))
job_is n flag Read (Check m) h e f = absurd (omega (arith, letters n (codes "read") (codes "check") h e))
job_is n flag Read (Normalise m) h e f = absurd (omega (arith, letters n (codes "read") (codes "normalise") h e))
job_is n flag Read Pack h e f = absurd (omega (arith, letters n (codes "read") (codes "pack") h e))
job_is n flag (Show mode) Read h e f = absurd (omega (arith, letters n (codes "show") (codes "read") h.0 e))
job_is n flag (Check mode) Read h e f = absurd (omega (arith, letters n (codes "check") (codes "read") h.0 e))
job_is n flag (Normalise mode) Read h e f = absurd (omega (arith, letters n (codes "normalise") (codes "read") h.0 e))
job_is n flag Pack Read h e f = absurd (omega (arith, letters n (codes "pack") (codes "read") h e))
job_is n flag (Explain mode) (Explain m) h e f = ap Explain (one_mode flag mode m h.1 f)
job_is n flag (Explain mode) (Show m) h e f = absurd (omega (arith, letters n (codes "explain") (codes "show") h.0 e))
job_is n flag (Explain mode) (Check m) h e f = absurd (omega (arith, letters n (codes "explain") (codes "check") h.0 e))
job_is n flag (Explain mode) (Normalise m) h e f = absurd (omega (arith, letters n (codes "explain") (codes "normalise") h.0 e))
job_is n flag (Explain mode) Pack h e f = absurd (omega (arith, letters n (codes "explain") (codes "pack") h.0 e))
job_is n flag (Explain mode) Read h e f = absurd (omega (arith, letters n (codes "explain") (codes "read") h.0 e))
job_is n flag (Show mode) (Explain m) h e f = absurd (omega (arith, letters n (codes "show") (codes "explain") h.0 e))
job_is n flag (Check mode) (Explain m) h e f = absurd (omega (arith, letters n (codes "check") (codes "explain") h.0 e))
job_is n flag (Normalise mode) (Explain m) h e f = absurd (omega (arith, letters n (codes "normalise") (codes "explain") h.0 e))
job_is n flag Pack (Explain m) h e f = absurd (omega (arith, letters n (codes "pack") (codes "explain") h e))
job_is n flag Read (Explain m) h e f = absurd (omega (arith, letters n (codes "read") (codes "explain") h e))

abbrev name_from : Option (Text × Option Text) → Text
name_from None = []
name_from (Some p) = p.0

abbrev flag_from : Option (Text × Option Text) → Option Text
flag_from None = None
flag_from (Some p) = p.1

-- what is found names one job
one_job : (found : Option (Text × List Row)) (job j : Job) → NamesJob found job → named found ≡ Some (name_of_job j, flag_of_job j) → job ≡ j
one_job None job j h e = absurd h
one_job (Some found) job j h e =
    let name_is : found.0 ≡ name_of_job j = ap name_from e in
    let flag_is : one_of (codes "strict") found.1 ≡ flag_of_job j = ap flag_from e in
    job_is found.0 (one_of (codes "strict") found.1) job j h name_is flag_is

-- the answer to one word list
answer : (words listed : List Text) (j : Job) (r : Result Job Error) → IfOk r (NamesJob (subcommand_of bactool words)) → IfErr r (λ error. takes bactool words ≡ true → kind_of error ≡ OutOfMemory)
    → takes bactool listed ≡ true → named (subcommand_of bactool listed) ≡ Some (name_of_job j, flag_of_job j) → words ≡ listed → MatchResult r (λ job. job ≡ j) (λ error. kind_of error ≡ OutOfMemory)
answer words listed j (Ok job) named_is taken_is takes_it found is = one_job (subcommand_of bactool words) job j named_is (ap (λ (l : List Text). named (subcommand_of bactool l)) is ∙ found)
answer words listed j (Err error) named_is taken_is takes_it found is = taken_is (ap (takes bactool) is ∙ takes_it)

-- the answer to each word list
each_answer : (words : List Text) (r : Result Job Error) → IfOk r (NamesJob (subcommand_of bactool words)) → IfErr r (λ error. takes bactool words ≡ true → kind_of error ≡ OutOfMemory)
    → (lists : List (List Text × Job)) → AllByRecursion (λ entry. takes bactool entry.0 ≡ true) lists
    → AllByRecursion (λ entry. named (subcommand_of bactool entry.0) ≡ Some (name_of_job entry.1, flag_of_job entry.1)) lists
    → AllByRecursion (λ entry. words ≡ entry.0 → MatchResult r (λ job. job ≡ entry.1) (λ error. kind_of error ≡ OutOfMemory)) lists
each_answer words r named_is taken_is [] taken names = tt
each_answer words r named_is taken_is (entry ∷ rest) taken names =
    (answer words entry.0 entry.1 r named_is taken_is taken.0 names.0, each_answer words r named_is taken_is rest taken.1 names.1)

pub answers : (words : List Text) (r : Result Job Error) → IfOk r (NamesJob (subcommand_of bactool words)) → IfErr r (λ error. takes bactool words ≡ true → kind_of error ≡ OutOfMemory)
    → AllByRecursion (λ entry. words ≡ entry.0 → MatchResult r (λ job. job ≡ entry.1) (λ error. kind_of error ≡ OutOfMemory)) word_lists
answers words r named_is taken_is = each_answer words r named_is taken_is word_lists words_taken words_named
