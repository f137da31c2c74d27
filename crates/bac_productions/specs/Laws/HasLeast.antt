-- Each value that is spelled has a least spelling, part by part.
use Rattle.std.specs.Prelude.{◌≤◌, ℕ, List, [], ◌∷◌, ◌++◌, length, Option, None, Some}
use Rattle.std.proofs.Common.{inl, inr, subst, arith}
use Rattle.bac_tag.specs.declared.heads.TagHead.TheVariants.{Open, Close}
use Rattle.bac_tag.specs.Heads.{IsValid}
use Rattle.bac_tag.specs.Octets.{NoGreater}
use Rattle.bac_tag.specs.Spelling.{Joined, OneOf}
use Rattle.bac_tag.proofs.WritingLemmas.{some_least}
use Rattle.bac_data.specs.Spells.{SpellsOpen}
use Rattle.bac_data.proofs.ValueLemmas.{least_open_value}
use Rattle.bac_productions.specs.Fields.{heading, IsHeading, IsField}
use Rattle.bac_productions.specs.Laws.Field.{heading_least, least_field}
use Rattle.bac_productions.specs.Laws.Least.{least_joined, least_alike, least_nothing}
use Rattle.bac_productions.specs.Productions.{Optional, Items, Grouped, IsRecordOf, HasLeast}

is_heading : (c : Option ℕ) (app len : ℕ) → IsValid (heading c app len) → IsHeading c app
is_heading (Some n) app len h = h
is_heading None app len h = h

-- the contents that are written, under the least head of their length
pub field_least : {V : Type 0} (contents : V → List ℕ → Type 0) (is_value : V → Type 0) (written : V → List ℕ) (c : Option ℕ) (app shortest longest : ℕ)
    → ((v : V) (b : List ℕ) → contents v b → is_value v)
    → ((v : V) → is_value v → contents v (written v))
    → ((v : V) (b : List ℕ) → contents v b → NoGreater (written v) b)
    → ((v : V) (b : List ℕ) → contents v b → (shortest ≤ length b) × (length b ≤ longest))
    → longest ≤ 1048576
    → HasLeast (IsField (heading c app) contents)
field_least contents is_value written c app shortest longest only spelled least lengths limit v b p =
    let w = spelled v (only v p.body p.spelled) in
    let long = (lengths v (written v) w).1 in
    let h = heading_least c app (length (written v)) (is_heading c app (length p.body) p.headed.valid) (omega (arith, long, limit)) in
    (h.0 ++ written v, least_field contents c app v (written v) w (least v) h.0 h.1)

pub open_value_least : (limit n : ℕ) → HasLeast (SpellsOpen limit n)
open_value_least limit n v b p = least_open_value limit n v b p

pub pair_least : {V W : Type 0} (S : V → List ℕ → Type 0) (T : W → List ℕ → Type 0) → HasLeast S → HasLeast T → HasLeast (Joined S T)
pair_least S T K L p b j =
    let first = K p.0 j.front j.first in
    let second = L p.1 j.back j.second in
    (first.0 ++ second.0, least_joined first.1 second.1)

pub option_least : {V : Type 0} (S : V → List ℕ → Type 0) → HasLeast S → HasLeast (Optional S)
option_least S L None b p = ([], least_nothing)
option_least S L (Some v) b p = L v b p

pub items_least : {V : Type 0} (S : V → List ℕ → Type 0) → HasLeast S → HasLeast (Items S)
items_least S L [] b p = ([], least_nothing)
items_least S L (v ∷ vs) b j =
    let first = L v j.front j.first in
    let rest = items_least S L vs j.back j.second in
    (first.0 ++ rest.0, least_joined first.1 rest.1)

pub group_least : {V : Type 0} (n : ℕ) (S : V → List ℕ → Type 0) → HasLeast S → HasLeast (Grouped n S)
group_least n S L v b j =
    let opening = some_least (Open n) j.first.valid tt in
    let inside = L v j.second.front j.second.first in
    let closing = some_least (Close n) j.second.second.valid tt in
    (opening.0 ++ (inside.0 ++ closing.0), least_joined opening.1 (least_joined inside.1 closing.1))

pub choice_least : {V W : Type 0} (S : V → List ℕ → Type 0) (T : W → List ℕ → Type 0) → HasLeast S → HasLeast T → HasLeast (OneOf S T)
choice_least S T K L (inl v) b p = K v b p
choice_least S T K L (inr w) b p = L w b p

pub record_least : {V W : Type 0} {S : W → List ℕ → Type 0} {T : V → List ℕ → Type 0} → IsRecordOf S T → HasLeast S → HasLeast T
record_least {S} {T} R L v b t =
    let l = L (R.fields v) b (R.split v b t) in
    (l.0, least_alike (λ c. (λ s. subst (λ x. T x c) (R.same v) (R.joined (R.fields v) c s), R.split v c)) l.1)
