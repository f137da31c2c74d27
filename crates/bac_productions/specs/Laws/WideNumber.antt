-- Numbers that stand in an octet of their own where the first octet has room for them.
use Rattle.std.specs.Prelude.{ℕ, ◌^◌, ◌<◌, ◌≤◌, Option, None, Some, List, ◌++◌, length, get_or, refl}
use Rattle.std.proofs.Common.{arith, inl, inr}
use Rattle.std.proofs.lemmas.Bool.{cases_lt, lt-ltb, le-ltb}
use Rattle.bac_tag.specs.declared.heads.TagHead.TheVariants.{App, Ctx}
use Rattle.bac_tag.specs.Heads.{lvt_of, Heads}
use Rattle.bac_tag.specs.Laws.Heads.{length_below}
use Rattle.bac_tag.specs.Laws.Octets.{differs_at, mark_first}
use Rattle.bac_tag.specs.Laws.Spelling.{IsLeast-one}
use Rattle.bac_tag.specs.Octets.{NoGreater}
use Rattle.bac_tag.specs.Spelling.{IsLeast, HasMark}
use Rattle.bac_tag.specs.Writing.{length_form, narrow_head}
use Rattle.bac_tag.proofs.WritingLemmas.{least_app, least_ctx}
use Rattle.bac_productions.specs.Fields.{heading, IsHeading, IsField, number_in}
use Rattle.bac_productions.specs.Laws.Field.{heading_least, least_field}

lvt_small : (len : ℕ) → lvt_of (length_form len) len < 6
lvt_small len = elim (cases_lt len 5) [
  | inl p ↦ rw (lt-ltb len 5 p) (omega arith)
  | inr p ↦ elim (cases_lt len 254) [
    | inl q ↦ rw (le-ltb len 5 p, lt-ltb len 254 q) (omega arith)
    | inr q ↦ elim (cases_lt len (2 ^ 16)) [
      | inl r ↦ rw (le-ltb len 5 p, le-ltb len 254 q, lt-ltb len (2 ^ 16) r) (omega arith)
      | inr r ↦ rw (le-ltb len 5 p, le-ltb len 254 q, le-ltb len (2 ^ 16) r) (omega arith)
    ]
  ]
]

narrow_begins : (class n len : ℕ) → class < 2 → n < 15 → (get_or (narrow_head class n len) 0 0 < 240) × (0 < length (narrow_head class n len))
narrow_begins class n len c p = rw (lt-ltb n 15 p) (omega (arith, lvt_small len), omega arith)

-- the first octet of the least head, where the number has room in it
least_begins : (c : Option ℕ) (app len : ℕ) (b : List ℕ) → IsHeading c app → number_in c app < 15 → IsLeast (Heads (heading c app len)) b → (get_or b 0 0 < 240) × (0 < length b)
least_begins (Some n) app len b fits few l =
    let same = IsLeast-one (Heads (Ctx n len)) b (narrow_head 1 n len) l (least_ctx n len _ l.member.valid (length_below len l.member.lvt l.member.back l.member.ending) refl) in
    rw same (narrow_begins 1 n len (omega arith) few)
least_begins None app len b fits few l =
    let same = IsLeast-one (Heads (App app len)) b (narrow_head 0 app len) l (least_app app len _ l.member.valid (length_below len l.member.lvt l.member.back l.member.ending) refl) in
    rw same (narrow_begins 0 app len (omega arith) few)

-- the mark of a field whose number stands in an octet of its own, though it has room in the first
pub wide_mark : {V : Type 0} (contents : V → List ℕ → Type 0) (c : Option ℕ) (app : ℕ) (v : V) (w : List ℕ) → contents v w → ((b : List ℕ) → contents v b → NoGreater w b) → (front body : List ℕ)
    → IsHeading c app → length w < 2 ^ 32 → number_in c app < 15 → 0 < length front → 240 ≤ get_or front 0 0 → HasMark (IsField (heading c app) contents v) (front ++ body) (Some 0)
wide_mark contents c app v w spelled least front body fits small few some wide =
    let l = heading_least c app (length w) fits small in
    let begins = least_begins c app (length w) l.0 fits few l.1 in
    record {
      least = l.0 ++ w;
      is_least = least_field contents c app v w spelled least l.0 l.1;
      is_mark = mark_first front body l.0 w 0 (some, begins.1, differs_at front l.0 0 some begins.1 refl (λ same. omega (arith, same, wide, begins.0)));
    }
