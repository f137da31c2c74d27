-- Opening and closing tags.
use Rattle.std.specs.Prelude.{◌≡◌, ◌↔◌, ℕ, ◌≤◌, Bool, true, false, List, length, take, Option, Some, None, IsTrue, nat_le, refl}
use Rattle.std.proofs.Common.{sym, ◌∙◌, subst, arith}
use Rattle.std.proofs.lemmas.Bool.{leb-true}
use Rattle.bac_tag.specs.declared.refusals.Refusal.{Refusal}
use Rattle.bac_tag.specs.declared.heads.TagHead.{TagHead}
use Rattle.bac_tag.specs.declared.heads.TagHead.TheVariants.{App, AppBool, Ctx, Open, Close}
use Rattle.bac_tag.specs.declared.expecting.Expected.TheVariants as expected
use Rattle.bac_tag.specs.Octets.{IsMark}
use Rattle.bac_tag.specs.declared.refusals.Why.TheVariants.{Short}
use Rattle.bac_tag.specs.Spelling.{IsLeast, IsFurthest, IsRefusal, Takes, HasMark}
use Rattle.bac_tag.specs.Laws.Heads.{heads_end}
use Rattle.bac_tag.specs.Laws.Spelling.{refused_alike}
use Rattle.bac_tag.specs.Heads.{Heads}
use Rattle.bac_tag.specs.Short.{BeginsShort}
use Rattle.bac_tag.specs.Expected.{ExpectedHeads}
use Rattle.bac_tag.proofs.WritingLemmas.{some_least}
use Rattle.bac_productions.specs.Productions.{IsInhabited, HasLeast, IsLongest, IsReach, Head, edge, expected_edge}
use Rattle.bac_productions.specs.Laws.Longest.{leaf_longest}
use Rattle.bac_productions.specs.Laws.Refusal.{leaf_reach}

pub number_within : (n : ℕ) → IsTrue (nat_le n 254) → n ≤ 254
number_within n h = leb-true n 254 h

pub opening_inhabited : (n : ℕ) → IsTrue (nat_le n 254) → IsInhabited (Head (Open n))
opening_inhabited n h = let l = some_least (Open n) (number_within n h) tt in record { value = tt; octets = l.0; spelled = l.1.member }

pub closing_inhabited : (n : ℕ) → IsTrue (nat_le n 254) → IsInhabited (Head (Close n))
closing_inhabited n h = let l = some_least (Close n) (number_within n h) tt in record { value = tt; octets = l.0; spelled = l.1.member }

-- the one opening tag that is expected
opening_is : (n : ℕ) (head : TagHead) (b : List ℕ) → ExpectedHeads (expected.Open (Some n)) head b → Heads (Open n) b
opening_is n (Open m) b h = subst (λ (k : ℕ). Heads (Open k) b) h.fits h.spelled
opening_is n (App m len) b h = absurd h.fits
opening_is n (AppBool bit) b h = absurd h.fits
opening_is n (Ctx m len) b h = absurd h.fits
opening_is n (Close m) b h = absurd h.fits

closing_is : (n : ℕ) (head : TagHead) (b : List ℕ) → ExpectedHeads (expected.Close (Some n)) head b → Heads (Close n) b
closing_is n (Close m) b h = subst (λ (k : ℕ). Heads (Close k) b) h.fits h.spelled
closing_is n (App m len) b h = absurd h.fits
closing_is n (AppBool bit) b h = absurd h.fits
closing_is n (Ctx m len) b h = absurd h.fits
closing_is n (Open m) b h = absurd h.fits

-- ---- the tag at an edge of a group

pub edge_inhabited : (opens : Bool) (n : ℕ) → IsTrue (nat_le n 254) → IsInhabited (Head (edge opens n))
edge_inhabited true n h = opening_inhabited n h
edge_inhabited false n h = closing_inhabited n h

pub edge_some_least : (opens : Bool) (n : ℕ) → IsTrue (nat_le n 254) → (b : List ℕ) × IsLeast (Heads (edge opens n)) b
edge_some_least true n h = some_least (Open n) (number_within n h) tt
edge_some_least false n h = some_least (Close n) (number_within n h) tt

pub edge_least : (opens : Bool) (n : ℕ) → HasLeast (Head (edge opens n))
edge_least true n v b p = some_least (Open n) p.valid tt
edge_least false n v b p = some_least (Close n) p.valid tt

edge_is : (opens : Bool) (n : ℕ) (head : TagHead) (b : List ℕ) → ExpectedHeads (expected_edge opens n) head b → Heads (edge opens n) b
edge_is true n head b h = opening_is n head b h
edge_is false n head b h = closing_is n head b h

expects_edge : (opens : Bool) (n : ℕ) (b : List ℕ) → Heads (edge opens n) b → ExpectedHeads (expected_edge opens n) (edge opens n) b
expects_edge true n b s = record { fits = refl; spelled = s }
expects_edge false n b s = record { fits = refl; spelled = s }

pub edge_taken : (opens : Bool) (n : ℕ) (input : List ℕ) (head : TagHead) (taken : ℕ) → Takes (ExpectedHeads (expected_edge opens n)) input (head, taken) → Takes (Head (edge opens n)) input (tt, taken)
edge_taken opens n input head taken t = record { within = t.within; spelled = edge_is opens n head (take taken input) t.spelled }

pub edge_refused : (opens : Bool) (n : ℕ) (input : List ℕ) (r : Refusal) → IsRefusal (ExpectedHeads (expected_edge opens n)) input r → IsRefusal (Head (edge opens n)) input r
edge_refused opens n input r h =
    refused_alike (ExpectedHeads (expected_edge opens n)) (Head (edge opens n)) input r (λ head b s. (tt, edge_is opens n head b s)) (λ u b s. (edge opens n, expects_edge opens n b s)) h

-- ---- any tag

pub head_mark : (head : TagHead) (l : List ℕ) (m : Option ℕ) → (b : List ℕ) → IsLeast (Heads head) b → IsMark l b m → HasMark (Heads head) l m
head_mark head l m b p h = record { least = b; is_least = p; is_mark = h }

pub tag_reach : (head : TagHead) (input : List ℕ) (n : ℕ) (r : Refusal) → Takes (Head head) input (tt, n) → r.place ≡ n → ((r.why ≡ Short) ↔ (n ≡ length input)) → IsReach (Head head) input r
tag_reach head input n r t e short =
    let leaf = leaf_reach (Head head) (λ u w b c x y s k h. ((heads_end head head b c x y s k h).0, refl)) input tt n r.why t short in
    record { furthest = subst (IsFurthest (Head head) input) (sym e) leaf.furthest; short = (λ w. e ∙ leaf.short.0 w, λ w. leaf.short.1 (sym e ∙ w)) }

-- what a short head gives
pub short_taken : (head : TagHead) (input : List ℕ) → BeginsShort head input → Takes (Head head) input (tt, 1)
short_taken head input b = record { within = omega (arith, b.some); spelled = b.least.member }

pub short_mark : (head : TagHead) (input : List ℕ) → BeginsShort head input → HasMark (Heads head) (take 1 input) None
short_mark head input b = record { least = take 1 input; is_least = b.least; is_mark = refl }

pub tag_longest : (head : TagHead) (input : List ℕ) (n : ℕ) → Takes (Head head) input (tt, n) → IsLongest (Head head) input tt n
tag_longest head input n t = leaf_longest (Head head) (λ u w b c x y s k h. ((heads_end head head b c x y s k h).0, refl)) input tt n t
