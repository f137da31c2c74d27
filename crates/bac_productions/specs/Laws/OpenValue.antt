-- Open values as parts of a production.
use Rattle.std.specs.Prelude.{◌≡◌, ◌↔◌, ℕ, List, [], ◌∷◌, ◌++◌, length, take, Option, IsTrue, nat_le, false, refl}
use Rattle.std.proofs.Common.{sym, ◌∙◌, subst, arith}
use Rattle.bac_tag.specs.declared.refusals.Refusal.{Refusal}
use Rattle.bac_tag.specs.declared.refusals.Why.TheVariants.{Short}
use Rattle.bac_tag.specs.declared.heads.TagHead.TheVariants.{Open, Close}
use Rattle.bac_tag.specs.Octets.{IsMark}
use Rattle.bac_tag.specs.Spelling.{IsLeast, IsFurthest, Takes, HasMark}
use Rattle.bac_tag.proofs.WritingLemmas.{some_least}
use Rattle.bac_data.specs.OpenValue.{Elements, none}
use Rattle.bac_data.specs.Spells.{SpellsOpen}
use Rattle.bac_data.proofs.ValueLemmas.{least_open_value}
use Rattle.bac_data.proofs.OpenLemmas.{open_ends}
use Rattle.bac_productions.specs.Leads as lead
use Rattle.bac_productions.specs.Leads.{BeginsIn}
use Rattle.bac_productions.specs.Laws.Lead.{head_begins}
use Rattle.bac_productions.specs.Productions.{Lawful, IsInhabited, IsLongest, IsReach}
use Rattle.bac_productions.specs.Laws.Production.{leaf_lawful}
use Rattle.bac_productions.specs.Laws.Longest.{leaf_longest}
use Rattle.bac_productions.specs.Laws.Refusal.{leaf_reach}
use Rattle.bac_productions.specs.Laws.Tag.{number_within}

-- ---- the laws

open_begins : (limit n : ℕ) (v : Elements) (b : List ℕ) → SpellsOpen limit n v b → BeginsIn (lead.opening n ∷ []) b
open_begins limit n v b p = rw p.enclosed.octets (head_begins (Open n) p.enclosed.front p.enclosed.back p.enclosed.first)

pub open_lawful : (limit n : ℕ) → Lawful (SpellsOpen limit n) (lead.opening n ∷ []) [] false
open_lawful limit n = leaf_lawful (SpellsOpen limit n) (lead.opening n ∷ []) (open_begins limit n) (open_ends limit n)

pub open_inhabited : (limit n : ℕ) → IsTrue (nat_le n 254) → IsInhabited (SpellsOpen limit n)
open_inhabited limit n h =
    let o = some_least (Open n) (number_within n h) tt in
    let c = some_least (Close n) (number_within n h) tt in
    record {
      value = none;
      octets = o.0 ++ ([] ++ c.0);
      spelled = record {
        enclosed = record { front = o.0; back = [] ++ c.0; first = o.1.member; second = record { front = []; back = c.0; first = refl; second = c.1.member; octets = refl }; octets = refl };
        nested = omega arith;
      };
    }

pub open_longest : (limit n : ℕ) (input : List ℕ) (v : Elements) (k : ℕ) → Takes (SpellsOpen limit n) input (v, k) → IsLongest (SpellsOpen limit n) input v k
open_longest limit n input v k t = leaf_longest (SpellsOpen limit n) (open_ends limit n) input v k t

pub open_reach : (limit n : ℕ) (input : List ℕ) (v : Elements) (k : ℕ) (r : Refusal) → Takes (SpellsOpen limit n) input (v, k) → r.place ≡ k → ((r.why ≡ Short) ↔ (k ≡ length input)) → IsReach (SpellsOpen limit n) input r
open_reach limit n input v k r t e short =
    let leaf = leaf_reach (SpellsOpen limit n) (open_ends limit n) input v k r.why t short in
    record { furthest = subst (IsFurthest (SpellsOpen limit n) input) (sym e) leaf.furthest; short = (λ w. e ∙ leaf.short.0 w, λ w. leaf.short.1 (sym e ∙ w)) }

pub open_mark : (limit n : ℕ) (input : List ℕ) (v : Elements) (k : ℕ) (m : Option ℕ) → Takes (SpellsOpen limit n) input (v, k) → ((b : List ℕ) → IsLeast (SpellsOpen limit n v) b → IsMark (take k input) b m) → HasMark (SpellsOpen limit n v) (take k input) m
open_mark limit n input v k m t mark = let l = least_open_value limit n v (take k input) t.spelled in record { least = l.0; is_least = l.1; is_mark = mark l.0 l.1 }
