-- A list begins with the heads of a set in one way.
use Rattle.std.specs.Prelude.{◌≡◌, ℕ, List, [], ◌∷◌, ◌++◌, length, Bool, true, false, ◌==◌, not, IsTrue, refl}
use Rattle.std.proofs.Common.{sym, ◌∙◌, ap, subst, inl, inr, arith, append_assoc, length-append}
use Rattle.std.proofs.lemmas.Bool.Decides.{nat_tests}
use Rattle.std.proofs.lemmas.Bool.{and_parts, or_cases, or_left, or_right, eqb-true, not-true, both_ways}
use Rattle.bac_tag.specs.declared.heads.TagHead.{TagHead}
use Rattle.bac_tag.specs.Heads.{Heads}
use Rattle.bac_tag.specs.Laws.Heads.{heads_end}
use Rattle.bac_productions.specs.Leads.{Lead, application, context, opening, closing, lead_of, kind_of, number_of, same_lead, has, disjoint, and_where, BeginsIn}

-- one kind and one number are one lead
lead_known : (s t : Lead) → kind_of s ≡ kind_of t → number_of s ≡ number_of t → s ≡ t
lead_known (application m) (application n) c e = ap application e
lead_known (context m) (context n) c e = ap context e
lead_known (opening m) (opening n) c e = ap opening e
lead_known (closing m) (closing n) c e = ap closing e
lead_known (application m) (context n) c e = absurd (omega arith)
lead_known (application m) (opening n) c e = absurd (omega arith)
lead_known (application m) (closing n) c e = absurd (omega arith)
lead_known (context m) (application n) c e = absurd (omega arith)
lead_known (context m) (opening n) c e = absurd (omega arith)
lead_known (context m) (closing n) c e = absurd (omega arith)
lead_known (opening m) (application n) c e = absurd (omega arith)
lead_known (opening m) (context n) c e = absurd (omega arith)
lead_known (opening m) (closing n) c e = absurd (omega arith)
lead_known (closing m) (application n) c e = absurd (omega arith)
lead_known (closing m) (context n) c e = absurd (omega arith)
lead_known (closing m) (opening n) c e = absurd (omega arith)

same_lead_is : (s t : Lead) → IsTrue (same_lead s t) → s ≡ t
same_lead_is s t h =
    let p = and_parts (kind_of s == kind_of t) (number_of s == number_of t) h in
    lead_known s t (eqb-true _ _ p.0) (eqb-true _ _ p.1)

same_lead_self : (t : Lead) → IsTrue (same_lead t t)
same_lead_self t = grind (arith, nat_tests)

disjoint_apart : (leads others : List Lead) (t : Lead) → IsTrue (disjoint leads others) → IsTrue (has leads t) → IsTrue (has others t) → ⊥
disjoint_apart [] others t d h k = absurd (cc)
disjoint_apart (s ∷ leads) others t d h k =
    let p = and_parts (not (has others s)) (disjoint leads others) d in
    elim (or_cases (same_lead s t) (has leads t) h) [
      | inl e ↦ both_ways (has others s) (not-true (has others s) p.0) (subst (λ (u : Lead). has others u ≡ true) (sym (same_lead_is s t e)) k)
      | inr l ↦ disjoint_apart leads others t p.1 l k
    ]

pub disjoint_nil : (leads : List Lead) → IsTrue (disjoint leads [])
disjoint_nil [] = refl
disjoint_nil (t ∷ leads) = disjoint_nil leads

has_left : (leads others : List Lead) (t : Lead) → IsTrue (has leads t) → IsTrue (has (leads ++ others) t)
has_left [] others t h = absurd (cc)
has_left (s ∷ leads) others t h = elim (or_cases (same_lead s t) (has leads t) h) [
  | inl e ↦ or_left (same_lead s t) (has (leads ++ others) t) e
  | inr l ↦ or_right (same_lead s t) (has (leads ++ others) t) (has_left leads others t l)
]

has_right : (leads others : List Lead) (t : Lead) → IsTrue (has others t) → IsTrue (has (leads ++ others) t)
has_right [] others t h = h
has_right (s ∷ leads) others t h = or_right (same_lead s t) (has (leads ++ others) t) (has_right leads others t h)

-- ---- the front of a list

pub begins_apart : (leads others : List Lead) (b : List ℕ) → IsTrue (disjoint leads others) → BeginsIn leads b → BeginsIn others b → ⊥
begins_apart leads others b d p q =
    let same = heads_end p.head q.head p.front q.front p.back q.back p.spelled q.spelled (sym p.octets ∙ q.octets) in
    disjoint_apart leads others (lead_of p.head) d p.among (subst (λ (h : TagHead). has others (lead_of h) ≡ true) (sym same.1) q.among)

pub begins_more : (leads : List Lead) (b x : List ℕ) → BeginsIn leads b → BeginsIn leads (b ++ x)
begins_more leads b x p = record {
  head = p.head;
  front = p.front;
  back = p.back ++ x;
  spelled = p.spelled;
  octets = ap (λ (l : List ℕ). l ++ x) p.octets ∙ append_assoc p.front p.back x;
  among = p.among;
}

pub begins_not_nil : (leads : List Lead) → BeginsIn leads [] → ⊥
begins_not_nil leads p = let h = p.spelled in omega (arith, ap length p.octets, length-append p.front p.back, ap length h.octets, length-append h.front h.back, ap length h.opening.octets)

pub begins_first : (test : Bool) (leads others : List Lead) (b : List ℕ) → BeginsIn leads b → BeginsIn (and_where test leads others) b
begins_first true leads others b p = record { head = p.head; front = p.front; back = p.back; spelled = p.spelled; octets = p.octets; among = has_left leads others (lead_of p.head) p.among }
begins_first false leads others b p = p

pub begins_also : (test : Bool) (leads others : List Lead) (b : List ℕ) → IsTrue test → BeginsIn others b → BeginsIn (and_where test leads others) b
begins_also true leads others b h p = record { head = p.head; front = p.front; back = p.back; spelled = p.spelled; octets = p.octets; among = has_right leads others (lead_of p.head) p.among }
begins_also false leads others b h p = absurd (cc)

-- a head and whatever follows it
pub head_begins : (head : TagHead) (b back : List ℕ) → Heads head b → BeginsIn (lead_of head ∷ []) (b ++ back)
head_begins head b back h = record {
  head = head;
  front = b;
  back = back;
  spelled = h;
  octets = refl;
  among = or_left (same_lead (lead_of head) (lead_of head)) false (same_lead_self (lead_of head));
}
