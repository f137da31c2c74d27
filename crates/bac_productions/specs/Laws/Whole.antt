-- A front that is not all of the octets.
use Rattle.std.specs.Prelude.{◌≡◌, ◌≢◌, ℕ, ◌≤◌, ◌<◌, List, [], length, take, drop, refl}
use Rattle.std.proofs.Common.{sym, subst, inl, inr, arith}
use Rattle.std.proofs.lemmas.Bool.{cases_lt}
use Rattle.std.proofs.lemmas.List.{append-nil, take-append-drop, length-take-le}
use Rattle.bac_tag.specs.declared.refusals.Refusal.{Refusal}
use Rattle.bac_tag.specs.declared.refusals.Why.TheVariants.{Short, Trailing}
use Rattle.bac_tag.specs.Spelling.{IsFurthest, IsRefusal, IsWholeRefusal}
use Rattle.bac_productions.specs.Productions.{IsLongest, IsReach}
use Rattle.bac_productions.specs.Laws.Refusal.{reach_taken, reach_alike}

-- what spells the same lists is refused alike
pub whole_alike : {V W : Type 0} (S : V → List ℕ → Type 0) (T : W → List ℕ → Type 0) (input : List ℕ) (r : Refusal) → ((v : V) (b : List ℕ) → S v b → (w : W) × T w b) → ((w : W) (b : List ℕ) → T w b → (v : V) × S v b)
    → IsWholeRefusal S input r → IsWholeRefusal T input r
whole_alike S T input r to from h =
    let reach = reach_alike S T input r to from (record { furthest = h.furthest; short = h.short }) in
    record {
      none = λ w t. let s = from w input t in h.none s.0 s.1;
      furthest = reach.furthest;
      short = reach.short;
      trailing = (λ e. let t = h.trailing.0 e in (t.0, to t.1.0 (take r.place input) t.1.1), λ p. h.trailing.1 (p.0, from p.1.0 (take r.place input) p.1.1));
    }

-- what has no front is no spelling either
pub whole_refused : {V : Type 0} (S : V → List ℕ → Type 0) (input : List ℕ) (r : Refusal) → IsRefusal S input r → r.why ≢ Trailing → IsWholeRefusal S input r
whole_refused S input r h trails = record {
  none = λ v s. h.none v input [] (sym (append-nil input)) s;
  furthest = h.furthest;
  short = h.short;
  trailing = (λ e. absurd (trails e), λ p. absurd (h.none p.1.0 (take r.place input) (drop r.place input) (sym (take-append-drop r.place input)) p.1.1));
}

module _ {V : Type 0} (S : V → List ℕ → Type 0) (input : List ℕ) (v : V) (n : ℕ) (r : Refusal) (L : IsLongest S input v n) (R : IsReach S input r) where
  too_short : n ≢ length input → (w : V) → S w input → ⊥
  too_short other w s = let most = L.most w input [] (sym (append-nil input)) s in let within = L.within in other (omega arith)

  -- a spelling, with octets behind it
  pub whole_trails : n ≢ length input → r.place ≡ n → IsWholeRefusal S input (record { place = n; why = Trailing })
  whole_trails other e =
      let within = L.within in record {
        none = too_short other;
        furthest = subst (IsFurthest S input) e R.furthest;
        short = (λ w. absurd (let i : Trailing ≡ Short = w in cc), λ w. absurd (other w));
        trailing = (λ w. (omega (arith, below other within), (v, L.spelled)), λ p. refl);
      }
    where
      below : n ≢ length input → n ≤ length input → n < length input
      below other le = elim (cases_lt n (length input)) [
        | inl lt ↦ lt
        | inr ge ↦ absurd (other (omega arith))
      ]

  -- a spelling that could have gone on
  pub whole_reaches : n ≢ length input → r.place ≢ n → (r.why ≡ Trailing → r.place ≡ n) → IsWholeRefusal S input r
  whole_reaches other far trails = record {
    none = too_short other;
    furthest = R.furthest;
    short = R.short;
    trailing = (λ w. absurd (far (trails w)), λ p. absurd (no_front p.1.0 p.1.1));
  }
    where
      no_front : (w : V) → S w (take r.place input) → ⊥
      no_front w s =
          let most = L.most w (take r.place input) (drop r.place input) (sym (take-append-drop r.place input)) s in
          let within = R.furthest.within in
          let ahead = reach_taken L R in
          far (omega (arith, length-take-le r.place input within))
