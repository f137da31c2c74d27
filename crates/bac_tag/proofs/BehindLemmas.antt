-- How all of the octets are refused, where those in front were read.
use Rattle.std.specs.Prelude.{◌≡◌, ◌≢◌, ℕ, ◌+◌, List, [], ◌∷◌, ◌++◌, length, take, refl}
use Rattle.std.proofs.Common.{sym, ◌∙◌, ap, subst, append_assoc, add_assoc, arith}
use Rattle.std.proofs.Math.Seq.{take-append-add, take-length}
use Rattle.std.proofs.lemmas.List.{length-append, append-nil, take-append-le}
use Rattle.bac_tag.specs.declared.refusals.Refusal.{Refusal}
use Rattle.bac_tag.specs.declared.refusals.Why.{Why}
use Rattle.bac_tag.specs.declared.refusals.Why.TheVariants.{Short, Trailing}
use Rattle.bac_tag.specs.Refusals.{behind}
use Rattle.bac_tag.specs.Spelling.{IsSpelling, IsViable, IsWholeRefusal}
use Rattle.bac_tag.specs.Behind.{Behind}

front_is : (front more : List ℕ) → take (length front) (front ++ more) ≡ front
front_is front more = take-append-le (length front) front more (omega arith) ∙ take-length front

module _ {X : Type 0} (T : X → List ℕ → Type 0) where
  pub viable_shorter : (a b : List ℕ) → IsViable T (a ++ b) → IsViable T a
  viable_shorter a b v = record { value = v.value; rest = b ++ v.rest; spelled = subst (T v.value) (append_assoc a b v.rest) v.spelled }

  viable_to : (front b : List ℕ) → IsViable (Behind front T) b → IsViable T (front ++ b)
  viable_to front b v = record { value = v.value; rest = v.rest; spelled = subst (T v.value) (sym (append_assoc front b v.rest)) v.spelled }

  viable_of : (front b : List ℕ) → IsViable T (front ++ b) → IsViable (Behind front T) b
  viable_of front b v = record { value = v.value; rest = v.rest; spelled = subst (T v.value) (append_assoc front b v.rest) v.spelled }

  -- what is refused behind the octets is refused with them, farther by as many
  pub whole_behind : (front rest : List ℕ) (r : Refusal) → IsWholeRefusal (Behind front T) rest r → IsWholeRefusal T (front ++ rest) (behind (length front) r)
  whole_behind front rest r h = record {
    none = h.none;
    furthest = record {
      within = omega (arith, length-append front rest, h.furthest.within);
      begins = rw (take-append-add front rest r.place) (viable_to front (take r.place rest) h.furthest.begins);
      ends = λ lt v. h.furthest.ends (omega (arith, length-append front rest))
          (viable_of front (take (r.place + 1) rest) (subst (IsViable T) (ap (λ (n : ℕ). take n (front ++ rest)) (add_assoc (length front) r.place 1) ∙ take-append-add front rest (r.place + 1)) v));
    };
    short = (λ e. omega (arith, h.short.0 e, length-append front rest), λ e. h.short.1 (omega (arith, length-append front rest)));
    trailing = (
      λ e. let t = h.trailing.0 e in (omega (arith, t.0, length-append front rest), rw (take-append-add front rest r.place) t.1),
      λ p. h.trailing.1 (omega (arith, p.0, length-append front rest), rw (take-append-add front rest r.place) at p.1),
    );
  }

  -- the octets begin a spelling and are none
  pub whole_short : (input : List ℕ) → IsViable T input → ((x : X) → T x input → ⊥) → IsWholeRefusal T input (record { place = length input; why = Short })
  whole_short input v none = record {
    none = none;
    furthest = record { within = omega arith; begins = rw (take-length input) v; ends = λ lt w. absurd (omega arith) };
    short = (λ e. refl, λ e. refl);
    trailing = (λ e. absurd (let i : Short ≡ Trailing = e in cc), λ p. absurd (omega (arith, p.0)));
  }

  -- the octets begin a spelling and are none, and with one more they begin none
  pub whole_hopeless : (front : List ℕ) (o : ℕ) (rest : List ℕ) (why : Why) → why ≢ Short → why ≢ Trailing → IsViable T front → ((x : X) → T x front → ⊥) → ((x : X) (b : List ℕ) → T x (front ++ o ∷ b) → ⊥)
      → IsWholeRefusal T (front ++ o ∷ rest) (record { place = length front; why = why })
  whole_hopeless front o rest why short trails v none hopeless = record {
    none = λ x t. hopeless x rest t;
    furthest = record {
      within = omega (arith, length-append front (o ∷ rest));
      begins = rw (front_is front (o ∷ rest)) v;
      ends = λ lt w. let u : IsViable T (front ++ o ∷ []) = subst (IsViable T) (take-append-add front (o ∷ rest) 1) w in
          hopeless u.value u.rest (subst (T u.value) (append_assoc front (o ∷ []) u.rest) u.spelled);
    };
    short = (λ e. absurd (short e), λ e. absurd (omega (arith, e, length-append front (o ∷ rest))));
    trailing = (λ e. absurd (trails e), λ p. absurd (none p.1.0 (subst (T p.1.0) (front_is front (o ∷ rest)) p.1.1)));
  }

  -- the octets are a spelling that ends
  pub whole_trailing : (front : List ℕ) (o : ℕ) (rest : List ℕ) → IsSpelling T front → ((x : X) (b : List ℕ) → T x (front ++ o ∷ b) → ⊥) → IsWholeRefusal T (front ++ o ∷ rest) (record { place = length front; why = Trailing })
  whole_trailing front o rest s hopeless = record {
    none = λ x t. hopeless x rest t;
    furthest = record {
      within = omega (arith, length-append front (o ∷ rest));
      begins = rw (front_is front (o ∷ rest)) (record { value = s.0; rest = []; spelled = rw (append-nil front) s.1 });
      ends = λ lt w. let u : IsViable T (front ++ o ∷ []) = subst (IsViable T) (take-append-add front (o ∷ rest) 1) w in
          hopeless u.value u.rest (subst (T u.value) (append_assoc front (o ∷ []) u.rest) u.spelled);
    };
    short = (λ e. absurd (let i : Trailing ≡ Short = e in cc), λ e. absurd (omega (arith, e, length-append front (o ∷ rest))));
    trailing = (λ e. (omega (arith, length-append front (o ∷ rest)), rw (front_is front (o ∷ rest)) s), λ p. refl);
  }

-- what spells the same lists begins the same lists
pub viable_as : {X Y : Type 0} (S : X → List ℕ → Type 0) (T : Y → List ℕ → Type 0) (b : List ℕ) → ((x : X) (c : List ℕ) → S x c → (y : Y) × T y c) → IsViable S b → IsViable T b
viable_as S T b to v = let t = to v.value (b ++ v.rest) v.spelled in record { value = t.0; rest = v.rest; spelled = t.1 }

-- a head that is read, and a body behind it that is refused: every spelling of the body goes on with the head, and only those
pub whole_body : {X Y : Type 0} (T : X → List ℕ → Type 0) (S : Y → List ℕ → Type 0) (front rest : List ℕ) (r : Refusal) → ((y : Y) (b : List ℕ) → S y b → (x : X) × T x (front ++ b)) → ((x : X) (b : List ℕ) → T x (front ++ b) → (y : Y) × S y b)
    → IsWholeRefusal S rest r → IsWholeRefusal T (front ++ rest) (behind (length front) r)
whole_body T S front rest r every only h = whole_behind T front rest r (record {
  none = λ x t. let s = only x rest t in h.none s.0 s.1;
  furthest = record {
    within = h.furthest.within;
    begins = viable_as S (Behind front T) (take r.place rest) every h.furthest.begins;
    ends = λ lt v. h.furthest.ends lt (viable_as (Behind front T) S (take (r.place + 1) rest) only v);
  };
  short = h.short;
  trailing = (λ e. let t = h.trailing.0 e in (t.0, every t.1.0 (take r.place rest) t.1.1), λ p. h.trailing.1 (p.0, only p.1.0 (take r.place rest) p.1.1));
})
