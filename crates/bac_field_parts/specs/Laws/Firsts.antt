-- Where a language stops in the first field, and after it.
use Rattle.std.specs.Prelude.{◌≡◌, ℕ, ◌+◌, List, [], ◌∷◌, ◌++◌, take, Option, refl}
use Rattle.std.proofs.Common.{sym, ◌∙◌, ap, subst, arith, suc}
use Rattle.bac_tag.specs.Spelling.{IsViable}
use Rattle.bac_field_parts.specs.Symbols.{Symbol, named, numbered, containing, finished, IsStop}

-- a list whose first field has this name, this number and these contents
abbrev pub field_then : ℕ → ℕ → Option (List ℕ) → List Symbol → List Symbol
field_then name number contents rest = named name ∷ numbered number ∷ containing contents ∷ rest

-- the list begins with such a field
pub record Starts (First : ℕ → ℕ → Option (List ℕ) → Type 0) (es : List Symbol) : Type 0 where
  pub name : ℕ
  pub number : ℕ
  pub contents : Option (List ℕ)
  pub rest : List Symbol
  pub symbols : es ≡ field_then name number contents rest
  pub first : First name number contents

-- which fields come first: each list of the language begins with one of them, and each of them begins one
pub record HasFirsts (L : Unit {0} → List Symbol → Type 0) (First : ℕ → ℕ → Option (List ℕ) → Type 0) : Type 0 where
  pub starts : (es : List Symbol) → L tt es → Starts First es
  pub continues : (n m : ℕ) (c : Option (List ℕ)) → First n m c → (rest : List Symbol) × L tt (field_then n m c rest)
  pub some : (es : List Symbol) × L tt es

module _ (L : Unit {0} → List Symbol → Type 0) (First : ℕ → ℕ → Option (List ℕ) → Type 0) (H : HasFirsts L First) where
  viable_nothing : IsViable L []
  viable_nothing = record { value = tt; rest = H.some.0; spelled = H.some.1 }

  -- the list ends
  pub stop_at_end : (rest : List Symbol) → IsStop L (finished ∷ rest) 0
  stop_at_end rest = record {
    none = λ u b more e l. (let s = H.starts b l in let whole : finished ∷ rest ≡ field_then s.name s.number s.contents s.rest ++ more = e ∙ ap (λ (t : List Symbol). t ++ more) s.symbols in absurd (cc));
    furthest = record { within = omega arith; begins = viable_nothing; ends = λ lt v. (let s = H.starts _ v.spelled in let whole = s.symbols in absurd (cc)) };
    short = (λ e. absurd (cc), λ e. absurd (omega arith));
  }

  -- none has the name
  pub stop_at_name : (n : ℕ) (rest : List Symbol) → ((m : ℕ) (c : Option (List ℕ)) → First n m c → ⊥) → IsStop L (named n ∷ rest) 0
  stop_at_name n rest never = record {
    none = λ u b more e l.
        let s = H.starts b l in
        let whole : named n ∷ rest ≡ field_then s.name s.number s.contents s.rest ++ more = e ∙ ap (λ (t : List Symbol). t ++ more) s.symbols in
        let same : s.name ≡ n = cc in
        never s.number s.contents (subst (λ (i : ℕ). First i s.number s.contents) same s.first);
    furthest = record {
      within = omega arith;
      begins = viable_nothing;
      ends = λ lt v.
          let s = H.starts _ v.spelled in
          let whole = s.symbols in
          let same : s.name ≡ n = cc in
          never s.number s.contents (subst (λ (i : ℕ). First i s.number s.contents) same s.first);
    };
    short = (λ e. absurd (cc), λ e. absurd (omega arith));
  }

  -- after the first field, what stops what follows stops the whole
  pub stop_after : (M : Unit {0} → List Symbol → Type 0) (n m : ℕ) (c : Option (List ℕ)) (es : List Symbol) (p : ℕ) → ((fs : List Symbol) → L tt (field_then n m c fs) → M tt fs) → ((fs : List Symbol) → M tt fs → L tt (field_then n m c fs))
      → IsStop M es p → IsStop L (field_then n m c es) (3 + p)
  stop_after M n m c es p from to h = record {
    none = λ u b more e l.
        let s = H.starts b l in
        let whole : field_then n m c es ≡ field_then s.name s.number s.contents (s.rest ++ more) = e ∙ ap (λ (t : List Symbol). t ++ more) s.symbols in
        let names : s.name ≡ n = cc in
        let numbers : s.number ≡ m = cc in
        let contents : s.contents ≡ c = cc in
        let behind : es ≡ s.rest ++ more = cc in
        let b_is : b ≡ field_then n m c s.rest = s.symbols ∙ ap (λ (i : ℕ). field_then i s.number s.contents s.rest) names ∙ ap (λ (i : ℕ). field_then n i s.contents s.rest) numbers ∙ ap (λ (x : Option (List ℕ)). field_then n m x s.rest) contents in
        h.none tt s.rest more behind (from s.rest (subst (λ (t : List Symbol). L tt t) b_is l));
    furthest = record {
      within = omega (arith, h.furthest.within);
      begins = subst (λ (t : List Symbol). IsViable L t) (sym (front p)) (record { value = tt; rest = h.furthest.begins.rest; spelled = to (take p es ++ h.furthest.begins.rest) h.furthest.begins.spelled });
      ends = λ lt v.
          let w : IsViable L (field_then n m c (take (p + 1) es)) = subst (λ (t : List Symbol). IsViable L t) next v in
          h.furthest.ends (omega arith) (record { value = tt; rest = w.rest; spelled = from (take (p + 1) es ++ w.rest) w.spelled });
    };
    short = (λ e. absurd (cc), λ e. (let r = h.short.1 (omega arith) in absurd (cc)));
  }
    where
      front : (q : ℕ) → take (3 + q) (field_then n m c es) ≡ field_then n m c (take q es)
      front q = let e : 3 + q ≡ suc (suc (suc q)) = omega arith in rw e refl

      next : take ((3 + p) + 1) (field_then n m c es) ≡ field_then n m c (take (p + 1) es)
      next = let e : (3 + p) + 1 ≡ 3 + (p + 1) = omega arith in ap (λ (k : ℕ). take k (field_then n m c es)) e ∙ front (p + 1)
