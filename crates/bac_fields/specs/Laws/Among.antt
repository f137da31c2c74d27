-- One message among several, which its first name tells.
use Rattle.std.specs.Prelude.{◌≡◌, ℕ, ◌+◌, ◌<◌, List, [], ◌∷◌, ◌++◌, length, take}
use Rattle.std.proofs.Common.{sym, ◌∙◌, ap, subst, arith, zero, suc}
use Rattle.bac_tag.specs.Spelling.{IsViable}
use Rattle.bac_field_parts.specs.Symbols.{Symbol, named, numbered, Language, IsStop}

module _ {V X : Type 0} (f : V → List Symbol) (S : V → List ℕ → Type 0) (h : X → List Symbol) (T : X → List ℕ → Type 0) (n : ℕ) (to : (es : List Symbol) → Language f S tt es → Language h T tt es)
    (from : (rest : List Symbol) → Language h T tt (named n ∷ rest) → Language f S tt (named n ∷ rest)) (filled : Language h T tt [] → ⊥) where
  -- what stops the message that has the name stops them all
  pub among_stopped : (rest : List Symbol) (p : ℕ) → IsStop (Language f S) (named n ∷ rest) p → IsStop (Language h T) (named n ∷ rest) p
  among_stopped rest p stop = record {
    none = λ u b more e l. no_front b more e l;
    furthest = record {
      within = stop.furthest.within;
      begins = let v = stop.furthest.begins in record { value = tt; rest = v.rest; spelled = to _ v.spelled };
      ends = λ lt v.
          let spelled : Language h T tt (named n ∷ (take p rest ++ v.rest)) = subst (λ (t : List Symbol). Language h T tt (t ++ v.rest)) next v.spelled in
          stop.furthest.ends lt (record { value = tt; rest = v.rest; spelled = subst (λ (t : List Symbol). Language f S tt (t ++ v.rest)) (sym next) (from _ spelled) });
    };
    short = stop.short;
  }
    where
      next : take (p + 1) (named n ∷ rest) ≡ named n ∷ take p rest
      next = let e : p + 1 ≡ suc p = omega arith in ap (λ (k : ℕ). take k (named n ∷ rest)) e

      no_front : (b more : List Symbol) → named n ∷ rest ≡ b ++ more → Language h T tt b → ⊥
      no_front [] more e l = filled l
      no_front (k ∷ b) more e l =
          let same : k ≡ named n = cc in
          let l_is : Language h T tt (named n ∷ b) = subst (λ (i : Symbol). Language h T tt (i ∷ b)) same l in
          stop.none tt (named n ∷ b) more (e ∙ ap (λ (i : Symbol). i ∷ (b ++ more)) same) (from b l_is)

-- one message among several, which its first name and its first number tell
module _ {V X : Type 0} (f : V → List Symbol) (S : V → List ℕ → Type 0) (h : X → List Symbol) (T : X → List ℕ → Type 0) (n m : ℕ) (to : (es : List Symbol) → Language f S tt es → Language h T tt es)
    (from : (rest : List Symbol) → Language h T tt (named n ∷ numbered m ∷ rest) → Language f S tt (named n ∷ numbered m ∷ rest)) (some : (rest : List Symbol) × Language f S tt (named n ∷ rest))
    (filled : Language h T tt [] → ⊥) (longer : (k : Symbol) → Language h T tt (k ∷ []) → ⊥) where
  pub numbered_stopped : (rest : List Symbol) (p : ℕ) → IsStop (Language f S) (named n ∷ numbered m ∷ rest) p → IsStop (Language h T) (named n ∷ numbered m ∷ rest) p
  numbered_stopped rest p stop = record {
    none = λ u b more e l. no_front b more e l;
    furthest = record {
      within = stop.furthest.within;
      begins = let v = stop.furthest.begins in record { value = tt; rest = v.rest; spelled = to _ v.spelled };
      ends = ends_at p stop.furthest.ends;
    };
    short = stop.short;
  }
    where
      ends_at : (q : ℕ) → (q < length (named n ∷ numbered m ∷ rest) → IsViable (Language f S) (take (q + 1) (named n ∷ numbered m ∷ rest)) → ⊥) → q < length (named n ∷ numbered m ∷ rest) → IsViable (Language h T) (take (q + 1) (named n ∷ numbered m ∷ rest)) → ⊥
      ends_at zero ends lt v = ends lt (record { value = tt; rest = some.0; spelled = some.1 })
      ends_at (suc q) ends lt v =
          let e : suc q + 1 ≡ suc (suc q) = omega arith in
          let there : take (suc q + 1) (named n ∷ numbered m ∷ rest) ≡ named n ∷ numbered m ∷ take q rest = ap (λ (k : ℕ). take k (named n ∷ numbered m ∷ rest)) e in
          let spelled : Language h T tt (named n ∷ numbered m ∷ (take q rest ++ v.rest)) = subst (λ (t : List Symbol). Language h T tt (t ++ v.rest)) there v.spelled in
          ends lt (record { value = tt; rest = v.rest; spelled = subst (λ (t : List Symbol). Language f S tt (t ++ v.rest)) (sym there) (from _ spelled) })

      no_front : (b more : List Symbol) → named n ∷ numbered m ∷ rest ≡ b ++ more → Language h T tt b → ⊥
      no_front [] more e l = filled l
      no_front (k ∷ []) more e l = longer k l
      no_front (k ∷ i ∷ b) more e l =
          let first : k ≡ named n = cc in
          let second : i ≡ numbered m = cc in
          let b_is : k ∷ i ∷ b ≡ named n ∷ numbered m ∷ b = ap (λ (x : Symbol). x ∷ i ∷ b) first ∙ ap (λ (x : Symbol). named n ∷ x ∷ b) second in
          stop.none tt (named n ∷ numbered m ∷ b) more (e ∙ ap (λ (x : List Symbol). x ++ more) b_is) (from b (subst (λ (x : List Symbol). Language h T tt x) b_is l))
