-- Runs of symbols that pass a test.
use Rattle.std.specs.Prelude.{◌≡◌, ℕ, ◌+◌, ◌<◌, List, [], ◌∷◌, ◌++◌, length, take, slice_index, Bool, IsTrue, refl}
use Rattle.std.proofs.Common.{sym, ◌∙◌, ap, subst, append_assoc, arith, suc, zero}
use Rattle.std.proofs.lemmas.Bool.{and_parts, both_ways, not-true}
use Rattle.std.proofs.lemmas.List.{append-nil, append_cancel_left}
use Rattle.bac_lines.specs.Scanning.{clear, each}

module _ (test : ℕ → Bool) where
  pub runs_join : (xs ys : List ℕ) → IsTrue (each test xs) → IsTrue (each test ys) → IsTrue (each test (xs ++ ys))
  runs_join [] ys p q = q
  runs_join (x ∷ xs) ys p q = let r = and_parts (test x) (each test xs) p in rw (r.0, runs_join xs ys r.1 q) refl

  pub run_after : (xs ys : List ℕ) → IsTrue (each test (xs ++ ys)) → IsTrue (each test ys)
  run_after [] ys d = d
  run_after (x ∷ xs) ys d = run_after xs ys (and_parts (test x) (each test (xs ++ ys)) d).1

  -- a run goes on to a symbol that passes
  pub run_more : (es : List ℕ) (n : ℕ) → n < length es → IsTrue (each test (take n es)) → IsTrue (test (slice_index es n)) → IsTrue (each test (take (n + 1) es))
  run_more [] n lt d t = absurd (omega (arith, lt))
  run_more (x ∷ es) zero lt d t = rw t refl
  run_more (x ∷ es) (suc n) lt d t =
      let next : suc n + 1 ≡ suc (n + 1) = omega arith in
      let p = and_parts (test x) (each test (take n es)) d in
      rw (next, p.0, run_more es n (omega (arith, lt)) p.1 t) refl

  -- A run that begins a list begins each other front of it after which none of its symbols comes.
  pub run_goes_on : (a c more rest : List ℕ) → IsTrue (each test a) → a ++ more ≡ c ++ rest → IsTrue (clear test rest) → (t : List ℕ) × (c ≡ a ++ t)
  run_goes_on [] c more rest d e k = (c, refl)
  run_goes_on (x ∷ a) [] more [] d e k = absurd (cc)
  run_goes_on (x ∷ a) [] more (y ∷ rest) d e k =
      let same : x ≡ y = cc in
      absurd (both_ways (test y) (not-true (test y) k) (subst (λ (z : ℕ). IsTrue (test z)) same (and_parts (test x) (each test a) d).0))
  run_goes_on (x ∷ a) (y ∷ c) more rest d e k =
      let same : x ≡ y = cc in
      let tails : a ++ more ≡ c ++ rest = cc in
      let r = run_goes_on a c more rest (and_parts (test x) (each test a) d).1 tails k in
      (r.0, ap (λ (l : List ℕ). y ∷ l) r.1 ∙ ap (λ (z : ℕ). z ∷ (a ++ r.0)) (sym same))

  -- of a list one front is a run after which none of its symbols comes
  pub run_is_one : (a c more rest : List ℕ) → IsTrue (each test a) → IsTrue (each test c) → a ++ more ≡ c ++ rest → IsTrue (clear test more) → IsTrue (clear test rest) → c ≡ a
  run_is_one a c more rest d f e k m =
      let r = run_goes_on a c more rest d e m in
      let tails : more ≡ r.0 ++ rest = append_cancel_left a more (r.0 ++ rest) (e ∙ ap (λ (l : List ℕ). l ++ rest) r.1 ∙ append_assoc a r.0 rest) in
      r.1 ∙ ap (λ (l : List ℕ). a ++ l) (nothing r.0 tails (run_after a r.0 (subst (λ (l : List ℕ). IsTrue (each test l)) r.1 f))) ∙ append-nil a
    where
      nothing : (t : List ℕ) → more ≡ t ++ rest → IsTrue (each test t) → t ≡ []
      nothing [] is run = refl
      nothing (x ∷ t) is run = absurd (both_ways (test x) (not-true (test x) (subst (λ (l : List ℕ). IsTrue (clear test l)) is k)) (and_parts (test x) (each test t) run).0)
