use Rattle.std.proofs.Common.{rules, false, ◌≡◌, ℕ, suc, ◌+◌, Option, Some, None, List, [], ◌∷◌, drop, slice_get, length, sym, ◌∙◌, ap, inl, inr, arith}
use Rattle.std.proofs.Math.Seq.{drop-cons}
use Rattle.std.proofs.lemmas.Bool.{cases_lt}
use Rattle.std.proofs.lemmas.List.{drop_all}
use Rattle.std.proofs.lemmas.Option.{slice_get_within, slice_get-get_or, get_or_from_slice_get}
use Rattle.bac_value.specs.BitsContents.{bits_of}
use Rattle.bac_value.proofs.types.bits_iter.BitsIterIterator.next.Goals as goal

rest_after : {X : Type 0} (xs : List X) (k : ℕ) (x : X) → slice_get xs k ≡ Some x → drop k xs ≡ x ∷ drop (k + 1) xs
rest_after xs k x e =
    let next : suc k ≡ k + 1 = omega arith in
    drop-cons xs k x (slice_get_within xs k x e) ∙ ap (λ y. y ∷ drop (suc k) xs) (get_or_from_slice_get xs k x x e) ∙ ap (λ (n : ℕ). x ∷ drop n xs) next

none_after : {X : Type 0} (xs : List X) (k : ℕ) (d : X) → slice_get xs k ≡ None → drop k xs ≡ []
none_after xs k d e = elim (cases_lt k (length xs)) [
  | inl within ↦ absurd (no_some (sym e ∙ slice_get-get_or xs k d within))
  | inr past ↦ drop_all k xs past
]
  where
    no_some : {X : Type 0} {x : X} → ◌≡◌ {A = Option X} None (Some x) → ⊥
    no_some h = cc

pub returns-in-None-clause-steps : goal.returns-in-None-clause-steps
returns-in-None-clause-steps c =
    let none : c.args.self.now ≡ [] = sym c.self.view_is ∙ none_after (bits_of c.self.inside.contents.now) c.self.inside.place false (sym c.bit_of.ensures ∙ c.in-None.is) in
    (none, none)

pub invariant_of-self : goal.invariant_of-self
invariant_of-self c = (c.self.invariant.0, omega (arith, slice_get_within (bits_of c.self.inside.contents.now) c.self.inside.place c.in-Some.bit (sym c.bit_of.ensures ∙ c.in-Some.is)))

pub returns-in-Some-clause-steps : goal.returns-in-Some-clause-steps
returns-in-Some-clause-steps c = sym c.self.view_is ∙ rest_after (bits_of c.self.inside.contents.now) c.self.inside.place c.in-Some.bit (sym c.bit_of.ensures ∙ c.in-Some.is)

pub returns-in-Some-clause-goes : goal.returns-in-Some-clause-goes
returns-in-Some-clause-goes c = rw (returns-in-Some-clause-steps c) (search rules)
