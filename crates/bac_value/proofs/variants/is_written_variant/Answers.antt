use Rattle.std.proofs.Common.{◌≡◌, ℕ, ◌+◌, List, ◌++◌, Option, None, Some, true, false, take, drop, length, sym, ◌∙◌, ap, subst, arith}
use Rattle.std.proofs.lemmas.List.{take-append-drop}
use Rattle.std.specs.Prelude.{IfSome, is_some}
use Rattle.bac_value.specs.Primitives.{IsHopelessAt}
use Rattle.bac_value.specs.Laws.Variants.{written_from}
use Rattle.bac_value.proofs.variants.is_written_variant.Goals.{then-size-SHORTEST-via-then-size-SHORTEST, then-size-SHORTEST-via-else-size-SHORTEST+then-LONGEST-size, then-size-SHORTEST-via-else-size-SHORTEST+else-LONGEST-size+then-is_some}
use Rattle.bac_value.proofs.variants.is_written_variant.Goals as goal

-- contents of a value are hopeless at no place
none_hopeless : {V : Type 0} (contents : V → List ℕ → Type 0) (value : V) (octets : List ℕ) (at : Option ℕ) → contents value octets → IfSome at (IsHopelessAt contents octets (length octets)) → is_some at ≡ true → ⊥
none_hopeless contents value octets None s h e = absurd (let i : false ≡ true = e in cc)
none_hopeless contents value octets (Some place) s h e =
    let whole : take (place + 1) octets ++ drop (place + 1) octets ≡ octets = take-append-drop (place + 1) octets in
    h.2 (record { value = value; rest = drop (place + 1) octets; spelled = subst (contents value) (sym whole) s; sized = ap length whole })

pub returns-then-size-SHORTEST : goal.returns-then-size-SHORTEST
returns-then-size-SHORTEST g c = (
  λ never. absurd (let i : false ≡ true = never in cc),
  λ of.
      let is = written_from g.T.Primitive.APP g.T.Primitive.contents g.T.Variant.wrapped g.T.Primitive.written g.met.T.Variant.is_variant g.met.T.Variant.is_written c.args.octets.now of in
      let long = g.met.T.Primitive.lengths is.value c.args.octets.now is.spelled in
      elim c.then-size-SHORTEST.branch [
        | then-size-SHORTEST-via-then-size-SHORTEST w ↦ absurd (omega (arith, long, w.if-size-SHORTEST.true, c.SHORTEST.ensures))
        | then-size-SHORTEST-via-else-size-SHORTEST+then-LONGEST-size w ↦ absurd (omega (arith, long, w.LONGEST.ensures, w.if-LONGEST-size.true))
        | then-size-SHORTEST-via-else-size-SHORTEST+else-LONGEST-size+then-is_some w ↦ absurd (none_hopeless g.T.Primitive.contents is.value c.args.octets.now w.hopeless.result is.spelled w.hopeless.ensures.some (sym w.is_some.ensures ∙ w.if-is_some.true))
      ],
)
