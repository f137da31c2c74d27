use Rattle.std.proofs.Common.{◌≡◌, ◌<◌, ℕ, ◌∙◌, refl, subst, arith}
use Rattle.std.proofs.lemmas.Bool.{iff_false}
use Rattle.bac_tag.specs.Reading.{Uses, example_of}
use Rattle.bac_tag.proofs.FrontLemmas.{short_at_first, short_at_second, hopeless_first, hopeless_second, nothing_starts}
use Rattle.bac_tag.proofs.reading.read_front.Goals as goal
use Rattle.bac_tag.proofs.reading.read_front.Goals.{then-nibble-lt15, else-nibble-lt15}

pub returns-in_default-clause-refused : goal.returns-in_default-clause-refused
returns-in_default-clause-refused c = rw c.at.ensures (short_at_first c.args.expected c.args.octets.now c.requires (omega (arith, c.in_default.len_below)))

pub returns-then-not-uses-clause-refused : goal.returns-then-not-uses-clause-refused
returns-then-not-uses-clause-refused c =
    let parts = c.initial_parts-nibble in
    let low : parts.result.0 < 15 → c.if-nibble-lt15.number ≡ parts.result.0 =
    elim c.if-nibble-lt15.branch [ then-nibble-lt15 w ↦ λ _. w.number-is | else-nibble-lt15 w ↦ λ lt. absurd (omega (arith, w.if-nibble-lt15.false)) ] in
    let full : parts.result.0 ≡ 15 → c.if-nibble-lt15.number ≡ example_of c.args.expected =
    elim c.if-nibble-lt15.branch [ then-nibble-lt15 w ↦ λ e. absurd (omega (arith, w.if-nibble-lt15.true)) | else-nibble-lt15 w ↦ λ _. w.number-is ∙ w.example-number.ensures ] in
    rw c.at-then-not-uses.ensures (hopeless_first c.args.expected c.args.octets.now _ parts.result.0 parts.result.2 parts.result.1 _ c.requires c.reason_at_first-why.ensures.hopeless
    (omega (arith, c.in-len1-up.len_at_least)) refl parts.ensures.parts parts.ensures.lvt
    (nothing_starts c.args.expected parts.result.0 parts.result.2 c.if-nibble-lt15.number parts.result.1 c.requires low full (iff_false c.uses.ensures c.if-not-uses.true)))

pub returns-in_default-octets-clause-refused : goal.returns-in_default-octets-clause-refused
returns-in_default-octets-clause-refused c =
    let parts = c.initial_parts-nibble in
    let full : c.if-nibble-lt15.number ≡ example_of c.args.expected =
    elim c.if-nibble-lt15.branch [ then-nibble-lt15 w ↦ absurd (omega (arith, w.if-nibble-lt15.true)) | else-nibble-lt15 w ↦ w.number-is ∙ w.example-number.ensures ] in
    let used : Uses c.args.expected parts.result.1 (example_of c.args.expected) parts.result.2 =
    subst (λ (z : ℕ). Uses c.args.expected parts.result.1 z parts.result.2) full (c.uses.ensures.0 c.if-not-uses.false) in
    rw c.at-in_default-octets.ensures (short_at_second c.args.expected c.args.octets.now _ parts.result.0 parts.result.2 parts.result.1 c.requires
    (omega (arith, c.in-len1-up.len_at_least, c.in_default-octets.len_below)) refl parts.ensures.parts parts.ensures.lvt (omega (arith, parts.ensures.nibble)) used)

pub returns-then-not-uses-2-clause-refused : goal.returns-then-not-uses-2-clause-refused
returns-then-not-uses-2-clause-refused c =
    let parts = c.initial_parts-nibble in
    let full : c.if-nibble-lt15.number ≡ example_of c.args.expected =
    elim c.if-nibble-lt15.branch [ then-nibble-lt15 w ↦ absurd (omega (arith, w.if-nibble-lt15.true)) | else-nibble-lt15 w ↦ w.number-is ∙ w.example-number.ensures ] in
    let used : Uses c.args.expected parts.result.1 (example_of c.args.expected) parts.result.2 =
    subst (λ (z : ℕ). Uses c.args.expected parts.result.1 z parts.result.2) full (c.uses.ensures.0 c.if-not-uses.false) in
    rw c.at-then-not-uses-2.ensures (hopeless_second c.args.expected c.args.octets.now _ _ parts.result.0 parts.result.2 parts.result.1 _ c.requires (λ e. cc)
    (omega (arith, c.in-len2-up.len_at_least)) refl refl parts.ensures.parts parts.ensures.lvt (omega (arith, parts.ensures.nibble)) used (iff_false c.uses-2.ensures c.if-not-uses-2.true))
