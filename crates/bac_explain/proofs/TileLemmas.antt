-- Lemmas on pieces that cover octets.
use Rattle.std.proofs.Common.{◌≡◌, ◌≤◌, ◌<◌, ℕ, ◌+◌, ◌-◌, Bool, List, [], ◌∷◌, ◌++◌, length, take, drop, refl, ap, arith, subst, sym, ◌∙◌, inl, inr}
use Rattle.std.proofs.Math.Seq.{take-add, drop-drop, take-length}
use Rattle.std.specs.Prelude.{filter, nat_eq, nat_le, nat_lt, if◌then◌else◌}
use Rattle.std.proofs.lemmas.Bool.{and_from, and_left, and_right, lt-leb, le-leb, lt-ltb, le-ltb, cases_lt, cond-true, cond-false, cond_both, eqb-true}
use Rattle.bac_explain.specs.declared.piece.Piece.{Piece}
use Rattle.bac_explain.specs.declared.piece.Kind.{Kind}
use Rattle.bac_explain.specs.declared.parts.Part.{Part}
use Rattle.bac_explain.specs.Parts.{plain, part_length, part_end, part_pieces, laid, laid_end}
use Rattle.bac_explain.specs.Elements.{Elements, depth_behind}
use Rattle.bac_explain.specs.Tiles.{Tiles, joined, covers}

-- Pieces cover no octets backwards.
pub tiles-le : (from : ℕ) (ps : List Piece) (to : ℕ) → Tiles from ps to → from ≤ to
tiles-le from [] to e = omega (arith, e)
tiles-le from (p ∷ ps) to (here, others) = omega (arith, tiles-le (from + p.length) ps to others)

-- Pieces, and then others from where they end.
pub tiles-append : (from : ℕ) (ps : List Piece) (mid : ℕ) (qs : List Piece) (to : ℕ) → Tiles from ps mid → Tiles mid qs to → Tiles from (ps ++ qs) to
tiles-append from [] mid qs to e others = subst (λ place. Tiles place qs to) e others
tiles-append from (p ∷ ps) mid qs to (here, more) others = (here, tiles-append (from + p.length) ps mid qs to more others)

-- The octets of pieces, joined, are those that they cover.
pub joined-tiles : (octets : List ℕ) (from : ℕ) (ps : List Piece) (to : ℕ) → Tiles from ps to → joined octets ps ≡ take (to - from) (drop from octets)
joined-tiles octets from [] to e =
    let none : to - from ≡ 0 = omega (arith, e) in
    sym (ap (λ n. take n (drop from octets)) none)
joined-tiles octets from (p ∷ ps) to (here, others) =
    let le = tiles-le (from + p.length) ps to others in
    let rest = joined-tiles octets (from + p.length) ps to others in
    let all : p.length + (to - (from + p.length)) ≡ to - from = omega arith in
    ap (λ place. take p.length (drop place octets) ++ joined octets ps) here
    ∙ ap (λ z. take p.length (drop from octets) ++ z) (rest ∙ ap (λ z. take (to - (from + p.length)) z) (sym (drop-drop p.length from octets)))
    ∙ sym (take-add p.length (to - (from + p.length)) (drop from octets))
    ∙ ap (λ n. take n (drop from octets)) all

-- Pieces that cover all octets have all of them.
pub joined-all : (octets : List ℕ) (ps : List Piece) → Tiles 0 ps (length octets) → joined octets ps ≡ octets
joined-all octets ps tiles =
    let whole : length octets - 0 ≡ length octets = omega arith in
    joined-tiles octets 0 ps (length octets) tiles ∙ ap (λ n. take n octets) whole ∙ take-length octets

-- A place before the pieces is in none of them.
covered-none : (place from : ℕ) (ps : List Piece) (to : ℕ) → Tiles from ps to → place < from → filter (covers place) ps ≡ []
covered-none place from [] to e before = refl
covered-none place from (p ∷ ps) to (here, others) before =
    let rest = covered-none place (from + p.length) ps to others (omega arith) in
    let not_here = and_left (nat_le p.place place) (nat_lt place (p.place + p.length)) (lt-leb p.place place (omega (arith, here))) in
    cond-false (covers place p) (p ∷ filter (covers place) ps) (filter (covers place) ps) not_here ∙ rest

-- A place that pieces cover is in exactly one of them.
pub covered-once : (place from : ℕ) (ps : List Piece) (to : ℕ) → Tiles from ps to → from ≤ place → place < to → (p : Piece) × (filter (covers place) ps ≡ p ∷ [])
covered-once place from [] to e after before = absurd (omega (arith, e))
covered-once place from (p ∷ ps) to (here, others) after before =
    let more = filter (covers place) ps in
    let begins = le-leb p.place place (omega (arith, here)) in
    elim (cases_lt place (p.place + p.length)) [
      | inl ends ↦
          let rest = covered-none place (from + p.length) ps to others (omega (arith, here, ends)) in
          let is_here = and_from (nat_le p.place place) (nat_lt place (p.place + p.length)) begins (lt-ltb place (p.place + p.length) ends) in
          (p, cond-true (covers place p) (p ∷ more) more is_here ∙ ap (λ ps. p ∷ ps) rest)
      | inr ends ↦
          let found = covered-once place (from + p.length) ps to others (omega (arith, here, ends)) before in
          let not_here = and_right (nat_le p.place place) (nat_lt place (p.place + p.length)) (le-ltb place (p.place + p.length) ends) in
          (found.0, cond-false (covers place p) (p ∷ more) more not_here ∙ found.1)
    ]

-- ---- which pieces cover octets

-- The pieces of tags.
pub elements-tile : (typed : Bool) (octets : List ℕ) (depth at : ℕ) (ps : List Piece) (last end : ℕ) → Elements typed octets depth at ps last end → Tiles at ps end
elements-tile typed octets depth at [] last end (d, e) = e
elements-tile typed octets depth at (p ∷ ps) last end (first, others) = (first.begins, elements-tile typed octets (depth_behind depth p.kind) (at + p.length) ps last end others)

-- The piece of a part with so many octets, or none.
part-tile : (kind : Kind) (place n : ℕ) → Tiles place (if nat_eq n 0 then [] else plain kind place n ∷ []) (place + n)
part-tile kind place n = cond_both (nat_eq n 0) [] (plain kind place n ∷ []) (λ ps. Tiles place ps (place + n)) (λ e. omega (arith, eqb-true n 0 e)) (λ e. (refl, refl))

-- The piece of a part.
pub part-tiles : (end place : ℕ) (p : Part) → Tiles place (part_pieces end place p) (part_end end place p)
part-tiles end place p = part-tile p.kind place (part_length end place p)

-- The pieces of parts.
pub laid-tiles : (end place : ℕ) (ps : List Part) → Tiles place (laid end place ps) (laid_end end place ps)
laid-tiles end place [] = refl
laid-tiles end place (p ∷ ps) = tiles-append place (part_pieces end place p) (part_end end place p) (laid end (part_end end place p) ps) (laid_end end place (p ∷ ps)) (part-tiles end place p) (laid-tiles end (part_end end place p) ps)
