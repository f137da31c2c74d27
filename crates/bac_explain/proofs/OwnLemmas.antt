-- Lemmas on the octets of each piece.
use Rattle.std.proofs.Common.{◌≡◌, ◌≤◌, ℕ, ◌+◌, ◌-◌, min, List, [], ◌∷◌, ◌++◌, length, take, drop, refl, sym, ap, ◌∙◌, subst, arith}
use Rattle.std.specs.Prelude.{nat_eq}
use Rattle.std.specs.List.{AllByRecursion}
use Rattle.std.proofs.lemmas.Bool.{cond_both}
use Rattle.std.proofs.lemmas.List.{drop-take, length-drop, length-take-le, take-take}
use Rattle.bac_tag.specs.declared.heads.TagHead.{TagHead}
use Rattle.bac_tag.specs.declared.refusals.Refusal.{Refusal}
use Rattle.bac_tag.specs.Heads.{Heads}
use Rattle.bac_explain.specs.declared.piece.Kind.{Kind}
use Rattle.bac_explain.specs.declared.piece.Kind.TheVariants as kind
use Rattle.bac_explain.specs.declared.piece.Piece.{Piece}
use Rattle.bac_explain.specs.declared.verdict.Verdict.{Verdict}
use Rattle.bac_explain.specs.declared.verdict.Verdict.TheVariants.{Accepted, Refused}
use Rattle.bac_explain.specs.Elements.{IsTagged}
use Rattle.bac_explain.specs.Explained.{Explains, IsWithin, ReadsHead}
use Rattle.bac_explain.specs.Numbers.{BeginsWith, IsPieceOf}
use Rattle.bac_explain.specs.Parts.{plain}
use Rattle.bac_explain.specs.Refusals.{arrow, refusal_pieces, rest_pieces}
use Rattle.bac_explain.specs.Tiles.{Tiles, octets_of}
use Rattle.bac_explain.proofs.ExplainLemmas.{all-append}
use Rattle.bac_explain.proofs.TileLemmas.{tiles-le}

-- ---- lists of pieces

all-first : {X : Type 0} (P : X → Type 0) (xs ys : List X) → AllByRecursion P (xs ++ ys) → AllByRecursion P xs
all-first P [] ys all = tt
all-first P (x ∷ xs) ys all = (all.0, all-first P xs ys all.1)

-- Pieces before another one cover the octets up to it.
tiles-first : (from : ℕ) (ps : List Piece) (q : Piece) (qs : List Piece) (to : ℕ) → Tiles from (ps ++ q ∷ qs) to → Tiles from ps q.place
tiles-first from [] q qs to tiles = tiles.0
tiles-first from (p ∷ ps) q qs to tiles = (tiles.0, tiles-first (from + p.length) ps q qs to tiles.1)

-- That piece and those after it cover the others.
tiles-second : (from : ℕ) (ps : List Piece) (q : Piece) (qs : List Piece) (to : ℕ) → Tiles from (ps ++ q ∷ qs) to → Tiles q.place (q ∷ qs) to
tiles-second from [] q qs to tiles = (refl, subst (λ n. Tiles (n + q.length) qs to) (sym tiles.0) tiles.1)
tiles-second from (p ∷ ps) q qs to tiles = tiles-second (from + p.length) ps q qs to tiles.1

-- ---- what is read of a tag head

-- The octets up to a limit are the same in both lists.
abbrev AreSame : List ℕ → List ℕ → ℕ → Type 0
AreSame octets front limit = (a h : ℕ) → a + h ≤ limit → take h (drop a front) ≡ take h (drop a octets)

-- They are, in the front of a list.
front-same : (octets : List ℕ) (limit : ℕ) → AreSame octets (take limit octets) limit
front-same octets limit a h le =
    let all : a + (limit - a) ≡ limit = omega (arith, le) in
    ap (λ n. take h (drop a (take n octets))) (sym all) ∙ ap (λ z. take h z) (drop-take a (limit - a) octets) ∙ take-take h (limit - a) (drop a octets) (omega (arith, le))

own-tag : (octets front : List ℕ) (limit : ℕ) (p : Piece) (tag : TagHead) (groups : ℕ) → AreSame octets front limit → p.place + p.length ≤ limit → limit ≤ length octets → IsTagged front groups tag p
    → (p.head ≤ length (octets_of octets p)) × Heads tag (take p.head (octets_of octets p))
own-tag octets front limit p tag groups same within le tagged =
    let short : p.head ≤ p.length = omega (arith, tagged.long) in
    let size : length (octets_of octets p) ≡ p.length = length-take-le p.length (drop p.place octets) (omega (arith, within, le, length-drop p.place octets)) in
    let whole : take p.head (octets_of octets p) ≡ take p.head (drop p.place octets) = take-take p.head p.length (drop p.place octets) short in
    (omega (arith, size, short), subst (λ b. Heads tag b) (same p.place p.head (omega (arith, short, within)) ∙ sym whole) tagged.spelled)

-- The octets of a piece begin with the head that was read before the limit.
own-begins : (octets front : List ℕ) (limit : ℕ) (p : Piece) (k : Kind) → AreSame octets front limit → p.place + p.length ≤ limit → limit ≤ length octets → ReadsHead front p k → BeginsWith (octets_of octets p) p.head k
own-begins octets front limit p (kind.Element tag) same within le read = own-tag octets front limit p tag read.0 same within le read.1
own-begins octets front limit p (kind.Unjudged tag) same within le read = own-tag octets front limit p tag read.0 same within le read.1
own-begins octets front limit p _ same within le read = tt

-- ---- all pieces

-- Pieces up to the limit.
front-own : (octets front : List ℕ) (limit from : ℕ) (ps : List Piece) → AreSame octets front limit → limit ≤ length octets → Tiles from ps limit → AllByRecursion (λ p. ReadsHead front p p.kind) ps → AllByRecursion (IsPieceOf octets) ps
front-own octets front limit from [] same le tiles reads = tt
front-own octets front limit from (p ∷ ps) same le (here, others) reads =
    let within : p.place + p.length ≤ limit = omega (arith, here, tiles-le (from + p.length) ps limit others) in
    (record { within = omega (arith, within, le); begins = own-begins octets front limit p p.kind same within le reads.0 }, front-own octets front limit (from + p.length) ps same le others reads.1)

-- A kind without a tag head begins with any octets.
abbrev IsHeadless : Piece → Type 0
IsHeadless p = (own : List ℕ) (head : ℕ) → BeginsWith own head p.kind

-- Pieces without tag heads.
headless-own : (octets : List ℕ) (from : ℕ) (ps : List Piece) → Tiles from ps (length octets) → AllByRecursion IsHeadless ps → AllByRecursion (IsPieceOf octets) ps
headless-own octets from [] tiles are = tt
headless-own octets from (p ∷ ps) (here, others) are =
    (record { within = omega (arith, here, tiles-le (from + p.length) ps (length octets) others); begins = are.0 (octets_of octets p) p.head }, headless-own octets (from + p.length) ps others are.1)

-- Those of a refusal.
refusal-headless : (end : ℕ) (r : Refusal) → AllByRecursion IsHeadless (refusal_pieces end r)
refusal-headless end r =
    let next = r.place + min 1 (end - r.place) in
    let rest = min (end - next) (end - next) in
    (λ own head. tt, cond_both (nat_eq rest 0) [] (plain kind.Rest next rest ∷ []) (λ ps. AllByRecursion IsHeadless ps) (λ e. tt) (λ e. (λ own head. tt, tt)))

-- Each piece of octets is one of these octets.
pub explained-own : (octets : List ℕ) (v : Verdict) (ps : List Piece) → IsWithin (length octets) v → Explains octets v ps → AllByRecursion (IsPieceOf octets) ps
explained-own octets (Accepted mark typed) ps within e = front-own octets octets (length octets) 0 ps (λ a h le. refl) (omega arith) e.tiles e.heads
explained-own octets (Refused r) ps within e =
    let end = length octets in
    let tiles : Tiles 0 (e.front ++ refusal_pieces end r) end = subst (λ ps. Tiles 0 ps end) e.all e.tiles in
    let heads : AllByRecursion (λ p. ReadsHead (take r.place octets) p p.kind) (e.front ++ refusal_pieces end r) = subst (λ ps. AllByRecursion (λ p. ReadsHead (take r.place octets) p p.kind) ps) e.all e.heads in
    let first = front-own octets (take r.place octets) r.place 0 e.front (front-same octets r.place) within (tiles-first 0 e.front (arrow end r) (rest_pieces end r) end tiles)
    (all-first (λ (p : Piece). ReadsHead (take r.place octets) p p.kind) e.front (refusal_pieces end r) heads) in
    let second = headless-own octets r.place (refusal_pieces end r) (tiles-second 0 e.front (arrow end r) (rest_pieces end r) end tiles) (refusal-headless end r) in
    subst (λ ps. AllByRecursion (IsPieceOf octets) ps) (sym e.all) (all-append (IsPieceOf octets) e.front (refusal_pieces end r) first second)
