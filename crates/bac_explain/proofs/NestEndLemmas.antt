-- Lemmas on octets that nest: there is one way to read them.
use Rattle.std.proofs.Common.{◌≡◌, ◌≤◌, ◌<◌, ℕ, ◌+◌, ◌-◌, min, false, List, [], ◌∷◌, ◌++◌, length, take, drop, refl, ap, arith, subst, sym, ◌∙◌, length-append, length-drop}
use Rattle.std.proofs.lemmas.List.{append_cancel_right, length-take-le, take-append-drop}
use Rattle.std.specs.Prelude.{Bool, IsTrue, ◌↔◌, nat_eq}
use Rattle.std.proofs.lemmas.Bool.{eqb-true, eq-eqb}
use Rattle.bac_tag.specs.declared.heads.TagHead.{TagHead}
use Rattle.bac_tag.specs.declared.heads.TagHead.TheVariants.{Open, Close}
use Rattle.bac_tag.specs.Heads.{Heads}
use Rattle.bac_tag.specs.Laws.Heads.{heads_end}
use Rattle.bac_explain.specs.declared.piece.Piece.{Piece}
use Rattle.bac_explain.specs.declared.piece.Kind.{Kind}
use Rattle.bac_explain.specs.declared.piece.Kind.TheVariants as kind
use Rattle.bac_explain.specs.Elements.{Elements, IsElement, IsOfKind, IsTagged, contents_size, depth_behind}
use Rattle.bac_explain.specs.Nests.{Follows, FollowsPiece, Nested, IsNest}
use Rattle.bac_explain.proofs.NestLemmas.{IsNestTo, piece-depth}

-- From a place on the octets are elements, if these groups are open there, and each group is closed.
pub record IsNestFrom (octets : List ℕ) (place : ℕ) (groups : List ℕ) : Type 0 where
  pub pieces : List Piece
  pub elements : Elements false octets (length groups) place pieces 0 (length octets)
  pub nested : Nested groups pieces []

-- The octets up to a place are elements that leave these groups open. If all octets nest, those from there on do.
pub record IsSearched (octets : List ℕ) (from place : ℕ) (groups : List ℕ) : Type 0 where
  pub so_far : IsNestTo octets from place groups
  pub rest : IsNest octets from → IsNestFrom octets place groups

-- ---- two pieces at one place

-- Two tags at a place are the same one.
same-tag : (octets : List ℕ) (depth place : ℕ) (h g : TagHead) (p q : Piece) → p.place ≡ place → q.place ≡ place → place + p.length ≤ length octets → place + q.length ≤ length octets
    → IsTagged octets depth h p → IsTagged octets depth g q → (h ≡ g) × (p.head ≡ q.head) × (p.length ≡ q.length)
same-tag octets depth place h g p q pp qp pin qin a b =
    let left = drop place octets in
    let size : length left ≡ length octets - place = length-drop place octets in
    let first : Heads h (take p.head left) = subst (λ n. Heads h (take p.head (drop n octets))) pp a.spelled in
    let second : Heads g (take q.head left) = subst (λ n. Heads g (take q.head (drop n octets))) qp b.spelled in
    let both = heads_end h g (take p.head left) (take q.head left) (drop p.head left) (drop q.head left) first second (take-append-drop p.head left ∙ sym (take-append-drop q.head left)) in
    let long : p.head ≡ q.head
    = sym (length-take-le p.head left (omega (arith, size, a.long, pin))) ∙ ap length both.0 ∙ length-take-le q.head left (omega (arith, size, b.long, qin)) in
    let said : contents_size h ≡ contents_size g = ap contents_size both.1 in
    let at : length octets - (p.place + p.head) ≡ length octets - (q.place + q.head) = omega (arith, pp, qp, long) in
    let all : p.length ≡ q.length = a.long ∙ ap (λ n. n + min (contents_size h) (length octets - (p.place + p.head))) long ∙ ap (λ n. q.head + min n (length octets - (p.place + p.head))) said
    ∙ ap (λ n. q.head + min (contents_size g) n) at ∙ sym b.long in
    (both.1, long, all)

-- A piece where another one has a tag has that tag.
tag-of : (octets : List ℕ) (depth place : ℕ) (p q : Piece) (g : TagHead) (k : Kind) → p.place ≡ place → q.place ≡ place → place + p.length ≤ length octets → place + q.length ≤ length octets
    → IsTagged octets depth g q → IsOfKind false octets depth p k → (k ≡ kind.Unjudged g) × (p.head ≡ q.head) × (p.length ≡ q.length)
tag-of octets depth place p q g (kind.Element h) pp qp pin qin tagged is = let e = is.0 in cc
tag-of octets depth place p q g (kind.Unjudged h) pp qp pin qin tagged is =
    let same = same-tag octets depth place h g p q pp qp pin qin is.1 tagged in
    (ap (λ h. kind.Unjudged h) same.0, same.1, same.2)
tag-of octets depth place p q g kind.Octets pp qp pin qin tagged is =
    let at : q.place ≡ p.place = qp ∙ sym pp in
    let left = drop p.place octets in
    absurd (is.none g (take q.head left) (drop q.head left) (sym (take-append-drop q.head left)) (subst (λ n. Heads g (take q.head (drop n octets))) at tagged.spelled))
tag-of octets depth place p q g _ pp qp pin qin tagged is = absurd is

-- The kind of a piece that follows has a tag.
follows-tag : (groups : List ℕ) (q : Piece) (k : Kind) (after : List ℕ) → FollowsPiece groups q k after → (g : TagHead) × (k ≡ kind.Unjudged g)
follows-tag groups q (kind.Unjudged g) after f = (g, refl)
follows-tag groups q _ after f = absurd f

-- The tag of a piece of a kind that has one.
tagged-of : (octets : List ℕ) (depth : ℕ) (q : Piece) (k : Kind) (g : TagHead) → k ≡ kind.Unjudged g → IsOfKind false octets depth q k → IsTagged octets depth g q
tagged-of octets depth q k g e is = let unjudged : IsOfKind false octets depth q (kind.Unjudged g) = subst (λ k. IsOfKind false octets depth q k) e is in unjudged.1

-- There is one way to follow.
follows-once : (groups : List ℕ) (head : TagHead) (a b : List ℕ) → Follows groups head a → Follows groups head b → a ≡ b
follows-once groups (Open n) a b f g = f.1 ∙ sym g.1
follows-once groups (Close n) a b f g = append_cancel_right a b (n ∷ []) (sym f ∙ g)
follows-once groups _ a b f g = f ∙ sym g

piece-once : (groups : List ℕ) (p : Piece) (k : Kind) (a b : List ℕ) → FollowsPiece groups p k a → FollowsPiece groups p k b → a ≡ b
piece-once groups p (kind.Unjudged head) a b f g = follows-once groups head a b f.0 g.0
piece-once groups p _ a b f g = absurd f

-- ---- from one piece to the next

-- Where octets nest from a place on, the piece there follows, and they nest from the next place on.
next-of : (octets : List ℕ) (place : ℕ) (groups : List ℕ) (p : Piece) → IsElement false octets (length groups) place p → place < length octets → (ps : List Piece) → Elements false octets (length groups) place ps 0 (length octets) → Nested groups ps []
    → (after : List ℕ) × FollowsPiece groups p p.kind after × IsNestFrom octets (place + p.length) after
next-of octets place groups p is before [] e n = absurd (omega (arith, e.1, before))
next-of octets place groups p is before (q ∷ qs) e n =
    let mid = n.0 in
    let tag = follows-tag groups q q.kind mid n.1 in
    let tagged = tagged-of octets (length groups) q q.kind tag.0 tag.1 e.0.of_kind in
    let same = tag-of octets (length groups) place p q tag.0 p.kind is.begins e.0.begins is.within e.0.within tagged is.of_kind in
    let there : FollowsPiece groups q (kind.Unjudged tag.0) mid = subst (λ k. FollowsPiece groups q k mid) tag.1 n.1 in
    let here : FollowsPiece groups p (kind.Unjudged tag.0) mid = (there.0, same.2 ∙ there.1 ∙ ap (λ n. n + contents_size tag.0) (sym same.1)) in
    let deep = piece-depth groups q q.kind mid n.1 in (
      mid,
      subst (λ k. FollowsPiece groups p k mid) (sym same.0) here,
      record {
        pieces = qs;
        elements = subst (λ n. Elements false octets n (place + p.length) qs 0 (length octets)) (sym deep)
            (subst (λ n. Elements false octets (depth_behind (length groups) q.kind) (place + n) qs 0 (length octets)) (sym same.2) e.1);
        nested = n.2;
      },
    )

-- The piece at a place where octets nest follows.
pub nest-follows : (octets : List ℕ) (from place : ℕ) (groups : List ℕ) (depth : ℕ) (p : Piece) → IsSearched octets from place groups → depth ≡ length groups → IsElement false octets depth place p → place < length octets → IsNest octets from
    → (after : List ℕ) × FollowsPiece groups p p.kind after × IsNestFrom octets (place + p.length) after
nest-follows octets from place groups depth p so deep found before nest =
    let rest = so.rest nest in
    next-of octets place groups p (subst (λ n. IsElement false octets n place p) deep found) before rest.pieces rest.elements rest.nested

-- The octets nest from the next place on.
pub nest-rest : (octets : List ℕ) (from place : ℕ) (groups : List ℕ) (depth : ℕ) (p : Piece) (after : List ℕ) → IsSearched octets from place groups → depth ≡ length groups → IsElement false octets depth place p → place < length octets
    → FollowsPiece groups p p.kind after → IsNest octets from → IsNestFrom octets (place + p.length) after
nest-rest octets from place groups depth p after so deep found before f nest =
    let next = nest-follows octets from place groups depth p so deep found before nest in
    subst (λ groups. IsNestFrom octets (place + p.length) groups) (piece-once groups p p.kind next.0 after next.1 f) next.2

-- At the end of the octets no group is open.
end-of : (octets : List ℕ) (place : ℕ) (groups : List ℕ) (ps : List Piece) → length octets ≤ place → Elements false octets (length groups) place ps 0 (length octets) → Nested groups ps [] → groups ≡ []
end-of octets place groups [] end e n = sym n
end-of octets place groups (q ∷ qs) end e n = absurd (omega (arith, e.0.some, e.0.within, end))

pub nest-end : (octets : List ℕ) (from place : ℕ) (groups : List ℕ) → IsSearched octets from place groups → length octets ≤ place → IsNest octets from → groups ≡ []
nest-end octets from place groups so end nest = let rest = so.rest nest in end-of octets place groups rest.pieces end rest.elements rest.nested

-- ---- the last number

-- The last numbers of equal lists are equal.
pub snoc-last : (xs ys : List ℕ) (a b : ℕ) → xs ++ a ∷ [] ≡ ys ++ b ∷ [] → a ≡ b
snoc-last [] [] a b e = cc
snoc-last [] (y ∷ ys) a b e = absurd (omega (arith, ap length e, length-append ys (b ∷ [])))
snoc-last (x ∷ xs) [] a b e = absurd (omega (arith, ap length e, length-append xs (a ∷ [])))
snoc-last (x ∷ xs) (y ∷ ys) a b e = snoc-last xs ys a b (cc)

-- ---- the search

-- Nothing is read yet.
pub searched-none : (octets : List ℕ) (from : ℕ) → IsNestTo octets from from [] → IsSearched octets from from []
searched-none octets from so = record { so_far = so; rest = λ nest. record { pieces = nest.pieces; elements = nest.elements; nested = nest.nested } }

-- A list without numbers is empty.
nil-of : (xs : List ℕ) → length xs ≡ 0 → xs ≡ []
nil-of [] e = refl
nil-of (x ∷ xs) e = absurd (omega (arith, e))

-- At the end the octets nest exactly if no group is open.
pub nest-found : (octets : List ℕ) (from place : ℕ) (groups : List ℕ) → IsSearched octets from place groups → length octets ≤ place → (b : Bool) → b ≡ nat_eq (length groups) 0 → IsTrue b ↔ IsNest octets from
nest-found octets from place groups so end b e =
    let here : place ≡ length octets = omega (arith, so.so_far.within, end) in (
      λ t. let none = nil-of groups (eqb-true (length groups) 0 (sym e ∙ t)) in record {
        pieces = so.so_far.pieces;
        elements = subst (λ n. Elements false octets 0 from so.so_far.pieces n (length octets)) (ap length none) (subst (λ n. Elements false octets 0 from so.so_far.pieces (length groups) n) here so.so_far.elements);
        nested = subst (λ groups. Nested [] so.so_far.pieces groups) none so.so_far.nested;
      },
      λ nest. e ∙ eq-eqb (length groups) 0 (ap length (nest-end octets from place groups so end nest)),
    )
