-- How a message is cut (clause 5.2).
use Rattle.std.specs.Prelude.{◌≡◌, ◌<◌, ◌≤◌, ◌+◌, ◌*◌, ◌⊎◌, ◌==◌, ◌||◌, nat_lt, if◌then◌else◌, ℕ, Bool, true, false, Option, Some, None, List, [], ◌∷◌, length}
use Rattle.std.specs.List.{flat_map}
use Rattle.bac_segment.specs.declared.cutting.CutPlan.{CutPlan}
use Rattle.bac_segment.specs.declared.cutting.CutFault.{CutFault}
use Rattle.bac_segment.specs.declared.cutting.CutFault.TheVariants.{Size, Window, TooLong, TooMany}
use Rattle.bac_segment.specs.Deliveries.{Delivery}

-- The pieces joined.
abbrev pub all_of : List (List ℕ) → List ℕ
all_of pieces = flat_map (λ piece. piece) pieces

-- Each piece has n octets but the last, which has 1 to n. There is at least one piece.
abbrev pub AreEven : ℕ → List (List ℕ) → Type 0
AreEven n [] = ⊥
AreEven n (p ∷ []) = (0 < length p) × (length p ≤ n)
AreEven n (p ∷ q ∷ ps) = (length p ≡ n) × AreEven n (q ∷ ps)

-- These are the pieces of a message: they join to its octets, and each has n octets but the last, which has 1 to n.
-- An empty message has one empty piece.
abbrev pub ArePieces : List ℕ → ℕ → List (List ℕ) → Type 0
ArePieces s n ps = (all_of ps ≡ s) × ((ps ≡ [] ∷ []) ⊎ AreEven n ps)

-- True if others follow a piece, where these are the pieces after it.
abbrev pub are_more : List (List ℕ) → Bool
are_more [] = false
are_more (p ∷ ps) = true

-- One segment for each of the pieces, numbered from q, with the head, the window and the choice of the plan. Each
-- says whether others follow.
abbrev pub segments_from : CutPlan → ℕ → List (List ℕ) → List Delivery
segments_from plan q [] = []
segments_from plan q (p ∷ ps) = record { head = plan.head; window = plan.window; choice = plan.choice; seq = q; more = are_more ps; piece = p } ∷ segments_from plan (q + 1) ps

-- These are the segments of a message that is cut by a plan. There is one for each of its pieces, numbered from 0,
-- with the head, the window and the choice of the plan. Each says whether others follow.
abbrev pub IsCutOf : CutPlan → List ℕ → List Delivery → Type 0
IsCutOf plan s segments = (ps : List (List ℕ)) × ArePieces s plan.size ps × (segments ≡ segments_from plan 0 ps)

-- Why a message is not cut, apart from refused memory, or none if nothing else prevents it. It is the first of these
-- that applies: Size (pieces of 0 octets), Window (not 1 to 127), TooLong (more than 65,535 octets), TooMany (more
-- than 256 pieces). There are more than 256 pieces exactly where the message has more than 256 times as many octets
-- as a piece.
abbrev pub cut_fault : CutPlan → List ℕ → Option CutFault
cut_fault plan s =
    if plan.size == 0 then Some Size else
    if plan.window == 0 || nat_lt 127 plan.window then Some Window else
    if nat_lt 65535 (length s) then Some TooLong else
    if nat_lt (256 * plan.size) (length s) then Some TooMany else
    None
