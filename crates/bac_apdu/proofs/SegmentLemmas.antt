-- Segments.
use Rattle.std.specs.Prelude.{◌≡◌, ℕ, ◌+◌, ◌*◌, ◌/◌, ◌%◌, ◌^◌, ◌<◌, ◌≤◌, Bool, true, Some, None, Option, List, [], ◌∷◌, ◌++◌, length, take, drop, slice_index, refl}
use Rattle.std.proofs.Common.{sym, ◌∙◌, ap, subst, arith}
use Rattle.bac_tag.specs.declared.refusals.Why.TheVariants.{Short, Window, OutOfMemory}
use Rattle.bac_tag.specs.Octets.{IsOctets, IsMark}
use Rattle.bac_tag.specs.Laws.Octets.{octets_at, octets_drop}
use Rattle.bac_tag.specs.Spelling.{IsViable, HasMark}
use Rattle.bac_apdu.specs.declared.confirmed_request.RequestHead.{RequestHead}
use Rattle.bac_apdu.specs.declared.segment.SegHead.{SegHead}
use Rattle.bac_apdu.specs.declared.segment.SegHead.TheVariants.{Request, Ack}
use Rattle.bac_tag.specs.HeadOctets.{typed, bit_of, least_part, IsWindow}
use Rattle.bac_apdu.specs.FirstOctet.{HasType, HasSeg, HasGoodWindow}
use Rattle.bac_apdu.specs.Apdus.{ApduValue, segment, SpellsApdu}
use Rattle.bac_apdu.specs.Decoded.{IsRefused}
use Rattle.bac_tag.proofs.BehindLemmas.{viable_shorter}
use Rattle.bac_tag.proofs.FilledLemmas.{filled}
use Rattle.bac_apdu.proofs.TypeLemmas.{named}
use Rattle.bac_apdu.proofs.ReasonLemmas.{flag_at, flag_is, windowed, ends_within, memory_refused}
use Rattle.bac_apdu.proofs.WindowLemmas.{window_refused}
use Rattle.bac_apdu.proofs.EndingLemmas.{piece_found}
use Rattle.bac_apdu.proofs.ConfirmedRequestLemmas.{head_at, SaysHead}

-- a window and a piece under other names
moved : (head : SegHead) (seq : ℕ) (more : Bool) (choice : ℕ) (b : List ℕ) (mark : Option ℕ) {size z : ℕ} {piece q : List ℕ} → size ≡ z → piece ≡ q → SpellsApdu (segment head seq z more choice q) b × HasMark (SpellsApdu (segment head seq z more choice q)) b mark
    → SpellsApdu (segment head seq size more choice piece) b × HasMark (SpellsApdu (segment head seq size more choice piece)) b mark
moved head seq more choice b mark {size} {z} {piece} {q} e f p =
    subst (λ (t : List ℕ). SpellsApdu (segment head seq size more choice t) b × HasMark (SpellsApdu (segment head seq size more choice t)) b mark) (sym f)
    (subst (λ (n : ℕ). SpellsApdu (segment head seq n more choice q) b × HasMark (SpellsApdu (segment head seq n more choice q)) b mark) (sym e) p)

module _ (b : List ℕ) (small : (k : ℕ) → slice_index b k < 256) where
  module _ (h : HasType 0 b) (g : HasSeg 1 b) where
    pub request_segment_spelled : (head : RequestHead) (more : Bool) (piece : List ℕ) → SaysHead b head → slice_index b 0 / 2 ^ 2 % 2 ≡ bit_of more → IsWindow (slice_index b 4) → IsOctets piece
        → SpellsApdu (segment (Request head) (slice_index b 3) (slice_index b 4) more (slice_index b 5) piece) (filled 6 b ++ piece)
    request_segment_spelled head more piece a f w p = ((h.1, g, f, a.sa, tt), ((small 1, a.segs, a.resp), ((a.invoke, small 2), ((refl, small 3), ((refl, w), ((refl, small 5), (refl, p)))))))

    -- with a window, and whatever goes on in front of it
    request_segment_goes : (w : ℕ) → IsWindow w → IsViable SpellsApdu (filled 4 b ++ w ∷ [])
    request_segment_goes w good = record {
      value = segment (Request (head_at b)) (slice_index b 3) w (flag_at 2 (slice_index b 0)) 0 [];
      rest = 0 ∷ [];
      spelled = ((h.1, g, flag_is 2 (slice_index b 0), flag_is 1 (slice_index b 0), tt), ((small 1, refl, refl), ((refl, small 2), ((refl, small 3), ((refl, good), ((refl, omega arith), (refl, tt)))))));
    }

    pub request_segment_begun : IsViable SpellsApdu (filled 4 b)
    request_segment_begun = viable_shorter SpellsApdu (filled 4 b) (1 ∷ []) (request_segment_goes 1 (omega arith, omega arith))

    pub request_segment_windowed : IsWindow (slice_index b 4) → IsViable SpellsApdu (filled 5 b)
    request_segment_windowed good = request_segment_goes (slice_index b 4) good

    pub request_segment_only : (x : ApduValue) (w : ℕ) (d : List ℕ) → SpellsApdu x (filled 4 b ++ w ∷ d) → IsWindow w
    request_segment_only x w d p =
        let n = named 0 1 x (slice_index b 0) (slice_index b 1 ∷ slice_index b 2 ∷ slice_index b 3 ∷ w ∷ d) h.1 g p in
        let s = subst (λ (y : ApduValue). SpellsApdu y (filled 4 b ++ w ∷ d)) n.6 p in
        subst IsWindow (sym s.1.1.1.1.0.0) s.1.1.1.1.0.1

    request_good : (4 < length b → IsWindow (slice_index b 4)) → HasGoodWindow b
    request_good w = windowed 0 1 4 b h g refl w

    pub request_segment_short : length b < 5 → IsRefused b (record { place = length b; why = Short })
    request_segment_short lt = ends_within 0 1 4 b h g (omega arith) (request_good (λ k. absurd (omega (arith, k, lt)))) (omega (arith, lt)) (omega (arith, lt)) request_segment_begun

    pub request_segment_shorter : IsWindow (slice_index b 4) → length b < 6 → IsRefused b (record { place = length b; why = Short })
    request_segment_shorter w lt = ends_within 0 1 5 b h g (omega arith) (request_good (λ _. w)) (omega (arith, lt)) lt (request_segment_windowed w)

    pub request_segment_window : 5 ≤ length b → (IsWindow (slice_index b 4) → ⊥) → IsRefused b (record { place = 4; why = Window })
    request_segment_window long bad = window_refused 0 1 3 b h g (omega arith) refl (omega arith) long bad request_segment_begun request_segment_only

    pub request_segment_memory : IsWindow (slice_index b 4) → IsRefused b (record { place = 0; why = OutOfMemory })
    request_segment_memory w = memory_refused 0 1 b h g (omega arith) (request_good (λ _. w)) refl

    pub request_segment_found : (head : RequestHead) (more : Bool) (size m n : ℕ) (piece : List ℕ) (mark : Option ℕ) → SaysHead b head → slice_index b 0 / 2 ^ 2 % 2 ≡ bit_of more → IsWindow (slice_index b 4) → size ≡ slice_index b 4 → 6 ≤ length b → piece ≡ drop 6 b
        → m ≡ least_part (typed 0 (Some true) (Some more) (Some head.sa) None) → n ≡ 16 * head.segs + head.resp → IsMark (take 6 b) (m ∷ n ∷ slice_index b 2 ∷ slice_index b 3 ∷ slice_index b 4 ∷ slice_index b 5 ∷ []) mark
        → SpellsApdu (segment (Request head) (slice_index b 3) size more (slice_index b 5) piece) b × HasMark (SpellsApdu (segment (Request head) (slice_index b 3) size more (slice_index b 5) piece)) b mark
    request_segment_found head more size m n piece mark a f w same long is u v d =
        moved (Request head) (slice_index b 3) more (slice_index b 5) b mark same is (piece_found (segment (Request head) (slice_index b 3) (slice_index b 4) more (slice_index b 5) (drop 6 b)) b 6 mark long (request_segment_spelled head more (drop 6 b) a f w (octets_drop 6 b (octets_at b small))) (refl, octets_drop 6 b (octets_at b small)) (λ c k. k.0)
        (subst (λ (l : List ℕ). IsMark (take 6 b) l mark) (ap (λ (z : ℕ). z ∷ n ∷ slice_index b 2 ∷ slice_index b 3 ∷ slice_index b 4 ∷ slice_index b 5 ∷ []) u
        ∙ ap (λ (z : ℕ). least_part (typed 0 (Some true) (Some more) (Some head.sa) None) ∷ z ∷ slice_index b 2 ∷ slice_index b 3 ∷ slice_index b 4 ∷ slice_index b 5 ∷ []) v
        ∙ ap (λ (z : ℕ). least_part (typed 0 (Some true) (Some more) (Some head.sa) None) ∷ (16 * head.segs + head.resp) ∷ z ∷ slice_index b 3 ∷ slice_index b 4 ∷ slice_index b 5 ∷ []) a.invoke) d))

  module _ (h : HasType 3 b) (g : HasSeg 1 b) where
    pub ack_segment_spelled : (more : Bool) (piece : List ℕ) → slice_index b 0 / 2 ^ 2 % 2 ≡ bit_of more → IsWindow (slice_index b 3) → IsOctets piece
        → SpellsApdu (segment (Ack (slice_index b 1)) (slice_index b 2) (slice_index b 3) more (slice_index b 4) piece) (filled 5 b ++ piece)
    ack_segment_spelled more piece f w p = ((h.1, g, f, tt, tt), ((refl, small 1), ((refl, small 2), ((refl, w), ((refl, small 4), (refl, p))))))

    ack_segment_goes : (w : ℕ) → IsWindow w → IsViable SpellsApdu (filled 3 b ++ w ∷ [])
    ack_segment_goes w good = record {
      value = segment (Ack (slice_index b 1)) (slice_index b 2) w (flag_at 2 (slice_index b 0)) 0 [];
      rest = 0 ∷ [];
      spelled = ((h.1, g, flag_is 2 (slice_index b 0), tt, tt), ((refl, small 1), ((refl, small 2), ((refl, good), ((refl, omega arith), (refl, tt))))));
    }

    pub ack_segment_begun : IsViable SpellsApdu (filled 3 b)
    ack_segment_begun = viable_shorter SpellsApdu (filled 3 b) (1 ∷ []) (ack_segment_goes 1 (omega arith, omega arith))

    pub ack_segment_windowed : IsWindow (slice_index b 3) → IsViable SpellsApdu (filled 4 b)
    ack_segment_windowed good = ack_segment_goes (slice_index b 3) good

    pub ack_segment_only : (x : ApduValue) (w : ℕ) (d : List ℕ) → SpellsApdu x (filled 3 b ++ w ∷ d) → IsWindow w
    ack_segment_only x w d p =
        let n = named 3 1 x (slice_index b 0) (slice_index b 1 ∷ slice_index b 2 ∷ w ∷ d) h.1 g p in
        let s = subst (λ (y : ApduValue). SpellsApdu y (filled 3 b ++ w ∷ d)) n.6 p in
        subst IsWindow (sym s.1.1.1.0.0) s.1.1.1.0.1

    ack_good : (3 < length b → IsWindow (slice_index b 3)) → HasGoodWindow b
    ack_good w = windowed 3 1 3 b h g refl w

    pub ack_segment_short : length b < 4 → IsRefused b (record { place = length b; why = Short })
    ack_segment_short lt = ends_within 3 1 3 b h g (omega arith) (ack_good (λ k. absurd (omega (arith, k, lt)))) (omega (arith, lt)) (omega (arith, lt)) ack_segment_begun

    pub ack_segment_shorter : IsWindow (slice_index b 3) → length b < 5 → IsRefused b (record { place = length b; why = Short })
    ack_segment_shorter w lt = ends_within 3 1 4 b h g (omega arith) (ack_good (λ _. w)) (omega (arith, lt)) lt (ack_segment_windowed w)

    pub ack_segment_window : 4 ≤ length b → (IsWindow (slice_index b 3) → ⊥) → IsRefused b (record { place = 3; why = Window })
    ack_segment_window long bad = window_refused 3 1 2 b h g (omega arith) refl (omega arith) long bad ack_segment_begun ack_segment_only

    pub ack_segment_memory : IsWindow (slice_index b 3) → IsRefused b (record { place = 0; why = OutOfMemory })
    ack_segment_memory w = memory_refused 3 1 b h g (omega arith) (ack_good (λ _. w)) refl

    pub ack_segment_found : (more : Bool) (size m : ℕ) (piece : List ℕ) (mark : Option ℕ) → slice_index b 0 / 2 ^ 2 % 2 ≡ bit_of more → IsWindow (slice_index b 3) → size ≡ slice_index b 3 → 5 ≤ length b → piece ≡ drop 5 b
        → m ≡ least_part (typed 3 (Some true) (Some more) None None) → IsMark (take 5 b) (m ∷ slice_index b 1 ∷ slice_index b 2 ∷ slice_index b 3 ∷ slice_index b 4 ∷ []) mark
        → SpellsApdu (segment (Ack (slice_index b 1)) (slice_index b 2) size more (slice_index b 4) piece) b × HasMark (SpellsApdu (segment (Ack (slice_index b 1)) (slice_index b 2) size more (slice_index b 4) piece)) b mark
    ack_segment_found more size m piece mark f w same long is u d =
        moved (Ack (slice_index b 1)) (slice_index b 2) more (slice_index b 4) b mark same is (piece_found (segment (Ack (slice_index b 1)) (slice_index b 2) (slice_index b 3) more (slice_index b 4) (drop 5 b)) b 5 mark long (ack_segment_spelled more (drop 5 b) f w (octets_drop 5 b (octets_at b small))) (refl, octets_drop 5 b (octets_at b small)) (λ c k. k.0)
        (subst (λ (l : List ℕ). IsMark (take 5 b) l mark) (ap (λ (z : ℕ). z ∷ slice_index b 1 ∷ slice_index b 2 ∷ slice_index b 3 ∷ slice_index b 4 ∷ []) u) d))
