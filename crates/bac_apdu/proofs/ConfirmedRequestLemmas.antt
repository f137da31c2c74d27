-- Confirmed-Request in one piece.
use Rattle.std.specs.Prelude.{◌≡◌, ℕ, ◌+◌, ◌*◌, ◌/◌, ◌%◌, ◌^◌, ◌<◌, ◌≤◌, Some, None, true, false, List, [], ◌∷◌, ◌++◌, length, slice_index, Option, refl}
use Rattle.std.proofs.Common.{sym, ◌∙◌, ap, subst, arith}
use Rattle.bac_tag.specs.declared.refusals.Refusal.{Refusal}
use Rattle.bac_tag.specs.declared.refusals.Why.TheVariants.{Short}
use Rattle.bac_tag.specs.Spelling.{IsViable, HasMark}
use Rattle.bac_service.specs.declared.kind.Kind.TheVariants.{Confirmed}
use Rattle.bac_service.specs.Services.{ServiceValue, opaque, SpellsService}
use Rattle.bac_apdu.specs.declared.confirmed_request.RequestHead.{RequestHead}
use Rattle.bac_tag.specs.HeadOctets.{typed, bit_of, least_part, least_head}
use Rattle.bac_apdu.specs.ConfirmedRequest.{confirmed_request_head}
use Rattle.bac_apdu.specs.FirstOctet.{HasType, HasSeg, HasGoodWindow}
use Rattle.bac_apdu.specs.Apdus.{ApduValue, confirmed_request, SpellsApdu}
use Rattle.bac_apdu.specs.Decoded.{IsRefused, IsServiceBehind, IsRefusedBehind}
use Rattle.bac_tag.proofs.FilledLemmas.{filled}
use Rattle.bac_apdu.proofs.TypeLemmas.{named}
use Rattle.bac_apdu.proofs.ReasonLemmas.{flag_at, flag_is, windowless, ends_within}
use Rattle.bac_apdu.proofs.CarryingLemmas.{own_choice, at_choice, nothing_carried, carrying_refused, carrying_found}

-- the head that these octets say
abbrev pub head_at : List ℕ → RequestHead
head_at b = record { invoke = slice_index b 2; sa = flag_at 1 (slice_index b 0); segs = slice_index b 1 / 16 % 8; resp = slice_index b 1 % 16 }

-- the octets of a list say this head
pub record SaysHead (b : List ℕ) (head : RequestHead) : Type 0 where
  pub sa : slice_index b 0 / 2 ^ 1 % 2 ≡ bit_of head.sa
  pub segs : slice_index b 1 / 16 % 8 ≡ head.segs
  pub resp : slice_index b 1 % 16 ≡ head.resp
  pub invoke : slice_index b 2 ≡ head.invoke

pub says_head : (b : List ℕ) → SaysHead b (head_at b)
says_head b = record { sa = flag_is 1 (slice_index b 0); segs = refl; resp = refl; invoke = refl }

-- the least octets of a head that these octets say
pub least_at : (b : List ℕ) (head : RequestHead) (least : List ℕ) → SaysHead b head → least ≡ least_head (confirmed_request_head head (slice_index b 3))
    → least ≡ least_part (typed 0 (Some false) None (Some head.sa) None) ∷ (16 * head.segs + head.resp) ∷ slice_index b 2 ∷ slice_index b 3 ∷ []
least_at b head least says e = e ∙ ap (λ (z : ℕ). least_part (typed 0 (Some false) None (Some head.sa) None) ∷ (16 * head.segs + head.resp) ∷ z ∷ slice_index b 3 ∷ []) (sym says.invoke)

module _ (b : List ℕ) (small : (k : ℕ) → slice_index b k < 256) (h : HasType 0 b) (g : HasSeg 0 b) where
  pub confirmed_request_begun : IsViable SpellsApdu (filled 3 b)
  confirmed_request_begun = record {
    value = confirmed_request (head_at b) (opaque Confirmed 0 []);
    rest = 0 ∷ [];
    spelled = ((h.1, g, tt, flag_is 1 (slice_index b 0), tt), ((small 1, refl, refl), ((refl, small 2), ((refl, omega arith), nothing_carried Confirmed 0 (omega arith) refl))));
  }

  pub confirmed_request_every : (head : RequestHead) → SaysHead b head → (s : ServiceValue) (d : List ℕ) → SpellsService true 32 Confirmed (slice_index b 3) s d → SpellsApdu (confirmed_request head s) (filled 4 b ++ d)
  confirmed_request_every head a s d p = ((h.1, g, tt, a.sa, tt), ((small 1, a.segs, a.resp), ((a.invoke, small 2), ((sym p.choice_is, small 3), own_choice Confirmed (slice_index b 3) s d p))))

  pub confirmed_request_only : (x : ApduValue) (d : List ℕ) → SpellsApdu x (filled 4 b ++ d) → (s : ServiceValue) × SpellsService true 32 Confirmed (slice_index b 3) s d
  confirmed_request_only x d p =
      let n = named 0 0 x (slice_index b 0) (slice_index b 1 ∷ slice_index b 2 ∷ slice_index b 3 ∷ d) h.1 g p in
      let t = subst (λ (y : ApduValue). SpellsApdu y (filled 4 b ++ d)) n.2 p in
      (n.1, at_choice Confirmed (slice_index b 3) n.1 d t.1.1.1.0.0 t.1.1.1.1)

  good : HasGoodWindow b
  good = windowless 0 0 b h g refl

  pub confirmed_request_short : length b < 4 → IsRefused b (record { place = length b; why = Short })
  confirmed_request_short lt = ends_within 0 0 3 b h g (omega arith) good (omega (arith, lt)) lt confirmed_request_begun

  pub confirmed_request_refused : (m n : ℕ) (r : Refusal) → 4 ≤ length b → IsRefusedBehind Confirmed (slice_index b 3) b (m ∷ n ∷ slice_index b 2 ∷ slice_index b 3 ∷ []) r → IsRefused b r
  confirmed_request_refused m n r long e =
      carrying_refused Confirmed (slice_index b 3) b (m ∷ n ∷ slice_index b 2 ∷ slice_index b 3 ∷ []) long 0 0 r (λ s d p. (confirmed_request (head_at b) s, confirmed_request_every (head_at b) (says_head b) s d p)) confirmed_request_only h g (omega arith) good refl e

  pub confirmed_request_found : (head : RequestHead) (m n : ℕ) → SaysHead b head → m ≡ least_part (typed 0 (Some false) None (Some head.sa) None) → n ≡ 16 * head.segs + head.resp → (service : ServiceValue) (mark : Option ℕ) → 4 ≤ length b
      → IsServiceBehind Confirmed (slice_index b 3) b (m ∷ n ∷ slice_index b 2 ∷ slice_index b 3 ∷ []) service mark → SpellsApdu (confirmed_request head service) b × HasMark (SpellsApdu (confirmed_request head service)) b mark
  confirmed_request_found head m n a u v service mark long f =
      carrying_found Confirmed (slice_index b 3) b (m ∷ n ∷ slice_index b 2 ∷ slice_index b 3 ∷ []) long (confirmed_request head service) service mark (confirmed_request_every head a service) (λ d m k. k)
      (λ e. ap (λ (z : ℕ). z ∷ n ∷ slice_index b 2 ∷ slice_index b 3 ∷ []) u ∙ ap (λ (z : ℕ). least_part (typed 0 (Some false) None (Some head.sa) None) ∷ z ∷ slice_index b 2 ∷ slice_index b 3 ∷ []) v
      ∙ ap (λ (z : ℕ). least_part (typed 0 (Some false) None (Some head.sa) None) ∷ (16 * head.segs + head.resp) ∷ z ∷ slice_index b 3 ∷ []) a.invoke
      ∙ ap (λ (z : ℕ). least_part (typed 0 (Some false) None (Some head.sa) None) ∷ (16 * head.segs + head.resp) ∷ head.invoke ∷ z ∷ []) (sym e)) f
