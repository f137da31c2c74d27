-- What stands next, read.
use Rattle.std.proofs.Common.{◌≡◌, ℕ, ◌+◌, ◌<◌, ◌≤◌, List, ◌++◌, length, take, drop, sym, ◌∙◌, ap, subst, arith, length-take, take-append-drop}
use Rattle.std.proofs.lemmas.List.{take-take, take-append-le}
use Rattle.bac_tag.specs.declared.refusals.Why.TheVariants.{Short, Content}
use Rattle.bac_tag.specs.Spelling.{IsViable, IsRefusal}
use Rattle.bac_value.specs.Primitives.{IsBegun, IsHopelessAt, OfSize}
use Rattle.bac_value.specs.PrimContents.{ContentsOf}

-- ---- contents of so many octets

begun_viable : (number size : ℕ) (front : List ℕ) → IsBegun (ContentsOf number) front size → IsViable (OfSize (ContentsOf number) size) front
begun_viable number size front h = record { value = h.value; rest = h.rest; spelled = record { spelled = h.spelled; sized = h.sized } }

viable_begun : (number size : ℕ) (front : List ℕ) → IsViable (OfSize (ContentsOf number) size) front → IsBegun (ContentsOf number) front size
viable_begun number size front h = record { value = h.value; rest = h.rest; spelled = h.spelled.spelled; sized = h.spelled.sized }

-- a front that is hopeless refuses the whole
pub hopeless_refused : (number size n place : ℕ) (octets : List ℕ) → n ≤ size → n ≤ length octets → IsHopelessAt (ContentsOf number) (take n octets) size place
    → IsRefusal (OfSize (ContentsOf number) size) octets (record { place = place; why = Content })
hopeless_refused number size n place octets within room h =
    let inside : place < n = omega (arith, h.0, length-take n octets) in
    let before : take place (take n octets) ≡ take place octets = take-take place n octets (omega arith) in
    let past : take (place + 1) (take n octets) ≡ take (place + 1) octets = take-take (place + 1) n octets (omega arith) in
    let ended : IsBegun (ContentsOf number) (take (place + 1) octets) size → ⊥ = λ begun. h.2 (subst (λ (l : List ℕ). IsBegun (ContentsOf number) l size) (sym past) begun) in
    record {
      none = λ prim b rest e spelled.
          let long : length b ≡ size = spelled.sized in
          let front : take (place + 1) octets ≡ take (place + 1) b = ap (take (place + 1)) e ∙ take-append-le (place + 1) b rest (omega (arith, long)) in
          let whole : take (place + 1) b ++ drop (place + 1) b ≡ b = take-append-drop (place + 1) b in
          ended (subst (λ (l : List ℕ). IsBegun (ContentsOf number) l size) (sym front)
          (record { value = prim; rest = drop (place + 1) b; spelled = subst (ContentsOf number prim) (sym whole) spelled.spelled; sized = ap length whole ∙ long }));
      furthest = record {
        within = omega arith;
        begins = begun_viable number size (take place octets) (subst (λ (l : List ℕ). IsBegun (ContentsOf number) l size) before h.1);
        ends = λ lt v. ended (viable_begun number size (take (place + 1) octets) v);
      };
      short = (λ e. absurd (let i : Content ≡ Short = e in cc), λ e. absurd (omega (arith, e)));
    }
