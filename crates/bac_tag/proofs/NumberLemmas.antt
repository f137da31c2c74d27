-- Reading so many octets of a number in a range.
use Rattle.std.proofs.Common.{◌≡◌, ℕ, ◌+◌, ◌<◌, ◌≤◌, List, [], ◌∷◌, ◌++◌, length, take, drop, refl, sym, ap, subst, ◌∙◌, append-nil, length-append, length-take, take-append-drop, arith, min}
use Rattle.std.proofs.lemmas.List.{take-take, take_all, take-append-le}
use Rattle.bac_tag.specs.declared.refusals.Why.{Why}
use Rattle.bac_tag.specs.declared.refusals.Why.TheVariants.{Short}
use Rattle.bac_tag.specs.Octets.{IsOctets}
use Rattle.bac_tag.specs.Laws.Octets.{octets_take, octets_append, octets_back}
use Rattle.bac_tag.specs.Number.{number, NumberIn, BeginsNumber, MissesAt}
use Rattle.bac_tag.specs.Spelling.{IsViable, IsRefusal, Takes}

-- ---- what begins a number is viable

viable_begins : (width low high : ℕ) (front : List ℕ) → IsViable (NumberIn width low high) front → BeginsNumber low high front width
viable_begins width low high front v = record {
  rest = v.rest;
  are_octets = octets_back front v.rest v.spelled.are_octets;
  sized = v.spelled.sized;
  least = omega (arith, v.spelled.is, v.spelled.least);
  most = omega (arith, v.spelled.is, v.spelled.most);
}

begins_viable : (width low high : ℕ) (front : List ℕ) → IsOctets front → BeginsNumber low high front width → IsViable (NumberIn width low high) front
begins_viable width low high front p b = record {
  value = number (front ++ b.rest);
  rest = b.rest;
  spelled = record { are_octets = octets_append front b.rest p b.are_octets; sized = b.sized; is = refl; least = b.least; most = b.most };
}

-- a front of a spelling is viable
front_viable : (width low high v k : ℕ) (xs b rest : List ℕ) → xs ≡ b ++ rest → NumberIn width low high v b → k ≤ width → IsViable (NumberIn width low high) (take k xs)
front_viable width low high v k xs b rest e s le =
    let same : take k xs ≡ take k b = ap (take k) e ∙ take-append-le k b rest (omega (arith, s.sized)) in
    record { value = v; rest = drop k b; spelled = subst (λ (t : List ℕ). NumberIn width low high v t) (sym (ap (λ (t : List ℕ). t ++ drop k b) same ∙ take-append-drop k b)) s }

-- ---- the reader's exits

pub refused_number : (width low high n place : ℕ) (xs : List ℕ) (why : Why) → IsOctets xs → n ≡ min (length xs) width → (why ≡ Short → ⊥) → MissesAt low high (take n xs) width place
    → IsRefusal (NumberIn width low high) xs (record { place = place; why = why })
refused_number width low high n place xs why p is w m =
    let inside : place < n = omega (arith, m.0, length-take n xs) in
    let ended : IsViable (NumberIn width low high) (take (place + 1) xs) → ⊥ =
    λ v. m.2 (subst (λ (t : List ℕ). BeginsNumber low high t width) (sym (take-take (place + 1) n xs (omega arith))) (viable_begins width low high (take (place + 1) xs) v)) in
    record {
      none = λ v b rest e s. ended (front_viable width low high v (place + 1) xs b rest e s (omega (arith, is)));
      furthest = record {
        within = omega (arith, is);
        begins = begins_viable width low high (take place xs) (octets_take place xs p) (subst (λ (t : List ℕ). BeginsNumber low high t width) (take-take place n xs (omega arith)) m.1);
        ends = λ lt v. ended v;
      };
      short = (λ e. absurd (w e), λ e. absurd (omega (arith, is)));
    }

pub short_number : (width low high n : ℕ) (xs : List ℕ) → IsOctets xs → n ≡ min (length xs) width → length (take n xs) < width → BeginsNumber low high (take n xs) width
    → IsRefusal (NumberIn width low high) xs (record { place = length (take n xs); why = Short })
short_number width low high n xs p is lt b =
    let whole : take n xs ≡ xs = take_all n xs (omega (arith, is, length-take n xs)) in
    let all : length (take n xs) ≡ length xs = ap length whole in
    record {
      none = λ v c rest e s. absurd (omega (arith, s.sized, ap length e, length-append c rest));
      furthest = record {
        within = omega arith;
        begins = subst (λ (k : ℕ). IsViable (NumberIn width low high) (take k xs)) (sym all)
            (begins_viable width low high (take (length xs) xs) (octets_take (length xs) xs p) (subst (λ (t : List ℕ). BeginsNumber low high t width) (whole ∙ sym (take_all (length xs) xs (omega arith))) b));
        ends = λ below v. absurd (omega arith);
      };
      short = (λ e. all, λ e. refl);
    }

nothing_more : (a b : List ℕ) → length (a ++ b) ≡ length a → a ++ b ≡ a
nothing_more a [] e = append-nil a
nothing_more a (x ∷ xs) e = absurd (omega (arith, length-append a (x ∷ xs)))

pub found_number : (width low high n value : ℕ) (xs : List ℕ) → IsOctets xs → n ≡ min (length xs) width → width ≤ length (take n xs) → BeginsNumber low high (take n xs) width
    → value ≡ number (take n xs) → Takes (NumberIn width low high) xs (value, width)
found_number width low high n value xs p is le b e =
    let same : n ≡ width = omega (arith, is, length-take n xs) in
    let sized : length (take n xs) ≡ width = omega (arith, is, length-take n xs) in
    let alone : take n xs ++ b.rest ≡ take n xs = nothing_more (take n xs) b.rest (omega (arith, b.sized)) in
    let low_is : low ≤ number (take n xs) = rw (sym (ap number alone)) b.least in
    let high_is : number (take n xs) ≤ high = rw (sym (ap number alone)) b.most in
    record {
      within = omega (arith, is, length-take n xs);
      spelled = subst (λ (k : ℕ). NumberIn width low high value (take k xs)) same
          (record { are_octets = octets_take n xs p; sized = sized; is = sym e; least = omega arith; most = omega arith });
    }
