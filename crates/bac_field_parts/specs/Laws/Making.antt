-- What fields say, from one of them on.
use Rattle.std.specs.Prelude.{◌≡◌, ℕ, ◌+◌, ◌*◌, ◌-◌, ◌<◌, ◌≤◌, List, [], ◌∷◌, ◌++◌, length, take, drop, Bool, true, false, not, ◌&&◌, IsTrue, Option, None, Some, refl}
use Rattle.std.specs.List.{flat_map}
use Rattle.std.proofs.Common.{sym, ◌∙◌, ap, subst, arith, append_assoc, suc, zero, inl, inr}
use Rattle.std.proofs.Math.Seq.{take-append-add}
use Rattle.std.proofs.lemmas.Bool.{cases_lt, not-true, both_ways}
use Rattle.std.proofs.lemmas.List.{length-drop, take-append-drop, length-take-le, take_rest, append-nil, drop-drop}
use Rattle.std.proofs.lemmas.Grind.{flat_map-append}
use Rattle.bac_tag.specs.Spelling.{Joined, OneOf, AppendsLeast}
use Rattle.bac_tag.specs.Laws.Spelling.{IsLeast-joined}
use Rattle.bac_productions.specs.Productions.{Optional, Items}
use Rattle.bac_productions.specs.Laws.Least.{least_joined, least_nothing, appends_item}
use Rattle.bac_field_parts.specs.declared.field.Field.{Field}
use Rattle.bac_field_parts.specs.Symbols.{Symbol, Language, IsStop, symbols_in, Made, taken_symbols, IfStop, behind, place_of, Lawful, has, disjoint, lead_in}
use Rattle.bac_field_parts.specs.declared.making.Fault.{Fault}
use Rattle.bac_field_parts.specs.declared.making.Fault.TheVariants.{OutOfMemory, Stop as Stopped}
use Rattle.bac_field_parts.specs.Laws.Parts.{pair_said, maybe_said, list_said, Maybe, Listing, Choice, either_said, choice_stop_first, choice_stop_second, pair_stop_second, maybe_stop_present, maybe_stop_absent, list_stop_part, list_stop_then, list_stop_end}

pub symbols_length : (octets : List ℕ) (fields : List Field) → length (symbols_in octets fields) ≡ 3 * length fields + 1
symbols_length octets [] = refl
symbols_length octets (f ∷ fs) = omega (arith, symbols_length octets fs)

pub symbols_after : (octets : List ℕ) (fields : List Field) (n : ℕ) → n ≤ length fields → drop (3 * n) (symbols_in octets fields) ≡ symbols_in octets (drop n fields)
symbols_after octets fields zero le = refl
symbols_after octets [] (suc n) le = absurd (omega (arith, le))
symbols_after octets (f ∷ fs) (suc n) le = let e : 3 * suc n ≡ suc (suc (suc (3 * n))) = omega arith in rw e (symbols_after octets fs n (omega (arith, le)))

module _ {V W : Type 0} (f : V → List Symbol) (g : W → List Symbol) (S : V → List ℕ → Type 0) (T : W → List ℕ → Type 0) where
  pub made_says : (es : List Symbol) (n : ℕ) (old new : List ℕ) → Made f S es n old new → Language f S tt (take n es)
  made_says es n old new m = (m.value, record { octets = m.appended.more; spelled = m.appended.is_least.member; is_said = m.is_said })

  unfoldable pub made_pair : (es : List Symbol) (m n : ℕ) (old mid new : List ℕ) → Made f S es m old mid → Made g T (drop m es) n mid new → Made (pair_said f g S T) (Joined S T) es (m + n) old new
  made_pair es m n old mid new a b = record {
    value = (a.value, b.value);
    within = omega (arith, a.within, b.within, length-drop m es);
    is_said = whole ∙ ap (λ (l : List Symbol). l ++ take n (drop m es)) a.is_said ∙ ap (λ (l : List Symbol). f a.value ++ l) b.is_said;
    appended = record {
      more = a.appended.more ++ b.appended.more;
      is_least = IsLeast-joined S (λ (v : V). T) a.value b.value a.appended.more b.appended.more a.appended.is_least b.appended.is_least;
      new_is = b.appended.new_is ∙ ap (λ (l : List ℕ). l ++ b.appended.more) a.appended.new_is ∙ append_assoc old a.appended.more b.appended.more;
    };
  }
    where
      whole : take (m + n) es ≡ take m es ++ take n (drop m es)
      whole =
          let front : length (take m es) ≡ m = length-take-le m es a.within in
          ap (λ (l : List Symbol). take (m + n) l) (sym (take-append-drop m es)) ∙ ap (λ (k : ℕ). take (k + n) (take m es ++ drop m es)) (sym front) ∙ take-append-add (take m es) (drop m es) n

-- both parts end with the fields, or neither does
pub same_end : (e h : Bool) → IsTrue (not (e && not h)) → IsTrue (not (h && not e)) → h ≡ e
same_end true true a b = refl
same_end true false a b = absurd (cc)
same_end false true a b = absurd (cc)
same_end false false a b = refl

-- ---- faults

pub stop_then : (fault : Fault) (P Q : ℕ → Type 0) → ((p : ℕ) → P p → Q p) → IfStop fault P → IfStop fault Q
stop_then OutOfMemory P Q f h = tt
stop_then (Stopped s) P Q f h = f (place_of s) h

pub stop_behind : (fault : Fault) (n : ℕ) (P Q : ℕ → Type 0) → ((p : ℕ) → P p → Q (3 * n + p)) → IfStop fault P → IfStop (behind n fault) Q
stop_behind OutOfMemory n P Q f h = tt
stop_behind (Stopped s) n P Q f h = subst Q (omega arith) (f (place_of s) h)

-- ---- pairs

module _ {V W : Type 0} (f : V → List Symbol) (g : W → List Symbol) (S : V → List ℕ → Type 0) (T : W → List ℕ → Type 0) (octets : List ℕ) (fields : List Field) where
  open_end : (e : Bool) (m : ℕ) (old mid : List ℕ) → IsTrue (not e) → Made f S (symbols_in octets fields) (taken_symbols e m) old mid → Made f S (symbols_in octets fields) (3 * m) old mid
  open_end e m old mid h a = subst (λ (b : Bool). Made f S (symbols_in octets fields) (taken_symbols b m) old mid) (not-true e h) a

  -- behind so many fields that the first part has
  pub made_behind : (e end : Bool) (m n : ℕ) (old mid new : List ℕ) → IsTrue (not e) → m ≤ length fields → Made f S (symbols_in octets fields) (taken_symbols e m) old mid
      → Made g T (symbols_in octets (take (length fields - m) (drop m fields))) (taken_symbols end n) mid new → Made (pair_said f g S T) (Joined S T) (symbols_in octets fields) (taken_symbols end (m + n)) old new
  made_behind e end m n old mid new h within a b =
      subst (λ (k : ℕ). Made (pair_said f g S T) (Joined S T) (symbols_in octets fields) k old new) (number end)
      (made_pair f g S T (symbols_in octets fields) (3 * m) (taken_symbols end n) old mid new (open_end e m old mid h a) (subst (λ (es : List Symbol). Made g T es (taken_symbols end n) mid new) (sym (symbols_after octets fields m within ∙ ap (symbols_in octets) (sym (take_rest fields m)))) b))
    where
      number : (end : Bool) → 3 * m + taken_symbols end n ≡ taken_symbols end (m + n)
      number true = omega arith
      number false = omega arith

  pub stopped_behind : (leads others : List (Option ℕ)) (first : Lawful (Language f S) leads) (second : Lawful (Language g T) others) (e : Bool) (m : ℕ) (old mid : List ℕ) (fault : Fault) → IsTrue (not e) → m ≤ length fields
      → Made f S (symbols_in octets fields) (taken_symbols e m) old mid → IfStop fault (IsStop (Language g T) (symbols_in octets (take (length fields - m) (drop m fields)))) → IfStop (behind m fault) (IsStop (Language (pair_said f g S T) (Joined S T)) (symbols_in octets fields))
  stopped_behind leads others first second e m old mid fault shut within b h =
      let a = open_end e m old mid shut b in
      stop_behind fault m _ _ (λ p stop. pair_stop_second f g S T leads others first second (symbols_in octets fields) (3 * m) p a.within (made_says f g S T (symbols_in octets fields) (3 * m) old mid a)
      (subst (λ (es : List Symbol). IsStop (Language g T) es p) (sym (symbols_after octets fields m within ∙ ap (symbols_in octets) (sym (take_rest fields m)))) stop)) h

  -- ---- optional parts

  pub made_some : (es : List Symbol) (n : ℕ) (old new : List ℕ) → Made (pair_said f g S T) (Joined S T) es n old new → Made (maybe_said f g S T) (Joined (Optional S) T) es n old new
  made_some es n old new m = record { value = (Some m.value.0, m.value.1); within = m.within; is_said = m.is_said; appended = m.appended }

  pub made_none : (es : List Symbol) (n : ℕ) (old new : List ℕ) → Made g T es n old new → Made (maybe_said f g S T) (Joined (Optional S) T) es n old new
  made_none es n old new m = record {
    value = (None, m.value);
    within = m.within;
    is_said = m.is_said;
    appended = record { more = m.appended.more; is_least = least_joined least_nothing m.appended.is_least; new_is = m.appended.new_is };
  }

  pub made_first : (es : List Symbol) (n : ℕ) (old new : List ℕ) → Made f S es n old new → Made (either_said f g S T) (OneOf S T) es n old new
  made_first es n old new m = record { value = inl m.value; within = m.within; is_said = m.is_said; appended = m.appended }

  pub made_second : (es : List Symbol) (n : ℕ) (old new : List ℕ) → Made g T es n old new → Made (either_said f g S T) (OneOf S T) es n old new
  made_second es n old new m = record { value = inr m.value; within = m.within; is_said = m.is_said; appended = m.appended }

  module _ (leads others : List (Option ℕ)) (first : Lawful (Language f S) leads) (second : Lawful (Language g T) others) (d : IsTrue (disjoint leads others)) where
    pub first_stopped : (n : Option ℕ) (p : ℕ) → n ≡ lead_in fields → IsTrue (has leads n) → IsStop (Language f S) (symbols_in octets fields) p → IsStop (Choice f g S T) (symbols_in octets fields) p
    first_stopped n p is h = by_fields fields p (subst (λ (m : Option ℕ). IsTrue (has leads m)) is h)
      where
        by_fields : (fields : List Field) (p : ℕ) → IsTrue (has leads (lead_in fields)) → IsStop (Language f S) (symbols_in octets fields) p → IsStop (Choice f g S T) (symbols_in octets fields) p
        by_fields [] p h stop = choice_stop_first f g S T leads others first second d _ _ p h stop
        by_fields (field ∷ fields) p h stop = choice_stop_first f g S T leads others first second d _ _ p h stop

    pub second_stopped : (n : Option ℕ) (p : ℕ) → n ≡ lead_in fields → (IsTrue (has leads n) → ⊥) → IsStop (Language g T) (symbols_in octets fields) p → IsStop (Choice f g S T) (symbols_in octets fields) p
    second_stopped n p is h = by_fields fields p (subst (λ (m : Option ℕ). IsTrue (has leads m) → ⊥) is h)
      where
        by_fields : (fields : List Field) (p : ℕ) → (IsTrue (has leads (lead_in fields)) → ⊥) → IsStop (Language g T) (symbols_in octets fields) p → IsStop (Choice f g S T) (symbols_in octets fields) p
        by_fields [] p h stop = choice_stop_second f g S T leads others first second d _ _ p h stop
        by_fields (field ∷ fields) p h stop = choice_stop_second f g S T leads others first second d _ _ p h stop

    pub some_stopped : (n : Option ℕ) (p : ℕ) → n ≡ lead_in fields → IsTrue (has leads n) → IsStop (Language (pair_said f g S T) (Joined S T)) (symbols_in octets fields) p → IsStop (Maybe f g S T) (symbols_in octets fields) p
    some_stopped n p is h = by_fields fields p (subst (λ (m : Option ℕ). IsTrue (has leads m)) is h)
      where
        by_fields : (fields : List Field) (p : ℕ) → IsTrue (has leads (lead_in fields)) → IsStop (Language (pair_said f g S T) (Joined S T)) (symbols_in octets fields) p → IsStop (Maybe f g S T) (symbols_in octets fields) p
        by_fields [] p h stop = maybe_stop_present f g S T leads others first second d _ _ p h stop
        by_fields (field ∷ fields) p h stop = maybe_stop_present f g S T leads others first second d _ _ p h stop

    pub none_stopped : (n : Option ℕ) (p : ℕ) → n ≡ lead_in fields → (IsTrue (has leads n) → ⊥) → IsStop (Language g T) (symbols_in octets fields) p → IsStop (Maybe f g S T) (symbols_in octets fields) p
    none_stopped n p is h = by_fields fields p (subst (λ (m : Option ℕ). IsTrue (has leads m) → ⊥) is h)
      where
        by_fields : (fields : List Field) (p : ℕ) → (IsTrue (has leads (lead_in fields)) → ⊥) → IsStop (Language g T) (symbols_in octets fields) p → IsStop (Maybe f g S T) (symbols_in octets fields) p
        by_fields [] p h stop = maybe_stop_absent f g S T leads others first second d _ _ p h stop
        by_fields (field ∷ fields) p h stop = maybe_stop_absent f g S T leads others first second d _ _ p h stop

  -- ---- lists

  -- So many fields are items of the list, whose octets are appended, and what stops after them stops the list.
  pub record HasMade (taken : ℕ) (old new : List ℕ) : Type 0 where
    pub values : List V
    pub within : taken ≤ length fields
    pub is_said : take (3 * taken) (symbols_in octets fields) ≡ flat_map f values
    pub appended : AppendsLeast (Items S values) old new
    pub stops : (p : ℕ) → IsStop (Listing f g S T) (symbols_in octets (drop taken fields)) p → IsStop (Listing f g S T) (symbols_in octets fields) (3 * taken + p)

  pub none_made : (old : List ℕ) → HasMade 0 old old
  none_made old = record {
    values = [];
    within = omega arith;
    is_said = refl;
    appended = record { more = []; is_least = least_nothing; new_is = sym (append-nil old) };
    stops = λ p h. subst (λ (k : ℕ). IsStop (Listing f g S T) (symbols_in octets fields) k) (omega arith) h;
  }

  module _ (leads others : List (Option ℕ)) (first : Lawful (Language f S) leads) (second : Lawful (Language g T) others) (d : IsTrue (disjoint leads others)) where
    -- at least one field
    pub some_taken : (end : Bool) (rest : List Field) (n : ℕ) (old new : List ℕ) → IsTrue (not end) → Made f S (symbols_in octets rest) (taken_symbols end n) old new → 0 < n
    some_taken end rest n old new shut m =
        let l = made_says f g S T _ _ _ _ m in
        let o = first.opens _ l in
        let some : 1 ≤ length (take (taken_symbols end n) (symbols_in octets rest)) = omega (arith, ap length o.symbols) in
        elim (cases_lt 0 n) [
          | inl lt ↦ lt
          | inr le ↦ (let zero_is : n ≡ 0 = omega arith in
              let nothing : taken_symbols end n ≡ 0 = rw (not-true end shut, zero_is) refl in
              absurd (omega (arith, some, ap (λ (k : ℕ). length (take k (symbols_in octets rest))) nothing)))
        ]

    item_stopped : (rest : List Field) (p : ℕ) → IsTrue (has leads (lead_in rest)) → IsStop (Language f S) (symbols_in octets rest) p → IsStop (Listing f g S T) (symbols_in octets rest) p
    item_stopped [] p h stop = list_stop_part f g S T leads others first second d _ _ p h stop
    item_stopped (field ∷ rest) p h stop = list_stop_part f g S T leads others first second d _ _ p h stop

    item_then : (rest : List Field) (n p : ℕ) → IsTrue (has leads (lead_in rest)) → n ≤ length (symbols_in octets rest) → Language f S tt (take n (symbols_in octets rest)) → IsStop (Listing f g S T) (drop n (symbols_in octets rest)) p → IsStop (Listing f g S T) (symbols_in octets rest) (n + p)
    item_then [] n p h within l stop = list_stop_then f g S T leads others first second d _ _ n p h within l stop
    item_then (field ∷ rest) n p h within l stop = list_stop_then f g S T leads others first second d _ _ n p h within l stop

    end_stopped : (rest : List Field) (p : ℕ) → (IsTrue (has leads (lead_in rest)) → ⊥) → IsStop (Language g T) (symbols_in octets rest) p → IsStop (Listing f g S T) (symbols_in octets rest) p
    end_stopped [] p h stop = list_stop_end f g S T leads others first second d _ _ p h stop
    end_stopped (field ∷ rest) p h stop = list_stop_end f g S T leads others first second d _ _ p h stop

    pub more_made : (end : Bool) (lead : Option ℕ) (taken n : ℕ) (old mid new : List ℕ) → IsTrue (not end) → HasMade taken old mid → lead ≡ lead_in (drop taken fields) → IsTrue (has leads lead) → n ≤ length (drop taken fields)
        → Made f S (symbols_in octets (drop taken fields)) (taken_symbols end n) mid new → HasMade (taken + n) old new
    more_made end lead taken n old mid new shut h lead_is begins within made =
        let m : Made f S (symbols_in octets (drop taken fields)) (3 * n) mid new = subst (λ (b : Bool). Made f S (symbols_in octets (drop taken fields)) (taken_symbols b n) mid new) (not-true end shut) made in
        let after : symbols_in octets (drop taken fields) ≡ drop (3 * taken) (symbols_in octets fields) = sym (symbols_after octets fields taken h.within) in
        let long : 3 * taken ≤ length (symbols_in octets fields) = omega (arith, h.within, symbols_length octets fields) in
        let front : length (take (3 * taken) (symbols_in octets fields)) ≡ 3 * taken = length-take-le (3 * taken) (symbols_in octets fields) long in
        let sum : 3 * (taken + n) ≡ 3 * taken + 3 * n = omega arith in
        let parts : take (3 * (taken + n)) (symbols_in octets fields) ≡ take (3 * taken) (symbols_in octets fields) ++ take (3 * n) (symbols_in octets (drop taken fields)) =
        ap (λ (k : ℕ). take k (symbols_in octets fields)) sum ∙ ap (λ (l : List Symbol). take (3 * taken + 3 * n) l) (sym (take-append-drop (3 * taken) (symbols_in octets fields)))
        ∙ ap (λ (k : ℕ). take (k + 3 * n) (take (3 * taken) (symbols_in octets fields) ++ drop (3 * taken) (symbols_in octets fields))) (sym front)
        ∙ take-append-add (take (3 * taken) (symbols_in octets fields)) (drop (3 * taken) (symbols_in octets fields)) (3 * n)
        ∙ ap (λ (l : List Symbol). take (3 * taken) (symbols_in octets fields) ++ take (3 * n) l) (sym after) in
        record {
          values = h.values ++ m.value ∷ [];
          within = omega (arith, h.within, within, length-drop taken fields);
          is_said = parts ∙ ap (λ (l : List Symbol). l ++ take (3 * n) (symbols_in octets (drop taken fields))) h.is_said ∙ ap (λ (l : List Symbol). flat_map f h.values ++ l) (m.is_said ∙ sym (append-nil (f m.value)))
              ∙ sym (flat_map-append f h.values (m.value ∷ []));
          appended = appends_item S h.values m.value h.appended m.appended;
          stops = λ p stop.
              let there : IsStop (Listing f g S T) (drop (3 * n) (symbols_in octets (drop taken fields))) p =
              subst (λ (l : List Symbol). IsStop (Listing f g S T) l p) (ap (symbols_in octets) (sym (drop-drop n taken fields)) ∙ sym (symbols_after octets (drop taken fields) n within)) stop in
              let item = item_then (drop taken fields) (3 * n) p (subst (λ (k : Option ℕ). IsTrue (has leads k)) lead_is begins) m.within (made_says f g S T _ _ _ _ m) there in
              subst (λ (k : ℕ). IsStop (Listing f g S T) (symbols_in octets fields) k) (omega arith) (h.stops (3 * n + p) item);
        }

    pub item_stop : (lead : Option ℕ) (taken : ℕ) (old mid : List ℕ) (fault : Fault) → HasMade taken old mid → lead ≡ lead_in (drop taken fields) → IsTrue (has leads lead)
        → IfStop fault (IsStop (Language f S) (symbols_in octets (drop taken fields))) → IfStop (behind taken fault) (IsStop (Listing f g S T) (symbols_in octets fields))
    item_stop lead taken old mid fault h lead_is begins stop =
        stop_behind fault taken _ _ (λ p s. h.stops p (item_stopped (drop taken fields) p (subst (λ (k : Option ℕ). IsTrue (has leads k)) lead_is begins) s)) stop

    pub end_stop : (lead : Option ℕ) (taken : ℕ) (old mid : List ℕ) (fault : Fault) → HasMade taken old mid → lead ≡ lead_in (drop taken fields) → has leads lead ≡ false
        → IfStop fault (IsStop (Language g T) (symbols_in octets (drop taken fields))) → IfStop (behind taken fault) (IsStop (Listing f g S T) (symbols_in octets fields))
    end_stop lead taken old mid fault h lead_is ended stop =
        stop_behind fault taken _ _ (λ p s. h.stops p (end_stopped (drop taken fields) p (λ b. both_ways _ (ap (has leads) (sym lead_is) ∙ ended) b) s)) stop

    pub all_made : (end : Bool) (taken n : ℕ) (old mid new : List ℕ) → HasMade taken old mid → Made g T (symbols_in octets (drop taken fields)) (taken_symbols end n) mid new
        → Made (list_said f g S T) (Joined (Items S) T) (symbols_in octets fields) (taken_symbols end (taken + n)) old new
    all_made end taken n old mid new h m =
        let items : Made (flat_map f) (Items S) (symbols_in octets fields) (3 * taken) old mid =
        record { value = h.values; within = omega (arith, h.within, symbols_length octets fields); is_said = h.is_said; appended = h.appended } in
        let whole = made_pair (flat_map f) g (Items S) T (symbols_in octets fields) (3 * taken) (taken_symbols end n) old mid new items
        (subst (λ (es : List Symbol). Made g T es (taken_symbols end n) mid new) (sym (symbols_after octets fields taken h.within)) m) in
        subst (λ (k : ℕ). Made (list_said f g S T) (Joined (Items S) T) (symbols_in octets fields) k old new) (number end)
        (record { value = whole.value; within = whole.within; is_said = whole.is_said; appended = whole.appended })
      where
        number : (end : Bool) → 3 * taken + taken_symbols end n ≡ taken_symbols end (taken + n)
        number true = omega arith
        number false = omega arith
