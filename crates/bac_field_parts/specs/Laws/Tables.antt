-- Lists of at most so many items, and lists whose number of items an octet says.
use Rattle.std.specs.Prelude.{◌≡◌, ℕ, ◌+◌, ◌*◌, ◌-◌, ◌<◌, ◌≤◌, ◌⊎◌, slice_set, List, [], ◌∷◌, ◌++◌, length, take, drop, Bool, true, false, not, ◌&&◌, IsTrue, Option, refl}
use Rattle.std.specs.List.{flat_map}
use Rattle.std.proofs.Common.{sym, ◌∙◌, ap, subst, arith, append_assoc, suc, zero, inl, inr}
use Rattle.std.proofs.Math.Seq.{take-append-add, set-append_seam}
use Rattle.std.proofs.lemmas.Bool.{and_parts, not-true, both_ways}
use Rattle.std.proofs.lemmas.List.{length-drop, take-append-drop, length-take-le, length-append, append-nil, drop-drop}
use Rattle.std.proofs.lemmas.Grind.{flat_map-append}
use Rattle.bac_tag.specs.Octets.{Extends}
use Rattle.bac_tag.specs.Spelling.{Joined, AppendsLeast}
use Rattle.bac_productions.specs.Laws.Least.{least_joined, least_nothing, appends_item}
use Rattle.bac_productions.specs.Productions.{Items}
use Rattle.bac_field_parts.specs.declared.field.Field.{Field}
use Rattle.bac_field_parts.specs.declared.making.Fault.{Fault}
use Rattle.bac_field_parts.specs.Symbols.{Symbol, Says, Language, Lawful, IsStop, Made, IfStop, behind, symbols_in, taken_symbols, lead_in, lead_of, has, disjoint}
use Rattle.bac_field_parts.specs.Tables.{SpellsTable}
use Rattle.bac_field_parts.specs.Laws.Languages.{apart, stop_at_first, stop_alike, both_lawful, both_stop_first, both_stop_second, either_stop_first, either_stop_second}
use Rattle.bac_field_parts.specs.Laws.Making.{symbols_length, symbols_after, made_says, stop_behind}
use Rattle.bac_field_parts.specs.Laws.OctetForms.{least_octet}
use Rattle.bac_field_parts.specs.Laws.Parts.{joined_stop, list_said, list_lawful}

module _ {V W : Type 0} (f : V → List Symbol) (g : W → List Symbol) (S : V → List ℕ → Type 0) (T : W → List ℕ → Type 0) where
  -- lists of at most so many items
  abbrev pub SpellsFew : ℕ → List V × W → List ℕ → Type 0
  SpellsFew most x b = (length x.0 ≤ most) × Joined (Items S) T x b

  abbrev pub Few : ℕ → Unit {0} → List Symbol → Type 0
  Few most = Language (list_said f g S T) (SpellsFew most)

  abbrev pub Tables : Unit {0} → List Symbol → Type 0
  Tables = Language (list_said f g S T) (SpellsTable S T)

  -- an item, and one fewer
  abbrev Longer : ℕ → Unit {0} → List Symbol → Type 0
  Longer most u = Joined (Language f S) (Few most) (tt, tt)

  few_to : (most : ℕ) (es : List Symbol) → Longer most tt es ⊎ Language g T tt es → Few (suc most) tt es
  few_to most es (inl j) =
      let rest = j.second.1.spelled.1 in
      let few = j.second.1.spelled.0 in (
        (j.first.0 ∷ j.second.0.0, j.second.0.1),
        record {
          octets = (j.first.1.octets ++ rest.front) ++ rest.back;
          spelled = (
            omega (arith, few),
            record {
              front = j.first.1.octets ++ rest.front;
              back = rest.back;
              first = record { front = j.first.1.octets; back = rest.front; first = j.first.1.spelled; second = rest.first; octets = refl };
              second = rest.second;
              octets = refl;
            },
          );
          is_said = j.octets ∙ ap (λ (l : List Symbol). l ++ j.back) j.first.1.is_said ∙ ap (λ (l : List Symbol). f j.first.0 ++ l) j.second.1.is_said
              ∙ sym (append_assoc (f j.first.0) (flat_map f j.second.0.0) (g j.second.0.1));
        },
      )
  few_to most es (inr l) = (
    ([], l.0),
    record { octets = l.1.octets; spelled = (omega arith, record { front = []; back = l.1.octets; first = refl; second = l.1.spelled; octets = refl }); is_said = l.1.is_said },
  )

  few_cases : (most : ℕ) (vs : List V) (w : W) (es : List Symbol) → Says (list_said f g S T) (SpellsFew (suc most)) (vs, w) es → Longer most tt es ⊎ Language g T tt es
  few_cases most [] w es h = inr (w, record { octets = h.spelled.1.back; spelled = h.spelled.1.second; is_said = h.is_said })
  few_cases most (v ∷ vs) w es h =
      let items = h.spelled.1.first in
      let few = h.spelled.0 in
      inl (record {
        front = f v;
        back = flat_map f vs ++ g w;
        first = (v, record { octets = items.front; spelled = items.first; is_said = refl });
        second = (
          (vs, w),
          record {
            octets = items.back ++ h.spelled.1.back;
            spelled = (omega (arith, few), record { front = items.back; back = h.spelled.1.back; first = items.second; second = h.spelled.1.second; octets = refl });
            is_said = refl;
          },
        );
        octets = h.is_said ∙ append_assoc (f v) (flat_map f vs) (g w);
      })

  few_from : (most : ℕ) (es : List Symbol) → Few (suc most) tt es → Longer most tt es ⊎ Language g T tt es
  few_from most es l = few_cases most l.0.0 l.0.1 es l.1

  none_to : (es : List Symbol) → Language g T tt es → Few 0 tt es
  none_to es l = (([], l.0), record { octets = l.1.octets; spelled = (omega arith, record { front = []; back = l.1.octets; first = refl; second = l.1.spelled; octets = refl }); is_said = l.1.is_said })

  none_cases : (vs : List V) (w : W) (es : List Symbol) → Says (list_said f g S T) (SpellsFew 0) (vs, w) es → Language g T tt es
  none_cases [] w es h = (w, record { octets = h.spelled.1.back; spelled = h.spelled.1.second; is_said = h.is_said })
  none_cases (v ∷ vs) w es h = let few = h.spelled.0 in absurd (omega (arith, few))

  none_from : (es : List Symbol) → Few 0 tt es → Language g T tt es
  none_from es l = none_cases l.0.0 l.0.1 es l.1

  -- the octet has room for 255
  table_to : (es : List Symbol) → Few 255 tt es → Tables tt es
  table_to es l =
      let few = l.1.spelled.0 in (
        l.0,
        record {
          octets = (length l.0.0 ∷ []) ++ l.1.octets;
          spelled = record { front = length l.0.0 ∷ []; back = l.1.octets; first = (refl, omega (arith, few)); second = l.1.spelled.1; octets = refl };
          is_said = l.1.is_said;
        },
      )

  table_from : (es : List Symbol) → Tables tt es → Few 255 tt es
  table_from es l = let fits = l.1.spelled.first.1 in (l.0, record { octets = l.1.spelled.back; spelled = (omega (arith, fits), l.1.spelled.second); is_said = l.1.is_said })

  module _ (leads others : List (Option ℕ)) (first : Lawful (Language f S) leads) (second : Lawful (Language g T) others) (d : IsTrue (disjoint leads others)) where
    any : Lawful (Language (list_said f g S T) (Joined (Items S) T)) (leads ++ others)
    any = list_lawful f g S T leads others first second d

    few_listed : (most : ℕ) (es : List Symbol) → Few most tt es → Language (list_said f g S T) (Joined (Items S) T) tt es
    few_listed most es l = (l.0, record { octets = l.1.octets; spelled = l.1.spelled.1; is_said = l.1.is_said })

    few_lawful : (most : ℕ) → Lawful (Few most) (leads ++ others)
    few_lawful most = record {
      opens = λ es l. any.opens es (few_listed most es l);
      ends = λ u v b c r s l m e. any.ends tt tt b c r s (few_listed most b l) (few_listed most c m) e;
      some =
          let (es, l) = second.some in
          (es, (([], l.0), record { octets = l.1.octets; spelled = (omega arith, record { front = []; back = l.1.octets; first = refl; second = l.1.spelled; octets = refl }); is_said = l.1.is_said }));
    }

    longer_lawful : (most : ℕ) → Lawful (Longer most) leads
    longer_lawful most = both_lawful (Language f S) (Few most) leads (leads ++ others) first (few_lawful most)

    pub table_lawful : Lawful Tables (leads ++ others)
    table_lawful =
        let law = few_lawful 255 in
        record {
          opens = λ es l. law.opens es (table_from es l);
          ends = λ u v b c r s l m e. law.ends tt tt b c r s (table_from b l) (table_from c m) e;
          some = (law.some.0, table_to law.some.0 law.some.1);
        }

    few_stop_item : (most : ℕ) (k : Symbol) (es : List Symbol) (p : ℕ) → IsTrue (has leads (lead_of k)) → IsStop (Language f S) (k ∷ es) p → IsStop (Few (suc most)) (k ∷ es) p
    few_stop_item most k es p h stop = stop_alike _ (Few (suc most)) (few_to most) (few_from most) (k ∷ es) p
        (either_stop_first (Longer most) (Language g T) leads others (longer_lawful most) second d k es p h
        (joined_stop (Language f S) (Few most) (k ∷ es) p (both_stop_first (Language f S) (Few most) leads (leads ++ others) first (few_lawful most) (k ∷ es) p stop)))

    few_stop_then : (most : ℕ) (k : Symbol) (es : List Symbol) (n p : ℕ) → IsTrue (has leads (lead_of k)) → n ≤ length (k ∷ es) → Language f S tt (take n (k ∷ es)) → IsStop (Few most) (drop n (k ∷ es)) p → IsStop (Few (suc most)) (k ∷ es) (n + p)
    few_stop_then most k es n p h within l stop = stop_alike _ (Few (suc most)) (few_to most) (few_from most) (k ∷ es) (n + p)
        (either_stop_first (Longer most) (Language g T) leads others (longer_lawful most) second d k es (n + p) h
        (joined_stop (Language f S) (Few most) (k ∷ es) (n + p) (both_stop_second (Language f S) (Few most) leads (leads ++ others) first (few_lawful most) (k ∷ es) n p within l stop)))

    few_stop_end : (most : ℕ) (k : Symbol) (es : List Symbol) (p : ℕ) → (IsTrue (has leads (lead_of k)) → ⊥) → IsStop (Language g T) (k ∷ es) p → IsStop (Few most) (k ∷ es) p
    few_stop_end zero k es p h stop = stop_alike (Language g T) (Few 0) none_to none_from (k ∷ es) p stop
    few_stop_end (suc most) k es p h stop = stop_alike _ (Few (suc most)) (few_to most) (few_from most) (k ∷ es) p
        (either_stop_second (Longer most) (Language g T) leads others (longer_lawful most) second d k es p h stop)

    -- no item more has room
    few_stop_full : (k : Symbol) (es : List Symbol) → IsTrue (has leads (lead_of k)) → IsStop (Few 0) (k ∷ es) 0
    few_stop_full k es h = stop_alike (Language g T) (Few 0) none_to none_from (k ∷ es) 0 (stop_at_first (Language g T) others second k es (λ o. apart leads others (lead_of k) d h o))

    module _ (octets : List ℕ) where
      item_at : (most : ℕ) (rest : List Field) (p : ℕ) → IsTrue (has leads (lead_in rest)) → IsStop (Language f S) (symbols_in octets rest) p → IsStop (Few (suc most)) (symbols_in octets rest) p
      item_at most [] p h stop = few_stop_item most _ _ p h stop
      item_at most (field ∷ rest) p h stop = few_stop_item most _ _ p h stop

      then_at : (most : ℕ) (rest : List Field) (n p : ℕ) → IsTrue (has leads (lead_in rest)) → n ≤ length (symbols_in octets rest) → Language f S tt (take n (symbols_in octets rest)) → IsStop (Few most) (drop n (symbols_in octets rest)) p
          → IsStop (Few (suc most)) (symbols_in octets rest) (n + p)
      then_at most [] n p h within l stop = few_stop_then most _ _ n p h within l stop
      then_at most (field ∷ rest) n p h within l stop = few_stop_then most _ _ n p h within l stop

      end_at : (most : ℕ) (rest : List Field) (p : ℕ) → (IsTrue (has leads (lead_in rest)) → ⊥) → IsStop (Language g T) (symbols_in octets rest) p → IsStop (Few most) (symbols_in octets rest) p
      end_at most [] p h stop = few_stop_end most _ _ p h stop
      end_at most (field ∷ rest) p h stop = few_stop_end most _ _ p h stop

      full_at : (rest : List Field) → IsTrue (has leads (lead_in rest)) → IsStop (Few 0) (symbols_in octets rest) 0
      full_at [] h = few_stop_full _ _ h
      full_at (field ∷ rest) h = few_stop_full _ _ h

  -- ---- at fields

  module _ (octets : List ℕ) (fields : List Field) where
    -- So many fields are so many items of a table, whose octets are appended, and what stops after them stops the table.
    pub record HasCounted (count taken : ℕ) (old new : List ℕ) : Type 0 where
      pub values : List V
      pub counted : length values ≡ count
      pub few : count ≤ 255
      pub within : taken ≤ length fields
      pub is_said : take (3 * taken) (symbols_in octets fields) ≡ flat_map f values
      pub appended : AppendsLeast (Items S values) old new
      pub stops : (p : ℕ) → IsStop (Few (255 - count)) (symbols_in octets (drop taken fields)) p → IsStop Tables (symbols_in octets fields) (3 * taken + p)

    pub none_counted : (old : List ℕ) → HasCounted 0 0 old old
    none_counted old = record {
      values = [];
      counted = refl;
      few = omega arith;
      within = omega arith;
      is_said = refl;
      appended = record { more = []; is_least = least_nothing; new_is = sym (append-nil old) };
      stops = λ p h. stop_alike (Few 255) Tables table_to table_from (symbols_in octets fields) (3 * 0 + p) (subst (λ (k : ℕ). IsStop (Few 255) (symbols_in octets fields) k) (omega arith) h);
    }

    module _ (leads others : List (Option ℕ)) (first : Lawful (Language f S) leads) (second : Lawful (Language g T) others) (d : IsTrue (disjoint leads others)) where
      pub more_counted : (end : Bool) (lead : Option ℕ) (count taken n : ℕ) (old mid new : List ℕ) → IsTrue (not end) → HasCounted count taken old mid → lead ≡ lead_in (drop taken fields) → IsTrue (has leads lead) → count < 255
          → n ≤ length (drop taken fields) → Made f S (symbols_in octets (drop taken fields)) (taken_symbols end n) mid new → HasCounted (count + 1) (taken + n) old new
      more_counted end lead count taken n old mid new shut h lead_is begins room within made =
          let m : Made f S (symbols_in octets (drop taken fields)) (3 * n) mid new = subst (λ (b : Bool). Made f S (symbols_in octets (drop taken fields)) (taken_symbols b n) mid new) (not-true end shut) made in
          let after : symbols_in octets (drop taken fields) ≡ drop (3 * taken) (symbols_in octets fields) = sym (symbols_after octets fields taken h.within) in
          let long : 3 * taken ≤ length (symbols_in octets fields) = omega (arith, h.within, symbols_length octets fields) in
          let front : length (take (3 * taken) (symbols_in octets fields)) ≡ 3 * taken = length-take-le (3 * taken) (symbols_in octets fields) long in
          let sum : 3 * (taken + n) ≡ 3 * taken + 3 * n = omega arith in
          let parts : take (3 * (taken + n)) (symbols_in octets fields) ≡ take (3 * taken) (symbols_in octets fields) ++ take (3 * n) (symbols_in octets (drop taken fields)) =
          ap (λ (k : ℕ). take k (symbols_in octets fields)) sum ∙ ap (λ (l : List Symbol). take (3 * taken + 3 * n) l) (sym (take-append-drop (3 * taken) (symbols_in octets fields)))
          ∙ ap (λ (k : ℕ). take (k + 3 * n) (take (3 * taken) (symbols_in octets fields) ++ drop (3 * taken) (symbols_in octets fields))) (sym front)
          ∙ take-append-add (take (3 * taken) (symbols_in octets fields)) (drop (3 * taken) (symbols_in octets fields)) (3 * n)
          ∙ ap (λ (l : List Symbol). take (3 * taken) (symbols_in octets fields) ++ take (3 * n) l) (sym after) in
          let fewer : suc (255 - (count + 1)) ≡ 255 - count = omega (arith, room) in
          record {
            values = h.values ++ m.value ∷ [];
            counted = length-append h.values (m.value ∷ []) ∙ ap (λ (k : ℕ). k + 1) h.counted;
            few = omega (arith, room);
            within = omega (arith, h.within, within, length-drop taken fields);
            is_said = parts ∙ ap (λ (l : List Symbol). l ++ take (3 * n) (symbols_in octets (drop taken fields))) h.is_said ∙ ap (λ (l : List Symbol). flat_map f h.values ++ l) (m.is_said ∙ sym (append-nil (f m.value)))
                ∙ sym (flat_map-append f h.values (m.value ∷ []));
            appended = appends_item S h.values m.value h.appended m.appended;
            stops = λ p stop.
                let there : IsStop (Few (255 - (count + 1))) (drop (3 * n) (symbols_in octets (drop taken fields))) p =
                subst (λ (l : List Symbol). IsStop (Few (255 - (count + 1))) l p) (ap (symbols_in octets) (sym (drop-drop n taken fields)) ∙ sym (symbols_after octets (drop taken fields) n within)) stop in
                let item = then_at leads others first second d octets (255 - (count + 1)) (drop taken fields) (3 * n) p (subst (λ (k : Option ℕ). IsTrue (has leads k)) lead_is begins) m.within (made_says f g S T _ _ _ _ m) there in
                let fit = subst (λ (k : ℕ). IsStop (Few k) (symbols_in octets (drop taken fields)) (3 * n + p)) fewer item in
                subst (λ (k : ℕ). IsStop Tables (symbols_in octets fields) k) (omega arith) (h.stops (3 * n + p) fit);
          }

      pub item_counted_stop : (lead : Option ℕ) (count taken : ℕ) (old mid : List ℕ) (fault : Fault) → HasCounted count taken old mid → lead ≡ lead_in (drop taken fields) → IsTrue (has leads lead) → count < 255
          → IfStop fault (IsStop (Language f S) (symbols_in octets (drop taken fields))) → IfStop (behind taken fault) (IsStop Tables (symbols_in octets fields))
      item_counted_stop lead count taken old mid fault h lead_is begins room stop =
          let fewer : suc (254 - count) ≡ 255 - count = omega (arith, room) in
          stop_behind fault taken _ _ (λ p s. h.stops p (subst (λ (k : ℕ). IsStop (Few k) (symbols_in octets (drop taken fields)) p) fewer
          (item_at leads others first second d octets (254 - count) (drop taken fields) p (subst (λ (k : Option ℕ). IsTrue (has leads k)) lead_is begins) s))) stop

      pub end_counted_stop : (lead : Option ℕ) (count taken : ℕ) (old mid : List ℕ) (fault : Fault) → HasCounted count taken old mid → lead ≡ lead_in (drop taken fields) → has leads lead ≡ false
          → IfStop fault (IsStop (Language g T) (symbols_in octets (drop taken fields))) → IfStop (behind taken fault) (IsStop Tables (symbols_in octets fields))
      end_counted_stop lead count taken old mid fault h lead_is ended stop =
          stop_behind fault taken _ _ (λ p s. h.stops p (end_at leads others first second d octets (255 - count) (drop taken fields) p (λ b. both_ways _ (ap (has leads) (sym lead_is) ∙ ended) b) s)) stop

      -- the octet has no room for one more
      pub full_stop : (lead : Option ℕ) (count taken : ℕ) (old mid : List ℕ) → count ≡ 255 → HasCounted count taken old mid → lead ≡ lead_in (drop taken fields) → IsTrue (has leads lead) → IsStop Tables (symbols_in octets fields) (3 * (0 + taken) + 0)
      full_stop lead count taken old mid full h lead_is begins =
          let none_left : 0 ≡ 255 - count = omega (arith, full) in
          let stop = full_at leads others first second d octets (drop taken fields) (subst (λ (k : Option ℕ). IsTrue (has leads k)) lead_is begins) in
          subst (λ (k : ℕ). IsStop Tables (symbols_in octets fields) k) (omega arith) (h.stops 0 (subst (λ (k : ℕ). IsStop (Few k) (symbols_in octets (drop taken fields)) 0) none_left stop))

    -- the number of the items is set in the octet before them
    set_is : (old more mid : List ℕ) (count : ℕ) → mid ≡ (old ++ 0 ∷ []) ++ more → slice_set mid (length old) count ≡ old ++ count ∷ more
    set_is old more mid count is = ap (λ (l : List ℕ). slice_set l (length old) count) (is ∙ append_assoc old (0 ∷ []) more) ∙ set-append_seam old 0 more count

    pub set_extends : (count taken place : ℕ) (old mid new : List ℕ) → place ≡ length old → HasCounted count taken (old ++ 0 ∷ []) mid → Extends (slice_set mid place count) new → Extends old new
    set_extends count taken place old mid new at h (more, e) = (
      (count ∷ h.appended.more) ++ more,
      e ∙ ap (λ (l : List ℕ). l ++ more) (ap (λ (k : ℕ). slice_set mid k count) at ∙ set_is old h.appended.more mid count h.appended.new_is) ∙ append_assoc old (count ∷ h.appended.more) more,
    )

    pub all_counted : (end : Bool) (count taken n place : ℕ) (old mid new : List ℕ) → place ≡ length old → HasCounted count taken (old ++ 0 ∷ []) mid → Made g T (symbols_in octets (drop taken fields)) (taken_symbols end n) (slice_set mid place count) new
        → Made (list_said f g S T) (SpellsTable S T) (symbols_in octets fields) (taken_symbols end (taken + n)) old new
    all_counted end count taken n place old mid new at h m =
        let small : length h.values < 256 = omega (arith, h.few, h.counted) in
        record {
          value = (h.values, m.value);
          within = omega (arith, m.within, h.within, symbols_length octets fields, symbols_length octets (drop taken fields), length-drop taken fields, number end);
          is_said = ap (λ (k : ℕ). take k (symbols_in octets fields)) (sym (number end)) ∙ whole ∙ ap (λ (l : List Symbol). l ++ take (taken_symbols end n) (symbols_in octets (drop taken fields))) h.is_said ∙ ap (λ (l : List Symbol). flat_map f h.values ++ l) m.is_said;
          appended = record {
            more = (length h.values ∷ []) ++ (h.appended.more ++ m.appended.more);
            is_least = least_joined (least_octet (length h.values) small) (least_joined h.appended.is_least m.appended.is_least);
            new_is = m.appended.new_is ∙ ap (λ (l : List ℕ). l ++ m.appended.more) (ap (λ (k : ℕ). slice_set mid k count) at ∙ set_is old h.appended.more mid count h.appended.new_is) ∙ append_assoc old (count ∷ h.appended.more) m.appended.more
                ∙ ap (λ (k : ℕ). old ++ k ∷ (h.appended.more ++ m.appended.more)) (sym h.counted);
          };
        }
      where
        number : (end : Bool) → 3 * taken + taken_symbols end n ≡ taken_symbols end (taken + n)
        number true = omega arith
        number false = omega arith

        whole : take (3 * taken + taken_symbols end n) (symbols_in octets fields) ≡ take (3 * taken) (symbols_in octets fields) ++ take (taken_symbols end n) (symbols_in octets (drop taken fields))
        whole =
            let long : 3 * taken ≤ length (symbols_in octets fields) = omega (arith, h.within, symbols_length octets fields) in
            let front : length (take (3 * taken) (symbols_in octets fields)) ≡ 3 * taken = length-take-le (3 * taken) (symbols_in octets fields) long in
            ap (λ (l : List Symbol). take (3 * taken + taken_symbols end n) l) (sym (take-append-drop (3 * taken) (symbols_in octets fields)))
            ∙ ap (λ (k : ℕ). take (k + taken_symbols end n) (take (3 * taken) (symbols_in octets fields) ++ drop (3 * taken) (symbols_in octets fields))) (sym front)
            ∙ take-append-add (take (3 * taken) (symbols_in octets fields)) (drop (3 * taken) (symbols_in octets fields)) (taken_symbols end n)
            ∙ ap (λ (l : List Symbol). take (3 * taken) (symbols_in octets fields) ++ take (taken_symbols end n) l) (symbols_after octets fields taken h.within)

pub table_sound : {V W : Type 0} (f : V → List Symbol) (g : W → List Symbol) (S : V → List ℕ → Type 0) (T : W → List ℕ → Type 0) (a b end : Bool) (leads others : List (Option ℕ))
    → (IsTrue a → Lawful (Language f S) leads) → (IsTrue b → Lawful (Language g T) others) → IsTrue (a && (b && (not end && disjoint leads others))) → Lawful (Tables f g S T) (leads ++ others)
table_sound f g S T a b end leads others first second sound =
    let p = and_parts a _ sound in
    let q = and_parts b _ p.1 in
    table_lawful f g S T leads others (first p.0) (second q.0) (and_parts (not end) _ q.1).1
