-- Open values as fields.
use Rattle.std.specs.Prelude.{◌≡◌, ◌↔◌, ℕ, ◌+◌, ◌*◌, ◌≤◌, List, [], ◌∷◌, ◌++◌, length, take, drop, Option, Some, refl, IsTrue, nat_le}
use Rattle.std.specs.List.{flat_map}
use Rattle.std.proofs.Common.{sym, ◌∙◌, ap, subst, arith, append_assoc}
use Rattle.std.proofs.lemmas.Bool.{leb-true}
use Rattle.std.proofs.Math.Seq.{take-append-add}
use Rattle.std.proofs.lemmas.List.{length-drop, length-take-le, take-append-drop}
use Rattle.bac_tag.specs.declared.heads.TagHead.TheVariants.{Open, Close}
use Rattle.bac_tag.specs.Heads.{Heads}
use Rattle.bac_tag.specs.Spelling.{Joins, Joined, EndsItself}
use Rattle.bac_value.specs.declared.prim.PrimitiveValue.TheVariants.{Null, Boolean, Unsigned, Signed, RealBits, DoubleBits, Octets, Text, Bits, Enumerated, Date, Time, ObjectId}
use Rattle.bac_data.specs.OpenValue.{Elements}
use Rattle.bac_data.specs.Spells.{SpellsOpen}
use Rattle.bac_data.specs.Events.{Event, application, contextual, opening, closing, events, value_of_events, SpellsEvents, Opens as OpensGroups}
use Rattle.bac_data.proofs.EventLemmas.{events_spelled, value_spelled}
use Rattle.bac_productions.specs.Productions.{Head}
use Rattle.bac_productions.specs.Laws.Least.{least_alike, least_joined}
use Rattle.bac_productions.specs.Laws.Tag.{opening_inhabited}
use Rattle.bac_field_parts.specs.declared.field.Field.{Field}
use Rattle.bac_field_parts.specs.declared.making.Fault.{Fault}
use Rattle.bac_field_parts.specs.Names.{number_of}
use Rattle.bac_field_parts.specs.OpenValueFields.{event_field, open_steps}
use Rattle.bac_field_parts.specs.Symbols.{Symbol, named, has, Language, Lawful, Opens, IsStop, Made, IfStop, behind, lead_in, symbols_in, steps_said, number_said, the_number}
use Rattle.bac_field_parts.specs.Laws.Languages.{both_lawful, both_stop_first, both_stop_second, lawful_alike, stop_alike}
use Rattle.bac_field_parts.specs.Laws.Parts.{joined_stop, pair_said}
use Rattle.bac_field_parts.specs.Laws.Leaves.{leaf_lawful}
use Rattle.bac_data.proofs.BalancedLemmas.{events-value_of_events}
use Rattle.bac_field_parts.specs.Laws.Making.{made_pair, made_says, symbols_after, symbols_length, stop_behind, stop_then}
use Rattle.bac_field_parts.specs.Laws.Firsts.{field_then}
use Rattle.bac_field_parts.specs.Laws.Rests.{event_said, value_end, Rests, rest_some, open_told, value_rest, rest_value, event_name}
use Rattle.bac_field_parts.specs.Laws.Steps.{HasStepped, steps_stopped}
use Rattle.bac_field_parts.specs.Laws.Groups.{Finishes, finish_stopped}

-- ---- the elements and the end of a value

abbrev pub rest_leads : List (Option ℕ)
rest_leads = Some 118 ∷ Some 121 ∷ Some 122 ∷ Some 130 ∷ Some 131 ∷ Some 132 ∷ Some 133 ∷ Some 134 ∷ Some 135 ∷ Some 136 ∷ Some 137 ∷ Some 138 ∷ Some 139 ∷ Some 140 ∷ Some 141 ∷ Some 142 ∷ Some 143 ∷ []

led : (e : Event) → IsTrue (has rest_leads (Some (number_of (event_field e).name)))
led (application (Null value)) = refl
led (application (Boolean value)) = refl
led (application (Unsigned value)) = refl
led (application (Signed value)) = refl
led (application (RealBits value)) = refl
led (application (DoubleBits value)) = refl
led (application (Octets octets)) = refl
led (application (Text text)) = refl
led (application (Bits bits)) = refl
led (application (Enumerated value)) = refl
led (application (Date value)) = refl
led (application (Time value)) = refl
led (application (ObjectId object)) = refl
led (contextual number octets) = refl
led (opening number) = refl
led (closing number) = refl

rest_opens : (evs : List Event) (es : List Symbol) → es ≡ flat_map event_said evs ++ value_end → Opens rest_leads es
rest_opens [] es e = record { first = named 118; rest = _; symbols = e; among = refl }
rest_opens (v ∷ evs) es e = record { first = named (number_of (event_field v).name); rest = _; symbols = e; among = led v }

-- no list of events, with its end, is the front of another one
one_end : (es fs : List Event) (r s : List Symbol) → (flat_map event_said es ++ value_end) ++ r ≡ (flat_map event_said fs ++ value_end) ++ s → flat_map event_said es ++ value_end ≡ flat_map event_said fs ++ value_end
one_end [] [] r s e = refl
one_end [] (f ∷ fs) r s e = let same : number_of (event_field f).name ≡ 118 = cc in absurd (event_name f same)
one_end (f ∷ es) [] r s e = let same : number_of (event_field f).name ≡ 118 = cc in absurd (event_name f same)
one_end (v ∷ es) (f ∷ fs) r s e =
    let whole : event_said v ++ ((flat_map event_said es ++ value_end) ++ r) ≡ event_said f ++ ((flat_map event_said fs ++ value_end) ++ s) = e in
    let first : event_said v ≡ event_said f = cc in
    let behind : (flat_map event_said es ++ value_end) ++ r ≡ (flat_map event_said fs ++ value_end) ++ s = cc in
    ap (λ (l : List Symbol). l ++ (flat_map event_said es ++ value_end)) first ∙ ap (λ (l : List Symbol). event_said f ++ l) (one_end es fs r s behind)

rest_ends : EndsItself (Rests [])
rest_ends u v b c r s x y e =
    let same = one_end x.following y.following r s (ap (λ (l : List Symbol). l ++ r) (sym x.symbols) ∙ e ∙ ap (λ (l : List Symbol). l ++ s) y.symbols) in
    (x.symbols ∙ same ∙ sym y.symbols, refl)

pub rest_lawful : Lawful (Rests []) rest_leads
rest_lawful = record { opens = λ es r. rest_opens r.following es r.symbols; ends = rest_ends; some = rest_some [] tt }

-- ---- all of it

module _ (tag : ℕ) (small : IsTrue (nat_le tag 254)) where
  abbrev Starts : Unit {0} → List Symbol → Type 0
  Starts = Language (number_said 117 (the_number 0)) (Head (Open tag))

  abbrev Whole : Unit {0} → List Symbol → Type 0
  Whole = Language (λ (v : Elements). steps_said (open_steps tag v)) (SpellsOpen 32 tag)

  starts_lawful : Lawful Starts (Some 117 ∷ [])
  starts_lawful = let i = opening_inhabited tag small in leaf_lawful 117 (the_number 0) (λ v. Some []) (Head (Open tag)) tt i.octets i.spelled

  value_to : (es : List Symbol) → Joined Starts (Rests []) (tt, tt) es → Whole tt es
  value_to es j =
      let v = rest_value tag j.back (leb-true tag 254 small) j.second in
      (v.0, record { octets = v.1; spelled = v.2; is_said = j.octets ∙ ap (λ (l : List Symbol). l ++ j.back) j.first.1.is_said ∙ ap (λ (l : List Symbol). field_then 117 0 (Some []) l) v.3 ∙ sym (open_told tag v.0) })

  value_from : (es : List Symbol) → Whole tt es → Joined Starts (Rests []) (tt, tt) es
  value_from es l = record {
    front = field_then 117 0 (Some []) [];
    back = flat_map event_said (events l.0) ++ value_end;
    first = (let i = opening_inhabited tag small in (tt, record { octets = i.octets; spelled = i.spelled; is_said = refl }));
    second = value_rest tag l.0 l.1.octets l.1.spelled;
    octets = l.1.is_said ∙ open_told tag l.0;
  }

  pub open_lawful : Lawful Whole (Some 117 ∷ [])
  open_lawful = lawful_alike (λ (u : Unit {0}). Joined Starts (Rests []) (tt, tt)) Whole value_to value_from (Some 117 ∷ []) (both_lawful Starts (Rests []) (Some 117 ∷ []) rest_leads starts_lawful rest_lawful)

  pub open_stop_first : (es : List Symbol) (p : ℕ) → IsStop Starts es p → IsStop Whole es p
  open_stop_first es p h = stop_alike (λ (u : Unit {0}). Joined Starts (Rests []) (tt, tt)) Whole value_to value_from es p
      (joined_stop Starts (Rests []) es p (both_stop_first Starts (Rests []) (Some 117 ∷ []) rest_leads starts_lawful rest_lawful es p h))

  pub open_stop_second : (es : List Symbol) (n p : ℕ) → n ≤ length es → Starts tt (take n es) → IsStop (Rests []) (drop n es) p → IsStop Whole es (n + p)
  open_stop_second es n p within l h = stop_alike (λ (u : Unit {0}). Joined Starts (Rests []) (tt, tt)) Whole value_to value_from es (n + p)
      (joined_stop Starts (Rests []) es (n + p) (both_stop_second Starts (Rests []) (Some 117 ∷ []) rest_leads starts_lawful rest_lawful es n p within l h))

  -- ---- what is made

  encloses : (evs : List Event) → OpensGroups 32 [] evs [] → (b : List ℕ) → Joins (Heads (Open tag)) (Joins (SpellsEvents evs) (Heads (Close tag))) b ↔ SpellsOpen 32 tag (value_of_events evs) b
  encloses evs opened b =
      let same = events-value_of_events 32 evs opened in (
        λ j. record {
          enclosed = record {
            front = j.front;
            back = j.back;
            first = j.first;
            second = record {
              front = j.second.front;
              back = j.second.back;
              first = value_spelled (value_of_events evs) j.second.front (subst (λ (l : List Event). SpellsEvents l j.second.front) (sym same.0) j.second.first);
              second = j.second.second;
              octets = j.second.octets;
            };
            octets = j.octets;
          };
          nested = same.1;
        },
        λ h. (let i = h.enclosed.second in
            record {
              front = h.enclosed.front;
              back = h.enclosed.back;
              first = h.enclosed.first;
              second = record { front = i.front; back = i.back; first = subst (λ (l : List Event). SpellsEvents l i.front) same.0 (events_spelled (value_of_events evs) i.front i.first); second = i.second; octets = i.octets };
              octets = h.enclosed.octets;
            }),
      )

  pub open_made : (octets : List ℕ) (fields : List Field) (m taken n : ℕ) (old a b new : List ℕ) → Made (number_said 117 (the_number 0)) (Head (Open tag)) (symbols_in octets fields) (3 * m) old a → m ≤ length fields → HasStepped octets (drop m fields) taken [] a b
      → Made (number_said 118 (the_number 0)) (Head (Close tag)) (symbols_in octets (drop taken (drop m fields))) n b new → Made (λ (v : Elements). steps_said (open_steps tag v)) (SpellsOpen 32 tag) (symbols_in octets fields) (3 * m + (3 * taken + n)) old new
  unfolding made_pair
  open_made octets fields m taken n old a b new first within steps last =
      let same = events-value_of_events 32 steps.following steps.opened in
      let v = value_of_events steps.following in
      let elements : Made (flat_map event_said) SpellsEvents (symbols_in octets (drop m fields)) (3 * taken) a b =
      record { value = steps.following; within = omega (arith, steps.within, symbols_length octets (drop m fields)); is_said = steps.is_said; appended = steps.appended } in
      let two = made_pair (flat_map event_said) (number_said 118 (the_number 0)) SpellsEvents (Head (Close tag)) (symbols_in octets (drop m fields)) (3 * taken) n a b new elements
      (subst (λ (es : List Symbol). Made (number_said 118 (the_number 0)) (Head (Close tag)) es n b new) (sym (symbols_after octets (drop m fields) taken steps.within)) last) in
      let rest = subst (λ (es : List Symbol). Made (pair_said (flat_map event_said) (number_said 118 (the_number 0)) SpellsEvents (Head (Close tag))) (Joined SpellsEvents (Head (Close tag))) es (3 * taken + n) a new) (sym (symbols_after octets fields m within)) two in
      let front : length (take (3 * m) (symbols_in octets fields)) ≡ 3 * m = length-take-le (3 * m) (symbols_in octets fields) first.within in
      let whole : take (3 * m + (3 * taken + n)) (symbols_in octets fields) ≡ take (3 * m) (symbols_in octets fields) ++ take (3 * taken + n) (symbols_in octets (drop m fields)) =
      ap (λ (l : List Symbol). take (3 * m + (3 * taken + n)) l) (sym (take-append-drop (3 * m) (symbols_in octets fields)))
      ∙ ap (λ (k : ℕ). take (k + (3 * taken + n)) (take (3 * m) (symbols_in octets fields) ++ drop (3 * m) (symbols_in octets fields))) (sym front)
      ∙ take-append-add (take (3 * m) (symbols_in octets fields)) (drop (3 * m) (symbols_in octets fields)) (3 * taken + n)
      ∙ ap (λ (l : List Symbol). take (3 * m) (symbols_in octets fields) ++ take (3 * taken + n) l) (symbols_after octets fields m within) in
      record {
        value = v;
        within = omega (arith, first.within, rest.within, length-drop (3 * m) (symbols_in octets fields));
        is_said = whole ∙ ap (λ (l : List Symbol). l ++ take (3 * taken + n) (symbols_in octets (drop m fields))) first.is_said ∙ ap (λ (l : List Symbol). field_then 117 0 (Some []) l) two.is_said
            ∙ sym (open_told tag v ∙ ap (λ (l : List Event). field_then 117 0 (Some []) (flat_map event_said l ++ value_end)) same.0);
        appended = record {
          more = first.appended.more ++ two.appended.more;
          is_least = least_alike (encloses steps.following steps.opened) (least_joined first.appended.is_least two.appended.is_least);
          new_is = two.appended.new_is ∙ ap (λ (l : List ℕ). l ++ two.appended.more) first.appended.new_is ∙ append_assoc old first.appended.more two.appended.more;
        };
      }

  -- ---- where it stops

  pub elements_stopped : (octets : List ℕ) (fields : List Field) (m : ℕ) (old a : List ℕ) (fault : Fault) → m ≤ length fields → Made (number_said 117 (the_number 0)) (Head (Open tag)) (symbols_in octets fields) (3 * m) old a
      → IfStop fault (IsStop (Rests []) (symbols_in octets (drop m fields))) → IfStop (behind m fault) (IsStop Whole (symbols_in octets fields))
  elements_stopped octets fields m old a fault within first stop =
      stop_behind fault m _ _ (λ p h. open_stop_second (symbols_in octets fields) (3 * m) p first.within (made_says (number_said 117 (the_number 0)) (λ (u : Unit {0}). named 0 ∷ []) (Head (Open tag)) (λ (u : Unit {0}) (b : List ℕ). b ≡ []) _ _ _ _ first)
      (subst (λ (es : List Symbol). IsStop (Rests []) es p) (sym (symbols_after octets fields m within)) h)) stop

  pub end_stopped : (octets : List ℕ) (fields : List Field) (m taken : ℕ) (old a b : List ℕ) (fault : Fault) → m ≤ length fields → Made (number_said 117 (the_number 0)) (Head (Open tag)) (symbols_in octets fields) (3 * m) old a
      → HasStepped octets (drop m fields) taken [] a b → lead_in (drop taken (drop m fields)) ≡ Some 118 → IfStop fault (IsStop (Finishes tag) (symbols_in octets (drop taken (drop m fields)))) → IfStop (behind m (behind taken fault)) (IsStop Whole (symbols_in octets fields))
  end_stopped octets fields m taken old a b fault within first steps lead stop =
      elements_stopped octets fields m old a (behind taken fault) within first
      (steps_stopped octets (drop m fields) taken [] a b fault steps (stop_then fault _ _ (λ p h. finish_stopped octets (drop taken (drop m fields)) tag p (leb-true tag 254 small) lead h) stop))
