-- The elements of an open value, one after another.
use Rattle.std.specs.Prelude.{◌≡◌, ℕ, ◌+◌, ◌*◌, ◌≤◌, List, [], ◌∷◌, ◌++◌, length, take, drop, refl}
use Rattle.std.specs.List.{flat_map, AllByRecursion}
use Rattle.std.proofs.Common.{sym, ◌∙◌, ap, subst, arith, append_assoc}
use Rattle.std.proofs.Math.Seq.{take-append-add}
use Rattle.std.proofs.lemmas.List.{append-nil, length-drop, length-take-le, take-append-drop, drop-drop}
use Rattle.std.proofs.lemmas.Grind.{flat_map-append}
use Rattle.bac_tag.specs.Spelling.{AppendsLeast}
use Rattle.bac_data.specs.Events.{Event, Opens, SpellsEvents}
use Rattle.bac_data.proofs.OpenLemmas.{Opens-append}
use Rattle.bac_data.proofs.LeastLemmas.{least_more, least_none}
use Rattle.bac_field_parts.specs.declared.field.Field.{Field}
use Rattle.bac_field_parts.specs.declared.making.Fault.{Fault}
use Rattle.bac_field_parts.specs.Symbols.{Symbol, IsStop, IfStop, symbols_in, behind}
use Rattle.bac_field_parts.specs.Laws.Making.{symbols_length, symbols_after, stop_behind}
use Rattle.bac_field_parts.specs.Laws.Rests.{event_said, Rests, numbers_after, rest_after}
use Rattle.bac_field_parts.specs.Laws.Groups.{Stepped}

module _ (octets : List ℕ) (fields : List Field) where
  -- So many fields are elements, by which these groups are open, and their octets are appended. What stops after them stops
  -- the value.
  pub record HasStepped (taken : ℕ) (s : List ℕ) (old new : List ℕ) : Type 0 where
    pub following : List Event
    pub within : taken ≤ length fields
    pub numbers : AllByRecursion (λ k. k ≤ 254) s
    pub opened : Opens 32 [] following s
    pub is_said : take (3 * taken) (symbols_in octets fields) ≡ flat_map event_said following
    pub appended : AppendsLeast (SpellsEvents following) old new
    pub stops : (p : ℕ) → IsStop (Rests s) (symbols_in octets (drop taken fields)) p → IsStop (Rests []) (symbols_in octets fields) (3 * taken + p)

  pub steps_none : (old : List ℕ) → HasStepped 0 [] old old
  steps_none old = record {
    following = [];
    within = omega arith;
    numbers = tt;
    opened = refl;
    is_said = refl;
    appended = record { more = []; is_least = least_none [] refl; new_is = sym (append-nil old) };
    stops = λ p h. subst (λ (k : ℕ). IsStop (Rests []) (symbols_in octets fields) k) (omega arith) h;
  }

  pub steps_more : (taken : ℕ) (s t : List ℕ) (old mid new : List ℕ) → HasStepped taken s old mid → Stepped (symbols_in octets (drop taken fields)) s t mid new → HasStepped (taken + 1) t old new
  steps_more taken s t old mid new h e =
      let after : symbols_in octets (drop taken fields) ≡ drop (3 * taken) (symbols_in octets fields) = sym (symbols_after octets fields taken h.within) in
      let one : 1 ≤ length (drop taken fields) = omega (arith, e.within, symbols_length octets (drop taken fields)) in
      let next : drop 3 (symbols_in octets (drop taken fields)) ≡ symbols_in octets (drop (taken + 1) fields) = symbols_after octets (drop taken fields) 1 one ∙ ap (symbols_in octets) (drop-drop 1 taken fields) in
      let whole : symbols_in octets (drop taken fields) ≡ event_said e.made ++ symbols_in octets (drop (taken + 1) fields) =
      sym (take-append-drop 3 (symbols_in octets (drop taken fields))) ∙ ap (λ (l : List Symbol). l ++ drop 3 (symbols_in octets (drop taken fields))) e.is_said ∙ ap (λ (l : List Symbol). event_said e.made ++ l) next in
      let long : 3 * taken ≤ length (symbols_in octets fields) = omega (arith, h.within, symbols_length octets fields) in
      let front : length (take (3 * taken) (symbols_in octets fields)) ≡ 3 * taken = length-take-le (3 * taken) (symbols_in octets fields) long in
      let parts : take (3 * (taken + 1)) (symbols_in octets fields) ≡ take (3 * taken) (symbols_in octets fields) ++ take 3 (symbols_in octets (drop taken fields)) =
      ap (λ (k : ℕ). take k (symbols_in octets fields)) (omega arith) ∙ ap (λ (l : List Symbol). take (3 * taken + 3) l) (sym (take-append-drop (3 * taken) (symbols_in octets fields)))
      ∙ ap (λ (k : ℕ). take (k + 3) (take (3 * taken) (symbols_in octets fields) ++ drop (3 * taken) (symbols_in octets fields))) (sym front)
      ∙ take-append-add (take (3 * taken) (symbols_in octets fields)) (drop (3 * taken) (symbols_in octets fields)) 3
      ∙ ap (λ (l : List Symbol). take (3 * taken) (symbols_in octets fields) ++ take 3 l) (sym after) in
      record {
        following = h.following ++ e.made ∷ [];
        within = omega (arith, h.within, one, length-drop taken fields);
        numbers = numbers_after s e.made t e.appended.more h.numbers e.opens e.appended.is_least.member;
        opened = Opens-append 32 h.following (e.made ∷ []) [] s t h.opened e.opens;
        is_said = parts ∙ ap (λ (l : List Symbol). l ++ take 3 (symbols_in octets (drop taken fields))) h.is_said ∙ ap (λ (l : List Symbol). flat_map event_said h.following ++ l) (e.is_said ∙ sym (append-nil (event_said e.made)))
            ∙ sym (flat_map-append event_said h.following (e.made ∷ []));
        appended = record {
          more = h.appended.more ++ e.appended.more;
          is_least = least_more h.following e.made h.appended.more e.appended.more h.appended.is_least e.appended.is_least;
          new_is = e.appended.new_is ∙ ap (λ (l : List ℕ). l ++ e.appended.more) h.appended.new_is ∙ append_assoc old h.appended.more e.appended.more;
        };
        stops = λ p stop.
            let here = rest_after s e.made t e.appended.more (symbols_in octets (drop (taken + 1) fields)) p h.numbers e.opens e.appended.is_least.member stop in
            let there : IsStop (Rests s) (symbols_in octets (drop taken fields)) (3 + p) = subst (λ (l : List Symbol). IsStop (Rests s) l (3 + p)) (sym whole) here in
            subst (λ (k : ℕ). IsStop (Rests []) (symbols_in octets fields) k) (omega arith) (h.stops (3 + p) there);
      }

  pub steps_stopped : (taken : ℕ) (s : List ℕ) (old new : List ℕ) (fault : Fault) → HasStepped taken s old new → IfStop fault (IsStop (Rests s) (symbols_in octets (drop taken fields))) → IfStop (behind taken fault) (IsStop (Rests []) (symbols_in octets fields))
  steps_stopped taken s old new fault h stop = stop_behind fault taken _ _ (λ p g. h.stops p g) stop
