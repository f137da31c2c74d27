-- The languages of the forms of parts.
use Rattle.std.specs.Prelude.{◌≡◌, ℕ, ◌+◌, ◌≤◌, ◌⊎◌, List, [], ◌∷◌, ◌++◌, length, take, drop, Bool, ◌&&◌, not, IsTrue, Option, None, Some, refl}
use Rattle.std.specs.List.{flat_map}
use Rattle.std.specs.Option.{option_map_or}
use Rattle.std.proofs.Common.{sym, ◌∙◌, ap, subst, inl, inr, append_assoc}
use Rattle.std.proofs.lemmas.List.{append_cancel_left}
use Rattle.std.proofs.lemmas.Bool.{and_parts}
use Rattle.bac_tag.specs.declared.refusals.Why.TheVariants.{Tag}
use Rattle.bac_tag.specs.Spelling.{IsRefusal, Joined, OneOf}
use Rattle.bac_tag.specs.Laws.Spelling.{refused_alike}
use Rattle.bac_productions.specs.Productions.{Optional, Items}
use Rattle.bac_field_parts.specs.Symbols.{Symbol, lead_of, has, disjoint, Says, Language, Opens, Lawful, IsStop}
use Rattle.bac_field_parts.specs.Laws.Languages.{opens_apart, opens_left, opens_right, opens_more, both_lawful, both_stop_first, both_stop_second, either_lawful, either_stop_first, either_stop_second, lawful_alike, stop_alike}

pub joined_stop : (L M : Unit {0} → List Symbol → Type 0) (es : List Symbol) (p : ℕ) → IsRefusal (Joined L M) es (record { place = p; why = Tag }) → IsStop (λ (u : Unit {0}). Joined L M (tt, tt)) es p
joined_stop L M es p h = refused_alike (Joined L M) (λ (u : Unit {0}). Joined L M (tt, tt)) es (record { place = p; why = Tag }) to (λ u b j. ((tt, tt), j)) h
  where
    to : (x : Unit {0} × Unit {0}) (b : List Symbol) → Joined L M x b → (y : Unit {0}) × Joined L M (tt, tt) b
    to x b j = (tt, j)

-- ---- pairs, optional parts and lists, of languages

module _ {V W : Type 0} (f : V → List Symbol) (g : W → List Symbol) (S : V → List ℕ → Type 0) (T : W → List ℕ → Type 0) where
  abbrev pub pair_said : V × W → List Symbol
  pair_said p = f p.0 ++ g p.1

  pub pair_to : (es : List Symbol) → Joined (Language f S) (Language g T) (tt, tt) es → Language pair_said (Joined S T) tt es
  pair_to es j = (
    (j.first.0, j.second.0),
    record {
      octets = j.first.1.octets ++ j.second.1.octets;
      spelled = record { front = j.first.1.octets; back = j.second.1.octets; first = j.first.1.spelled; second = j.second.1.spelled; octets = refl };
      is_said = j.octets ∙ ap (λ (l : List Symbol). l ++ j.back) j.first.1.is_said ∙ ap (λ (l : List Symbol). f j.first.0 ++ l) j.second.1.is_said;
    },
  )

  pub pair_from : (es : List Symbol) → Language pair_said (Joined S T) tt es → Joined (Language f S) (Language g T) (tt, tt) es
  pair_from es l =
      let s = l.1.spelled in
      record {
        front = f l.0.0;
        back = g l.0.1;
        first = (l.0.0, record { octets = s.front; spelled = s.first; is_said = refl });
        second = (l.0.1, record { octets = s.back; spelled = s.second; is_said = refl });
        octets = l.1.is_said;
      }

  abbrev pub maybe_said : Option V × W → List Symbol
  maybe_said p = option_map_or f p.0 [] ++ g p.1

  abbrev pub Maybe : Unit {0} → List Symbol → Type 0
  Maybe = Language maybe_said (Joined (Optional S) T)

  pub maybe_to : (es : List Symbol) → Joined (Language f S) (Language g T) (tt, tt) es ⊎ Language g T tt es → Maybe tt es
  maybe_to es (inl j) = (
    (Some j.first.0, j.second.0),
    record {
      octets = j.first.1.octets ++ j.second.1.octets;
      spelled = record { front = j.first.1.octets; back = j.second.1.octets; first = j.first.1.spelled; second = j.second.1.spelled; octets = refl };
      is_said = j.octets ∙ ap (λ (l : List Symbol). l ++ j.back) j.first.1.is_said ∙ ap (λ (l : List Symbol). f j.first.0 ++ l) j.second.1.is_said;
    },
  )
  maybe_to es (inr l) = (
    (None, l.0),
    record { octets = l.1.octets; spelled = record { front = []; back = l.1.octets; first = refl; second = l.1.spelled; octets = refl }; is_said = l.1.is_said },
  )

  maybe_cases : (o : Option V) (w : W) (es : List Symbol) → Says maybe_said (Joined (Optional S) T) (o, w) es → Joined (Language f S) (Language g T) (tt, tt) es ⊎ Language g T tt es
  maybe_cases None w es h = inr (w, record { octets = h.spelled.back; spelled = h.spelled.second; is_said = h.is_said })
  maybe_cases (Some v) w es h = inl (record {
    front = f v;
    back = g w;
    first = (v, record { octets = h.spelled.front; spelled = h.spelled.first; is_said = refl });
    second = (w, record { octets = h.spelled.back; spelled = h.spelled.second; is_said = refl });
    octets = h.is_said;
  })

  pub maybe_from : (es : List Symbol) → Maybe tt es → Joined (Language f S) (Language g T) (tt, tt) es ⊎ Language g T tt es
  maybe_from es l = maybe_cases l.0.0 l.0.1 es l.1

  abbrev pub list_said : List V × W → List Symbol
  list_said p = flat_map f p.0 ++ g p.1

  abbrev pub Listing : Unit {0} → List Symbol → Type 0
  Listing = Language list_said (Joined (Items S) T)

  pub list_to : (es : List Symbol) → Joined (Language f S) Listing (tt, tt) es ⊎ Language g T tt es → Listing tt es
  list_to es (inl j) =
      let rest = j.second.1.spelled in (
        (j.first.0 ∷ j.second.0.0, j.second.0.1),
        record {
          octets = (j.first.1.octets ++ rest.front) ++ rest.back;
          spelled = record {
            front = j.first.1.octets ++ rest.front;
            back = rest.back;
            first = record { front = j.first.1.octets; back = rest.front; first = j.first.1.spelled; second = rest.first; octets = refl };
            second = rest.second;
            octets = refl;
          };
          is_said = j.octets ∙ ap (λ (l : List Symbol). l ++ j.back) j.first.1.is_said ∙ ap (λ (l : List Symbol). f j.first.0 ++ l) j.second.1.is_said
              ∙ sym (append_assoc (f j.first.0) (flat_map f j.second.0.0) (g j.second.0.1));
        },
      )
  list_to es (inr l) = (
    ([], l.0),
    record { octets = l.1.octets; spelled = record { front = []; back = l.1.octets; first = refl; second = l.1.spelled; octets = refl }; is_said = l.1.is_said },
  )

  list_cases : (vs : List V) (w : W) (es : List Symbol) → Says list_said (Joined (Items S) T) (vs, w) es → Joined (Language f S) Listing (tt, tt) es ⊎ Language g T tt es
  list_cases [] w es h = inr (w, record { octets = h.spelled.back; spelled = h.spelled.second; is_said = h.is_said })
  list_cases (v ∷ vs) w es h =
      let items = h.spelled.first in
      inl (record {
        front = f v;
        back = flat_map f vs ++ g w;
        first = (v, record { octets = items.front; spelled = items.first; is_said = refl });
        second = (
          (vs, w),
          record {
            octets = items.back ++ h.spelled.back;
            spelled = record { front = items.back; back = h.spelled.back; first = items.second; second = h.spelled.second; octets = refl };
            is_said = refl;
          },
        );
        octets = h.is_said ∙ append_assoc (f v) (flat_map f vs) (g w);
      })

  pub list_from : (es : List Symbol) → Listing tt es → Joined (Language f S) Listing (tt, tt) es ⊎ Language g T tt es
  list_from es l = list_cases l.0.0 l.0.1 es l.1

  abbrev pub either_said : V ⊎ W → List Symbol
  either_said (inl v) = f v
  either_said (inr w) = g w

  abbrev pub Choice : Unit {0} → List Symbol → Type 0
  Choice = Language either_said (OneOf S T)

  pub choice_to : (es : List Symbol) → Language f S tt es ⊎ Language g T tt es → Choice tt es
  choice_to es (inl l) = (inl l.0, record { octets = l.1.octets; spelled = l.1.spelled; is_said = l.1.is_said })
  choice_to es (inr l) = (inr l.0, record { octets = l.1.octets; spelled = l.1.spelled; is_said = l.1.is_said })

  choice_cases : (x : V ⊎ W) (es : List Symbol) → Says either_said (OneOf S T) x es → Language f S tt es ⊎ Language g T tt es
  choice_cases (inl v) es h = inl (v, record { octets = h.octets; spelled = h.spelled; is_said = h.is_said })
  choice_cases (inr w) es h = inr (w, record { octets = h.octets; spelled = h.spelled; is_said = h.is_said })

  pub choice_from : (es : List Symbol) → Choice tt es → Language f S tt es ⊎ Language g T tt es
  choice_from es l = choice_cases l.0 es l.1

  -- ---- their laws, and where they stop

  module _ (leads others : List (Option ℕ)) (first : Lawful (Language f S) leads) (second : Lawful (Language g T) others) where
    pub pair_lawful : Lawful (Language pair_said (Joined S T)) leads
    pair_lawful = lawful_alike (λ (u : Unit {0}). Joined (Language f S) (Language g T) (tt, tt)) (Language pair_said (Joined S T)) pair_to pair_from leads
        (both_lawful (Language f S) (Language g T) leads others first second)

    pub pair_stop_first : (es : List Symbol) (p : ℕ) → IsStop (Language f S) es p → IsStop (Language pair_said (Joined S T)) es p
    pair_stop_first es p h = stop_alike (λ (u : Unit {0}). Joined (Language f S) (Language g T) (tt, tt)) (Language pair_said (Joined S T)) pair_to pair_from es p
        (joined_stop (Language f S) (Language g T) es p (both_stop_first (Language f S) (Language g T) leads others first second es p h))

    pub pair_stop_second : (es : List Symbol) (n p : ℕ) → n ≤ length es → Language f S tt (take n es) → IsStop (Language g T) (drop n es) p → IsStop (Language pair_said (Joined S T)) es (n + p)
    pair_stop_second es n p within l h = stop_alike (λ (u : Unit {0}). Joined (Language f S) (Language g T) (tt, tt)) (Language pair_said (Joined S T)) pair_to pair_from es (n + p)
        (joined_stop (Language f S) (Language g T) es (n + p) (both_stop_second (Language f S) (Language g T) leads others first second es n p within l h))

    module _ (d : IsTrue (disjoint leads others)) where
      abbrev Present : Unit {0} → List Symbol → Type 0
      Present u = Joined (Language f S) (Language g T) (tt, tt)

      present : Lawful Present leads
      present = both_lawful (Language f S) (Language g T) leads others first second

      pub choice_lawful : Lawful Choice (leads ++ others)
      choice_lawful = lawful_alike _ Choice choice_to choice_from (leads ++ others) (either_lawful (Language f S) (Language g T) leads others first second d)

      pub choice_stop_first : (k : Symbol) (es : List Symbol) (p : ℕ) → IsTrue (has leads (lead_of k)) → IsStop (Language f S) (k ∷ es) p → IsStop Choice (k ∷ es) p
      choice_stop_first k es p h stop = stop_alike _ Choice choice_to choice_from (k ∷ es) p (either_stop_first (Language f S) (Language g T) leads others first second d k es p h stop)

      pub choice_stop_second : (k : Symbol) (es : List Symbol) (p : ℕ) → (IsTrue (has leads (lead_of k)) → ⊥) → IsStop (Language g T) (k ∷ es) p → IsStop Choice (k ∷ es) p
      choice_stop_second k es p h stop = stop_alike _ Choice choice_to choice_from (k ∷ es) p (either_stop_second (Language f S) (Language g T) leads others first second d k es p h stop)

      pub maybe_lawful : Lawful Maybe (leads ++ others)
      maybe_lawful = lawful_alike _ Maybe maybe_to maybe_from (leads ++ others) (either_lawful Present (Language g T) leads others present second d)

      pub maybe_stop_present : (k : Symbol) (es : List Symbol) (p : ℕ) → IsTrue (has leads (lead_of k)) → IsStop (Language pair_said (Joined S T)) (k ∷ es) p → IsStop Maybe (k ∷ es) p
      maybe_stop_present k es p h stop = stop_alike _ Maybe maybe_to maybe_from (k ∷ es) p
          (either_stop_first Present (Language g T) leads others present second d k es p h (stop_alike (Language pair_said (Joined S T)) Present pair_from pair_to (k ∷ es) p stop))

      pub maybe_stop_absent : (k : Symbol) (es : List Symbol) (p : ℕ) → (IsTrue (has leads (lead_of k)) → ⊥) → IsStop (Language g T) (k ∷ es) p → IsStop Maybe (k ∷ es) p
      maybe_stop_absent k es p h stop = stop_alike _ Maybe maybe_to maybe_from (k ∷ es) p
          (either_stop_second Present (Language g T) leads others present second d k es p h stop)

      list_ends : (vs ws : List V) (w x : W) (b c r s : List Symbol) → Says list_said (Joined (Items S) T) (vs, w) b → Says list_said (Joined (Items S) T) (ws, x) c → b ++ r ≡ c ++ s → b ≡ c
      list_ends [] [] w x b c r s h k e =
          let l : Language g T tt b = (w, record { octets = h.spelled.back; spelled = h.spelled.second; is_said = h.is_said }) in
          let m : Language g T tt c = (x, record { octets = k.spelled.back; spelled = k.spelled.second; is_said = k.is_said }) in
          (second.ends tt tt b c r s l m e).0
      list_ends (v ∷ vs) [] w x b c r s h k e =
          let l : Language f S tt (f v) = (v, record { octets = h.spelled.first.front; spelled = h.spelled.first.first; is_said = refl }) in
          let m : Language g T tt c = (x, record { octets = k.spelled.back; spelled = k.spelled.second; is_said = k.is_said }) in
          absurd (opens_apart leads others (f v) c ((flat_map f vs ++ g w) ++ r) s d (first.opens (f v) l) (second.opens c m)
          (sym (append_assoc (f v) (flat_map f vs ++ g w) r) ∙ ap (λ (t : List Symbol). t ++ r) (sym (append_assoc (f v) (flat_map f vs) (g w)) ∙ sym h.is_said) ∙ e))
      list_ends [] (v ∷ vs) w x b c r s h k e =
          let m : Language f S tt (f v) = (v, record { octets = k.spelled.first.front; spelled = k.spelled.first.first; is_said = refl }) in
          let l : Language g T tt b = (w, record { octets = h.spelled.back; spelled = h.spelled.second; is_said = h.is_said }) in
          absurd (opens_apart leads others (f v) b ((flat_map f vs ++ g x) ++ s) r d (first.opens (f v) m) (second.opens b l)
          (sym (append_assoc (f v) (flat_map f vs ++ g x) s) ∙ ap (λ (t : List Symbol). t ++ s) (sym (append_assoc (f v) (flat_map f vs) (g x)) ∙ sym k.is_said) ∙ sym e))
      list_ends (v ∷ vs) (y ∷ ws) w x b c r s h k e =
          let l : Language f S tt (f v) = (v, record { octets = h.spelled.first.front; spelled = h.spelled.first.first; is_said = refl }) in
          let m : Language f S tt (f y) = (y, record { octets = k.spelled.first.front; spelled = k.spelled.first.first; is_said = refl }) in
          let parts : (z : V) (zs : List V) (q : W) (t u : List Symbol) → t ≡ list_said (z ∷ zs, q) → t ++ u ≡ f z ++ ((flat_map f zs ++ g q) ++ u) = λ z zs q t u is.
          ap (λ (o : List Symbol). o ++ u) (is ∙ append_assoc (f z) (flat_map f zs) (g q)) ∙ append_assoc (f z) (flat_map f zs ++ g q) u in
          let whole : f v ++ ((flat_map f vs ++ g w) ++ r) ≡ f y ++ ((flat_map f ws ++ g x) ++ s) = sym (parts v vs w b r h.is_said) ∙ e ∙ parts y ws x c s k.is_said in
          let heads : f v ≡ f y = (first.ends tt tt (f v) (f y) _ _ l m whole).0 in
          let tails : (flat_map f vs ++ g w) ++ r ≡ (flat_map f ws ++ g x) ++ s = append_cancel_left (f v) _ _ (whole ∙ ap (λ (t : List Symbol). t ++ ((flat_map f ws ++ g x) ++ s)) (sym heads)) in
          let rest = list_ends vs ws w x (flat_map f vs ++ g w) (flat_map f ws ++ g x) r s
          (record { octets = h.spelled.first.back ++ h.spelled.back; spelled = record { front = h.spelled.first.back; back = h.spelled.back; first = h.spelled.first.second; second = h.spelled.second; octets = refl }; is_said = refl })
          (record { octets = k.spelled.first.back ++ k.spelled.back; spelled = record { front = k.spelled.first.back; back = k.spelled.back; first = k.spelled.first.second; second = k.spelled.second; octets = refl }; is_said = refl })
          tails in
          h.is_said ∙ append_assoc (f v) (flat_map f vs) (g w) ∙ ap (λ (t : List Symbol). t ++ (flat_map f vs ++ g w)) heads ∙ ap (λ (t : List Symbol). f y ++ t) rest ∙ sym (append_assoc (f y) (flat_map f ws) (g x)) ∙ sym k.is_said

      list_opens : (es : List Symbol) → Joined (Language f S) Listing (tt, tt) es ⊎ Language g T tt es → Opens (leads ++ others) es
      list_opens es (inl j) = opens_left leads others es (subst (λ (l : List Symbol). Opens leads l) (sym j.octets) (opens_more leads j.front j.back (first.opens j.front j.first)))
      list_opens es (inr l) = opens_right leads others es (second.opens es l)

      pub list_lawful : Lawful Listing (leads ++ others)
      list_lawful = record {
        opens = λ es l. list_opens es (list_from es l);
        ends = λ u v b c r s l m e. (list_ends l.0.0 m.0.0 l.0.1 m.0.1 b c r s l.1 m.1 e, refl);
        some = (second.some.0, list_to second.some.0 (inr second.some.1));
      }

      abbrev Longer : Unit {0} → List Symbol → Type 0
      Longer u = Joined (Language f S) Listing (tt, tt)

      longer : Lawful Longer leads
      longer = both_lawful (Language f S) Listing leads (leads ++ others) first list_lawful

      pub list_stop_part : (k : Symbol) (es : List Symbol) (p : ℕ) → IsTrue (has leads (lead_of k)) → IsStop (Language f S) (k ∷ es) p → IsStop Listing (k ∷ es) p
      list_stop_part k es p h stop = stop_alike _ Listing list_to list_from (k ∷ es) p
          (either_stop_first Longer (Language g T) leads others longer second d k es p h
          (joined_stop (Language f S) Listing (k ∷ es) p (both_stop_first (Language f S) Listing leads (leads ++ others) first list_lawful (k ∷ es) p stop)))

      pub list_stop_then : (k : Symbol) (es : List Symbol) (n p : ℕ) → IsTrue (has leads (lead_of k)) → n ≤ length (k ∷ es) → Language f S tt (take n (k ∷ es)) → IsStop Listing (drop n (k ∷ es)) p → IsStop Listing (k ∷ es) (n + p)
      list_stop_then k es n p h within l stop = stop_alike _ Listing list_to list_from (k ∷ es) (n + p)
          (either_stop_first Longer (Language g T) leads others longer second d k es (n + p) h
          (joined_stop (Language f S) Listing (k ∷ es) (n + p) (both_stop_second (Language f S) Listing leads (leads ++ others) first list_lawful (k ∷ es) n p within l stop)))

      pub list_stop_end : (k : Symbol) (es : List Symbol) (p : ℕ) → (IsTrue (has leads (lead_of k)) → ⊥) → IsStop (Language g T) (k ∷ es) p → IsStop Listing (k ∷ es) p
      list_stop_end k es p h stop = stop_alike _ Listing list_to list_from (k ∷ es) p
          (either_stop_second Longer (Language g T) leads others longer second d k es p h stop)

-- ---- the laws of sound parts

pub pair_sound : {V W : Type 0} (f : V → List Symbol) (g : W → List Symbol) (S : V → List ℕ → Type 0) (T : W → List ℕ → Type 0) (a b end : Bool) (leads others : List (Option ℕ))
    → (IsTrue a → Lawful (Language f S) leads) → (IsTrue b → Lawful (Language g T) others) → IsTrue (a && (b && not end)) → Lawful (Language (pair_said f g S T) (Joined S T)) leads
pair_sound f g S T a b end leads others first second sound =
    let p = and_parts a (b && not end) sound in
    pair_lawful f g S T leads others (first p.0) (second (and_parts b (not end) p.1).0)

pub maybe_sound : {V W : Type 0} (f : V → List Symbol) (g : W → List Symbol) (S : V → List ℕ → Type 0) (T : W → List ℕ → Type 0) (a b end : Bool) (leads others : List (Option ℕ))
    → (IsTrue a → Lawful (Language f S) leads) → (IsTrue b → Lawful (Language g T) others) → IsTrue (a && (b && (not end && disjoint leads others))) → Lawful (Maybe f g S T) (leads ++ others)
maybe_sound f g S T a b end leads others first second sound =
    let p = and_parts a _ sound in
    let q = and_parts b _ p.1 in
    maybe_lawful f g S T leads others (first p.0) (second q.0) (and_parts (not end) _ q.1).1

pub list_sound : {V W : Type 0} (f : V → List Symbol) (g : W → List Symbol) (S : V → List ℕ → Type 0) (T : W → List ℕ → Type 0) (a b end : Bool) (leads others : List (Option ℕ))
    → (IsTrue a → Lawful (Language f S) leads) → (IsTrue b → Lawful (Language g T) others) → IsTrue (a && (b && (not end && disjoint leads others))) → Lawful (Listing f g S T) (leads ++ others)
list_sound f g S T a b end leads others first second sound =
    let p = and_parts a _ sound in
    let q = and_parts b _ p.1 in
    list_lawful f g S T leads others (first p.0) (second q.0) (and_parts (not end) _ q.1).1

pub either_sound : {V W : Type 0} (f : V → List Symbol) (g : W → List Symbol) (S : V → List ℕ → Type 0) (T : W → List ℕ → Type 0) (a b e h : Bool) (leads others : List (Option ℕ))
    → (IsTrue a → Lawful (Language f S) leads) → (IsTrue b → Lawful (Language g T) others) → IsTrue (a && (b && (not (e && not h) && (not (h && not e) && disjoint leads others)))) → Lawful (Choice f g S T) (leads ++ others)
either_sound f g S T a b e h leads others first second sound =
    let p = and_parts a _ sound in
    let q = and_parts b _ p.1 in
    let r = and_parts (not (e && not h)) _ q.1 in
    choice_lawful f g S T leads others (first p.0) (second q.0) (and_parts (not (h && not e)) _ r.1).1
