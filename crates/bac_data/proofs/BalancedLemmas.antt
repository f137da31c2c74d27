-- Events that open and close in order are those of a value.
use Rattle.std.proofs.Common.{◌≡◌, ℕ, ◌+◌, ◌≤◌, List, [], ◌∷◌, ◌++◌, length, refl, sym, ◌∙◌, ap, subst, arith, append_assoc}
use Rattle.bac_data.specs.OpenValue.{Element, primitive, context, group, Elements, none, more, element_depth, depth}
use Rattle.bac_data.specs.Events.{Event, application, contextual, opening, closing, element_events, events, Opens, levels, first_of, others_of, value_of_events}
use Rattle.bac_data.proofs.OpenLemmas.{Opens-split, Opens-one, element-opens}

-- how deep a value nests where its events fit
mutual
  pub element_depth-opens : (limit : ℕ) (e : Element) (s t : List ℕ) → length s ≤ limit → Opens limit s (element_events e) t → length s + element_depth e ≤ limit
  element_depth-opens limit (primitive prim) s t l o = omega arith
  element_depth-opens limit (context number octets) s t l o = omega arith
  element_depth-opens limit (group n v) s t l (h, o) =
      let (u, a, b) = Opens-split limit (events v) (closing n ∷ []) (n ∷ s) t o in
      let d = depth-opens limit v (n ∷ s) u (omega arith) a in omega (arith, d)

  pub depth-opens : (limit : ℕ) (v : Elements) (s t : List ℕ) → length s ≤ limit → Opens limit s (events v) t → length s + depth v ≤ limit
  depth-opens limit none s t l o = omega arith
  depth-opens limit (more e v) s t l o =
      let (u, a, b) = Opens-split limit (element_events e) (events v) s t o in
      let first = element_depth-opens limit e s u l a in
      let same : u ≡ s = Opens-one limit (element_events e) s u s a (element-opens limit e s first) in
      let rest = depth-opens limit v s t l (subst (λ z. Opens limit z (events v) t) same b) in omega (arith, first, rest)

-- these values, each but the first behind the end of a group that is open, have these events
Rebuilds : Elements → List Elements → List ℕ → List Event → Type 0
Rebuilds v [] [] es = es ≡ events v
Rebuilds v [] (k ∷ s) es = ⊥
Rebuilds v (w ∷ ws) [] es = ⊥
Rebuilds v (w ∷ ws) (k ∷ s) es = (fs : List Event) × (es ≡ events v ++ closing k ∷ fs) × Rebuilds w ws s fs

-- one element in front
in_front : (v u : Elements) (e : Event) (vs : List Elements) (s : List ℕ) (es : List Event) → events u ≡ e ∷ events v → Rebuilds v vs s es → Rebuilds u vs s (e ∷ es)
unfolding Rebuilds
in_front v u e [] [] es i h = ap (λ l. e ∷ l) h ∙ sym i
in_front v u e [] (k ∷ s) es i h = h
in_front v u e (w ∷ ws) [] es i h = h
in_front v u e (w ∷ ws) (k ∷ s) es i (fs, j, r) = (fs, ap (λ l. e ∷ l) j ∙ ap (λ l. l ++ closing k ∷ fs) (sym i), r)

group_events : (n : ℕ) (v w : Elements) → events (more (group n v) w) ≡ opening n ∷ (events v ++ closing n ∷ events w)
group_events n v w = ap (λ l. opening n ∷ l) (append_assoc (events v) (closing n ∷ []) (events w))

-- a group that opens here
pub record InGroup (v : Elements) (n : ℕ) (vs : List Elements) (s : List ℕ) (es : List Event) : Type 0 where
  after : Elements
  others : List Elements
  are : vs ≡ after ∷ others
  rebuilt : Rebuilds (more (group n v) after) others s (opening n ∷ es)

in_group : (v : Elements) (n : ℕ) (vs : List Elements) (s : List ℕ) (es : List Event) → Rebuilds v vs (n ∷ s) es → InGroup v n vs s es
unfolding Rebuilds
in_group v n [] s es h = absurd h
in_group v n (w ∷ []) [] es (fs, j, r) = record {
  after = w;
  others = [];
  are = refl;
  rebuilt = ap (λ l. opening n ∷ l) (j ∙ ap (λ l. events v ++ closing n ∷ l) r) ∙ sym (group_events n v w);
}
in_group v n (w ∷ []) (k ∷ s) es (fs, j, r) = absurd r
in_group v n (w ∷ x ∷ ws) [] es (fs, j, r) = absurd r
in_group v n (w ∷ x ∷ ws) (k ∷ s) es (fs, j, (gs, i, r)) = record {
  after = w;
  others = x ∷ ws;
  are = refl;
  rebuilt = (
    gs,
    ap (λ l. opening n ∷ l) (j ∙ ap (λ l. events v ++ closing n ∷ l) i ∙ sym (append_assoc (events v) (closing n ∷ events w) (closing k ∷ gs))) ∙ ap (λ l. l ++ closing k ∷ gs) (sym (group_events n v w)),
    r,
  );
}

rebuilds : (limit : ℕ) (es : List Event) (s : List ℕ) → Opens limit s es [] → Rebuilds (levels es).0 (levels es).1 s es
unfolding Rebuilds
rebuilds limit [] [] o = refl
rebuilds limit [] (k ∷ s) o = absurd (let i : k ∷ s ≡ [] = o in cc)
rebuilds limit (application prim ∷ es) s o = in_front (levels es).0 (more (primitive prim) (levels es).0) (application prim) (levels es).1 s es refl (rebuilds limit es s o)
rebuilds limit (contextual n q ∷ es) s o = in_front (levels es).0 (more (context n q) (levels es).0) (contextual n q) (levels es).1 s es refl (rebuilds limit es s o)
rebuilds limit (opening n ∷ es) s (l, o) =
    let h = in_group (levels es).0 n (levels es).1 s es (rebuilds limit es (n ∷ s) o) in
    subst (λ z. Rebuilds (more (group n (levels es).0) (first_of z)) (others_of z) s (opening n ∷ es)) (sym h.are) h.rebuilt
rebuilds limit (closing n ∷ es) s (r, i, o) = subst (λ z. Rebuilds none ((levels es).0 ∷ (levels es).1) z (closing n ∷ es)) (sym i) (es, refl, rebuilds limit es r o)

alone : (v : Elements) (vs : List Elements) (es : List Event) → Rebuilds v vs [] es → events v ≡ es
unfolding Rebuilds
alone v [] es h = sym h
alone v (w ∷ ws) es h = absurd h

-- the value that has these events
pub events-value_of_events : (limit : ℕ) (es : List Event) → Opens limit [] es [] → (events (value_of_events es) ≡ es) × (depth (value_of_events es) ≤ limit)
events-value_of_events limit es o =
    let e : events (value_of_events es) ≡ es = alone (levels es).0 (levels es).1 es (rebuilds limit es [] o) in
    (e, (let d = depth-opens limit (value_of_events es) [] [] (omega arith) (subst (λ l. Opens limit [] l []) (sym e) o) in omega (arith, d)))
