-- The nodes of a value that is being read, step by step.
use Rattle.std.proofs.Common.{◌≡◌, ℕ, ◌+◌, ◌-◌, ◌<◌, ◌≤◌, suc, zero, Some, List, [], ◌∷◌, ◌++◌, reverse, set, take, length, map, refl, sym, ◌∙◌, ap, subst, arith, length-append}
use Rattle.std.specs.Prelude.{slice_get}
use Rattle.std.specs.List.{AllByRecursion}
use Rattle.std.proofs.lemmas.List.{length-map, length-take, reverse-append, reverse-reverse}
use Rattle.std.proofs.lemmas.Option.{none-some, same_Some, slice_get_within}
use Rattle.bac_data.specs.declared.nodes.Node.{Node}
use Rattle.bac_data.specs.declared.nodes.Node.TheVariants as node
use Rattle.bac_data.specs.declared.short_nodes.ShortNode.{ShortNode}
use Rattle.bac_data.specs.declared.listing.Listing.{Listing}
use Rattle.bac_data.specs.ShortNodes.{wide_node, IsShort}
use Rattle.bac_data.specs.Events.{Event, application, contextual, opening, closing, events, Opens, SpellsEvent}
use Rattle.bac_data.specs.Building.{closing_number}
use Rattle.bac_data.specs.NodeEvents.{AreBegun, AreNodes, NodeFor, MayList}
use Rattle.bac_data.specs.Listings.{all_nodes, listed_nodes, IsSoundListing, SameGroups, Linked, Listed, Lists, MayAdd}
use Rattle.bac_data.proofs.HeldSteps.{nothing_listed}
use Rattle.bac_data.proofs.NodeLemmas.{kept_groups, from_reverse, slice_get_at, listed_primitive, listed_open, listed_close}
use Rattle.bac_data.proofs.OpenLemmas.{Opens-append}

-- ---- elements by index

-- an element of a list has its place before what is behind
get_front : {A : Type 0} (xs ys : List A) (i : ℕ) (x : A) → slice_get xs i ≡ Some x → slice_get (xs ++ ys) i ≡ Some x
get_front [] ys i x e = absurd (none-some x e)
get_front (z ∷ xs) ys zero x e = e
get_front (z ∷ xs) ys (suc i) x e = get_front xs ys i x e

-- another element stays where one was written
get_other : {A : Type 0} (xs : List A) (j : ℕ) (y : A) (i : ℕ) → i < j → slice_get (set xs j y) i ≡ slice_get xs i
get_other [] j y i h = refl
get_other (z ∷ xs) zero y i h = absurd (omega (arith, h))
get_other (z ∷ xs) (suc j) y zero h = refl
get_other (z ∷ xs) (suc j) y (suc i) h = get_other xs j y i (omega (arith, h))

-- an element that was written among the first
pub take_written : {A : Type 0} (n : ℕ) (xs : List A) (i : ℕ) (y : A) → take n (set xs i y) ≡ set (take n xs) i y
take_written {A} zero xs i y = refl
take_written {A} (suc n) [] i y = refl
take_written {A} (suc n) (x ∷ xs) zero y = refl
take_written {A} (suc n) (x ∷ xs) (suc i) y = ap (λ (l : List A). x ∷ l) (take_written n xs i y)

-- ---- few nodes, or many

pub many_alone : (few : List ShortNode) (ns : List Node) → (ns ≡ [] → ⊥) → all_nodes few ns ≡ ns
many_alone few [] some = absurd (some refl)
many_alone few (n ∷ ns) some = refl

pub few_alone : (few : List ShortNode) (ns : List Node) → ns ≡ [] → all_nodes few ns ≡ map wide_node few
few_alone few ns e = ap (all_nodes few) e

-- how many there are if they are few
pub few_count : (l : Listing) → IsSoundListing l → l.many.items ≡ [] → length (listed_nodes l) ≡ l.count
few_count l s e = ap length (few_alone (take l.count l.few) l.many.items e) ∙ length-map (take l.count l.few) wide_node ∙ (let short : length (take l.count l.few) ≡ l.count = omega (arith, length-take l.count l.few, s.places, s.most) in short)

-- ---- links

-- all of the indices are below this one
abbrev pub Below : List ℕ → ℕ → Type 0
Below [] n = Unit {0}
Below (i ∷ is) n = (i < n) × Below is n

below_more : (is : List ℕ) (m n : ℕ) → m ≤ n → Below is m → Below is n
below_more [] m n h b = tt
below_more (i ∷ is) m n h b = (omega (arith, h, b.0), below_more is m n h b.1)

-- open groups begin before the end of the events
begun_below : (es : List Event) (is ns : List ℕ) → AreBegun es is ns → Below is (length es)
begun_below es [] [] h = tt
begun_below es (i ∷ is) (n ∷ ns) (front, inner, e, l, rest) =
    let before : length front < length es = omega (arith, ap length e, length-append front (opening n ∷ events inner)) in
    (omega (arith, before, l), below_more is (length front) (length es) (omega (arith, before)) (begun_below front is ns rest))
begun_below es [] (n ∷ ns) h = absurd h
begun_below es (i ∷ is) [] h = absurd h

-- and each before the ones inside it
begun_inside : (es : List Event) (i : ℕ) (is : List ℕ) (n : ℕ) (ns : List ℕ) → AreBegun es (i ∷ is) (n ∷ ns) → Below is i
begun_inside es i is n ns (front, inner, e, l, rest) = subst (Below is) l (begun_below front is ns rest)

linked_more : (nodes : List Node) (n : Node) (is ns : List ℕ) (at : ℕ) → Linked nodes is ns at → Linked (nodes ++ n ∷ []) is ns at
linked_more nodes n [] [] at h = h
linked_more nodes n (i ∷ is) (k ∷ ns) at (e, outer, there, rest) = (e, outer, get_front nodes (n ∷ []) i (node.Open k outer) there, linked_more nodes n is ns outer rest)
linked_more nodes n [] (k ∷ ns) at h = absurd h
linked_more nodes n (i ∷ is) [] at h = absurd h

linked_set : (nodes : List Node) (j : ℕ) (n : Node) (is ns : List ℕ) (at : ℕ) → Below is j → Linked nodes is ns at → Linked (set nodes j n) is ns at
linked_set nodes j n [] [] at b h = h
linked_set nodes j n (i ∷ is) (k ∷ ns) at b (e, outer, there, rest) = (e, outer, get_other nodes j n i b.0 ∙ there, linked_set nodes j n is ns outer b.1 rest)
linked_set nodes j n [] (k ∷ ns) at b h = absurd h
linked_set nodes j n (i ∷ is) [] at b h = absurd h

-- the first index is one of a node, or there may be none
pub linked_within : (nodes : List Node) (is ns : List ℕ) (at : ℕ) → Linked nodes is ns at → at ≤ length nodes
linked_within nodes [] [] at h = omega (arith, h)
linked_within nodes (i ∷ is) (k ∷ ns) at (e, outer, there, rest) = let h = slice_get_within nodes i (node.Open k outer) there in omega (arith, e, h)
linked_within nodes [] (k ∷ ns) at h = absurd h
linked_within nodes (i ∷ is) [] at h = absurd h

-- the innermost group
pub record Inside (nodes : List Node) (is : List ℕ) (number : ℕ) (numbers : List ℕ) (at : ℕ) : Type 0 where
  pub outer : ℕ
  pub others : List ℕ
  pub indices_are : is ≡ at ∷ others
  pub there : slice_get nodes at ≡ Some (node.Open number outer)
  pub linked : Linked nodes others numbers outer

pub innermost : (nodes : List Node) (is : List ℕ) (number : ℕ) (numbers : List ℕ) (at : ℕ) → Linked nodes is (number ∷ numbers) at → Inside nodes is number numbers at
innermost nodes [] number numbers at h = absurd h
innermost nodes (i ∷ is) number numbers at (e, outer, there, rest) = record {
  outer = outer;
  others = is;
  indices_are = ap (λ (k : ℕ). k ∷ is) (sym e);
  there = ap (slice_get nodes) e ∙ there;
  linked = rest;
}

pub open_alike : {a b c d : ℕ} → node.Open a b ≡ node.Open c d → (a ≡ c) × (b ≡ d)
open_alike e = (cc, cc)

-- where some group is open, the innermost one has a number
pub innermost_there : (nodes : List Node) (is numbers : List ℕ) (at depth : ℕ) → depth ≡ length numbers → (depth ≡ 0 → ⊥) → Linked nodes is numbers at → (number : ℕ) × (outer : ℕ) × (slice_get nodes at ≡ Some (node.Open number outer))
innermost_there nodes is [] at depth deep some h = absurd (some deep)
innermost_there nodes is (n ∷ ns) at depth deep some h = let i = innermost nodes is n ns at h in (n, i.outer, i.there)

pub innermost_number : (nodes : List Node) (is numbers : List ℕ) (at depth value k o : ℕ) → depth ≡ length numbers → (depth ≡ 0 → ⊥) → Linked nodes is numbers at → slice_get nodes at ≡ Some (node.Open k o) → k ≡ closing_number value numbers
innermost_number nodes is [] at depth value k o deep some h there = absurd (some deep)
innermost_number nodes is (n ∷ ns) at depth value k o deep some h there =
    let i = innermost nodes is n ns at h in
    (open_alike (same_Some (node.Open k o) (node.Open n i.outer) (sym there ∙ i.there))).0

-- ---- one node more

-- the numbers that are open behind an event
small_behind : (e : Event) (before behind : List ℕ) → ((n : ℕ) → e ≡ opening n → n ≤ 254) → Opens 32 before (e ∷ []) behind → AllByRecursion (λ n. n ≤ 254) before → AllByRecursion (λ n. n ≤ 254) behind
small_behind (application prim) before behind few o s = subst (AllByRecursion (λ n. n ≤ 254)) o s
small_behind (contextual m octets) before behind few o s = subst (AllByRecursion (λ n. n ≤ 254)) o s
small_behind (opening m) before behind few o s = subst (AllByRecursion (λ n. n ≤ 254)) o.1 (few m refl, s)
small_behind (closing m) before behind few (r, e, f) s = subst (AllByRecursion (λ n. n ≤ 254)) f (let all = subst (AllByRecursion (λ n. n ≤ 254)) e s in all.1)

-- an opening has a number of one octet
valid_number : (e : Event) (b : List ℕ) → SpellsEvent e b → (n : ℕ) → e ≡ opening n → n ≤ 254
valid_number (application prim) b s n e = absurd (let u = e in cc)
valid_number (contextual m octets) b s n e = absurd (let u = e in cc)
valid_number (opening m) b s n e = let same : m ≡ n = cc in subst (λ (k : ℕ). k ≤ 254) same s.valid
valid_number (closing m) b s n e = absurd (let u = e in cc)

may_list : (number : ℕ) (e : Event) (end : ℕ) (l : Listing) (es : List Event) (octets more before behind : List ℕ) (m : MayAdd number e end l es octets more before behind)
    → MayList e end (listed_nodes l) m.lists.listed.indices es octets more before behind
may_list number e end l es octets more before behind m = record { are_nodes = m.lists.listed.are_nodes; opens = m.opens; least = m.least; ends = m.ends }

module _ (number : ℕ) (e : Event) (end : ℕ) (l : Listing) (es : List Event) (octets more before behind : List ℕ) (m : MayAdd number e end l es octets more before behind) where
  opened : Opens 32 [] (es ++ e ∷ []) behind
  opened = Opens-append 32 es (e ∷ []) [] before behind m.lists.listed.opened m.opens

  small : AllByRecursion (λ n. n ≤ 254) behind
  small = small_behind e before behind (valid_number e more m.least.member) m.opens m.lists.listed.small

  -- what is listed then, of a listing that is short as long as it has few nodes
  lists_then : (l' : Listing) → Listed number (listed_nodes l') l'.innermost l'.depth l'.closing (es ++ e ∷ []) (octets ++ more) behind → l'.number ≡ l.number → IsSoundListing l' → (l'.many.items ≡ [] → end ≤ 24)
      → Lists number l' (es ++ e ∷ []) (octets ++ more) behind
  lists_then l' h same sound few = record {
    listed = h;
    number_is = same ∙ m.lists.number_is;
    sound = sound;
    short = λ none. omega (arith, few none, m.ends, length-append octets more);
  }

  -- a primitive
  pub primitive_lists : (n : Node) → NodeFor e end n → (l' : Listing) → listed_nodes l' ≡ listed_nodes l ++ n ∷ [] → SameGroups l l' → IsSoundListing l' → (l'.many.items ≡ [] → end ≤ 24) → Lists number l' (es ++ e ∷ []) (octets ++ more) behind
  primitive_lists n f l' nodes same sound few =
      let d = m.lists.listed in
      let still : before ≡ behind = kept_groups e end n before behind f m.opens in
      lists_then l' (record {
        indices = d.indices;
        are_nodes = subst (λ (ns : List Node). AreNodes (es ++ e ∷ []) (octets ++ more) ns d.indices behind) (sym nodes)
            (listed_primitive (listed_nodes l) d.indices es octets more before behind end e n (may_list number e end l es octets more before behind m) f);
        linked = subst (λ (ns : List Node). Linked ns (reverse d.indices) behind l'.innermost) (sym nodes)
            (subst (λ (k : ℕ). Linked (listed_nodes l ++ n ∷ []) (reverse d.indices) behind k) (sym same.innermost)
            (subst (λ (gs : List ℕ). Linked (listed_nodes l ++ n ∷ []) (reverse d.indices) gs l.innermost) still (linked_more (listed_nodes l) n (reverse d.indices) before l.innermost d.linked)));
        opened = opened;
        small = small;
        depth_is = same.depth ∙ d.depth_is ∙ ap length still;
        closing_is = same.closing ∙ d.closing_is ∙ ap (closing_number number) still;
      }) same.number sound few

-- a primitive of a short value has a short node
pub short_for : (e : Event) (end : ℕ) (n : Node) → NodeFor e end n → end ≤ 24 → IsShort n
short_for e end (node.Boolean bit) f h = tt
short_for e end (node.Application number len start) (prim, is, same, other, long, sum) h = (omega (arith, sum, h), omega (arith, sum, h))
short_for e end (node.Context number len start) (contents, is, long, sum) h = (omega (arith, sum, h), omega (arith, sum, h))
short_for e end (node.Open number last) f h = absurd f
short_for e end (node.Close number) f h = absurd f

module _ (number k : ℕ) (end : ℕ) (l : Listing) (es : List Event) (octets more before behind : List ℕ) where
  -- a group that begins
  module _ (m : MayAdd number (opening k) end l es octets more before behind) where
    -- the index of the group around it is that of a node
    pub around_small : l.count < 6 → l.innermost < 256
    around_small few =
        let within = linked_within (listed_nodes l) (reverse m.lists.listed.indices) before l.innermost m.lists.listed.linked in
        omega (arith, within, few_count l m.lists.sound (m.lists.sound.none few), few)

    pub opening_lists : (l' : Listing) → listed_nodes l' ≡ listed_nodes l ++ node.Open k l.innermost ∷ [] → l'.innermost ≡ length (listed_nodes l) → l'.depth ≡ l.depth + 1 → l'.closing ≡ k → l'.number ≡ l.number
        → IsSoundListing l' → (l'.many.items ≡ [] → end ≤ 24) → Lists number l' (es ++ opening k ∷ []) (octets ++ more) behind
    opening_lists l' nodes inner deep closes same sound few =
        let d = m.lists.listed in
        let made : Node = node.Open k l.innermost in
        let linked : Linked (listed_nodes l ++ made ∷ []) (length (listed_nodes l) ∷ reverse d.indices) (k ∷ before) (length (listed_nodes l)) = (
          refl,
          l.innermost,
          slice_get_at (listed_nodes l) made [] (length (listed_nodes l)) refl,
          linked_more (listed_nodes l) made (reverse d.indices) before l.innermost d.linked,
        ) in
        lists_then number (opening k) end l es octets more before behind m l' (record {
          indices = d.indices ++ length (listed_nodes l) ∷ [];
          are_nodes = subst (λ (ns : List Node). AreNodes (es ++ opening k ∷ []) (octets ++ more) ns (d.indices ++ length (listed_nodes l) ∷ []) behind) (sym nodes)
              (listed_open (listed_nodes l) d.indices es octets more before behind end k l.innermost (may_list number (opening k) end l es octets more before behind m));
          linked = subst (λ (ns : List Node). Linked ns (reverse (d.indices ++ length (listed_nodes l) ∷ [])) behind l'.innermost) (sym nodes)
              (subst (λ (j : ℕ). Linked (listed_nodes l ++ made ∷ []) (reverse (d.indices ++ length (listed_nodes l) ∷ [])) behind j) (sym inner)
              (subst (λ (is : List ℕ). Linked (listed_nodes l ++ made ∷ []) is behind (length (listed_nodes l))) (sym (reverse-append d.indices (length (listed_nodes l) ∷ [])))
              (subst (λ (gs : List ℕ). Linked (listed_nodes l ++ made ∷ []) (length (listed_nodes l) ∷ reverse d.indices) gs (length (listed_nodes l))) m.opens.1 linked)));
          opened = opened number (opening k) end l es octets more before behind m;
          small = small number (opening k) end l es octets more before behind m;
          depth_is = omega (arith, deep, d.depth_is, ap length m.opens.1);
          closing_is = closes ∙ ap (closing_number number) m.opens.1;
        }) same sound few

  -- a group that ends
  module _ (m : MayAdd number (closing k) end l es octets more before behind) where
    pub ended : Inside (listed_nodes l) (reverse m.lists.listed.indices) k m.opens.0 l.innermost
    ended = innermost (listed_nodes l) (reverse m.lists.listed.indices) k m.opens.0 l.innermost
        (subst (λ (gs : List ℕ). Linked (listed_nodes l) (reverse m.lists.listed.indices) gs l.innermost) m.opens.1 m.lists.listed.linked)

    pub ended_within : l.innermost < length (listed_nodes l)
    ended_within = slice_get_within (listed_nodes l) l.innermost (node.Open k ended.outer) ended.there

    pub ended_deep : l.depth ≡ length behind + 1
    ended_deep = omega (arith, m.lists.listed.depth_is, ap length m.opens.1, ap length m.opens.2)

    ended_below : Below ended.others l.innermost
    ended_below = begun_inside es l.innermost ended.others k m.opens.0
        (subst (λ (is : List ℕ). AreBegun es is (k ∷ m.opens.0)) ended.indices_are (subst (AreBegun es (reverse m.lists.listed.indices)) m.opens.1 m.lists.listed.are_nodes.begun))

    -- the groups around it, where its node has the index of its closing
    pub around_linked : (n : Node) → Linked (set (listed_nodes l) l.innermost n) ended.others behind ended.outer
    around_linked n = linked_set (listed_nodes l) l.innermost n ended.others behind ended.outer ended_below
        (subst (λ (gs : List ℕ). Linked (listed_nodes l) ended.others gs ended.outer) m.opens.2 ended.linked)

    -- the index that the node of its opening has is that of the group around it
    pub outer_is : (j o : ℕ) → slice_get (listed_nodes l) l.innermost ≡ Some (node.Open j o) → o ≡ ended.outer
    outer_is j o there = (open_alike (same_Some (node.Open j o) (node.Open k ended.outer) (sym there ∙ ended.there))).1

    pub closing_linked : (nodes : List Node) (n : Node) (j o : ℕ) → nodes ≡ set (listed_nodes l) l.innermost n → slice_get (listed_nodes l) l.innermost ≡ Some (node.Open j o) → Linked nodes ended.others behind o
    closing_linked nodes n j o e there =
        subst (λ (ns : List Node). Linked ns ended.others behind o) (sym e) (subst (λ (i : ℕ). Linked (set (listed_nodes l) l.innermost n) ended.others behind i) (sym (outer_is j o there)) (around_linked n))

    whole_indices : m.lists.listed.indices ≡ reverse ended.others ++ l.innermost ∷ []
    whole_indices = from_reverse m.lists.listed.indices l.innermost ended.others ended.indices_are

    pub closing_lists : (l' : Listing) → listed_nodes l' ≡ set (listed_nodes l) l.innermost (node.Open k (length (listed_nodes l))) ++ node.Close k ∷ [] → l'.innermost ≡ ended.outer → l'.depth ≡ l.depth - 1
        → l'.closing ≡ closing_number l.number behind → l'.number ≡ l.number → IsSoundListing l' → (l'.many.items ≡ [] → end ≤ 24) → Lists number l' (es ++ closing k ∷ []) (octets ++ more) behind
    closing_lists l' nodes inner deep closes same sound few =
        let d = m.lists.listed in
        let opened_node : Node = node.Open k (length (listed_nodes l)) in
        let nodes' : List Node = set (listed_nodes l) l.innermost opened_node ++ node.Close k ∷ [] in
        lists_then number (closing k) end l es octets more before behind m l' (record {
          indices = reverse ended.others;
          are_nodes = subst (λ (ns : List Node). AreNodes (es ++ closing k ∷ []) (octets ++ more) ns (reverse ended.others) behind) (sym nodes)
              (listed_close (listed_nodes l) d.indices es octets more before behind end k (reverse ended.others) l.innermost whole_indices (may_list number (closing k) end l es octets more before behind m));
          linked = subst (λ (ns : List Node). Linked ns (reverse (reverse ended.others)) behind l'.innermost) (sym nodes)
              (subst (λ (j : ℕ). Linked nodes' (reverse (reverse ended.others)) behind j) (sym inner)
              (subst (λ (is : List ℕ). Linked nodes' is behind ended.outer) (sym (reverse-reverse ended.others))
              (linked_more (set (listed_nodes l) l.innermost opened_node) (node.Close k) ended.others behind ended.outer (around_linked opened_node))));
          opened = opened number (closing k) end l es octets more before behind m;
          small = small number (closing k) end l es octets more before behind m;
          depth_is = omega (arith, deep, ended_deep);
          closing_is = closes ∙ ap (λ (j : ℕ). closing_number j behind) m.lists.number_is;
        }) same sound few

-- ---- no node

pub lists_nothing : (number : ℕ) (l : Listing) → l.many.items ≡ [] → l.count ≡ 0 → length l.few ≡ 6 → l.innermost ≡ 0 → l.depth ≡ 0 → l.closing ≡ number → l.number ≡ number → Lists number l [] [] []
lists_nothing number l many count places inner deep closes same =
    let none : listed_nodes l ≡ [] = ap (λ (ns : List Node). all_nodes (take l.count l.few) ns) many ∙ ap (λ (n : ℕ). map wide_node (take n l.few)) count in
    record {
      listed = record {
        indices = [];
        are_nodes = subst (λ (ns : List Node). AreNodes [] [] ns [] []) (sym none) (nothing_listed []);
        linked = inner;
        opened = refl;
        small = tt;
        depth_is = deep;
        closing_is = closes;
      };
      number_is = same;
      sound = record { places = places; most = omega (arith, count); none = λ few. many };
      short = λ none. omega arith;
    }
