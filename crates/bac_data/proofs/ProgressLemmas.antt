-- How a reader of an open value goes on.
use Rattle.std.proofs.Common.{◌≡◌, ℕ, ◌+◌, ◌-◌, ◌<◌, ◌≤◌, Bool, Option, None, Some, List, [], ◌∷◌, ◌++◌, take, drop, length, reverse, refl, sym, ◌∙◌, ap, subst, inl, inr, arith, take-add, length-append, length-drop, length-take}
use Rattle.std.proofs.lemmas.List.{append-nil, append_assoc, drop-drop, length-reverse, nil_from_length}
use Rattle.std.specs.Prelude.{IsTrue, IfOk, IfSome, Result, Ok, Err, is_some, not, true, false, ◌↔◌}
use Rattle.std.specs.List.{AllByRecursion}
use Rattle.bac_tag.specs.Octets.{IsMark, joined_mark}
use Rattle.bac_tag.specs.Laws.Octets.{mark-append, NoGreater-length}
use Rattle.bac_tag.specs.Spelling.{IsLeast, Takes}
use Rattle.bac_tag.specs.Heads.{Heads}
use Rattle.bac_tag.specs.Laws.Spelling.{IsLeast-one}
use Rattle.bac_tag.specs.declared.heads.TagHead.TheVariants.{Close, Open}
use Rattle.bac_tag.specs.declared.refusals.Refusal.{Refusal}
use Rattle.bac_data.specs.declared.held.Held.{Held}
use Rattle.bac_data.specs.declared.items.Item.{Item}
use Rattle.bac_data.specs.declared.items.Item.TheVariants as item
use Rattle.bac_data.specs.declared.listing.Listing.{Listing}
use Rattle.bac_data.specs.declared.nodes.Node.{Node}
use Rattle.bac_data.specs.OpenValue.{Elements}
use Rattle.bac_data.specs.Spells.{SpellsOpen}
use Rattle.bac_data.specs.Events.{Event, closing, events, opening, Opens, SpellsEvent, SpellsEvents}
use Rattle.bac_data.specs.Building.{HasOpen, IsPlace, Keeps, closing_number, held_octets}
use Rattle.bac_data.specs.NodeEvents.{node_events, AreBegun, AreNodes, IsHeld}
use Rattle.bac_data.specs.HeldLists.{octets_of, nodes_of, IsSound}
use Rattle.bac_data.specs.Listings.{listed_nodes, Lists, MayAdd}
use Rattle.bac_data.specs.Marks.{HasMark}
use Rattle.bac_data.specs.Progress.{part, held_so_far, Progress, Continues, Closes}
use Rattle.bac_data.specs.Reading.{MayStand, item_event, IsItem, LiesInFront, StandsLeast}
use Rattle.bac_data.proofs.AnyLemmas.{HasRead, has_read_more, next_of_standing, value_read}
use Rattle.bac_data.proofs.EventLemmas.{SpellsEvents-append, SpellsEvents-split, event_alone, one_event}
use Rattle.bac_data.proofs.LeastLemmas.{least_both, least_more, least_none}
use Rattle.bac_data.proofs.MarkLemmas.{ItemMark, marked_opening, value_marked, ended_events}
use Rattle.bac_data.proofs.ReadingSteps.{keeps_nothing, front_least, behind_marked, closed_behind, unmarked}
use Rattle.bac_data.proofs.ValueLemmas.{least_event}
use Rattle.bac_data.proofs.ViableLemmas.{next_steps}

-- ---- parts of the input

pub part_none : (input : List ℕ) (place : ℕ) → part input place place ≡ []
part_none input place = ap (λ (n : ℕ). take n (drop place input)) (let none : place - place ≡ 0 = omega arith in none)

pub part_more : (input : List ℕ) (from place taken : ℕ) → from ≤ place → part input from (place + taken) ≡ part input from place ++ take taken (drop place input)
part_more input from place taken h =
    let count : place + taken - from ≡ (place - from) + taken = omega (arith, h) in
    let sum : from + (place - from) ≡ place = omega (arith, h) in
    ap (λ (n : ℕ). take n (drop from input)) count ∙ take-add (place - from) taken (drop from input)
    ∙ ap (λ (l : List ℕ). part input from place ++ take taken l) (drop-drop (place - from) from input ∙ ap (λ (n : ℕ). drop n input) sum)

pub part_join : (input : List ℕ) (start from place : ℕ) → start ≤ from → from ≤ place → part input start place ≡ part input start from ++ part input from place
part_join input start from place h le =
    let sum : place ≡ from + (place - from) = omega (arith, le) in
    ap (part input start) sum ∙ part_more input start from (place - from) h

pub part_length : (input : List ℕ) (from place : ℕ) → place ≤ length input → length (part input from place) ≡ place - from
part_length input from place h = omega (arith, h, length-take (place - from) (drop from input), length-drop from input)

front_and_part : (input : List ℕ) (from place : ℕ) → from ≤ place → take place input ≡ take from input ++ part input from place
front_and_part input from place le =
    let sum : place ≡ from + (place - from) = omega (arith, le) in
    ap (λ (n : ℕ). take n input) sum ∙ take-add from (place - from) input

-- ---- what is held

so_far_none : (input : List ℕ) (start : ℕ) (m : Option ℕ) → held_so_far input start start [] m ≡ []
so_far_none input start None = part_none input start
so_far_none input start (Some p) = refl

-- what is kept of more octets
abbrev pub kept_with : Option ℕ → List ℕ → List ℕ → List ℕ
kept_with None kept more = kept
kept_with (Some p) kept more = kept ++ more

so_far_on : (input : List ℕ) (start from place : ℕ) (kept : List ℕ) (m : Option ℕ) → start ≤ from → from ≤ place → held_so_far input start place (kept_with m kept (part input from place)) m ≡ held_so_far input start from kept m ++ part input from place
so_far_on input start from place kept None h le = part_join input start from place h le
so_far_on input start from place kept (Some p) h le = refl

keeps_on : (m : Option ℕ) (es more : List Event) (kept octets : List ℕ) → Keeps m es kept → IsLeast (SpellsEvents more) octets → Keeps m (es ++ more) (kept_with m kept octets)
keeps_on None es more kept octets k p = k
keeps_on (Some place) es more kept octets k p = least_both es more kept octets k p

held_least : (m : Option ℕ) (es : List Event) (front kept : List ℕ) → Keeps m es kept → (m ≡ None → IsLeast (SpellsEvents es) front) → IsLeast (SpellsEvents es) (held_octets m front kept)
held_least None es front kept k f = f refl
held_least (Some p) es front kept k f = k

pub so_far_least : (number : ℕ) (input : List ℕ) (start place : ℕ) (kept : List ℕ) (m : Option ℕ) (es : List Event) → start ≤ place → Heads (Open number) (take start input) → HasMark number input place es m → Keeps m es kept
    → IsLeast (SpellsEvents es) (held_so_far input start place kept m)
so_far_least number input start place kept m es begun opened marked keeps = held_least m es (part input start place) kept keeps (front_least number input start place es m begun opened marked)

-- the octets of the last event stand behind those of the others
last_octets : (es : List Event) (e : Event) (b c : List ℕ) → IsLeast (SpellsEvents es) b → IsLeast (SpellsEvents (es ++ e ∷ [])) c → (added : List ℕ) × IsLeast (SpellsEvent e) added × (c ≡ b ++ added)
last_octets es e b c p q =
    let parts = SpellsEvents-split es (e ∷ []) c q.member in
    let l = least_event e parts.back (event_alone e parts.back parts.second) in
    (l.0, l.1, IsLeast-one (SpellsEvents (es ++ e ∷ [])) c (b ++ l.0) q (least_more es e b l.0 p l.1))

-- ---- with nothing read behind the opening tag

pub progress_opening : (number : ℕ) (input : List ℕ) (start : ℕ) (m : Option ℕ) (nodes : Listing) → number ≤ 254 → start ≤ length input → Heads (Open number) (take start input)
    → ((b : List ℕ) → IsLeast (Heads (Open number)) b → IsMark (take start input) b m) → Lists number nodes [] [] [] → Progress number input start start [] m nodes
progress_opening number input start m nodes small within opened mark lists = record {
  es = [];
  numbers = [];
  within = within;
  spelled = one_event (opening number) (take start input) opened;
  marked = marked_opening number input start [] m small mark refl;
  keeps = keeps_nothing m [] refl;
  begun = omega arith;
  opened = opened;
  lists = subst (λ (b : List ℕ). Lists number nodes [] b []) (sym (so_far_none input start m)) lists;
}

-- ---- more events in canonical octets

pub progress_on : (number : ℕ) (input : List ℕ) (start from place : ℕ) (kept kept' : List ℕ) (m : Option ℕ) (nodes nodes' : Listing) (p : Progress number input start from kept m nodes) → from ≤ place → place ≤ length input
    → Continues number input from place nodes' p.es (held_so_far input start from kept m) → kept' ≡ kept_with m kept (part input from place) → Progress number input start place kept' m nodes'
progress_on number input start from place kept kept' m nodes nodes' p le within c e =
    let octets : List ℕ = part input from place in
    let es : List Event = p.es ++ c.more in
    let whole = front_and_part input from place le in
    record {
      es = es;
      numbers = c.numbers;
      within = within;
      spelled = subst (SpellsEvents (opening number ∷ es)) (sym whole) (SpellsEvents-append (opening number ∷ p.es) c.more (take from input) octets p.spelled c.least.member);
      marked = record {
        least = p.marked.least ++ octets;
        is_least = least_both (opening number ∷ p.es) c.more p.marked.least octets p.marked.is_least c.least;
        is_mark = subst (λ (b : List ℕ). IsMark b (p.marked.least ++ octets) m) (sym whole)
            (subst (IsMark (take from input ++ octets) (p.marked.least ++ octets)) (sym (unmarked m (length (take from input))))
            (mark-append (take from input) octets p.marked.least octets m None p.marked.is_mark refl));
      };
      keeps = subst (Keeps m es) (sym e) (keeps_on m p.es c.more kept octets p.keeps c.least);
      begun = omega (arith, p.begun, le);
      opened = p.opened;
      lists = subst (λ (k : List ℕ). Lists number nodes' es (held_so_far input start place k m) c.numbers) (sym e)
          (subst (λ (b : List ℕ). Lists number nodes' es b c.numbers) (sym (so_far_on input start from place kept m p.begun le)) c.lists);
    }

-- the first events, behind an opening tag in its canonical octets
pub progress_first : (number : ℕ) (input : List ℕ) (start place : ℕ) (nodes nodes' : Listing) → number ≤ 254 → start ≤ length input → Heads (Open number) (take start input) → ((b : List ℕ) → IsLeast (Heads (Open number)) b → IsMark (take start input) b None)
    → Lists number nodes [] [] [] → start ≤ place → place ≤ length input → Continues number input start place nodes' [] [] → Progress number input start place [] None nodes'
progress_first number input start place nodes nodes' small room opened mark lists le within c =
    let none = sym (so_far_none input start None) in
    progress_on number input start start place [] [] None nodes nodes' (record {
      es = [];
      numbers = [];
      within = room;
      spelled = one_event (opening number) (take start input) opened;
      marked = marked_opening number input start [] None small mark refl;
      keeps = refl;
      begun = omega arith;
      opened = opened;
      lists = subst (λ (b : List ℕ). Lists number nodes [] b []) none lists;
    }) le within (subst (λ (b : List ℕ). Continues number input start place nodes' [] b) none c) refl

-- ---- one item

module _ (number : ℕ) (input : List ℕ) (start place head taken : ℕ) (kept kept' : List ℕ) (m own joined : Option ℕ) (nodes : Listing) (i : Item) (p : Progress number input start place kept m nodes) (is : IsItem i)
    (lies : LiesInFront i head taken (drop place input)) (within : place + taken ≤ length input) (spelled : SpellsEvent (item_event i) (take taken (drop place input)))
    (marks : m ≡ None → ItemMark (take taken (drop place input)) i own) (joins : joined ≡ joined_mark m place own) (keeps : Keeps joined (p.es ++ item_event i ∷ []) kept') where
  marked_then : HasMark number input (place + taken) (p.es ++ item_event i ∷ []) joined
  marked_then = behind_marked number input place head taken i p.es m own joined p.within is lies marks joins p.marked

  begun_then : start ≤ place + taken
  begun_then = omega (arith, p.begun)

  pub added : (more : List ℕ) × IsLeast (SpellsEvent (item_event i)) more × (held_so_far input start (place + taken) kept' joined ≡ held_so_far input start place kept m ++ more)
  added = last_octets p.es (item_event i) (held_so_far input start place kept m) (held_so_far input start (place + taken) kept' joined)
      (so_far_least number input start place kept m p.es p.begun p.opened p.marked p.keeps)
      (so_far_least number input start (place + taken) kept' joined (p.es ++ item_event i ∷ []) begun_then p.opened marked_then keeps)

  -- its node may be listed
  pub item_listed : (behind : List ℕ) → Opens 32 p.numbers (item_event i ∷ []) behind → (end : ℕ) → end ≡ length (held_so_far input start (place + taken) kept' joined)
      → MayAdd number (item_event i) end nodes p.es (held_so_far input start place kept m) added.0 p.numbers behind
  item_listed behind o end e = record {
    lists = p.lists;
    opens = o;
    least = added.1;
    ends = e ∙ ap length added.2 ∙ length-append (held_so_far input start place kept m) added.0;
  }

  -- and is listed then
  pub progress_item : (behind : List ℕ) (nodes' : Listing) → Lists number nodes' (p.es ++ item_event i ∷ []) (held_so_far input start place kept m ++ added.0) behind → Progress number input start (place + taken) kept' joined nodes'
  progress_item behind nodes' h =
      let room : taken ≤ length (drop place input) = omega (arith, within, length-drop place input) in
      let read = has_read_more number input place taken p.es (p.es ++ item_event i ∷ []) (item_event i) (record { within = p.within; spelled = p.spelled }) room spelled refl in
      record {
        es = p.es ++ item_event i ∷ [];
        numbers = behind;
        within = within;
        spelled = read.spelled;
        marked = marked_then;
        keeps = keeps;
        begun = begun_then;
        opened = p.opened;
        lists = subst (λ (b : List ℕ). Lists number nodes' (p.es ++ item_event i ∷ []) b behind) (sym added.2) h;
      }

-- ---- what may stand next

pub listed_room : (number : ℕ) (l : Listing) (es : List Event) (octets numbers : List ℕ) (room : Bool) → Lists number l es octets numbers → IsTrue room ↔ (l.depth < 32) → IsTrue room ↔ (length numbers < 32)
listed_room number l es octets numbers room h r = (λ t. let few = r.0 t in omega (arith, few, h.listed.depth_is), λ few. r.1 (omega (arith, few, h.listed.depth_is)))

pub listed_place : (number : ℕ) (l : Listing) (es : List Event) (octets numbers : List ℕ) (room : Bool) (last : ℕ) → Lists number l es octets numbers → IsTrue room ↔ (l.depth < 32) → last ≡ l.closing → IsPlace 32 number es room last
listed_place number l es octets numbers room last h r e = (numbers, h.listed.opened, listed_room number l es octets numbers room h r, e ∙ h.listed.closing_is)

small_closing : (number : ℕ) (numbers : List ℕ) → number ≤ 254 → AllByRecursion (λ n. n ≤ 254) numbers → closing_number number numbers ≤ 254
small_closing number [] h s = h
small_closing number (k ∷ ks) h s = s.0

pub listed_small : (number : ℕ) (l : Listing) (es : List Event) (octets numbers : List ℕ) (last : ℕ) → number ≤ 254 → Lists number l es octets numbers → last ≡ l.closing → last ≤ 254
listed_small number l es octets numbers last small h e = subst (λ (n : ℕ). n ≤ 254) (sym (e ∙ h.listed.closing_is)) (small_closing number numbers small h.listed.small)

-- an item that may stand there and does not end the value leaves some groups open
pub next_opens : (number : ℕ) (l : Listing) (es : List Event) (octets numbers : List ℕ) (room : Bool) (last : ℕ) (e : Event) → Lists number l es octets numbers → IsTrue room ↔ (l.depth < 32) → last ≡ l.closing → MayStand room last e
    → (l.depth ≡ 0 → e ≡ closing number → ⊥) → (behind : List ℕ) × Opens 32 numbers (e ∷ []) behind
next_opens number l es octets numbers room last e h r closes stands other =
    elim (next_steps 32 number numbers e (next_of_standing number numbers room last e (listed_room number l es octets numbers room h r) (closes ∙ h.listed.closing_is) stands)) [
      | inl step ↦ step
      | inr (empty, is) ↦ absurd (other (h.listed.depth_is ∙ ap length empty) is)
    ]

-- ---- the whole value

module _ (number : ℕ) (l : Listing) (es : List Event) (octets numbers : List ℕ) (h : Lists number l es octets numbers) (closed : l.depth ≡ 0) where
  no_numbers : numbers ≡ []
  no_numbers = nil_from_length numbers (sym h.listed.depth_is ∙ closed)

  pub all_closed : HasOpen 32 es 0
  all_closed = (numbers, h.listed.opened, ap length no_numbers)

  no_indices : (is : List ℕ) → AreBegun es is [] → is ≡ []
  no_indices [] b = refl
  no_indices (i ∷ is) b = absurd b

  pub listed_held : IsLeast (SpellsEvents es) octets → IsHeld octets (listed_nodes l) []
  listed_held least =
      let begun : AreBegun es (reverse h.listed.indices) [] = subst (AreBegun es (reverse h.listed.indices)) no_numbers h.listed.are_nodes.begun in
      let none : h.listed.indices ≡ [] = nil_from_length h.listed.indices (sym (length-reverse h.listed.indices) ∙ ap length (no_indices (reverse h.listed.indices) begun)) in
      let all : AreNodes es octets (listed_nodes l) [] [] =
      subst (λ (ns : List ℕ). AreNodes es octets (listed_nodes l) [] ns) no_numbers (subst (λ (is : List ℕ). AreNodes es octets (listed_nodes l) is numbers) none h.listed.are_nodes) in
      let same : es ≡ node_events octets (listed_nodes l) = sym all.events_are in
      record {
        numbers = [];
        least = subst (λ (fs : List Event). IsLeast (SpellsEvents fs) octets) same least;
        opened = subst (λ (fs : List Event). Opens 32 [] fs []) same (subst (Opens 32 [] es) no_numbers h.listed.opened);
        are_nodes = subst (λ (fs : List Event). AreNodes fs octets (listed_nodes l) [] []) same all;
      }

-- what holds the octets and the nodes holds the value
pub held_whole : (octets octets' : List ℕ) (nodes nodes' : List Node) → octets' ≡ octets → nodes' ≡ nodes → IsHeld octets nodes [] → IsHeld octets' nodes' []
held_whole octets octets' nodes nodes' e f h = rw (e, f) h

module _ (number : ℕ) (small : number ≤ 254) (input : List ℕ) (start place : ℕ) (kept : List ℕ) (m : Option ℕ) (nodes : Listing) (p : Progress number input start place kept m nodes) (v : Elements) (same : events v ≡ p.es) (closed : nodes.depth ≡ 0) where
  read_so_far : HasRead number input place p.es
  read_so_far = record { within = p.within; spelled = p.spelled }

  -- the value ends with an item
  module _ (i : Item) (head taken : ℕ) (own behind : Option ℕ) (is : item_event i ≡ closing number) (closes : i ≡ item.Close number) (lies : LiesInFront i head taken (drop place input)) (room : taken ≤ length (drop place input))
      (spelled : SpellsEvent (item_event i) (take taken (drop place input))) (mark : (b : List ℕ) → IsLeast (Heads (Close number)) b → IsMark (take head (drop place input)) b own) (joins : behind ≡ joined_mark m place own) where
    pub ended_read : Takes (SpellsOpen 32 number) input (v, place + taken)
    ended_read = value_read number input place taken p.es v (item_event i) read_so_far room spelled is (all_closed number nodes p.es (held_so_far input start place kept m) p.numbers p.lists closed) same

    pub ended_marked : (b : List ℕ) → IsLeast (SpellsOpen 32 number v) b → IsMark (take (place + taken) input) b behind
    ended_marked =
        let told = closed_behind number input place head taken i p.es m own behind small p.within closes lies mark joins p.marked in
        value_marked number input (place + taken) v behind ended_read.spelled.nested (subst (λ (fs : List Event). HasMark number input (place + taken) fs behind) (sym (ended_events p.es v (item_event i) number same is)) told)

  -- the value ends with a canonical closing tag
  module _ (taken : ℕ) (c : Closes number input place nodes taken) where
    tag_lies : LiesInFront (item.Close number) taken taken (drop place input)
    tag_lies = record { within = omega arith; headed = c.least.member; octets_are = sym (append-nil (take taken (drop place input))) }

    tag_mark : (b : List ℕ) → IsLeast (Heads (Close number)) b → IsMark (take taken (drop place input)) b None
    tag_mark b q = IsLeast-one (Heads (Close number)) (take taken (drop place input)) b c.least q

    pub closed_read : Takes (SpellsOpen 32 number) input (v, place + taken)
    closed_read = ended_read (item.Close number) taken taken None m refl refl tag_lies c.within c.least.member tag_mark (unmarked m place)

    pub closed_marked : (b : List ℕ) → IsLeast (SpellsOpen 32 number v) b → IsMark (take (place + taken) input) b m
    closed_marked = ended_marked (item.Close number) taken taken None m refl refl tag_lies c.within c.least.member tag_mark (unmarked m place)

-- ---- items in canonical octets

pub continues_none : (number : ℕ) (input : List ℕ) (from : ℕ) (l : Listing) (es : List Event) (octets numbers : List ℕ) → Lists number l es octets numbers → Continues number input from from l es octets
continues_none number input from l es octets numbers h = record {
  more = [];
  numbers = numbers;
  least = subst (IsLeast (SpellsEvents [])) (sym (part_none input from)) (least_none [] refl);
  lists = subst (λ (fs : List Event). Lists number l fs (octets ++ part input from from) numbers) (sym (append-nil es))
      (subst (λ (b : List ℕ). Lists number l es b numbers) (sym (ap (λ (b : List ℕ). octets ++ b) (part_none input from) ∙ append-nil octets)) h);
}

module _ (number : ℕ) (input : List ℕ) (from place taken held : ℕ) (l : Listing) (es : List Event) (octets : List ℕ) (c : Continues number input from place l es octets) (le : from ≤ place) (within : place ≤ length input) (i : Item) (room : Bool) (last : ℕ)
    (s : StandsLeast room last (drop place input) i taken) (long : length octets ≡ held) where
  pub continues_listed : (behind : List ℕ) → Opens 32 c.numbers (item_event i ∷ []) behind → (end : ℕ) → end ≡ held + (place + taken - from)
      → MayAdd number (item_event i) end l (es ++ c.more) (octets ++ part input from place) (take taken (drop place input)) c.numbers behind
  continues_listed behind o end e = record {
    lists = c.lists;
    opens = o;
    least = s.least;
    ends = omega (arith, e, long, length-append octets (part input from place), part_length input from place within, length-take taken (drop place input), s.within, le);
  }

  pub continues_more : (behind : List ℕ) (l' : Listing) → Lists number l' ((es ++ c.more) ++ item_event i ∷ []) ((octets ++ part input from place) ++ take taken (drop place input)) behind → Continues number input from (place + taken) l' es octets
  continues_more behind l' h =
      let next : part input from (place + taken) ≡ part input from place ++ take taken (drop place input) = part_more input from place taken le in
      record {
        more = c.more ++ item_event i ∷ [];
        numbers = behind;
        least = subst (IsLeast (SpellsEvents (c.more ++ item_event i ∷ []))) (sym next) (least_more c.more (item_event i) (part input from place) (take taken (drop place input)) c.least s.least);
        lists = subst (λ (fs : List Event). Lists number l' fs (octets ++ part input from (place + taken)) behind) (append_assoc es c.more (item_event i ∷ []))
            (subst (λ (b : List ℕ). Lists number l' ((es ++ c.more) ++ item_event i ∷ []) b behind)
            (append_assoc octets (part input from place) (take taken (drop place input)) ∙ ap (λ (b : List ℕ). octets ++ b) (sym next)) h);
      }

-- the closing tag of the value
pub closes_here : (number : ℕ) (input : List ℕ) (place taken : ℕ) (l : Listing) (i : Item) (room : Bool) (last : ℕ) → StandsLeast room last (drop place input) i taken → item_event i ≡ closing number → l.depth ≡ 0 → Closes number input place l taken
closes_here number input place taken l i room last s is none = record {
  closed = none;
  within = s.within;
  least = subst (λ (e : Event). IsLeast (SpellsEvent e) (take taken (drop place input))) is s.least;
}

-- ---- what is held, and what is found

pub held_valid : {E : Type 0} (r : Result Held E) (octets : List ℕ) (nodes : List Node) → IfOk r (λ h. octets_of h ≡ octets) → IfOk r (λ h. nodes_of h ≡ nodes) → IfOk r IsSound → IsHeld octets nodes [] → IfOk r (λ h. IsSound h × IsHeld (octets_of h) (nodes_of h) [])
held_valid (Ok h) octets nodes e f sound held = (sound, held_whole octets (octets_of h) nodes (nodes_of h) e f held)
held_valid (Err x) octets nodes e f sound held = tt

pub held_value : {E : Type 0} (r : Result Held E) (octets : List ℕ) (nodes : List Node) (es : List Event) → IfOk r (λ h. octets_of h ≡ octets) → IfOk r (λ h. nodes_of h ≡ nodes) → node_events octets nodes ≡ es
    → IfOk r (λ h. node_events (octets_of h) (nodes_of h) ≡ es)
held_value (Ok h) octets nodes es e f are = ap (λ (b : List ℕ). node_events b (nodes_of h)) e ∙ ap (node_events octets) f ∙ are
held_value (Err x) octets nodes es e f are = tt

abbrev Found : Type 0
Found = Result (Elements × ℕ × Option ℕ) Refusal

pub found_value : (r : Found) (P : List Event → Type 0) (es : List Event) → IfOk r (λ f. (fs : List Event) → P fs → events f.0 ≡ fs) → P es → IfOk r (λ f. events f.0 ≡ es)
found_value (Ok f) P es value p = value es p
found_value (Err x) P es value p = tt

pub found_read : (r : Found) (number : ℕ) (input : List ℕ) (taken : ℕ) (es : List Event) → IfOk r (λ f. events f.0 ≡ es) → IfOk r (λ f. f.1 ≡ taken) → ((v : Elements) → events v ≡ es → Takes (SpellsOpen 32 number) input (v, taken))
    → IfOk r (λ f. Takes (SpellsOpen 32 number) input (f.0, f.1))
found_read (Ok f) number input taken es value size read = subst (λ (n : ℕ). Takes (SpellsOpen 32 number) input (f.0, n)) (sym size) (read f.0 value)
found_read (Err x) number input taken es value size read = tt

pub found_marked : (r : Found) (number : ℕ) (input : List ℕ) (taken : ℕ) (m : Option ℕ) (es : List Event) → IfOk r (λ f. events f.0 ≡ es) → IfOk r (λ f. f.1 ≡ taken) → IfOk r (λ f. f.2 ≡ m)
    → ((v : Elements) → events v ≡ es → (b : List ℕ) → IsLeast (SpellsOpen 32 number v) b → IsMark (take taken input) b m) → IfOk r (λ f. (b : List ℕ) → IsLeast (SpellsOpen 32 number f.0) b → IsMark (take f.1 input) b f.2)
found_marked (Ok f) number input taken m es value size is marked =
    λ b p. subst (λ (n : ℕ). IsMark (take n input) b f.2) (sym size) (subst (IsMark (take taken input) b) (sym is) (marked f.0 value b p))
found_marked (Err x) number input taken m es value size is marked = tt

-- where there is a mark, it is a place
pub some_mark : (m : Option ℕ) (b : Bool) → is_some m ≡ not b → b ≡ false → (k : ℕ) × (m ≡ Some k)
some_mark None b e f = absurd (let i : false ≡ true = e ∙ ap not f in cc)
some_mark (Some k) b e f = (k, refl)

-- what holds of a value that there is
pub some_then : (P : ℕ → Type 0) (o : Option ℕ) (k : ℕ) → o ≡ Some k → IfSome o P → P k
some_then P o k e h = subst (λ (r : Option ℕ). IfSome r P) e h

pub none_mark : (m : Option ℕ) (b : Bool) → b ≡ is_some m → b ≡ false → m ≡ None
none_mark None b e f = refl
none_mark (Some k) b e f = absurd (let i : true ≡ false = sym e ∙ f in cc)

-- what is kept is no more than what was read
pub kept_within : (number : ℕ) (input : List ℕ) (start place : ℕ) (kept : List ℕ) (k : ℕ) (nodes : Listing) → Progress number input start place kept (Some k) nodes → length kept ≤ place
kept_within number input start place kept k nodes p =
    let short = NoGreater-length kept p.spelled.back (p.keeps.least p.spelled.back p.spelled.second) in
    omega (arith, short, ap length p.spelled.octets, length-append p.spelled.front p.spelled.back, length-take place input)
