-- How an open value is checked, item by item.
use Rattle.std.specs.Prelude.{IfNone, IfSome}
use Rattle.std.proofs.Common.{◌≡◌, ℕ, ◌+◌, ◌<◌, ◌≤◌, ◌∙◌, inl, inr, Option, None, Some, List, [], ◌∷◌, ◌++◌, take, drop, length, refl, sym, subst, arith, take-add, length-take}
use Rattle.bac_tag.specs.declared.heads.TagHead.TheVariants.{Open}
use Rattle.bac_tag.specs.Heads.{Heads}
use Rattle.bac_tag.specs.Laws.Octets.{mark-append}
use Rattle.std.proofs.lemmas.Bool.{cases_lt}
use Rattle.std.proofs.lemmas.Option.{slice_get_past}
use Rattle.bac_tag.specs.Octets.{FirstDifference, IsMark, joined_mark}
use Rattle.bac_tag.specs.Spelling.{IsLeast}
use Rattle.bac_data.specs.declared.items.Item.{Item}
use Rattle.bac_data.specs.Building.{AreOpen}
use Rattle.bac_data.specs.Checked.{TakesMarked}
use Rattle.bac_data.specs.Events.{Event, closing, opening, SpellsEvent, value_of_events}
use Rattle.bac_data.specs.Marks.{HasMark}
use Rattle.bac_data.specs.Reading.{item_event, IsItem}
use Rattle.bac_data.specs.Spells.{SpellsOpen}
use Rattle.bac_data.proofs.AnyLemmas.{HasRead, has_read_more, value_read}
use Rattle.bac_data.proofs.BalancedLemmas.{events-value_of_events}
use Rattle.bac_data.proofs.BuildingLemmas.{none_open}
use Rattle.bac_data.proofs.EventLemmas.{one_event}
use Rattle.bac_data.proofs.LeastLemmas.{least_more, least_open}
use Rattle.bac_data.proofs.MarkLemmas.{ItemMark, least_item, marked_opening, ended_events}
use Rattle.bac_data.proofs.ReadingSteps.{all_closed}

-- what holds without a mark, and what holds of a mark
pub none_at : {P Q : Type 0} (m : Option ℕ) → (P → Q) → IfNone m P → IfNone m Q
none_at None f h = f h
none_at (Some place) f h = tt

pub some_at : {P Q : ℕ → Type 0} (m : Option ℕ) → ((place : ℕ) → P place → Q place) → IfSome m P → IfSome m Q
some_at None f h = tt
some_at (Some place) f h = f place h

-- lists that differ first at a place are not both shorter
pub difference_below : (b c : List ℕ) (place most : ℕ) → length b ≤ most → length c ≤ most → FirstDifference b c place → place < most
difference_below b c place most p q d = elim (cases_lt place most) [
  | inl lt ↦ lt
  | inr le ↦ absurd (d.differ (slice_get_past b place (omega (arith, p, le)) ∙ sym (slice_get_past c place (omega (arith, q, le)))))
]

-- the octets before the place are an opening tag and events, after which these groups are open, and have this mark
pub record Checking (number : ℕ) (input : List ℕ) (place : ℕ) (groups : List ℕ) (mark : Option ℕ) : Type 0 where
  pub es : List Event
  pub read : HasRead number input place es
  pub marked : HasMark number input place es mark
  pub are_open : AreOpen es groups

pub checking_begun : (number : ℕ) (input : List ℕ) (start : ℕ) (groups : List ℕ) (mark : Option ℕ) → number ≤ 254 → start ≤ length input → Heads (Open number) (take start input) → ((b : List ℕ) → IsLeast (Heads (Open number)) b → IsMark (take start input) b mark) → groups ≡ []
    → Checking number input start groups mark
checking_begun number input start groups mark small within opened marks e = record {
  es = [];
  read = record { within = within; spelled = one_event (opening number) (take start input) opened };
  marked = marked_opening number input start [] mark small marks refl;
  are_open = subst (AreOpen []) (sym e) none_open;
}

module _ (number : ℕ) (input : List ℕ) (place taken : ℕ) (groups : List ℕ) (mark own joined : Option ℕ) (i : Item) (is : IsItem i) (room : taken ≤ length (drop place input)) (spelled : SpellsEvent (item_event i) (take taken (drop place input)))
    (marks : ItemMark (take taken (drop place input)) i own) (e : joined ≡ joined_mark mark place own) (k : Checking number input place groups mark) where
  item_marked : HasMark number input (place + taken) (k.es ++ item_event i ∷ []) joined
  item_marked =
      let h = k.marked in
      let l = least_item i is in
      let long : length (take place input) ≡ place = omega (arith, length-take place input, k.read.within) in
      let octets = take-add place taken input in
      record {
        least = h.least ++ l.0;
        is_least = least_more (opening number ∷ k.es) (item_event i) h.least l.0 h.is_least l.1;
        is_mark = rw (e, octets) (subst (λ (n : ℕ). IsMark (take place input ++ take taken (drop place input)) (h.least ++ l.0) (joined_mark mark n own)) long
            (mark-append (take place input) (take taken (drop place input)) h.least l.0 mark own h.is_mark (marks l.0 l.1)));
      }

  pub checking_more : (groups' : List ℕ) → AreOpen (k.es ++ item_event i ∷ []) groups' → Checking number input (place + taken) groups' joined
  checking_more groups' opens = record {
    es = k.es ++ item_event i ∷ [];
    read = has_read_more number input place taken k.es (k.es ++ item_event i ∷ []) (item_event i) k.read room spelled refl;
    marked = item_marked;
    are_open = opens;
  }

  pub checking_ended : length groups ≡ 0 → item_event i ≡ closing number → TakesMarked (SpellsOpen 32 number) input (place + taken, joined)
  checking_ended none ends =
      let closed : AreOpen k.es [] = all_closed k.es groups k.are_open none in
      let value = value_of_events k.es in
      let same = (events-value_of_events 32 k.es closed.opened).0 in
      let read = value_read number input place taken k.es value (item_event i) k.read room spelled ends ([], closed.opened, refl) same in
      let whole = subst (λ (fs : List Event). HasMark number input (place + taken) fs joined) (sym (ended_events k.es value (item_event i) number same ends)) item_marked in
      record {
        value = value;
        takes = read;
        marked = record { least = whole.least; is_least = least_open 32 number value whole.least read.spelled.nested whole.is_least; is_mark = whole.is_mark };
      }
