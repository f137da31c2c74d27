-- An item that may be next and begins with its canonical octets.
use Rattle.std.proofs.Common.{◌≡◌, ℕ, ◌+◌, ◌-◌, ◌≤◌, Bool, List, ◌++◌, take, drop, length, sym, ◌∙◌, ap, subst, arith, Bor, take-add, length-take, length-drop}
use Rattle.std.specs.List.{slice_range}
use Rattle.std.proofs.lemmas.Bool.{eq-eqb}
use Rattle.bac_tag.specs.Heads.{Heads}
use Rattle.bac_tag.specs.Spelling.{IsLeast}
use Rattle.bac_value.specs.PrimContents.{IsWrittenOf, prim_written}
use Rattle.bac_value.specs.Laws.Prim.{prim_once}
use Rattle.bac_data.specs.declared.items.Item.{Item}
use Rattle.bac_data.specs.declared.items.Item.TheVariants as item
use Rattle.bac_data.specs.Events.{SpellsEvent}
use Rattle.bac_data.specs.Laws.Heads.{head_some}
use Rattle.bac_data.specs.Reading.{MayStand, item_event, item_contents, item_head, IsItem, IsApplication, HasLeastContents, BeginsLeast, StandsLeast}
use Rattle.bac_data.proofs.MarkLemmas.{least_as_long}
use Rattle.bac_data.proofs.ReadingSteps.{begun_least}

-- an item whose head has no more octets than the least one, and whose contents are those that are written
pub stands_least : (room : Bool) (closing : ℕ) (octets : List ℕ) (i : Item) (start size taken n : ℕ) → IsItem i → MayStand room closing (item_event i) → start ≤ length octets → Heads (item_head i) (take start octets)
    → ((b : List ℕ) → IsLeast (Heads (item_head i)) b → n ≡ length b) → start ≡ n → HasLeastContents i → size ≤ length (drop start octets) → take size (drop start octets) ≡ item_contents i → taken ≡ start + size
    → StandsLeast room closing octets i taken
stands_least room closing octets i start size taken n is stands within h told same least room_for contents sum =
    let long : length (take start octets) ≡ start = omega (arith, within, length-take start octets) in
    let whole = (least_as_long i is (take start octets) h n told least).0 (eq-eqb (length (take start octets)) n (long ∙ same)) in
    let all : take start octets ++ item_contents i ≡ take taken octets =
    ap (λ (l : List ℕ). take start octets ++ l) (sym contents) ∙ sym (take-add start size octets) ∙ ap (λ (k : ℕ). take k octets) (sym sum) in
    let some = head_some (item_head i) (take start octets) h in
    record {
      is_item = is;
      stands = stands;
      some = omega (arith, some, long, sum);
      within = omega (arith, within, room_for, length-drop start octets, sum);
      least = subst (IsLeast (SpellsEvent (item_event i))) all whole;
    }

application_stands : (room : Bool) (closing : ℕ) (i : Item) → IsApplication i → MayStand room closing (item_event i)
application_stands room closing (item.Boolean bit) a = tt
application_stands room closing (item.Application number contents written) a = tt
application_stands room closing (item.Context number octets) a = absurd a
application_stands room closing (item.Open number) a = absurd a
application_stands room closing (item.Close number) a = absurd a

-- a primitive with a head of one octet
pub primitive_stands : (room : Bool) (closing : ℕ) (octets : List ℕ) (i : Item) (taken : ℕ) → BeginsLeast i taken octets → taken ≤ length octets → StandsLeast room closing octets i taken
primitive_stands room closing octets i taken b within = record {
  is_item = b.is_item;
  stands = application_stands room closing i b.primitive;
  some = omega (arith, b.lies.within);
  within = within;
  least = begun_least i taken octets b;
}

-- contents that are written of a value are so of each value that they spell
pub written_least : (number : ℕ) (contents : Bor (List ℕ)) (written : Bool) → IsWrittenOf number contents.now → HasLeastContents (item.Application number contents written)
written_least number contents written w prim s = w.is ∙ ap prim_written (prim_once w.value prim contents.now (w.spelled.0 ∙ sym s.0) w.spelled.1 s.1)

-- what is looked up from the front on is the front
pub front_is : (octets found : List ℕ) (len : ℕ) → found ≡ slice_range octets 0 len → take len octets ≡ found
front_is octets found len e = sym (e ∙ ap (λ (n : ℕ). take n octets) (let all : len - 0 ≡ len = omega arith in all))
