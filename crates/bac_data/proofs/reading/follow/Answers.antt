use Rattle.std.proofs.Common.{◌≡◌, ℕ, ◌-◌, List, [], ◌∷◌, ◌++◌, length, get_or, refl, sym, ◌∙◌, subst, arith}
use Rattle.std.proofs.lemmas.Option.{slice_get-get_or}
use Rattle.bac_data.specs.declared.items.Item.{Item}
use Rattle.bac_data.specs.declared.items.Item.TheVariants as item
use Rattle.bac_data.specs.Events.{Event, opening, Opens}
use Rattle.bac_data.specs.Building.{AreOpen, MayFollow}
use Rattle.bac_data.specs.Reading.{item_event, IsItem}
use Rattle.bac_data.proofs.BuildingLemmas.{open_kept, open_more, room_follows, some_ends, ends_innermost, last_popped}
use Rattle.bac_data.proofs.reading.follow.Goals as goal

may : (i j : Item) (es : List Event) → i ≡ j → MayFollow 32 es (item_event i) → MayFollow 32 es (item_event j)
may i j es e = subst (λ (k : Item). MayFollow 32 es (item_event k)) e

with_item : (i j : Item) (es : List Event) (groups : List ℕ) → i ≡ j → AreOpen (es ++ item_event j ∷ []) groups → AreOpen (es ++ item_event i ∷ []) groups
with_item i j es groups e = subst (λ (k : Item). AreOpen (es ++ item_event k ∷ []) groups) (sym e)

pub push-requires : goal.push-requires
push-requires c =
    let room = room_follows c.requires.follows.0 c.args.groups.now.items c.in-Open.number c.requires.follows.1 (may c.args.item (item.Open c.in-Open.number) c.requires.follows.0 c.in-Open.is c.requires.follows.2) in
    (omega arith, omega (arith, room))

pub returns-in-Open : goal.returns-in-Open
returns-in-Open c = λ es a m.
    let room = room_follows es c.args.groups.now.items c.in-Open.number a (may c.args.item (item.Open c.in-Open.number) es c.in-Open.is m) in
    let small : IsItem (item.Open c.in-Open.number) = subst IsItem c.in-Open.is c.requires.item in
    with_item c.args.item (item.Open c.in-Open.number) es c.push.new.self.items c.in-Open.is
    (subst (AreOpen (es ++ opening c.in-Open.number ∷ [])) (sym c.push.ensures.items) (open_more es c.args.groups.now.items c.in-Open.number a small room))

pub returns-in-Close : goal.returns-in-Close
returns-in-Close c = λ es a m.
    let ends = may c.args.item (item.Close c.in-Close.field-0) es c.in-Close.is m in
    let some = some_ends es c.args.groups.now.items c.in-Close.field-0 a ends in
    let last = get_or c.args.groups.now.items (length c.args.groups.now.items - 1) 0 in
    let is = last_popped c.args.groups.now.items c.pop.new.self.items c.pop.result last c.pop.ensures.items (c.pop.ensures.value ∙ slice_get-get_or c.args.groups.now.items (length c.args.groups.now.items - 1) 0 (omega (arith, some))) in
    with_item c.args.item (item.Close c.in-Close.field-0) es c.pop.new.self.items c.in-Close.is (ends_innermost es c.args.groups.now.items c.in-Close.field-0 a ends c.pop.new.self.items last is)

-- what opens and closes nothing
keeps : (i : Item) → ((number : ℕ) → i ≡ item.Open number → ⊥) → ((number : ℕ) → i ≡ item.Close number → ⊥) → (s : List ℕ) → Opens 32 s (item_event i ∷ []) s
keeps (item.Boolean bit) o c s = refl
keeps (item.Application number contents written) o c s = refl
keeps (item.Context number octets) o c s = refl
keeps (item.Open number) o c s = absurd (o number refl)
keeps (item.Close number) o c s = absurd (c number refl)

pub returns-in_default : goal.returns-in_default
returns-in_default c = λ es a m. open_kept es (item_event c.args.item) c.args.groups.now.items a (keeps c.args.item c.in_default.not-Open c.in_default.not-Close)
