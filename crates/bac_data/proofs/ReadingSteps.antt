-- What a reader keeps, step by step.
use Rattle.std.proofs.Common.{◌≡◌, ℕ, ◌+◌, ◌-◌, ◌<◌, ◌≤◌, Bool, true, false, Option, None, Some, List, [], ◌∷◌, ◌++◌, take, drop, length, reverse, refl, sym, ◌∙◌, ap, subst, arith, take-add, length-take}
use Rattle.std.proofs.Math.Seq.{drop-append_seam}
use Rattle.std.proofs.lemmas.List.{append_cancel_left, append-nil, length-reverse, take_all}
use Rattle.std.specs.Prelude.{is_some, IsTrue, IfNone, ◌↔◌}
use Rattle.bac_tag.specs.Octets.{IsMark, joined_mark}
use Rattle.bac_tag.specs.Spelling.{IsLeast, AppendsLeast}
use Rattle.bac_tag.specs.Heads.{Heads}
use Rattle.bac_tag.specs.Laws.Heads.{heads_end}
use Rattle.bac_tag.specs.Laws.Spelling.{IsLeast-one}
use Rattle.bac_tag.specs.Short.{BeginsShort}
use Rattle.bac_tag.specs.declared.heads.TagHead.TheVariants.{Close, Open}
use Rattle.bac_tag.proofs.MarksLemmas.{spelled_some}
use Rattle.bac_data.specs.declared.items.Item.{Item}
use Rattle.bac_data.specs.declared.items.Item.TheVariants as item
use Rattle.bac_data.specs.Events.{Event, closing, opening, Opens, SpellsEvent, SpellsEvents}
use Rattle.bac_data.specs.Building.{AreOpen, Keeps, IsPlace, closing_number}
use Rattle.bac_data.specs.Marks.{HasMark}
use Rattle.bac_data.specs.Reading.{item_event, item_contents, item_head, IsItem, IsApplication, LiesInFront, BeginsLeast}
use Rattle.bac_data.proofs.AnyLemmas.{HasRead, has_read_more}
use Rattle.bac_data.proofs.BuildingLemmas.{open_kept}
use Rattle.bac_data.proofs.LeastLemmas.{least_more, least_none}
use Rattle.bac_data.proofs.MarkLemmas.{ItemMark, least_of_one, least_marked, closing_marked, marked_more, marked_already}
use Rattle.bac_data.proofs.WalkLemmas.{in_two}

-- ---- what is kept

-- behind a difference the canonical octets are kept
pub kept_more : (es : List Event) (e : Event) (behind : Option ℕ) (old new : List ℕ) → (behind ≡ None → ⊥) → IsLeast (SpellsEvents es) old → AppendsLeast (SpellsEvent e) old new → Keeps behind (es ++ e ∷ []) new
kept_more es e None old new some p a = absurd (some refl)
kept_more es e (Some place) old new some p a = subst (IsLeast (SpellsEvents (es ++ e ∷ []))) (sym a.new_is) (least_more es e old a.more p a.is_least)

-- at the first difference those in front are begun with
pub kept_begun : (before : Option ℕ) (es : List Event) (old front new : List ℕ) → is_some before ≡ false → Keeps before es old → (before ≡ None → IsLeast (SpellsEvents es) front) → new ≡ old ++ front → IsLeast (SpellsEvents es) new
kept_begun None es old front new i k f e = subst (IsLeast (SpellsEvents es)) (sym (e ∙ ap (λ (l : List ℕ). l ++ front) k)) (f refl)
kept_begun (Some place) es old front new i k f e = absurd (let u : true ≡ false = i in cc)

pub kept_on : (before : Option ℕ) (es : List Event) (old : List ℕ) → is_some before ≡ true → Keeps before es old → IsLeast (SpellsEvents es) old
kept_on None es old i k = absurd (let u : false ≡ true = i in cc)
kept_on (Some place) es old i k = k

pub none_told : (m : Option ℕ) → is_some m ≡ true → m ≡ None → ⊥
none_told m e f = let i : false ≡ true = sym (ap is_some f) ∙ e in cc

pub none_then : (m : Option ℕ) (P : Type 0) → IfNone m P → m ≡ None → P
none_then None P h e = h
none_then (Some place) P h e = absurd (let u : Some place ≡ None = e in cc)

-- what was appended stands behind what was there
pub appended_behind : (old more new read : List ℕ) (start : ℕ) → start ≡ length old → read ≡ new → new ≡ old ++ more → drop start read ≡ more
appended_behind old more new read start s r n = rw (s, r, n) (drop-append_seam old more)

-- behind an item that is not canonical, or that stands behind such a one, the mark is a place
pub marked_behind : (before own : Option ℕ) (place : ℕ) → (before ≡ None → own ≡ None → ⊥) → joined_mark before place own ≡ None → ⊥
marked_behind None None place f e = f refl refl
marked_behind None (Some k) place f e = let u : Some (place + k) ≡ None = e in cc
marked_behind (Some p) own place f e = let u : Some p ≡ None = e in cc

-- the octets of an item are its head and its contents
pub whole_octets : (i : Item) (start : ℕ) (octets : List ℕ) → LiesInFront i start (length octets) octets → octets ≡ take start octets ++ item_contents i
whole_octets i start octets lies = sym (take_all (length octets) octets (omega arith)) ∙ lies.octets_are

-- with no event nothing is kept
pub keeps_nothing : (m : Option ℕ) (kept : List ℕ) → kept ≡ [] → Keeps m [] kept
keeps_nothing None kept e = e
keeps_nothing (Some place) kept e = subst (IsLeast (SpellsEvents [])) (sym e) (least_none [] refl)

-- ---- groups that are open

pub is_place : (number : ℕ) (es : List Event) (groups : List ℕ) (room : Bool) (last : ℕ) → AreOpen es groups → IsTrue room ↔ (length groups < 32) → last ≡ closing_number number (reverse groups) → IsPlace 32 number es room last
is_place number es groups room last h r e = (reverse groups, h.opened, (λ t. let few = r.0 t in omega (arith, few, length-reverse groups), λ few. r.1 (omega (arith, few, length-reverse groups))), e)

pub all_closed : (es : List Event) (groups : List ℕ) → AreOpen es groups → length groups ≡ 0 → AreOpen es []
all_closed es [] h e = h
all_closed es (g ∷ gs) h e = absurd (omega (arith, e))

-- ---- what was read so far

pub record Reading (number : ℕ) (input : List ℕ) (start place : ℕ) (groups kept : List ℕ) (mark : Option ℕ) : Type 0 where
  pub es : List Event
  pub read : HasRead number input place es
  pub marked : HasMark number input place es mark
  pub are_open : AreOpen es groups
  pub keeps : Keeps mark es kept
  pub begun : start ≤ place
  pub opened : Heads (Open number) (take start input)

-- while all octets are the canonical ones, those behind the opening tag are the canonical ones of the events
pub front_least : (number : ℕ) (input : List ℕ) (start place : ℕ) (es : List Event) (m : Option ℕ) → start ≤ place → Heads (Open number) (take start input) → HasMark number input place es m → m ≡ None
    → IsLeast (SpellsEvents es) (take (place - start) (drop start input))
front_least number input start place es (Some p) le h k e = absurd (let i : Some p ≡ None = e in cc)
front_least number input start place es None le h k e =
    let slice : List ℕ = take (place - start) (drop start input) in
    let two = in_two (opening number) es k.least k.is_least in
    let sum : place ≡ start + (place - start) = omega arith in
    let whole : take place input ≡ take start input ++ slice = ap (λ (n : ℕ). take n input) sum ∙ take-add start (place - start) input in
    let octets_are : two.front ++ two.back ≡ take start input ++ slice = sym two.octets_are ∙ sym k.is_mark ∙ whole in
    let same = heads_end (Open number) (Open number) two.front (take start input) two.back slice two.first.member h octets_are in
    subst (IsLeast (SpellsEvents es)) (append_cancel_left two.front two.back slice (octets_are ∙ ap (λ (l : List ℕ). l ++ slice) (sym same.0))) two.others

-- the mark behind an item
pub behind_marked : (number : ℕ) (input : List ℕ) (place start taken : ℕ) (i : Item) (es : List Event) (m own r : Option ℕ) → place ≤ length input → IsItem i → LiesInFront i start taken (drop place input)
    → (m ≡ None → ItemMark (take taken (drop place input)) i own) → r ≡ joined_mark m place own → HasMark number input place es m → HasMark number input (place + taken) (es ++ item_event i ∷ []) r
behind_marked number input place start taken i es None own r within is lies f e k =
    marked_more input place start taken i own within is lies (subst (λ (l : List ℕ). ItemMark l i own) lies.octets_are (f refl)) number es (es ++ item_event i ∷ []) None r k e refl
behind_marked number input place start taken i es (Some p) own r within is lies f e k =
    subst (HasMark number input (place + taken) (es ++ item_event i ∷ [])) (sym e) (marked_already input place taken i number es (es ++ item_event i ∷ []) (Some p) is refl k refl)

-- an item that ends a group is a closing tag
pub closing_item : (i : Item) (n : ℕ) → item_event i ≡ closing n → i ≡ item.Close n
closing_item (item.Boolean bit) n e = absurd (let u = e in cc)
closing_item (item.Application number contents written) n e = absurd (let u = e in cc)
closing_item (item.Context number octets) n e = absurd (let u = e in cc)
closing_item (item.Open number) n e = absurd (let u = e in cc)
closing_item (item.Close number) n e = ap item.Close (let u = e in cc)

-- the mark behind a closing tag
pub closed_behind : (number : ℕ) (input : List ℕ) (place start taken : ℕ) (i : Item) (es : List Event) (m own r : Option ℕ) → number ≤ 254 → place ≤ length input → i ≡ item.Close number → LiesInFront i start taken (drop place input)
    → ((b : List ℕ) → IsLeast (Heads (Close number)) b → IsMark (take start (drop place input)) b own) → r ≡ joined_mark m place own → HasMark number input place es m → HasMark number input (place + taken) (es ++ item_event i ∷ []) r
closed_behind number input place start taken i es m own r small within is lies mark e k =
    subst (λ (j : Item). HasMark number input (place + taken) (es ++ item_event j ∷ []) r) (sym is)
    (marked_more input place start taken (item.Close number) own within small (subst (λ (j : Item). LiesInFront j start taken (drop place input)) is lies) (closing_marked number (take start (drop place input)) own mark) number es (es ++ closing number ∷ []) m r k e refl)

-- ---- primitives that stand in their canonical octets

pub unmarked : (m : Option ℕ) (place : ℕ) → m ≡ joined_mark m place None
unmarked None place = refl
unmarked (Some p) place = refl

-- the mark behind a closing tag of one octet
pub closed_mark : (number : ℕ) (input : List ℕ) (place : ℕ) (es : List Event) (m : Option ℕ) → number ≤ 254 → place ≤ length input → BeginsShort (Close number) (drop place input) → HasMark number input place es m
    → HasMark number input (place + 1) (es ++ closing number ∷ []) m
closed_mark number input place es m small within b marked =
    let front : List ℕ = take 1 (drop place input) in
    let lies : LiesInFront (item.Close number) 1 1 (drop place input) = record { within = omega arith; headed = b.least.member; octets_are = sym (append-nil front) } in
    closed_behind number input place 1 1 (item.Close number) es m None m small within refl lies (λ c p. IsLeast-one (Heads (Close number)) front c b.least p) (unmarked m place) marked

pub stays : (i : Item) → IsApplication i → (s : List ℕ) → Opens 32 s (item_event i ∷ []) s
stays (item.Application number contents written) a s = refl
stays (item.Boolean bit) a s = refl
stays (item.Context number octets) a s = absurd a
stays (item.Open number) a s = absurd a
stays (item.Close number) a s = absurd a

-- what is kept of one more item, of which these are the canonical octets
pub kept_octets : (mark : Option ℕ) (es : List Event) (e : Event) (old octets new : List ℕ) → (is_some mark ≡ false → new ≡ old) → (is_some mark ≡ true → new ≡ old ++ octets) → IsLeast (SpellsEvent e) octets → Keeps mark es old
    → Keeps mark (es ++ e ∷ []) new
kept_octets None es e old octets new none some least k = none refl ∙ k
kept_octets (Some place) es e old octets new none some least k = subst (IsLeast (SpellsEvents (es ++ e ∷ []))) (sym (some refl)) (least_more es e old octets k least)

module _ (i : Item) (taken : ℕ) (octets : List ℕ) (b : BeginsLeast i taken octets) where
  least_lies : IsLeast (SpellsEvent (item_event i)) (take 1 octets ++ item_contents i)
  least_lies = least_of_one i b.is_item (take 1 octets) b.lies.headed (let some = spelled_some (item_head i) (take 1 octets) b.lies.headed in omega (arith, some, length-take 1 octets)) b.least

  pub begun_mark : ItemMark (take 1 octets ++ item_contents i) i None
  begun_mark = least_marked i (take 1 octets ++ item_contents i) least_lies

  pub begun_least : IsLeast (SpellsEvent (item_event i)) (take taken octets)
  begun_least = subst (IsLeast (SpellsEvent (item_event i))) (sym b.lies.octets_are) least_lies

pub begun_still : (start place taken : ℕ) → start ≤ place → start ≤ place + taken
begun_still start place taken h = omega (arith, h)

-- one more item that begins with its canonical octets
abbrev pub read_least : (number : ℕ) (input : List ℕ) (start place taken : ℕ) (groups kept new : List ℕ) (mark : Option ℕ) (i : Item) → BeginsLeast i taken (drop place input) → taken ≤ length (drop place input)
    → ((es : List Event) (e : Event) → IsLeast (SpellsEvent e) (take taken (drop place input)) → Keeps mark es kept → Keeps mark (es ++ e ∷ []) new) → Reading number input start place groups kept mark
    → Reading number input start (place + taken) groups new mark
read_least number input start place taken groups kept new mark i b within keeps r = record {
  es = r.es ++ item_event i ∷ [];
  read = has_read_more number input place taken r.es (r.es ++ item_event i ∷ []) (item_event i) r.read within (begun_least i taken (drop place input) b).member refl;
  marked = marked_more input place 1 taken i None r.read.within b.is_item b.lies (begun_mark i taken (drop place input) b) number r.es (r.es ++ item_event i ∷ []) mark mark r.marked (unmarked mark place) refl;
  are_open = open_kept r.es (item_event i) groups r.are_open (stays i b.primitive);
  keeps = keeps r.es (item_event i) (begun_least i taken (drop place input) b) r.keeps;
  begun = begun_still start place taken r.begun;
  opened = r.opened;
}

-- one more item
abbrev pub read_next : (number : ℕ) (input : List ℕ) (start place head taken : ℕ) (groups groups' kept kept' : List ℕ) (mark own mark' : Option ℕ) (i : Item) → IsItem i → LiesInFront i head taken (drop place input)
    → taken ≤ length (drop place input) → SpellsEvent (item_event i) (take taken (drop place input)) → (mark ≡ None → ItemMark (take taken (drop place input)) i own) → mark' ≡ joined_mark mark place own
    → (r : Reading number input start place groups kept mark) → AreOpen (r.es ++ item_event i ∷ []) groups' → Keeps mark' (r.es ++ item_event i ∷ []) kept' → Reading number input start (place + taken) groups' kept' mark'
read_next number input start place head taken groups groups' kept kept' mark own mark' i is lies within spelled marks joined r opens keeps = record {
  es = r.es ++ item_event i ∷ [];
  read = has_read_more number input place taken r.es (r.es ++ item_event i ∷ []) (item_event i) r.read within spelled refl;
  marked = behind_marked number input place head taken i r.es mark own mark' r.read.within is lies marks joined r.marked;
  are_open = opens;
  keeps = keeps;
  begun = begun_still start place taken r.begun;
  opened = r.opened;
}
