-- Marks of what was read.
use Rattle.std.proofs.Common.{◌≡◌, ◌≢◌, ℕ, ◌+◌, ◌<◌, ◌≤◌, Bool, List, [], ◌∷◌, ◌++◌, Option, None, Some, take, drop, length, refl, sym, ◌∙◌, ap, subst, arith, Bor, append-nil, length-take, take-add}
use Rattle.std.proofs.lemmas.Bool.{eqb-true, eq-eqb}
use Rattle.std.proofs.lemmas.List.{append_cancel_left}
use Rattle.std.specs.Prelude.{false, true, is_some, nat_eq, IsTrue, ◌↔◌, IfNone, IfSome}
use Rattle.bac_tag.specs.declared.heads.TagHead.TheVariants.{App, AppBool, Ctx, Open, Close}
use Rattle.bac_tag.specs.Octets.{FirstDifference, IsMark, joined_mark}
use Rattle.bac_tag.specs.Laws.Octets.{mark-append, mark_by, mark_first}
use Rattle.bac_tag.specs.Spelling.{IsLeast}
use Rattle.bac_tag.specs.Laws.Spelling.{IsLeast-one, difference_within}
use Rattle.bac_tag.specs.Heads.{Heads}
use Rattle.bac_tag.specs.Laws.Heads.{heads_end}
use Rattle.bac_tag.proofs.HeadLenLemmas.{fits_spelled, least_as_short}
use Rattle.bac_tag.proofs.WritingLemmas.{some_least}
use Rattle.bac_tag.proofs.ShortLemmas.{one_is_least}
use Rattle.bac_value.specs.declared.prim.PrimitiveValue.{PrimitiveValue}
use Rattle.bac_value.specs.declared.prim.PrimitiveValue.TheVariants.{Boolean}
use Rattle.bac_value.specs.OctetStringContents.{IsOctetString}
use Rattle.bac_value.specs.PrimContents.{ContentsOf, prim_written}
use Rattle.bac_value.specs.Laws.Prim.{prim_limit, prim_once, prim_written_contents, prim_only_values}
use Rattle.bac_value.specs.PrimOfContents.{prim_of_contents}
use Rattle.bac_value.specs.Laws.PrimOfContents.{prim_of_contents_is}
use Rattle.bac_data.specs.declared.items.Item.{Item}
use Rattle.bac_data.specs.declared.items.Item.TheVariants as item
use Rattle.bac_data.specs.OpenValue.{Elements, depth}
use Rattle.bac_data.specs.Spells.{SpellsPrimitive, SpellsContext, SpellsOpen}
use Rattle.bac_data.specs.Events.{Event, opening, closing, events, SpellsEvent}
use Rattle.bac_data.specs.Reading.{item_event, item_contents, item_head, IsItem, HasLeastContents, LiesInFront}
use Rattle.bac_data.specs.Laws.Heads.{event_ends}
use Rattle.bac_data.specs.Marks.{HasMark}
use Rattle.bac_data.proofs.EventLeastLemmas.{least_contents, least_boolean_of, least_context}
use Rattle.bac_data.proofs.LeastLemmas.{least_more, least_one, least_open}

by_least : (Among : List ℕ → Type 0) (c b taken : List ℕ) (m : Option ℕ) → IsLeast Among c → IsMark taken c m → IsLeast Among b → IsMark taken b m
by_least Among c b taken m p h q = subst (λ (l : List ℕ). IsMark taken l m) (IsLeast-one Among c b p q) h

-- nothing behind
mark_alone : (a c : List ℕ) (m : Option ℕ) → IsMark a c m → IsMark (a ++ []) c m
mark_alone a c m h = rw (append-nil a) h

-- ---- contents under a head

module _ (number : ℕ) (prim : PrimitiveValue) (contents : List ℕ) (s : ContentsOf number prim contents) where
  pub written_small : length (prim_written prim) ≤ 1048576
  written_small = prim_limit prim (prim_written prim) (prim_written_contents prim (prim_only_values prim contents s.1))

  -- the least spelling of an application primitive
  pub least_by_head : number ≢ 1 → (head : List ℕ) → IsLeast (Heads (App number (length (prim_written prim)))) head → IsLeast (SpellsPrimitive (prim_of_contents number contents)) (head ++ prim_written prim)
  least_by_head other head h =
      subst (λ (p : PrimitiveValue). IsLeast (SpellsPrimitive p) (head ++ prim_written prim)) (sym (prim_of_contents_is number prim contents s))
      (least_contents prim (prim_written prim) head (λ e. other (sym s.0 ∙ e)) (prim_written_contents prim (prim_only_values prim contents s.1)) refl (subst (λ (n : ℕ). IsLeast (Heads (App n (length (prim_written prim)))) head) (sym s.0) h))

  least_by_contents : number ≤ 12 → number ≢ 1 → (b : List ℕ) × IsLeast (Heads (App number (length (prim_written prim)))) b × IsLeast (SpellsPrimitive (prim_of_contents number contents)) (b ++ prim_written prim)
  least_by_contents fits other =
      let l = some_least (App number (length (prim_written prim))) (fits, other) (omega (arith, written_small)) in
      (l.0, l.1, least_by_head other l.0 l.1)

  -- the mark of a head and contents is that of the head, or else that of the contents
  pub application_marked : number ≤ 12 → number ≢ 1 → (head : List ℕ) → Heads (App number (length contents)) head → (m o : Option ℕ) → ((b : List ℕ) → IsLeast (Heads (App number (length (prim_written prim)))) b → IsMark head b m)
      → IfNone o (contents ≡ prim_written prim) → IfSome o (FirstDifference contents (prim_written prim)) → (b : List ℕ) → IsLeast (SpellsPrimitive (prim_of_contents number contents)) b → IsMark (head ++ contents) b (joined_mark m (length head) o)
  application_marked fits other head h m o mark none some b p =
      let l = least_by_contents fits other in
      by_least (SpellsPrimitive (prim_of_contents number contents)) (l.0 ++ prim_written prim) b (head ++ contents) (joined_mark m (length head) o) l.2 (by_mark m l.0 (mark l.0 l.1) l.1.member) p
    where
      as_long : (n : ℕ) → App number (length contents) ≡ App number n → length contents ≡ n
      as_long n e = cc

      by_mark : (m : Option ℕ) (least : List ℕ) → IsMark head least m → Heads (App number (length (prim_written prim))) least → IsMark (head ++ contents) (least ++ prim_written prim) (joined_mark m (length head) o)
      by_mark (Some place) least k q = mark_first head contents least (prim_written prim) place k
      by_mark None least k q =
          let same = heads_end (App number (length contents)) (App number (length (prim_written prim))) head least [] [] h q (ap (λ (l : List ℕ). l ++ []) k) in
          mark-append head contents least (prim_written prim) None o k (mark_by contents (prim_written prim) o (as_long (length (prim_written prim)) same.1) none some)

  -- contents that are written of one value are written of each that they spell
  written_alike : contents ≡ prim_written prim → (p : PrimitiveValue) → ContentsOf number p contents → contents ≡ prim_written p
  written_alike same p q = same ∙ ap prim_written (prim_once prim p contents (s.0 ∙ sym q.0) s.1 q.1)

least_under_context : (number : ℕ) (octets : List ℕ) → number ≤ 254 → IsOctetString octets → (b : List ℕ) × IsLeast (Heads (Ctx number (length octets))) b × IsLeast (SpellsContext number octets) (b ++ octets)
least_under_context number octets fits within =
    let l = some_least (Ctx number (length octets)) fits (omega (arith, within.1)) in
    (l.0, l.1, least_context number octets l.0 within l.1)

-- ---- items

-- it is told whether the contents are those that are written
pub written_told : (i : Item) (number : ℕ) (contents : Bor (List ℕ)) (written : Bool) → i ≡ item.Application number contents written → IsItem i → IsTrue written ↔ HasLeastContents i
written_told i number contents written e is =
    let (fits, other, found, told) = subst IsItem e is in
    subst (λ (j : Item). IsTrue written ↔ HasLeastContents j) (sym e)
    ((λ t prim s. let w = told.0 t in written_alike number w.value contents.now w.spelled w.is prim s), λ least. told.1 (record { value = found.0; spelled = found.1; is = least found.0 found.1 }))

-- other items have no others
pub others_least : (i : Item) → ((number : ℕ) (contents : Bor (List ℕ)) (written : Bool) → i ≡ item.Application number contents written → ⊥) → HasLeastContents i
others_least (item.Boolean bit) other = tt
others_least (item.Application number contents written) other = absurd (other number contents written refl)
others_least (item.Context number octets) other = tt
others_least (item.Open number) other = tt
others_least (item.Close number) other = tt

-- an item is canonical where its head and its contents are,
pub least_whole : (i : Item) → IsItem i → (head : List ℕ) → IsLeast (Heads (item_head i)) head → HasLeastContents i → IsLeast (SpellsEvent (item_event i)) (head ++ item_contents i)
least_whole (item.Boolean bit) is head h least = rw (append-nil head) (least_boolean_of (record { 0 = bit }) head h)
least_whole (item.Application number contents written) (fits, other, found, told) head h least =
    let same : contents.now ≡ prim_written found.0 = least found.0 found.1 in
    subst (λ (l : List ℕ). IsLeast (SpellsPrimitive (prim_of_contents number contents.now)) (head ++ l)) (sym same)
    (least_by_head number found.0 contents.now found.1 other head (subst (λ (l : List ℕ). IsLeast (Heads (App number (length l))) head) same h))
least_whole (item.Context number octets) (fits, within) head h least = least_context number octets.now head within h
least_whole (item.Open number) is head h least = rw (append-nil head) h
least_whole (item.Close number) is head h least = rw (append-nil head) h

-- and nowhere else
pub whole_least : (i : Item) → IsItem i → (head : List ℕ) → Heads (item_head i) head → IsLeast (SpellsEvent (item_event i)) (head ++ item_contents i) → IsLeast (Heads (item_head i)) head × HasLeastContents i
whole_least (item.Boolean bit) is head h whole =
    let l = some_least (AppBool bit) tt tt in
    let same : head ≡ l.0 = sym (append-nil head) ∙ IsLeast-one (SpellsPrimitive (Boolean (record { 0 = bit }))) (head ++ []) l.0 whole (least_boolean_of (record { 0 = bit }) l.0 l.1) in
    (subst (IsLeast (Heads (AppBool bit))) (sym same) l.1, tt)
whole_least (item.Application number contents written) (fits, other, found, told) head h whole =
    let prim = found.0 in
    let l = least_by_contents number prim contents.now found.1 fits other in
    let same = IsLeast-one (SpellsPrimitive (prim_of_contents number contents.now)) (head ++ contents.now) (l.0 ++ prim_written prim) whole l.2 in
    let ends = heads_end (App number (length contents.now)) (App number (length (prim_written prim))) head l.0 contents.now (prim_written prim) h l.1.member same in
    let alike : contents.now ≡ prim_written prim = append_cancel_left head contents.now (prim_written prim) (same ∙ ap (λ (k : List ℕ). k ++ prim_written prim) (sym ends.0)) in (
      subst (IsLeast (Heads (App number (length contents.now)))) (sym ends.0) (subst (λ (c : List ℕ). IsLeast (Heads (App number (length c))) l.0) (sym alike) l.1),
      written_alike number prim contents.now found.1 alike,
    )
whole_least (item.Context number octets) (fits, within) head h whole =
    let l = least_under_context number octets.now fits within in
    let same = IsLeast-one (SpellsContext number octets.now) (head ++ octets.now) (l.0 ++ octets.now) whole l.2 in
    let ends = heads_end (Ctx number (length octets.now)) (Ctx number (length octets.now)) head l.0 octets.now octets.now h l.1.member same in
    (subst (IsLeast (Heads (Ctx number (length octets.now)))) (sym ends.0) l.1, tt)
whole_least (item.Open number) is head h whole = (rw (append-nil head) at whole, tt)
whole_least (item.Close number) is head h whole = (rw (append-nil head) at whole, tt)

-- if its contents are the least, its mark is that of its head
pub head_marked : (i : Item) → IsItem i → HasLeastContents i → (head : List ℕ) → Heads (item_head i) head → (m : Option ℕ) → ((b : List ℕ) → IsLeast (Heads (item_head i)) b → IsMark head b m) → (b : List ℕ) → IsLeast (SpellsEvent (item_event i)) b
    → IsMark (head ++ item_contents i) b m
head_marked i is least head h m mark b p =
    let l = some_least (item_head i) h.valid (fits_spelled (item_head i) head h) in
    by_least (SpellsEvent (item_event i)) (l.0 ++ item_contents i) b (head ++ item_contents i) m (least_whole i is l.0 l.1 least) (with_contents l.0 m (mark l.0 l.1)) p
  where
    with_contents : (c : List ℕ) (m : Option ℕ) → IsMark head c m → IsMark (head ++ item_contents i) (c ++ item_contents i) m
    with_contents c (Some place) k = mark_first head (item_contents i) c (item_contents i) place k
    with_contents c None k = ap (λ (l : List ℕ). l ++ item_contents i) k

-- a head is the least one where it is as long
pub least_as_long : (i : Item) → IsItem i → (head : List ℕ) → Heads (item_head i) head → (n : ℕ) → ((b : List ℕ) → IsLeast (Heads (item_head i)) b → n ≡ length b) → HasLeastContents i
    → IsTrue (nat_eq (length head) n) ↔ IsLeast (SpellsEvent (item_event i)) (head ++ item_contents i)
least_as_long i is head h n told least =
    let l = some_least (item_head i) h.valid (fits_spelled (item_head i) head h) in (
      λ same. least_whole i is head (subst (IsLeast (Heads (item_head i))) (sym (least_as_short (item_head i) head l.0 h l.1 (eqb-true (length head) n same ∙ told l.0 l.1))) l.1) least,
      λ whole. eq-eqb (length head) n (sym (told head (whole_least i is head h whole).0)),
    )

-- so is a head of one octet
pub least_of_one : (i : Item) → IsItem i → (head : List ℕ) → Heads (item_head i) head → length head ≡ 1 → HasLeastContents i → IsLeast (SpellsEvent (item_event i)) (head ++ item_contents i)
least_of_one i is head h one least =
    let l = some_least (item_head i) h.valid (fits_spelled (item_head i) head h) in
    least_whole i is head (subst (IsLeast (Heads (item_head i))) (sym (one_is_least (item_head i) head l.0 h one l.1)) l.1) least

pub least_item : (i : Item) → IsItem i → (b : List ℕ) × IsLeast (SpellsEvent (item_event i)) b
least_item (item.Boolean bit) h = let l = some_least (AppBool bit) tt tt in (l.0, least_boolean_of (record { 0 = bit }) l.0 l.1)
least_item (item.Application number contents written) (fits, other, found, told) = let l = least_by_contents number found.0 contents.now found.1 fits other in (l.0 ++ prim_written found.0, l.2)
least_item (item.Context number octets) (fits, within) = let l = least_under_context number octets.now fits within in (l.0 ++ octets.now, l.2)
least_item (item.Open number) h = some_least (Open number) h tt
least_item (item.Close number) h = some_least (Close number) h tt

-- the mark of its octets
abbrev pub ItemMark : List ℕ → Item → Option ℕ → Type 0
ItemMark octets i m = (b : List ℕ) → IsLeast (SpellsEvent (item_event i)) b → IsMark octets b m

-- those that are canonical have none
pub least_marked : (i : Item) (octets : List ℕ) → IsLeast (SpellsEvent (item_event i)) octets → ItemMark octets i None
least_marked i octets least b p = IsLeast-one (SpellsEvent (item_event i)) octets b least p

-- others have the first place where they differ from those
pub difference_marked : (i : Item) (octets more : List ℕ) (m : Option ℕ) → SpellsEvent (item_event i) octets → IsLeast (SpellsEvent (item_event i)) more → IfNone m (octets ≡ more) → IfSome m (FirstDifference octets more) → ItemMark octets i m
difference_marked i octets more None s least none some b p = none ∙ IsLeast-one (SpellsEvent (item_event i)) more b least p
difference_marked i octets more (Some place) s least none some b p =
    let within = difference_within SpellsEvent event_ends (item_event i) (item_event i) octets more place s least.member some in
    by_least (SpellsEvent (item_event i)) more b octets (Some place) least (within.0, within.1, some) p

-- the mark of a closing tag
pub closing_marked : (n : ℕ) (octets : List ℕ) (m : Option ℕ) → ((b : List ℕ) → IsLeast (Heads (Close n)) b → IsMark octets b m) → ItemMark (octets ++ []) (item.Close n) m
closing_marked n octets m mark b p = mark_alone octets b m (mark b p)

-- a mark is a place of the octets
pub mark_inside : (octets : List ℕ) (i : Item) (m : Option ℕ) → IsItem i → ItemMark octets i m → IfSome m (λ k. k < length octets)
mark_inside octets i None is mark = tt
mark_inside octets i (Some k) is mark = let l = least_item i is in (mark l.0 l.1).0

-- ---- the value so far

pub marked_opening : (n : ℕ) (input : List ℕ) (place : ℕ) (es : List Event) (m : Option ℕ) → n ≤ 254 → ((b : List ℕ) → IsLeast (Heads (Open n)) b → IsMark (take place input) b m) → es ≡ [] → HasMark n input place es m
marked_opening n input place es m small mark e =
    let l = some_least (Open n) small tt in
    rw e (record { least = l.0; is_least = least_one (opening n) l.0 l.1; is_mark = mark l.0 l.1 })

module _ (input : List ℕ) (place start taken : ℕ) (i : Item) (o : Option ℕ) (within : place ≤ length input) (is : IsItem i) (lies : LiesInFront i start taken (drop place input))
    (mark : ItemMark (take start (drop place input) ++ item_contents i) i o) where
  pub marked_more : (n : ℕ) (es fs : List Event) (m r : Option ℕ) → HasMark n input place es m → r ≡ joined_mark m place o → fs ≡ es ++ item_event i ∷ [] → HasMark n input (place + taken) fs r
  marked_more n es fs m r h e f =
      let l = least_item i is in
      let long : length (take place input) ≡ place = omega (arith, length-take place input) in
      let octets : take (place + taken) input ≡ take place input ++ (take start (drop place input) ++ item_contents i) = take-add place taken input ∙ ap (λ (l : List ℕ). take place input ++ l) lies.octets_are in
      record {
        least = h.least ++ l.0;
        is_least = rw f (least_more (opening n ∷ es) (item_event i) h.least l.0 h.is_least l.1);
        is_mark = rw (e, octets) (subst (λ (k : ℕ). IsMark (take place input ++ (take start (drop place input) ++ item_contents i)) (h.least ++ l.0) (joined_mark m k o)) long
            (mark-append (take place input) (take start (drop place input) ++ item_contents i) h.least l.0 m o h.is_mark (mark l.0 l.1)));
      }

-- an item behind a difference changes no mark
pub marked_already : (input : List ℕ) (place taken : ℕ) (i : Item) (n : ℕ) (es fs : List Event) (m : Option ℕ) → IsItem i → is_some m ≡ true
    → HasMark n input place es m → fs ≡ es ++ item_event i ∷ [] → HasMark n input (place + taken) fs m
marked_already input place taken i n es fs None is some h f = absurd (let e : false ≡ true = some in cc)
marked_already input place taken i n es fs (Some p) is some h f =
    let l = least_item i is in
    let octets : take (place + taken) input ≡ take place input ++ take taken (drop place input) = take-add place taken input in
    record {
      least = h.least ++ l.0;
      is_least = rw f (least_more (opening n ∷ es) (item_event i) h.least l.0 h.is_least l.1);
      is_mark = rw octets (mark_first (take place input) (take taken (drop place input)) h.least l.0 p h.is_mark);
    }

pub value_marked : (n : ℕ) (input : List ℕ) (place : ℕ) (v : Elements) (m : Option ℕ) → depth v ≤ 32 → HasMark n input place (events v ++ closing n ∷ []) m → (b : List ℕ) → IsLeast (SpellsOpen 32 n v) b → IsMark (take place input) b m
value_marked n input place v m deep h b p = by_least (SpellsOpen 32 n v) h.least b (take place input) m (least_open 32 n v h.least deep h.is_least) h.is_mark p

-- the events of a value and its closing tag
pub ended_events : (es : List Event) (v : Elements) (e : Event) (n : ℕ) → events v ≡ es → e ≡ closing n → events v ++ closing n ∷ [] ≡ es ++ e ∷ []
ended_events es v e n p q = ap (λ (es : List Event). es ++ closing n ∷ []) p ∙ ap (λ (e : Event). es ++ e ∷ []) (sym q)
