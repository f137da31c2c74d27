-- What follows in an open value where some groups are open, the innermost first.
use Rattle.std.specs.Prelude.{◌≡◌, ℕ, ◌+◌, ◌≤◌, List, [], ◌∷◌, ◌++◌, length, nat_eq, cond, Option, Some, refl, map}
use Rattle.std.specs.List.{flat_map, AllByRecursion}
use Rattle.std.proofs.Common.{sym, ◌∙◌, ap, subst, arith}
use Rattle.std.proofs.lemmas.Bool.{le-leb}
use Rattle.bac_tag.specs.declared.heads.TagHead.TheVariants.{Close}
use Rattle.bac_tag.specs.Heads.{Heads}
use Rattle.bac_value.specs.declared.prim.PrimitiveValue.TheVariants.{Null, Boolean, Unsigned, Signed, RealBits, DoubleBits, Octets, Text, Bits, Enumerated, Date, Time, ObjectId}
use Rattle.bac_data.specs.OpenValue.{Elements}
use Rattle.bac_data.specs.Events.{Event, application, contextual, opening, closing, events, value_of_events, Opens, SpellsEvent, SpellsEvents}
use Rattle.bac_data.specs.Spells.{SpellsOpen}
use Rattle.bac_data.proofs.EventLemmas.{events_spelled, value_spelled}
use Rattle.bac_data.proofs.OpenLemmas.{Opens-append, Opens-split, events-opens}
use Rattle.bac_productions.specs.Laws.Tag.{opening_inhabited, closing_inhabited}
use Rattle.bac_field_parts.specs.declared.names.Name.TheVariants as name
use Rattle.bac_field_parts.specs.Names.{number_of}
use Rattle.bac_field_parts.specs.Fields.{next, closing_field}
use Rattle.bac_field_parts.specs.OpenValueFields.{event_field, event_step, open_steps}
use Rattle.bac_field_parts.specs.Symbols.{Symbol, IsStop, field_said, steps_said}
use Rattle.bac_data.proofs.BalancedLemmas.{events-value_of_events}
use Rattle.bac_field_parts.specs.Laws.Firsts.{field_then, Starts, HasFirsts, stop_after}
use Rattle.bac_field_parts.specs.Laws.PrimitiveNames.{prim_named}

abbrev pub event_said : Event → List Symbol
event_said e = field_said (event_field e)

-- the end of the value
abbrev pub value_end : List Symbol
value_end = field_then 118 0 (Some []) []

-- events that close the open groups, and the end of the value
pub record Rest (s : List ℕ) (es : List Symbol) : Type 0 where
  pub following : List Event
  pub octets : List ℕ
  pub opened : Opens 32 s following []
  pub spelled : SpellsEvents following octets
  pub symbols : es ≡ flat_map event_said following ++ value_end

abbrev pub Rests : List ℕ → Unit {0} → List Symbol → Type 0
Rests s u = Rest s

-- the field of an event that may come next, or the end of the value
pub data MayCome (s : List ℕ) (n m : ℕ) (c : Option (List ℕ)) : Type 0 where
  event : (e : Event) (t b : List ℕ) → Opens 32 s (e ∷ []) t → SpellsEvent e b → event_said e ≡ field_then n m c [] → MayCome s n m c
  ended : s ≡ [] → n ≡ 118 → m ≡ 0 → c ≡ Some [] → MayCome s n m c

-- ---- closing what is open

abbrev closes : List ℕ → List Event
closes [] = []
closes (k ∷ s) = closing k ∷ closes s

closes_opens : (s : List ℕ) → Opens 32 s (closes s) []
closes_opens [] = refl
closes_opens (k ∷ s) = (s, refl, closes_opens s)

pub closed : (k : ℕ) → k ≤ 254 → (b : List ℕ) × Heads (Close k) b
closed k le = let i = closing_inhabited k (le-leb k 254 le) in (i.octets, i.spelled)

closes_spelled : (s : List ℕ) → AllByRecursion (λ k. k ≤ 254) s → (b : List ℕ) × SpellsEvents (closes s) b
closes_spelled [] h = ([], refl)
closes_spelled (k ∷ s) h =
    let first = closed k h.0 in
    let rest = closes_spelled s h.1 in
    (first.0 ++ rest.0, record { front = first.0; back = rest.0; first = first.1; second = rest.1; octets = refl })

pub rest_some : (s : List ℕ) → AllByRecursion (λ k. k ≤ 254) s → (es : List Symbol) × Rest s es
rest_some s h =
    let c = closes_spelled s h in
    (flat_map event_said (closes s) ++ value_end, record { following = closes s; octets = c.0; opened = closes_opens s; spelled = c.1; symbols = refl })

-- the numbers of the groups that are open after an event
pub numbers_after : (s : List ℕ) (e : Event) (t b : List ℕ) → AllByRecursion (λ k. k ≤ 254) s → Opens 32 s (e ∷ []) t → SpellsEvent e b → AllByRecursion (λ k. k ≤ 254) t
numbers_after s (application prim) t b h o p = subst (λ (l : List ℕ). AllByRecursion (λ k. k ≤ 254) l) o h
numbers_after s (contextual number octets) t b h o p = subst (λ (l : List ℕ). AllByRecursion (λ k. k ≤ 254) l) o h
numbers_after s (opening number) t b h o p = subst (λ (l : List ℕ). AllByRecursion (λ k. k ≤ 254) l) o.1 (p.valid, h)
numbers_after s (closing number) t b h o p =
    let (r, e, f) = o in
    subst (λ (l : List ℕ). AllByRecursion (λ k. k ≤ 254) l) f (subst (λ (l : List ℕ). AllByRecursion (λ k. k ≤ 254) l) e h).1

-- ---- the first field

pub then_rest : (s : List ℕ) (e : Event) (t b : List ℕ) (fs : List Symbol) → Opens 32 s (e ∷ []) t → SpellsEvent e b → Rest t fs → Rest s (event_said e ++ fs)
then_rest s e t b fs o p r = record {
  following = e ∷ r.following;
  octets = b ++ r.octets;
  opened = Opens-append 32 (e ∷ []) r.following s t [] o r.opened;
  spelled = record { front = b; back = r.octets; first = p; second = r.spelled; octets = refl };
  symbols = ap (λ (l : List Symbol). event_said e ++ l) r.symbols;
}

rest_starts : (s : List ℕ) (evs : List Event) (es : List Symbol) (b : List ℕ) → Opens 32 s evs [] → SpellsEvents evs b → es ≡ flat_map event_said evs ++ value_end → Starts (MayCome s) es
rest_starts s [] es b o p e = record { name = 118; number = 0; contents = Some []; rest = []; symbols = e; first = ended o refl refl refl }
rest_starts s (v ∷ evs) es b o p e =
    let parts = Opens-split 32 (v ∷ []) evs s [] o in
    record { name = number_of (event_field v).name; number = (event_field v).number; contents = _; rest = flat_map event_said evs ++ value_end; symbols = e; first = event v parts.0 p.front parts.1 p.first refl }

rest_continues : (s : List ℕ) (n m : ℕ) (c : Option (List ℕ)) → AllByRecursion (λ k. k ≤ 254) s → MayCome s n m c → (rest : List Symbol) × Rest s (field_then n m c rest)
rest_continues s n m c h (event e t b o p is) =
    let r = rest_some t (numbers_after s e t b h o p) in
    (r.0, subst (λ (l : List Symbol). Rest s (l ++ r.0)) is (then_rest s e t b r.0 o p r.1))
rest_continues s n m c h (ended none names numbers contents) =
    let whole : value_end ≡ field_then n m c [] = sym (ap (λ i. field_then i m c []) names ∙ ap (λ i. field_then 118 i c []) numbers ∙ ap (λ x. field_then 118 0 x []) contents) in
    ([], record { following = []; octets = []; opened = none; spelled = refl; symbols = sym whole })

pub rest_firsts : (s : List ℕ) → AllByRecursion (λ k. k ≤ 254) s → HasFirsts (Rests s) (MayCome s)
rest_firsts s h = record {
  starts = λ es r. rest_starts s r.following es r.octets r.opened r.spelled r.symbols;
  continues = λ n m c f. rest_continues s n m c h f;
  some = rest_some s h;
}

-- ---- one event more

-- what an event does with the groups, by its name
abbrev effect_of : ℕ → ℕ
effect_of n = cond (nat_eq n 121) 1 (cond (nat_eq n 122) 2 0)

abbrev effect : Event → ℕ
effect (application prim) = 0
effect (contextual number octets) = 0
effect (opening number) = 1
effect (closing number) = 2

effect_told : (e : Event) → effect_of (number_of (event_field e).name) ≡ effect e
effect_told (application (Null value)) = refl
effect_told (application (Boolean value)) = refl
effect_told (application (Unsigned value)) = refl
effect_told (application (Signed value)) = refl
effect_told (application (RealBits value)) = refl
effect_told (application (DoubleBits value)) = refl
effect_told (application (Octets octets)) = refl
effect_told (application (Text text)) = refl
effect_told (application (Bits bits)) = refl
effect_told (application (Enumerated value)) = refl
effect_told (application (Date value)) = refl
effect_told (application (Time value)) = refl
effect_told (application (ObjectId object)) = refl
effect_told (contextual number octets) = refl
effect_told (opening number) = refl
effect_told (closing number) = refl

-- no event has the name of the end
pub event_name : (e : Event) → number_of (event_field e).name ≡ 118 → ⊥
event_name (application prim) h = absurd (omega (arith, h, (prim_named prim).0))
event_name (contextual number octets) h = absurd (omega (arith, h))
event_name (opening number) h = absurd (omega (arith, h))
event_name (closing number) h = absurd (omega (arith, h))

-- events with the same field leave the same groups open
same_after : (s : List ℕ) (e f : Event) (t u : List ℕ) → effect e ≡ effect f → (event_field e).number ≡ (event_field f).number → Opens 32 s (e ∷ []) t → Opens 32 s (f ∷ []) u → t ≡ u
same_after s (application prim) (application other) t u h i o p = sym o ∙ p
same_after s (application prim) (contextual number octets) t u h i o p = sym o ∙ p
same_after s (contextual number octets) (application other) t u h i o p = sym o ∙ p
same_after s (contextual number octets) (contextual m others) t u h i o p = sym o ∙ p
same_after s (opening m) (opening n) t u h i o p = sym o.1 ∙ ap (λ (k : ℕ). k ∷ s) i ∙ p.1
same_after s (closing m) (closing n) t u h i o p =
    let (r, e, f) = o in
    let (q, g, k) = p in
    let same : r ≡ q = cc in
    sym f ∙ same ∙ k
same_after s e f t u h i o p = absurd (omega (arith, h))

event_first : (s : List ℕ) (e : Event) (t : List ℕ) (fs : List Symbol) (evs : List Event) (b : List ℕ) → Opens 32 s (e ∷ []) t → Opens 32 s evs [] → SpellsEvents evs b → event_said e ++ fs ≡ flat_map event_said evs ++ value_end → Rest t fs
event_first s e t fs [] b o p q is =
    let whole : event_said e ++ fs ≡ value_end = is in
    let same : number_of (event_field e).name ≡ 118 = cc in
    absurd (event_name e same)
event_first s e t fs (v ∷ evs) b o p q is =
    let whole : event_said e ++ fs ≡ event_said v ++ (flat_map event_said evs ++ value_end) = is in
    let names : number_of (event_field v).name ≡ number_of (event_field e).name = cc in
    let numbers : (event_field v).number ≡ (event_field e).number = cc in
    let behind : fs ≡ flat_map event_said evs ++ value_end = cc in
    let parts = Opens-split 32 (v ∷ []) evs s [] p in
    let same : parts.0 ≡ t = same_after s v e parts.0 t (sym (effect_told v) ∙ ap effect_of names ∙ effect_told e) numbers parts.1 o in
    record { following = evs; octets = q.back; opened = subst (λ (l : List ℕ). Opens 32 l evs []) same parts.2; spelled = q.second; symbols = behind }

-- after an event, what stops what follows stops the whole
pub rest_after : (s : List ℕ) (e : Event) (t b : List ℕ) (es : List Symbol) (p : ℕ) → AllByRecursion (λ k. k ≤ 254) s → Opens 32 s (e ∷ []) t → SpellsEvent e b → IsStop (Rests t) es p → IsStop (Rests s) (event_said e ++ es) (3 + p)
rest_after s e t b es p h o q stop =
    stop_after (Rests s) (MayCome s) (rest_firsts s h) (Rests t) _ _ _ es p (λ fs r. event_first s e t fs r.following r.octets o r.opened r.spelled r.symbols) (λ fs r. then_rest s e t b fs o q r) stop

-- ---- all of a value

steps_told : (es : List Event) (tag : ℕ) → steps_said (map event_step es ++ next (closing_field name.ValueEnd tag 0) ∷ []) ≡ flat_map event_said es ++ value_end
steps_told [] tag = refl
steps_told (e ∷ es) tag = ap (λ (l : List Symbol). event_said e ++ l) (steps_told es tag)

pub open_told : (tag : ℕ) (v : Elements) → steps_said (open_steps tag v) ≡ field_then 117 0 (Some []) (flat_map event_said (events v) ++ value_end)
open_told tag v = ap (λ (l : List Symbol). field_then 117 0 (Some []) l) (steps_told (events v) tag)

pub value_rest : (tag : ℕ) (v : Elements) (b : List ℕ) → SpellsOpen 32 tag v b → Rest [] (flat_map event_said (events v) ++ value_end)
value_rest tag v b h = record {
  following = events v;
  octets = h.enclosed.second.front;
  opened = events-opens 32 v [] (omega (arith, h.nested));
  spelled = events_spelled v h.enclosed.second.front h.enclosed.second.first;
  symbols = refl;
}

pub rest_value : (tag : ℕ) (es : List Symbol) → tag ≤ 254 → Rest [] es → (v : Elements) × (b : List ℕ) × SpellsOpen 32 tag v b × (es ≡ flat_map event_said (events v) ++ value_end)
rest_value tag es le r =
    let v = value_of_events r.following in
    let (same, deep) = events-value_of_events 32 r.following r.opened in
    let first = opening_inhabited tag (le-leb tag 254 le) in
    let last = closing_inhabited tag (le-leb tag 254 le) in
    let all = value_spelled v r.octets (subst (λ (l : List Event). SpellsEvents l r.octets) (sym same) r.spelled) in (
      v,
      first.octets ++ (r.octets ++ last.octets),
      record {
        enclosed = record {
          front = first.octets;
          back = r.octets ++ last.octets;
          first = first.spelled;
          second = record { front = r.octets; back = last.octets; first = all; second = last.spelled; octets = refl };
          octets = refl;
        };
        nested = deep;
      },
      r.symbols ∙ ap (λ (l : List Event). flat_map event_said l ++ value_end) (sym same),
    )

-- where these groups are open, no group may begin or end with the field, and the value does not end with it
abbrev pub IsOther : List ℕ → Option ℕ → Type 0
IsOther s lead = (lead ≡ Some 118 → s ≡ [] → ⊥) × (lead ≡ Some 121 → 32 ≤ length s) × (lead ≡ Some 122 → s ≡ [])
