-- Values are spelled, each has a least spelling, and nothing else is spelled.
use Rattle.std.specs.Prelude.{◌≢◌, ℕ, ◌≤◌, List, [], ◌∷◌, ◌++◌, length, refl}
use Rattle.std.proofs.Common.{sym, subst, inl, inr, arith}
use Rattle.bac_tag.specs.Octets.{NoGreater}
use Rattle.bac_tag.specs.Laws.Octets.{NoGreater-append}
use Rattle.bac_tag.specs.declared.heads.TagHead.TheVariants.{App, AppBool, Ctx, Open, Close}
use Rattle.bac_tag.specs.Spelling.{IsLeast, Joins}
use Rattle.bac_tag.proofs.WritingLemmas.{some_least}
use Rattle.bac_value.specs.declared.prim.PrimitiveValue.{PrimitiveValue}
use Rattle.bac_value.specs.declared.prim.PrimitiveValue.TheVariants.{Null, Boolean, Unsigned, Signed, RealBits, DoubleBits, Octets, Text, Bits, Enumerated, Date, Time, ObjectId}
use Rattle.bac_value.specs.PrimContents.{application_number, IsPrim, prim_written}
use Rattle.bac_value.specs.Laws.Prim.{prim_limit, prim_only_values, prim_written_contents}
use Rattle.bac_data.specs.OpenValue.{Element, primitive, context, group, Elements, none, more, IsElement, AreElements, IsOpenValue}
use Rattle.bac_data.specs.Spells.{SpellsPrimitive, Spells, SpellsAll, SpellsOpen}
use Rattle.bac_data.specs.Events.{Event, application, contextual, opening, closing, SpellsEvent, SpellsEvents}
use Rattle.bac_data.proofs.EventLemmas.{whole, whole_spelled}
use Rattle.bac_data.proofs.EventLeastLemmas.{least_contents, least_boolean_of, least_context}
use Rattle.bac_data.proofs.LeastLemmas.{least_open, least_none}

-- ---- what is spelled has a least spelling

pub least_joined : {P Q : List ℕ → Type 0} {a b : List ℕ} → IsLeast P a → IsLeast Q b → IsLeast (Joins P Q) (a ++ b)
least_joined {P} {Q} {a} {b} L M = record {
  member = record { front = a; back = b; first = L.member; second = M.member; octets = refl };
  least = λ c j. subst (NoGreater (a ++ b)) (sym j.octets) (NoGreater-append a j.front b j.back (L.least j.front j.first) (M.least j.back j.second));
}

pub least_event : (e : Event) (b : List ℕ) → SpellsEvent e b → (w : List ℕ) × IsLeast (SpellsEvent e) w
least_event (application prim) b (inl p) =
    let l = some_least (AppBool p.value.0) tt tt in
    (l.0, subst (λ (k : PrimitiveValue). IsLeast (SpellsPrimitive k) l.0) (sym p.is) (least_boolean_of p.value l.0 l.1))
least_event (application prim) b (inr p) =
    let written = prim_written_contents prim (prim_only_values prim p.contents p.spelled) in
    let l = some_least (App (application_number prim) (length (prim_written prim))) p.headed.valid (omega (arith, prim_limit prim (prim_written prim) written)) in
    (l.0 ++ prim_written prim, least_contents prim (prim_written prim) l.0 p.headed.valid.1 written refl l.1)
least_event (contextual number octets) b p =
    let l = some_least (Ctx number (length octets)) p.headed.valid (omega (arith, p.within.1)) in
    (l.0 ++ octets, least_context number octets l.0 p.within l.1)
least_event (opening number) b p = some_least (Open number) p.valid tt
least_event (closing number) b p = some_least (Close number) p.valid tt

pub least_events : (es : List Event) (b : List ℕ) → SpellsEvents es b → (w : List ℕ) × IsLeast (SpellsEvents es) w
least_events [] b p = ([], least_none [] refl)
least_events (e ∷ es) b p =
    let first = least_event e p.front p.first in
    let rest = least_events es p.back p.second in
    (first.0 ++ rest.0, least_joined first.1 rest.1)

pub least_open_value : (limit n : ℕ) (v : Elements) (b : List ℕ) → SpellsOpen limit n v b → (w : List ℕ) × IsLeast (SpellsOpen limit n v) w
least_open_value limit n v b p =
    let l = least_events (whole n v) b (whole_spelled limit n v b p) in
    (l.0, least_open limit n v l.0 p.nested l.1)

-- ---- each value is spelled

contents_spelled : (prim : PrimitiveValue) → application_number prim ≤ 12 → application_number prim ≢ 1 → IsPrim prim → (b : List ℕ) × SpellsPrimitive prim b
contents_spelled prim small other h =
    let written = prim_written_contents prim h in
    let l = some_least (App (application_number prim) (length (prim_written prim))) (small, other) (omega (arith, prim_limit prim (prim_written prim) written)) in
    (l.0 ++ prim_written prim, inr (record { head = l.0; contents = prim_written prim; headed = l.1.member; spelled = written; octets = refl }))

primitive_spelled : (prim : PrimitiveValue) → IsPrim prim → (b : List ℕ) × SpellsPrimitive prim b
primitive_spelled (Null value) h = contents_spelled (Null value) (omega arith) (λ e. omega arith) h
primitive_spelled (Boolean value) h = let l = some_least (AppBool value.0) tt tt in (l.0, inl (record { value = value; is = refl; headed = l.1.member }))
primitive_spelled (Unsigned value) h = contents_spelled (Unsigned value) (omega arith) (λ e. omega arith) h
primitive_spelled (Signed value) h = contents_spelled (Signed value) (omega arith) (λ e. omega arith) h
primitive_spelled (RealBits value) h = contents_spelled (RealBits value) (omega arith) (λ e. omega arith) h
primitive_spelled (DoubleBits value) h = contents_spelled (DoubleBits value) (omega arith) (λ e. omega arith) h
primitive_spelled (Octets value) h = contents_spelled (Octets value) (omega arith) (λ e. omega arith) h
primitive_spelled (Text value) h = contents_spelled (Text value) (omega arith) (λ e. omega arith) h
primitive_spelled (Bits value) h = contents_spelled (Bits value) (omega arith) (λ e. omega arith) h
primitive_spelled (Enumerated value) h = contents_spelled (Enumerated value) (omega arith) (λ e. omega arith) h
primitive_spelled (Date value) h = contents_spelled (Date value) (omega arith) (λ e. omega arith) h
primitive_spelled (Time value) h = contents_spelled (Time value) (omega arith) (λ e. omega arith) h
primitive_spelled (ObjectId value) h = contents_spelled (ObjectId value) (omega arith) (λ e. omega arith) h

mutual
  element_spelled : (e : Element) → IsElement e → (b : List ℕ) × Spells e b
  element_spelled (primitive prim) h = primitive_spelled prim h
  element_spelled (context number octets) h =
      let l = some_least (Ctx number (length octets)) h.0 (omega (arith, h.1.1)) in
      (l.0 ++ octets, record { head = l.0; headed = l.1.member; within = h.1; joined = refl })
  element_spelled (group number inner) h =
      let first = some_least (Open number) h.0 tt in
      let inside = elements_spelled inner h.1 in
      let last = some_least (Close number) h.0 tt in (
        first.0 ++ (inside.0 ++ last.0),
        record {
          front = first.0;
          back = inside.0 ++ last.0;
          first = first.1.member;
          second = record { front = inside.0; back = last.0; first = inside.1; second = last.1.member; octets = refl };
          octets = refl;
        },
      )

  elements_spelled : (v : Elements) → AreElements v → (b : List ℕ) × SpellsAll v b
  elements_spelled none h = ([], refl)
  elements_spelled (more e rest) h =
      let first = element_spelled e h.0 in
      let others = elements_spelled rest h.1 in
      (first.0 ++ others.0, record { front = first.0; back = others.0; first = first.1; second = others.1; octets = refl })

pub open_value_spelled : (limit n : ℕ) (v : Elements) → n ≤ 254 → IsOpenValue limit v → (b : List ℕ) × IsLeast (SpellsOpen limit n v) b
open_value_spelled limit n v small h =
    let s = element_spelled (group n v) (small, h.0) in
    least_open_value limit n v s.0 (record { enclosed = s.1; nested = h.1 })

-- ---- nothing else is spelled

primitive_value : (prim : PrimitiveValue) (b : List ℕ) → SpellsPrimitive prim b → IsPrim prim
primitive_value prim b (inl p) = subst IsPrim (sym p.is) tt
primitive_value prim b (inr p) = prim_only_values prim p.contents p.spelled

mutual
  element_value : (e : Element) (b : List ℕ) → Spells e b → IsElement e
  element_value (primitive prim) b p = primitive_value prim b p
  element_value (context number octets) b p = (p.headed.valid, p.within)
  element_value (group number inner) b p = (p.first.valid, elements_value inner p.second.front p.second.first)

  pub elements_value : (v : Elements) (b : List ℕ) → SpellsAll v b → AreElements v
  elements_value none b p = tt
  elements_value (more e rest) b p = (element_value e p.front p.first, elements_value rest p.back p.second)

pub open_value_only : (limit n : ℕ) (v : Elements) (b : List ℕ) → SpellsOpen limit n v b → (n ≤ 254) × IsOpenValue limit v
open_value_only limit n v b p =
    let g = element_value (group n v) b p.enclosed in
    (g.0, (g.1, p.nested))
