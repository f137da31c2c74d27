-- A tag that no field says, and the part after it.
use Rattle.std.specs.Prelude.{◌≡◌, ℕ, ◌+◌, List, ◌++◌, Bool, ◌&&◌, IsTrue, Option, refl}
use Rattle.std.proofs.Common.{subst, arith}
use Rattle.std.proofs.lemmas.Bool.{and_parts}
use Rattle.bac_tag.specs.Spelling.{Joined, AppendsLeast}
use Rattle.bac_tag.specs.declared.heads.TagHead.{TagHead}
use Rattle.bac_tag.specs.declared.heads.TagHead.TheVariants.{Open, Close}
use Rattle.bac_productions.specs.Laws.Tag.{opening_inhabited, closing_inhabited}
use Rattle.bac_productions.specs.Productions.{Head, IsInhabited}
use Rattle.bac_field_parts.specs.Symbols.{Symbol, Language, Lawful, IsStop, Made, nothing_said, is_edge}
use Rattle.bac_field_parts.specs.Laws.Languages.{lawful_alike, stop_alike}
use Rattle.bac_field_parts.specs.Laws.Parts.{pair_said}
use Rattle.bac_field_parts.specs.Laws.Making.{made_pair}

edge_inhabited : (t : TagHead) → IsTrue (is_edge t) → IsInhabited (Head t)
edge_inhabited (Open n) h = opening_inhabited n h
edge_inhabited (Close n) h = closing_inhabited n h
edge_inhabited _ h = absurd (cc)

module _ (t : TagHead) {V : Type 0} (f : V → List Symbol) (S : V → List ℕ → Type 0) where
  to : IsTrue (is_edge t) → (es : List Symbol) → Language f S tt es → Language (pair_said nothing_said f (Head t) S) (Joined (Head t) S) tt es
  to h es l =
      let i = edge_inhabited t h in
      ((tt, l.0), record { octets = i.octets ++ l.1.octets; spelled = record { front = i.octets; back = l.1.octets; first = i.spelled; second = l.1.spelled; octets = refl }; is_said = l.1.is_said })

  from : (es : List Symbol) → Language (pair_said nothing_said f (Head t) S) (Joined (Head t) S) tt es → Language f S tt es
  from es l = (l.0.1, record { octets = l.1.spelled.back; spelled = l.1.spelled.second; is_said = l.1.is_said })

  pub after_stopped : IsTrue (is_edge t) → (es : List Symbol) (p : ℕ) → IsStop (Language f S) es p → IsStop (Language (pair_said nothing_said f (Head t) S) (Joined (Head t) S)) es p
  after_stopped h es p stop = stop_alike (Language f S) (Language (pair_said nothing_said f (Head t) S) (Joined (Head t) S)) (to h) from es p stop

  pub after_sound : (sound : Bool) (leads : List (Option ℕ)) → (IsTrue sound → Lawful (Language f S) leads) → IsTrue (is_edge t && sound) → Lawful (Language (pair_said nothing_said f (Head t) S) (Joined (Head t) S)) leads
  after_sound sound leads laws h =
      let parts = and_parts (is_edge t) sound h in
      lawful_alike (Language f S) (Language (pair_said nothing_said f (Head t) S) (Joined (Head t) S)) (to parts.0) from leads (laws parts.1)

  pub after_made : (es : List Symbol) (n : ℕ) (old mid new : List ℕ) → AppendsLeast (Head t tt) old mid → Made f S es n mid new → Made (pair_said nothing_said f (Head t) S) (Joined (Head t) S) es n old new
  after_made es n old mid new a m =
      let nothing : 0 + n ≡ n = omega arith in
      subst (λ (k : ℕ). Made (pair_said nothing_said f (Head t) S) (Joined (Head t) S) es k old new) nothing (made_pair nothing_said f (Head t) S es 0 n old mid new (record { value = tt; within = omega arith; is_said = refl; appended = a }) m)
