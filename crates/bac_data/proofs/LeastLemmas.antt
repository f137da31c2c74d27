-- What is least, of parts that are least.
use Rattle.std.proofs.Common.{◌≡◌, ℕ, ◌≤◌, List, [], ◌∷◌, ◌++◌, refl, sym, subst}
use Rattle.bac_tag.specs.Octets.{NoGreater}
use Rattle.bac_tag.specs.Laws.Octets.{NoGreater-append, NoGreater-same}
use Rattle.bac_tag.specs.declared.heads.TagHead.TheVariants.{Open, Close}
use Rattle.bac_tag.specs.Spelling.{IsLeast}
use Rattle.bac_tag.specs.Heads.{Heads}
use Rattle.bac_data.specs.OpenValue.{Elements, depth}
use Rattle.bac_data.specs.Spells.{SpellsOpen}
use Rattle.bac_data.specs.Events.{Event, opening, closing, events, SpellsEvent, SpellsEvents}
use Rattle.bac_data.proofs.EventLemmas.{SpellsEvents-append, SpellsEvents-split, one_event, event_alone, whole, whole_spelled, spells_whole}

-- one event alone
pub least_one : (e : Event) (b : List ℕ) → IsLeast (SpellsEvent e) b → IsLeast (SpellsEvents (e ∷ [])) b
least_one e b p = record { member = one_event e b p.member; least = λ d s. p.least d (event_alone e d s) }

-- one event more
pub least_more : (es : List Event) (e : Event) (b c : List ℕ) → IsLeast (SpellsEvents es) b → IsLeast (SpellsEvent e) c → IsLeast (SpellsEvents (es ++ e ∷ [])) (b ++ c)
least_more es e b c p q = record {
  member = SpellsEvents-append es (e ∷ []) b c p.member (one_event e c q.member);
  least = λ d r.
      let parts = SpellsEvents-split es (e ∷ []) d r in
      subst (NoGreater (b ++ c)) (sym parts.octets) (NoGreater-append b parts.front c parts.back (p.least parts.front parts.first) (q.least parts.back (event_alone e parts.back parts.second)));
}

-- one list of events behind another
pub least_both : (es fs : List Event) (b c : List ℕ) → IsLeast (SpellsEvents es) b → IsLeast (SpellsEvents fs) c → IsLeast (SpellsEvents (es ++ fs)) (b ++ c)
least_both es fs b c p q = record {
  member = SpellsEvents-append es fs b c p.member q.member;
  least = λ d r.
      let parts = SpellsEvents-split es fs d r in
      subst (NoGreater (b ++ c)) (sym parts.octets) (NoGreater-append b parts.front c parts.back (p.least parts.front parts.first) (q.least parts.back parts.second));
}

pub least_open : (limit n : ℕ) (v : Elements) (b : List ℕ) → depth v ≤ limit → IsLeast (SpellsEvents (whole n v)) b → IsLeast (SpellsOpen limit n v) b
least_open limit n v b h p = record { member = spells_whole limit n v b h p.member; least = λ c q. p.least c (whole_spelled limit n v c q) }

-- nothing
pub least_none : (es : List Event) → es ≡ [] → IsLeast (SpellsEvents es) []
least_none es e = rw e (record { member = refl; least = λ c p. NoGreater-same [] c (sym p) })

-- the whole of an open value: its tags and the events between them
pub least_whole : (number : ℕ) (v : Elements) (es : List Event) (a b c : List ℕ) → events v ≡ es → IsLeast (Heads (Open number)) a → IsLeast (SpellsEvents es) b → IsLeast (Heads (Close number)) c
    → IsLeast (SpellsEvents (whole number v)) (a ++ (b ++ c))
least_whole number v es a b c e p q r =
    let inner = least_more es (closing number) b c q r in
    rw e (least_both (opening number ∷ []) (es ++ closing number ∷ []) a (b ++ c) (least_one (opening number) a p) inner)
