-- The first of the events that canonical octets hold.
use Rattle.std.proofs.Common.{◌≡◌, ℕ, List, ◌∷◌, ◌++◌}
use Rattle.bac_tag.specs.Spelling.{IsLeast}
use Rattle.bac_tag.specs.Laws.Spelling.{IsLeast-one}
use Rattle.bac_data.specs.Events.{Event, SpellsEvent, SpellsEvents}
use Rattle.bac_data.proofs.ValueLemmas.{least_joined, least_event, least_events}

-- the octets of an event, and behind them those of the others
pub record InTwo (e : Event) (es : List Event) (octets : List ℕ) : Type 0 where
  pub front : List ℕ
  pub back : List ℕ
  pub octets_are : octets ≡ front ++ back
  pub first : IsLeast (SpellsEvent e) front
  pub others : IsLeast (SpellsEvents es) back

pub in_two : (e : Event) (es : List Event) (octets : List ℕ) → IsLeast (SpellsEvents (e ∷ es)) octets → InTwo e es octets
in_two e es octets p =
    let first = least_event e p.member.front p.member.first in
    let others = least_events es p.member.back p.member.second in
    record {
      front = first.0;
      back = others.0;
      octets_are = IsLeast-one (SpellsEvents (e ∷ es)) octets (first.0 ++ others.0) p (least_joined first.1 others.1);
      first = first.1;
      others = others.1;
    }
