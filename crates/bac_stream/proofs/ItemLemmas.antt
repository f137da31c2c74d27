-- What a record gives.
use Rattle.std.proofs.Common.{◌≡◌, ℕ, List, [], ◌∷◌, ◌++◌, Option, sym, subst}
use Rattle.std.specs.Prelude.{Ok, Err}
use Rattle.bac_tag.specs.declared.refusals.Why.{Why}
use Rattle.bac_tag.specs.Spelling.{HasMark}
use Rattle.bac_npdu_parts.specs.Frames.{FrameValue, SpellsFrame}
use Rattle.bac_stream.specs.Intakes.{IsItem, IsItemOf, IsItemPushed, Item}
use Rattle.bac_stream.specs.Judging.{Accepts, Refuses}
use Rattle.bac_stream.specs.declared.modes.Mode.{Mode}
use Rattle.bac_stream.proofs.JudgingLemmas.{accepts_by, marked_none, marked_refused}

module _ (frames : (f g : FrameValue) (b : List ℕ) → SpellsFrame f b → SpellsFrame g b → f ≡ g) (mode : Mode) (octets : List ℕ) (frame : FrameValue) (mark : Option ℕ) (s : SpellsFrame frame octets) (m : HasMark (SpellsFrame frame) octets mark) where
  item_of_frame : (item : Item) → IsItemOf mode frame mark item → IsItem mode octets item
  item_of_frame (Ok kept) i = subst (λ (f : FrameValue). Accepts mode f octets) (sym i.0) (accepts_by mode frame octets mark s m i.1)
  item_of_frame (Err refusal) i = (
    marked_none frames mode frame octets mark refusal.place i.0 i.1 s m,
    subst (λ (w : Why). Refuses mode octets (record { place = refusal.place; why = w })) (sym i.2) (marked_refused mode frame octets mark refusal.place i.0 i.1 s m),
  )

  -- the item that was pushed is one of the record
  pub item_pushed : (old new : List Item) (done : Unit {0}) → IsItemPushed {E = Unit} mode frame mark old new (Ok done) → (item : Item) × IsItem mode octets item × (new ≡ old ++ item ∷ [])
  item_pushed old new done p = (p.0, item_of_frame p.0 p.1, p.2)
