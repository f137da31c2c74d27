-- The fields of the events of a walk.
use Rattle.std.specs.Prelude.{Option, None, Some}
use Rattle.std.proofs.Common.{◌≡◌, ◌++◌, map, List, [], ◌∷◌, refl, sym, ap, ◌∙◌, append_assoc}
use Rattle.std.proofs.lemmas.List.{append-nil, map-append}
use Rattle.bac_data.specs.Events.{Event}
use Rattle.bac_field_parts.specs.declared.cursor.Cursor.{Cursor}
use Rattle.bac_field_parts.specs.declared.field.Field.{Field}
use Rattle.bac_field_parts.specs.Fields.{next, Writes}
use Rattle.bac_field_parts.specs.OpenValueFields.{event_field, event_step}
use Rattle.bac_field_parts.proofs.FieldLemmas.{writes_then, writes_none, writes_same}

-- nothing is written of no steps
pub writes_nothing : (room : List Field) (cursor : Cursor) → Writes [] room cursor room (Some cursor)
writes_nothing room cursor = record { pen = refl; fits = tt }

-- one event more
pub writes_event : {old between new : List Field} {cursor then last : Cursor} (done left rest all : List Event) (event : Event) → done ++ left ≡ all → left ≡ event ∷ rest
    → Writes (map event_step done) old cursor between (Some then) → Writes (next (event_field event) ∷ []) between then new (Some last)
    → (x : List Event) × (x ++ rest ≡ all) × Writes (map event_step x) old cursor new (Some last)
writes_event done left rest all event is first before now = (
  done ++ event ∷ [],
  append_assoc done (event ∷ []) rest ∙ ap (λ (l : List Event). done ++ l) (sym first) ∙ is,
  writes_same (sym (map-append event_step done (event ∷ []))) (writes_then before now),
)

-- an event that has no room
pub writes_no_event : {old between new : List Field} {cursor then : Cursor} {end : Option Cursor} (done left rest all : List Event) (event : Event) → done ++ left ≡ all → left ≡ event ∷ rest → end ≡ None
    → Writes (map event_step done) old cursor between (Some then) → Writes (next (event_field event) ∷ []) between then new None → Writes (map event_step all) old cursor new end
writes_no_event {new = new} done left rest all event is first none before now =
    writes_same (sym (map-append event_step done (event ∷ rest)) ∙ ap (map event_step) (ap (λ (l : List Event). done ++ l) (sym first) ∙ is))
    (writes_then before (writes_none (map event_step rest) new none now))

-- no event is left
pub writes_events : {old new : List Field} {cursor last : Cursor} (done left all : List Event) → done ++ left ≡ all → left ≡ [] → Writes (map event_step done) old cursor new (Some last) → Writes (map event_step all) old cursor new (Some last)
writes_events done left all is none before = writes_same (ap (map event_step) (sym (append-nil done) ∙ ap (λ (l : List Event). done ++ l) (sym none) ∙ is)) before
