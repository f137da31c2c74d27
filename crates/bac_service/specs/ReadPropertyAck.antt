-- ReadProperty-ACK, the answer to ReadProperty (clause 21): the reference to a property of an object, [3] the value.
use Rattle.std.specs.Prelude.{ℕ, List, refl}
use Rattle.bac_tag.specs.Spelling.{Joins, Joined}
use Rattle.bac_data.specs.Spells.{SpellsOpen}
use Rattle.bac_productions.specs.Productions.{IsRecordOf}
use Rattle.bac_productions.specs.Contents.{of_number}
use Rattle.bac_service.specs.declared.service.read_property_ack.ReadPropertyAck.{ReadPropertyAck}
use Rattle.bac_service.specs.ObjectProperty.{SpellsObjectProperty, ObjectPropertyParts}

-- The lists that spell an answer to ReadProperty: a reference to a property of an object, and the open value. The
-- first argument is how many groups may nest in an open value.
abbrev pub SpellsReadPropertyAck : ℕ → ReadPropertyAck → List ℕ → Type 0
SpellsReadPropertyAck groups ack = Joins (SpellsObjectProperty (ack.object, (ack.property, ack.index))) (SpellsOpen groups 3 ack.value)

-- An answer to ReadProperty is its fields, and is spelled as they are.
unfoldable pub read_property_ack_parts : (groups : ℕ) → IsRecordOf (Joined ObjectPropertyParts (SpellsOpen groups 3)) (SpellsReadPropertyAck groups)
read_property_ack_parts groups = record {
  fields = λ a. ((a.object, (of_number a.property, a.index)), a.value);
  of_fields = λ p. record { object = p.0.0; property = p.0.1.0.0; index = p.0.1.1; value = p.1 };
  same = λ a. refl;
  split = λ a b s. s;
  joined = λ p b s. s;
}
