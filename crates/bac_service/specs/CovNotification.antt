-- Notifications of changed values (clause 21): [0] the process, [1] the device, [2] the object, [3] the time
-- remaining, [4] a group with the values.
use Rattle.std.specs.Prelude.{ℕ, List, refl}
use Rattle.bac_tag.specs.Spelling.{Joins, Joined}
use Rattle.bac_value.specs.Identifier.{Identifier}
use Rattle.bac_productions.specs.Contents.{ObjectField, UnsignedField}
use Rattle.bac_productions.specs.Productions.{Items, Grouped, IsRecordOf}
use Rattle.bac_service.specs.declared.service.property_value.PropertyValue.{PropertyValue}
use Rattle.bac_service.specs.declared.service.cov_notification.CovNotification.{CovNotification}
use Rattle.bac_service.specs.PropertyValue.{SpellsPropertyValue}

-- A notification as a value: the process, the device, the object, the time remaining and a list of values of
-- properties. Whether it is confirmed is no part of it.
pub record Notification : Type 0 where
  pub process : ℕ
  pub device : Identifier
  pub object : Identifier
  pub remaining : ℕ
  pub values : List PropertyValue

-- The notification that a CovNotification holds.
abbrev pub notification_of : CovNotification → Notification
notification_of n = record { process = n.process; device = n.device; object = n.object; remaining = n.remaining; values = n.values.items }

-- The lists that spell a notification: the process, the device, the object, the time remaining and a group with the
-- values, in this order. The first three, which name the subscription, are joined first. The first argument is how
-- many groups may nest in an open value.
abbrev pub SpellsNotification : ℕ → Notification → List ℕ → Type 0
SpellsNotification groups n =
    Joins (Joins (UnsignedField 0 n.process) (Joins (ObjectField 1 n.device) (ObjectField 2 n.object)))
    (Joins (UnsignedField 3 n.remaining) (Grouped 4 (Items (SpellsPropertyValue groups)) n.values))

-- A notification is its fields, and is spelled as they are.
unfoldable pub notification_parts : (groups : ℕ) → IsRecordOf (Joined (Joined (UnsignedField 0) (Joined (ObjectField 1) (ObjectField 2))) (Joined (UnsignedField 3) (Grouped 4 (Items (SpellsPropertyValue groups))))) (SpellsNotification groups)
notification_parts groups = record {
  fields = λ n. ((n.process, (n.device, n.object)), (n.remaining, n.values));
  of_fields = λ p. record { process = p.0.0; device = p.0.1.0; object = p.0.1.1; remaining = p.1.0; values = p.1.1 };
  same = λ n. refl;
  split = λ n b s. s;
  joined = λ p b s. s;
}
