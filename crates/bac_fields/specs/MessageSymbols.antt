-- The symbols of network messages, and what the type of a message says of it (clause 6.4).
use Rattle.std.specs.Prelude.{◌≡◌, ℕ, ◌<◌, nat_le, Bool, false, cond, nat_eq, Option, None, Some, List, [], ◌∷◌, ◌++◌}
use Rattle.bac_npdu_parts.specs.declared.messages.port.Port.{Port}
use Rattle.bac_npdu_parts.specs.Messages.{MessageValue, who_is_router, i_am_router, i_could_be_router, reject_message, router_busy, router_available, init_table, init_table_ack, establish, disconnect, what_is_network_number, network_number_is, opaque}
use Rattle.bac_npdu_parts.specs.MessageTypes.{is_typed}
use Rattle.bac_field_parts.specs.declared.field.Field.{Field}
use Rattle.bac_fields.specs.MessageFields.{message_steps}
use Rattle.bac_field_parts.specs.Symbols.{Symbol, finished, steps_said}

-- The symbols of a message, to the end of the fields.
abbrev pub message_said : MessageValue → List Symbol
message_said message = steps_said (message_steps message) ++ finished ∷ []

-- What follows the type of a message. A message whose type has no layout has a vendor, or it is plain.
pub data Layout : Type 0 where
  who_is i_am could_be reject busy available table table_ack establishing disconnecting number_wanted number_told plain vendored : Layout

-- What a message of a layout says. The last line is that of each other layout: two numbers.
abbrev pub SaidIn : Layout → Type 0
SaidIn who_is = Option ℕ
SaidIn i_am = List ℕ
SaidIn busy = List ℕ
SaidIn available = List ℕ
SaidIn table = List Port
SaidIn table_ack = Option (List Port)
SaidIn disconnecting = ℕ
SaidIn number_wanted = Unit {0}
SaidIn plain = ℕ × List ℕ
SaidIn vendored = ℕ × (ℕ × List ℕ)
SaidIn _ = ℕ × ℕ

-- The message of a layout that says this.
abbrev pub message_in : (layout : Layout) → SaidIn layout → MessageValue
message_in who_is network = who_is_router network
message_in i_am networks = i_am_router networks
message_in could_be said = i_could_be_router said.0 said.1
message_in reject said = reject_message said.0 said.1
message_in busy networks = router_busy networks
message_in available networks = router_available networks
message_in table ports = init_table ports
message_in table_ack ports = init_table_ack ports
message_in establishing said = establish said.0 said.1
message_in disconnecting network = disconnect network
message_in number_wanted said = what_is_network_number
message_in number_told said = network_number_is said.0 said.1
message_in plain said = opaque (record { kind = said.0; vendor = None; octets = said.1 })
message_in vendored said = opaque (record { kind = said.0; vendor = Some said.1.0; octets = said.1.1 })

-- The symbols of the message of a layout that says this.
abbrev pub layout_said : (layout : Layout) → SaidIn layout → List Symbol
layout_said layout said = message_said (message_in layout said)

-- The layout of a type that has one.
abbrev pub typed_layout : ℕ → Layout
typed_layout kind =
    cond (nat_eq kind 0) who_is (cond (nat_eq kind 1) i_am (cond (nat_eq kind 2) could_be (cond (nat_eq kind 3) reject (cond (nat_eq kind 4) busy (cond (nat_eq kind 5) available
    (cond (nat_eq kind 6) table (cond (nat_eq kind 7) table_ack (cond (nat_eq kind 8) establishing (cond (nat_eq kind 9) disconnecting (cond (nat_eq kind 18) number_wanted number_told))))))))))

-- The layout of a type: its own if it has one, else vendored from 128 on, and else plain.
abbrev pub layout_told : ℕ → Layout
layout_told kind = cond (is_typed kind) (typed_layout kind) (cond (nat_le 128 kind) vendored plain)

-- The type of the message that fields say, or None if they do not begin with one.
abbrev pub type_in : List Field → Option ℕ
type_in [] = None
type_in (field ∷ fields) = cond (nat_eq field.name 40) (Some field.number) None

-- The list is one octet, a type that has no layout, with a vendor or without.
pub record IsOpaqueType (has_vendor : Bool) (kind : ℕ) (b : List ℕ) : Type 0 where
  pub octet : b ≡ kind ∷ []
  pub fits : kind < 256
  pub untyped : is_typed kind ≡ false
  pub vendor : nat_le 128 kind ≡ has_vendor
