-- The control octet (clause 6.2.2).
use Rattle.std.specs.Prelude.{◌≡◌, ℕ, ◌+◌, ◌*◌, ◌%◌, ◌<◌, Bool, Some}
use Rattle.bac_tag.specs.HeadOctets.{bit_of, HasBit}

-- What the control octet says: whether a network message, a destination and a source are there, whether a reply is
-- expected, and the priority.
pub record ControlValue : Type 0 where
  pub message : Bool
  pub destination : Bool
  pub source : Bool
  pub reply : Bool
  pub priority : ℕ

-- The octet says this value: bits 7, 5, 3 and 2 are its flags, and bits 1 and 0 its priority. Bits 6 and 4 are free.
pub record IsControl (c : ControlValue) (o : ℕ) : Type 0 where
  pub small : o < 256
  pub message : HasBit 7 (Some c.message) o
  pub destination : HasBit 5 (Some c.destination) o
  pub source : HasBit 3 (Some c.source) o
  pub reply : HasBit 2 (Some c.reply) o
  pub priority : o % 4 ≡ c.priority

-- The control octet with these flags and this priority, and with bits 6 and 4 zero.
abbrev pub least_control : Bool → Bool → Bool → Bool → ℕ → ℕ
least_control message destination source reply priority = 128 * bit_of message + 32 * bit_of destination + 8 * bit_of source + 4 * bit_of reply + priority

-- The control octet that says this value, with bits 6 and 4 zero.
abbrev pub least_of : ControlValue → ℕ
least_of c = least_control c.message c.destination c.source c.reply c.priority
