-- Whether two frames that a program holds are the same.
use Rattle.std.specs.Prelude.{Bool, false, ◌&&◌, nat_eq}
use Rattle.std.specs.Bool.{beq}
use Rattle.std.specs.Option.{option_eq}
use Rattle.std.specs.Cmp.Lexicographic.{pointwise}
use Rattle.bac_apdu.specs.Same.{same_apdu}
use Rattle.bac_npdu_parts.specs.declared.destination.Dest.{Dest}
use Rattle.bac_npdu_parts.specs.declared.message.NetMessage.{NetMessage}
use Rattle.bac_npdu_parts.specs.declared.frame.Body.{Body}
use Rattle.bac_npdu_parts.specs.declared.frame.Body.TheVariants as held
use Rattle.bac_npdu_parts.specs.declared.frame.Frame.{Frame}
use Rattle.bac_npdu_parts.specs.contracts.message.NetMessagePartialEq.TheImpl as of_message
use Rattle.bac_npdu_parts.specs.Addresses.{SourceValue}

-- Whether two destinations have the same network, hop count and address.
abbrev pub same_destination : Dest → Dest → Bool
same_destination a b = nat_eq a.network b.network && (nat_eq a.hops b.hops && pointwise nat_eq a.address b.address)

-- Whether two sources have the same network and address.
abbrev pub same_source : SourceValue → SourceValue → Bool
same_source a b = nat_eq a.network b.network && pointwise nat_eq a.address b.address

-- What bac_npdu_parts::NetMessage::eq returns of two network messages.
abbrev pub same_message : NetMessage → NetMessage → Bool
same_message = of_message.eq-value.it

-- Whether two bodies are the same APDU or the same network message. bac_npdu_parts::Body::eq returns this.
abbrev pub same_body : Body → Body → Bool
same_body (held.Apdu a) (held.Apdu b) = same_apdu a b
same_body (held.Net a) (held.Net b) = same_message a b
same_body _ _ = false

-- Whether two frames are the same before their bodies.
abbrev pub same_front : Frame → Frame → Bool
same_front a b = beq a.reply b.reply && (nat_eq a.priority b.priority && (option_eq same_destination a.dest b.dest && option_eq same_source a.source b.source))

-- Whether two frames are the same in each part. bac_npdu_parts::Frame::eq returns this. Of the frames that a program can
-- hold, two are the same in each part exactly where their values are the same.
abbrev pub same_frame : Frame → Frame → Bool
same_frame a b = same_front a b && same_body a.body b.body
