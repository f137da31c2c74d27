-- Whether two APDUs that a program holds are the same.
use Rattle.std.specs.Prelude.{Bool, false, ◌&&◌, nat_eq}
use Rattle.std.specs.Bool.{beq}
use Rattle.std.specs.Cmp.Lexicographic.{pointwise}
use Rattle.bac_service.specs.declared.service.Service.{Service}
use Rattle.bac_service.specs.contracts.service.ServicePartialEq.TheImpl as of_service
use Rattle.bac_apdu.specs.declared.confirmed_request.RequestHead.{RequestHead}
use Rattle.bac_apdu.specs.declared.segment.SegHead.{SegHead}
use Rattle.bac_apdu.specs.declared.segment.SegHead.TheVariants.{Request, Ack}
use Rattle.bac_apdu.specs.declared.segment.Segment.{Segment}
use Rattle.bac_apdu.specs.declared.apdu.Apdu.{Apdu}
use Rattle.bac_apdu.specs.declared.apdu.Apdu.TheVariants as held

-- What bac_service::Service::eq returns of two services.
abbrev pub same_service : Service → Service → Bool
same_service = of_service.eq-value.it

-- Whether two heads of requests have the same invoke id, the same bit SA and the same limits.
abbrev pub same_request : RequestHead → RequestHead → Bool
same_request a b = nat_eq a.invoke b.invoke && (beq a.sa b.sa && (nat_eq a.segs b.segs && nat_eq a.resp b.resp))

-- Whether two segments are both of requests with the same head, or both of answers with the same invoke id.
abbrev pub same_head : SegHead → SegHead → Bool
same_head (Request a) (Request b) = same_request a b
same_head (Ack i) (Ack j) = nat_eq i j
same_head _ _ = false

-- Whether two segments have the same piece, and are the same in each part of their heads.
abbrev pub same_segment : Segment → Segment → Bool
same_segment a b =
    pointwise nat_eq a.piece.items b.piece.items && (same_head a.head b.head && (nat_eq a.seq b.seq && (nat_eq a.window b.window && (beq a.more b.more && nat_eq a.choice b.choice))))

-- Whether two APDUs are both SegmentACKs or both Aborts, and the same in each part.
abbrev pub same_ack_or_abort : Apdu → Apdu → Bool
same_ack_or_abort (held.SegmentAck i n s q w) (held.SegmentAck j m t r v) = nat_eq i j && (beq n m && (beq s t && (nat_eq q r && nat_eq w v)))
same_ack_or_abort (held.Abort i s r) (held.Abort j t q) = nat_eq i j && (beq s t && nat_eq r q)
same_ack_or_abort _ _ = false

-- Whether two APDUs are of one type and the same in each part. bac_apdu::Apdu::eq returns this. Of the APDUs that a
-- program can hold, two are the same in each part exactly where their values are the same.
abbrev pub same_apdu : Apdu → Apdu → Bool
same_apdu (held.Confirmed a) (held.Confirmed b) = same_request a.head b.head && same_service a.service b.service
same_apdu (held.Unconfirmed a) (held.Unconfirmed b) = same_service a b
same_apdu (held.SimpleAck i c) (held.SimpleAck j d) = nat_eq i j && nat_eq c d
same_apdu (held.ComplexAck a) (held.ComplexAck b) = nat_eq a.invoke b.invoke && same_service a.service b.service
same_apdu (held.Error a) (held.Error b) = nat_eq a.invoke b.invoke && same_service a.service b.service
same_apdu (held.Reject i r) (held.Reject j s) = nat_eq i j && nat_eq r s
same_apdu (held.Segment a) (held.Segment b) = same_segment a b
same_apdu a b = same_ack_or_abort a b
