-- The names of fields, by their forms and by their words.
use Rattle.std.specs.Prelude.{◌≡◌, ◌⊎◌, ℕ, ◌+◌, ◌<◌, ◌≤◌, length, take, slice_index_or, List, [], ◌∷◌, Bool, true, false, ◌==◌, ◌&&◌, not, IsTrue, Option, Some, None, IfSome, IfNone, refl}
use Rattle.std.proofs.Common.{sym, ◌∙◌, ap, subst, inl, inr, arith, suc, zero}
use Rattle.std.proofs.lemmas.Bool.{and_parts, both_ways, not-true}
use Rattle.std.proofs.lemmas.Bool.Decides.{nat_tests}
use Rattle.bac_field_parts.specs.declared.names.Name.{Name}
use Rattle.bac_field_parts.specs.declared.names.Name.TheVariants as name
use Rattle.bac_field_parts.specs.Names.{word_of}
use Rattle.bac_fields.specs.Line.{Form, as_word, as_number, as_object, as_octets, as_address, as_type, as_network, as_list, as_item, as_value, as_group, as_parenthesis, as_brace, as_truth, as_element, as_signed, as_contents, as_bits, as_identifier, as_text, as_context, form_of}
use Rattle.bac_lines.specs.Scanning.{each, is_letter, IsNamed}
use Rattle.bac_lines.specs.declared.closing.Closing.{Closing}
use Rattle.bac_lines.specs.Found.{Among}

-- ---- the names of a form

abbrev pub numbers : List Name
numbers = name.NetworkPriority ∷ name.ReplyExpected ∷ name.InvokeId ∷ name.Property ∷ name.SegmentedAccepted ∷ name.MaxSegments ∷ name.MaxResponse ∷ name.HopCount ∷ name.Index ∷ name.Priority ∷ name.Process ∷ name.Remaining ∷ name.Low ∷ name.High ∷ name.MaxApdu ∷ name.Segmentation ∷ name.Vendor ∷ name.Confirmed ∷ name.Lifetime ∷ name.ErrorClass ∷ name.ErrorCode ∷ name.Choice ∷ name.Reason ∷ name.Sequence ∷ name.Window ∷ name.More ∷ name.Negative ∷ name.Server ∷ name.Network ∷ name.Performance ∷ name.Time ∷ name.Flag ∷ []

abbrev pub objects : List Name
objects = name.Object ∷ name.Device ∷ []

abbrev pub octets : List Name
octets = name.Octets ∷ name.Data ∷ name.PortInfo ∷ []

abbrev pub addresses : List Name
addresses = name.Destination ∷ name.Source ∷ []

abbrev pub lists : List Name
lists = name.Values ∷ name.Results ∷ name.Properties ∷ name.Specifications ∷ name.PropertyError ∷ name.Networks ∷ name.Ports ∷ []

abbrev pub words : List Name
words = name.ConfirmedRequest ∷ name.UnconfirmedRequest ∷ name.ComplexAck ∷ name.SimpleAck ∷ name.Error ∷ name.ReadProperty ∷ name.ReadPropertyMultiple ∷ name.WriteProperty ∷ name.WritePropertyMultiple ∷ name.WhoIs ∷ name.IAm ∷ name.SubscribeCov ∷ name.ConfirmedCovNotification ∷ name.UnconfirmedCovNotification ∷ name.Opaque ∷ name.Null ∷ name.SegmentAck ∷ name.Reject ∷ name.Abort ∷ name.RequestSegment ∷ name.AckSegment ∷ []

abbrev pub counts : List Name
counts = name.Unsigned ∷ name.Enumerated ∷ []

abbrev pub reals : List Name
reals = name.Real ∷ name.Double ∷ []

abbrev pub strings : List Name
strings = name.OctetString ∷ name.Date ∷ name.TimeOfDay ∷ []

-- A name of a form is this one, or among these. The names with contents after a colon are of two kinds.
abbrev pub Named : Form → Name → Type 0
Named as_word n = Among words n
Named as_number n = (n ≡ name.PortId) ⊎ Among numbers n
Named as_object n = Among objects n
Named as_octets n = Among octets n
Named as_address n = Among addresses n
Named as_type n = n ≡ name.NetworkMessage
Named as_network n = n ≡ name.ListedNetwork
Named as_list n = Among lists n
Named as_item n = n ≡ name.Item
Named as_value n = n ≡ name.Value
Named as_group n = n ≡ name.Group
Named as_parenthesis n = Unit {0}
Named as_brace n = Unit {0}
Named as_truth n = n ≡ name.Boolean
Named as_element n = Among counts n
Named as_signed n = n ≡ name.Signed
Named as_contents n = Among reals n ⊎ Among strings n
Named as_bits n = n ≡ name.BitString
Named as_identifier n = n ≡ name.ObjectIdentifier
Named as_text n = n ≡ name.CharacterString
Named as_context n = n ≡ name.ContextPrimitive

pub named : (n : Name) → Named (form_of n) n
named name.NetworkPriority = inr (inl refl)
named name.ReplyExpected = inr (inr (inl refl))
named name.Destination = inl refl
named name.HopCount = inr (inr (inr (inr (inr (inr (inr (inr (inl refl))))))))
named name.Source = inr (inl refl)
named name.ConfirmedRequest = inl refl
named name.UnconfirmedRequest = inr (inl refl)
named name.SimpleAck = inr (inr (inr (inl refl)))
named name.ComplexAck = inr (inr (inl refl))
named name.SegmentAck = inr (inr (inr (inr (inr (inr (inr (inr (inr (inr (inr (inr (inr (inr (inr (inr (inl refl))))))))))))))))
named name.Error = inr (inr (inr (inr (inl refl))))
named name.Reject = inr (inr (inr (inr (inr (inr (inr (inr (inr (inr (inr (inr (inr (inr (inr (inr (inr (inl refl)))))))))))))))))
named name.Abort = inr (inr (inr (inr (inr (inr (inr (inr (inr (inr (inr (inr (inr (inr (inr (inr (inr (inr (inl refl))))))))))))))))))
named name.RequestSegment = inr (inr (inr (inr (inr (inr (inr (inr (inr (inr (inr (inr (inr (inr (inr (inr (inr (inr (inr (inl refl)))))))))))))))))))
named name.AckSegment = inr (inr (inr (inr (inr (inr (inr (inr (inr (inr (inr (inr (inr (inr (inr (inr (inr (inr (inr (inr (inl refl))))))))))))))))))))
named name.InvokeId = inr (inr (inr (inl refl)))
named name.SegmentedAccepted = inr (inr (inr (inr (inr (inl refl)))))
named name.MaxSegments = inr (inr (inr (inr (inr (inr (inl refl))))))
named name.MaxResponse = inr (inr (inr (inr (inr (inr (inr (inl refl)))))))
named name.Sequence = inr (inr (inr (inr (inr (inr (inr (inr (inr (inr (inr (inr (inr (inr (inr (inr (inr (inr (inr (inr (inr (inr (inr (inr (inl refl))))))))))))))))))))))))
named name.Window = inr (inr (inr (inr (inr (inr (inr (inr (inr (inr (inr (inr (inr (inr (inr (inr (inr (inr (inr (inr (inr (inr (inr (inr (inr (inl refl)))))))))))))))))))))))))
named name.More = inr (inr (inr (inr (inr (inr (inr (inr (inr (inr (inr (inr (inr (inr (inr (inr (inr (inr (inr (inr (inr (inr (inr (inr (inr (inr (inl refl))))))))))))))))))))))))))
named name.Negative = inr (inr (inr (inr (inr (inr (inr (inr (inr (inr (inr (inr (inr (inr (inr (inr (inr (inr (inr (inr (inr (inr (inr (inr (inr (inr (inr (inl refl)))))))))))))))))))))))))))
named name.Server = inr (inr (inr (inr (inr (inr (inr (inr (inr (inr (inr (inr (inr (inr (inr (inr (inr (inr (inr (inr (inr (inr (inr (inr (inr (inr (inr (inr (inl refl))))))))))))))))))))))))))))
named name.Reason = inr (inr (inr (inr (inr (inr (inr (inr (inr (inr (inr (inr (inr (inr (inr (inr (inr (inr (inr (inr (inr (inr (inr (inl refl)))))))))))))))))))))))
named name.Choice = inr (inr (inr (inr (inr (inr (inr (inr (inr (inr (inr (inr (inr (inr (inr (inr (inr (inr (inr (inr (inr (inr (inl refl))))))))))))))))))))))
named name.Octets = inl refl
named name.NetworkMessage = refl
named name.Network = inr (inr (inr (inr (inr (inr (inr (inr (inr (inr (inr (inr (inr (inr (inr (inr (inr (inr (inr (inr (inr (inr (inr (inr (inr (inr (inr (inr (inr (inl refl)))))))))))))))))))))))))))))
named name.Networks = inr (inr (inr (inr (inr (inl refl)))))
named name.ListedNetwork = refl
named name.Performance = inr (inr (inr (inr (inr (inr (inr (inr (inr (inr (inr (inr (inr (inr (inr (inr (inr (inr (inr (inr (inr (inr (inr (inr (inr (inr (inr (inr (inr (inr (inl refl))))))))))))))))))))))))))))))
named name.Ports = inr (inr (inr (inr (inr (inr (inl refl))))))
named name.PortId = inl refl
named name.PortInfo = inr (inr (inl refl))
named name.Time = inr (inr (inr (inr (inr (inr (inr (inr (inr (inr (inr (inr (inr (inr (inr (inr (inr (inr (inr (inr (inr (inr (inr (inr (inr (inr (inr (inr (inr (inr (inr (inl refl)))))))))))))))))))))))))))))))
named name.Flag = inr (inr (inr (inr (inr (inr (inr (inr (inr (inr (inr (inr (inr (inr (inr (inr (inr (inr (inr (inr (inr (inr (inr (inr (inr (inr (inr (inr (inr (inr (inr (inr (inl refl))))))))))))))))))))))))))))))))
named name.Vendor = inr (inr (inr (inr (inr (inr (inr (inr (inr (inr (inr (inr (inr (inr (inr (inr (inr (inl refl)))))))))))))))))
named name.Data = inr (inl refl)
named name.ReadProperty = inr (inr (inr (inr (inr (inl refl)))))
named name.ReadPropertyMultiple = inr (inr (inr (inr (inr (inr (inl refl))))))
named name.WriteProperty = inr (inr (inr (inr (inr (inr (inr (inl refl)))))))
named name.WritePropertyMultiple = inr (inr (inr (inr (inr (inr (inr (inr (inl refl))))))))
named name.WhoIs = inr (inr (inr (inr (inr (inr (inr (inr (inr (inl refl)))))))))
named name.IAm = inr (inr (inr (inr (inr (inr (inr (inr (inr (inr (inl refl))))))))))
named name.SubscribeCov = inr (inr (inr (inr (inr (inr (inr (inr (inr (inr (inr (inl refl)))))))))))
named name.ConfirmedCovNotification = inr (inr (inr (inr (inr (inr (inr (inr (inr (inr (inr (inr (inl refl))))))))))))
named name.UnconfirmedCovNotification = inr (inr (inr (inr (inr (inr (inr (inr (inr (inr (inr (inr (inr (inl refl)))))))))))))
named name.Opaque = inr (inr (inr (inr (inr (inr (inr (inr (inr (inr (inr (inr (inr (inr (inl refl))))))))))))))
named name.Object = inl refl
named name.Property = inr (inr (inr (inr (inl refl))))
named name.Index = inr (inr (inr (inr (inr (inr (inr (inr (inr (inl refl)))))))))
named name.Priority = inr (inr (inr (inr (inr (inr (inr (inr (inr (inr (inl refl))))))))))
named name.Process = inr (inr (inr (inr (inr (inr (inr (inr (inr (inr (inr (inl refl)))))))))))
named name.Device = inr (inl refl)
named name.Confirmed = inr (inr (inr (inr (inr (inr (inr (inr (inr (inr (inr (inr (inr (inr (inr (inr (inr (inr (inl refl))))))))))))))))))
named name.Lifetime = inr (inr (inr (inr (inr (inr (inr (inr (inr (inr (inr (inr (inr (inr (inr (inr (inr (inr (inr (inl refl)))))))))))))))))))
named name.Remaining = inr (inr (inr (inr (inr (inr (inr (inr (inr (inr (inr (inr (inl refl))))))))))))
named name.Low = inr (inr (inr (inr (inr (inr (inr (inr (inr (inr (inr (inr (inr (inl refl)))))))))))))
named name.High = inr (inr (inr (inr (inr (inr (inr (inr (inr (inr (inr (inr (inr (inr (inl refl))))))))))))))
named name.MaxApdu = inr (inr (inr (inr (inr (inr (inr (inr (inr (inr (inr (inr (inr (inr (inr (inl refl)))))))))))))))
named name.Segmentation = inr (inr (inr (inr (inr (inr (inr (inr (inr (inr (inr (inr (inr (inr (inr (inr (inl refl))))))))))))))))
named name.ErrorClass = inr (inr (inr (inr (inr (inr (inr (inr (inr (inr (inr (inr (inr (inr (inr (inr (inr (inr (inr (inr (inl refl))))))))))))))))))))
named name.ErrorCode = inr (inr (inr (inr (inr (inr (inr (inr (inr (inr (inr (inr (inr (inr (inr (inr (inr (inr (inr (inr (inr (inl refl)))))))))))))))))))))
named name.Specifications = inr (inr (inr (inl refl)))
named name.Properties = inr (inr (inl refl))
named name.Results = inr (inl refl)
named name.Values = inl refl
named name.ListEnd = tt
named name.Item = refl
named name.ItemEnd = tt
named name.Value = refl
named name.ValueEnd = tt
named name.PropertyError = inr (inr (inr (inr (inl refl))))
named name.PropertyErrorEnd = tt
named name.Group = refl
named name.GroupEnd = tt
named name.Null = inr (inr (inr (inr (inr (inr (inr (inr (inr (inr (inr (inr (inr (inr (inr (inl refl)))))))))))))))
named name.Boolean = refl
named name.Unsigned = inl refl
named name.Signed = refl
named name.Real = inl (inl refl)
named name.Double = inl (inr (inl refl))
named name.OctetString = inr (inl refl)
named name.CharacterString = refl
named name.BitString = refl
named name.Enumerated = inr (inl refl)
named name.Date = inr (inr (inl refl))
named name.TimeOfDay = inr (inr (inr (inl refl)))
named name.ObjectIdentifier = refl
named name.ContextPrimitive = refl

-- ---- words

-- a letter, and then letters
pub record IsWord (word : List ℕ) : Type 0 where
  pub first : ℕ
  pub others : List ℕ
  pub is : word ≡ first ∷ others
  pub begins : IsTrue (is_letter first)
  pub letters : IsTrue (each is_letter word)

pub word_of_letters : (n : Name) → IsWord (word_of n)
word_of_letters name.NetworkPriority = record { first = 112; others = 114 ∷ 105 ∷ 111 ∷ []; is = refl; begins = refl; letters = refl }
word_of_letters name.ReplyExpected = record { first = 114; others = 101 ∷ 112 ∷ 108 ∷ 121 ∷ []; is = refl; begins = refl; letters = refl }
word_of_letters name.Destination = record { first = 100; others = 101 ∷ 115 ∷ 116 ∷ []; is = refl; begins = refl; letters = refl }
word_of_letters name.HopCount = record { first = 104; others = 111 ∷ 112 ∷ 115 ∷ []; is = refl; begins = refl; letters = refl }
word_of_letters name.Source = record { first = 115; others = 114 ∷ 99 ∷ []; is = refl; begins = refl; letters = refl }
word_of_letters name.ConfirmedRequest = record { first = 99; others = 111 ∷ 110 ∷ 102 ∷ []; is = refl; begins = refl; letters = refl }
word_of_letters name.UnconfirmedRequest = record { first = 117; others = 110 ∷ 99 ∷ 111 ∷ 110 ∷ 102 ∷ []; is = refl; begins = refl; letters = refl }
word_of_letters name.SimpleAck = record { first = 115; others = 105 ∷ 109 ∷ 112 ∷ 108 ∷ 101 ∷ []; is = refl; begins = refl; letters = refl }
word_of_letters name.ComplexAck = record { first = 97; others = 99 ∷ 107 ∷ []; is = refl; begins = refl; letters = refl }
word_of_letters name.SegmentAck = record { first = 115; others = 101 ∷ 103 ∷ 97 ∷ 99 ∷ 107 ∷ []; is = refl; begins = refl; letters = refl }
word_of_letters name.Error = record { first = 101; others = 114 ∷ 114 ∷ 111 ∷ 114 ∷ []; is = refl; begins = refl; letters = refl }
word_of_letters name.Reject = record { first = 114; others = 101 ∷ 106 ∷ 101 ∷ 99 ∷ 116 ∷ []; is = refl; begins = refl; letters = refl }
word_of_letters name.Abort = record { first = 97; others = 98 ∷ 111 ∷ 114 ∷ 116 ∷ []; is = refl; begins = refl; letters = refl }
word_of_letters name.RequestSegment = record { first = 99; others = 111 ∷ 110 ∷ 102 ∷ 45 ∷ 115 ∷ 101 ∷ 103 ∷ []; is = refl; begins = refl; letters = refl }
word_of_letters name.AckSegment = record { first = 97; others = 99 ∷ 107 ∷ 45 ∷ 115 ∷ 101 ∷ 103 ∷ []; is = refl; begins = refl; letters = refl }
word_of_letters name.InvokeId = record { first = 105; others = 100 ∷ []; is = refl; begins = refl; letters = refl }
word_of_letters name.SegmentedAccepted = record { first = 115; others = 97 ∷ []; is = refl; begins = refl; letters = refl }
word_of_letters name.MaxSegments = record { first = 115; others = 101 ∷ 103 ∷ 115 ∷ []; is = refl; begins = refl; letters = refl }
word_of_letters name.MaxResponse = record { first = 114; others = 101 ∷ 115 ∷ 112 ∷ []; is = refl; begins = refl; letters = refl }
word_of_letters name.Sequence = record { first = 115; others = 101 ∷ 113 ∷ []; is = refl; begins = refl; letters = refl }
word_of_letters name.Window = record { first = 119; others = 105 ∷ 110 ∷ []; is = refl; begins = refl; letters = refl }
word_of_letters name.More = record { first = 109; others = 111 ∷ 114 ∷ 101 ∷ []; is = refl; begins = refl; letters = refl }
word_of_letters name.Negative = record { first = 110; others = 97 ∷ 107 ∷ []; is = refl; begins = refl; letters = refl }
word_of_letters name.Server = record { first = 115; others = 114 ∷ 118 ∷ []; is = refl; begins = refl; letters = refl }
word_of_letters name.Reason = record { first = 114; others = 101 ∷ 97 ∷ 115 ∷ 111 ∷ 110 ∷ []; is = refl; begins = refl; letters = refl }
word_of_letters name.Choice = record { first = 99; others = 104 ∷ 111 ∷ 105 ∷ 99 ∷ 101 ∷ []; is = refl; begins = refl; letters = refl }
word_of_letters name.Octets = record { first = 111; others = 99 ∷ 116 ∷ 101 ∷ 116 ∷ 115 ∷ []; is = refl; begins = refl; letters = refl }
word_of_letters name.NetworkMessage = record { first = 110; others = 101 ∷ 116 ∷ []; is = refl; begins = refl; letters = refl }
word_of_letters name.Network = record { first = 110; others = 101 ∷ 116 ∷ 119 ∷ 111 ∷ 114 ∷ 107 ∷ []; is = refl; begins = refl; letters = refl }
word_of_letters name.Networks = record { first = 110; others = 101 ∷ 116 ∷ 119 ∷ 111 ∷ 114 ∷ 107 ∷ 115 ∷ []; is = refl; begins = refl; letters = refl }
word_of_letters name.ListedNetwork = record { first = 110; others = 101 ∷ 116 ∷ 119 ∷ 111 ∷ 114 ∷ 107 ∷ []; is = refl; begins = refl; letters = refl }
word_of_letters name.Performance = record { first = 112; others = 101 ∷ 114 ∷ 102 ∷ 111 ∷ 114 ∷ 109 ∷ 97 ∷ 110 ∷ 99 ∷ 101 ∷ []; is = refl; begins = refl; letters = refl }
word_of_letters name.Ports = record { first = 112; others = 111 ∷ 114 ∷ 116 ∷ 115 ∷ []; is = refl; begins = refl; letters = refl }
word_of_letters name.PortId = record { first = 105; others = 100 ∷ []; is = refl; begins = refl; letters = refl }
word_of_letters name.PortInfo = record { first = 105; others = 110 ∷ 102 ∷ 111 ∷ []; is = refl; begins = refl; letters = refl }
word_of_letters name.Time = record { first = 116; others = 105 ∷ 109 ∷ 101 ∷ []; is = refl; begins = refl; letters = refl }
word_of_letters name.Flag = record { first = 102; others = 108 ∷ 97 ∷ 103 ∷ []; is = refl; begins = refl; letters = refl }
word_of_letters name.Vendor = record { first = 118; others = 101 ∷ 110 ∷ 100 ∷ 111 ∷ 114 ∷ []; is = refl; begins = refl; letters = refl }
word_of_letters name.Data = record { first = 100; others = 97 ∷ 116 ∷ 97 ∷ []; is = refl; begins = refl; letters = refl }
word_of_letters name.ReadProperty = record { first = 82; others = 101 ∷ 97 ∷ 100 ∷ 80 ∷ 114 ∷ 111 ∷ 112 ∷ 101 ∷ 114 ∷ 116 ∷ 121 ∷ []; is = refl; begins = refl; letters = refl }
word_of_letters name.ReadPropertyMultiple = record { first = 82; others = 101 ∷ 97 ∷ 100 ∷ 80 ∷ 114 ∷ 111 ∷ 112 ∷ 101 ∷ 114 ∷ 116 ∷ 121 ∷ 77 ∷ 117 ∷ 108 ∷ 116 ∷ 105 ∷ 112 ∷ 108 ∷ 101 ∷ []; is = refl; begins = refl; letters = refl }
word_of_letters name.WriteProperty = record { first = 87; others = 114 ∷ 105 ∷ 116 ∷ 101 ∷ 80 ∷ 114 ∷ 111 ∷ 112 ∷ 101 ∷ 114 ∷ 116 ∷ 121 ∷ []; is = refl; begins = refl; letters = refl }
word_of_letters name.WritePropertyMultiple = record { first = 87; others = 114 ∷ 105 ∷ 116 ∷ 101 ∷ 80 ∷ 114 ∷ 111 ∷ 112 ∷ 101 ∷ 114 ∷ 116 ∷ 121 ∷ 77 ∷ 117 ∷ 108 ∷ 116 ∷ 105 ∷ 112 ∷ 108 ∷ 101 ∷ []; is = refl; begins = refl; letters = refl }
word_of_letters name.WhoIs = record { first = 87; others = 104 ∷ 111 ∷ 45 ∷ 73 ∷ 115 ∷ []; is = refl; begins = refl; letters = refl }
word_of_letters name.IAm = record { first = 73; others = 45 ∷ 65 ∷ 109 ∷ []; is = refl; begins = refl; letters = refl }
word_of_letters name.SubscribeCov = record { first = 83; others = 117 ∷ 98 ∷ 115 ∷ 99 ∷ 114 ∷ 105 ∷ 98 ∷ 101 ∷ 67 ∷ 79 ∷ 86 ∷ []; is = refl; begins = refl; letters = refl }
word_of_letters name.ConfirmedCovNotification = record { first = 67; others = 111 ∷ 110 ∷ 102 ∷ 105 ∷ 114 ∷ 109 ∷ 101 ∷ 100 ∷ 67 ∷ 79 ∷ 86 ∷ 78 ∷ 111 ∷ 116 ∷ 105 ∷ 102 ∷ 105 ∷ 99 ∷ 97 ∷ 116 ∷ 105 ∷ 111 ∷ 110 ∷ []; is = refl; begins = refl; letters = refl }
word_of_letters name.UnconfirmedCovNotification = record { first = 85; others = 110 ∷ 99 ∷ 111 ∷ 110 ∷ 102 ∷ 105 ∷ 114 ∷ 109 ∷ 101 ∷ 100 ∷ 67 ∷ 79 ∷ 86 ∷ 78 ∷ 111 ∷ 116 ∷ 105 ∷ 102 ∷ 105 ∷ 99 ∷ 97 ∷ 116 ∷ 105 ∷ 111 ∷ 110 ∷ []; is = refl; begins = refl; letters = refl }
word_of_letters name.Opaque = record { first = 111; others = 112 ∷ 97 ∷ 113 ∷ 117 ∷ 101 ∷ []; is = refl; begins = refl; letters = refl }
word_of_letters name.Object = record { first = 111; others = 98 ∷ 106 ∷ 101 ∷ 99 ∷ 116 ∷ []; is = refl; begins = refl; letters = refl }
word_of_letters name.Property = record { first = 112; others = 114 ∷ 111 ∷ 112 ∷ 101 ∷ 114 ∷ 116 ∷ 121 ∷ []; is = refl; begins = refl; letters = refl }
word_of_letters name.Index = record { first = 105; others = 110 ∷ 100 ∷ 101 ∷ 120 ∷ []; is = refl; begins = refl; letters = refl }
word_of_letters name.Priority = record { first = 112; others = 114 ∷ 105 ∷ 111 ∷ 114 ∷ 105 ∷ 116 ∷ 121 ∷ []; is = refl; begins = refl; letters = refl }
word_of_letters name.Process = record { first = 112; others = 114 ∷ 111 ∷ 99 ∷ 101 ∷ 115 ∷ 115 ∷ []; is = refl; begins = refl; letters = refl }
word_of_letters name.Device = record { first = 100; others = 101 ∷ 118 ∷ 105 ∷ 99 ∷ 101 ∷ []; is = refl; begins = refl; letters = refl }
word_of_letters name.Confirmed = record { first = 99; others = 111 ∷ 110 ∷ 102 ∷ 105 ∷ 114 ∷ 109 ∷ 101 ∷ 100 ∷ []; is = refl; begins = refl; letters = refl }
word_of_letters name.Lifetime = record { first = 108; others = 105 ∷ 102 ∷ 101 ∷ 116 ∷ 105 ∷ 109 ∷ 101 ∷ []; is = refl; begins = refl; letters = refl }
word_of_letters name.Remaining = record { first = 114; others = 101 ∷ 109 ∷ 97 ∷ 105 ∷ 110 ∷ 105 ∷ 110 ∷ 103 ∷ []; is = refl; begins = refl; letters = refl }
word_of_letters name.Low = record { first = 108; others = 111 ∷ 119 ∷ []; is = refl; begins = refl; letters = refl }
word_of_letters name.High = record { first = 104; others = 105 ∷ 103 ∷ 104 ∷ []; is = refl; begins = refl; letters = refl }
word_of_letters name.MaxApdu = record { first = 97; others = 112 ∷ 100 ∷ 117 ∷ []; is = refl; begins = refl; letters = refl }
word_of_letters name.Segmentation = record { first = 115; others = 101 ∷ 103 ∷ 109 ∷ 101 ∷ 110 ∷ 116 ∷ 97 ∷ 116 ∷ 105 ∷ 111 ∷ 110 ∷ []; is = refl; begins = refl; letters = refl }
word_of_letters name.ErrorClass = record { first = 99; others = 108 ∷ 97 ∷ 115 ∷ 115 ∷ []; is = refl; begins = refl; letters = refl }
word_of_letters name.ErrorCode = record { first = 99; others = 111 ∷ 100 ∷ 101 ∷ []; is = refl; begins = refl; letters = refl }
word_of_letters name.Specifications = record { first = 115; others = 112 ∷ 101 ∷ 99 ∷ 115 ∷ []; is = refl; begins = refl; letters = refl }
word_of_letters name.Properties = record { first = 112; others = 114 ∷ 111 ∷ 112 ∷ 101 ∷ 114 ∷ 116 ∷ 105 ∷ 101 ∷ 115 ∷ []; is = refl; begins = refl; letters = refl }
word_of_letters name.Results = record { first = 114; others = 101 ∷ 115 ∷ 117 ∷ 108 ∷ 116 ∷ 115 ∷ []; is = refl; begins = refl; letters = refl }
word_of_letters name.Values = record { first = 118; others = 97 ∷ 108 ∷ 117 ∷ 101 ∷ 115 ∷ []; is = refl; begins = refl; letters = refl }
word_of_letters name.ListEnd = record { first = 101; others = 110 ∷ 100 ∷ []; is = refl; begins = refl; letters = refl }
word_of_letters name.Item = record { first = 105; others = 116 ∷ 101 ∷ 109 ∷ []; is = refl; begins = refl; letters = refl }
word_of_letters name.ItemEnd = record { first = 101; others = 110 ∷ 100 ∷ []; is = refl; begins = refl; letters = refl }
word_of_letters name.Value = record { first = 118; others = 97 ∷ 108 ∷ 117 ∷ 101 ∷ []; is = refl; begins = refl; letters = refl }
word_of_letters name.ValueEnd = record { first = 101; others = 110 ∷ 100 ∷ []; is = refl; begins = refl; letters = refl }
word_of_letters name.PropertyError = record { first = 101; others = 114 ∷ 114 ∷ 111 ∷ 114 ∷ []; is = refl; begins = refl; letters = refl }
word_of_letters name.PropertyErrorEnd = record { first = 101; others = 110 ∷ 100 ∷ []; is = refl; begins = refl; letters = refl }
word_of_letters name.Group = record { first = 103; others = 114 ∷ 111 ∷ 117 ∷ 112 ∷ []; is = refl; begins = refl; letters = refl }
word_of_letters name.GroupEnd = record { first = 101; others = 110 ∷ 100 ∷ []; is = refl; begins = refl; letters = refl }
word_of_letters name.Null = record { first = 110; others = 117 ∷ 108 ∷ 108 ∷ []; is = refl; begins = refl; letters = refl }
word_of_letters name.Boolean = record { first = 98; others = 111 ∷ 111 ∷ 108 ∷ 101 ∷ 97 ∷ 110 ∷ []; is = refl; begins = refl; letters = refl }
word_of_letters name.Unsigned = record { first = 117; others = []; is = refl; begins = refl; letters = refl }
word_of_letters name.Signed = record { first = 105; others = []; is = refl; begins = refl; letters = refl }
word_of_letters name.Real = record { first = 114; others = []; is = refl; begins = refl; letters = refl }
word_of_letters name.Double = record { first = 100; others = []; is = refl; begins = refl; letters = refl }
word_of_letters name.OctetString = record { first = 111; others = []; is = refl; begins = refl; letters = refl }
word_of_letters name.CharacterString = record { first = 115; others = []; is = refl; begins = refl; letters = refl }
word_of_letters name.BitString = record { first = 98; others = []; is = refl; begins = refl; letters = refl }
word_of_letters name.Enumerated = record { first = 101; others = []; is = refl; begins = refl; letters = refl }
word_of_letters name.Date = record { first = 68; others = []; is = refl; begins = refl; letters = refl }
word_of_letters name.TimeOfDay = record { first = 84; others = []; is = refl; begins = refl; letters = refl }
word_of_letters name.ObjectIdentifier = record { first = 105; others = 100 ∷ []; is = refl; begins = refl; letters = refl }
word_of_letters name.ContextPrimitive = record { first = 99; others = 111 ∷ 110 ∷ 116 ∷ 101 ∷ 120 ∷ 116 ∷ []; is = refl; begins = refl; letters = refl }

-- the same octets
abbrev pub same_word : List ℕ → List ℕ → Bool
same_word [] [] = true
same_word [] (y ∷ ys) = false
same_word (x ∷ xs) [] = false
same_word (x ∷ xs) (y ∷ ys) = (x == y) && same_word xs ys

pub same_itself : (word : List ℕ) → IsTrue (same_word word word)
same_itself [] = refl
same_itself (x ∷ xs) = rw (itself x, same_itself xs) refl
  where
    itself : (n : ℕ) → IsTrue (n == n)
    itself n = grind (arith, nat_tests)

-- none of the names has the word
abbrev pub absent : List ℕ → List Name → Bool
absent word [] = true
absent word (one ∷ names) = not (same_word word (word_of one)) && absent word names

pub absent_from : (word : List ℕ) (names : List Name) (n : Name) → IsTrue (absent word names) → Among names n → word ≡ word_of n → ⊥
absent_from word [] n a m e = m
absent_from word (one ∷ names) n a (inl is) e =
    let p = and_parts (not (same_word word (word_of one))) (absent word names) a in
    both_ways (same_word word (word_of one)) (not-true (same_word word (word_of one)) p.0) (subst (λ (w : List ℕ). IsTrue (same_word word w)) (e ∙ ap word_of is) (same_itself word))
absent_from word (one ∷ names) n a (inr m) e = absent_from word names n (and_parts (not (same_word word (word_of one))) (absent word names) a).1 m e

-- no two have the same word
abbrev pub distinct : List Name → Bool
distinct [] = true
distinct (one ∷ names) = absent (word_of one) names && distinct names

pub one_name : (names : List Name) (m n : Name) → IsTrue (distinct names) → Among names m → Among names n → word_of m ≡ word_of n → m ≡ n
one_name [] m n d a b e = absurd a
one_name (one ∷ names) m n d (inl i) (inl j) e = i ∙ sym j
one_name (one ∷ names) m n d (inl i) (inr b) e = absurd (absent_from (word_of one) names n (and_parts (absent (word_of one) names) (distinct names) d).0 b (ap word_of (sym i) ∙ e))
one_name (one ∷ names) m n d (inr a) (inl j) e = absurd (absent_from (word_of one) names m (and_parts (absent (word_of one) names) (distinct names) d).0 a (ap word_of (sym j) ∙ sym e))
one_name (one ∷ names) m n d (inr a) (inr b) e = one_name names m n (and_parts (absent (word_of one) names) (distinct names) d).1 a b e

-- none of the one is among the others
abbrev pub apart : List Name → List Name → Bool
apart [] others = true
apart (one ∷ names) others = absent (word_of one) others && apart names others

pub never_both : (names others : List Name) (m n : Name) → IsTrue (apart names others) → Among names m → Among others n → word_of m ≡ word_of n → ⊥
never_both [] others m n d a b e = a
never_both (one ∷ names) others m n d (inl i) b e = absent_from (word_of one) others n (and_parts (absent (word_of one) others) (apart names others) d).0 b (ap word_of (sym i) ∙ e)
never_both (one ∷ names) others m n d (inr a) b e = never_both names others m n (and_parts (absent (word_of one) others) (apart names others) d).1 a b e

-- what is found of names whose words are distinct
pub found_in : (names : List Name) (r : Option Name) (word : List ℕ) (n : Name) → IsTrue (distinct names) → IfSome r (λ m. Among names m × (word ≡ word_of m)) → IfNone r ((m : Name) → Among names m → word ≡ word_of m → ⊥) → Among names n → word ≡ word_of n → r ≡ Some n
found_in names (Some m) word n d some none a e = ap Some (one_name names m n d some.0 a (sym some.1 ∙ e))
found_in names None word n d some none a e = absurd (none n a e)

pub number_name : (n : Name) → form_of n ≡ as_number → (n ≡ name.PortId → ⊥) → Among numbers n
number_name n f other = elim (subst (λ (form : Form). Named form n) f (named n)) [
  | inl is ↦ absurd (other is)
  | inr a ↦ a
]

-- ---- the names of a list, one after another

pub among_at : (names : List Name) (k : ℕ) (other : Name) → k < length names → Among names (slice_index_or names k other)
among_at [] k other lt = absurd (omega (arith, lt))
among_at (one ∷ names) zero other lt = inl refl
among_at (one ∷ names) (suc k) other lt = inr (among_at names k other (omega (arith, lt)))

pub among_more : (names : List Name) (k : ℕ) (other n : Name) → k < length names → Among (take (k + 1) names) n → Among (take k names) n ⊎ (n ≡ slice_index_or names k other)
among_more [] k other n lt m = absurd (omega (arith, lt))
among_more (one ∷ names) zero other n lt (inl is) = inr is
among_more (one ∷ names) zero other n lt (inr m) = absurd m
among_more (one ∷ names) (suc k) other n lt m =
    let next : suc k + 1 ≡ suc (k + 1) = omega arith in
    elim (rw next at m) [
      | inl is ↦ inl (inl is)
      | inr m ↦ elim (among_more names k other n (omega (arith, lt)) m) [
        | inl before ↦ inl (inr before)
        | inr is ↦ inr is
      ]
    ]

-- all of a list that is not longer
pub among_all : (names : List Name) (k : ℕ) (n : Name) → length names ≤ k → Among names n → Among (take k names) n
among_all [] k n le m = absurd m
among_all (one ∷ names) zero n le m = absurd (omega (arith, le))
among_all (one ∷ names) (suc k) n le (inl is) = inl is
among_all (one ∷ names) (suc k) n le (inr m) = inr (among_all names k n (omega (arith, le)) m)

-- ---- forms of names

-- each of the names has the form
abbrev pub AllHave : Form → List Name → Type 0
AllHave form [] = Unit {0}
AllHave form (one ∷ names) = (form_of one ≡ form) × AllHave form names

pub form_among : (form : Form) (names : List Name) (n : Name) → AllHave form names → Among names n → form_of n ≡ form
form_among form [] n h m = absurd m
form_among form (one ∷ names) n h (inl is) = ap form_of is ∙ h.0
form_among form (one ∷ names) n h (inr m) = form_among form names n h.1 m

pub number_found : (r : Option Name) (word : List ℕ) → IfSome r (λ m. Among numbers m × (word ≡ word_of m)) → IfSome r (λ m. (form_of m ≡ as_number) × (word ≡ word_of m))
number_found (Some m) word some = (form_among as_number numbers m all some.0, some.1)
  where
    all : AllHave as_number numbers
    all = (refl, (refl, (refl, (refl, (refl, (refl, (refl, (refl, (refl, (refl, (refl, (refl, (refl, (refl, (refl, (refl, (refl, (refl, (refl, (refl, (refl, (refl, (refl, (refl, (refl, (refl, (refl, (refl, (refl, (refl, (refl, (refl, tt))))))))))))))))))))))))))))))))
number_found None word some = some

-- no name of these is that of a port, and the invoke id has its word
pub named_among : (ends : List Closing) (n : Name) → Among numbers n → (word_of n ≡ word_of name.InvokeId → ends ≡ []) → IsNamed ends n
named_among ends n (inl is) id = subst (λ (m : Name). IsNamed ends m) (sym is) tt
named_among ends n (inr (inl is)) id = subst (λ (m : Name). IsNamed ends m) (sym is) tt
named_among ends n (inr (inr (inl is))) id = subst (λ (m : Name). IsNamed ends m) (sym is) (id (ap word_of is))
named_among ends n (inr (inr (inr (inl is)))) id = subst (λ (m : Name). IsNamed ends m) (sym is) tt
named_among ends n (inr (inr (inr (inr (inl is))))) id = subst (λ (m : Name). IsNamed ends m) (sym is) tt
named_among ends n (inr (inr (inr (inr (inr (inl is)))))) id = subst (λ (m : Name). IsNamed ends m) (sym is) tt
named_among ends n (inr (inr (inr (inr (inr (inr (inl is))))))) id = subst (λ (m : Name). IsNamed ends m) (sym is) tt
named_among ends n (inr (inr (inr (inr (inr (inr (inr (inl is)))))))) id = subst (λ (m : Name). IsNamed ends m) (sym is) tt
named_among ends n (inr (inr (inr (inr (inr (inr (inr (inr (inl is))))))))) id = subst (λ (m : Name). IsNamed ends m) (sym is) tt
named_among ends n (inr (inr (inr (inr (inr (inr (inr (inr (inr (inl is)))))))))) id = subst (λ (m : Name). IsNamed ends m) (sym is) tt
named_among ends n (inr (inr (inr (inr (inr (inr (inr (inr (inr (inr (inl is))))))))))) id = subst (λ (m : Name). IsNamed ends m) (sym is) tt
named_among ends n (inr (inr (inr (inr (inr (inr (inr (inr (inr (inr (inr (inl is)))))))))))) id = subst (λ (m : Name). IsNamed ends m) (sym is) tt
named_among ends n (inr (inr (inr (inr (inr (inr (inr (inr (inr (inr (inr (inr (inl is))))))))))))) id = subst (λ (m : Name). IsNamed ends m) (sym is) tt
named_among ends n (inr (inr (inr (inr (inr (inr (inr (inr (inr (inr (inr (inr (inr (inl is)))))))))))))) id = subst (λ (m : Name). IsNamed ends m) (sym is) tt
named_among ends n (inr (inr (inr (inr (inr (inr (inr (inr (inr (inr (inr (inr (inr (inr (inl is))))))))))))))) id = subst (λ (m : Name). IsNamed ends m) (sym is) tt
named_among ends n (inr (inr (inr (inr (inr (inr (inr (inr (inr (inr (inr (inr (inr (inr (inr (inl is)))))))))))))))) id = subst (λ (m : Name). IsNamed ends m) (sym is) tt
named_among ends n (inr (inr (inr (inr (inr (inr (inr (inr (inr (inr (inr (inr (inr (inr (inr (inr (inl is))))))))))))))))) id = subst (λ (m : Name). IsNamed ends m) (sym is) tt
named_among ends n (inr (inr (inr (inr (inr (inr (inr (inr (inr (inr (inr (inr (inr (inr (inr (inr (inr (inl is)))))))))))))))))) id = subst (λ (m : Name). IsNamed ends m) (sym is) tt
named_among ends n (inr (inr (inr (inr (inr (inr (inr (inr (inr (inr (inr (inr (inr (inr (inr (inr (inr (inr (inl is))))))))))))))))))) id = subst (λ (m : Name). IsNamed ends m) (sym is) tt
named_among ends n (inr (inr (inr (inr (inr (inr (inr (inr (inr (inr (inr (inr (inr (inr (inr (inr (inr (inr (inr (inl is)))))))))))))))))))) id = subst (λ (m : Name). IsNamed ends m) (sym is) tt
named_among ends n (inr (inr (inr (inr (inr (inr (inr (inr (inr (inr (inr (inr (inr (inr (inr (inr (inr (inr (inr (inr (inl is))))))))))))))))))))) id = subst (λ (m : Name). IsNamed ends m) (sym is) tt
named_among ends n (inr (inr (inr (inr (inr (inr (inr (inr (inr (inr (inr (inr (inr (inr (inr (inr (inr (inr (inr (inr (inr (inl is)))))))))))))))))))))) id = subst (λ (m : Name). IsNamed ends m) (sym is) tt
named_among ends n (inr (inr (inr (inr (inr (inr (inr (inr (inr (inr (inr (inr (inr (inr (inr (inr (inr (inr (inr (inr (inr (inr (inl is))))))))))))))))))))))) id = subst (λ (m : Name). IsNamed ends m) (sym is) tt
named_among ends n (inr (inr (inr (inr (inr (inr (inr (inr (inr (inr (inr (inr (inr (inr (inr (inr (inr (inr (inr (inr (inr (inr (inr (inl is)))))))))))))))))))))))) id = subst (λ (m : Name). IsNamed ends m) (sym is) tt
named_among ends n (inr (inr (inr (inr (inr (inr (inr (inr (inr (inr (inr (inr (inr (inr (inr (inr (inr (inr (inr (inr (inr (inr (inr (inr (inl is))))))))))))))))))))))))) id = subst (λ (m : Name). IsNamed ends m) (sym is) tt
named_among ends n (inr (inr (inr (inr (inr (inr (inr (inr (inr (inr (inr (inr (inr (inr (inr (inr (inr (inr (inr (inr (inr (inr (inr (inr (inr (inl is)))))))))))))))))))))))))) id = subst (λ (m : Name). IsNamed ends m) (sym is) tt
named_among ends n (inr (inr (inr (inr (inr (inr (inr (inr (inr (inr (inr (inr (inr (inr (inr (inr (inr (inr (inr (inr (inr (inr (inr (inr (inr (inr (inl is))))))))))))))))))))))))))) id = subst (λ (m : Name). IsNamed ends m) (sym is) tt
named_among ends n (inr (inr (inr (inr (inr (inr (inr (inr (inr (inr (inr (inr (inr (inr (inr (inr (inr (inr (inr (inr (inr (inr (inr (inr (inr (inr (inr (inl is)))))))))))))))))))))))))))) id = subst (λ (m : Name). IsNamed ends m) (sym is) tt
named_among ends n (inr (inr (inr (inr (inr (inr (inr (inr (inr (inr (inr (inr (inr (inr (inr (inr (inr (inr (inr (inr (inr (inr (inr (inr (inr (inr (inr (inr (inl is))))))))))))))))))))))))))))) id = subst (λ (m : Name). IsNamed ends m) (sym is) tt
named_among ends n (inr (inr (inr (inr (inr (inr (inr (inr (inr (inr (inr (inr (inr (inr (inr (inr (inr (inr (inr (inr (inr (inr (inr (inr (inr (inr (inr (inr (inr (inl is)))))))))))))))))))))))))))))) id = subst (λ (m : Name). IsNamed ends m) (sym is) tt
named_among ends n (inr (inr (inr (inr (inr (inr (inr (inr (inr (inr (inr (inr (inr (inr (inr (inr (inr (inr (inr (inr (inr (inr (inr (inr (inr (inr (inr (inr (inr (inr (inl is))))))))))))))))))))))))))))))) id = subst (λ (m : Name). IsNamed ends m) (sym is) tt
named_among ends n (inr (inr (inr (inr (inr (inr (inr (inr (inr (inr (inr (inr (inr (inr (inr (inr (inr (inr (inr (inr (inr (inr (inr (inr (inr (inr (inr (inr (inr (inr (inr (inl is)))))))))))))))))))))))))))))))) id = subst (λ (m : Name). IsNamed ends m) (sym is) tt
named_among ends n (inr (inr (inr (inr (inr (inr (inr (inr (inr (inr (inr (inr (inr (inr (inr (inr (inr (inr (inr (inr (inr (inr (inr (inr (inr (inr (inr (inr (inr (inr (inr (inr (x))))))))))))))))))))))))))))))))) id = absurd x

pub number_named : (r : Option Name) (word : List ℕ) (ends : List Closing) → IfSome r (λ m. Among numbers m × (word ≡ word_of m)) → (word ≡ word_of name.InvokeId → ends ≡ []) → IfSome r (IsNamed ends)
number_named (Some m) word ends some id = named_among ends m some.0 (λ e. id (some.1 ∙ e))
number_named None word ends some id = some
