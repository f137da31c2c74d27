-- APDUs as their parts: a head, and what it comes before.
use Rattle.std.specs.Prelude.{◌≡◌, ◌↔◌, ℕ, ◌<◌, Bool, List, [], ◌∷◌, ◌++◌, refl}
use Rattle.std.proofs.Common.{sym, ◌∙◌, ap, subst}
use Rattle.bac_tag.specs.HeadOctets.{Part, octet, Headed, IsWindow, AreParts}
use Rattle.bac_tag.specs.Octets.{IsOctets}
use Rattle.bac_tag.specs.Spelling.{Joined, Joins}
use Rattle.bac_service.specs.Services.{ServiceValue}
use Rattle.bac_service.specs.declared.kind.Kind.{Kind}
use Rattle.bac_service.specs.declared.kind.Kind.TheVariants.{Confirmed, Unconfirmed, ComplexAck, Error}
use Rattle.bac_apdu.specs.Apdus.{SpellsServiceOf}
use Rattle.bac_field_parts.specs.declared.numbers.Nothing.{Nothing}
use Rattle.bac_field_parts.specs.PrimitiveFields.{truth}
use Rattle.bac_field_parts.specs.Symbols.{Symbol, IsMessage, Heads, number_said, contents_said, no_octet_number, no_octets, the_octet, end_said}
use Rattle.bac_field_parts.specs.Opaques.{AreTheOctets}
use Rattle.bac_fields.specs.ServiceSymbols.{service_said, SpellsAfterHead}
use Rattle.bac_fields.specs.ApduSymbols.{confirmed_request, unconfirmed_request, simple_ack, complex_ack, segment_ack, error, reject, abort, request_segment, ack_segment, said_by, SpellsBy, RequestNumbers, SegmentNumbers, confirmed_request_front, unconfirmed_request_front, simple_ack_front, complex_ack_front, segment_ack_front, error_front, reject_front, abort_front, request_segment_front, ack_segment_front}
use Rattle.bac_field_parts.specs.Laws.Messages.{Alike, last_part, second_alike, then_alike}
use Rattle.bac_field_parts.specs.Laws.Numbers.{headed_joined}

-- ---- the ranges of numbers are those of octets

abbrev pub word_fits : Nothing → Type 0
word_fits v = Unit {0}

abbrev pub flag_fits : Bool → Type 0
flag_fits v = Unit {0}

abbrev pub octet_fits : ℕ → Type 0
octet_fits n = n < 256

abbrev pub segs_fit : ℕ → Type 0
segs_fit n = n < 8

abbrev pub resp_fits : ℕ → Type 0
resp_fits n = n < 16

abbrev pub request_fits : RequestNumbers → Type 0
request_fits v = octet_fits v.0 × (flag_fits v.1.0 × (segs_fit v.1.1.0 × resp_fits v.1.1.1))

abbrev pub segment_fits : SegmentNumbers → Type 0
segment_fits v = octet_fits v.0 × (IsWindow v.1.0 × (flag_fits v.1.1.0 × octet_fits v.1.1.1))

pub confirmed_request_fit : (v : Nothing × RequestNumbers) → word_fits v.0 × request_fits v.1 ↔ AreParts (confirmed_request_front v)
confirmed_request_fit v = (λ f. (tt, (f.1.1.1, (f.1.0, tt))), λ a. (tt, (a.1.1.0, (tt, a.1.0))))

pub unconfirmed_request_fit : (v : Nothing) → word_fits v ↔ AreParts (unconfirmed_request_front v)
unconfirmed_request_fit v = (λ f. (tt, tt), λ a. tt)

pub simple_ack_fit : (v : Nothing × (ℕ × ℕ)) → word_fits v.0 × (octet_fits v.1.0 × octet_fits v.1.1) ↔ AreParts (simple_ack_front v)
simple_ack_fit v = (λ f. (tt, (f.1.0, (f.1.1, tt))), λ a. (tt, (a.1.0, a.1.1.0)))

pub complex_ack_fit : (v : Nothing × ℕ) → word_fits v.0 × octet_fits v.1 ↔ AreParts (complex_ack_front v)
complex_ack_fit v = (λ f. (tt, (f.1, tt)), λ a. (tt, a.1.0))

pub segment_ack_fit : (v : Nothing × (ℕ × (Bool × (Bool × (ℕ × ℕ))))) → word_fits v.0 × (octet_fits v.1.0 × (flag_fits v.1.1.0 × (flag_fits v.1.1.1.0 × (octet_fits v.1.1.1.1.0 × IsWindow v.1.1.1.1.1)))) ↔ AreParts (segment_ack_front v)
segment_ack_fit v = (λ f. (tt, (f.1.0, (f.1.1.1.1.0, (f.1.1.1.1.1, tt)))), λ a. (tt, (a.1.0, (tt, (tt, (a.1.1.0, a.1.1.1.0))))))

pub error_fit : (v : Nothing × ℕ) → word_fits v.0 × octet_fits v.1 ↔ AreParts (error_front v)
error_fit v = (λ f. (tt, (f.1, tt)), λ a. (tt, a.1.0))

pub reject_fit : (v : Nothing × (ℕ × ℕ)) → word_fits v.0 × (octet_fits v.1.0 × octet_fits v.1.1) ↔ AreParts (reject_front v)
reject_fit v = (λ f. (tt, (f.1.0, (f.1.1, tt))), λ a. (tt, (a.1.0, a.1.1.0)))

pub abort_fit : (v : Nothing × (ℕ × (Bool × ℕ))) → word_fits v.0 × (octet_fits v.1.0 × (flag_fits v.1.1.0 × octet_fits v.1.1.1)) ↔ AreParts (abort_front v)
abort_fit v = (λ f. (tt, (f.1.0, (f.1.1.1, tt))), λ a. (tt, (a.1.0, (tt, a.1.1.0))))

pub request_segment_fit : (v : Nothing × (RequestNumbers × SegmentNumbers)) → word_fits v.0 × (request_fits v.1.0 × segment_fits v.1.1) ↔ AreParts (request_segment_front v)
request_segment_fit v = (
  λ f. (tt, (f.1.0.1.1, (f.1.0.0, (f.1.1.0, (f.1.1.1.0, (f.1.1.1.1.1, tt)))))),
  λ a. (tt, ((a.1.1.0, (tt, a.1.0)), (a.1.1.1.0, (a.1.1.1.1.0, (tt, a.1.1.1.1.1.0))))),
)

pub ack_segment_fit : (v : Nothing × (ℕ × SegmentNumbers)) → word_fits v.0 × (octet_fits v.1.0 × segment_fits v.1.1) ↔ AreParts (ack_segment_front v)
ack_segment_fit v = (λ f. (tt, (f.1.0, (f.1.1.0, (f.1.1.1.0, (f.1.1.1.1.1, tt))))), λ a. (tt, (a.1.0, (a.1.1.0, (a.1.1.1.0, (tt, a.1.1.1.1.0))))))

-- ---- what the parts say

abbrev word_said : ℕ → Nothing → List Symbol
word_said name = number_said name (λ v. 0)

abbrev byte_said : ℕ → ℕ → List Symbol
byte_said name = number_said name (λ n. n)

abbrev flag_said : ℕ → Bool → List Symbol
flag_said name = number_said name truth

abbrev request_said : RequestNumbers → List Symbol
request_said v = byte_said 20 v.0 ++ (flag_said 21 v.1.0 ++ (byte_said 22 v.1.1.0 ++ byte_said 23 v.1.1.1))

abbrev segment_said : SegmentNumbers → List Symbol
segment_said v = byte_said 24 v.0 ++ (byte_said 25 v.1.0 ++ (flag_said 26 v.1.1.0 ++ byte_said 30 v.1.1.1))

abbrev piece_said : List ℕ × Unit {0} → List Symbol
piece_said v = contents_said 31 no_octet_number (λ octets. octets) v.0 ++ end_said v.1

-- ---- a head, the service choice, and a service

-- the service choice belongs to the head
before_choice : (ps : List Part) (c : ℕ) (B : List ℕ → Type 0) → ((b : List ℕ) → B b → c < 256) → Alike (Joins (Headed ps (λ (rest : List ℕ). rest ≡ [])) (Joins (the_octet c tt) B)) (Headed (ps ++ octet c ∷ []) B)
before_choice [] c B fits b = (to, from b)
  where
    to : Joins (Headed [] (λ (rest : List ℕ). rest ≡ [])) (Joins (the_octet c tt) B) b → Headed (octet c ∷ []) B b
    to j = subst (Headed (octet c ∷ []) B) (sym (j.octets ∙ ap (λ (l : List ℕ). l ++ j.back) j.first ∙ j.second.octets ∙ ap (λ (l : List ℕ). l ++ j.second.back) j.second.first)) ((refl, fits j.second.back j.second.second), j.second.second)

    from : (b : List ℕ) → Headed (octet c ∷ []) B b → Joins (Headed [] (λ (rest : List ℕ). rest ≡ [])) (Joins (the_octet c tt) B) b
    from [] h = absurd h
    from (o ∷ b) h = record { front = []; back = o ∷ b; first = refl; second = record { front = c ∷ []; back = b; first = refl; second = h.1; octets = ap (λ (n : ℕ). n ∷ b) h.0.0 }; octets = refl }
before_choice (p ∷ ps) c B fits b = (λ j. to j.front j.first j.back j.second b j.octets (λ d. before_choice ps c B fits d), from b (λ d. before_choice ps c B fits d))
  where
    to : (front : List ℕ) → Headed (p ∷ ps) (λ (rest : List ℕ). rest ≡ []) front → (back : List ℕ) → Joins (the_octet c tt) B back → (b : List ℕ) → b ≡ front ++ back → ((d : List ℕ) → Joins (Headed ps (λ (rest : List ℕ). rest ≡ [])) (Joins (the_octet c tt) B) d ↔ Headed (ps ++ octet c ∷ []) B d) → Headed (p ∷ (ps ++ octet c ∷ [])) B b
    to [] h back j b e rest = absurd h
    to (o ∷ front) h back j b e rest = subst (Headed (p ∷ (ps ++ octet c ∷ [])) B) (sym e) (h.0, (rest (front ++ back)).0 (record { front = front; back = back; first = h.1; second = j; octets = refl }))

    from : (b : List ℕ) → ((d : List ℕ) → Joins (Headed ps (λ (rest : List ℕ). rest ≡ [])) (Joins (the_octet c tt) B) d ↔ Headed (ps ++ octet c ∷ []) B d) → Headed (p ∷ (ps ++ octet c ∷ [])) B b → Joins (Headed (p ∷ ps) (λ (rest : List ℕ). rest ≡ [])) (Joins (the_octet c tt) B) b
    from [] rest h = absurd h
    from (o ∷ b) rest h =
        let j = (rest b).1 h.1 in
        record { front = o ∷ j.front; back = j.back; first = (h.0, j.first); second = j.second; octets = ap (λ (l : List ℕ). o ∷ l) j.octets }

before_service : (ps : List Part) (k : Kind) (s : ServiceValue) → Alike (Joins (Headed ps (λ (rest : List ℕ). rest ≡ [])) (SpellsAfterHead k s)) (Headed (ps ++ octet s.choice ∷ []) (SpellsServiceOf k s))
before_service ps k s = before_choice ps s.choice (SpellsServiceOf k s) (λ b spelled. spelled.choice_fits)

pub confirmed_request_message : IsMessage (said_by confirmed_request) (λ (w : (Nothing × RequestNumbers) × ServiceValue). (word_said 10 w.0.0 ++ request_said w.0.1) ++ service_said w.1) (SpellsBy confirmed_request) (Joined (Heads confirmed_request_front) (SpellsAfterHead Confirmed))
confirmed_request_message = record {
  of_parts = λ w. (record { invoke = w.0.1.0; sa = w.0.1.1.0; segs = w.0.1.1.1.0; resp = w.0.1.1.1.1 }, w.1);
  parts_of = λ v b spelled. (((_, (v.0.invoke, (v.0.sa, (v.0.segs, v.0.resp)))), v.1), refl);
  said = λ w. refl;
  spelled = λ w. before_service (confirmed_request_front w.0) Confirmed w.1;
}

pub unconfirmed_request_message : IsMessage (said_by unconfirmed_request) (λ (w : Nothing × ServiceValue). word_said 11 w.0 ++ service_said w.1) (SpellsBy unconfirmed_request) (Joined (Heads unconfirmed_request_front) (SpellsAfterHead Unconfirmed))
unconfirmed_request_message = record {
  of_parts = λ w. w.1;
  parts_of = λ v b spelled. ((_, v), refl);
  said = λ w. refl;
  spelled = λ w. before_service (unconfirmed_request_front w.0) Unconfirmed w.1;
}

pub complex_ack_message : IsMessage (said_by complex_ack) (λ (w : (Nothing × ℕ) × ServiceValue). (word_said 13 w.0.0 ++ byte_said 20 w.0.1) ++ service_said w.1) (SpellsBy complex_ack) (Joined (Heads complex_ack_front) (SpellsAfterHead ComplexAck))
complex_ack_message = record {
  of_parts = λ w. (w.0.1, w.1);
  parts_of = λ v b spelled. (((_, v.0), v.1), refl);
  said = λ w. refl;
  spelled = λ w. before_service (complex_ack_front w.0) ComplexAck w.1;
}

pub error_message : IsMessage (said_by error) (λ (w : (Nothing × ℕ) × ServiceValue). (word_said 15 w.0.0 ++ byte_said 20 w.0.1) ++ service_said w.1) (SpellsBy error) (Joined (Heads error_front) (SpellsAfterHead Error))
error_message = record {
  of_parts = λ w. (w.0.1, w.1);
  parts_of = λ v b spelled. (((_, v.0), v.1), refl);
  said = λ w. refl;
  spelled = λ w. before_service (error_front w.0) Error w.1;
}

-- ---- a head alone

pub simple_ack_message : IsMessage (said_by simple_ack) (λ (w : (Nothing × (ℕ × ℕ)) × Unit {0}). (word_said 12 w.0.0 ++ (byte_said 20 w.0.1.0 ++ byte_said 30 w.0.1.1)) ++ end_said w.1) (SpellsBy simple_ack) (Joined (Heads simple_ack_front) no_octets)
simple_ack_message = record {
  of_parts = λ w. w.0.1;
  parts_of = λ v b spelled. (((_, v), tt), refl);
  said = λ w. refl;
  spelled = λ w. last_part;
}

pub segment_ack_message : IsMessage (said_by segment_ack) (λ (w : (Nothing × (ℕ × (Bool × (Bool × (ℕ × ℕ))))) × Unit {0}).
    (word_said 14 w.0.0 ++ (byte_said 20 w.0.1.0 ++ (flag_said 27 w.0.1.1.0 ++ (flag_said 28 w.0.1.1.1.0 ++ (byte_said 24 w.0.1.1.1.1.0 ++ byte_said 25 w.0.1.1.1.1.1))))) ++ end_said w.1) (SpellsBy segment_ack) (Joined (Heads segment_ack_front) no_octets)
segment_ack_message = record {
  of_parts = λ w. w.0.1;
  parts_of = λ v b spelled. (((_, v), tt), refl);
  said = λ w. refl;
  spelled = λ w. last_part;
}

pub reject_message : IsMessage (said_by reject) (λ (w : (Nothing × (ℕ × ℕ)) × Unit {0}). (word_said 16 w.0.0 ++ (byte_said 20 w.0.1.0 ++ byte_said 29 w.0.1.1)) ++ end_said w.1) (SpellsBy reject) (Joined (Heads reject_front) no_octets)
reject_message = record {
  of_parts = λ w. w.0.1;
  parts_of = λ v b spelled. (((_, v), tt), refl);
  said = λ w. refl;
  spelled = λ w. last_part;
}

pub abort_message : IsMessage (said_by abort) (λ (w : (Nothing × (ℕ × (Bool × ℕ))) × Unit {0}). (word_said 17 w.0.0 ++ (byte_said 20 w.0.1.0 ++ (flag_said 28 w.0.1.1.0 ++ byte_said 29 w.0.1.1.1))) ++ end_said w.1) (SpellsBy abort) (Joined (Heads abort_front) no_octets)
abort_message = record {
  of_parts = λ w. w.0.1;
  parts_of = λ v b spelled. (((_, v), tt), refl);
  said = λ w. refl;
  spelled = λ w. last_part;
}

-- ---- a head and a piece

-- octets are those of the piece
octets_alike : (piece : List ℕ) → Alike (AreTheOctets piece) (λ (b : List ℕ). (b ≡ piece) × IsOctets b)
octets_alike piece b = (λ h. (h.0, subst IsOctets (sym h.0) h.1), λ h. (h.0, subst IsOctets h.0 h.1))

before_piece : (ps : List Part) (piece : List ℕ) → Alike (Joins (Headed ps (λ (rest : List ℕ). rest ≡ [])) (Joined AreTheOctets no_octets (piece, tt))) (Headed ps (λ (b : List ℕ). (b ≡ piece) × IsOctets b))
before_piece ps piece = then_alike (second_alike (then_alike last_part (octets_alike piece))) (headed_joined ps (λ (b : List ℕ). (b ≡ piece) × IsOctets b))

pub request_segment_message : IsMessage (said_by request_segment) (λ (w : (Nothing × (RequestNumbers × SegmentNumbers)) × (List ℕ × Unit {0})). (word_said 18 w.0.0 ++ (request_said w.0.1.0 ++ segment_said w.0.1.1)) ++ piece_said w.1)
    (SpellsBy request_segment) (Joined (Heads request_segment_front) (Joined AreTheOctets no_octets))
request_segment_message = record {
  of_parts = λ w. (record { invoke = w.0.1.0.0; sa = w.0.1.0.1.0; segs = w.0.1.0.1.1.0; resp = w.0.1.0.1.1.1 }, (w.0.1.1.0, (w.0.1.1.1.0, (w.0.1.1.1.1.0, (w.0.1.1.1.1.1, w.1.0)))));
  parts_of = λ v b spelled. (((_, ((v.0.invoke, (v.0.sa, (v.0.segs, v.0.resp))), (v.1.0, (v.1.1.0, (v.1.1.1.0, v.1.1.1.1.0))))), (v.1.1.1.1.1, tt)), refl);
  said = λ w. refl;
  spelled = λ w. before_piece (request_segment_front w.0) w.1.0;
}

pub ack_segment_message : IsMessage (said_by ack_segment) (λ (w : (Nothing × (ℕ × SegmentNumbers)) × (List ℕ × Unit {0})). (word_said 19 w.0.0 ++ (byte_said 20 w.0.1.0 ++ segment_said w.0.1.1)) ++ piece_said w.1)
    (SpellsBy ack_segment) (Joined (Heads ack_segment_front) (Joined AreTheOctets no_octets))
ack_segment_message = record {
  of_parts = λ w. (w.0.1.0, (w.0.1.1.0, (w.0.1.1.1.0, (w.0.1.1.1.1.0, (w.0.1.1.1.1.1, w.1.0)))));
  parts_of = λ v b spelled. (((_, (v.0, (v.1.0, (v.1.1.0, (v.1.1.1.0, v.1.1.1.1.0))))), (v.1.1.1.1.1, tt)), refl);
  said = λ w. refl;
  spelled = λ w. before_piece (ack_segment_front w.0) w.1.0;
}
