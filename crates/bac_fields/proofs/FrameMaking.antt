-- A frame is made of its head and its body.
use Rattle.std.specs.Prelude.{not, ◌==◌, ◌≡◌, ℕ, ◌+◌, ◌-◌, ◌*◌, ◌<◌, ◌≤◌, Bool, true, false, nat_eq, IsTrue, Option, None, Some, List, [], ◌∷◌, ◌++◌, length, take, drop, Result, Ok, Err, OnOk, refl}
use Rattle.std.specs.Option.{option_eq, option_map_or}
use Rattle.std.specs.Result.{is_err}
use Rattle.std.proofs.Common.{sym, ◌∙◌, ap, subst, arith, get_or, append_assoc, eqb-true, lit<, lit≤}
use Rattle.std.proofs.Math.Seq.{take-append-add}
use Rattle.std.proofs.lemmas.List.{length-drop, take-append-drop, length-take-le, take_rest, drop-drop}
use Rattle.std.proofs.lemmas.Bool.{or_left}
use Rattle.std.proofs.lemmas.Bool.Decides.{nat_tests}
use Rattle.bac_tag.specs.Spelling.{AppendsLeast}
use Rattle.bac_npdu_parts.specs.declared.frame_head.Addressed.{Addressed}
use Rattle.bac_npdu_parts.specs.declared.frame_head.DestRef.{DestRef}
use Rattle.bac_npdu_parts.specs.Addresses.{SourceValue, destination_octets, source_octets, hops_octets}
use Rattle.bac_npdu_parts.specs.Control.{least_control}
use Rattle.bac_npdu_parts.specs.FrameHeads.{address_read, destination_read}
use Rattle.bac_npdu_parts.specs.Frames.{BodyValue, apdu, message, SpellsBody, SpellsFrame, is_message, is_there}
use Rattle.bac_npdu_parts.proofs.FrameLemmas.{least_before, appends_frame}
use Rattle.bac_apdu.specs.Apdus.{SpellsApdu}
use Rattle.bac_npdu_parts.specs.Messages.{SpellsMessage}
use Rattle.bac_field_parts.specs.declared.field.Field.{Field}
use Rattle.bac_fields.specs.declared.frame_heads.Front.{Front}
use Rattle.bac_field_parts.specs.declared.making.Fault.{Fault}
use Rattle.bac_fields.specs.ApduSymbols.{apdu_said}
use Rattle.bac_fields.specs.MessageSymbols.{message_said}
use Rattle.bac_fields.specs.FrameFronts.{front_said}
use Rattle.bac_fields.specs.FrameSymbols.{frame_said, body_said, HeadSaid, HeadFits, head_said, IfThere, destination_parts, frame_of_parts, address_said, address_fits, hops_fit, destination_said, destination_fits, destination_leads, source_said, source_fits, source_leads, control_said, control_fits, IsOptionalRead, IsLedStop, IsHeadOf, MadeAfter}
use Rattle.bac_field_parts.specs.Symbols.{Symbol, symbols_in, taken_symbols, lead_in, has, number_said, Read, Unwritten, Made, Language, Lawful, IsStop, IfStop, behind}
use Rattle.bac_fields.specs.Laws.Frames.{head_spelled, address_lawful, destination_lawful, source_lawful, body_lawful, body_leads, from_source_said, FromSource, from_source_lawful, control_stops, optional_stops, optional_stopped}
use Rattle.bac_field_parts.specs.Laws.Making.{symbols_after, symbols_length, stop_then, stop_behind}
use Rattle.bac_field_parts.specs.Laws.Numbers.{number_lawful, numbers_stop_first, numbers_stop_second, read_behind}

-- ---- what the octets before the body are

pub on_ok : {T E P : Type 0} (r : Result T E) → false ≡ is_err r → OnOk r P → P
on_ok (Ok x) e h = h
on_ok (Err x) e h = absurd (cc)

pub is_forty : (n : Option ℕ) → true ≡ option_eq nat_eq n (Some 40) → n ≡ Some 40
is_forty None e = absurd (cc)
is_forty (Some n) e = ap Some (eqb-true n 40 (sym e))

pub not_forty : (n : Option ℕ) → false ≡ option_eq nat_eq n (Some 40) → n ≡ Some 40 → ⊥
not_forty n e same = let clash : false ≡ option_eq nat_eq (Some 40) (Some 40) = e ∙ ap (λ (m : Option ℕ). option_eq nat_eq m (Some 40)) same in absurd (cc)

module _ (reply : Bool) (priority : ℕ) (body : BodyValue) (old : List ℕ) where
  front_is : (to : Option DestRef) (from : Option Addressed)
      → old ++ 1 ∷ least_control (is_message body) (is_there to) (is_there from) reply priority ∷ (destination_octets (destination_read to) ++ (source_octets (address_read from) ++ hops_octets (destination_read to)))
      ≡ old ++ least_before (frame_of_parts ((priority, reply), (destination_parts to, address_read from)) body)
  front_is None None = refl
  front_is None (Some from) = refl
  front_is (Some to) None = refl
  front_is (Some to) (Some from) = refl

module _ (front : Front) (fits : HeadFits (front_said front)) (body : BodyValue) (old mid new : List ℕ) (small : (k : ℕ) (d : ℕ) → k < length new → get_or new k d < 256)
    (written : mid ≡ old ++ 1 ∷ least_control (is_message body) (is_there front.to) (is_there front.from) front.reply front.priority ∷ (destination_octets (destination_read front.to) ++ (source_octets (address_read front.from) ++ hops_octets (destination_read front.to)))) where
  pub appends_after : AppendsLeast (SpellsBody body) mid new → AppendsLeast (SpellsFrame (frame_of_parts (front_said front) body)) old new
  appends_after L =
      appends_frame (frame_of_parts (front_said front) body) old mid new small (head_spelled (destination_parts front.to) (address_read front.from) fits.1.0 fits.1.1).1 fits.0.0
      (written ∙ front_is front.reply front.priority body old front.to front.from) L

module _ (front : Front) (fits : HeadFits (front_said front)) (es : List Symbol) (n : ℕ) (old mid new : List ℕ) (small : (k : ℕ) (d : ℕ) → k < length new → get_or new k d < 256) where
  pub message_after : mid ≡ old ++ 1 ∷ least_control true (is_there front.to) (is_there front.from) front.reply front.priority ∷ (destination_octets (destination_read front.to) ++ (source_octets (address_read front.from) ++ hops_octets (destination_read front.to)))
      → Made message_said SpellsMessage es n mid new → MadeAfter (front_said front) es n old new
  message_after written m = record { body = message m.value; within = m.within; is_said = m.is_said; appended = appends_after front fits (message m.value) old mid new small written m.appended }

  pub apdu_after : mid ≡ old ++ 1 ∷ least_control false (is_there front.to) (is_there front.from) front.reply front.priority ∷ (destination_octets (destination_read front.to) ++ (source_octets (address_read front.from) ++ hops_octets (destination_read front.to)))
      → Made apdu_said SpellsApdu es n mid new → MadeAfter (front_said front) es n old new
  apdu_after written m = record { body = apdu m.value; within = m.within; is_said = m.is_said; appended = appends_after front fits (apdu m.value) old mid new small written m.appended }

-- ---- the head and the body

-- what a frame says is what its head says, and then its body
head_first : (c : ℕ × Bool) (d : Option (SourceValue × ℕ)) (s : Option SourceValue) (body : BodyValue) → frame_said (frame_of_parts (c, (d, s)) body) ≡ head_said (c, (d, s)) ++ body_said body
head_first c None None body = refl
head_first c None (Some s) body = refl
head_first c (Some d) None body = refl
head_first c (Some d) (Some s) body = refl

module _ (octets : List ℕ) (fields : List Field) (h : HeadSaid) (n : ℕ) (H : IsHeadOf octets fields n h) where
  -- the symbols after the head
  after : symbols_in octets (take (length fields - n) (drop n fields)) ≡ drop (3 * n) (symbols_in octets fields)
  after = ap (symbols_in octets) (take_rest fields n) ∙ sym (symbols_after octets fields n H.within)

  pub frame_made : (m : ℕ) (old new : List ℕ) → MadeAfter h (symbols_in octets (take (length fields - n) (drop n fields))) (taken_symbols true m) old new → Made frame_said SpellsFrame (symbols_in octets fields) (taken_symbols true (n + m)) old new
  frame_made m old new b =
      let es = symbols_in octets fields in
      let long : 3 * n ≤ length es = omega (arith, H.within, symbols_length octets fields) in
      let front : length (take (3 * n) es) ≡ 3 * n = length-take-le (3 * n) es long in
      let sum : 3 * (n + m) + 1 ≡ 3 * n + (3 * m + 1) = omega arith in
      let parts : take (3 * (n + m) + 1) es ≡ take (3 * n) es ++ take (3 * m + 1) (drop (3 * n) es) =
      ap (λ (k : ℕ). take k es) sum ∙ ap (λ (l : List Symbol). take (3 * n + (3 * m + 1)) l) (sym (take-append-drop (3 * n) es)) ∙ ap (λ (k : ℕ). take (k + (3 * m + 1)) (take (3 * n) es ++ drop (3 * n) es)) (sym front)
      ∙ take-append-add (take (3 * n) es) (drop (3 * n) es) (3 * m + 1) in
      record {
        value = frame_of_parts h b.body;
        within = omega (arith, b.within, long, ap length after, length-drop (3 * n) es);
        is_said = parts ∙ ap (λ (l : List Symbol). l ++ take (3 * m + 1) (drop (3 * n) es)) H.is_said ∙ ap (λ (l : List Symbol). head_said h ++ take (3 * m + 1) l) (sym after) ∙ ap (λ (l : List Symbol). head_said h ++ l) b.is_said ∙ sym (head_first h.0 h.1.0 h.1.1 b.body);
        appended = b.appended;
      }

-- ---- the parts of the head

pub led : (m : ℕ) (n : Option ℕ) → false ≡ not (option_eq nat_eq n (Some m)) → IsTrue (has (Some m ∷ []) n)
led m None e = absurd (cc)
led m (Some n) e =
    let same : n ≡ m = eqb-true n m (not_false (nat_eq n m) (sym e)) in
    subst (λ (k : ℕ). IsTrue (has (Some m ∷ []) (Some k))) (sym same) (or_left (m == m) false (grind (arith, nat_tests)))
  where
    not_false : (b : Bool) → not b ≡ false → b ≡ true
    not_false true h = refl
    not_false false h = absurd (cc)

hops_lawful : Lawful (Language (number_said 4 (λ n. n)) (Unwritten hops_fit)) (Some 4 ∷ [])
hops_lawful = number_lawful 4 (λ n. n) hops_fit (0, lit< tt)

module _ (octets : List ℕ) (fields : List Field) where
  pub address_stops : (fault : Fault) → IsTrue (has destination_leads (lead_in fields)) → IfStop fault (IsStop (Language (address_said 3) (Unwritten (address_fits 0))) (symbols_in octets fields)) → IfStop fault (IsLedStop destination_said destination_fits destination_leads octets fields)
  address_stops fault leads stop = stop_then fault _ _ (λ p s. (leads, numbers_stop_first (address_said 3) (number_said 4 (λ n. n)) (address_fits 0) hops_fit destination_leads (Some 4 ∷ []) (address_lawful 3 0 (lit≤ tt)) hops_lawful (symbols_in octets fields) p s)) stop

  module _ (a : SourceValue) (some : 1 ≤ length fields) (leads : IsTrue (has destination_leads (lead_in fields))) (read : Read (address_said 3) (address_fits 0) (symbols_in octets fields) 3 a) where
    pub hops_stop : (fault : Fault) → IfStop fault (IsStop (Language (number_said 4 (λ n. n)) (Unwritten hops_fit)) (symbols_in octets (take (length fields - 1) (drop 1 fields)))) → IfStop (behind 1 fault) (IsLedStop destination_said destination_fits destination_leads octets fields)
    hops_stop fault stop =
        stop_then (behind 1 fault) _ _ (λ p s. (leads, s)) (numbers_stop_second (address_said 3) (number_said 4 (λ n. n)) (address_fits 0) hops_fit destination_leads (Some 4 ∷ []) (address_lawful 3 0 (lit≤ tt)) hops_lawful octets fields 1 a fault some read stop)

    pub destination_read_so : (n hops : ℕ) → n ≤ length (take (length fields - 1) (drop 1 fields)) → Read (number_said 4 (λ n. n)) hops_fit (symbols_in octets (take (length fields - 1) (drop 1 fields))) (3 * n) hops
        → IsOptionalRead destination_said destination_fits destination_leads octets fields (Some (a, hops)) (1 + n)
    destination_read_so n hops within second = (
      omega (arith, some, within, ap length (take_rest fields 1), length-drop 1 fields),
      (leads, read_behind (address_said 3) (number_said 4 (λ n. n)) (address_fits 0) hops_fit octets fields 1 n a hops some read second),
    )

-- ---- one part of the head after the other

take_more : (octets : List ℕ) (fields : List Field) (m n : ℕ) → m ≤ length fields → take (3 * (m + n)) (symbols_in octets fields) ≡ take (3 * m) (symbols_in octets fields) ++ take (3 * n) (symbols_in octets (drop m fields))
take_more octets fields m n within =
    let es = symbols_in octets fields in
    let long : 3 * m ≤ length es = omega (arith, within, symbols_length octets fields) in
    let front : length (take (3 * m) es) ≡ 3 * m = length-take-le (3 * m) es long in
    let sum : 3 * (m + n) ≡ 3 * m + 3 * n = omega arith in
    ap (λ (k : ℕ). take k es) sum ∙ ap (λ (l : List Symbol). take (3 * m + 3 * n) l) (sym (take-append-drop (3 * m) es)) ∙ ap (λ (k : ℕ). take (k + 3 * n) (take (3 * m) es ++ drop (3 * m) es)) (sym front)
    ∙ take-append-add (take (3 * m) es) (drop (3 * m) es) (3 * n) ∙ ap (λ (l : List Symbol). take (3 * m) es ++ take (3 * n) l) (symbols_after octets fields m within)

module _ {V : Type 0} (f : V → List Symbol) (F : V → Type 0) (leads : List (Option ℕ)) (octets : List ℕ) (fields : List Field) where
  optional_within : (v : Option V) (n : ℕ) → IsOptionalRead f F leads octets fields v n → n ≤ length fields
  optional_within None n read = omega (arith, read.0)
  optional_within (Some v) n read = read.0

  optional_said : (v : Option V) (n : ℕ) → IsOptionalRead f F leads octets fields v n → take (3 * n) (symbols_in octets fields) ≡ option_map_or f v []
  optional_said None n read = ap (λ (k : ℕ). take (3 * k) (symbols_in octets fields)) read.0
  optional_said (Some v) n read = read.1.1.is_said

  optional_fits : (v : Option V) (n : ℕ) → IsOptionalRead f F leads octets fields v n → IfThere F v
  optional_fits None n read = tt
  optional_fits (Some v) n read = read.1.1.in_range

module _ (octets : List ℕ) (fields : List Field) (c : ℕ × Bool) (first : ℕ) (within : first ≤ length fields) (control : Read control_said control_fits (symbols_in octets fields) (3 * first) c) where
  pub destination_stopped : (fault : Fault) → IfStop fault (IsLedStop destination_said destination_fits destination_leads octets (take (length fields - first) (drop first fields))) → IfStop (behind first fault) (IsStop (Language frame_said SpellsFrame) (symbols_in octets fields))
  destination_stopped fault stop = stop_behind fault first _ _ (λ p s. stopped p (subst (λ (l : List Field). IsLedStop destination_said destination_fits destination_leads octets l p) (take_rest fields first) s)) stop
    where
      stopped : (p : ℕ) → IsLedStop destination_said destination_fits destination_leads octets (drop first fields) p → IsStop (Language frame_said SpellsFrame) (symbols_in octets fields) (3 * first + p)
      stopped p s = control_stops octets fields first c within control p
          (optional_stopped destination_said destination_fits from_source_said FromSource destination_leads (source_leads ++ body_leads) destination_lawful from_source_lawful refl octets (drop first fields) p s.0 s.1)

  module _ (d : Option (SourceValue × ℕ)) (second : ℕ) (to : IsOptionalRead destination_said destination_fits destination_leads octets (take (length fields - first) (drop first fields)) d second) where
    there : IsOptionalRead destination_said destination_fits destination_leads octets (drop first fields) d second
    there = subst (λ (l : List Field). IsOptionalRead destination_said destination_fits destination_leads octets l d second) (take_rest fields first) to

    pub both_within : first + second ≤ length fields
    both_within = omega (arith, within, optional_within destination_said destination_fits destination_leads octets (drop first fields) d second there, length-drop first fields)

    -- what stops after both
    both_stop : (p : ℕ) → IsStop (Language from_source_said FromSource) (symbols_in octets (drop (first + second) fields)) p → IsStop (Language frame_said SpellsFrame) (symbols_in octets fields) (3 * (first + second) + p)
    both_stop p stop =
        let behind_both = subst (λ (l : List Field). IsStop (Language from_source_said FromSource) (symbols_in octets l) p) (sym (drop-drop second first fields)) stop in
        let at_destination = optional_stops destination_said destination_fits from_source_said FromSource destination_leads (source_leads ++ body_leads) destination_lawful from_source_lawful refl octets (drop first fields) d second there p behind_both in
        subst (λ (k : ℕ). IsStop (Language frame_said SpellsFrame) (symbols_in octets fields) k) (omega arith) (control_stops octets fields first c within control (3 * second + p) at_destination)

    pub source_stopped : (fault : Fault) → IfStop fault (IsLedStop source_said source_fits source_leads octets (take (length fields - (first + second)) (drop (first + second) fields)))
        → IfStop (behind (first + second) fault) (IsStop (Language frame_said SpellsFrame) (symbols_in octets fields))
    source_stopped fault stop = stop_behind fault (first + second) _ _ (λ p s. stopped p (subst (λ (l : List Field). IsLedStop source_said source_fits source_leads octets l p) (take_rest fields (first + second)) s)) stop
      where
        stopped : (p : ℕ) → IsLedStop source_said source_fits source_leads octets (drop (first + second) fields) p → IsStop (Language frame_said SpellsFrame) (symbols_in octets fields) (3 * (first + second) + p)
        stopped p s = both_stop p (optional_stopped source_said source_fits body_said SpellsBody source_leads body_leads source_lawful body_lawful refl octets (drop (first + second) fields) p s.0 s.1)

    module _ (s : Option SourceValue) (third : ℕ) (from : IsOptionalRead source_said source_fits source_leads octets (take (length fields - (first + second)) (drop (first + second) fields)) s third) where
      last : IsOptionalRead source_said source_fits source_leads octets (drop (first + second) fields) s third
      last = subst (λ (l : List Field). IsOptionalRead source_said source_fits source_leads octets l s third) (take_rest fields (first + second)) from

      pub head_of : IsHeadOf octets fields ((first + second) + third) (c, (d, s))
      head_of = record {
        within = omega (arith, both_within, optional_within source_said source_fits source_leads octets (drop (first + second) fields) s third last, length-drop (first + second) fields);
        is_said = take_more octets fields (first + second) third both_within ∙ ap (λ (l : List Symbol). l ++ take (3 * third) (symbols_in octets (drop (first + second) fields))) (take_more octets fields first second within)
            ∙ ap (λ (l : List Symbol). (take (3 * first) (symbols_in octets fields) ++ take (3 * second) (symbols_in octets (drop first fields))) ++ l) (optional_said source_said source_fits source_leads octets (drop (first + second) fields) s third last)
            ∙ ap (λ (l : List Symbol). (take (3 * first) (symbols_in octets fields) ++ l) ++ option_map_or source_said s []) (optional_said destination_said destination_fits destination_leads octets (drop first fields) d second there)
            ∙ ap (λ (l : List Symbol). (l ++ option_map_or destination_said d []) ++ option_map_or source_said s []) control.is_said
            ∙ append_assoc (control_said c) (option_map_or destination_said d []) (option_map_or source_said s []);
        fits = (control.in_range, (optional_fits destination_said destination_fits destination_leads octets (drop first fields) d second there, optional_fits source_said source_fits source_leads octets (drop (first + second) fields) s third last));
        stops = λ p stop.
            let behind_all = subst (λ (l : List Field). IsStop (Language body_said SpellsBody) (symbols_in octets l) p) (sym (drop-drop third (first + second) fields)) stop in
            let at_source = optional_stops source_said source_fits body_said SpellsBody source_leads body_leads source_lawful body_lawful refl octets (drop (first + second) fields) s third last p behind_all in
            subst (λ (k : ℕ). IsStop (Language frame_said SpellsFrame) (symbols_in octets fields) k) (omega arith) (both_stop (3 * third + p) at_source);
      }
