-- Which layout the type of a network message tells.
use Rattle.std.specs.Prelude.{◌≡◌, ℕ, ◌<◌, ◌≤◌, nat_eq, nat_le, cond, Bool, true, false, Option, None, Some, List, [], ◌∷◌, ◌++◌, map, drop, Result, IfOk, IfErr, refl}
use Rattle.std.proofs.Common.{sym, ◌∙◌, ap, subst, lit<, lit≤, append-nil, eqb-true}
use Rattle.std.proofs.lemmas.Bool.{leb-true, leb-false, le-leb, lt-leb, eq-eqb}
use Rattle.std.proofs.lemmas.Result.{IfOk-weaker, IfErr-weaker}
use Rattle.bac_tag.specs.HeadOctets.{Part, octet}
use Rattle.bac_tag.specs.Spelling.{Joins, EndsItself}
use Rattle.bac_productions.specs.Laws.Least.{appends_alike}
use Rattle.bac_npdu_parts.specs.Addresses.{two_octets}
use Rattle.bac_npdu_parts.specs.Messages.{MessageValue, who_is_router, i_am_router, router_busy, router_available, init_table, init_table_ack, disconnect, what_is_network_number, opaque, octets_of, type_of, SpellsMessage, IsMessage}
use Rattle.bac_npdu_parts.specs.MessageTypes.{is_typed, IsVendored}
use Rattle.bac_field_parts.specs.declared.field.Field.{Field}
use Rattle.bac_field_parts.specs.declared.making.Fault.{Fault}
use Rattle.bac_fields.specs.MessageFields.{message_steps}
use Rattle.bac_fields.specs.MessageSymbols.{message_said, Layout, who_is, i_am, busy, available, table, table_ack, disconnecting, number_wanted, plain, vendored, SaidIn, message_in, layout_said, typed_layout, layout_told, type_in, IsOpaqueType}
use Rattle.bac_field_parts.specs.Opaques.{AreTheOctets}
use Rattle.bac_field_parts.specs.Symbols.{Symbol, named, numbered, containing, finished, contents_in, symbols_in, Language, Lawful, Opens, IsStop, Made, IfStop, taken_symbols}
use Rattle.bac_fields.specs.Laws.Among.{numbered_stopped}
use Rattle.bac_field_parts.specs.Laws.Languages.{stop_at_first}
use Rattle.bac_field_parts.specs.Laws.Making.{stop_then}
use Rattle.bac_field_parts.specs.Laws.Messages.{Alike, then_alike, second_alike}
use Rattle.bac_fields.specs.Laws.NetworkMessages.{Exactly, SpellsLaidOut, SpellsPlain, SpellsVendored}
use Rattle.bac_field_parts.specs.Laws.OctetForms.{octets_headed, two_headed}
use Rattle.bac_fields.specs.Laws.Services.{ended, not_first}

abbrev Messages : Unit {0} → List Symbol → Type 0
Messages = Language message_said SpellsMessage

-- ---- the type of a message

-- here and below, the line after those of some messages is that of each other message
pub message_begins : (message : MessageValue) → (rest : List Symbol) × (message_said message ≡ named 40 ∷ numbered (type_of message) ∷ rest)
message_begins (opaque message) = (_, refl)
message_begins _ = (_, refl)

-- ---- the layout of a message

abbrev layout_without : Option ℕ → Layout
layout_without None = plain
layout_without (Some vendor) = vendored

abbrev pub layout_of : MessageValue → Layout
layout_of (opaque message) = layout_without message.vendor
layout_of message = typed_layout (type_of message)

-- a message says something in this layout
abbrev IsSaid : MessageValue → Layout → Type 0
IsSaid message layout = (said : SaidIn layout) × (message_in layout said ≡ message)

said_without : (kind : ℕ) (vendor : Option ℕ) (octets : List ℕ) → IsSaid (opaque (record { kind = kind; vendor = vendor; octets = octets })) (layout_without vendor)
said_without kind None octets = ((kind, octets), refl)
said_without kind (Some vendor) octets = ((kind, (vendor, octets)), refl)

-- the last line is that of each message of two numbers
pub said_in : (message : MessageValue) → IsSaid message (layout_of message)
said_in (who_is_router network) = (network, refl)
said_in (i_am_router networks) = (networks, refl)
said_in (router_busy networks) = (networks, refl)
said_in (router_available networks) = (networks, refl)
said_in (init_table ports) = (ports, refl)
said_in (init_table_ack ports) = (ports, refl)
said_in (disconnect network) = (network, refl)
said_in what_is_network_number = (tt, refl)
said_in (opaque message) = said_without message.kind message.vendor message.octets
said_in _ = ((_, _), refl)

-- ---- the layout that a type tells

told_without : (kind : ℕ) (vendor : Option ℕ) → is_typed kind ≡ false → IsVendored kind vendor → layout_told kind ≡ layout_without vendor
told_without kind None untyped is = ap (λ (b : Bool). cond b (typed_layout kind) (cond (nat_le 128 kind) vendored plain)) untyped ∙ ap (λ (b : Bool). cond b vendored plain) (lt-leb 128 kind is)
told_without kind (Some vendor) untyped is = ap (λ (b : Bool). cond b (typed_layout kind) (cond (nat_le 128 kind) vendored plain)) untyped ∙ ap (λ (b : Bool). cond b vendored plain) (le-leb 128 kind is)

pub layout_is : (message : MessageValue) → IsMessage message → layout_told (type_of message) ≡ layout_of message
layout_is (opaque message) h = told_without message.kind message.vendor h.0 h.1
layout_is _ h = refl

-- ---- all messages

not_nothing : (a : List Symbol) → [] ≡ a → (k : Symbol) (rest : List Symbol) → a ≡ k ∷ rest → ⊥
not_nothing a e k rest is = let clash = e ∙ is in absurd (cc)

message_filled : Messages tt [] → ⊥
message_filled l = let (rest, e) = message_begins l.0 in not_nothing (message_said l.0) l.1.is_said _ _ e

message_longer : (k : Symbol) → Messages tt (k ∷ []) → ⊥
message_longer k l = let (rest, e) = message_begins l.0 in let clash : k ∷ [] ≡ named 40 ∷ numbered (type_of l.0) ∷ rest = l.1.is_said ∙ e in absurd (cc)

message_opens : (es : List Symbol) → Messages tt es → Opens (Some 40 ∷ []) es
message_opens es l = let (rest, e) = message_begins l.0 in record { first = named 40; rest = numbered (type_of l.0) ∷ rest; symbols = l.1.is_said ∙ e; among = refl }

message_ends : EndsItself Messages
message_ends u v b c r s l m e =
    let one = ended (message_steps l.0) (message_steps m.0) r s (ap (λ (x : List Symbol). x ++ r) (sym l.1.is_said) ∙ e ∙ ap (λ (x : List Symbol). x ++ s) m.1.is_said) in
    (l.1.is_said ∙ one.0 ∙ sym m.1.is_said, refl)

-- the first field says the type
type_is : (field : Field) (fields : List Field) (kind : ℕ) → type_in (field ∷ fields) ≡ Some kind → (field.name ≡ 40) × (field.number ≡ kind)
type_is field fields kind is = by (nat_eq field.name 40) refl is
  where
    by : (b : Bool) → nat_eq field.name 40 ≡ b → cond b (Some field.number) None ≡ Some kind → (field.name ≡ 40) × (field.number ≡ kind)
    by true e s = (eqb-true field.name 40 e, cc)
    by false e s = absurd (cc)

-- A message of each layout. The last line is that of each layout of two numbers: both are zero.
sample : (layout : Layout) → (said : SaidIn layout) × ((b : List ℕ) × SpellsMessage (message_in layout said) b)
sample who_is = (None, (0 ∷ [], (tt, ((refl, lit< tt), refl))))
sample i_am = ([], (1 ∷ [], (tt, ((refl, lit< tt), refl))))
sample busy = ([], (4 ∷ [], (tt, ((refl, lit< tt), refl))))
sample available = ([], (5 ∷ [], (tt, ((refl, lit< tt), refl))))
sample table = ([], (6 ∷ 0 ∷ [], (tt, ((refl, lit< tt), ((refl, lit< tt), refl)))))
sample table_ack = (None, (7 ∷ [], (tt, ((refl, lit< tt), refl))))
sample disconnecting = (0, (9 ∷ 0 ∷ 0 ∷ [], (tt, ((refl, lit< tt), ((refl, lit< tt), ((refl, lit< tt), refl))))))
sample number_wanted = (tt, (18 ∷ [], (tt, ((refl, lit< tt), refl))))
sample plain = ((10, []), (10 ∷ [], ((refl, lit< tt), ((refl, lit< tt), refl))))
sample vendored = ((255, (0, [])), (255 ∷ 0 ∷ 0 ∷ [], ((refl, lit≤ tt), ((refl, lit< tt), ((refl, lit< tt), ((refl, lit< tt), refl))))))
sample layout = ((0, 0), (type_of (message_in layout (0, 0)) ∷ 0 ∷ 0 ∷ 0 ∷ [], (tt, ((refl, lit< tt), ((refl, lit< tt), ((refl, lit< tt), ((refl, lit< tt), refl)))))))

pub messages_lawful : Lawful Messages (Some 40 ∷ [])
messages_lawful = record {
  opens = message_opens;
  ends = message_ends;
  some = let (said, (b, spelled)) = sample number_wanted in (layout_said number_wanted said, (message_in number_wanted said, record { octets = b; spelled = spelled; is_said = refl }));
}

-- ---- the messages of a layout

-- the type in its octet, and then the octets of the layout
laid_out : (kind : ℕ) → kind < 256 → (ps : List Part) → Alike (SpellsLaidOut kind ps) (λ b. Unit {0} × Exactly (octet kind ∷ ps) b)
laid_out kind fits ps b = (to, from b)
  where
    to : SpellsLaidOut kind ps b → Unit {0} × Exactly (octet kind ∷ ps) b
    to j = (tt, subst (Exactly (octet kind ∷ ps)) (sym (j.octets ∙ ap (λ (l : List ℕ). l ++ j.back) j.first)) ((refl, fits), j.second))

    from : (b : List ℕ) → Unit {0} × Exactly (octet kind ∷ ps) b → SpellsLaidOut kind ps b
    from [] h = absurd h.1
    from (o ∷ b) h = let same = h.1.0.0 in record { front = o ∷ []; back = b; first = ap (λ (i : ℕ). i ∷ []) same; second = h.1.1; octets = refl }

-- the same where the type has no layout
type_headed : (has_vendor : Bool) (kind : ℕ) (ps : List Part) → Alike (Joins (IsOpaqueType has_vendor kind) (Exactly ps)) (λ b. ((is_typed kind ≡ false) × (nat_le 128 kind ≡ has_vendor)) × Exactly (octet kind ∷ ps) b)
type_headed has_vendor kind ps b = (to, from b)
  where
    to : Joins (IsOpaqueType has_vendor kind) (Exactly ps) b → ((is_typed kind ≡ false) × (nat_le 128 kind ≡ has_vendor)) × Exactly (octet kind ∷ ps) b
    to j = ((j.first.untyped, j.first.vendor), subst (Exactly (octet kind ∷ ps)) (sym (j.octets ∙ ap (λ (l : List ℕ). l ++ j.back) j.first.octet)) ((refl, j.first.fits), j.second))

    from : (b : List ℕ) → ((is_typed kind ≡ false) × (nat_le 128 kind ≡ has_vendor)) × Exactly (octet kind ∷ ps) b → Joins (IsOpaqueType has_vendor kind) (Exactly ps) b
    from [] h = absurd h.1
    from (o ∷ b) h =
        let same = h.1.0.0 in
        record {
          front = o ∷ [];
          back = b;
          first = record { octet = ap (λ (i : ℕ). i ∷ []) same; fits = subst (λ (i : ℕ). i < 256) same h.1.0.1; untyped = h.0.0; vendor = h.0.1 };
          second = h.1.1;
          octets = refl;
        }

octets_exactly : (octets : List ℕ) → Alike (AreTheOctets octets) (Exactly (map octet octets))
octets_exactly octets b = (
  λ h. subst (λ (ps : List Part). Exactly ps b) (append-nil (map octet octets)) ((octets_headed [] (λ rest. rest ≡ []) octets b).0 (record { front = b; back = []; first = h; second = refl; octets = sym (append-nil b) })),
  λ h. (let j = (octets_headed [] (λ rest. rest ≡ []) octets b).1 (subst (λ (ps : List Part). Exactly ps b) (sym (append-nil (map octet octets))) h) in
      subst (AreTheOctets octets) (sym (j.octets ∙ ap (λ (l : List ℕ). j.front ++ l) j.second ∙ append-nil j.front)) j.first),
)

small : (kind : ℕ) → nat_le 128 kind ≡ false → kind < 128
small kind e = leb-false 128 kind e

large : (kind : ℕ) → nat_le 128 kind ≡ true → 128 ≤ kind
large kind e = leb-true 128 kind e

plain_alike : (said : ℕ × List ℕ) → Alike (SpellsPlain said) (SpellsMessage (message_in plain said))
plain_alike said =
    then_alike (then_alike (second_alike (octets_exactly said.1)) (type_headed false said.0 (map octet said.1)))
    (λ b. (λ h. ((h.0.0, small said.0 h.0.1), h.1), λ h. ((h.0.0, lt-leb 128 said.0 h.0.1), h.1)))

vendored_alike : (said : ℕ × (ℕ × List ℕ)) → Alike (SpellsVendored said) (SpellsMessage (message_in vendored said))
vendored_alike said =
    then_alike (then_alike (second_alike (then_alike (second_alike (octets_exactly said.1.1)) (two_headed (map octet said.1.1) (λ rest. rest ≡ []) said.1.0))) (type_headed true said.0 (two_octets said.1.0 ++ map octet said.1.1)))
    (λ b. (λ h. ((h.0.0, large said.0 h.0.1), h.1), λ h. ((h.0.0, le-leb 128 said.0 h.0.1), h.1)))

-- The octets of the messages of a layout: the type, and what follows it.
abbrev pub SpellsIn : (layout : Layout) → SaidIn layout → List ℕ → Type 0
SpellsIn plain said = SpellsPlain said
SpellsIn vendored said = SpellsVendored said
SpellsIn layout said = SpellsLaidOut (type_of (message_in layout said)) (drop 1 (octets_of (message_in layout said)))

pub alike : (layout : Layout) (said : SaidIn layout) → Alike (SpellsIn layout said) (SpellsMessage (message_in layout said))
alike plain said = plain_alike said
alike vendored said = vendored_alike said
alike layout said = laid_out (type_of (message_in layout said)) (lit< tt) (drop 1 (octets_of (message_in layout said)))

module _ (layout : Layout) where
  layout_to : (es : List Symbol) → Language (layout_said layout) (SpellsIn layout) tt es → Messages tt es
  layout_to es l = (message_in layout l.0, record { octets = l.1.octets; spelled = (alike layout l.0 l.1.octets).0 l.1.spelled; is_said = l.1.is_said })

  layout_from : (kind : ℕ) → layout_told kind ≡ layout → (rest : List Symbol) → Messages tt (named 40 ∷ numbered kind ∷ rest) → Language (layout_said layout) (SpellsIn layout) tt (named 40 ∷ numbered kind ∷ rest)
  layout_from kind told rest l =
      let (more, begins) = message_begins l.0 in
      let whole : named 40 ∷ numbered kind ∷ rest ≡ named 40 ∷ numbered (type_of l.0) ∷ more = l.1.is_said ∙ begins in
      let number : type_of l.0 ≡ kind = cc in
      let same : layout_of l.0 ≡ layout = sym (layout_is l.0 l.1.spelled.0) ∙ ap layout_told number ∙ told in
      let (said, is) = subst (λ (i : Layout). IsSaid l.0 i) same (said_in l.0) in
      (said, record { octets = l.1.octets; spelled = (alike layout said l.1.octets).1 (subst (λ (x : MessageValue). SpellsMessage x l.1.octets) (sym is) l.1.spelled); is_said = l.1.is_said ∙ ap message_said (sym is) })

  layout_some : (rest : List Symbol) × Language (layout_said layout) (SpellsIn layout) tt (named 40 ∷ rest)
  layout_some =
      let (said, (b, spelled)) = sample layout in
      let (rest, begins) = message_begins (message_in layout said) in
      (numbered (type_of (message_in layout said)) ∷ rest, (said, record { octets = b; spelled = (alike layout said b).1 spelled; is_said = sym begins }))

  made_as : (es : List Symbol) (n : ℕ) (old new : List ℕ) → Made (layout_said layout) (SpellsIn layout) es n old new → Made message_said SpellsMessage es n old new
  made_as es n old new m = record { value = message_in layout m.value; within = m.within; is_said = m.is_said; appended = appends_alike (alike layout m.value) m.appended }

  stopped_at : (octets : List ℕ) (fields : List Field) (kind : ℕ) → type_in fields ≡ Some kind → layout_told kind ≡ layout → (p : ℕ) → IsStop (Language (layout_said layout) (SpellsIn layout)) (symbols_in octets fields) p → IsStop Messages (symbols_in octets fields) p
  stopped_at octets [] kind is told p stop = absurd (cc)
  stopped_at octets (field ∷ fields) kind is told p stop =
      let (name_is, number_is) = type_is field fields kind is in
      let there : symbols_in octets (field ∷ fields) ≡ named 40 ∷ numbered kind ∷ (containing (contents_in octets field) ∷ symbols_in octets fields) =
      ap (λ (n : ℕ). named n ∷ numbered field.number ∷ (containing (contents_in octets field) ∷ symbols_in octets fields)) name_is
      ∙ ap (λ (n : ℕ). named 40 ∷ numbered n ∷ (containing (contents_in octets field) ∷ symbols_in octets fields)) number_is in
      subst (λ (es : List Symbol). IsStop Messages es p) (sym there)
      (numbered_stopped (layout_said layout) (SpellsIn layout) message_said SpellsMessage 40 kind layout_to (layout_from kind told) layout_some message_filled message_longer _ p
      (subst (λ (es : List Symbol). IsStop (Language (layout_said layout) (SpellsIn layout)) es p) there stop))

  -- what makes a message of a layout makes a message
  pub layout_made : (es : List Symbol) (old new : List ℕ) (result : Result ℕ Fault) → IfOk result (λ taken. Made (layout_said layout) (SpellsIn layout) es (taken_symbols true taken) old new) → IfOk result (λ taken. Made message_said SpellsMessage es (taken_symbols true taken) old new)
  layout_made es old new result made = IfOk-weaker result _ _ (λ taken. made_as es (taken_symbols true taken) old new) made

  -- and what stops the messages of a layout stops them all
  pub layout_stopped : (octets : List ℕ) (fields : List Field) (kind : ℕ) → type_in fields ≡ Some kind → layout_told kind ≡ layout → (result : Result ℕ Fault)
      → IfErr result (λ fault. IfStop fault (IsStop (Language (layout_said layout) (SpellsIn layout)) (symbols_in octets fields))) → IfErr result (λ fault. IfStop fault (IsStop Messages (symbols_in octets fields)))
  layout_stopped octets fields kind is told result stopped = IfErr-weaker result _ _ (λ fault. stop_then fault _ _ (λ p. stopped_at octets fields kind is told p)) stopped

-- ---- other types, and other names

pub message_other_name : (octets : List ℕ) (fields : List Field) → type_in fields ≡ None → IsStop Messages (symbols_in octets fields) 0
message_other_name octets [] e = stop_at_first Messages (Some 40 ∷ []) messages_lawful finished [] (λ h. absurd (cc))
message_other_name octets (field ∷ fields) e = stop_at_first Messages (Some 40 ∷ []) messages_lawful (named field.name) _ (not_first 40 field.name [] other (λ h. absurd (cc)))
  where
    other : field.name ≡ 40 → ⊥
    other is = let e2 : cond true (Some field.number) None ≡ None = ap (λ (b : Bool). cond b (Some field.number) None) (sym (eq-eqb field.name 40 is)) ∙ e in absurd (cc)

pub told_opaque : (has_vendor : Bool) (kind : ℕ) → is_typed kind ≡ false → nat_le 128 kind ≡ has_vendor → layout_told kind ≡ cond has_vendor vendored plain
told_opaque has_vendor kind none is = ap (λ (b : Bool). cond b (typed_layout kind) (cond (nat_le 128 kind) vendored plain)) none ∙ ap (λ (b : Bool). cond b vendored plain) is
