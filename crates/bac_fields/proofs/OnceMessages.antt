-- The fields of a network message tell it.
use Rattle.std.specs.Prelude.{◌≡◌, ℕ, Option, Some, List, [], ◌∷◌, ◌++◌, refl}
use Rattle.std.proofs.Common.{sym, ◌∙◌, ap, subst}
use Rattle.bac_npdu_parts.specs.Messages.{MessageValue, type_of, SpellsMessage}
use Rattle.bac_fields.specs.MessageSymbols.{message_said, Layout, who_is, i_am, busy, available, table, table_ack, disconnecting, number_wanted, plain, vendored, SaidIn, message_in, layout_said, layout_told}
use Rattle.bac_field_parts.specs.Symbols.{no_number, no_octet_number, no_octets, number_said, contents_said}
use Rattle.bac_field_parts.specs.Tables.{SpellsTable}
use Rattle.bac_fields.specs.Laws.Layouts.{message_begins, layout_of, said_in, layout_is, SpellsIn, alike}
use Rattle.bac_fields.specs.Laws.NetworkMessages.{who_is_router_message, networks_said, SpellsNetworks, networks_message, disconnect_message, number_wanted_message, port_said, SpellsPort, port_message, table_parts_said, SpellsTableParts, init_table_message, init_table_ack_message, plain_message, vendored_message}
use Rattle.bac_field_parts.specs.Laws.Parts.{list_said}
use Rattle.bac_fields.proofs.Once.{Telling, held_tells, end_tells, spelled_by, and_then, perhaps, each, by_parts}
use Rattle.bac_fields.proofs.OnceItems.{word, plain as number}
use Rattle.bac_fields.proofs.OnceServices.{number_at}

-- ---- parts

octets : {S : List ℕ → List ℕ → Type 0} (name : ℕ) → Telling (contents_said name no_octet_number (λ v. v)) S (Some name ∷ [])
octets name = held_tells name (λ v w b c h k n e. e)

port_tells : Telling port_said SpellsPort (Some 115 ∷ [])
port_tells = by_parts port_message (and_then (word 115) (and_then (number 41) (and_then (number 46) (and_then (octets 47) (word 116)))))

ports_tell : Telling (list_said port_said (number_said 114 no_number) SpellsPort no_octets) (SpellsTable SpellsPort no_octets) (Some 115 ∷ Some 114 ∷ [])
ports_tell = spelled_by (λ v b h. (h.back, h.second)) (each port_tells (word 114) refl)

table_tells : Telling table_parts_said SpellsTableParts (Some 45 ∷ [])
table_tells = and_then (word 45) ports_tell

networks_tell : (kind : ℕ) → Telling (networks_said kind) (SpellsNetworks kind) (Some 40 ∷ [])
networks_tell kind = by_parts (networks_message kind) (and_then (word 40) (and_then (word 42) (each (number 43) (and_then (word 114) end_tells) refl)))

-- ---- of one layout

laid : (layout : Layout) {leads : List (Option ℕ)} → Telling (layout_said layout) (SpellsIn layout) leads
    → (v w : SaidIn layout) (b c : List ℕ) → SpellsMessage (message_in layout v) b → SpellsMessage (message_in layout w) c → layout_said layout v ≡ layout_said layout w → v ≡ w
laid layout t v w b c h j e = t.once v w b c [] [] ((alike layout v b).1 h) ((alike layout w c).1 j) (ap (λ l. l ++ []) e)

two_same : (v w : ℕ × ℕ) → v.0 ≡ w.0 → v.1 ≡ w.1 → v ≡ w
two_same v w e f = λ i. (e i, f i)

-- the last line is that of each layout of two numbers, in the fields after that of the type
layout_same : (layout : Layout) (v w : SaidIn layout) (b c : List ℕ) → SpellsMessage (message_in layout v) b → SpellsMessage (message_in layout w) c → layout_said layout v ≡ layout_said layout w → v ≡ w
layout_same who_is = laid who_is (by_parts who_is_router_message (and_then (word 40) (perhaps (number 41) end_tells refl)))
layout_same i_am = laid i_am (networks_tell 1)
layout_same busy = laid busy (networks_tell 4)
layout_same available = laid available (networks_tell 5)
layout_same table = laid table (by_parts init_table_message (and_then (word 40) (and_then table_tells end_tells)))
layout_same table_ack = laid table_ack (by_parts init_table_ack_message (and_then (word 40) (perhaps table_tells end_tells refl)))
layout_same disconnecting = laid disconnecting (by_parts disconnect_message (and_then (word 40) (and_then (number 41) end_tells)))
layout_same number_wanted = laid number_wanted (by_parts number_wanted_message (and_then (word 40) end_tells))
layout_same plain = laid plain (by_parts plain_message (and_then (number 40) (and_then (octets 51) end_tells)))
layout_same vendored = laid vendored (by_parts vendored_message (and_then (number 40) (and_then (number 50) (and_then (octets 51) end_tells))))
layout_same _ = λ v w b c h j e. two_same v w (ap (number_at 1) e) (ap (number_at 2) e)

-- ---- of any layout

across : (l m : Layout) (same : l ≡ m) (v : SaidIn l) (w : SaidIn m) (b c : List ℕ) → SpellsMessage (message_in l v) b → SpellsMessage (message_in m w) c → layout_said l v ≡ layout_said m w → message_in l v ≡ message_in m w
across l m same v w b c h =
    subst (λ (m : Layout). (w : SaidIn m) → SpellsMessage (message_in m w) c → layout_said l v ≡ layout_said m w → message_in l v ≡ message_in m w) same (λ w j e. ap (message_in l) (layout_same l v w b c h j e)) w

pub message_same : (m n : MessageValue) (b c : List ℕ) → SpellsMessage m b → SpellsMessage n c → message_said m ≡ message_said n → m ≡ n
message_same m n b c h j e =
    let (v, is) = said_in m in
    let (w, are) = said_in n in
    let types : type_of m ≡ type_of n = sym (ap (number_at 0) (message_begins m).1) ∙ ap (number_at 0) e ∙ ap (number_at 0) (message_begins n).1 in
    let layouts : layout_of m ≡ layout_of n = sym (layout_is m h.0) ∙ ap layout_told types ∙ layout_is n j.0 in
    let whole : layout_said (layout_of m) v ≡ layout_said (layout_of n) w = ap message_said is ∙ e ∙ ap message_said (sym are) in
    sym is ∙ across (layout_of m) (layout_of n) layouts v w b c (subst (λ x. SpellsMessage x b) (sym is) h) (subst (λ x. SpellsMessage x c) (sym are) j) whole ∙ are
