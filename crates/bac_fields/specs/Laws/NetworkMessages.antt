-- Network messages as their parts.
use Rattle.std.specs.Prelude.{◌≡◌, ℕ, Bool, true, false, Option, None, Some, List, [], ◌∷◌, ◌++◌, length, refl}
use Rattle.std.specs.List.{flat_map}
use Rattle.std.specs.Option.{option_map, option_map_or}
use Rattle.std.proofs.Common.{◌∙◌, ap, lit<, append_assoc}
use Rattle.bac_tag.specs.HeadOctets.{Part, octet, Headed}
use Rattle.bac_tag.specs.Spelling.{Joins, Joined}
use Rattle.bac_productions.specs.Productions.{Items, Optional, IsInhabited}
use Rattle.bac_npdu_parts.specs.Addresses.{two_octets, counted}
use Rattle.bac_npdu_parts.specs.declared.messages.port.Port.{Port}
use Rattle.bac_npdu_parts.specs.Messages.{networks_of, network_or_none, ports_of, table_of, table_or_none}
use Rattle.bac_field_parts.specs.declared.names.Name.{Name}
use Rattle.bac_field_parts.specs.declared.names.Name.TheVariants as name
use Rattle.bac_field_parts.specs.Fields.{Step, next, item_steps, word}
use Rattle.bac_fields.specs.MessageFields.{listed_network_steps, networks_steps, port_steps, ports_steps, type_step}
use Rattle.bac_fields.specs.MessageSymbols.{who_is, reject, table, table_ack, disconnecting, number_wanted, plain, vendored, layout_said, IsOpaqueType}
use Rattle.bac_field_parts.specs.Names.{number_of}
use Rattle.bac_field_parts.specs.OctetForms.{IsOneOctet, AreTwoOctets, AreCounted}
use Rattle.bac_field_parts.specs.Opaques.{AreTheOctets}
use Rattle.bac_field_parts.specs.Symbols.{Symbol, finished, IsMessage, Language, Lawful, the_octet, the_number, no_number, no_octet_number, no_octets, number_said, contents_said, end_said, steps_said}
use Rattle.bac_field_parts.specs.Tables.{SpellsTable}
use Rattle.bac_fields.specs.Laws.Items.{one, word_law, and_then}
use Rattle.bac_field_parts.specs.Laws.Leaves.{held_lawful}
use Rattle.bac_field_parts.specs.Laws.Messages.{Alike, first_part, last_part, second_alike, then_alike, grouped_first, message_lawful}
use Rattle.bac_field_parts.specs.Laws.OctetForms.{turned, octet_headed, two_headed, counted_headed, one_octet_inhabited, two_octets_inhabited, counted_inhabited}
use Rattle.bac_fields.specs.Laws.ServiceMessages.{SpellsChosen, items_told}

-- these octets, and nothing after them
abbrev pub Exactly : List Part → List ℕ → Type 0
Exactly ps = Headed ps (λ rest. rest ≡ [])

-- the type of a message, and then its layout
abbrev pub SpellsLaidOut : ℕ → List Part → List ℕ → Type 0
SpellsLaidOut kind ps = SpellsChosen kind (Exactly ps)

two_exactly : (n : ℕ) → Alike (AreTwoOctets n) (Exactly (two_octets n))
two_exactly n = then_alike (turned last_part) (two_headed [] (λ rest. rest ≡ []) n)

one_exactly : (n : ℕ) → Alike (IsOneOctet n) (Exactly (octet n ∷ []))
one_exactly n = then_alike (turned last_part) (octet_headed [] (λ rest. rest ≡ []) n)

-- ---- Who-Is-Router-To-Network

abbrev pub SpellsWhoIsRouter : Option ℕ → List ℕ → Type 0
SpellsWhoIsRouter network = SpellsLaidOut 0 (network_or_none network)

abbrev pub who_is_parts_said : Unit {0} × (Option ℕ × Unit {0}) → List Symbol
who_is_parts_said w = number_said 40 (the_number 0) w.0 ++ (option_map_or (number_said 41 (λ n. n)) w.1.0 [] ++ end_said w.1.1)

network_alike : (network : Option ℕ) → Alike (Optional AreTwoOctets network) (Exactly (network_or_none network))
network_alike None b = (λ p. p, λ p. p)
network_alike (Some n) b = two_exactly n b

pub who_is_router_message : IsMessage (layout_said who_is) who_is_parts_said SpellsWhoIsRouter (Joined (the_octet 0) (Joined (Optional AreTwoOctets) no_octets))
who_is_router_message = record {
  of_parts = λ w. w.1.0;
  parts_of = λ v b spelled. ((tt, (v, tt)), refl);
  said = λ w. said w.1.0;
  spelled = λ w. second_alike (then_alike last_part (network_alike w.1.0));
}
  where
    said : (network : Option ℕ) → layout_said who_is network ≡ who_is_parts_said (tt, (network, tt))
    said None = refl
    said (Some network) = refl

-- ---- lists of networks

-- a message of this type
abbrev pub networks_said : ℕ → List ℕ → List Symbol
networks_said kind networks = steps_said (type_step kind ∷ networks_steps networks) ++ finished ∷ []

abbrev pub SpellsNetworks : ℕ → List ℕ → List ℕ → Type 0
SpellsNetworks kind networks = SpellsLaidOut kind (networks_of networks)

abbrev pub NetworksParts : Type 0
NetworksParts = Unit {0} × (Unit {0} × (List ℕ × (Unit {0} × Unit {0})))

abbrev pub networks_parts_said : ℕ → NetworksParts → List Symbol
networks_parts_said kind w = number_said 40 (the_number kind) w.0 ++ (number_said 42 no_number w.1.0 ++ (flat_map (number_said 43 (λ n. n)) w.1.1.0 ++ (number_said 114 no_number w.1.1.1.0 ++ end_said w.1.1.1.1)))

networks_told : (networks : List ℕ) (rest : List Step) → steps_said (flat_map listed_network_steps networks ++ rest) ≡ flat_map (number_said 43 (λ n. n)) networks ++ steps_said rest
networks_told [] rest = refl
networks_told (n ∷ networks) rest = ap (λ (l : List Symbol). number_said 43 (λ (i : ℕ). i) n ++ l) (networks_told networks rest)

networks_alike : (networks : List ℕ) → Alike (Items AreTwoOctets networks) (Exactly (networks_of networks))
networks_alike [] b = (λ p. p, λ p. p)
networks_alike (n ∷ networks) b = then_alike (second_alike (networks_alike networks)) (two_headed (networks_of networks) (λ rest. rest ≡ []) n) b

pub networks_message : (kind : ℕ) → IsMessage (networks_said kind) (networks_parts_said kind) (SpellsNetworks kind) (Joined (the_octet kind) (Joined no_octets (Joined (Items AreTwoOctets) (Joined no_octets no_octets))))
networks_message kind = record {
  of_parts = λ w. w.1.1.0;
  parts_of = λ networks b spelled. ((tt, (tt, (networks, (tt, tt)))), refl);
  said = λ w. said w.1.1.0;
  spelled = λ w. second_alike (then_alike first_part (then_alike (second_alike last_part) (then_alike last_part (networks_alike w.1.1.0))));
}
  where
    said : (networks : List ℕ) → networks_said kind networks ≡ networks_parts_said kind (tt, (tt, (networks, (tt, tt))))
    said networks =
        ap (λ (l : List Symbol). number_said 40 (the_number kind) tt ++ (number_said 42 no_number tt ++ l))
        (ap (λ (l : List Symbol). l ++ finished ∷ []) (networks_told networks (next (word name.ListEnd) ∷ [])) ∙ append_assoc (flat_map (number_said 43 (λ n. n)) networks) (number_said 114 no_number tt) (finished ∷ []))

-- ---- a network, and a number of one octet under this name

abbrev pub network_number_said : ℕ → Name → ℕ × ℕ → List Symbol
network_number_said kind name said = number_said 40 (the_number kind) tt ++ (number_said 41 (λ n. n) said.0 ++ (number_said (number_of name) (λ n. n) said.1 ++ end_said tt))

abbrev pub SpellsNetworkNumber : ℕ → ℕ × ℕ → List ℕ → Type 0
SpellsNetworkNumber kind said = SpellsLaidOut kind (two_octets said.0 ++ octet said.1 ∷ [])

abbrev pub TwoNumbersParts : Type 0
TwoNumbersParts = Unit {0} × (ℕ × (ℕ × Unit {0}))

abbrev pub network_number_parts_said : ℕ → Name → TwoNumbersParts → List Symbol
network_number_parts_said kind name w = number_said 40 (the_number kind) w.0 ++ (number_said 41 (λ n. n) w.1.0 ++ (number_said (number_of name) (λ n. n) w.1.1.0 ++ end_said w.1.1.1))

network_number_alike : (network n : ℕ) → Alike (Joins (AreTwoOctets network) (IsOneOctet n)) (Exactly (two_octets network ++ octet n ∷ []))
network_number_alike network n = then_alike (second_alike (one_exactly n)) (two_headed (octet n ∷ []) (λ rest. rest ≡ []) network)

pub network_number_message : (kind : ℕ) (name : Name) → IsMessage (network_number_said kind name) (network_number_parts_said kind name) (SpellsNetworkNumber kind) (Joined (the_octet kind) (Joined AreTwoOctets (Joined IsOneOctet no_octets)))
network_number_message kind name = record {
  of_parts = λ w. (w.1.0, w.1.1.0);
  parts_of = λ v b spelled. ((tt, (v.0, (v.1, tt))), refl);
  said = λ w. refl;
  spelled = λ w. second_alike (then_alike (second_alike last_part) (network_number_alike w.1.0 w.1.1.0));
}

-- ---- Reject-Message-To-Network

abbrev pub SpellsReject : ℕ × ℕ → List ℕ → Type 0
SpellsReject said = SpellsLaidOut 3 (octet said.0 ∷ two_octets said.1)

abbrev pub reject_parts_said : TwoNumbersParts → List Symbol
reject_parts_said w = number_said 40 (the_number 3) w.0 ++ (number_said 29 (λ n. n) w.1.0 ++ (number_said 41 (λ n. n) w.1.1.0 ++ end_said w.1.1.1))

reject_alike : (reason network : ℕ) → Alike (Joins (IsOneOctet reason) (AreTwoOctets network)) (Exactly (octet reason ∷ two_octets network))
reject_alike reason network = then_alike (second_alike (two_exactly network)) (octet_headed (two_octets network) (λ rest. rest ≡ []) reason)

pub reject_message : IsMessage (layout_said reject) reject_parts_said SpellsReject (Joined (the_octet 3) (Joined IsOneOctet (Joined AreTwoOctets no_octets)))
reject_message = record {
  of_parts = λ w. (w.1.0, w.1.1.0);
  parts_of = λ v b spelled. ((tt, (v.0, (v.1, tt))), refl);
  said = λ w. refl;
  spelled = λ w. second_alike (then_alike (second_alike last_part) (reject_alike w.1.0 w.1.1.0));
}

-- ---- Disconnect-Connection-To-Network

abbrev pub SpellsDisconnect : ℕ → List ℕ → Type 0
SpellsDisconnect network = SpellsLaidOut 9 (two_octets network)

abbrev pub disconnect_parts_said : Unit {0} × (ℕ × Unit {0}) → List Symbol
disconnect_parts_said w = number_said 40 (the_number 9) w.0 ++ (number_said 41 (λ n. n) w.1.0 ++ end_said w.1.1)

pub disconnect_message : IsMessage (layout_said disconnecting) disconnect_parts_said SpellsDisconnect (Joined (the_octet 9) (Joined AreTwoOctets no_octets))
disconnect_message = record {
  of_parts = λ w. w.1.0;
  parts_of = λ v b spelled. ((tt, (v, tt)), refl);
  said = λ w. refl;
  spelled = λ w. second_alike (then_alike last_part (two_exactly w.1.0));
}

-- ---- What-Is-Network-Number

abbrev pub SpellsNumberWanted : Unit {0} → List ℕ → Type 0
SpellsNumberWanted u = SpellsLaidOut 18 []

abbrev pub number_wanted_parts_said : Unit {0} × Unit {0} → List Symbol
number_wanted_parts_said w = number_said 40 (the_number 18) w.0 ++ end_said w.1

pub number_wanted_message : IsMessage (layout_said number_wanted) number_wanted_parts_said SpellsNumberWanted (Joined (the_octet 18) no_octets)
number_wanted_message = record { of_parts = λ w. tt; parts_of = λ v b spelled. ((tt, tt), refl); said = λ w. refl; spelled = λ w b. (λ p. p, λ p. p) }

-- ---- ports, as items of a list

abbrev pub SpellsPort : Port → List ℕ → Type 0
SpellsPort port = Joins (AreTwoOctets port.network) (Joins (IsOneOctet port.id) (AreCounted port.info))

abbrev pub port_said : Port → List Symbol
port_said port = steps_said (item_steps port_steps port)

abbrev pub PortParts : Type 0
PortParts = Unit {0} × (ℕ × (ℕ × (List ℕ × Unit {0})))

abbrev pub port_parts_said : PortParts → List Symbol
port_parts_said w =
    number_said 115 no_number w.0 ++ (number_said 41 (λ n. n) w.1.0 ++ (number_said 46 (λ n. n) w.1.1.0 ++ (contents_said 47 no_octet_number (λ v. v) w.1.1.1.0 ++ number_said 116 no_number w.1.1.1.1)))

pub port_message : IsMessage port_said port_parts_said SpellsPort (Joined no_octets (Joined AreTwoOctets (Joined IsOneOctet (Joined AreCounted no_octets))))
port_message = record {
  of_parts = λ w. record { network = w.1.0; id = w.1.1.0; info = w.1.1.1.0 };
  parts_of = λ p b spelled. ((tt, (p.network, (p.id, (p.info, tt)))), refl);
  said = λ w. refl;
  spelled = λ w. then_alike first_part (second_alike (second_alike last_part));
}

pub port_lawful : Lawful (Language port_said SpellsPort) (Some 115 ∷ [])
port_lawful =
    message_lawful _ _ _ _ port_message (Some 115 ∷ [])
    (and_then (word_law 115) (and_then (one 41 two_octets_inhabited) (and_then (one 46 one_octet_inhabited) (and_then (held_lawful 47 no_octet_number (λ v. v) AreCounted counted_inhabited) (word_law 116)))))

-- ---- routing tables

-- the symbols of a table, before what comes after it
abbrev pub TableParts : Type 0
TableParts = Unit {0} × (List Port × Unit {0})

abbrev pub table_parts_said : TableParts → List Symbol
table_parts_said w = number_said 45 no_number w.0 ++ (flat_map port_said w.1.0 ++ number_said 114 no_number w.1.1)

abbrev pub SpellsTableParts : TableParts → List ℕ → Type 0
SpellsTableParts = Joined no_octets (SpellsTable SpellsPort no_octets)

abbrev ports_in : TableParts → List Port
ports_in w = w.1.0

abbrev table_with : List Port → TableParts
table_with ports = (tt, (ports, tt))

port_alike : (port : Port) (ps : List Part) → Alike (Joins (SpellsPort port) (Exactly ps)) (Exactly (two_octets port.network ++ octet port.id ∷ counted port.info ++ ps))
port_alike port ps =
    then_alike (turned (then_alike (second_alike grouped_first) grouped_first))
    (then_alike (second_alike (then_alike (second_alike (counted_headed ps (λ rest. rest ≡ []) port.info)) (octet_headed (counted port.info ++ ps) (λ rest. rest ≡ []) port.id)))
    (two_headed (octet port.id ∷ counted port.info ++ ps) (λ rest. rest ≡ []) port.network))

ports_alike : (ports : List Port) → Alike (Items SpellsPort ports) (Exactly (ports_of ports))
ports_alike [] b = (λ p. p, λ p. p)
ports_alike (port ∷ ports) b = then_alike (second_alike (ports_alike ports)) (port_alike port (ports_of ports)) b

table_alike : (w : TableParts) → Alike (SpellsTableParts w) (Exactly (table_of (ports_in w)))
table_alike w = then_alike first_part (then_alike (second_alike (then_alike last_part (ports_alike w.1.0))) (octet_headed (ports_of w.1.0) (λ rest. rest ≡ []) (length w.1.0)))

table_told : (ports : List Port) → steps_said (ports_steps ports) ≡ table_parts_said (table_with ports)
table_told ports = ap (λ (l : List Symbol). number_said 45 no_number tt ++ l) (items_told port_steps ports (next (word name.ListEnd) ∷ []))

-- ---- Initialize-Routing-Table

abbrev pub SpellsInitTable : List Port → List ℕ → Type 0
SpellsInitTable ports = SpellsLaidOut 6 (table_of ports)

abbrev pub init_table_parts_said : Unit {0} × (TableParts × Unit {0}) → List Symbol
init_table_parts_said w = number_said 40 (the_number 6) w.0 ++ (table_parts_said w.1.0 ++ end_said w.1.1)

pub init_table_message : IsMessage (layout_said table) init_table_parts_said SpellsInitTable (Joined (the_octet 6) (Joined SpellsTableParts no_octets))
init_table_message = record {
  of_parts = λ w. ports_in w.1.0;
  parts_of = λ ports b spelled. ((tt, (table_with ports, tt)), refl);
  said = λ w. ap (λ (l : List Symbol). number_said 40 (the_number 6) tt ++ (l ++ finished ∷ [])) (table_told (ports_in w.1.0));
  spelled = λ w. second_alike (then_alike last_part (table_alike w.1.0));
}

-- ---- Initialize-Routing-Table-Ack

abbrev pub SpellsInitTableAck : Option (List Port) → List ℕ → Type 0
SpellsInitTableAck ports = SpellsLaidOut 7 (table_or_none ports)

abbrev pub init_table_ack_parts_said : Unit {0} × (Option TableParts × Unit {0}) → List Symbol
init_table_ack_parts_said w = number_said 40 (the_number 7) w.0 ++ (option_map_or table_parts_said w.1.0 [] ++ end_said w.1.1)

table_or_none_alike : (w : Option TableParts) → Alike (Optional SpellsTableParts w) (Exactly (table_or_none (option_map ports_in w)))
table_or_none_alike None b = (λ p. p, λ p. p)
table_or_none_alike (Some w) b = table_alike w b

pub init_table_ack_message : IsMessage (layout_said table_ack) init_table_ack_parts_said SpellsInitTableAck (Joined (the_octet 7) (Joined (Optional SpellsTableParts) no_octets))
init_table_ack_message = record {
  of_parts = λ w. option_map ports_in w.1.0;
  parts_of = λ ports b spelled. ((tt, (option_map table_with ports, tt)), table_back ports);
  said = λ w. said w.1.0;
  spelled = λ w. second_alike (then_alike last_part (table_or_none_alike w.1.0));
}
  where
    table_back : (ports : Option (List Port)) → option_map ports_in (option_map table_with ports) ≡ ports
    table_back None = refl
    table_back (Some ports) = refl

    said : (w : Option TableParts) → layout_said table_ack (option_map ports_in w) ≡ init_table_ack_parts_said (tt, (w, tt))
    said None = refl
    said (Some w) = ap (λ (l : List Symbol). number_said 40 (the_number 7) tt ++ (l ++ finished ∷ [])) (table_told (ports_in w))

-- ---- messages without a layout

abbrev pub SpellsPlain : ℕ × List ℕ → List ℕ → Type 0
SpellsPlain = Joined (IsOpaqueType false) AreTheOctets

abbrev pub plain_parts_said : ℕ × (List ℕ × Unit {0}) → List Symbol
plain_parts_said w = number_said 40 (λ n. n) w.0 ++ (contents_said 51 no_octet_number (λ v. v) w.1.0 ++ end_said w.1.1)

pub plain_message : IsMessage (layout_said plain) plain_parts_said SpellsPlain (Joined (IsOpaqueType false) (Joined AreTheOctets no_octets))
plain_message = record { of_parts = λ w. (w.0, w.1.0); parts_of = λ v b spelled. ((v.0, (v.1, tt)), refl); said = λ w. refl; spelled = λ w. second_alike last_part }

abbrev pub SpellsVendored : ℕ × (ℕ × List ℕ) → List ℕ → Type 0
SpellsVendored = Joined (IsOpaqueType true) (Joined AreTwoOctets AreTheOctets)

abbrev pub vendored_parts_said : ℕ × (ℕ × (List ℕ × Unit {0})) → List Symbol
vendored_parts_said w = number_said 40 (λ n. n) w.0 ++ (number_said 50 (λ n. n) w.1.0 ++ (contents_said 51 no_octet_number (λ v. v) w.1.1.0 ++ end_said w.1.1.1))

pub vendored_message : IsMessage (layout_said vendored) vendored_parts_said SpellsVendored (Joined (IsOpaqueType true) (Joined AreTwoOctets (Joined AreTheOctets no_octets)))
vendored_message = record { of_parts = λ w. (w.0, (w.1.0, w.1.1.0)); parts_of = λ v b spelled. ((v.0, (v.1.0, (v.1.1, tt))), refl); said = λ w. refl; spelled = λ w. second_alike (second_alike last_part) }

-- ---- types without a layout

pub opaque_type_inhabited : (has_vendor : Bool) → IsInhabited (IsOpaqueType has_vendor)
opaque_type_inhabited true = record { value = 255; octets = 255 ∷ []; spelled = record { octet = refl; fits = lit< tt; untyped = refl; vendor = refl } }
opaque_type_inhabited false = record { value = 10; octets = 10 ∷ []; spelled = record { octet = refl; fits = lit< tt; untyped = refl; vendor = refl } }
