-- Routing tables.
use Rattle.std.specs.Prelude.{Bool, nat_eq, ◌&&◌, List}
use Rattle.std.specs.Cmp.Lexicographic.{pointwise}
use Rattle.std.specs.Coded.{Coded, coded_list}
use Rattle.bac_npdu_parts.specs.declared.messages.port.Port.{Port}
use Rattle.bac_npdu_parts.specs.contracts.messages.port.Port.{the_row as port_row}

-- How the logic stores a routing table.
abbrev pub ports_code : Coded (List Port)
ports_code = coded_list port_row.coded

-- Whether two ports have the same network, number and octets of information.
abbrev pub same_port : Port → Port → Bool
same_port a b = nat_eq a.network b.network && (nat_eq a.id b.id && pointwise nat_eq a.info b.info)

-- Whether two tables have the same ports in the same order.
abbrev pub same_ports : List Port → List Port → Bool
same_ports = pointwise same_port
