use Rattle.std.specs.Prelude.{◌≡◌, ℕ, List, [], ◌∷◌, drop}
use Rattle.std.proofs.Common.{sym, subst}
use Rattle.bac_tag.specs.HeadOctets.{Headed}
use Rattle.bac_npdu_parts.specs.Messages.{ports_of}
use Rattle.bac_npdu_parts.proofs.messages.tables.read_port.Goals as goal

pub returns-clause-found : goal.returns-clause-found
returns-clause-found c =
    let found = c.in_ok-found.found in
    subst (λ (info : List ℕ). Headed (ports_of (record { network = found.network; id = found.id; info = info } ∷ [])) (λ rest. rest ≡ drop c.in_ok-found.behind c.args.octets.now) (drop c.args.place c.args.octets.now))
    (sym c.in-Ok.ensures.value) c.in_ok-found.ensures.found
