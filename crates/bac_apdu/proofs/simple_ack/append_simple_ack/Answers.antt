use Rattle.std.specs.Prelude.{[], ◌∷◌, refl}
use Rattle.bac_apdu.specs.Apdus.{simple_ack, SpellsBody}
use Rattle.bac_apdu.proofs.AppendingLemmas.{appends_headed, appends_end, head_at_end}
use Rattle.bac_apdu.proofs.simple_ack.append_simple_ack.Goals as goal

pub returns-clause-written : goal.returns-clause-written
returns-clause-written c =
    let value = simple_ack c.args.invoke c.args.choice in
    let head = 32 ∷ c.args.invoke ∷ c.args.choice ∷ [] in
    let octets = head_at_end c.args.out.now.items head c.extend_from_slice.new.self.items c.type_inv.out c.in_ok-extend_from_slice.ensures.items in
    appends_headed value head (tt, (octets.1.0, (octets.1.1.0, tt))) refl (appends_end (SpellsBody value) refl (λ d e. e) c.in_ok-extend_from_slice.ensures.items)
