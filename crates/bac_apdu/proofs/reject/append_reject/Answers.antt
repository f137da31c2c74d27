use Rattle.std.specs.Prelude.{[], ◌∷◌, refl}
use Rattle.bac_apdu.specs.Apdus.{reject, SpellsBody}
use Rattle.bac_apdu.proofs.AppendingLemmas.{appends_headed, appends_end, head_at_end}
use Rattle.bac_apdu.proofs.reject.append_reject.Goals as goal

pub returns-clause-written : goal.returns-clause-written
returns-clause-written c =
    let value = reject c.args.invoke c.args.reason in
    let head = 96 ∷ c.args.invoke ∷ c.args.reason ∷ [] in
    let octets = head_at_end c.args.out.now.items head c.extend_from_slice.new.self.items c.type_inv.out c.in_ok-extend_from_slice.ensures.items in
    appends_headed value head (tt, (octets.1.0, (octets.1.1.0, tt))) refl (appends_end (SpellsBody value) refl (λ d e. e) c.in_ok-extend_from_slice.ensures.items)
