use Rattle.std.specs.Prelude.{ℕ, [], ◌∷◌, refl}
use Rattle.std.proofs.Common.{ap}
use Rattle.bac_apdu.specs.Apdus.{abort, SpellsBody}
use Rattle.bac_apdu.proofs.AppendingLemmas.{appends_headed, appends_end, head_at_end}
use Rattle.bac_apdu.proofs.abort.append_abort.Goals as goal

pub returns-clause-written : goal.returns-clause-written
returns-clause-written c =
    let value = abort c.args.invoke c.args.srv c.args.reason in
    let head = c.first_octet-first.result ∷ c.args.invoke ∷ c.args.reason ∷ [] in
    let octets = head_at_end c.args.out.now.items head c.extend_from_slice.new.self.items c.type_inv.out c.in_ok-extend_from_slice.ensures.items in
    appends_headed value head (tt, (octets.1.0, (octets.1.1.0, tt))) (ap (λ (n : ℕ). n ∷ c.args.invoke ∷ c.args.reason ∷ []) c.first_octet-first.ensures) (appends_end (SpellsBody value) refl (λ d e. e) c.in_ok-extend_from_slice.ensures.items)
