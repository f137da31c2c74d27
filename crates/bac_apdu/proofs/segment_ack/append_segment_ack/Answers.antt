use Rattle.std.specs.Prelude.{ℕ, [], ◌∷◌, refl}
use Rattle.std.proofs.Common.{ap, subst, ◌∙◌}
use Rattle.bac_tag.specs.HeadOctets.{IsWindow}
use Rattle.bac_apdu.specs.Apdus.{segment_ack, SpellsBody}
use Rattle.bac_apdu.proofs.AppendingLemmas.{appends_headed, appends_end, head_at_end}
use Rattle.bac_apdu.proofs.segment_ack.append_segment_ack.Goals as goal

pub returns-clause-written : goal.returns-clause-written
returns-clause-written c =
    let value = segment_ack c.args.invoke c.args.nak c.args.srv c.args.seq c.args.window in
    let head = c.first_octet-first.result ∷ c.args.invoke ∷ c.args.seq ∷ c.number.result ∷ [] in
    let octets = head_at_end c.args.out.now.items head c.extend_from_slice.new.self.items c.type_inv.out c.in_ok-extend_from_slice.ensures.items in
    let size : IsWindow c.args.window = subst IsWindow c.number.ensures.number c.number.ensures.range in
    appends_headed value head (tt, (octets.1.0, (octets.1.1.0, (size, tt))))
    (ap (λ (n : ℕ). c.first_octet-first.result ∷ c.args.invoke ∷ c.args.seq ∷ n ∷ []) c.number.ensures.number ∙ ap (λ (n : ℕ). n ∷ c.args.invoke ∷ c.args.seq ∷ c.args.window ∷ []) c.first_octet-first.ensures)
    (appends_end (SpellsBody value) refl (λ d e. e) c.in_ok-extend_from_slice.ensures.items)
