use Rattle.std.proofs.Common.{◌≡◌, sym, subst}
use Rattle.std.specs.Bool.{Decides}
use Rattle.bac_apdu.specs.Apdus.{value_of}
use Rattle.bac_apdu.proofs.SameLemmas.{apdus_tell}
use Rattle.bac_apdu.proofs.apdu.ApduPartialEq.eq.Goals as goal

pub returns-clause-same : goal.returns-clause-same
returns-clause-same c =
    let one = c.held_apdus_have_canonical_octets.ensures in
    let other = c.held_apdus_have_canonical_octets-2.ensures in
    subst (λ r. Decides r (value_of c.args.self.now ≡ value_of c.args.other.now)) (sym c.have_equal_parts.ensures)
    (apdus_tell (λ number v l h. (c.only_open_values_are_spelled.ensures 32 number v l h).1.0) c.args.self.now c.args.other.now one.0 other.0 one.1.member other.1.member)
