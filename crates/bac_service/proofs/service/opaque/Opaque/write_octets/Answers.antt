use Rattle.std.proofs.Common.{◌≡◌, List, ◌++◌, ℕ, ◌∙◌, ap, subst, arith}
use Rattle.bac_tag.specs.Octets.{IsOctets}
use Rattle.bac_tag.specs.Laws.Octets.{octets_back}
use Rattle.bac_service.specs.Laws.Service.{no_row, octets_held, appends_opaque}
use Rattle.bac_service.proofs.service.opaque.Opaque.write_octets.Goals as goal

pub returns-in_err-extend_from_slice-clause-placed : goal.returns-in_err-extend_from_slice-clause-placed
returns-in_err-extend_from_slice-clause-placed c = record { choice_fits = omega (arith, c.choice-choice.ensures); production_is = no_row _ c.octets-octets.ensures.untyped }

pub returns-clause-placed : goal.returns-clause-placed
returns-clause-placed c = record { choice_fits = omega (arith, c.choice-choice.ensures); production_is = no_row _ c.octets-octets.ensures.untyped }

pub returns-clause-ok : goal.returns-clause-ok
returns-clause-ok c =
    let items : c.extend_from_slice.new.self.items ≡ c.args.out.now.items ++ c.args.self.now.octets = (c.in_ok-extend_from_slice.ensures.items ∙ ap (λ (l : List ℕ). c.args.out.now.items ++ l) c.octets-octets.ensures.octets) in
    appends_opaque c.args.self.now.octets (octets_back c.args.out.now.items c.args.self.now.octets (subst IsOctets items (octets_held c.extend_from_slice.new.self.items (λ k lt. omega (arith, c.type_inv.out k 0 lt))))) items
