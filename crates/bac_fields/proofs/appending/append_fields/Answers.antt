use Rattle.std.proofs.Common.{◌≡◌, List, ℕ, length, take, ◌++◌, sym, ap, ◌∙◌, subst, arith}
use Rattle.std.proofs.Math.Seq.{take-append_seam}
use Rattle.std.proofs.lemmas.Result.{on_ok_weaker, on_err_weaker}
use Rattle.bac_tag.specs.Spelling.{AppendsLeast}
use Rattle.bac_npdu_parts.specs.Frames.{SpellsFrame, value_of}
use Rattle.bac_fields.proofs.FramePlaces.{appended_fits}
use Rattle.bac_fields.proofs.appending.append_fields.Goals as goal

pub append_places-placed-requires : goal.append_places-placed-requires
append_places-placed-requires c =
    let held = c.append_frame.new.out in
    record { fits = appended_fits (value_of c.args.frame.now) c.args.octets.now.items held.items c.in_ok-append_frame.ensures.written (omega (arith, held.ok.0, held.ok.1, held.small)) }

pub returns-clause-octets : goal.returns-clause-octets
returns-clause-octets c =
    let old = c.args.octets.now.items in
    rw c.or_cut_back.ensures.given (on_ok_weaker c.append_places-placed.result (λ same. subst (AppendsLeast (SpellsFrame (value_of c.args.frame.now)) old) (sym same) c.in_ok-append_frame.ensures.written) c.or_cut_back.ensures.ok)

pub returns-clause-unchanged_octets : goal.returns-clause-unchanged_octets
returns-clause-unchanged_octets c =
    let old : List ℕ = c.args.octets.now.items in
    let appended = c.in_ok-append_frame.ensures.written in
    let at : c.len-start.result ≡ length old = c.len-start.ensures ∙ c.args.octets.now.ok.0 in
    let before = ap (take c.len-start.result) appended.new_is ∙ ap (λ (n : ℕ). take n (old ++ appended.more)) at ∙ take-append_seam old appended.more in
    rw c.or_cut_back.ensures.given (on_err_weaker c.append_places-placed.result (λ same. same ∙ before) c.or_cut_back.ensures.err)
