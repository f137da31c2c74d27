use Rattle.std.specs.Prelude.{◌≡◌, ◌<◌, ◌≤◌, ℕ, true, false, length, slice_index}
use Rattle.std.proofs.Common.{◌∙◌, ap, sym, arith}
use Rattle.bac_tag.specs.HeadOctets.{bit_of}
use Rattle.bac_npdu_parts.specs.FrameHeads.{address_read}
use Rattle.bac_npdu_parts.specs.Frames.{is_there}
use Rattle.bac_npdu_parts.proofs.UntypedLemmas.{behind_all}
use Rattle.bac_npdu_parts.proofs.HeadReadLemmas.{read_there, is_told, read_destination_cut, read_source_cut, read_empty, read_hops_cut, address_some}
use Rattle.bac_npdu_parts.proofs.HeadRefusedLemmas.{short_other, address_other}
use Rattle.bac_npdu_parts.proofs.frame_heads.read_head.Goals as goal
use Rattle.bac_npdu_parts.proofs.frame_heads.read_head.Goals.{else-has_source-via-then-has_source+else-begins_empty, else-has_source-via-else-has_source}

pub returns-in_default : goal.returns-in_default
returns-in_default c =
    let small : (k : ℕ) → slice_index c.args.octets.now k < 256 = λ k. omega (arith, c.type_inv.octets k) in
    let cut = c.in_default.ensures.none in
    rw c.at.ensures (read_destination_cut c.args.octets.now small c.in_ok-control.control.0 c.in_ok-control.ensures _ (sym (behind_all 2 c.args.octets.now)) (c.has_destination.ensures ∙ ap bit_of cut.0) cut.1, short_other)

pub returns-then-begins_empty : goal.returns-then-begins_empty
returns-then-begins_empty c =
    let small : (k : ℕ) → slice_index c.args.octets.now k < 256 = λ k. omega (arith, c.type_inv.octets k) in
    let empty = c.begins_empty.ensures.0 c.if-begins_empty.true in
    rw c.at-then-begins_empty.ensures (read_empty c.args.octets.now small c.in_ok-control.control.0 c.in_ok-control.ensures _ (sym (behind_all 2 c.args.octets.now)) (address_read c.in-Some.goes_to) (is_told 5 c.in_ok-control.control.0 c.has_destination.result c.in-Some.goes_to c.in-Some.ensures.there c.has_destination.ensures) c.in-Some.rest.now c.in-Some.ensures.some (c.has_source-has_source.ensures ∙ ap bit_of c.if-has_source.true) empty.0 empty.1, address_other)

pub returns-in_default-split_where : goal.returns-in_default-split_where
returns-in_default-split_where c =
    let small : (k : ℕ) → slice_index c.args.octets.now k < 256 = λ k. omega (arith, c.type_inv.octets k) in
    let cut = c.in_default-split_where.ensures.none in
    rw c.at-in_default-split_where.ensures (read_source_cut c.args.octets.now small c.in_ok-control.control.0 c.in_ok-control.ensures _ (sym (behind_all 2 c.args.octets.now)) (address_read c.in-Some.goes_to) (is_told 5 c.in_ok-control.control.0 c.has_destination.result c.in-Some.goes_to c.in-Some.ensures.there c.has_destination.ensures) c.in-Some.rest.now c.in-Some.ensures.some (c.has_source-has_source.ensures ∙ ap bit_of cut.0) cut.1, short_other)

pub returns-in_default-split_hops : goal.returns-in_default-split_hops
returns-in_default-split_hops c =
    let small : (k : ℕ) → slice_index c.args.octets.now k < 256 = λ k. omega (arith, c.type_inv.octets k) in
    let cut = c.in_default-split_hops.ensures.none in
    let some : 3 ≤ length c.in-Some.rest.now → slice_index c.in-Some.rest.now 2 ≡ 0 → is_there c.in-Some-split_where.source ≡ true → ⊥ = elim c.else-has_source.branch [
      | else-has_source-via-then-has_source+else-begins_empty w ↦ λ long zero t. let e = w.begins_empty.ensures.1 (long, zero) in let f = w.if-begins_empty.false in absurd (let i : true ≡ false = sym e ∙ f in cc)
      | else-has_source-via-else-has_source w ↦ λ long zero t. let f = w.if-has_source.false in absurd (let i : true ≡ false = sym t ∙ c.in-Some-split_where.ensures.there ∙ f in cc)
    ] in
    rw c.at-in_default-split_hops.ensures (read_hops_cut c.args.octets.now small c.in_ok-control.control.0 c.in_ok-control.ensures _ (sym (behind_all 2 c.args.octets.now)) (address_read c.in-Some.goes_to) (is_told 5 c.in_ok-control.control.0 c.has_destination.result c.in-Some.goes_to c.in-Some.ensures.there c.has_destination.ensures) c.in-Some.rest.now c.in-Some.ensures.some (address_read c.in-Some-split_where.source) (is_told 3 c.in_ok-control.control.0 c.has_source-has_source.result c.in-Some-split_where.source c.in-Some-split_where.ensures.there c.has_source-has_source.ensures) (address_some c.in-Some-split_where.source c.in-Some.rest.now c.in-Some-split_where.rest.now c.in-Some-split_where.ensures.some some) c.in-Some-split_where.rest.now c.in-Some-split_where.ensures.some (read_there c.in-Some.goes_to ∙ cut.0) cut.1, short_other)
