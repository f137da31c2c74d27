use Rattle.std.proofs.Common.{◌≡◌, ℕ, ◌+◌, ◌-◌, List, ◌∷◌, [], length, ◌≤◌, ap, ◌∙◌, sym, subst, arith, rules}
use Rattle.std.proofs.lemmas.List.{length-append}
use Rattle.std.specs.Int.{w16, to_be_bytes}
use Rattle.bac_record.specs.Records.{LONGEST}
use Rattle.bac_stream.proofs.RecordLemmas.{record_filled}
use Rattle.bac_stream.proofs.normalising.append_record.Goals as goal

pub returns-clause-ok : goal.returns-clause-ok
returns-clause-ok c = λ fits.
    let written = c.in_ok-append_frame.ensures.written in
    let old = c.args.out.now.items in
    let mid = c.extend_from_slice.new.self.items in
    let full = c.append_frame.new.out.items in
    let start : c.len-start.result ≡ length old = search (rules, c.len-start.ensures) in
    let end : c.len.result ≡ length full = search (rules, c.len.ensures) in
    let behind : length full ≡ length mid + length written.more = ap (λ (l : List ℕ). length l) written.new_is ∙ length-append mid written.more in
    let front : length mid ≡ length old + 2 = ap (λ (l : List ℕ). length l) c.in_ok-extend_from_slice.ensures.items ∙ length-append old (0 ∷ 0 ∷ []) in
    let size : (c.len.result - c.len-start.result) - 2 ≡ length written.more = omega (arith, start, end, behind, front) in
    let within : (c.len.result - c.len-start.result) - 2 ≤ LONGEST = subst (λ (n : ℕ). n ≤ LONGEST) (sym size) (fits written.more written.is_least) in
    let cells : c.to_be_bytes.result ≡ to_be_bytes w16 (length written.more) = c.to_be_bytes.ensures ∙ ap (to_be_bytes w16) (c.length_of.ensures within ∙ size) in
    record {
      canonical = written.more;
      is_canonical = written.is_least;
      new_is = record_filled old mid full written.more c.to_be_bytes.result c.len-start.result start c.in_ok-extend_from_slice.ensures.items written.new_is (fits written.more written.is_least) cells;
    }
