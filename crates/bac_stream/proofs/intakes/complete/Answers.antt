use Rattle.std.proofs.Common.{◌≡◌, ◌⊎◌, ◌≤◌, ◌∙◌, ◌+◌, ◌*◌, length, get_or, ap, subst, arith}
use Rattle.bac_record.specs.Records.{LONGEST}
use Rattle.bac_stream.proofs.FilledLemmas.{completed, small_front}
use Rattle.bac_stream.proofs.intakes.complete.Goals as goal

pub returns-clause-completed : goal.returns-clause-completed
returns-clause-completed c =
    let old = c.args.held.now.items in
    let mid = c.fill-piece.new.held.items in
    let new = c.fill-behind.new.held.items in
    let more = c.fill-behind.ensures.front.0 in
    let seen = c.as_slice.ensures.value in
    let n = 256 * c.from.result + c.from-2.result in
    let sum : (2 + 256 * c.from.result) + c.from-2.result ≡ 2 + n = omega arith in
    let long : 2 ≤ length mid = subst (λ l. 2 ≤ length l) seen c.in-len2-up.len_at_least in
    let octets = small_front mid more new c.fill-behind.ensures.front.1 long c.type_inv.held in
    let is : n ≡ 256 * get_or mid 0 0 + get_or mid 1 0 = omega (arith, c.from.ensures, c.from-2.ensures, ap (λ l. get_or l 0 0) seen, ap (λ l. get_or l 1 0) seen) in
    let small : n ≤ LONGEST = omega (arith, is, octets.0, octets.1) in
    let full : 2 + n ≤ length new = omega (arith, c.if-len-size.false, c.len.ensures, c.fill-behind.new.held.ok.0) in
    let few : (new ≡ mid) ⊎ (length new ≤ 2 + n) = subst (λ k. (new ≡ mid) ⊎ (length new ≤ k)) sum c.fill-behind.ensures.few in
    let found = completed old mid new more n c.requires.partial c.fill-piece.ensures.few long octets.1 is small c.fill-behind.ensures.front.1 few full in
    (found.0, found.1, found.2, c.fill-piece.ensures.octets ∙ c.fill-behind.ensures.octets)
