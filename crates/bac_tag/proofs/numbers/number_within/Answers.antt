use Rattle.std.proofs.Common.{arith, true, false, List, [], ◌≡◌, ◌≤◌, ◌<◌, ◌+◌, ◌-◌, ◌*◌, ℕ, refl, take, length, length-take, get_or}
use Rattle.std.proofs.lemmas.Int.Digits.{number_more}
use Rattle.bac_tag.specs.Laws.Octets.{octets_at, octets_take}
use Rattle.bac_tag.specs.Number.{number}
use Rattle.bac_tag.specs.Laws.Number.{begins_number, misses_begins_none, meets_begins, front_room, number_step_fits}
use Rattle.bac_tag.proofs.numbers.number_within.Goals as goal

pub loop-place-init : goal.loop-place-init
loop-place-init c = (refl, begins_number c.args.low c.args.high [] c.args.width c.args.width (omega arith) c.requires.range (omega arith) (omega (arith, c.requires.room)))

pub overflow_mul-number : goal.overflow_mul-number
overflow_mul-number c =
    let fits = number_step_fits c.args.front.now c.loop-place.place (λ k. omega (arith, c.type_inv.front k)) (omega (arith, c.requires.sized, c.requires.within)) c.loop-place-test.true in
    omega (arith, fits, c.loop-place.invariant.0)

pub overflow_add-number : goal.overflow_add-number
overflow_add-number c =
    let fits = number_step_fits c.args.front.now c.loop-place.place (λ k. omega (arith, c.type_inv.front k)) (omega (arith, c.requires.sized, c.requires.within)) c.loop-place-test.true in
    omega (arith, fits, c.loop-place.invariant.0, c.from.ensures)

taken : (front : List ℕ) (place size : ℕ) → place < length front → length front ≤ size → length (take (place + 1) front) + (size - place - 1) ≡ size
taken front place size l sized = omega (arith, length-take (place + 1) front)

-- the number so far, and one octet more
more : (front : List ℕ) (place n octet : ℕ) → place < length front → n ≡ number (take place front) → octet ≡ get_or front place 0 → n * 256 + octet ≡ number (take (place + 1) front)
more front place n octet l e f = let step : number (take (place + 1) front) ≡ number (take place front) * 256 + get_or front place 0 = number_more 256 front place l in omega arith

pub misses-requires : goal.misses-requires
misses-requires c =
    let front = c.args.front.now in
    let place = c.loop-place.place in
    let seen = more front place c.loop-place.number c.from.result c.loop-place-test.true c.loop-place.invariant.0 (omega (arith, c.from.ensures)) in
    record {
      unread = omega (arith, c.requires.within);
      room = rw seen (front_room (take (place + 1) front) (c.args.width - place - 1) (octets_take (place + 1) front (octets_at _ (λ k. omega (arith, c.type_inv.front k)))) (omega (arith, length-take (place + 1) front, c.requires.sized, c.requires.within)));
    }

pub returns-then-misses-clause-err : goal.returns-then-misses-clause-err
returns-then-misses-clause-err c =
    let front = c.args.front.now in
    let place = c.loop-place.place in
    let seen = more front place c.loop-place.number c.from.result c.loop-place-test.true c.loop-place.invariant.0 (omega (arith, c.from.ensures)) in (
      c.loop-place-test.true,
      c.loop-place.invariant.1,
      misses_begins_none c.args.low c.args.high (take (place + 1) front) c.args.width _ (taken front place c.args.width c.loop-place-test.true c.requires.sized) (rw seen at (c.if-misses.ensures.0 refl)),
    )

pub loop-place-preserved : goal.loop-place-preserved
loop-place-preserved c =
    let front = c.args.front.now in
    let place = c.loop-place.place in
    let seen = more front place c.loop-place.number c.from.result c.loop-place-test.true c.loop-place.invariant.0 (omega (arith, c.from.ensures)) in (
      seen,
      meets_begins c.args.low c.args.high (take (place + 1) front) c.args.width _ (taken front place c.args.width c.loop-place-test.true c.requires.sized) c.requires.range
          (λ outside. let e : false ≡ true = c.if-misses.ensures.1 (rw seen outside) in absurd (cc)),
    )
