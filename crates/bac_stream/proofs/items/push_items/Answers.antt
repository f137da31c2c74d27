use Rattle.std.proofs.Common.{◌++◌, ◌∷◌, [], refl, sym, ap, ◌∙◌, append_assoc, append-nil, arith}
use Rattle.std.proofs.lemmas.Result.{err_from_is_err_and}
use Rattle.bac_record.specs.Records.{record_of}
use Rattle.bac_stream.proofs.IntakeLemmas.{takes_nothing, takes_record, fails_later}
use Rattle.bac_stream.proofs.items.push_items.Goals as goal

pub loop-behind-init : goal.loop-behind-init
loop-behind-init c = record {
  front = [];
  items = [];
  splits = refl;
  takes = takes_nothing c.args.mode c.args.before;
  appended = sym (append-nil c.args.out.now.items);
  few = c.requires;
  begins = c.requires;
}

pub loop-behind-preserved : goal.loop-behind-preserved
loop-behind-preserved c =
    let held = c.loop-behind.invariant in
    let step = rw c.in-Some.is at c.in_ok-behind.ensures.ok in
    let first = step.0 in
    let item = step.1 in
    record {
      front = held.front ++ record_of first;
      items = held.items ++ item ∷ [];
      splits = held.splits ∙ ap (λ l. held.front ++ l) step.4 ∙ sym (append_assoc held.front (record_of first) c.in-Some.behind.now);
      takes = takes_record c.args.mode c.args.before c.loop-behind.records held.front first held.items item held.begins held.takes step.2 step.3 step.5;
      appended = step.6 ∙ ap (λ l. l ++ item ∷ []) held.appended ∙ append_assoc c.args.out.now.items held.items (item ∷ []);
      few = omega (arith, step.2);
      begins = held.begins;
    }

pub returns-in_err-behind-clause-fault : goal.returns-in_err-behind-clause-fault
returns-in_err-behind-clause-fault c =
    let held = c.loop-behind.invariant in
    let p = err_from_is_err_and c.from_residual.result c.from_residual.ensures.1 in
    rw (p.1, p.2) (fails_later _ _ _ _ _ _ _ _ held.begins held.splits held.takes c.in_err-behind.ensures.fault)
