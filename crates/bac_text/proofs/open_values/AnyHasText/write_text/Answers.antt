use Rattle.std.proofs.Common.{◌++◌, take, ap, ◌∙◌}
use Rattle.bac_text.specs.WalkText.{events_text}
use Rattle.std.specs.Prelude.{true}
use Rattle.bac_text.proofs.WalkLemmas.{walk_begins}
use Rattle.bac_text.proofs.open_values.AnyHasText.write_text.Goals as goal

pub loop-event-init : goal.loop-event-init
loop-event-init c = (
  c.in_ok-end.ensures.end,
  (_, c.in_ok-end.ensures.text),
  ap (λ es. take c.in_ok-end.end c.write_word.new.out.items ++ events_text true es) (c.into_iter-event-iterator.ensures.into_iter_gives ∙ c.events-event-items.ensures.events)
      ∙ walk_begins (take c.args.at c.args.out.now.items) (take c.in_ok-end.end c.write_word.new.out.items) c.args.self.now c.in_ok-end.ensures.text,
)
