use Rattle.std.proofs.Common.{◌≡◌, List, ℕ, ◌++◌, ◌∙◌, sym, ap, subst, append_assoc}
use Rattle.bac_tag.specs.Heads.{Heads}
use Rattle.bac_tag.specs.Spelling.{AppendsLeast, IsLeast}
use Rattle.bac_tag.specs.declared.heads.TagHead.{TagHead}
use Rattle.bac_data.specs.declared.items.Item.{Item}
use Rattle.bac_data.specs.declared.items.Item.TheVariants as item
use Rattle.bac_data.specs.Events.{SpellsEvent}
use Rattle.bac_data.specs.Reading.{item_event, item_contents, HasLeastContents}
use Rattle.bac_data.proofs.MarkLemmas.{least_whole, others_least, written_told}
use Rattle.bac_data.proofs.ResultLemmas.{on_ok}
use Rattle.bac_data.proofs.writing.append_item.Goals.{in-Application+else-not-written, in_default}
use Rattle.bac_data.proofs.writing.append_item.Goals as goal

-- what is appended for an item, where it is for one that is the same
appends_for : (item other : Item) (old new : List ℕ) → item ≡ other → AppendsLeast (SpellsEvent (item_event other)) old new → AppendsLeast (SpellsEvent (item_event item)) old new
appends_for item other old new e h = subst (λ (i : Item). AppendsLeast (SpellsEvent (item_event i)) old new) (sym e) h

pub returns-then-not-written : goal.returns-then-not-written
returns-then-not-written c =
    on_ok c.append_application.result c.append_application.ensures
    (appends_for c.args.item (item.Application c.in-Application.number c.in-Application.contents c.in-Application.written) c.args.kept.now c.append_application.new.self c.in-Application.is)

pub returns : goal.returns
returns c =
    let a = c.in_ok-append_head.ensures in
    let least : HasLeastContents c.args.item = elim c.match-item.branch [
      | in-Application+else-not-written w ↦ (written_told c.args.item w.in-Application.number w.in-Application.contents w.in-Application.written w.in-Application.is c.requires).0 w.if-not-written.false
      | in_default w ↦ others_least c.args.item w.in_default.not-Application
    ] in
    on_ok c.extend.result c.extend.ensures (λ e. record {
      more = a.more ++ item_contents c.args.item;
      is_least = least_whole c.args.item c.requires a.more (subst (λ (h : TagHead). IsLeast (Heads h) a.more) c.head_of.ensures a.is_least) least;
      new_is = e ∙ ap (λ (l : List ℕ). l ++ c.contents_of.result.now) a.new_is ∙ append_assoc c.args.kept.now a.more c.contents_of.result.now ∙ ap (λ (l : List ℕ). c.args.kept.now ++ (a.more ++ l)) c.contents_of.ensures;
    })
