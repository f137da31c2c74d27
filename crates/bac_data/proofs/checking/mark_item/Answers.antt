use Rattle.std.proofs.Common.{◌≡◌, ℕ, List, ◌++◌, take, length, sym, subst}
use Rattle.bac_tag.specs.declared.heads.TagHead.{TagHead}
use Rattle.bac_tag.specs.Heads.{Heads}
use Rattle.bac_tag.specs.Octets.{IsMark}
use Rattle.bac_tag.specs.Spelling.{IsLeast}
use Rattle.bac_data.specs.declared.items.Item.{Item}
use Rattle.bac_data.specs.Events.{SpellsEvent}
use Rattle.bac_data.specs.Reading.{item_event, item_contents, LiesInFront}
use Rattle.bac_data.proofs.MarkLemmas.{head_marked, others_least}
use Rattle.bac_data.proofs.ReadingSteps.{whole_octets}
use Rattle.bac_data.proofs.checking.mark_item.Goals as goal

pub returns-in-Application : goal.returns-in-Application
returns-in-Application c = λ b p.
    let octets = c.args.octets.now in
    let lies = subst (λ (i : Item). LiesInFront i c.args.head (length octets) octets) c.in-Application.is c.requires.lies in
    let whole = whole_octets c.args.item c.args.head octets c.requires.lies in
    let contents = subst (λ (i : Item). octets ≡ take c.args.head octets ++ item_contents i) c.in-Application.is whole in
    subst (λ (l : List ℕ). IsMark l b c.mark_application.result) (sym contents) (c.mark_application.ensures b (subst (λ (i : Item). IsLeast (SpellsEvent (item_event i)) b) c.in-Application.is p))

pub returns-in_default : goal.returns-in_default
returns-in_default c = λ b p.
    let octets = c.args.octets.now in
    let front = take c.args.head octets in
    let i = c.args.item in
    let marks = subst (λ (h : TagHead). (l : List ℕ) → IsLeast (Heads h) l → IsMark front l c.mark_read_head.result) c.head_of-read.ensures c.mark_read_head.ensures in
    subst (λ (l : List ℕ). IsMark l b c.mark_read_head.result) (sym (whole_octets i c.args.head octets c.requires.lies))
    (head_marked i c.requires.item (others_least i (λ number contents written e. c.in_default.not-Application number contents written e)) front c.requires.lies.headed c.mark_read_head.result marks b p)
