use Rattle.std.proofs.Common.{◌≡◌, List, take, subst, inl, inr}
use Rattle.bac_tag.specs.declared.expecting.Expected.{Expected}
use Rattle.bac_tag.specs.Expected.{HeadsOfOne}
use Rattle.bac_tag.specs.Spelling.{IsRefusal}
use Rattle.bac_data.specs.Reading.{next_heads}
use Rattle.bac_data.proofs.StandingLemmas.{told_refused, some_heads}
use Rattle.bac_data.proofs.items.read_listed_head.Goals as goal
use Rattle.bac_data.proofs.items.read_listed_head.Goals.{then-room, else-room}

pub returns-in-Err-clause-refused : goal.returns-in-Err-clause-refused
returns-in-Err-clause-refused c =
    let heads : take c.if-room.count c.next_heads-heads.result ≡ next_heads c.args.room c.args.closing =
    some_heads c.args.room c.args.closing c.if-room.count c.next_heads-heads.result c.next_heads-heads.ensures
    (elim c.if-room.branch [
      | then-room w ↦ inl (w.if-room.true, w.count-is)
      | else-room w ↦ inr (w.if-room.false, w.count-is)
    ]) in
    told_refused (HeadsOfOne (next_heads c.args.room c.args.closing)) c.args.octets.now c.in-Err.refusal c.told.result
    (subst (λ (several : List Expected). IsRefusal (HeadsOfOne several) c.args.octets.now c.in-Err.refusal) heads c.in-Err.ensures.refused)
    c.told.ensures.place c.told.ensures.why
