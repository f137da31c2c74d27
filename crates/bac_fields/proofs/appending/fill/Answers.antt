use Rattle.std.proofs.Common.{◌≡◌, true, false, ◌∙◌, ap}
use Rattle.std.specs.Prelude.{is_some, not}
use Rattle.bac_fields.proofs.ToldLemmas.{writes_all, writes_where_it_fits}
use Rattle.bac_fields.proofs.appending.fill.Goals as goal

pub returns : goal.returns
returns c =
    let some : is_some c.tell_frame.result ≡ true = c.is_none.ensures ∙ ap not c.if-is_none.false in
    writes_all c.tell_frame.ensures some c.requires.room

pub unreachable-requires : goal.unreachable-requires
unreachable-requires c =
    let none : is_some c.tell_frame.result ≡ false = c.is_none.ensures ∙ ap not c.if-is_none.true in
    writes_where_it_fits c.tell_frame.ensures none c.requires.fits
