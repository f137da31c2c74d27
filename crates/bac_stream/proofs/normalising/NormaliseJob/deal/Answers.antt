use Rattle.std.proofs.Common.{◌≡◌, None, rules}
use Rattle.bac_stream.proofs.NormalisingLemmas.{kept_dealt, rewritten_dealt}
use Rattle.bac_stream.proofs.normalising.NormaliseJob.deal.Goals as goal

pub returns-then-is_none-clause-dealt : goal.returns-then-is_none-clause-dealt
returns-then-is_none-clause-dealt c =
    let e = c.in-Ok.ensures in
    let none : c.in-Ok.mark ≡ None = search (rules, c.is_none.ensures, c.if-is_none.true) in
    kept_dealt c.args.self.now.mode c.args._number c.args.octets.now c.args.out.now.items c.append_record.new.out.items c.accepted.result c.in-Ok.mark e.accepted none e.canonical c.in_ok-append_record.ensures.ok c.accepted.ensures.canonical c.accepted.ensures.accepted

pub returns-clause-dealt : goal.returns-clause-dealt
returns-clause-dealt c =
    let e = c.in_ok-mark.ensures in
    rewritten_dealt c.args.self.now.mode c.args._number c.args.octets.now c.args.out.now.items c.judge.new.out.items c.accepted-2.result c.in_ok-mark.mark e.accepted c.requires e.canonical c.accepted-2.ensures.canonical c.accepted-2.ensures.accepted
