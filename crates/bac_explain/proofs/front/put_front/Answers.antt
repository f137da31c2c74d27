use Rattle.bac_explain.proofs.FrontLemmas.{front-put}
use Rattle.bac_explain.proofs.front.put_front.Goals as goal

pub returns : goal.returns
returns c = front-put c.args.typed c.args.octets.now c.put_known-contents.result.0 c.put_contents.result c.args.room.now c.put_known-contents.new.room c.put_contents.new.room c.put_known-contents.result.1 c.put_known-contents.ensures c.put_contents.ensures
