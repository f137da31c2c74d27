use Rattle.bac_npdu.proofs.FrameOctets.{frame}
use Rattle.bac_npdu.proofs.laws.spellings_are_octets.Goals as goal

pub returns : goal.returns
returns c = frame
