use Rattle.bac_productions.specs.Laws.Least.{least_alike}
use Rattle.bac_apdu.proofs.FormerLemmas.{back}
use Rattle.bac_npdu_parts.proofs.FormerLemmas.{frame_same}
use Rattle.bac_npdu_parts.proofs.laws.former_frames_are_kept.Goals as goal

pub returns-clause-spelled : goal.returns-clause-spelled
returns-clause-spelled c = frame_same c.former_apdus_are_kept.ensures.spelled

pub returns-clause-canonical : goal.returns-clause-canonical
returns-clause-canonical c f b kept s =
    let same = frame_same c.former_apdus_are_kept.ensures.spelled f b in
    let now = c.frames_have_canonical_octets.ensures f b ((same b kept s).0 s) in
    (now.0, least_alike (λ d. back (same d kept s)) now.1)

pub returns-clause-least : goal.returns-clause-least
returns-clause-least c f b kept l = least_alike (λ d. frame_same c.former_apdus_are_kept.ensures.spelled f b d kept l.member) l
