use Rattle.bac_stream.specs.Judging.{Refuses}
use Rattle.bac_stream.specs.Lines.{ChecksAs, NormalisesTo, ShowsAs}
use Rattle.bac_stream.proofs.FeedLemmas.{tolerant_gives, strict_gives}
use Rattle.bac_stream.proofs.HeadlineLemmas.{decoded_gives, decoded_strictly_gives, runs_by_records}
use Rattle.bac_stream.proofs.laws.headline.Goals as goal

pub returns-clause-canonical : goal.returns-clause-canonical
returns-clause-canonical c b spelling =
    let least = c.frames_have_canonical_octets.ensures spelling.0 b spelling.1 in (least.0, (spelling.0, spelling.1, least.1))

pub returns-clause-meaning : goal.returns-clause-meaning
returns-clause-meaning c = c.canonical_octets_tell_the_meaning.ensures

pub returns-clause-pieces : goal.returns-clause-pieces
returns-clause-pieces c mode feeds intake fed = let given = c.feeds_give_records.ensures mode feeds intake fed in (given.0, given.1, given.2)

pub returns-clause-files : goal.returns-clause-files
returns-clause-files c = λ mode. (runs_by_records (ShowsAs mode) (λ n octets. ⊥) mode, runs_by_records (ChecksAs mode) (λ n octets. ⊥) mode, runs_by_records (NormalisesTo mode) (Refuses mode) mode)

pub returns-clause-decoded : goal.returns-clause-decoded
returns-clause-decoded c = decoded_gives c.frames_have_one_value.ensures

pub returns-clause-decoded_strictly : goal.returns-clause-decoded_strictly
returns-clause-decoded_strictly c = decoded_strictly_gives c.frames_have_one_value.ensures

pub returns-clause-tolerant : goal.returns-clause-tolerant
returns-clause-tolerant c = tolerant_gives c.frames_have_one_value.ensures

pub returns-clause-strict : goal.returns-clause-strict
returns-clause-strict c = strict_gives c.frames_have_one_value.ensures

pub returns-clause-segments : goal.returns-clause-segments
returns-clause-segments c plan octets segments key calls desk fine cut among runs =
    (c.a_desk_joins_what_was_cut.ensures.joined plan octets segments key calls desk fine cut among runs, c.a_desk_joins_what_was_cut.ensures.or_none plan octets segments key calls desk fine cut among runs)

pub returns-clause-reassembled : goal.returns-clause-reassembled
returns-clause-reassembled c plan octets segments key calls r fine cut are delivers =
    (c.what_was_cut_is_joined.ensures.joined plan octets segments key calls r fine cut are delivers, c.what_was_cut_is_joined.ensures.or_none plan octets segments key calls r fine cut are delivers)
