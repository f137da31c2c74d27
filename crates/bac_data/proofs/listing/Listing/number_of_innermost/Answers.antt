use Rattle.bac_data.specs.Listings.{listed_nodes}
use Rattle.bac_data.proofs.LinkLemmas.{innermost_there, innermost_number}
use Rattle.bac_data.proofs.listing.Listing.number_of_innermost.Goals as goal

pub opening_at-number-requires-clause-some : goal.opening_at-number-requires-clause-some
opening_at-number-requires-clause-some c =
    let l = c.args.self.now in
    let (indices, numbers, deep, linked) = c.requires.linked in
    innermost_there (listed_nodes l) indices numbers l.innermost l.depth deep c.if-self-eq0.false linked

pub returns : goal.returns
returns c = λ indices numbers deep linked.
    let l = c.args.self.now in
    innermost_number (listed_nodes l) indices numbers l.innermost l.depth l.number c.opening_at-number.result.0 c.opening_at-number.result.1 deep c.if-self-eq0.false linked c.opening_at-number.ensures
