-- `online::state::member` meets its contract. Assumes nothing.
use borrow.Author.Rules.{rules}
use Rattle.online.specs.Walk.{lowest_member}
use Rattle.online.proofs.state.member.Goals as goal

pub overflow_cast-result : goal.overflow_cast-result
overflow_cast-result c =
    let l = lowest_member 64 c.args.set c.ranges.set.fits c.requires in
    search (rules, l)

pub returns : goal.returns
returns c =
    let l = lowest_member 64 c.args.set c.ranges.set.fits c.requires in
    rw c.lowest.ensures l
