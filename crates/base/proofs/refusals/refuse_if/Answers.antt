-- `base::refusals::refuse_if` meets its contract. Assumes nothing.
use Rattle.std.proofs.Common.{[], sym}
use Rattle.base.specs.Refusals.{refuse, first}
use Rattle.base.specs.RefusalLaws.{first_met, first_failed}
use Rattle.base.proofs.refusals.refuse_if.Goals as goal

pub returns-then-holds : goal.returns-then-holds
returns-then-holds c = sym (first_met (refuse c.args.reason c.args.place c.args.holds) [] c.if-holds.true)

pub returns : goal.returns
unfolding first
returns c = sym (first_failed (refuse c.args.reason c.args.place c.args.holds) [] c.if-holds.false)
