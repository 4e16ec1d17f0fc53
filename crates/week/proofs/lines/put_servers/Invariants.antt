-- `week::lines::put_servers` meets its contract. Assumes nothing.
use Rattle.std.proofs.Common.{[], ◌≡◌, get_or}
use Rattle.text.specs.Page.{page, added}
use Rattle.week.specs.PageText.{server_lines}
use Rattle.week.proofs.lines.put_servers.Given as goal

abbrev pub invariant-loop-y : goal.invariant-loop-y
invariant-loop-y l = page l.to l.text ≡ added (server_lines (λ k. get_or l.table k []) l.y) (page 0 l.initial.text)
