-- `quote::requests::sum_part` meets its contract. Assumes nothing.
use mathlib.Core.Path.{◌≡◌}
use Rattle.request_log.specs.Fields.{request_count}
use Rattle.model.specs.LogRequests.{requests_in}
use Rattle.model.specs.Quote.{sum_part}
use Rattle.quote.specs.Lasts.{lasts}
use Rattle.quote.proofs.requests.sum_part.Given as goal

abbrev pub invariant-loop-k : goal.invariant-loop-k
invariant-loop-k l = (l.k-end ≡ request_count l.log) × (l.lasts ≡ lasts l.log l.k) × (l.sum ≡ sum_part l.p (requests_in l.log) l.k)
