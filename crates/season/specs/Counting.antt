-- One log more in any tally. Assumes nothing.
use Rattle.std.specs.Prelude.{false, ℕ, ◌+◌, ◌-◌, ◌^◌, ltb, get_or, replicate}
use Rattle.base.specs.Choice.{pick}
use Rattle.base.specs.Lists.{build}
use Rattle.season.specs.Tallies.{Met}
use Rattle.season.specs.declared.Tally.{Tally}
use Rattle.season.specs.Tallies.{numbers, one_if, accepts, refuses, ends, no_worst, worse}

-- a sum, or the largest number of 64 bits where it is more; no tally of logs comes so far
unfoldable pub summed : ℕ → ℕ → ℕ
summed a b = pick (ltb (a + b) (2 ^ 64)) (a + b) (2 ^ 64 - 1)

-- before any log
unfoldable pub fresh : Tally
fresh = record { logs = 0; accepted = 0; refused = replicate numbers 0; least = 0; running = 0; worst = no_worst; over = false }

-- a tally with one log more
unfoldable pub counted : Tally → Met → Tally
counted tally m =
    record {
      logs = summed tally.logs 1;
      accepted = summed tally.accepted (one_if (accepts m.verdict));
      refused = build numbers (λ n. summed (get_or tally.refused n 0) (one_if (refuses n m.verdict)));
      least = summed tally.least m.least;
      running = summed tally.running m.running;
      worst = worse tally.worst (summed tally.logs 1) m;
      over = ends m.verdict;
    }
