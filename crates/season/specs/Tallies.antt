-- The tally of the logs met (02's Req 12). Assumes nothing.
use Rattle.std.specs.Prelude.{Bool, true, false, not, List, [], ◌∷◌, ℕ, suc, ◌*◌, ltb, eqb, length, Result, Ok, Err}
use Rattle.base.specs.declared.Refusal.{Refusal}
use Rattle.base.specs.Refusals.{Verdict}
use Rattle.base.specs.Choice.{pick, either, both}
use Rattle.base.specs.Lists.{build}
use Rattle.model.specs.Sums.{total}
use Rattle.season.specs.declared.bills.Bill.{Bill}
use Rattle.season.specs.declared.Worst.{Worst}
use Rattle.season.specs.declared.Tally.{Tally}
use Rattle.base.specs.Reasons.{number}

-- one log: how it was answered, how many requests it has, its least and its running cost; zeros of a refused one
pub record Met : Type 0 where
  pub verdict : Verdict
  pub requests : ℕ
  pub least : ℕ
  pub running : ℕ

-- a log as the code has it: what is billed of an accepted one, or why it is refused
unfoldable pub met_of : Result Bill Refusal → Met
met_of (Ok b) = record { verdict = Ok tt; requests = b.requests; least = b.least; running = b.running }
met_of (Err r) = record { verdict = Err r; requests = 0; least = 0; running = 0 }

-- refusals are counted by their numbers, all below 46
abbrev pub numbers : ℕ
numbers = 46

-- 1 for a test that holds
abbrev pub one_if : Bool → ℕ
one_if b = pick b 1 0

-- the log is accepted; it is refused by a number
unfoldable pub accepts : Verdict → Bool
accepts (Ok _) = true
accepts (Err r) = false

unfoldable pub refuses : ℕ → Verdict → Bool
refuses n (Ok _) = false
refuses n (Err r) = eqb n (number r.reason)

-- a log refused by 1 to 9 or by 45 ends the report
unfoldable pub ends : Verdict → Bool
ends (Ok _) = false
ends (Err r) = either (ltb (number r.reason) 10) (eqb (number r.reason) 45)

-- ---- the worst log

-- no log yet, whose place is 0
abbrev pub no_worst : Worst
no_worst = record { place = 0; running = 0; least = 0 }

-- a log with a request has a ratio of its running to its least cost; is that larger than the worst one's
unfoldable pub larger : Worst → Met → Bool
larger w m = either (eqb w.place 0) (ltb (w.running * m.least) (m.running * w.least))

-- the worst so far, or the log at a place if its ratio is larger
unfoldable pub worse : Worst → ℕ → Met → Worst
worse w place m =
    pick (both (not (eqb m.requests 0)) (larger w m)) (record { place = place; running = m.running; least = m.least }) w

-- so for each log of a list, whose places go on after some
unfoldable pub worst_of : Worst → ℕ → List Met → Worst
worst_of w before [] = w
worst_of w before (m ∷ ms) = worst_of (worse w (suc before) m) (suc before) ms

-- ---- the tally

-- one of them ends the report
unfoldable pub ended : List Met → Bool
ended [] = false
ended (m ∷ ms) = either (ends m.verdict) (ended ms)

-- of all logs met: how many there are, how many are accepted, how many refused by each number, the totals of the accepted ones' least and
-- running costs, the worst of them, and whether one ends the report
unfoldable pub tally_of : List Met → Tally
tally_of ms =
    record {
      logs = length ms;
      accepted = total (λ m. one_if (accepts m.verdict)) ms;
      refused = build numbers (λ n. total (λ m. one_if (refuses n m.verdict)) ms);
      least = total (λ m. m.least) ms;
      running = total (λ m. m.running) ms;
      worst = worst_of no_worst 0 ms;
      over = ended ms;
    }
