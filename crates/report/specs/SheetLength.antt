-- The sheet of an accepted log fits its room.
use Rattle.std.specs.Prelude.{List, refl, get_or, length}
use Rattle.std.proofs.Math.Option.{none}
use Prim.Native.Nat.{ℕ, zero, suc, ◌*◌, ◌^◌, ◌≤◌, ◌<◌}
use native.Mathlib.Omega.{arith}
use Rattle.base.specs.Lists.{build_at}
use Rattle.base.specs.Refusals.{first}
use Rattle.prices.specs.PriceLaws.{Priced}
use Rattle.prices.specs.Tariff.{Tariff}
use Rattle.prices.specs.Uploads.{upload_conditions}
use Rattle.request_log.specs.Fields.{id_of, request_count, seconds_of, servers_of}
use Rattle.request_log.specs.Conditions.{Accepted}
use Rattle.request_log.specs.AcceptedLaws.{accepted_sound}
use Rattle.model.specs.LogRequests.{requests_in, rates_in}
use Rattle.model.specs.Plan.{plan_cost}
use Rattle.model.proofs.PlanLaws.{plan_best}
use Rattle.planner.specs.Answers.{planned_rows, least_costs}
use Rattle.planner.specs.Fits.{best_small}
use Rattle.planner.specs.LoadedLaws.{log_fits}
use Rattle.planner.specs.RoomLaws.{few_rows}
use Rattle.online.specs.Widths.{running_fits}
use Rattle.online.proofs.ClosingLaws.{closing_fits}
use Rattle.report.specs.declared.Entry.{Entry}
use Rattle.live.specs.Live.{live_cost, opened, running_costs, closing_cost}
use Rattle.live.specs.LiveLaws.{intact_after}
use Rattle.report.specs.Sizes.{entry_room, sheet_room}
use Rattle.report.specs.Sheet.{columns_of, sheet_of}
use Rattle.report.specs.Text.{entry_of, entry_line, entry_lines}
use Rattle.report.specs.TextLaws.{entry_length, lines_longer, sheet_length}

module _ (t : Tariff) (priced : Priced t) (log : List ℕ) (a : Accepted t log) where
  -- its costs have at most 20 digits
  least_small : (k : ℕ) → k ≤ request_count log → get_or (least_costs t none log) k 0 < 2 ^ 64
  unfolding least_costs upload_conditions first
  least_small k h =
      rw (build_at (suc (request_count log)) (λ k. plan_cost (rates_in t none log) (requests_in log) k) k 0 (omega arith), plan_best (rates_in t none log) (requests_in log) k)
      (omega (arith, best_small (rates_in t none log) (requests_in log) (request_count log) (log_fits t log a priced none refl) k k (omega arith) h))

  running_small : (i : ℕ) → i < request_count log → get_or (running_costs t log) i 0 < 2 ^ 64
  unfolding running_costs live_cost
  running_small i h =
      let s = intact_after t priced log a (suc i) h in
      rw (build_at (request_count log) (live_cost (opened t log) (id_of log) (seconds_of log) (servers_of log)) i 0 h)
      (running_fits _ s.priced (omega (arith, s.held_most)) (omega (arith, s.transfers_most, s.requests_most)))

  closing_small : closing_cost t log < 2 ^ 64
  unfolding closing_cost
  closing_small = closing_fits _ (intact_after t priced log a (request_count log) (omega arith))

  abbrev entry : ℕ → Entry
  entry = entry_of (columns_of t log)

  -- a line
  line_short : (i : ℕ) → i < request_count log → length (entry_line (entry i)) ≤ entry_room
  unfolding entry_of columns_of
  line_short i h =
      let f = accepted_sound t log a in
      let o = f.in_order i h in
      entry_length (entry i) (omega (arith, f.requests_most)) (omega (arith, o.second_most)) (omega (arith, o.server_below, f.setup.servers_most))
      (least_small (suc i) h) (running_small i h)

  -- its lines
  lines_short : (k : ℕ) → k ≤ request_count log → length (entry_lines entry k) ≤ entry_room * k
  unfolding entry_lines
  lines_short zero h = omega arith
  lines_short (suc k) h = lines_longer entry k (lines_short k (omega arith)) (line_short k h)

  -- all of it
  pub sheet_fits : length (sheet_of t log) ≤ sheet_room
  unfolding sheet_of
  sheet_fits =
      let few = (accepted_sound t log a).requests_most in
      sheet_length entry (request_count log) (length (planned_rows t none log)) (closing_cost t log) few (omega (arith, few_rows t log a, few)) closing_small
      (lines_short (request_count log) (omega arith))
