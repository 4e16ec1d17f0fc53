-- The sheet of an accepted log: the online cache goes through its requests, and zeros after the answers of the calls that it is made of do not show.
use Rattle.std.specs.Prelude.{List, [], ◌∷◌, ◌≡◌, ℕ, length, Err}
use Rattle.std.proofs.Math.Option.{none}
use Rattle.std.proofs.Common.{ap, ◌∙◌}
use Rattle.base.specs.Lists.{build, build_same}
use Rattle.base.specs.Refusals.{short, otherwise, Verdict}
use Rattle.base.specs.declared.Refusal.{Refusal}
use Rattle.prices.specs.PriceLaws.{Priced}
use Rattle.prices.specs.Tariff.{Tariff}
use Rattle.request_log.specs.Fields.{id_of, request_count, seconds_of, servers_of}
use Rattle.request_log.specs.Conditions.{Accepted, verdict_of}
use Rattle.request_log.specs.ConditionLaws.{after_log}
use Rattle.online.specs.declared.Cache.{Cache}
use Rattle.online.specs.Answers.{closed_by, closed_answer}
use Rattle.planner.specs.Answers.{marks_of, planned_rows, least_costs}
use Rattle.text.specs.Answers.{room_verdict}
use Rattle.report.specs.Alike.{Alike, state_alike, mark_alike, cost_alike, sheet_alike}
use Rattle.live.specs.Live.{state_after, live_mark, live_cost, live_marks, running_costs, closing_cost, opened}
use Rattle.live.specs.LiveLaws.{Runs, goes_on, closes}
use Rattle.live.specs.Replies.{close_cost}
use Rattle.report.specs.Sheet.{columns_of, sheet_of, sheet_verdict}
use Rattle.report.specs.Text.{columns, entry_of, sheet_text}

-- the sheet's verdict: the log's, then whether it has room
pub verdict_parts : (t : Tariff) (log : List ℕ) (room : ℕ) → sheet_verdict t log room ≡ otherwise (verdict_of t log) (room_verdict (sheet_of t log) room)
unfolding sheet_verdict room_verdict
verdict_parts t log room = after_log t log (short (length (sheet_of t log)) room ∷ [])

-- a refused log is refused
pub sheet_refused : (t : Tariff) (log : List ℕ) (room : ℕ) (r : Refusal) → verdict_of t log ≡ Err r → sheet_verdict t log room ≡ Err r
sheet_refused t log room r e = verdict_parts t log room ∙ ap (λ (v : Verdict). otherwise v (room_verdict (sheet_of t log) room)) e

-- the sheet of an accepted log needs room
pub sheet_accepted : (t : Tariff) (log : List ℕ) (room : ℕ) → Accepted t log → sheet_verdict t log room ≡ room_verdict (sheet_of t log) room
unfolding Accepted
sheet_accepted t log room a = verdict_parts t log room ∙ ap (λ (v : Verdict). otherwise v (room_verdict (sheet_of t log) room)) a

module _ (t : Tariff) (priced : Priced t) (log : List ℕ) (a : Accepted t log) where
  -- the online cache goes through its requests, read from lists that hold them
  pub runs_read : (seconds servers : List ℕ) → Alike seconds (seconds_of log) → Alike servers (servers_of log)
      → Runs (opened t log) (id_of log) seconds servers (request_count log)
  unfolding Runs
  runs_read seconds servers h k i l =
      rw (state_alike (opened t log) (id_of log) seconds servers (seconds_of log) (servers_of log) h k i, h i, k i) (goes_on t priced log a i l)

-- lists that hold what the calls answer make the sheet
pub sheet_made : (t : Tariff) (log : List ℕ) (n rows closing : ℕ) (cache : Cache) (id seconds servers plan live least costs : List ℕ)
    → n ≡ request_count log → rows ≡ length (planned_rows t none log) → cache ≡ opened t log → id ≡ id_of log
    → Alike seconds (seconds_of log) → Alike servers (servers_of log) → Alike plan (marks_of t none log) → Alike least (least_costs t none log)
    → Alike live (build n (live_mark cache id seconds servers)) → Alike costs (build n (live_cost cache id seconds servers))
    → closing ≡ closing_cost t log
    → sheet_text (entry_of (columns seconds servers plan live least costs)) n rows closing ≡ sheet_of t log
unfolding sheet_of columns_of live_marks running_costs
sheet_made t log n rows closing cache id seconds servers plan live least costs e f g w h k l m p q z =
    rw (e, f, z)
    (sheet_alike (columns seconds servers plan live least costs) (columns_of t log) (request_count log) (length (planned_rows t none log)) (closing_cost t log) h k l (λ i. rw (← marks) (p i)) m
    (λ i. rw (← amounts) (q i)))
  where
    marks : build n (live_mark cache id seconds servers) ≡ live_marks t log
    marks =
        rw (e, g, w)
        (build_same (request_count log) _ _ (λ j b. mark_alike (opened t log) (id_of log) seconds servers (seconds_of log) (servers_of log) h k j))

    amounts : build n (live_cost cache id seconds servers) ≡ running_costs t log
    amounts =
        rw (e, g, w)
        (build_same (request_count log) _ _ (λ j b. cost_alike (opened t log) (id_of log) seconds servers (seconds_of log) (servers_of log) h k j))

-- the close after a log's requests gives its closing cost
pub closing_made : (t : Tariff) → Priced t → (log : List ℕ) (n : ℕ) (cache end : Cache) (id seconds servers : List ℕ) → Accepted t log
    → n ≡ request_count log → cache ≡ opened t log → id ≡ id_of log → Alike seconds (seconds_of log) → Alike servers (servers_of log)
    → end ≡ state_after cache id seconds servers n → close_cost (closed_answer end).outcome ≡ closing_cost t log
unfolding closing_cost close_cost closed_answer closed_by
closing_made t priced log n cache end id seconds servers a e g w h k s =
    let state : end ≡ state_after (opened t log) (id_of log) (seconds_of log) (servers_of log) (request_count log) =
    s ∙ rw (e, g, w) (state_alike (opened t log) (id_of log) seconds servers (seconds_of log) (servers_of log) h k (request_count log)) in
    rw (state, closes t priced log a)
