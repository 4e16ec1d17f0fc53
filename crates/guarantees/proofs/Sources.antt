-- Every transfer of the plan leaves the nearest holder, proved.
use Rattle.std.specs.Prelude.{ℕ, ◌≤◌}
use mathlib.Core.List.{List, Memᴰ}
use Rattle.std.proofs.Math.Option.{Option}
use Rattle.std.proofs.Math.Path.{◌≡◌}
use Rattle.std.proofs.Common.{arith}
use Rattle.model.specs.Rates.{Rates}
use Rattle.prices.specs.Tariff.{Tariff}
use Rattle.request_log.specs.Fields.{server_count_of, request_count}
use Rattle.request_log.specs.Conditions.{Accepted}
use Rattle.model.specs.Requests.{Requests, Within}
use Rattle.model.specs.Schedule.{move, transfer}
use Rattle.model.specs.Marking.{S, source, rows}
use Rattle.model.specs.Plan.{plan, plan_rows}
use Rattle.model.specs.LogRequests.{requests_in, rates_in}
use Rattle.model.proofs.LogRequestLaws.{log_within}
use Rattle.model.proofs.HolderLaws.{holder_below}
use Rattle.model.proofs.MarkLaws.{sends_S}
use Rattle.model.proofs.RowMembers.{Made, as_hold, as_transfer, as_upload, rows_row, transfer_in}
use Rattle.model.proofs.MarkingRows.{source_nearest}
use Rattle.guarantees.specs.Sources.{NearestHolder, Serves, Sourced}

module _ (p : Rates) (count : ℕ) (q : Requests) (n : ℕ) (within : Within count q n) where
  from : ℕ → ℕ
  from = source q count (plan p q n) n

  near : (i : ℕ) → 1 ≤ i → i ≤ n → plan p q n i ≡ S → NearestHolder q (plan p q n) n i (from i)
  unfolding from
  near i a b e =
      let N = source_nearest q count (plan p q n) n within i a b e in
      let below = holder_below q (plan p q n) n count within i a b in
      record { there = N.passes; none_nearer = λ z h. N.least z (below z h) h; lower = λ z h. N.lower z (below z h) h }

  pub sourced : Sourced p count q n
  unfolding plan_rows rows from
  sourced = record { each = each; every_s = λ i a b e. (from i, near i a b e, transfer_in q (plan p q n) n from count i a b e) }
    where
      each : (y x τ : ℕ) → Memᴰ (move (transfer y x τ)) (plan_rows p q count n) → Serves p q n y x τ
      each y x τ r = go (rows_row q (plan p q n) n from count r)
        where
          go : Made q (plan p q n) n from count (move (transfer y x τ)) → Serves p q n y x τ
          go (as_hold h) = absurd (let z : ◌≡◌ {A = ℕ} 0 1 = cc h.is in omega arith)
          go (as_upload h) = absurd (let z : ◌≡◌ {A = ℕ} 0 1 = cc h.is in omega arith)
          go (as_transfer s) =
              let e = sends_S (plan p q n s.request) s.passes in
              let source_is : y ≡ from s.request = cc s.is in
              record {
                request = s.request;
                first = s.first;
                upto = s.upto;
                sent = e;
                target = cc s.is;
                second = cc s.is;
                nearest = rw source_is (near s.request s.first s.upto e);
              }

-- for every accepted log, and so for a cut one
pub log_sourced : (t : Tariff) (u : Option ℕ) (log : List ℕ) → Accepted t log → Sourced (rates_in t u log) (server_count_of log) (requests_in log) (request_count log)
log_sourced t u log a = sourced (rates_in t u log) (server_count_of log) (requests_in log) (request_count log) (log_within t log a)
