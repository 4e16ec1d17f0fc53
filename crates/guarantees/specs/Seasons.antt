-- The season (02's Req 12). The input may come in any pieces: none is refused, and the report is that of the whole. Of the logs met each is counted once, and the totals are the
-- sums over them; the total running cost is at least the total least cost and at most three times that, by any table; `worst` names the first log of the largest ratio. By the built-in
-- table every total fits 64 bits and every cost 32, so the products that ratios are compared by fit 64.
use Rattle.std.specs.Prelude.{List, ◌↔◌, ◌≢◌, ◌≡◌, refl, ℕ, suc, ◌+◌, ◌*◌, ◌^◌, ◌≤◌, ◌<◌, length, take, replicate, Ok, Err}
use Rattle.std.proofs.Common.{ap, ◌∙◌, arith}
use Rattle.std.proofs.lemmas.List.{length-replicate}
use Rattle.prices.specs.PriceLaws.{given_priced}
use Rattle.prices.specs.Tariff.{Tariff, Given, built_in}
use Rattle.request_log.specs.Sizes.{log_room}
use Rattle.request_log.specs.Fields.{total_length}
use Rattle.request_log.specs.Conditions.{head_verdict, verdict_of}
use Rattle.request_log.specs.HeadLaws.{nine}
use Rattle.model.specs.Sums.{total}
use Rattle.season.specs.declared.Worst.{Worst}
use Rattle.season.specs.declared.Tally.{Tally}
use Rattle.season.specs.Tallies.{tally_of}
use Rattle.season.specs.Met.{most_logs, one_too_many, log_length, met_in, report}
use Rattle.season.specs.ReportText.{report_text}
use Rattle.season.specs.Counting.{fresh}
use Rattle.season.specs.Steps.{finished}
use Rattle.season.specs.Answers.{gathered_in}
use Rattle.season.specs.TallyLaws.{SmallLog, each_at, all_counted, totals_fair, totals_fit, product_fits}
use Rattle.season.specs.Claims.{Kept, fed_pieces, Passes, joined, log_at, NamesWorst}
use Rattle.season.specs.WorstLaws.{worst_none, worst_named, worst_unique}
use Rattle.season.specs.MetLaws.{each_met, met_few, fair, rated, numbered, small, built_in_fits}
use Rattle.season.specs.Whole as whole
use Rattle.season.specs.Whole.{whole_counted}
use Rattle.season.specs.Pieces.{Ready, after_pieces, pieces_pass}

-- ---- any pieces

-- a season before any piece, with a room of zeros of some length
abbrev pub at_first : ℕ → Kept
at_first room = record { season = record { tally = fresh; held = 0 }; room = replicate room 0 }

-- THE PIECES: with a room for any log no piece is refused, and the report after them is that of the whole input, however it is cut
pub record AnyPieces (room : ℕ) (pieces : List (List ℕ)) : Type 0 where
  pub passes : Passes built_in (at_first room) pieces
  pub reports : let k = fed_pieces built_in (at_first room) pieces in report_text (finished built_in (gathered_in k.season k.room)) ≡ report built_in (joined pieces)

pub any_pieces : (room : ℕ) (pieces : List (List ℕ)) → log_room ≤ room → AnyPieces room pieces
unfolding report
any_pieces room pieces h =
    let ready : Ready (at_first room) = record { roomy = rw (length-replicate {A = ℕ} room 0) h; short = omega arith } in
    record {
      passes = pieces_pass built_in (at_first room) pieces ready (omega arith);
      reports =
          ap (λ (g : _). report_text (finished built_in g)) (after_pieces built_in (at_first room) pieces ready (omega arith))
          ∙ ap report_text (whole_counted built_in refl built_in_fits (joined pieces));
    }

-- ---- counts and totals

-- the tally of an input
abbrev pub season_of : Tariff → List ℕ → Tally
season_of t s = tally_of (met_in t s)

-- THE COUNTS: each log met is accepted or refused by one of the numbers counted, and no more are met than the most that are looked at and one
pub record Counted (t : Tariff) (s : List ℕ) : Type 0 where
  pub all : (season_of t s).accepted + total (λ c. c) (season_of t s).refused ≡ length (met_in t s)
  pub few : length (met_in t s) ≤ suc most_logs

pub counted : (t : Tariff) → t.judged ≡ Ok tt → (s : List ℕ) → Counted t s
unfolding met_in tally_of one_too_many
counted t j s = record { all = all_counted (met_in t s) (each_met t _ (numbered t j) (omega arith) most_logs s); few = met_few t most_logs s }

-- THE TOTALS: the sums over the logs met, of which a refused one has none; between once and three times the least, by any table
pub record Totals (t : Tariff) (s : List ℕ) : Type 0 where
  pub least_is : (season_of t s).least ≡ total (λ m. m.least) (met_in t s)
  pub running_is : (season_of t s).running ≡ total (λ m. m.running) (met_in t s)
  pub no_less : (season_of t s).least ≤ (season_of t s).running
  pub no_more : (season_of t s).running ≤ 3 * (season_of t s).least

pub totals : (t : Tariff) → Given t → (s : List ℕ) → Totals t s
unfolding met_in tally_of one_too_many
totals t g s =
    let f = totals_fair (met_in t s) (each_met t _ (fair t (given_priced t g)) (omega arith, omega arith) most_logs s) in
    record { least_is = refl; running_is = refl; no_less = f.0; no_more = f.1 }

-- ---- the worst log

-- THE WORST: named by its place from 1, refused logs counted, it is the first of the largest ratio among the accepted logs that have one, those with a request; the only such; and none is named exactly if no log has one
pub record WorstNamed (t : Tariff) (s : List ℕ) : Type 0 where
  pub names : (season_of t s).worst.place ≢ 0 → NamesWorst (met_in t s) (season_of t s).worst
  pub only : (w : Worst) → NamesWorst (met_in t s) w → (season_of t s).worst.place ≢ 0 → w ≡ (season_of t s).worst
  pub none : ((season_of t s).worst.place ≡ 0) ↔ ((j : ℕ) → j < length (met_in t s) → (log_at (met_in t s) j).requests ≡ 0)

pub worst : (t : Tariff) → Given t → (s : List ℕ) → WorstNamed t s
unfolding met_in one_too_many
worst t g s =
    let named = worst_named (met_in t s) (each_met t _ (rated t (given_priced t g)) (λ n. absurd (n refl)) most_logs s) in
    record { names = named; only = λ w n h. worst_unique (met_in t s) w (season_of t s).worst n (named h); none = worst_none (met_in t s) }

-- ---- sizes

-- THE WIDTHS, by the built-in table: no total passes 64 bits, and no product of two costs does
pub record Widths (s : List ℕ) : Type 0 where
  pub totals_fit : ((season_of built_in s).least < 2 ^ 64) × ((season_of built_in s).running < 2 ^ 64)
  pub costs_fit : (j : ℕ) → j < length (met_in built_in s) → ((log_at (met_in built_in s) j).least < 2 ^ 32) × ((log_at (met_in built_in s) j).running < 2 ^ 32)

pub widths : (s : List ℕ) → Widths s
unfolding met_in one_too_many
widths s =
    let costs = each_met built_in SmallLog small (omega arith, omega arith) most_logs s in
    record { totals_fit = totals_fit (met_in built_in s) (met_few built_in most_logs s) costs; costs_fit = λ j h. each_at SmallLog (met_in built_in s) j _ costs h }

-- the products that two logs' ratios are compared by
pub products : (a b : ℕ) → a < 2 ^ 32 → b < 2 ^ 32 → a * b < 2 ^ 64
products = product_fits

-- ---- 9

-- THE LENGTH: the log at the front of what is left, whose header passes, is refused by 9 exactly if fewer bytes are left than its header says
pub cut_short : (t : Tariff) (s : List ℕ) → head_verdict t s ≡ Ok tt → (verdict_of t (take (log_length s) s) ≡ Err nine) ↔ (length s < total_length s)
cut_short t s e = whole.cut_short t s e
