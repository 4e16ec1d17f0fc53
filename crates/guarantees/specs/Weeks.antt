-- 01's worked weeks A to I, with 02's closing costs, its quotes of A to F and its uploads: one table, and one proof of all of it by computing the definitions.
use Rattle.std.specs.Prelude.{true, List, [], ◌∷◌, ◌++◌, ◌≡◌, refl, ℕ, replicate}
use Rattle.std.proofs.Math.Option.{none, some}
use Rattle.base.specs.Lists.{build, same}
use Rattle.base.specs.Refusals.{first, each}
use Rattle.base.specs.Sets.{has, put, lowest}
use Rattle.base.specs.Nearest.{distance, none_nearer, nearest}
use Rattle.prices.specs.Prices.{classes, prices_of, outside, window}
use Rattle.checksum.specs.Sum.{sum_from, sum_of}
use Rattle.request_log.specs.Fields.{version, class_of, server_count_of, home_of, request_count, requests_offset, id_offset, id_of, total_length, written_sum, length_for, header_of, seconds_of, servers_of}
use Rattle.request_log.specs.Conditions.{setup_conditions, offered_conditions, header_conditions, before, request_conditions, log_conditions, verdict_of}
use Rattle.request_log.specs.Contents.{head, request_bytes, requests_bytes, body, encode}
use Rattle.prices.specs.Uploads.{upload_conditions}
use Rattle.model.specs.Sums.{sum, total}
use Rattle.model.specs.Rates.{rates, some?, or_zero}
use Rattle.model.specs.Requests.{requests, latest, previous}
use Rattle.model.specs.Schedule.{length_of, is_transfer, is_upload, cost_of}
use Rattle.model.specs.Standing.{reach, arrive, through, reached, rounds, standing, stands}
use Rattle.model.specs.RowForm.{numbers, flat, row_of, row_at, rows_upto, rows_of, fits, earlier, follows}
use Rattle.model.specs.Marking.{keeps, sends, loads, legal, gap, begin, after, spans, any, covered, holds, fee, own, asked, cost, begins_run, run_end, hold_rows, all_holds, transfers, uploads, source, rows_from, rows}
use Rattle.model.specs.Plan.{put_mark, markings, first_least, least_of, plan, plan_cost, plan_rows}
use Rattle.model.specs.Checking.{row_count, kind_fits, misfits, misplaced, row_conditions, backed, copy_condition, serve_condition, schedule_conditions, check_cost}
use Rattle.model.specs.LogRequests.{requests_in, prices_in}
use Rattle.model.specs.Quote.{least_own, quote_of}
use Rattle.checker.specs.Answers.{check_conditions, check_verdict_of, checked as checked_by, check_answer}
use Rattle.planner.specs.Answers.{letter, marks_of, planned_rows, least_costs}
use Rattle.quote.specs.Answers.{quoted as quoted_by, quote_answer}
use Rattle.online.specs.Servers.{across, set_of, some_server}
use Rattle.online.specs.Rules.{window_of, copy_at, use_at, fresh, lasts, kept, uses, stands as stands_after, next_use, seconds, accept, running, remaining, closing}
use Rattle.online.specs.Conditions.{any_of, server_broken, broken, scan_conditions, close_conditions}
use Rattle.online.specs.Answers.{start_verdict, log_start_verdict, started_by, started, started_for_log, scan_verdict, scanned_by, scanned, mark_outcome, close_verdict, closed_by, closed_answer}
use Rattle.bounds.specs.Calls.{after as after_call, run}
use Rattle.text.specs.Decimal.{digits, decimal}
use Rattle.text.specs.Lines.{ascii, line_end, line, figure_line}
use Rattle.text.specs.RefusalText.{list_word, refusal_text, shown}
use Rattle.report.specs.Text.{heading, entry_line, entry_lines, sheet_text, entry_of}
use Rattle.live.specs.Live.{scans, state_after, live_mark, live_cost, opened, live_marks, running_costs, closing_cost}
use Rattle.live.specs.Replies.{close_cost}
use Rattle.report.specs.Sheet.{columns_of, sheet_of}
use Rattle.report.specs.Output.{output}
use Rattle.guarantees.specs.Week.{Given, Week, planned, uploading, checked, logged, tied, printed, as_numbers, answer_numbers, quote_numbers, requests_given, rates_given, live_letter, least_so_far, plan_letters, plan_numbers, costs_from, close_after, letters_from, start_of, log_of, right, all_right}

-- K, S and U
abbrev k : ℕ
k = 75

abbrev s : ℕ
s = 83

abbrev u : ℕ
u = 85

-- a week of a class at so many servers, home 0, with an id of zeros
abbrev given : ℕ → ℕ → List ℕ → List ℕ → Given
given class' count ts xs =
    record { header = record { «class» = class'; server_count = count; home = 0; id = replicate 16 0 }; seconds = ts; servers = xs }

-- week C
abbrev week_c : Given
week_c = given 0 3 (1 ∷ 2 ∷ 11 ∷ 12 ∷ []) (1 ∷ 2 ∷ 1 ∷ 0 ∷ [])

-- A no requests; B 002's example times ten; C, and that two other markings cost the same; D; E; F class 6
-- G a cycle with no copy behind it, and with one; H the last second; I equal seconds
-- and what the program prints for A, in classes 0, 2 and 6, for C and for I
unfoldable pub weeks : List Week
weeks =
    planned (given 0 2 [] []) (0 ∷ []) (0 ∷ []) 10 0 [] [] []
    ∷ planned (given 0 4 (5 ∷ 8 ∷ 11 ∷ 14 ∷ 26 ∷ 32 ∷ 40 ∷ []) (1 ∷ 2 ∷ 3 ∷ 0 ∷ 1 ∷ 1 ∷ 2 ∷ []))
    (0 ∷ 15 ∷ 28 ∷ 41 ∷ 44 ∷ 65 ∷ 71 ∷ 89 ∷ []) (0 ∷ 15 ∷ 31 ∷ 50 ∷ 62 ∷ 102 ∷ 114 ∷ 136 ∷ []) 156 106
    (s ∷ s ∷ s ∷ k ∷ k ∷ k ∷ s ∷ []) (s ∷ s ∷ s ∷ k ∷ s ∷ k ∷ s ∷ [])
    (0 ∷ 0 ∷ 0 ∷ 14 ∷ 0 ∷ 1 ∷ 5 ∷ 40 ∷ 1 ∷ 0 ∷ 1 ∷ 5 ∷ 1 ∷ 1 ∷ 2 ∷ 8 ∷ 1 ∷ 1 ∷ 3 ∷ 11 ∷ 1 ∷ 1 ∷ 2 ∷ 40 ∷ [])
    ∷ planned week_c
    (0 ∷ 11 ∷ 22 ∷ 31 ∷ 42 ∷ []) (0 ∷ 11 ∷ 23 ∷ 50 ∷ 62 ∷ []) 82 52 (s ∷ s ∷ k ∷ k ∷ []) (s ∷ s ∷ k ∷ s ∷ [])
    (0 ∷ 0 ∷ 0 ∷ 12 ∷ 0 ∷ 1 ∷ 1 ∷ 11 ∷ 1 ∷ 0 ∷ 1 ∷ 1 ∷ 1 ∷ 1 ∷ 2 ∷ 2 ∷ [])
    ∷ tied week_c 42 3
    ∷ planned (given 0 2 (1 ∷ 11 ∷ []) (1 ∷ 0 ∷ [])) (0 ∷ 11 ∷ 21 ∷ []) (0 ∷ 11 ∷ 31 ∷ []) 41 31 (s ∷ k ∷ []) (s ∷ k ∷ [])
    (0 ∷ 0 ∷ 0 ∷ 11 ∷ 1 ∷ 0 ∷ 1 ∷ 1 ∷ [])
    ∷ planned (given 0 2 (1 ∷ 12 ∷ []) (1 ∷ 0 ∷ [])) (0 ∷ 11 ∷ 22 ∷ []) (0 ∷ 11 ∷ 42 ∷ []) 62 32 (s ∷ k ∷ []) (s ∷ s ∷ [])
    (0 ∷ 0 ∷ 0 ∷ 12 ∷ 1 ∷ 0 ∷ 1 ∷ 1 ∷ [])
    ∷ planned (given 6 2 (1 ∷ 2 ∷ []) (1 ∷ 0 ∷ [])) (0 ∷ 12 ∷ 19 ∷ []) (0 ∷ 12 ∷ 24 ∷ []) 24 24 (s ∷ k ∷ []) (s ∷ s ∷ [])
    (0 ∷ 0 ∷ 0 ∷ 2 ∷ 1 ∷ 0 ∷ 1 ∷ 1 ∷ [])
    ∷ checked (given 0 2 (1 ∷ []) (0 ∷ [])) none (1 ∷ 0 ∷ 1 ∷ 1 ∷ 1 ∷ 1 ∷ 0 ∷ 1 ∷ []) 17 1 0
    ∷ checked (given 0 2 (1 ∷ []) (0 ∷ [])) none (0 ∷ 0 ∷ 0 ∷ 1 ∷ 1 ∷ 0 ∷ 1 ∷ 1 ∷ 1 ∷ 1 ∷ 0 ∷ 1 ∷ []) 0 0 21
    ∷ logged (given 0 2 (4000000 ∷ []) (0 ∷ [])) 0 0
    ∷ logged (given 0 2 (4000001 ∷ []) (0 ∷ [])) 12 1
    ∷ logged (given 0 2 (5 ∷ 5 ∷ []) (0 ∷ 0 ∷ [])) 13 2
    ∷ printed (given 0 2 [] []) "scan second station plan live least bill\nrows 0\nclose 10\n"
    ∷ printed (given 2 2 [] []) "scan second station plan live least bill\nrows 0\nclose 24\n"
    ∷ printed (given 6 2 [] []) "scan second station plan live least bill\nrows 0\nclose 0\n"
    ∷ printed week_c
    "scan second station plan live least bill\n1 1 1 S S 11 11\n2 2 2 S S 22 23\n3 11 1 K K 31 50\n4 12 0 K S 42 62\nrows 4\nclose 82\n"
    ∷ printed (given 0 2 (5 ∷ 5 ∷ []) (0 ∷ 0 ∷ [])) "refused input 13 place 2\n"
    ∷ []

-- weeks of our own: where 002's table would take K at the last request for a cost that 01's marks do not allow; where home's second 0 counts in the quote
unfoldable pub own_weeks : List Week
own_weeks =
    planned (given 0 2 (1 ∷ 12 ∷ 13 ∷ []) (1 ∷ 1 ∷ 0 ∷ [])) (0 ∷ 11 ∷ 22 ∷ 33 ∷ []) (0 ∷ 11 ∷ 32 ∷ 43 ∷ []) 63 43 (s ∷ k ∷ s ∷ []) (s ∷ k ∷ s ∷ [])
    (0 ∷ 0 ∷ 0 ∷ 1 ∷ 0 ∷ 1 ∷ 1 ∷ 13 ∷ 1 ∷ 0 ∷ 1 ∷ 1 ∷ 1 ∷ 1 ∷ 0 ∷ 13 ∷ [])
    ∷ planned (given 0 2 (3 ∷ 4 ∷ []) (0 ∷ 1 ∷ [])) (0 ∷ 3 ∷ 14 ∷ []) (0 ∷ 3 ∷ 14 ∷ []) 34 17 (k ∷ s ∷ []) (k ∷ s ∷ [])
    (0 ∷ 0 ∷ 0 ∷ 4 ∷ 1 ∷ 0 ∷ 1 ∷ 4 ∷ [])
    ∷ []

-- week C at an upload price of 1, 10, 11 and 50; and rows of uploads: a transfer fed by an upload of its second, the same rows where no upload price is
-- given, an upload of another second, and prices about both ends of the range
unfoldable pub upload_weeks : List Week
upload_weeks =
    uploading week_c 1 4 (u ∷ u ∷ u ∷ u ∷ []) (2 ∷ 1 ∷ 1 ∷ 0 ∷ 2 ∷ 2 ∷ 2 ∷ 0 ∷ 2 ∷ 1 ∷ 11 ∷ 0 ∷ 2 ∷ 0 ∷ 12 ∷ 0 ∷ [])
    ∷ uploading week_c 10 40 (u ∷ s ∷ k ∷ u ∷ []) (0 ∷ 1 ∷ 1 ∷ 11 ∷ 1 ∷ 1 ∷ 2 ∷ 2 ∷ 2 ∷ 1 ∷ 1 ∷ 0 ∷ 2 ∷ 0 ∷ 12 ∷ 0 ∷ [])
    ∷ uploading week_c 11 42 (s ∷ s ∷ k ∷ k ∷ []) (0 ∷ 0 ∷ 0 ∷ 12 ∷ 0 ∷ 1 ∷ 1 ∷ 11 ∷ 1 ∷ 0 ∷ 1 ∷ 1 ∷ 1 ∷ 1 ∷ 2 ∷ 2 ∷ [])
    ∷ uploading week_c 50 42 (s ∷ s ∷ k ∷ k ∷ []) (0 ∷ 0 ∷ 0 ∷ 12 ∷ 0 ∷ 1 ∷ 1 ∷ 11 ∷ 1 ∷ 0 ∷ 1 ∷ 1 ∷ 1 ∷ 1 ∷ 2 ∷ 2 ∷ [])
    ∷ checked (given 0 2 (1 ∷ []) (1 ∷ [])) (some 5) (1 ∷ 0 ∷ 1 ∷ 1 ∷ 2 ∷ 0 ∷ 1 ∷ 0 ∷ []) 0 0 15
    ∷ checked (given 0 2 (1 ∷ []) (1 ∷ [])) none (1 ∷ 0 ∷ 1 ∷ 1 ∷ 2 ∷ 0 ∷ 1 ∷ 0 ∷ []) 15 2 0
    ∷ checked (given 0 2 (1 ∷ []) (1 ∷ [])) (some 5) (1 ∷ 0 ∷ 1 ∷ 1 ∷ 2 ∷ 0 ∷ 0 ∷ 0 ∷ []) 17 1 0
    ∷ checked (given 0 2 (1 ∷ []) (1 ∷ [])) (some 0) (1 ∷ []) 44 0 0
    ∷ checked (given 0 2 (1 ∷ []) (1 ∷ [])) (some 1000001) [] 44 0 0
    ∷ checked (given 0 2 (1 ∷ []) (1 ∷ [])) (some 1000000) (2 ∷ 1 ∷ 1 ∷ 0 ∷ []) 0 0 1000000
    ∷ []

-- every line of the table holds
pub weeks_right : all_right (weeks ++ (own_weeks ++ upload_weeks)) ≡ true
unfolding weeks own_weeks upload_weeks all_right right same as_numbers answer_numbers quote_numbers quoted_by quote_answer least_own quote_of requests_in prices_in check_conditions check_verdict_of checked_by check_answer requests_given letter live_letter least_so_far plan_letters plan_numbers costs_from close_after letters_from close_cost start_of log_of build first each has put lowest distance none_nearer nearest classes prices_of outside window version class_of server_count_of home_of request_count requests_offset id_offset total_length written_sum length_for id_of header_of seconds_of servers_of sum_from sum_of setup_conditions offered_conditions header_conditions before request_conditions log_conditions verdict_of head request_bytes requests_bytes body encode sum total requests latest previous length_of is_transfer is_upload cost_of reach arrive through reached rounds standing stands numbers flat row_of row_at rows_upto rows_of fits earlier follows keeps sends loads some? or_zero rates rates_given upload_conditions legal gap begin after spans any covered holds fee own asked cost begins_run run_end hold_rows all_holds transfers uploads source rows_from rows put_mark markings first_least least_of plan plan_cost plan_rows row_count kind_fits misfits misplaced row_conditions backed copy_condition serve_condition schedule_conditions check_cost across set_of some_server window_of copy_at use_at fresh lasts kept uses stands_after next_use seconds accept running remaining closing any_of server_broken broken scan_conditions close_conditions start_verdict log_start_verdict started_by started started_for_log scan_verdict scanned_by scanned mark_outcome close_verdict closed_by closed_answer marks_of planned_rows least_costs after_call run digits decimal ascii line_end line list_word refusal_text heading entry_line entry_lines figure_line sheet_text entry_of scans state_after live_mark live_cost opened live_marks running_costs closing_cost columns_of sheet_of shown output
weeks_right = refl

-- the two windows that 01's 'Prices' names: of class 4 and of class 6
pub windows_right : (window (prices_of classes 4) ≡ 33) × (window (prices_of classes 6) ≡ 0)
unfolding classes prices_of window
windows_right = (refl, refl)
