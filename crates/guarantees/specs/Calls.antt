-- Demand 1, over the definitions that the contracts cite: a call is refused with r exactly if r is given by the first of its conditions that
-- holds; a refusal leaves each lent list as it was, an acceptance gives the answer and then zeros, and no lent list changes its length.
use Rattle.std.specs.Prelude.{false, List, [], ◌∷◌, ◌++◌, ◌↔◌, ◌≡◌, refl, ℕ, suc, ◌-◌, ◌≤◌, leb, length, replicate, Ok, Err}
use Rattle.base.specs.declared.reasons.Reason.TheVariants as reason
use Rattle.std.proofs.Math.Option.{Option}
use Rattle.std.proofs.Common.{ap, arith, ltb-false, length-append, length-take-le}
use Rattle.std.proofs.lemmas.List.{length-replicate}
use Rattle.base.specs.declared.Refusal.{Refusal}
use Rattle.base.specs.Refusals.{Condition, refuse, first, otherwise, short, nth, First, Verdict}
use Rattle.base.specs.RefusalLaws.{first_refused, first_passed, first_append, otherwise_passed, append_passed}
use Rattle.base.specs.Lent.{lent}
use Rattle.base.specs.Lists.{build_length}
use Rattle.prices.specs.PriceFile.{file_conditions}
use Rattle.prices.specs.Tariff.{Tariff, price_file, Given, none, file, conditions_of}
use Rattle.prices.specs.Offer.{Offer, offer_of}
use Rattle.prices.specs.Uploads.{upload_conditions}
use Rattle.request_log.specs.Sizes.{log_room}
use Rattle.request_log.specs.declared.Setup.{Setup}
use Rattle.request_log.specs.declared.Header.{Header}
use Rattle.request_log.specs.Fields.{request_count, seconds_of, servers_of, length_for}
use Rattle.request_log.specs.Conditions.{setup_conditions, offered_conditions, log_conditions, verdict_of}
use Rattle.request_log.specs.Contents.{setup_in, Contents, contents_conditions, encode}
use Rattle.request_log.specs.Answers.{read_verdict, write_verdict}
use Rattle.request_log.specs.AnswerLaws.{read_passed, write_passed}
use Rattle.request_log.specs.AcceptedLaws.{seconds_length, servers_length}
use Rattle.request_log.specs.Ranges.{Sixteen}
use Rattle.request_log.specs.EncodeLaws.{encode_length}
use Rattle.checker.specs.Answers.{check_conditions, check_verdict_of}
use Rattle.planner.specs.Answers.{marks_of, rows_of_plan, plan_verdict, least_costs, least_verdict}
use Rattle.forcing.specs.declared.Game.{Game}
use Rattle.game.specs.Answers.{play_conditions, play_verdict}
use Rattle.text.specs.Answers.{room_verdict}
use Rattle.report.specs.Sheet.{sheet_of, sheet_verdict}
use Rattle.text.specs.RefusalText.{refusal_text}
use Rattle.week.specs.Pages.{page_of, after_week, page_verdict}
use Rattle.season.specs.declared.Season.{Season}
use Rattle.season.specs.declared.Tally.{Tally}
use Rattle.season.specs.ReportText.{report_text}
use Rattle.season.specs.Steps.{with_bytes, feed_verdict}
use Rattle.season.specs.Answers.{gathered_in, fed_by, fed}
use Rattle.season.specs.FeedLaws.{feed_passed}
use Rattle.season.specs.Pieces.{held_short}
use Rattle.online.specs.declared.Cache.{Cache}
use Rattle.online.specs.Conditions.{scan_conditions, running_conditions, close_conditions}
use Rattle.online.specs.Rules.{zeros}
use Rattle.online.specs.Answers.{start_verdict, log_start_verdict, scan_verdict, running_verdict, close_verdict, started_by, started, started_for_log, scanned_by, scanned, closed_by, closed_answer}

-- a verdict is that of a list of conditions
pub record Decided (cs : List Condition) (v : Verdict) : Type 0 where
  pub refused : (r : Refusal) → (v ≡ Err r) ↔ First cs r
  pub passed : (v ≡ Ok tt) ↔ ((i : ℕ) → (nth cs i).holds ≡ false)

decided : (cs : List Condition) → Decided cs (first cs)
decided cs = record { refused = first_refused cs; passed = first_passed cs }

-- the conditions of a price file come first, where one is given
decided_after : (t : Tariff) (g : Given t) (cs : List Condition) → Decided (conditions_of g ++ cs) (otherwise t.judged (first cs))
unfolding conditions_of
decided_after t none cs = decided cs
decided_after t (file bytes) cs = rw (← first_append (file_conditions bytes) cs) (decided (file_conditions bytes ++ cs))

-- also of what is sold
offer_decided : (t : Tariff) (g : Given t) (cs : List Condition) → Decided (conditions_of g ++ cs) (otherwise (offer_of g).tariff.judged (first cs))
unfolding offer_of
offer_decided t none cs = decided_after t none cs
offer_decided t (file bytes) cs = decided_after t (file bytes) cs

-- a price file
pub file_decided : (bytes : List ℕ) → Decided (file_conditions bytes) (price_file bytes).judged
file_decided bytes = decided (file_conditions bytes)

-- what a lent list holds at the end
pub record Left (v : Verdict) (answer entry : List ℕ) : Type 0 where
  pub unchanged : (r : Refusal) → v ≡ Err r → lent v answer entry ≡ entry
  pub given : v ≡ Ok tt → lent v answer entry ≡ answer ++ replicate (length entry - length answer) 0
  pub as_long : length (lent v answer entry) ≡ length entry

left : (v : Verdict) (answer entry : List ℕ) → (v ≡ Ok tt → length answer ≤ length entry) → Left v answer entry
unfolding lent
left v answer entry h =
    record { unchanged = λ r e. rw e; given = λ e. rw e; as_long = as_long v refl }
  where
    as_long : (w : Verdict) → v ≡ w → length (lent v answer entry) ≡ length entry
    as_long (Ok _) e =
        rw e (simp (length-append, length-replicate {A = ℕ} (length entry - length answer) 0) (omega (arith, h e)))
    as_long (Err r) e = rw e

-- reading a log
pub read_decided : (t : Tariff) (g : Given t) (log : List ℕ) (seconds servers : ℕ)
    → Decided (conditions_of g ++ (log_conditions t.table log ++ (short (request_count log) seconds ∷ short (request_count log) servers ∷ []))) (read_verdict t log seconds servers)
unfolding read_verdict
read_decided t g log seconds servers = decided_after t g _

pub read_left : (t : Tariff) (log seconds servers : List ℕ) → let v = read_verdict t log (length seconds) (length servers) in
    Left v (seconds_of log) seconds × Left v (servers_of log) servers
read_left t log seconds servers = (
  left v (seconds_of log) seconds (λ e. omega (arith, seconds_length log, read_passed t log _ _ e)),
  left v (servers_of log) servers (λ e. omega (arith, servers_length log, read_passed t log _ _ e)),
)
  where
    v : Verdict
    v = read_verdict t log (length seconds) (length servers)

-- writing a log
pub write_decided : (t : Tariff) (g : Given t) (c : Contents) (log : ℕ)
    → Decided (conditions_of g ++ (contents_conditions (offer_of g) c ++ (short (length_for (length c.seconds)) log ∷ []))) (write_verdict (offer_of g) c log)
unfolding write_verdict
write_decided t g c log = offer_decided t g _

pub write_left : (o : Offer) (c : Contents) (log : List ℕ) → Sixteen c → Left (write_verdict o c (length log)) (encode c) log
write_left o c log h =
    left (write_verdict o c (length log)) (encode c) log (λ e. omega (arith, encode_length c h, (write_passed o c (length log) e).2))

-- checking a schedule, with an upload price u or with none
pub check_decided : (t : Tariff) (g : Given t) (u : Option ℕ) (log rows : List ℕ) → Decided (conditions_of g ++ check_conditions t u log rows) (check_verdict_of t u log rows)
unfolding check_verdict_of
check_decided t g u log rows = decided_after t g (check_conditions t u log rows)

-- planning: marks are looked at before rows
pub plan_decided : (t : Tariff) (g : Given t) (u : Option ℕ) (log : List ℕ) (marks rows : ℕ)
    → Decided (conditions_of g ++ (log_conditions t.table log ++ (upload_conditions u ++ (short (request_count log) marks ∷ short (length (rows_of_plan t u log)) rows ∷ [])))) (plan_verdict t u log marks rows)
unfolding plan_verdict
plan_decided t g u log marks rows = decided_after t g _

marks_length : (t : Tariff) (u : Option ℕ) (log : List ℕ) → length (marks_of t u log) ≡ request_count log
unfolding marks_of
marks_length t u log = build_length (request_count log) _

pub plan_left : (t : Tariff) (u : Option ℕ) (log marks rows : List ℕ) → let v = plan_verdict t u log (length marks) (length rows) in
    Left v (marks_of t u log) marks × Left v (rows_of_plan t u log) rows
unfolding plan_verdict
plan_left t u log marks rows = (
  left v (marks_of t u log) marks (λ e. omega (arith, marks_length t u log, ltb-false (length marks) (request_count log) (room e 0))),
  left v (rows_of_plan t u log) rows (λ e. ltb-false (length rows) (length (rows_of_plan t u log)) (room e 1)),
)
  where
    v : Verdict
    v = plan_verdict t u log (length marks) (length rows)

    outputs : List Condition
    outputs = short (request_count log) (length marks) ∷ short (length (rows_of_plan t u log)) (length rows) ∷ []

    room : v ≡ Ok tt → (i : ℕ) → (nth outputs i).holds ≡ false
    room e =
        let (a, b) = (append_passed (log_conditions t.table log) (upload_conditions u ++ outputs)).0 (otherwise_passed t.judged _ e).1 in
        (first_passed outputs).0 ((append_passed (upload_conditions u) outputs).0 b).1

-- the least cost of every prefix
pub least_decided : (t : Tariff) (g : Given t) (u : Option ℕ) (log : List ℕ) (costs : ℕ)
    → Decided (conditions_of g ++ (log_conditions t.table log ++ (upload_conditions u ++ (short (suc (request_count log)) costs ∷ [])))) (least_verdict t u log costs)
unfolding least_verdict
least_decided t g u log costs = decided_after t g _

least_length : (t : Tariff) (u : Option ℕ) (log : List ℕ) → length (least_costs t u log) ≡ suc (request_count log)
unfolding least_costs
least_length t u log = build_length (suc (request_count log)) _

pub least_left : (t : Tariff) (u : Option ℕ) (log costs : List ℕ) → Left (least_verdict t u log (length costs)) (least_costs t u log) costs
unfolding least_verdict
least_left t u log costs =
    left (least_verdict t u log (length costs)) (least_costs t u log) costs
    (λ e. omega (arith, least_length t u log, ltb-false (length costs) (suc (request_count log)) (room e 0)))
  where
    outputs : List Condition
    outputs = short (suc (request_count log)) (length costs) ∷ []

    room : least_verdict t u log (length costs) ≡ Ok tt → (i : ℕ) → (nth outputs i).holds ≡ false
    room e =
        let (a, b) = (append_passed (log_conditions t.table log) (upload_conditions u ++ outputs)).0 (otherwise_passed t.judged _ e).1 in
        (first_passed outputs).0 ((append_passed (upload_conditions u) outputs).0 b).1

-- a game, which is lent nothing
pub play_decided : (g : Game) → Decided (play_conditions g) (play_verdict g)
unfolding play_verdict
play_decided g = decided _

-- a quote, which is lent nothing
pub quote_decided : (t : Tariff) (g : Given t) (log : List ℕ) → Decided (conditions_of g ++ log_conditions t.table log) (verdict_of t log)
unfolding verdict_of
quote_decided t g log = decided_after t g (log_conditions t.table log)

-- the online cache's calls; they are lent nothing
pub start_decided : (t : Tariff) (g : Given t) (s : Setup) → Decided (conditions_of g ++ offered_conditions (offer_of g) s) (start_verdict (offer_of g) s)
unfolding start_verdict
start_decided t g s = offer_decided t g _

pub log_start_decided : (t : Tariff) (g : Given t) (s : Setup) → Decided (conditions_of g ++ setup_conditions t.table s) (log_start_verdict t s)
unfolding log_start_verdict
log_start_decided t g s = decided_after t g _

pub scan_decided : (c : Cache) (id : List ℕ) (second server : ℕ) → Decided (scan_conditions c id second server) (scan_verdict c id second server)
unfolding scan_verdict
scan_decided c id second server = decided _

pub running_decided : (c : Cache) → Decided (running_conditions c) (running_verdict c)
unfolding running_verdict
running_decided c = decided _

pub close_decided : (c : Cache) → Decided (close_conditions c) (close_verdict c)
unfolding close_verdict
close_decided c = decided _

-- the sheet of a log
pub sheet_decided : (t : Tariff) (g : Given t) (log : List ℕ) (text : ℕ)
    → Decided (conditions_of g ++ (log_conditions t.table log ++ (short (length (sheet_of t log)) text ∷ []))) (sheet_verdict t log text)
unfolding sheet_verdict
sheet_decided t g log text = decided_after t g _

pub sheet_left : (t : Tariff) (log text : List ℕ) → Left (sheet_verdict t log (length text)) (sheet_of t log) text
unfolding sheet_verdict
sheet_left t log text =
    left (sheet_verdict t log (length text)) (sheet_of t log) text (λ e. ltb-false (length text) (length (sheet_of t log)) (room e 0))
  where
    outputs : List Condition
    outputs = short (length (sheet_of t log)) (length text) ∷ []

    room : sheet_verdict t log (length text) ≡ Ok tt → (i : ℕ) → (nth outputs i).holds ≡ false
    room e = (first_passed outputs).0 ((append_passed (log_conditions t.table log) outputs).0 (otherwise_passed t.judged _ e).1).1

-- the week page of a log
pub page_decided : (t : Tariff) (g : Given t) (log : List ℕ) (text : ℕ)
    → Decided (conditions_of g ++ (log_conditions t.table log ++ (after_week log ∷ short (length (page_of t log)) text ∷ []))) (page_verdict t log text)
unfolding page_verdict
page_decided t g log text = decided_after t g _

pub page_left : (t : Tariff) (log text : List ℕ) → Left (page_verdict t log (length text)) (page_of t log) text
unfolding page_verdict
page_left t log text =
    left (page_verdict t log (length text)) (page_of t log) text (λ e. ltb-false (length text) (length (page_of t log)) (room e 1))
  where
    own : List Condition
    own = after_week log ∷ short (length (page_of t log)) (length text) ∷ []

    room : page_verdict t log (length text) ≡ Ok tt → (i : ℕ) → (nth own i).holds ≡ false
    room e = (first_passed own).0 ((append_passed (log_conditions t.table log) own).0 (otherwise_passed t.judged _ e).1).1

-- a text that is given whole
text_left : (printed text : List ℕ) → Left (room_verdict printed (length text)) printed text
unfolding room_verdict
text_left printed text =
    left (room_verdict printed (length text)) printed text
    (λ e. ltb-false (length text) (length printed) ((first_passed (short (length printed) (length text) ∷ [])).0 e 0))

-- the line of a refusal
pub line_decided : (r : Refusal) (text : ℕ) → Decided (short (length (refusal_text r)) text ∷ []) (room_verdict (refusal_text r) text)
unfolding room_verdict
line_decided r text = decided _

pub line_left : (r : Refusal) (text : List ℕ) → Left (room_verdict (refusal_text r) (length text)) (refusal_text r) text
line_left r text = text_left (refusal_text r) text

-- a piece of a season: 32 where more is said to be held than an unfinished log can have, 31 for the room
pub feed_decided : (held room : ℕ) → Decided (refuse reason.BrokenState 0 (leb log_room held) ∷ short log_room room ∷ []) (feed_verdict held room)
unfolding feed_verdict
feed_decided held room = decided _

pub feed_left : (t : Tariff) (season : Season) (room piece : List ℕ)
    → Left (feed_verdict season.held (length room)) (with_bytes t (gathered_in season room) piece).held room
feed_left t season room piece =
    left (feed_verdict season.held (length room)) (with_bytes t (gathered_in season room) piece).held room
    (λ e.
    let (short_of, roomy) = feed_passed season.held (length room) e in
    omega (arith, held_short t (gathered_in season room) piece (omega (arith, length-take-le season.held room (omega (arith, short_of, roomy)), short_of)), roomy))

-- a refused piece gives back the season as it was
pub feed_unchanged : (t : Tariff) (season : Season) (room piece : List ℕ) (r : Refusal) → feed_verdict season.held (length room) ≡ Err r
    → (fed t season room piece).season ≡ season
unfolding fed_by
feed_unchanged t season room piece r e = ap (λ (v : Verdict). (fed_by v season (with_bytes t (gathered_in season room) piece)).season) e

-- the report of a tally
pub report_decided : (tally : Tally) (text : ℕ) → Decided (short (length (report_text tally)) text ∷ []) (room_verdict (report_text tally) text)
unfolding room_verdict
report_decided tally text = decided _

pub report_left : (tally : Tally) (text : List ℕ) → Left (room_verdict (report_text tally) (length text)) (report_text tally) text
report_left tally text = text_left (report_text tally) text

-- a refused scan or close gives back the state as it was, a refused start one of zeros
pub scan_unchanged : (c : Cache) (id : List ℕ) (second server : ℕ) (r : Refusal) → scan_verdict c id second server ≡ Err r
    → (scanned c id second server).cache ≡ c
unfolding scanned scanned_by
scan_unchanged c id second server r e = ap (λ (v : Verdict). (scanned_by v c second server).cache) e

pub close_unchanged : (c : Cache) (r : Refusal) → close_verdict c ≡ Err r → (closed_answer c).cache ≡ c
unfolding closed_answer closed_by
close_unchanged c r e = ap (λ (v : Verdict). (closed_by v c).cache) e

pub start_zeros : (o : Offer) (s : Header) (r : Refusal) → start_verdict o (setup_in s) ≡ Err r → (started o s).cache ≡ zeros
unfolding started started_by
start_zeros o s r e = ap (λ (v : Verdict). (started_by v o.tariff.table s).cache) e

pub log_start_zeros : (t : Tariff) (s : Header) (r : Refusal) → log_start_verdict t (setup_in s) ≡ Err r → (started_for_log t s).cache ≡ zeros
unfolding started_for_log started_by
log_start_zeros t s r e = ap (λ (v : Verdict). (started_by v t.table s).cache) e
