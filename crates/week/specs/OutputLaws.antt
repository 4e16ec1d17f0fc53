-- What the call leaves in a text that has room for any page is what the program prints; and no more of an input need be read than one byte more
-- than the longest log has.
use Rattle.std.specs.Prelude.{List, [], ◌∷◌, ◌++◌, ◌≡◌, ℕ, ◌≤◌, length, take, Ok, Err}
use Rattle.std.proofs.Common.{append_assoc, sym, ap, ◌∙◌, arith}
use Rattle.base.specs.Lent.{lent}
use Rattle.base.specs.Refusals.{Condition, first, otherwise, short, Verdict}
use Rattle.base.specs.RefusalLaws.{first_append, otherwise_assoc, otherwise_passed}
use Rattle.base.specs.declared.Refusal.{Refusal}
use Rattle.prices.specs.Tariff.{Tariff}
use Rattle.request_log.specs.Sizes.{log_limit}
use Rattle.request_log.specs.Conditions.{Accepted, log_conditions, verdict_of}
use Rattle.request_log.specs.ConditionLaws.{after_log}
use Rattle.request_log.proofs.LongInput as inputs
use Rattle.text.specs.Answers.{room_verdict, printed}
use Rattle.text.specs.PrintedLaws.{printed_shown, refused_shown}
use Rattle.text.specs.RefusalText.{refusal_text, shown}
use Rattle.week.specs.Days.{week_seconds}
use Rattle.week.specs.PageLaws.{page_fits, timely}
use Rattle.week.specs.PageLength.{page_room}
use Rattle.week.specs.Pages.{page_of, last_second, after_week, page_verdict, week_verdict, page_output}

-- the page's verdict: the log's and 36, then whether it has room
verdict_parts : (t : Tariff) (log : List ℕ) (room : ℕ) → page_verdict t log room ≡ otherwise (week_verdict t log) (room_verdict (page_of t log) room)
unfolding page_verdict room_verdict
verdict_parts t log room =
    let own = log_conditions t.table log in
    let lent = short (length (page_of t log)) room ∷ [] in
    ap (λ (cs : List Condition). otherwise t.judged (first cs)) (sym (append_assoc own (after_week log ∷ []) lent))
    ∙ ap (otherwise t.judged) (first_append (own ++ (after_week log ∷ [])) lent)
    ∙ otherwise_assoc t.judged (first (own ++ (after_week log ∷ []))) (first lent)

-- a log that neither 1 to 13 nor 36 refuses is accepted, and ends in the week
week_passed : (t : Tariff) (log : List ℕ) → week_verdict t log ≡ Ok tt → (verdict_of t log ≡ Ok tt) × (first (after_week log ∷ []) ≡ Ok tt)
week_passed t log e = otherwise_passed (verdict_of t log) (first (after_week log ∷ [])) (sym (after_log t log (after_week log ∷ [])) ∙ e)

pub week_accepted : (t : Tariff) (log : List ℕ) → week_verdict t log ≡ Ok tt → Accepted t log
unfolding Accepted
week_accepted t log e = (week_passed t log e).0

pub week_timely : (t : Tariff) (log : List ℕ) → week_verdict t log ≡ Ok tt → last_second log ≤ week_seconds
week_timely t log e = timely log (week_passed t log e).1

module _ (t : Tariff) (log text : List ℕ) (room : page_room ≤ length text) where
  -- the page has room where it is printed
  roomy : week_verdict t log ≡ Ok tt → length (page_of t log) ≤ length text
  roomy e = omega (arith, page_fits t log (week_accepted t log e))

  -- a page that was printed is what the program prints
  pub page_stands : (n : ℕ) (text' : List ℕ) → printed (page_verdict t log (length text)) (page_of t log) ≡ Ok n
      → text' ≡ lent (page_verdict t log (length text)) (page_of t log) text
      → (n ≤ length text') × (take n text' ≡ page_output t log)
  unfolding page_output
  page_stands n text' f g =
      let e = verdict_parts t log (length text) in
      printed_shown (week_verdict t log) (page_of t log) text roomy n text' (rw e at f) (rw e at g)

  -- and so is the line of what refused it
  pub page_refuses : (r : Refusal) → printed (page_verdict t log (length text)) (page_of t log) ≡ Err r → refusal_text r ≡ page_output t log
  unfolding page_output
  page_refuses r f = refused_shown (week_verdict t log) (page_of t log) text roomy r (rw (verdict_parts t log (length text)) at f)

-- the line of a refused log
refused_line : (t : Tariff) (log : List ℕ) (r : Refusal) → verdict_of t log ≡ Err r → page_output t log ≡ refusal_text r
unfolding page_output shown
refused_line t log r e =
    let v : week_verdict t log ≡ Err r = after_log t log (after_week log ∷ []) ∙ rw e in
    ap (λ (v : Verdict). shown v (page_of t log)) v

-- the first bytes of an input are enough
pub page_enough : (t : Tariff) (s : List ℕ) → page_output t (take log_limit s) ≡ page_output t s
page_enough t s = inputs.enough t (page_output t) refusal_text (refused_line t) s
