-- What the call leaves in a text that has room for any sheet is what the program writes; and no more of an input, or of a price file, need be read
-- than one byte more than the longest has.
use Rattle.std.specs.Prelude.{List, ◌⊎◌, ◌≡◌, ℕ, ◌≤◌, ◌<◌, length, take, Ok, Err}
use Rattle.base.specs.declared.reasons.Reason.TheVariants as reason
use Rattle.std.proofs.Common.{inl, inr, ap, sym, ◌∙◌, arith, length-take-le, take_all}
use Rattle.base.specs.Choice.{le_or_lt}
use Rattle.base.specs.Lent.{lent}
use Rattle.base.specs.declared.Refusal.{Refusal}
use Rattle.prices.specs.FileLaws as files
use Rattle.prices.specs.PriceFile.{price_room}
use Rattle.prices.specs.PriceLaws.{Priced}
use Rattle.prices.specs.Tariff.{Tariff, price_file}
use Rattle.request_log.specs.Sizes.{log_limit}
use Rattle.request_log.specs.Conditions.{Accepted, verdict_of}
use Rattle.request_log.proofs.LongInput as inputs
use Rattle.text.specs.Answers.{printed}
use Rattle.text.specs.PrintedLaws.{printed_shown, refused_shown}
use Rattle.text.specs.RefusalText.{refusal_text, shown}
use Rattle.report.specs.Output.{output, price_limit}
use Rattle.report.specs.Sizes.{sheet_room}
use Rattle.report.specs.Sheet.{sheet_of, sheet_verdict}
use Rattle.report.specs.SheetLaws.{verdict_parts}
use Rattle.report.specs.SheetLength.{sheet_fits}

module _ (t : Tariff) (priced : Priced t) (log text : List ℕ) (room : sheet_room ≤ length text) where
  -- an accepted log's sheet has room
  roomy : verdict_of t log ≡ Ok tt → length (sheet_of t log) ≤ length text
  unfolding Accepted
  roomy a = omega (arith, sheet_fits t priced log a)

  -- a sheet that was printed is what the program writes
  pub sheet_stands : (n : ℕ) (text' : List ℕ) → printed (sheet_verdict t log (length text)) (sheet_of t log) ≡ Ok n
      → text' ≡ lent (sheet_verdict t log (length text)) (sheet_of t log) text
      → (n ≤ length text') × (take n text' ≡ output t log)
  unfolding output
  sheet_stands n text' f g =
      let e = verdict_parts t log (length text) in
      printed_shown (verdict_of t log) (sheet_of t log) text roomy n text' (rw e at f) (rw e at g)

  -- and so is the line of what refused it
  pub sheet_refuses : (r : Refusal) → printed (sheet_verdict t log (length text)) (sheet_of t log) ≡ Err r → refusal_text r ≡ output t log
  unfolding output
  sheet_refuses r f = refused_shown (verdict_of t log) (sheet_of t log) text roomy r (rw (verdict_parts t log (length text)) at f)

-- the line of a refused log
refused_line : (t : Tariff) (log : List ℕ) (r : Refusal) → verdict_of t log ≡ Err r → output t log ≡ refusal_text r
unfolding output shown
refused_line t log r e = rw e

-- the first bytes of an input are enough
pub enough : (t : Tariff) (s : List ℕ) → output t (take log_limit s) ≡ output t s
enough t s = inputs.enough t (output t) refusal_text (refused_line t) s

-- a longer price file is refused by 37, whatever the log
long_prices : (prices log : List ℕ) → price_room < length prices → verdict_of (price_file prices) log ≡ Err (record { reason = reason.PriceFile; place = 0 })
unfolding verdict_of
long_prices prices log h = rw (files.long_refused prices h)

-- so the first bytes of a price file are enough
pub enough_prices : (prices log : List ℕ) → output (price_file (take price_limit prices)) log ≡ output (price_file prices) log
unfolding price_limit
enough_prices prices log = go (le_or_lt (length prices) price_limit)
  where
    go : (length prices ≤ price_limit) ⊎ (price_limit < length prices) → output (price_file (take price_limit prices)) log ≡ output (price_file prices) log
    go (inl h) = ap (λ (f : List ℕ). output (price_file f) log) (take_all price_limit prices h)
    go (inr h) =
        let long = length-take-le price_limit prices (omega arith) in
        refused_line _ log _ (long_prices (take price_limit prices) log (omega arith)) ∙ sym (refused_line _ log _ (long_prices prices log (omega arith)))
