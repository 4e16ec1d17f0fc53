-- What the season's calls give for any tally: the next log, and bytes that come in pieces (02's Req 12). Assumes nothing.
use Rattle.std.specs.Prelude.{Bool, List, [], ◌∷◌, ◌++◌, ℕ, leb, ltb, length}
use Rattle.base.specs.declared.reasons.Reason.TheVariants as reason
use Rattle.base.specs.Choice.{pick, either, both}
use Rattle.base.specs.Refusals.{refuse, first, short, Verdict}
use Rattle.prices.specs.Tariff.{Tariff}
use Rattle.request_log.specs.Sizes.{log_room}
use Rattle.request_log.specs.Fields.{total_length}
use Rattle.request_log.specs.Conditions.{head_verdict}
use Rattle.season.specs.declared.Tally.{Tally}
use Rattle.season.specs.Met.{most_logs, looked_at, one_too_many, empty}
use Rattle.season.specs.Tallies.{accepts}
use Rattle.season.specs.Counting.{counted}

-- the next log: 45 before anything else; after the end nothing is looked at
unfoldable pub stepped : Tariff → Tally → List ℕ → Tally
stepped t tally log = pick tally.over tally (counted tally (pick (leb most_logs tally.logs) one_too_many (looked_at t log)))

-- ---- pieces

-- a tally, and the bytes of the next log so far
pub record Gathered : Type 0 where
  pub tally : Tally
  pub held : List ℕ

abbrev pub gathered : Tally → List ℕ → Gathered
gathered tally held = record { tally = tally; held = held }

-- no further log is looked at
unfoldable pub full : Tally → Bool
full tally = either tally.over (leb most_logs tally.logs)

-- bytes that may be the beginning of a log, and are not all of it: fewer than a header, or a header that passes and fewer than it says
unfoldable pub unfinished : Tariff → List ℕ → Bool
unfinished t s = either (ltb (length s) 40) (both (accepts (head_verdict t s)) (ltb (length s) (total_length s)))

-- one byte more: the log is counted once it is no longer unfinished
unfoldable pub with_byte : Tariff → Gathered → ℕ → Gathered
with_byte t g b =
    pick (full g.tally)
    (gathered (stepped t g.tally []) [])
    (pick (unfinished t (g.held ++ (b ∷ []))) (gathered g.tally (g.held ++ (b ∷ []))) (gathered (stepped t g.tally (g.held ++ (b ∷ []))) []))

-- the bytes of a piece, one after the other
unfoldable pub with_bytes : Tariff → Gathered → List ℕ → Gathered
with_bytes t g [] = g
with_bytes t g (b ∷ bs) = with_bytes t (with_byte t g b) bs

-- the input has ended: what is held is the last log
unfoldable pub finished : Tariff → Gathered → Tally
finished t g = pick (empty g.held) g.tally (stepped t g.tally g.held)

-- 32 where more is said to be held than an unfinished log can have; 31 for the room
unfoldable pub feed_verdict : ℕ → ℕ → Verdict
feed_verdict held room = first (refuse reason.BrokenState 0 (leb log_room held) ∷ short log_room room ∷ [])
