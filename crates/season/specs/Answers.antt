-- What a piece is answered, and what the room holds after it. Assumes nothing.
use Rattle.std.specs.Prelude.{List, ℕ, length, take, Ok, Err}
use Rattle.base.specs.Refusals.{Verdict}
use Rattle.base.specs.Lent.{lent}
use Rattle.prices.specs.Tariff.{Tariff}
use Rattle.season.specs.declared.Season.{Season}
use Rattle.season.specs.declared.Fed.{Fed}
use Rattle.season.specs.Steps.{Gathered, gathered, with_bytes, feed_verdict}

-- a season and its room: the tally, and the bytes that are held at the front of the room
abbrev pub gathered_in : Season → List ℕ → Gathered
gathered_in season room = gathered season.tally (take season.held room)

-- the answer by the verdict: the season after the piece, or as it was
unfoldable pub fed_by : Verdict → Season → Gathered → Fed
fed_by (Ok _) season after = record { season = record { tally = after.tally; held = length after.held }; verdict = Ok tt }
fed_by (Err r) season after = record { season = season; verdict = Err r }

abbrev pub fed : Tariff → Season → List ℕ → List ℕ → Fed
fed t season room piece = fed_by (feed_verdict season.held (length room)) season (with_bytes t (gathered_in season room) piece)

-- what the room holds at the end: the bytes of the log that is unfinished, then zeros; as it was where the piece is refused
abbrev pub room_left : Tariff → Season → List ℕ → List ℕ → List ℕ
room_left t season room piece = lent (feed_verdict season.held (length room)) (with_bytes t (gathered_in season room) piece).held room
