-- How many bytes the sheet and its lines have at most. Assumes nothing.
use Rattle.std.specs.Prelude.{ℕ, ◌+◌, ◌*◌}
use Rattle.request_log.specs.Sizes.{most_requests}

-- room for a request's line
abbrev pub entry_room : ℕ
entry_room = 109

-- room for any sheet: its first line, one for each request, and its last two lines
abbrev pub sheet_room : ℕ
sheet_room = 41 + entry_room * most_requests + 26 + 27
