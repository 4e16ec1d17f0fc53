-- How long the planner's lists are at most. Assumes nothing.
use Rattle.std.specs.Prelude.{ℕ, ◌+◌, ◌*◌}
use Rattle.request_log.specs.Sizes.{most_requests}

-- home and the requests, or the costs of the first 0, 1, 2, .. requests
abbrev pub places : ℕ
places = 1 + most_requests

-- room for the numbers of any plan's rows: two rows for each request, four numbers for each row
abbrev pub rows_room : ℕ
rows_room = 4 * (2 * most_requests)
