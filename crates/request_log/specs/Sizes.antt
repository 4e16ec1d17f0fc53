-- How many requests a log has at most, and how many bytes. Assumes nothing.
use Rattle.std.specs.Prelude.{ℕ, ◌+◌, ◌*◌}

abbrev pub most_requests : ℕ
most_requests = 2048

-- room for any log
abbrev pub log_room : ℕ
log_room = 40 + 6 * most_requests

-- how many bytes of an input are read at most: one more than the longest log has
unfoldable pub log_limit : ℕ
log_limit = log_room + 1
