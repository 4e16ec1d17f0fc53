-- What the reader and the writer answer, and what their lent lists hold at the end. Assumes nothing.
use Rattle.std.specs.Prelude.{List, [], ◌∷◌, ◌++◌, ℕ, ltb, length, replicate, Ok, Err, Result}
use Rattle.base.specs.declared.Refusal.{Refusal}
use Rattle.base.specs.Choice.{pick}
use Rattle.base.specs.Refusals.{first, otherwise, short, Verdict}
use Rattle.base.specs.Lent.{lent}
use Rattle.prices.specs.Tariff.{Tariff}
use Rattle.prices.specs.Offer.{Offer}
use Rattle.request_log.specs.declared.Header.{Header}
use Rattle.request_log.specs.declared.Decoded.{Decoded}
use Rattle.request_log.specs.Fields.{header_of, request_count, length_for, seconds_of, servers_of}
use Rattle.request_log.specs.Conditions.{log_conditions}
use Rattle.request_log.specs.Contents.{Contents, contents_conditions, encode}

-- a reader's conditions: the price file's, the log's, then 31 for seconds and for servers, given the lengths of the lent lists
unfoldable pub read_verdict : Tariff → List ℕ → ℕ → ℕ → Verdict
read_verdict t s seconds servers =
    otherwise t.judged (first (log_conditions t.table s ++ (short (request_count s) seconds ∷ short (request_count s) servers ∷ [])))

-- the header of a refused log
unfoldable pub no_header : Header
no_header = record { «class» = 0; server_count = 0; home = 0; id = replicate 16 0 }

-- what any bytes say of their file: zeros where they are fewer than 40
unfoldable pub header_in : List ℕ → Header
header_in s = pick (ltb (length s) 40) no_header (header_of s)

-- the reader's answer by its verdict: header and request count, or the refusal
unfoldable pub decoded : Verdict → List ℕ → Decoded
decoded (Ok _) s = record { header = header_of s; outcome = Ok (request_count s) }
decoded (Err r) s = record { header = no_header; outcome = Err r }

-- what the lent lists hold at the end
abbrev pub seconds_left : Tariff → List ℕ → List ℕ → List ℕ → List ℕ
seconds_left t log seconds servers = lent (read_verdict t log (length seconds) (length servers)) (seconds_of log) seconds

abbrev pub servers_left : Tariff → List ℕ → List ℕ → List ℕ → List ℕ
servers_left t log seconds servers = lent (read_verdict t log (length seconds) (length servers)) (servers_of log) servers

-- a writer's conditions: the price file's, those on what is to be written, then 31 for the log, given its length
unfoldable pub write_verdict : Offer → Contents → ℕ → Verdict
write_verdict o c log = otherwise o.tariff.judged (first (contents_conditions o c ++ (short (length_for (length c.seconds)) log ∷ [])))

-- the writer's answer by its verdict: the log's length, or the refusal
unfoldable pub written : Verdict → Contents → Result ℕ Refusal
written (Ok _) c = Ok (length_for (length c.seconds))
written (Err r) c = Err r

-- what the lent log holds at the end
abbrev pub log_left : Offer → Contents → List ℕ → List ℕ
log_left o c log = lent (write_verdict o c (length log)) (encode c) log
