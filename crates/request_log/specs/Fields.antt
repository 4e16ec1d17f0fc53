-- The fields of a log's bytes, as 01's 'The log' places them. Assumes nothing.
use Rattle.std.specs.Prelude.{List, ℕ, ◌+◌, ◌*◌}
use Rattle.base.specs.Bytes.{byte, le16, le32}
use Rattle.base.specs.Lists.{build}
use Rattle.request_log.specs.declared.Setup.{Setup}
use Rattle.request_log.specs.declared.Header.{Header}

-- version, 16 bits
unfoldable pub version : List ℕ → ℕ
version s = le16 s 0

-- price class, 8 bits
unfoldable pub class_of : List ℕ → ℕ
class_of s = byte s 2

-- server count (01: station count), 8 bits
unfoldable pub server_count_of : List ℕ → ℕ
server_count_of s = byte s 3

-- home server, 8 bits
unfoldable pub home_of : List ℕ → ℕ
home_of s = byte s 4

-- request count (01: scan count), 16 bits, after a zero byte
unfoldable pub request_count : List ℕ → ℕ
request_count s = le16 s 6

-- offset of the requests, 32 bits
unfoldable pub requests_offset : List ℕ → ℕ
requests_offset s = le32 s 8

-- offset of the file id (01: pass id), 32 bits
unfoldable pub id_offset : List ℕ → ℕ
id_offset s = le32 s 12

-- total length, 32 bits
unfoldable pub total_length : List ℕ → ℕ
total_length s = le32 s 16

-- the sum as written, 32 bits
unfoldable pub written_sum : List ℕ → ℕ
written_sum s = le32 s 20

-- the file id: the sixteen bytes at 24
unfoldable pub id_of : List ℕ → List ℕ
id_of s = build 16 (λ i. byte s (24 + i))

-- the length of a log of n requests
unfoldable pub length_for : ℕ → ℕ
length_for n = 40 + 6 * n

-- the seconds of the requests, 32 bits each, six bytes apart from 40 on
unfoldable pub seconds_of : List ℕ → List ℕ
seconds_of s = build (request_count s) (λ i. le32 s (40 + 6 * i))

-- the servers of the requests, 16 bits each, after the second
unfoldable pub servers_of : List ℕ → List ℕ
servers_of s = build (request_count s) (λ i. le16 s (44 + 6 * i))

-- what a log says that its file is served under
abbrev pub setup_of : List ℕ → Setup
setup_of s = record { «class» = class_of s; server_count = server_count_of s; home = home_of s }

-- what a log says of its file
unfoldable pub header_of : List ℕ → Header
header_of s = record { «class» = class_of s; server_count = server_count_of s; home = home_of s; id = id_of s }
