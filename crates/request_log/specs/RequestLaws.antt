-- Where a request stands in a log: by its six bytes, and the last one's second.
use Rattle.std.specs.Prelude.{List, ◌≢◌, ◌≡◌, refl, ℕ, zero, suc, ◌+◌, ◌-◌, ◌*◌, take, drop}
use Rattle.std.proofs.Common.{sym, ap, ◌∙◌, arith}
use Rattle.base.specs.Bytes.{le16, le32}
use Rattle.base.specs.BytesLaws.{le16_part, le32_part}
use Rattle.request_log.specs.Fields.{request_count, seconds_of}
use Rattle.request_log.specs.Conditions.{before}
use Rattle.request_log.specs.ConditionLaws.{before_next}

-- its six bytes by themselves say what they say in the log
pub request_part : (s : List ℕ) (k i : ℕ) → i ≡ 40 + 6 * k
    → (le32 (take (i + 6 - i) (drop i s)) 0 ≡ le32 s (40 + 6 * k)) × (le16 (take (i + 6 - i) (drop i s)) 4 ≡ le16 s (44 + 6 * k))
request_part s k i e =
    let p : i + 0 ≡ 40 + 6 * k = omega arith in
    let q : i + 4 ≡ 44 + 6 * k = omega arith in
    (le32_part s i (i + 6 - i) 0 (omega arith) ∙ ap (le32 s) p, le16_part s i (i + 6 - i) 4 (omega arith) ∙ ap (le16 s) q)

-- the second of the last one: 0 where there is none, else the number where it begins
pub last_none : (s : List ℕ) (n : ℕ) → n ≡ request_count s → n ≡ 0 → before (seconds_of s) (request_count s) ≡ 0
unfolding before
last_none s n e z = rw (← e, z)

pub last_read : (s : List ℕ) (n : ℕ) → n ≡ request_count s → n ≢ 0 → before (seconds_of s) (request_count s) ≡ le32 s (34 + 6 * n)
last_read s zero e d = absurd (d refl)
last_read s (suc k) e d =
    let p : 40 + 6 * k ≡ 34 + 6 * suc k = omega arith in
    ap (before (seconds_of s)) (sym e) ∙ before_next s k (omega arith) ∙ ap (le32 s) p
