-- The servers where a copy stands at a second, and the conditions 14 to 18 by them, as the code comes by them. Assumes nothing.
use Rattle.std.specs.Prelude.{Bool, not, List, [], ◌∷◌, ◌++◌, ℕ, zero, suc, pred, ◌+◌, ◌-◌, ◌*◌, ◌%◌, min, ltb, eqb, length}
use Rattle.base.specs.declared.reasons.Reason.TheVariants as reason
use Rattle.base.specs.Bytes.{le16, le32}
use Rattle.base.specs.Choice.{pick, both, either}
use Rattle.base.specs.Refusals.{Condition, refuse, each}
use Rattle.base.specs.Sets.{has}
use Rattle.request_log.specs.Fields.{server_count_of, home_of, request_count}
use Rattle.model.specs.LogRequests.{requests_in}
use Rattle.model.specs.RowForm.{row_at}
use Rattle.model.specs.Checking.{row_count}
use Rattle.rows.specs.Reading.{server_of, second_of, target_of}
use Rattle.rows.specs.Passes.{join, covers, servers, along, settle, row_tests, any_below, aims, puts, starts}
use Rattle.checker.specs.Search.{hold_key, second_key, upload_key, position}

-- the last hold of server x that began before τ reaches it
unfoldable pub reaches : List ℕ → ℕ → ℕ → Bool
reaches ns τ x =
    let p = position ns (hold_key x τ) in
    both (not (eqb p 0)) (covers τ x (row_at ns (pred p)))

-- with server x of some, where a hold keeps the copy there up to τ; with those of them below n
unfoldable pub with_hold : List ℕ → ℕ → ℕ → ℕ → ℕ → ℕ
with_hold ns τ some w x = pick (both (has some x) (reaches ns τ x)) (join w x) w

unfoldable pub gather : List ℕ → ℕ → ℕ → ℕ → ℕ → ℕ
gather ns τ some w zero = w
gather ns τ some w (suc x) = with_hold ns τ some (gather ns τ some w x) x

-- at second 0 the copy is at home
unfoldable pub begun : ℕ → ℕ → ℕ
begun home τ = pick (eqb τ 0) (join 0 home) 0

-- the first transfer of second τ, and the number of them
unfoldable pub first_of : List ℕ → ℕ → ℕ
first_of ns τ = position ns (second_key τ)

unfoldable pub number_of : List ℕ → ℕ → ℕ
number_of ns τ = position ns (second_key (suc τ)) - first_of ns τ

-- the first upload of second τ, and the number of them
unfoldable pub first_upload : List ℕ → ℕ → ℕ
first_upload ns τ = position ns (upload_key τ 0)

unfoldable pub upload_number : List ℕ → ℕ → ℕ
upload_number ns τ = position ns (upload_key τ 64) - first_upload ns τ

-- the sources of the transfers of τ
unfoldable pub sources : List ℕ → ℕ → ℕ
sources ns τ = servers ns (first_of ns τ) 0 (number_of ns τ)

-- at τ: home at second 0, and the targets of its uploads
unfoldable pub uploaded_to : ℕ → List ℕ → ℕ → ℕ
uploaded_to home ns τ = servers ns (first_upload ns τ) (begun home τ) (upload_number ns τ)

-- the set at τ, of the sources of its transfers, before they are made
unfoldable pub before_transfers : ℕ → ℕ → List ℕ → ℕ → ℕ
before_transfers count home ns τ = gather ns τ (sources ns τ) (uploaded_to home ns τ) count

-- the transfers of τ, once
unfoldable pub second_pass : List ℕ → ℕ → ℕ → ℕ
second_pass ns τ w = along ns τ (first_of ns τ) w (number_of ns τ)

-- where a copy stands at τ, of the sources of its transfers and of the servers that no hold keeps up to τ
unfoldable pub standing_at : ℕ → ℕ → List ℕ → ℕ → ℕ
standing_at count home ns τ = settle count (second_pass ns τ) (before_transfers count home ns τ)

-- ---- 17

-- the first row from its place on is one
unfoldable pub loaded : List ℕ → ℕ → ℕ → Bool
loaded ns τ x =
    let p = position ns (upload_key τ x) in
    both (ltb p (row_count ns)) (puts τ x (row_at ns p))

-- a copy may come to server x at τ: home at second 0, by a transfer of τ, or by an upload of τ
unfoldable pub fed : ℕ → List ℕ → ℕ → ℕ → Bool
fed home ns τ x =
    either (both (eqb τ 0) (eqb x home))
    (either (any_below (number_of ns τ) (λ j. aims x (row_at ns (first_of ns τ + j)))) (loaded ns τ x))

-- the hold at server x from τ on if the set at τ has not x; past the last row where there is none
unfoldable pub unfed : List ℕ → ℕ → ℕ → ℕ → ℕ
unfed ns w τ x =
    let p = position ns (hold_key x τ) in
    pick (has w x) (row_count ns) (pick (starts τ x (row_at ns p)) p (row_count ns))

-- the first hold to which the transfers among the n rows from one on bring no copy
unfoldable pub starved : ℕ → ℕ → List ℕ → ℕ → ℕ → ℕ
starved count home ns from zero = row_count ns
starved count home ns from (suc n) =
    let r = row_at ns (from + n) in
    min (unfed ns (standing_at count home ns (second_of r)) (second_of r) (target_of r)) (starved count home ns from n)

-- the first of the n transfers from one on whose source is not in the set at its second; past the last row where there is none
unfoldable pub unbacked : ℕ → ℕ → List ℕ → ℕ → ℕ → ℕ
unbacked count home ns from zero = row_count ns
unbacked count home ns from (suc n) =
    let r = row_at ns (from + n) in
    min (pick (has (standing_at count home ns (second_of r)) (server_of r)) (row_count ns) (from + n)) (unbacked count home ns from n)

-- hold i is the first of those, or no copy may come to its start
unfoldable pub hold_test : ℕ → List ℕ → ℕ → ℕ → List Condition
hold_test home ns low i =
    refuse reason.NoCopy (suc i) (either (eqb i low) (not (fed home ns (second_of (row_at ns i)) (server_of (row_at ns i))))) ∷ []

-- the first transfer at fault
unfoldable pub transfer_test : List ℕ → ℕ → List Condition
transfer_test ns late = refuse reason.NoCopy (suc late) (ltb late (row_count ns)) ∷ []

-- each hold, then the transfers; an upload asks for no copy
unfoldable pub copy_tests : ℕ → ℕ → List ℕ → List Condition
copy_tests count home ns =
    let holds = first_of ns 0 in
    let rest = first_upload ns 0 - holds in
    each (hold_test home ns (starved count home ns holds rest)) holds ++ transfer_test ns (unbacked count home ns holds rest)

-- ---- 18

-- a copy stands at server x at τ: a hold keeps it there, or the set at τ has x
unfoldable pub stands_at : ℕ → ℕ → List ℕ → ℕ → ℕ → Bool
stands_at count home ns τ x = either (reaches ns τ x) (has (standing_at count home ns τ) x)

-- at request i + 1 of a log
unfoldable pub served : List ℕ → List ℕ → ℕ → Bool
served log ns i = stands_at (server_count_of log) (home_of log) ns (le32 log (40 + 6 * i)) (le16 log (44 + 6 * i))

unfoldable pub serve_test : List ℕ → List ℕ → ℕ → List Condition
serve_test log ns i = refuse reason.Unserved (suc i) (not (served log ns i)) ∷ []

-- 14, then each row's 15 and 16, each row's 17, each request's 18
unfoldable pub schedule_tests : Bool → List ℕ → List ℕ → List Condition
schedule_tests given log ns =
    refuse reason.PartialRow 0 (not (eqb (length ns % 4) 0))
    ∷ (each (row_tests given (server_count_of log) (request_count log) ((requests_in log).time (request_count log)) ns) (row_count ns)
    ++ (copy_tests (server_count_of log) (home_of log) ns ++ each (serve_test log ns) (request_count log)))
