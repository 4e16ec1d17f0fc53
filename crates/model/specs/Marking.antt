-- Markings of requests, the servers that hold over each gap, and a marking's cost and rows: 01's 'The plan', with the U of 02's Req 11. Assumes nothing.
use Rattle.std.specs.Prelude.{Bool, true, false, not, List, [], ◌∷◌, ◌++◌, ◌≡◌, ℕ, zero, suc, pred, ◌+◌, ◌-◌, ◌*◌, ◌≤◌, ◌<◌, leb, ltb, eqb}
use Rattle.std.proofs.Math.Option.{Option, none, some}
use Rattle.base.specs.Choice.{pick, both, either}
use Rattle.base.specs.Nearest.{nearest}
use Rattle.model.specs.Rates.{Rates, some?, offers, upload_fee}
use Rattle.model.specs.Sums.{sum}
use Rattle.model.specs.Requests.{Requests, previous}
use Rattle.model.specs.Schedule.{Row, hold, move, transfer, upload}

-- K: kept since the previous request at that server. S: sent there by a transfer. U: brought there by an upload.
pub data Mark : Type 0 where
  K : Mark
  S : Mark
  U : Mark

-- is it K
unfoldable pub keeps : Mark → Bool
keeps K = true
keeps S = false
keeps U = false

-- is it S
unfoldable pub sends : Mark → Bool
sends K = false
sends S = true
sends U = false

-- is it U
unfoldable pub loads : Mark → Bool
loads K = false
loads S = false
loads U = true

-- K needs a previous request at the server, so a server's first request, home excepted, is S or U;
-- S needs another server than that of the request before (home before request 1), so a request at the same server is K or U; U needs an upload price
unfoldable pub legal : Rates → Requests → ℕ → Mark → Bool
legal p q i K = some? (previous q i)
legal p q i S = not (eqb (q.server i) (q.server (pred i)))
legal p q i U = offers p

-- the marks of the first n requests are legal
abbrev pub Valid : Rates → Requests → (ℕ → Mark) → ℕ → Type 0
Valid p q m n = (i : ℕ) → 1 ≤ i → i ≤ n → legal p q i (m i) ≡ true

-- how many of the first n requests are S
unfoldable pub sent : (ℕ → Mark) → ℕ → ℕ
sent m n = sum n (λ i. pick (sends (m i)) 1 0)

-- and how many are U
unfoldable pub loaded : (ℕ → Mark) → ℕ → ℕ
loaded m n = sum n (λ i. pick (loads (m i)) 1 0)

-- the gap before request i: from the request before it
unfoldable pub gap : Requests → ℕ → ℕ
gap q i = q.time i - q.time (pred i)

-- where the K span of a kept request begins: its previous request
unfoldable pub begin : Requests → (ℕ → Mark) → ℕ → Option ℕ
begin q m i = pick (keeps (m i)) (previous q i) none

-- the span from a previous request lies over gap k
unfoldable pub after : Option ℕ → ℕ → Bool
after none k = false
after (some j) k = ltb j k

-- request i is kept, and its span lies over gap k
unfoldable pub spans : Requests → (ℕ → Mark) → ℕ → ℕ → Bool
spans q m i k = both (leb k i) (after (begin q m i) k)

-- one of 1 to n passes a test
unfoldable pub any : ℕ → (ℕ → Bool) → Bool
any zero f = false
any (suc n) f = either (f (suc n)) (any n f)

-- some K span of the first n requests lies over gap k
unfoldable pub covered : Requests → (ℕ → Mark) → ℕ → ℕ → Bool
covered q m n k = any n (λ i. spans q m i k)

-- server y holds over gap k: by a K span there; over a gap that no K span covers, the server of the earlier request, but none before a U
unfoldable pub holds : Requests → (ℕ → Mark) → ℕ → ℕ → ℕ → Bool
holds q m n k y = pick (covered q m n k) (any n (λ i. both (eqb (q.server i) y) (spans q m i k))) (both (not (loads (m k))) (eqb y (q.server (pred k))))

-- the price of bringing a copy to a request that is not kept: the upload price for U, else the transfer price
unfoldable pub fee : Rates → Mark → ℕ
fee p K = p.transfer
fee p S = p.transfer
fee p U = upload_fee p

-- what request i costs by its mark: the hold price over its span, or the price of bringing a copy there
unfoldable pub own : Rates → Requests → Option ℕ → Mark → ℕ → ℕ
own p q none a i = fee p a
own p q (some j) a i = p.hold * (q.time i - q.time j)

-- the seconds that are held over gap k where no K span covers it: all, but none before a U
unfoldable pub asked : Requests → (ℕ → Mark) → ℕ → ℕ
asked q m k = pick (loads (m k)) 0 (gap q k)

-- the marks of the first n requests, and what is held over the gaps that no K span covers
unfoldable pub cost : Rates → Requests → (ℕ → Mark) → ℕ → ℕ
cost p q m n =
    sum n (λ i. own p q (begin q m i) (m i) i)
    + sum n (λ k. pick (covered q m n k) 0 (p.hold * asked q m k))

-- a run begins with gap k: a hold over gap k and none over the one before
unfoldable pub begins_run : (ℕ → Bool) → ℕ → Bool
begins_run f k = both (f k) (not (both (ltb 1 k) (f (pred k))))

-- the last gap of the run that gap k is in, looking d gaps ahead
unfoldable pub run_end : (ℕ → Bool) → ℕ → ℕ → ℕ
run_end f k zero = k
run_end f k (suc d) = pick (f (suc k)) (run_end f (suc k) d) k

-- the holds at server y that begin with gaps 1 to k: one for each run of the n gaps that y holds over (01: touching stays join)
unfoldable pub hold_rows : Requests → (ℕ → Bool) → ℕ → ℕ → ℕ → List Row
hold_rows q f n y zero = []
hold_rows q f n y (suc k) =
    hold_rows q f n y k
    ++ pick (begins_run f (suc k)) (hold y (q.time k) (q.time (run_end f (suc k) (n - suc k))) ∷ []) []

-- the holds of the servers below a bound, server by server
unfoldable pub all_holds : Requests → (ℕ → Mark) → ℕ → ℕ → List Row
all_holds q m n zero = []
all_holds q m n (suc y) = all_holds q m n y ++ hold_rows q (λ k. holds q m n k y) n y n

-- the transfers of requests 1 to i that are marked S, each from the source given for it
unfoldable pub transfers : Requests → (ℕ → Mark) → (ℕ → ℕ) → ℕ → List Row
transfers q m source zero = []
transfers q m source (suc i) =
    transfers q m source i
    ++ pick (sends (m (suc i))) (move (transfer (source (suc i)) (q.server (suc i)) (q.time (suc i))) ∷ []) []

-- the uploads of requests 1 to i that are marked U
unfoldable pub uploads : Requests → (ℕ → Mark) → ℕ → List Row
uploads q m zero = []
uploads q m (suc i) = uploads q m i ++ pick (loads (m (suc i))) (move (upload (q.server (suc i)) (q.time (suc i))) ∷ []) []

-- where a transfer to request i comes from: of the servers that hold over the gap before it the nearest to its own, the lower of two equally near
unfoldable pub source : Requests → ℕ → (ℕ → Mark) → ℕ → ℕ → ℕ
source q count m n i = nearest count (holds q m n i) (q.server i)

-- each S of the first n requests has a source below the count that holds over the gap before it
abbrev pub Good : ℕ → Requests → (ℕ → Mark) → ℕ → (ℕ → ℕ) → Type 0
Good count q m n from = (i : ℕ) → 1 ≤ i → i ≤ n → m i ≡ S → (from i < count) × (holds q m n i (from i) ≡ true)

-- the rows of a marking of n requests, with a source for each transfer
unfoldable pub rows_from : Requests → ℕ → (ℕ → Mark) → ℕ → (ℕ → ℕ) → List Row
rows_from q count m n from = all_holds q m n count ++ (transfers q m from n ++ uploads q m n)

-- the rows of a marking: S is sent from the nearest holder over the gap before it
unfoldable pub rows : Requests → ℕ → (ℕ → Mark) → ℕ → List Row
rows q count m n = rows_from q count m n (source q count m n)
