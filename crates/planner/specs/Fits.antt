-- Requests and prices whose costs fit the code's numbers, and lists that hold them. Assumes nothing.
use Rattle.std.specs.Prelude.{List, ◌≡◌, ℕ, suc, ◌-◌, ◌^◌, ◌≤◌, ◌<◌}
use Rattle.std.proofs.Common.{mul-le-mul, arith}
use Rattle.model.specs.Rates.{Rates, upload_fee}
use Rattle.request_log.specs.Sizes.{most_requests}
use Rattle.model.specs.Requests.{Requests, previous, Rising}
use Rattle.model.specs.Table.{best}
use Rattle.model.proofs.TableLaws.{span}
use Rattle.model.proofs.TableLists.{at}
use Rattle.model.proofs.TableRows.{Tabled, row, row_is}
use Rattle.model.proofs.Bounds.{best_rises, best_most, owns_most}
use Rattle.planner.specs.Asked.{asks}
use Rattle.planner.specs.Terms.{index, terms_of, own_cost}

-- as few requests, as early seconds and as low prices as an accepted log has
pub record Fits (p : Rates) (q : Requests) (n : ℕ) : Type 0 where
  pub hold_most : p.hold ≤ 1000000
  pub transfer_most : p.transfer ≤ 1000000
  pub upload_most : upload_fee p ≤ 1000000
  pub requests_most : n ≤ most_requests
  pub times_most : (i : ℕ) → i ≤ n → q.time i ≤ 4000000
  pub rising : Rising q n

-- lists of seconds, servers and previous requests, ready for the table's first n requests
pub record Ready (p : Rates) (seconds servers links : List ℕ) (n : ℕ) : Type 0 where
  pub fits : Fits p (asks seconds servers) n
  pub linked : (i : ℕ) → i ≤ n → at links i ≡ index (previous (asks seconds servers) i)

-- a list that has, from place 1 on, what each of n requests costs by itself
abbrev pub Owned : Rates → Requests → ℕ → List ℕ → Type 0
Owned p q n owns = (i : ℕ) → i < n → at owns (suc i) ≡ own_cost p (terms_of p q i)

module _ (p : Rates) (q : Requests) (n : ℕ) (f : Fits p q n) where
  -- the same for fewer
  pub fits_less : (m : ℕ) → m ≤ n → Fits p q m
  fits_less m h =
      record {
        hold_most = f.hold_most;
        transfer_most = f.transfer_most;
        upload_most = f.upload_most;
        requests_most = omega (arith, f.requests_most);
        times_most = λ i l. f.times_most i (omega arith);
        rising = record { start = f.rising.start; rise = λ i l. f.rising.rise i (omega arith) };
      }

  -- a span's cost
  pub span_small : (j i : ℕ) → i ≤ n → span p q j i < 2 ^ 60
  span_small j i h = omega (arith, mul-le-mul {n₁ = p.hold} {m₁ = q.time i - q.time j} {n₂ = 1000000} {m₂ = 4000000} f.hold_most (omega (arith, f.times_most i h)))

  -- a cost of the table
  pub best_small : (i c : ℕ) → c ≤ i → i ≤ n → best p q i c < 2 ^ 60
  best_small i c a h =
      omega (
        arith,
        best_rises p q i c i a,
        best_most p q n f.rising i h,
        owns_most p q i,
        mul-le-mul {n₁ = p.transfer} {m₁ = i} {n₂ = 1000000} {m₂ = most_requests} f.transfer_most (omega (arith, f.requests_most)),
        mul-le-mul {n₁ = p.hold} {m₁ = q.time i} {n₂ = 1000000} {m₂ = 4000000} f.hold_most (f.times_most i h),
      )

  -- a row of right C and D
  pub row_small : (C D : ℕ → ℕ) (c k : ℕ) → Tabled p q n C D → c ≤ k → k ≤ n → row p q C D c k < 2 ^ 60
  row_small C D c k r a h =
      rw (row_is p q C D k c (record { costs = λ i l. r.costs i (omega arith); keeps = λ i j l. r.keeps i j (omega arith) }) a) (best_small k c a h)

-- lists that are ready for n requests are so for fewer
pub ready_less : (p : Rates) (seconds servers links : List ℕ) (n m : ℕ) → m ≤ n → Ready p seconds servers links n → Ready p seconds servers links m
ready_less p seconds servers links n m h r =
    record { fits = fits_less p (asks seconds servers) n r.fits m h; linked = λ i l. r.linked i (omega arith) }
