-- A request that is not kept: what S and U add there, and that the table's price of not keeping is the least of what is legal, by the mark that a tie goes to.
use Rattle.std.specs.Prelude.{Bool, ◌⊎◌, ◌≢◌, ◌≡◌, ℕ, suc, ◌+◌, ◌≤◌, ◌<◌, min}
use Rattle.std.proofs.Math.Bool.{true, false}
use Rattle.std.proofs.Common.{inl, inr, sym, le-leb}
use Rattle.std.proofs.Math.Option.{Option, none, some}
use Rattle.std.proofs.Math.Path.{refl, ap}
use native.Mathlib.Omega.{arith}
use Rattle.std.proofs.lemmas.Bool.{lt-leb}
use Rattle.base.specs.Choice.{pick, either, le_or_lt, not_both}
use Rattle.model.specs.Rates.{Rates, some?, or_zero, upload_fee}
use Rattle.model.specs.Requests.{Requests}
use Rattle.model.specs.Marking.{Mark, K, S, U, keeps, loads, legal, gap, fee}
use Rattle.model.specs.Plan.{rank}
use Rattle.model.specs.Table.{open_gap, send_price, cheaper, cheaper_mark, away_price, away_mark, shut_price, open_price, free_price, may_leave}
use Rattle.model.proofs.TableLaws.{open_gap_shut, open_gap_open, open_gap_rises, Fair}
use Rattle.model.proofs.MarkLaws.{rank_apart}

-- ---- by the upload price u, whether S is legal, and what S adds

-- what a mark adds
unfoldable adds : Option ℕ → ℕ → Mark → ℕ
adds u s K = s
adds u s S = s
adds u s U = or_zero u

-- may it stand at a request that is not kept
unfoldable allowed : Option ℕ → Bool → Mark → Bool
allowed u b K = false
allowed u b S = b
allowed u b U = some? u

-- the lesser is no more than any mark adds that may stand there
cheaper_least : (u : Option ℕ) (b : Bool) (s : ℕ) (a : Mark) → allowed u b a ≡ true → cheaper u b s ≤ adds u s a
unfolding cheaper adds allowed some? or_zero
cheaper_least u b s K e = absurd (not_both e refl)
cheaper_least none b s S e = omega arith
cheaper_least none b s U e = absurd (not_both e refl)
cheaper_least (some y) true s S e = omega arith
cheaper_least (some y) false s S e = absurd (not_both e refl)
cheaper_least (some y) true s U e = omega arith
cheaper_least (some y) false s U e = omega arith

-- so where it may be S it is no more than what S adds
pub cheaper_most : (u : Option ℕ) (s : ℕ) → cheaper u true s ≤ s
unfolding allowed adds
cheaper_most u s = cheaper_least u true s S refl

-- its mark: it adds the lesser, is not K, may stand there if any may, and a tie goes to it
record Chosen (u : Option ℕ) (b : Bool) (s : ℕ) : Type 0 where
  paid : adds u s (cheaper_mark u b s) ≡ cheaper u b s
  away : keeps (cheaper_mark u b s) ≡ false
  lawful : either b (some? u) ≡ true → allowed u b (cheaper_mark u b s) ≡ true
  first : (a : Mark) → allowed u b a ≡ true → adds u s a ≤ cheaper u b s → rank (cheaper_mark u b s) ≤ rank a

-- K may not stand there, so the rank is 1 at least
not_first : (u : Option ℕ) (b : Bool) (a : Mark) → allowed u b a ≡ true → 1 ≤ rank a
unfolding allowed rank
not_first u b K e = absurd (not_both e refl)
not_first u b S e = omega arith
not_first u b U e = omega arith

chosen : (u : Option ℕ) (b : Bool) (s : ℕ) → Chosen u b s
unfolding cheaper cheaper_mark adds allowed keeps rank some? or_zero
chosen none b s = record { paid = refl; away = refl; lawful = λ e. legal_by b e; first = λ a e h. not_first none b a e }
  where
    legal_by : (b : Bool) → either b false ≡ true → b ≡ true
    legal_by true e = refl
    legal_by false e = e
chosen (some y) false s = record { paid = refl; away = refl; lawful = λ e. refl; first = λ a e h. only a e }
  where
    only : (a : Mark) → allowed (some y) false a ≡ true → 2 ≤ rank a
    only K e = absurd (not_both e refl)
    only S e = absurd (not_both e refl)
    only U e = omega arith
chosen (some y) true s = go (le_or_lt s y)
  where
    late : y < s → (a : Mark) → allowed (some y) true a ≡ true → adds (some y) s a ≤ min s y → 2 ≤ rank a
    late h K e l = absurd (not_both e refl)
    late h S e l = absurd (omega arith)
    late h U e l = omega arith

    go : (s ≤ y) ⊎ (y < s) → Chosen (some y) true s
    go (inl h) =
        let e : cheaper_mark (some y) true s ≡ S = rw (le-leb s y h) in
        record { paid = rw e (omega arith); away = rw e; lawful = λ z. rw e; first = λ a z l. rw e (not_first (some y) true a z) }
    go (inr h) =
        let e : cheaper_mark (some y) true s ≡ U = rw (lt-leb s y h) in
        record { paid = rw e (omega arith); away = rw e; lawful = λ z. rw e; first = λ a z l. rw e (late h a z l) }

-- it rises with what S adds, by no more than that does
cheaper_rises : (u : Option ℕ) (b : Bool) (s r : ℕ) → s ≤ r → (cheaper u b s ≤ cheaper u b r) × (cheaper u b r + s ≤ cheaper u b s + r)
unfolding cheaper
cheaper_rises none b s r h = (h, omega arith)
cheaper_rises (some y) true s r h = (omega arith, omega arith)
cheaper_rises (some y) false s r h = (omega arith, omega arith)

-- and it is lower where S is legal
cheaper_freer : (u : Option ℕ) (b : Bool) (s : ℕ) → cheaper u true s ≤ cheaper u b s
unfolding cheaper
cheaper_freer none b s = omega arith
cheaper_freer (some y) true s = omega arith
cheaper_freer (some y) false s = omega arith

-- ---- at a request

module _ (p : Rates) (q : Requests) where
  -- such a price of not keeping is fair
  pub cheaper_fair : (b : ℕ → Bool) → Fair p q (λ i c. cheaper p.upload (b i) (send_price p q i c))
  unfolding send_price
  cheaper_fair b =
      record { rises = λ i c d h. (grows i c d h).0; slope = λ i c d h. omega (arith, (grows i c d h).1) }
    where
      grows : (i c d : ℕ) → c ≤ d → (cheaper p.upload (b i) (send_price p q i c) ≤ cheaper p.upload (b i) (send_price p q i d))
          × (cheaper p.upload (b i) (send_price p q i d) + send_price p q i c ≤ cheaper p.upload (b i) (send_price p q i c) + send_price p q i d)
      grows i c d h =
          cheaper_rises p.upload (b i) (send_price p q i c) (send_price p q i d) (omega (arith, open_gap_rises p q i c d h))

  -- what a mark that is not K adds at request i + 1, with the gaps above c covered: what brings a copy there, and the gap before an S
  abbrev pub leave_price : ℕ → ℕ → Mark → ℕ
  leave_price i c a = fee p a + pick (loads a) 0 (open_gap p q i c)

  leave_adds : (i c : ℕ) (a : Mark) → leave_price i c a ≡ adds p.upload (send_price p q i c) a
  unfolding fee loads adds send_price
  leave_adds i c K = refl
  leave_adds i c S = refl
  leave_adds i c U = omega arith

  -- a legal mark that is not K may stand there
  leave_allowed : (i : ℕ) (a : Mark) → keeps a ≡ false → legal p q i a ≡ true → allowed p.upload (legal p q i S) a ≡ true
  unfolding keeps legal allowed
  leave_allowed i K d e = absurd (not_both refl d)
  leave_allowed i S d e = e
  leave_allowed i U d e = e

  allowed_legal : (i : ℕ) (a : Mark) → allowed p.upload (legal p q i S) a ≡ true → legal p q i a ≡ true
  unfolding legal allowed
  allowed_legal i K e = absurd (not_both e refl)
  allowed_legal i S e = e
  allowed_legal i U e = e

  -- where one is legal the request may be other than K
  pub may_by : (i : ℕ) (a : Mark) → keeps a ≡ false → legal p q i a ≡ true → may_leave p q i ≡ true
  unfolding keeps may_leave
  may_by i K d e = absurd (not_both refl d)
  may_by i S d e = rw e
  may_by i U d e = go (legal p q i S)
    where
      go : (b : Bool) → either b (legal p q i U) ≡ true
      go true = refl
      go false = e

  -- the price of not keeping is no more than any of them adds
  pub away_least : (i c : ℕ) (a : Mark) → keeps a ≡ false → legal p q (suc i) a ≡ true → away_price p q i c ≤ leave_price i c a
  unfolding away_price
  away_least i c a d e =
      rw (leave_adds i c a) (cheaper_least p.upload (legal p q (suc i) S) (send_price p q i c) a (leave_allowed (suc i) a d e))

  -- than S
  pub away_S : (i c : ℕ) → legal p q (suc i) S ≡ true → away_price p q i c ≤ send_price p q i c
  unfolding keeps adds
  away_S i c e = rw (← (leave_adds i c S)) (away_least i c S refl e)

  -- than U
  pub away_U : (i c : ℕ) → legal p q (suc i) U ≡ true → away_price p q i c ≤ upload_fee p
  unfolding keeps adds
  away_U i c e = rw (← (leave_adds i c U)) (away_least i c U refl e)

  -- where S is allowed everywhere it is no more either
  pub free_S : (i c : ℕ) → free_price p q i c ≤ send_price p q i c
  unfolding free_price
  free_S i c = cheaper_most p.upload (send_price p q i c)

  pub free_U : (i c : ℕ) → legal p q (suc i) U ≡ true → free_price p q i c ≤ upload_fee p
  unfolding free_price allowed adds legal
  free_U i c e = cheaper_least p.upload true (send_price p q i c) U e

  pub free_away : (i c : ℕ) → free_price p q i c ≤ away_price p q i c
  unfolding free_price away_price
  free_away i c = cheaper_freer p.upload (legal p q (suc i) S) (send_price p q i c)

  -- it is what S adds, or U
  pub free_cases : (i c : ℕ) → (free_price p q i c ≡ send_price p q i c) ⊎ ((legal p q (suc i) U ≡ true) × (free_price p q i c ≡ upload_fee p))
  unfolding free_price allowed adds legal keeps
  free_cases i c = go (cheaper_mark p.upload true (send_price p q i c)) refl
    where
      C : Chosen p.upload true (send_price p q i c)
      C = chosen p.upload true (send_price p q i c)

      go : (a : Mark) → cheaper_mark p.upload true (send_price p q i c) ≡ a
          → (free_price p q i c ≡ send_price p q i c) ⊎ ((legal p q (suc i) U ≡ true) × (free_price p q i c ≡ upload_fee p))
      go K e = absurd (not_both (rw e) C.away)
      go S e = inl (sym (rw e at C.paid))
      go U e = inr (rw e at (C.lawful refl), sym (rw e at C.paid))

  -- the mark that adds it is not K
  pub away_leaves : (i c : ℕ) → keeps (away_mark p q i c) ≡ false
  unfolding away_mark
  away_leaves i c = (chosen p.upload (legal p q (suc i) S) (send_price p q i c)).away

  pub away_paid : (i c : ℕ) → leave_price i c (away_mark p q i c) ≡ away_price p q i c
  unfolding away_mark away_price
  away_paid i c =
      rw (leave_adds i c (cheaper_mark p.upload (legal p q (suc i) S) (send_price p q i c)))
      (chosen p.upload (legal p q (suc i) S) (send_price p q i c)).paid

  -- it is legal where the request may be other than K
  pub away_legal : (i c : ℕ) → may_leave p q (suc i) ≡ true → legal p q (suc i) (away_mark p q i c) ≡ true
  unfolding away_mark may_leave legal
  away_legal i c e =
      allowed_legal (suc i) (cheaper_mark p.upload (legal p q (suc i) S) (send_price p q i c))
      ((chosen p.upload (legal p q (suc i) S) (send_price p q i c)).lawful e)

  -- and a tie goes to it
  pub away_first : (i c : ℕ) (a : Mark) → keeps a ≡ false → legal p q (suc i) a ≡ true → leave_price i c a ≤ away_price p q i c
      → away_mark p q i c ≢ a → rank (away_mark p q i c) < rank a
  unfolding away_mark away_price
  away_first i c a d e h apart =
      rank_apart (cheaper_mark p.upload (legal p q (suc i) S) (send_price p q i c)) a
      ((chosen p.upload (legal p q (suc i) S) (send_price p q i c)).first a (leave_allowed (suc i) a d e) (rw (leave_adds i c a) at h))
      apart

  -- the price of not keeping where the gap before the request is covered
  pub away_shut : (i c : ℕ) → c ≤ i → away_price p q i c ≡ shut_price p q i
  unfolding away_price shut_price send_price
  away_shut i c h = ap (cheaper p.upload (legal p q (suc i) S)) (omega (arith, open_gap_shut p q i c h))

  -- and where it is not
  pub away_open : (i c : ℕ) → i < c → away_price p q i c ≡ open_price p q i
  unfolding away_price open_price send_price gap
  away_open i c h = ap (cheaper p.upload (legal p q (suc i) S)) (omega (arith, open_gap_open p q i c h))
