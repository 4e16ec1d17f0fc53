-- Each number below how many settings there are is a setting that may be set, and whatever is set means one of them. So the keeper's turn is a search through them.
use Rattle.std.proofs.Math.Bool.{Bool, true, false, not}
use Rattle.std.specs.Prelude.{◌⊎◌, ◌≢◌, ◌≡◌, eqb}
use Rattle.std.proofs.Common.{inl, inr, sym, ap, ◌∙◌, div-lt_iff_lt-mul, mod-lt, mod-eq_of_lt, mul-le-mul_left}
use Rattle.std.proofs.Math.Path.{refl, fun_ext}
use Rattle.std.proofs.Math.Nat.{mul-add-div_right, div-eq_of_lt, mul-add-mod_self_right}
use native.Mathlib.Omega.{arith}
use Prim.Native.Nat.{ℕ, zero, suc, ◌+◌, ◌*◌, ◌/◌, ◌%◌, ◌≤◌, ◌<◌}
use Rattle.std.proofs.Math.ListN.{get_or}
use borrow.Author.Tests.{eq-eqb, ne_eqb}
use Rattle.base.specs.Choice.{pick, same_or_not}
use Rattle.base.specs.ChoiceLaws.{same_truth}
use Rattle.base.specs.Below.{some_below}
use Rattle.base.specs.BelowLaws.{below_one, below_some}
use Rattle.forcing.specs.declared.Game.{Game}
use Rattle.game.specs.declared.board.Board.{Board}
use Rattle.game.specs.Answers.{Ranged}
use Rattle.forcing.specs.Positions.{Position, last_at, Stays}
use Rattle.forcing.specs.Winning.{some_stays, guest_wins, keeper_wins}
use Rattle.forcing.proofs.RoundLaws.{meant, after_meant}
use Rattle.forcing.proofs.StayLaws.{stays_some, stays_one, guest_same}
use Rattle.game.specs.Costs.{last_of}
use Rattle.game.specs.Boards.{asked_of, shown, stays_in, Fits}
use Rattle.game.specs.BoardLaws.{Set, set_none}
use Rattle.game.specs.Settings.{free, settings, stay, setting}

-- ---- two digits in one number: d below a, and what is left

-- the lower one
digit_low : (r a d : ℕ) → d < a → (r * a + d) % a ≡ d
digit_low r a d h = mul-add-mod_self_right r a d ∙ mod-eq_of_lt h

-- what is left
digit_rest : (r a d : ℕ) → d < a → (r * a + d) / a ≡ r
digit_rest r a d h = omega (arith, mul-add-div_right (let z : 0 < a = omega arith in z) r d, div-eq_of_lt h)

-- the number is below the product of what its digits are below
digit_below : (r m a d : ℕ) → r < m → d < a → r * a + d < m * a
digit_below r m a d h l = omega (arith, mul-le-mul_left a h)

module _ (g : Game) (b : Board) (R : Ranged g) (F : Fits g b) where
  -- the position that is shown
  abbrev P : Position
  P = shown b

  -- what can be set at y, by what stands there
  data At (y : ℕ) : Type 0 where
    last : free g b y ≡ 0 → ((s : ℕ → ℕ) → meant g P s y ≡ g.largest) → ((d : ℕ) → stay g b y d ≡ g.largest) → At y
    none : free g b y ≡ 0 → ((s : ℕ → ℕ) → meant g P s y ≡ 0) → ((d : ℕ) → stay g b y d ≡ d) → At y
    some : free g b y ≡ g.largest → ((s : ℕ → ℕ) → meant g P s y ≡ s y) → ((d : ℕ) → stay g b y d ≡ d) → At y

  -- it is one of these
  at : (y : ℕ) → At y
  unfolding free meant stay shown asked_of last_of last_at
  at y = go (same_or_not y (last_of b)) (get_or b.copies y false) refl
    where
      go : (y ≡ last_of b) ⊎ (y ≢ last_of b) → (c : Bool) → get_or b.copies y false ≡ c → At y
      go (inl e) true h = last (rw (h, eq-eqb y (last_of b) e)) (λ s. rw (eq-eqb y (last_of b) e)) (λ d. rw (eq-eqb y (last_of b) e))
      go (inl e) false h = last (rw h) (λ s. rw (eq-eqb y (last_of b) e)) (λ d. rw (eq-eqb y (last_of b) e))
      go (inr e) true h = some (rw (h, ne_eqb y (last_of b) e)) (λ s. rw (ne_eqb y (last_of b) e, h)) (λ d. rw (ne_eqb y (last_of b) e))
      go (inr e) false h = none (rw h) (λ s. rw (ne_eqb y (last_of b) e, h)) (λ d. rw (ne_eqb y (last_of b) e))

  -- a digit that is at most what can be set is what it means
  stay_means : (y d : ℕ) → d ≤ free g b y → (s : ℕ → ℕ) → s y ≡ stay g b y d → meant g P s y ≡ s y
  stay_means y d h s e = go (at y)
    where
      go : At y → meant g P s y ≡ s y
      go (last f m t) = omega (arith, m s, t d)
      go (none f m t) = omega (arith, m s, t d)
      go (some f m t) = m s

  -- and may be set
  stay_most : (y d : ℕ) → d ≤ free g b y → stay g b y d ≤ g.largest
  stay_most y d h = go (at y)
    where
      go : At y → stay g b y d ≤ g.largest
      go (last f m t) = omega (arith, t d)
      go (none f m t) = omega (arith, t d)
      go (some f m t) = omega (arith, t d)

  -- past the three servers
  far : (y : ℕ) (s : ℕ → ℕ) → 3 ≤ y → meant g P s y ≡ 0
  unfolding meant
  far y s h =
      let other : y ≢ last_at P = λ e. omega (arith, F.counted.last_in R.servers_least, R.servers_most) in
      rw (ne_eqb y (last_at P) other, F.counted.others y (omega (arith, R.servers_most)) other)

  -- ---- a number is a setting

  module _ (k : ℕ) (h : k < settings g b) where
    -- its stays
    abbrev s : ℕ → ℕ
    s = stays_in (setting g b k)

    -- each digit is at most what can be set
    low : k % suc (free g b 0) ≤ free g b 0
    low = let z = mod-lt k (let w : 0 < suc (free g b 0) = omega arith in w) in omega arith

    mid : k / suc (free g b 0) % suc (free g b 1) ≤ free g b 1
    mid = let z = mod-lt (k / suc (free g b 0)) (let w : 0 < suc (free g b 1) = omega arith in w) in omega arith

    top : k / suc (free g b 0) / suc (free g b 1) ≤ free g b 2
    unfolding settings
    top =
        let z = (div-lt_iff_lt-mul (let w : 0 < suc (free g b 1) = omega arith in w)).1 ((div-lt_iff_lt-mul (let w : 0 < suc (free g b 0) = omega arith in w)).1 h) in
        omega arith

    -- so it is what it means
    pub setting_set : Set g b (setting g b k)
    unfolding setting
    setting_set = record { long = refl; means = go }
      where
        go : (y : ℕ) → meant g P s y ≡ s y
        go zero = stay_means 0 _ low s refl
        go (suc zero) = stay_means 1 _ mid s refl
        go (suc (suc zero)) = stay_means 2 _ top s refl
        go (suc (suc (suc y))) = far (suc (suc (suc y))) s (omega arith)

    -- and may be set
    pub setting_stays : (y : ℕ) → s y ≤ g.largest
    unfolding setting
    setting_stays zero = stay_most 0 _ low
    setting_stays (suc zero) = stay_most 1 _ mid
    setting_stays (suc (suc zero)) = stay_most 2 _ top
    setting_stays (suc (suc (suc y))) = omega arith

  -- ---- whatever is set means a setting that has a number

  module _ (s : ℕ → ℕ) (h : Stays g s) where
    -- what is set at y, where there is something to set
    digit : ℕ → ℕ
    digit y = pick (get_or b.copies y false) (pick (eqb y (last_of b)) 0 (s y)) 0

    -- it is at most what can be set
    digit_most : (y : ℕ) → digit y ≤ free g b y
    unfolding digit free Stays
    digit_most y = go (get_or b.copies y false) (eqb y (last_of b))
      where
        go : (c d : Bool) → pick c (pick d 0 (s y)) 0 ≤ pick c (pick d 0 g.largest) 0
        go true true = omega arith
        go true false = h y
        go false d = omega arith

    -- the stay is what is meant
    digit_means : (y : ℕ) → stay g b y (digit y) ≡ meant g P s y
    unfolding stay digit meant shown asked_of last_of last_at
    digit_means y = go (get_or b.copies y false) (eqb y (last_of b))
      where
        go : (c d : Bool) → pick d g.largest (pick c (pick d 0 (s y)) 0) ≡ pick d g.largest (pick c (s y) 0)
        go true true = refl
        go true false = refl
        go false true = refl
        go false false = refl

    -- the number, and it without its lowest digit
    rest : ℕ
    rest = digit 2 * suc (free g b 1) + digit 1

    number : ℕ
    number = rest * suc (free g b 0) + digit 0

    -- its lowest digit
    number_low : number % suc (free g b 0) ≡ digit 0
    unfolding number
    number_low = digit_low rest (suc (free g b 0)) (digit 0) (omega (arith, digit_most 0))

    -- what is left
    number_rest : number / suc (free g b 0) ≡ rest
    unfolding number
    number_rest = digit_rest rest (suc (free g b 0)) (digit 0) (omega (arith, digit_most 0))

    -- it is the number of a setting
    number_below : number < settings g b
    unfolding number rest settings
    number_below =
        digit_below rest (suc (free g b 2) * suc (free g b 1)) (suc (free g b 0)) (digit 0)
        (digit_below (digit 2) (suc (free g b 2)) (suc (free g b 1)) (digit 1) (omega (arith, digit_most 2)) (omega (arith, digit_most 1)))
        (omega (arith, digit_most 0))

    -- which is what is meant
    number_means : stays_in (setting g b number) ≡ meant g P s
    unfolding setting rest
    number_means = fun_ext go
      where
        one : rest % suc (free g b 1) ≡ digit 1
        one = digit_low (digit 2) (suc (free g b 1)) (digit 1) (omega (arith, digit_most 1))

        two : rest / suc (free g b 1) ≡ digit 2
        two = digit_rest (digit 2) (suc (free g b 1)) (digit 1) (omega (arith, digit_most 1))

        go : (y : ℕ) → get_or (setting g b number) y 0 ≡ meant g P s y
        go zero = ap (stay g b 0) number_low ∙ digit_means 0
        go (suc zero) = ap (λ (r : ℕ). stay g b 1 (r % suc (free g b 1))) number_rest ∙ (ap (stay g b 1) one ∙ digit_means 1)
        go (suc (suc zero)) = ap (λ (r : ℕ). stay g b 2 (r / suc (free g b 1))) number_rest ∙ (ap (stay g b 2) two ∙ digit_means 2)
        go (suc (suc (suc y))) = sym (far (suc (suc (suc y))) s (omega arith))

  -- ---- the keeper's turn

  -- it is a search through the settings
  pub keeper_turn : (n : ℕ) → keeper_wins g (suc n) P ≡ some_below (settings g b) (λ k. not (guest_wins g P (stays_in (setting g b k)) (keeper_wins g n)))
  unfolding keeper_wins Stays
  keeper_turn n = same_truth _ _ to from
    where
      wins : (ℕ → ℕ) → Bool
      wins s = not (guest_wins g P s (keeper_wins g n))

      to : some_stays g.servers g.largest wins ≡ true → some_below (settings g b) (λ k. wins (stays_in (setting g b k))) ≡ true
      to e =
          let (set, h, d) = stays_some g.servers g.largest wins e in
          below_one (settings g b) (λ k. wins (stays_in (setting g b k))) (number set h) (number_below set h)
          (ap wins (number_means set h) ∙ (ap not (sym (guest_same g P set (meant g P set) (keeper_wins g n) (after_meant g P set))) ∙ d))

      from : some_below (settings g b) (λ k. wins (stays_in (setting g b k))) ≡ true → some_stays g.servers g.largest wins ≡ true
      from e =
          let (k, h, d) = below_some (settings g b) (λ k. wins (stays_in (setting g b k))) e in
          stays_one g.servers g.largest wins (stays_in (setting g b k)) (λ y l. setting_stays k h y) (λ y l. none_past k h y l) d
        where
          none_past : (k : ℕ) → k < settings g b → (y : ℕ) → g.servers ≤ y → stays_in (setting g b k) y ≡ 0
          none_past k h y l = set_none g b (setting g b k) R F (setting_set k h) y l
