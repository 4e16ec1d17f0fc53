-- A round on a board is a round of the position that it shows, and a board that fits goes to one that does.
use Rattle.std.specs.Prelude.{Bool, true, false, List, ◌⊎◌, ◌≢◌, ◌≡◌, refl, leb, eqb, set, length}
use Rattle.std.proofs.Common.{inl, inr, sym, ap, ◌∙◌, arith, ne_eqb}
use Rattle.std.proofs.Math.Path.{fun_ext}
use Prim.Native.Nat.{ℕ, zero, suc, ◌+◌, ◌*◌, ◌≤◌, ◌<◌, min}
use Rattle.std.proofs.Math.ListN.{get_or, length-set, get_or-eq_default}
use Rattle.std.proofs.Math.Seq.{get_or-set_same, get_or-set_other}
use Rattle.std.proofs.lemmas.Bool.{lt-leb}
use Rattle.base.specs.Choice.{pick, either, le_or_lt, same_or_not}
use Rattle.base.specs.Lists.{build, build_at, build_length}
use Rattle.model.specs.Sums.{sum}
use Rattle.model.specs.Requests.{Requests}
use Rattle.model.specs.Rates.{plain}
use Rattle.model.specs.Table.{best}
use Rattle.model.proofs.BestLaws.{best_zero}
use Rattle.online.specs.Servers.{across}
use Rattle.online.specs.ServerLaws.{across_same}
use Rattle.forcing.specs.declared.Game.{Game}
use Rattle.game.specs.declared.board.Board.{Board}
use Rattle.game.specs.Answers.{Ranged}
use Rattle.forcing.specs.Positions.{Position, start, now_at, last_at, Move, there, holding, put, with_request, after}
use Rattle.forcing.proofs.RoundLaws.{meant, there_meant, holding_meant, counted_start, counted_after}
use Rattle.forcing.proofs.StayLaws.{put_same, put_other}
use Rattle.game.specs.Costs.{now_of, source_of, next_cost}
use Rattle.game.specs.Boards.{asked_of, shown, stays_in, start_board, moved, Fits}
use Rattle.game.specs.CostLaws.{cost_next, cost_most}

-- a place of four set, as a function
set_put : (xs : List ℕ) (i a : ℕ) → i < length xs → ◌≡◌ {A = ℕ → ℕ} (λ j. get_or (set xs i a) j 0) (put (λ j. get_or xs j 0) i a)
set_put xs i a h = fun_ext (λ j. go j (same_or_not j i))
  where
    go : (j : ℕ) → (j ≡ i) ⊎ (j ≢ i) → get_or (set xs i a) j 0 ≡ put (λ j. get_or xs j 0) i a j
    go j (inl e) = rw e (get_or-set_same xs i a 0 h ∙ sym (put_same (λ j. get_or xs j 0) i a i refl))
    go j (inr e) = get_or-set_other xs i j a 0 e ∙ sym (put_other (λ j. get_or xs j 0) i a j e)

-- the sum over three servers, where those from n on add nothing
across_three : (n : ℕ) (f : ℕ → ℕ) → n ≤ 3 → ((y : ℕ) → n ≤ y → f y ≡ 0) → across n f ≡ f 0 + f 1 + f 2
unfolding across sum
across_three zero f h z = omega (arith, z 0 (omega arith), z 1 (omega arith), z 2 (omega arith))
across_three (suc zero) f h z = omega (arith, z 1 (omega arith), z 2 (omega arith))
across_three (suc (suc zero)) f h z = omega (arith, z 2 (omega arith))
across_three (suc (suc (suc zero))) f h z = omega arith
across_three (suc (suc (suc (suc n)))) f h z = absurd (omega arith)

-- positions with the same parts
same_position : (a a' : Requests) (n : ℕ) (f f' : ℕ → Bool) (h h' t t' : ℕ) → a ≡ a' → f ≡ f' → h ≡ h' → t ≡ t'
    → ◌≡◌ {A = Position} (record { asked = a; count = n; stands = f; held = h; transfers = t }) (record { asked = a'; count = n; stands = f'; held = h'; transfers = t' })
same_position a a' n f f' h h' t t' p q r s = rw (p, q, r, s)

-- and requests
same_requests : (t t' s s' : ℕ → ℕ) → t ≡ t' → s ≡ s' → ◌≡◌ {A = Requests} (record { time = t; server = s }) (record { time = t'; server = s' })
same_requests t t' s s' p q = rw (p, q)

-- ---- before the first request

-- the board shows the position
pub shown_start : shown start_board ≡ start
unfolding shown start start_board asked_of
shown_start = same_position _ _ 0 _ _ 0 0 0 0 (same_requests _ _ _ _ (fun_ext zeros) (fun_ext zeros)) (fun_ext home) refl refl
  where
    zeros : (i : ℕ) → get_or start_board.seconds i 0 ≡ 0
    zeros zero = refl
    zeros (suc zero) = refl
    zeros (suc (suc zero)) = refl
    zeros (suc (suc (suc zero))) = refl
    zeros (suc (suc (suc (suc i)))) = refl

    home : (y : ℕ) → get_or start_board.copies y false ≡ eqb y 0
    home zero = refl
    home (suc zero) = refl
    home (suc (suc zero)) = refl
    home (suc (suc (suc y))) = sym (ne_eqb (suc (suc (suc y))) 0 (λ e. omega arith))

-- and fits
pub fits_start : (g : Game) → Fits g start_board
unfolding start_board now_of
fits_start g =
    record {
      seconds_long = refl;
      servers_long = refl;
      copies_long = refl;
      costs_long = refl;
      few = omega arith;
      now_most = omega arith;
      past = zeros;
      held_most = omega arith;
      transfers_most = omega arith;
      counted = rw shown_start (counted_start g);
      costs_right = λ c h. omega (arith, zeros c, best_zero (plain g.prices) (asked_of start_board) c);
      costs_most = zeros;
    }
  where
    zeros : (i : ℕ) → get_or start_board.seconds i 0 ≤ 0
    zeros zero = omega arith
    zeros (suc zero) = omega arith
    zeros (suc (suc zero)) = omega arith
    zeros (suc (suc (suc zero))) = omega arith
    zeros (suc (suc (suc (suc i)))) = omega arith

-- ---- a round

-- one request more
pub moved_count : (g : Game) (b : Board) (stays : List ℕ) (gap x : ℕ) → (moved g b stays gap x).count ≡ suc b.count
unfolding moved
moved_count g b stays gap x = refl

-- the stays in a list of three are what they mean on a board
pub record Set (g : Game) (b : Board) (stays : List ℕ) : Type 0 where
  pub long : length stays ≡ 3
  pub means : (y : ℕ) → meant g (shown b) (stays_in stays) y ≡ get_or stays y 0

-- then there is none at a server that the game does not have
pub set_none : (g : Game) (b : Board) (stays : List ℕ) → Ranged g → Fits g b → Set g b stays → (y : ℕ) → g.servers ≤ y → get_or stays y 0 ≡ 0
unfolding meant
set_none g b stays R F E y h =
    let other : y ≢ last_at (shown b) = λ e. omega (arith, F.counted.last_in R.servers_least) in
    sym (E.means y) ∙ rw (ne_eqb y (last_at (shown b)) other, F.counted.others y h other)

module _ (g : Game) (b : Board) (stays : List ℕ) (gap x : ℕ) (R : Ranged g) (F : Fits g b) (E : Set g b stays) (room : b.count < 3) (M : Move g gap x) where
  -- the stays, and the position that is shown
  abbrev s : ℕ → ℕ
  s = stays_in stays

  abbrev P : Position
  P = shown b

  -- a copy stands where it stays so long, and holds so long
  stands_is : (y : ℕ) → there P s gap y ≡ leb gap (get_or stays y 0)
  stands_is y = there_meant g P s gap x M y ∙ ap (leb gap) (E.means y)

  holds_is : (y : ℕ) → holding P s gap y ≡ min (get_or stays y 0) gap
  holds_is y = holding_meant g P s gap x M y ∙ ap (λ (a : ℕ). min a gap) (E.means y)

  -- the copies after it
  copies_is : ◌≡◌ {A = ℕ → Bool} (λ y. get_or (build 3 (λ y. either (eqb y x) (leb gap (get_or stays y 0)))) y false) (λ y. either (eqb y x) (there P s gap y))
  copies_is = fun_ext (λ y. go y (le_or_lt 3 y))
    where
      f : ℕ → Bool
      f y = either (eqb y x) (leb gap (get_or stays y 0))

      go : (y : ℕ) → (3 ≤ y) ⊎ (y < 3) → get_or (build 3 f) y false ≡ either (eqb y x) (there P s gap y)
      go y (inl h) =
          get_or-eq_default (build 3 f) false {n = y} (omega (arith, build_length 3 f))
          ∙ sym (rw (ne_eqb y x (λ e. omega (arith, M.counted, R.servers_most)), stands_is y, set_none g b stays R F E y (omega (arith, R.servers_most))) (lt-leb gap 0 M.some_gap))
      go y (inr h) = build_at 3 f y false h ∙ ap (λ (a : Bool). either (eqb y x) a) (sym (stands_is y))

  -- and the seconds held
  held_is : across g.servers (holding P s gap) ≡ min (get_or stays 0 0) gap + min (get_or stays 1 0) gap + min (get_or stays 2 0) gap
  held_is =
      across_same g.servers (holding P s gap) (λ y. min (get_or stays y 0) gap) (λ y h. holds_is y)
      ∙ across_three g.servers (λ y. min (get_or stays y 0) gap) R.servers_most (λ y h. omega (arith, set_none g b stays R F E y h))

  -- the requests
  asked_moved : asked_of (moved g b stays gap x) ≡ with_request (asked_of b) (suc b.count) (now_of b + gap) x
  unfolding moved asked_of with_request
  asked_moved =
      same_requests _ _ _ _ (set_put b.seconds (suc b.count) (now_of b + gap) (omega (arith, F.seconds_long)))
      (set_put b.servers (suc b.count) x (omega (arith, F.servers_long)))

  -- so the board after it shows the position after it
  pub shown_moved : shown (moved g b stays gap x) ≡ after g P s gap x
  unfolding shown moved after now_of now_at asked_of
  shown_moved =
      same_position (asked_of (moved g b stays gap x)) _ (suc b.count) _ _ _ _ _ _ asked_moved copies_is (ap (λ (a : ℕ). b.held + a) (sym held_is)) (ap (λ (a : Bool). b.transfers + pick a 0 1) (sym (stands_is x)))

  -- its second
  moved_now : now_of (moved g b stays gap x) ≡ now_of b + gap
  unfolding now_of moved
  moved_now = get_or-set_same b.seconds (suc b.count) (now_of b + gap) 0 (omega (arith, F.seconds_long))

  -- a gap is at most three seconds
  short : gap ≤ 3
  short = omega (arith, M.most_gap, R.largest_most)

  -- and it fits
  pub fits_moved : Fits g (moved g b stays gap x)
  unfolding moved
  fits_moved =
      record {
        seconds_long = length-set b.seconds _ _ ∙ F.seconds_long;
        servers_long = length-set b.servers _ _ ∙ F.servers_long;
        copies_long = build_length 3 _;
        costs_long = build_length 4 _;
        few = omega arith;
        now_most = omega (arith, moved_now, F.now_most, short);
        past = λ i. past i (same_or_not i (suc b.count));
        held_most = omega (arith, F.held_most, short);
        transfers_most = sent (leb gap (get_or stays x 0));
        counted = rw shown_moved (counted_after g P s gap x M F.counted);
        costs_right = λ c h. build_at 4 (next_cost g b gap (source_of b x)) c 0 h ∙ costs c;
        costs_most = λ c. costs_most c (le_or_lt 4 c);
      }
    where
      past : (i : ℕ) → (i ≡ suc b.count) ⊎ (i ≢ suc b.count) → get_or (set b.seconds (suc b.count) (now_of b + gap)) i 0 ≤ now_of (moved g b stays gap x)
      past i (inl e) = rw e (omega (arith, get_or-set_same b.seconds (suc b.count) (now_of b + gap) 0 (omega (arith, F.seconds_long)), moved_now))
      past i (inr e) = omega (arith, get_or-set_other b.seconds (suc b.count) i (now_of b + gap) 0 e, F.past i, moved_now)

      sent : (a : Bool) → b.transfers + pick a 0 1 ≤ suc b.count
      sent true = omega (arith, F.transfers_most)
      sent false = omega (arith, F.transfers_most)

      costs : (c : ℕ) → next_cost g b gap (source_of b x) c ≡ best (plain g.prices) (asked_of (moved g b stays gap x)) (suc b.count) c
      costs c = rw asked_moved (cost_next g b F (omega arith) gap x c)

      costs_most : (c : ℕ) → (4 ≤ c) ⊎ (c < 4) → get_or (build 4 (next_cost g b gap (source_of b x))) c 0 ≤ 10000000 * suc b.count
      costs_most c (inl h) = omega (arith, get_or-eq_default (build 4 (next_cost g b gap (source_of b x))) 0 {n = c} (omega (arith, build_length 4 (next_cost g b gap (source_of b x)))))
      costs_most c (inr h) = omega (arith, build_at 4 (next_cost g b gap (source_of b x)) c 0 h, cost_most g b R F room gap short (source_of b x) c)
