-- 46 holds exactly where something is out of range.
use Rattle.std.specs.Prelude.{true, false, ◌↔◌, ◌≡◌, refl, ℕ, zero, suc, ◌≤◌, ltb, Ok, Err}
use Rattle.base.specs.declared.reasons.Reason.TheVariants as reason
use Rattle.std.proofs.Common.{sym, ◌∙◌, ltb-false, le-ltb}
use Rattle.base.specs.declared.Refusal.{Refusal}
use Rattle.base.specs.ChoiceLaws.{either_false, neither_of}
use Rattle.base.specs.Choice.{pick, not_both}
use Rattle.base.specs.Refusals.{first, refusal, nth}
use Rattle.base.specs.RefusalLaws.{first_refused, first_passed}
use Rattle.prices.specs.PriceLaws.{in_range}
use Rattle.forcing.specs.declared.Game.{Game}
use Rattle.game.specs.declared.Winner.TheVariants.{Keeper, Guest}
use Rattle.forcing.specs.Positions.{start}
use Rattle.forcing.specs.Winning.{keeper_wins}
use Rattle.game.specs.Answers.{Ranged, beyond, play_conditions, play_verdict, played}

-- a number that is not beyond the most is from 1 to it
within_most : (most x : ℕ) → beyond most x ≡ false → (1 ≤ x) × (x ≤ most)
unfolding beyond
within_most most x e = let (a, b) = either_false (ltb x 1) (ltb most x) e in (ltb-false x 1 a, ltb-false most x b)

-- and the other way round
not_beyond : (most x : ℕ) → 1 ≤ x → x ≤ most → beyond most x ≡ false
unfolding beyond
not_beyond most x h l = neither_of (le-ltb x 1 h) (le-ltb most x l)

-- a game is played exactly if it is in range
pub ranged : (g : Game) → (play_verdict g ≡ Ok tt) ↔ Ranged g
unfolding play_verdict play_conditions first
ranged g = (to, from)
  where
    to : play_verdict g ≡ Ok tt → Ranged g
    to e =
        let f = (first_passed (play_conditions g)).0 e in
        let s = within_most 3 g.servers (f 0) in
        let r = within_most 3 g.requests (f 1) in
        let l = within_most 3 g.largest (f 2) in
        let p = within_most 1000 g.p (f 4) in
        let q = within_most 1000 g.q (f 5) in
        record {
          servers_least = s.0;
          servers_most = s.1;
          requests_least = r.0;
          requests_most = r.1;
          largest_least = l.0;
          largest_most = l.1;
          priced = (in_range g.prices).0 (f 3);
          p_least = p.0;
          p_most = p.1;
          q_least = q.0;
          q_most = q.1;
        }

    from : Ranged g → play_verdict g ≡ Ok tt
    from R =
        rw (
          not_beyond 3 g.servers R.servers_least R.servers_most,
          not_beyond 3 g.requests R.requests_least R.requests_most,
          not_beyond 3 g.largest R.largest_least R.largest_most,
          (in_range g.prices).1 R.priced,
          not_beyond 1000 g.p R.p_least R.p_most,
          not_beyond 1000 g.q R.q_least R.q_most,
        )

-- then the answer is who wins
pub played_winner : (g : Game) → play_verdict g ≡ Ok tt → played g ≡ pick (keeper_wins g g.requests start) (Ok Keeper) (Ok Guest)
unfolding played
played_winner g e = rw e

-- or the refusal
pub played_refused : (g : Game) (r : Refusal) → play_verdict g ≡ Err r → played g ≡ Err r
unfolding played
played_refused g r e = rw e

-- which is 46, place 0
pub only_46 : (g : Game) (r : Refusal) → play_verdict g ≡ Err r → r ≡ record { reason = reason.GameRange; place = 0 }
unfolding play_verdict play_conditions
only_46 g r e = let f = (first_refused (play_conditions g) r).0 e in go f.index f.met f.gives
  where
    reasons : (i : ℕ) → (nth (play_conditions g) i).holds ≡ true → refusal (nth (play_conditions g) i) ≡ record { reason = reason.GameRange; place = 0 }
    reasons zero h = refl
    reasons (suc zero) h = refl
    reasons (suc (suc zero)) h = refl
    reasons (suc (suc (suc zero))) h = refl
    reasons (suc (suc (suc (suc zero)))) h = refl
    reasons (suc (suc (suc (suc (suc zero))))) h = refl
    reasons (suc (suc (suc (suc (suc (suc i)))))) h = absurd (not_both h refl)

    go : (i : ℕ) → (nth (play_conditions g) i).holds ≡ true → refusal (nth (play_conditions g) i) ≡ r → r ≡ record { reason = reason.GameRange; place = 0 }
    go i h e = sym e ∙ reasons i h
