-- The list of previous requests, as it is filled from that of the most recent request at each server.
use Rattle.std.specs.Prelude.{List, ◌++◌, ◌≡◌, ℕ, suc, ◌<◌, length, drop, set}
use Rattle.base.specs.Lists.{build}
use Rattle.base.specs.LentLaws.{fill_next}
use Rattle.model.specs.Requests.{latest}
use Rattle.model.proofs.RecentLaws.{recents, recents_at}
use Rattle.model.proofs.TableLists.{at}
use Rattle.planner.specs.Terms.{index}

module _ (s : ℕ → ℕ) where
  -- the previous requests of the first i, at the front of a list
  unfoldable pub links_front : ℕ → List ℕ → List ℕ
  links_front i o = build i (λ k. index (latest s (s k) k)) ++ drop i o

  -- one more
  pub links_next : (i : ℕ) (o : List ℕ) → i < length o → s i < 64 → set (links_front i o) i (at (recents s index i) (s i)) ≡ links_front (suc i) o
  unfolding links_front
  links_next i o h l = rw (recents_at s index i (s i) l) (fill_next (λ k. index (latest s (s k) k)) i o h)
