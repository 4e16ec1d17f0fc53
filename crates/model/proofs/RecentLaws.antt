-- A list with an entry for each of 64 servers, made from the latest request there: how it begins, is read, and goes on.
use Rattle.std.specs.Prelude.{List, ◌≡◌, refl, ℕ, suc, ◌<◌, set, replicate}
use Rattle.std.proofs.Math.Option.{Option, none, some}
use Rattle.std.proofs.Common.{sym, ◌∙◌, arith, ext_get_or}
use Rattle.std.proofs.Math.Path.{ap}
use Rattle.std.proofs.lemmas.List.{length-replicate, get_or-replicate}
use Rattle.base.specs.Lists.{build, build_length, build_at, build_set}
use Rattle.model.specs.Requests.{latest}
use Rattle.model.proofs.RequestLaws.{latest_hit, latest_miss}
use Rattle.model.proofs.TableLists.{at}

-- one value, n times
replicate_build : (n v : ℕ) → replicate n v ≡ build n (λ i. v)
replicate_build n v =
    ext_get_or 0 (replicate n v) (build n (λ i. v)) (length-replicate n v ∙ sym (build_length n (λ i. v)))
    (λ i h.
    let l : i < n = omega (arith, length-replicate n v) in
    get_or-replicate n i v 0 l ∙ sym (build_at n (λ i. v) i 0 l))

-- requests at servers s, and what is entered for the latest index at a server, or for none
module _ (s : ℕ → ℕ) (entry : Option ℕ → ℕ) where
  -- the entries after the first i indices
  unfoldable pub recents : ℕ → List ℕ
  recents i = build 64 (λ y. entry (latest s y i))

  -- none yet
  pub recents_zero : replicate 64 (entry none) ≡ recents 0
  unfolding recents latest
  recents_zero = replicate_build 64 (entry none)

  -- read at a server
  pub recents_at : (i y : ℕ) → y < 64 → at (recents i) y ≡ entry (latest s y i)
  unfolding recents
  recents_at i y h = build_at 64 (λ y. entry (latest s y i)) y 0 h

  -- one more index
  pub recents_next : (i : ℕ) → set (recents i) (s i) (entry (some i)) ≡ recents (suc i)
  unfolding recents
  recents_next i =
      build_set 64 (s i) (entry (some i)) (λ y. entry (latest s y i)) (λ y. entry (latest s y (suc i)))
      (ap entry (latest_hit s (s i) i refl)) (λ k d. ap entry (latest_miss s k i (λ z. d (sym z))))
