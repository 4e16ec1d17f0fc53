-- The requests of a list, one after the other: what a history must have for a list of calls to go through it.
use Rattle.std.specs.Prelude.{List, [], ◌∷◌, map, ◌≡◌, ℕ, suc, ◌+◌, ◌<◌, length, get_or}
use Rattle.std.proofs.Common.{ap, ◌∙◌, arith}
use Rattle.model.specs.Requests.{Requests, requests}
use Rattle.bounds.specs.Calls.{Request, requests_of}

-- the requests from request i + 1 on are those of a list
unfoldable pub Follows : Requests → ℕ → List Request → Type 0
Follows q i [] = Unit {0}
Follows q i (r ∷ rs) = (q.time (suc i) ≡ r.second) × (q.server (suc i) ≡ r.server) × Follows q (suc i) rs

-- they are where each is
follows : (q : Requests) (i : ℕ) (rs : List Request)
    → ((l : ℕ) → l < length rs → q.time (suc (i + l)) ≡ get_or (map (λ r. r.second) rs) l 0)
    → ((l : ℕ) → l < length rs → q.server (suc (i + l)) ≡ get_or (map (λ r. r.server) rs) l 0) → Follows q i rs
unfolding Follows
follows q i [] a b = tt
follows q i (r ∷ rs) a b = (
  ap q.time (let e : suc i ≡ suc (i + 0) = omega arith in e) ∙ a 0 (omega arith),
  ap q.server (let e : suc i ≡ suc (i + 0) = omega arith in e) ∙ b 0 (omega arith),
  follows q (suc i) rs
      (λ l h. ap q.time (let e : suc (suc i + l) ≡ suc (i + suc l) = omega arith in e) ∙ a (suc l) (omega arith))
      (λ l h. ap q.server (let e : suc (suc i + l) ≡ suc (i + suc l) = omega arith in e) ∙ b (suc l) (omega arith)),
)

-- so are those of the list itself, from request 1 on
pub follows_of : (home : ℕ) (rs : List Request) → Follows (requests_of home rs) 0 rs
unfolding requests_of requests
follows_of home rs =
    follows (requests_of home rs) 0 rs
    (λ l h. ap (requests_of home rs).time (let e : suc (0 + l) ≡ suc l = omega arith in e))
    (λ l h. ap (requests_of home rs).server (let e : suc (0 + l) ≡ suc l = omega arith in e))
