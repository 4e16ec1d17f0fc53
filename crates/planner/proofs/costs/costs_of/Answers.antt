-- `planner::costs::costs_of` meets its contract. Assumes nothing.
use lib.ListN.{length}
use mathlib.Core.List.{List, [], ◌∷◌}
use mathlib.Core.Path.{◌≡◌, sym, ap, ap₂, ◌∙◌}
use native.Mathlib.Numerals.{add-one}
use native.Mathlib.Omega.{arith}
use Prim.Native.Nat.{ℕ, suc, ◌+◌}
use Rattle.std.specs.Prelude.{Ok}
use Rattle.std.proofs.lemmas.Result.{err_from_is_err_and}
use Rattle.base.specs.Lent.{lent}
use Rattle.base.specs.Lists.{cleared}
use Rattle.base.specs.Refusals.{first, short}
use Rattle.planner.specs.Asked.{asks}
use Rattle.planner.specs.Fees.{rated}
use Rattle.planner.specs.LeastAnswer.{costs_answer}
use Rattle.planner.specs.LeastAnswerLaws.{roomy, costs_lent}
use Rattle.planner.proofs.costs.costs_of.Goals as goal

pub returns-in_err-refuse_if : goal.returns-in_err-refuse_if
unfolding costs_answer lent
returns-in_err-refuse_if c =
    let n = c.args.summary.requests in
    let e = c.from-needed.ensures in
    let p = err_from_is_err_and c.from_residual.result c.from_residual.ensures.1 in
    let v : first (short (suc n) (length c.args.costs.now) ∷ []) ≡ _ = rw (e, add-one n) at (sym c.in_err-refuse_if.ensures) in
    record { value = rw (p.1, p.2, v); costs_after = rw v }

pub fill-requires : goal.fill-requires
fill-requires c =
    let n = c.args.summary.requests in
    let few = c.requires.fits.requests_most in
    let l = roomy n c.args.costs.now (rw (c.from-needed.ensures, add-one n) at (sym c.in_ok-refuse_if.ensures)) in
    record { ready = c.requires; n_in_bounds = (omega arith, omega arith) }

pub returns : goal.returns
unfolding costs_answer
returns c =
    let a = c.args in
    let n = a.summary.requests in
    let e : c.from-needed.result + 1 ≡ suc n = ap (λ (k : ℕ). k + 1) c.from-needed.ensures ∙ add-one n in
    let v : first (short (suc n) (length a.costs.now) ∷ []) ≡ Ok tt = rw e at (sym c.in_ok-refuse_if.ensures) in
    record {
      value = rw (v, c.prefixes.ensures);
      costs_after = rw v
          (c.clear.ensures
          ∙ ap₂ (λ (k : ℕ) (o : List ℕ). cleared k o) e c.fill.ensures.costs_after
          ∙ costs_lent (rated a.summary.fees) (asks a.seconds.now a.servers.now) n a.costs.now (roomy n a.costs.now v));
    }
