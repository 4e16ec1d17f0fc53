-- `rows::sets::settle` meets its contract. Assumes nothing.
use Rattle.std.proofs.Common.{◌≡◌, ℕ, ◌-◌}
use Rattle.rows.specs.Passes.{along, settle}
use Rattle.rows.proofs.sets.settle.Given as goal

abbrev pub invariant-loop : goal.invariant-loop
invariant-loop l =
    settle (l.count - l.counter) (λ (v : ℕ). along l.ns l.t l.from v (l.to - l.from)) l.w
    ≡ settle l.count (λ (v : ℕ). along l.ns l.t l.from v (l.to - l.from)) l.start
