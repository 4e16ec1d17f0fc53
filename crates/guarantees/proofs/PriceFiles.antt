-- Demand 3 for every price file, proved.
use Rattle.prices.specs.Tariff.{Tariff, Given}
use Rattle.guarantees.specs.Demand3.{online_within_three}
use Rattle.guarantees.proofs.Demand3.{planned_best}
use Rattle.guarantees.proofs.Closes.{closes_within}
use Rattle.guarantees.specs.PriceFiles.{Demand3}

-- DEMAND 3 FOR EVERY TABLE: with any price file, and without one
pub demand_3 : (t : Tariff) (g : Given t) → Demand3 t g
demand_3 t g = record { planner = planned_best t; online = online_within_three t g; closes = closes_within t g }
