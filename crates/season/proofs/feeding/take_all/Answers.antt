-- `season::feeding::take_all` meets its contract. Assumes nothing.
use borrow.Author.Rules.{rules}
use mathlib.Core.Path.{◌≡◌, refl, ◌∙◌}
use native.Mathlib.Omega.{arith}
use Prim.Native.Nat.{◌+◌, ◌≤◌}
use lib.ListN.{length, take}
use lib.Seq.{take_all}
use Rattle.prices.specs.Tariff.{built_in}
use Rattle.request_log.specs.Sizes.{log_room}
use Rattle.season.specs.Steps.{gathered, with_bytes}
use Rattle.season.specs.FeedLaws.{part_length, taken_next}
use Rattle.season.proofs.feeding.take_all.Goals as goal

pub loop-at-init : goal.loop-at-init
unfolding with_bytes
loop-at-init c = (omega arith, refl, c.requires.0, refl)

pub take_in-t-requires : goal.take_in-t-requires
take_in-t-requires c =
    let l = c.loop-at in
    let roomy : log_room ≤ length l.room = omega (arith, l.invariant.1, c.requires.1) in
    (l.invariant.2, roomy, omega (arith, part_length l.at c.args.piece.now))

pub overflow_add-at : goal.overflow_add-at
overflow_add-at c =
    let l = c.loop-at in
    let k : l.at + c.take_in-t.result.used ≤ length c.args.piece.now = omega (arith, c.take_in-t.ensures.held_lt_log_room.2, part_length l.at c.args.piece.now, l.invariant.0) in
    search rules

pub loop-at-smaller : goal.loop-at-smaller
loop-at-smaller c =
    let l = c.loop-at in
    omega (arith, c.take_in-t.ensures.held_lt_log_room.1, c.take_in-t.ensures.held_lt_log_room.2, part_length l.at c.args.piece.now, l.invariant.0)

pub loop-at-preserved : goal.loop-at-preserved
loop-at-preserved c =
    let l = c.loop-at in (
      omega (arith, c.take_in-t.ensures.held_lt_log_room.2, part_length l.at c.args.piece.now, l.invariant.0),
      c.take_in-t.auto.room ∙ l.invariant.1,
      c.take_in-t.ensures.held_lt_log_room.0,
      c.take_in-t.ensures.room_after ∙ taken_next built_in (gathered c.args.tally (take c.args.held c.args.room.now)) (gathered l.sums (take l.kept l.room)) l.at c.take_in-t.result.used c.args.piece.now l.invariant.3,
    )

pub returns : goal.returns
returns c =
    let l = c.loop-at in
    let e : take l.at c.args.piece.now ≡ c.args.piece.now = take_all l.at c.args.piece.now (omega arith) in
    record { room_after = rw e at l.invariant.3; held_lt_log_room = l.invariant.2 }
