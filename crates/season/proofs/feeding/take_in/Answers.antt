-- `season::feeding::take_in` meets its contract. Assumes nothing.
use Rattle.std.proofs.Common.{true, false, [], ◌≡◌, sym, ap, ◌∙◌, arith, length, take, take_all, length-take-le}
use Rattle.base.specs.Lists.{splice}
use Rattle.prices.specs.Tariff.{built_in}
use Rattle.season.specs.declared.Tally.{Tally}
use Rattle.season.specs.Steps.{gathered, full, unfinished, with_bytes}
use Rattle.season.specs.FeedLaws.{full_piece, after_taking, taking}
use Rattle.season.proofs.feeding.take_in.Goals as goal

pub returns-then-is_full : goal.returns-then-is_full
returns-then-is_full c =
    let piece = c.args.piece.now in
    let f : full c.args.tally ≡ true = sym c.is_full.ensures ∙ c.if-is_full.true in
    let e = full_piece built_in c.args.tally (take c.args.held c.args.room.now) piece f c.requires.2 in
    record {
      room_after = ap (λ (x : _). gathered x _) c.step.ensures ∙ sym e ∙ ap (with_bytes built_in (gathered c.args.tally (take c.args.held c.args.room.now))) (sym (take_all (length piece) piece (omega arith)));
      held_lt_log_room = (omega arith, c.requires.2, omega arith);
    }

pub slice_bounds-need-end-2 : goal.slice_bounds-need-end-2
slice_bounds-need-end-2 c = sym (length-take-le c.args.held c.args.room.now (omega (arith, c.requires.0, c.requires.1)))

pub slice_bounds-copy-end : goal.slice_bounds-copy-end
slice_bounds-copy-end c =
    sym (length-take-le _ c.args.piece.now (omega (arith, c.min-n.ensures)))

pub overflow_add-end : goal.overflow_add-end
overflow_add-end c =
    let k = taking built_in c.args.tally c.args.held _ _ c.args.room.now c.args.piece.now _ c.is_full.ensures c.if-is_full.false c.requires.0 c.requires.1 c.requires.2 c.need.ensures c.min-n.ensures in
    record { fits = omega (arith, k.fits) }

pub slice_bounds-is_unfinished-end : goal.slice_bounds-is_unfinished-end
slice_bounds-is_unfinished-end c =
    let k = taking built_in c.args.tally c.args.held _ _ c.args.room.now c.args.piece.now _ c.is_full.ensures c.if-is_full.false c.requires.0 c.requires.1 c.requires.2 c.need.ensures c.min-n.ensures in
    omega (arith, k.fits, c.requires.1, c.copy.auto.out)

pub slice_bounds-is_unfinished-end-2 : goal.slice_bounds-is_unfinished-end-2
slice_bounds-is_unfinished-end-2 c =
    let k = taking built_in c.args.tally c.args.held _ _ c.args.room.now c.args.piece.now _ c.is_full.ensures c.if-is_full.false c.requires.0 c.requires.1 c.requires.2 c.need.ensures c.min-n.ensures in
    sym (length-take-le _ _ (omega (arith, k.fits, c.requires.1, c.copy.auto.out)))

pub returns-then-is_unfinished : goal.returns-then-is_unfinished
returns-then-is_unfinished c =
    let k = taking built_in c.args.tally c.args.held _ _ c.args.room.now c.args.piece.now _ c.is_full.ensures c.if-is_full.false c.requires.0 c.requires.1 c.requires.2 c.need.ensures c.min-n.ensures in
    let held : _ ≡ splice c.args.held (take c.min-n.result c.args.piece.now) c.args.room.now = c.copy.ensures in
    let u : unfinished built_in (after_taking c.args.held c.min-n.result c.args.room.now c.args.piece.now) ≡ true =
    rw (← held) (sym c.is_unfinished.ensures ∙ c.if-is_unfinished.true) in
    record {
      room_after = rw held (k.waits u);
      held_lt_log_room = (k.short u, k.some, k.there);
    }

pub slice_bounds-step-end-2 : goal.slice_bounds-step-end-2
slice_bounds-step-end-2 c =
    let k = taking built_in c.args.tally c.args.held _ _ c.args.room.now c.args.piece.now _ c.is_full.ensures c.if-is_full.false c.requires.0 c.requires.1 c.requires.2 c.need.ensures c.min-n.ensures in
    omega (arith, k.fits, c.requires.1, c.copy.auto.out)

pub slice_bounds-step-end-3 : goal.slice_bounds-step-end-3
slice_bounds-step-end-3 c =
    let k = taking built_in c.args.tally c.args.held _ _ c.args.room.now c.args.piece.now _ c.is_full.ensures c.if-is_full.false c.requires.0 c.requires.1 c.requires.2 c.need.ensures c.min-n.ensures in
    sym (length-take-le _ _ (omega (arith, k.fits, c.requires.1, c.copy.auto.out)))

pub returns : goal.returns
returns c =
    let k = taking built_in c.args.tally c.args.held _ _ c.args.room.now c.args.piece.now _ c.is_full.ensures c.if-is_full.false c.requires.0 c.requires.1 c.requires.2 c.need.ensures c.min-n.ensures in
    let held : _ ≡ splice c.args.held (take c.min-n.result c.args.piece.now) c.args.room.now = c.copy.ensures in
    let u : unfinished built_in (after_taking c.args.held c.min-n.result c.args.room.now c.args.piece.now) ≡ false =
    rw (← held) (sym c.is_unfinished.ensures ∙ c.if-is_unfinished.false) in
    record {
      room_after = ap (λ (x : Tally). gathered x []) (c.step-2.ensures ∙ rw held) ∙ k.counts u;
      held_lt_log_room = (omega arith, k.some, k.there);
    }
