-- `season::feeding::feed` meets its contract. Assumes nothing.
use Rattle.std.proofs.Common.{length, sym, ◌∙◌}
use Rattle.prices.specs.Tariff.{built_in}
use Rattle.season.specs.FeedLaws.{fed_refused, feed_passed, fed_passed}
use Rattle.season.proofs.feeding.feed.Goals as goal

pub returns-in-Err : goal.returns-in-Err
returns-in-Err c =
    let e = fed_refused built_in c.args.season c.args.room.now c.args.piece.now _ (sym c.feed_fault.ensures ∙ c.in-Err.is) in
    record { value = e.0; room_after = e.1 }

pub take_all-t-requires : goal.take_all-t-requires
take_all-t-requires c = feed_passed c.args.season.held (length c.args.room.now) (sym c.feed_fault.ensures ∙ c.in_default.is)

pub returns : goal.returns
returns c =
    let t = c.take_all-t in
    let f = fed_passed built_in c.args.season c.args.room.now _ c.args.piece.now t.result.tally t.result.held
    (sym c.feed_fault.ensures ∙ c.in_default.is) t.auto.room t.ensures.held_lt_log_room t.ensures.room_after in
    record { value = f.0; room_after = c.clear.ensures ∙ f.1 }
