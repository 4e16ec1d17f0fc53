-- `writer::write` meets its contract. Assumes nothing.
use mathlib.Core.Path.{◌≡◌}
use Rattle.prices.specs.Offer.{built_in_offer}
use Rattle.request_log.specs.AnswerLaws.{write_ended}
use Rattle.writer.proofs.write.Goals as goal

pub returns : goal.returns
returns c =
    let gone : c.ended.result ≡ built_in_offer.ended c.args.header.«class» = c.ended.ensures in
    rw (← write_ended _ built_in_offer _ _ gone, ← c.built_in.ensures) c.write_by.ensures
