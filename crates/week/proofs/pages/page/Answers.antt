-- `week::pages::page` meets its contract. Assumes nothing.
use Rattle.prices.specs.Tariff.{built_in}
use Rattle.week.specs.PageLaws.{short_roomy}
use Rattle.week.proofs.pages.page.Goals as goal

pub page_in-requires : goal.page_in-requires
page_in-requires c = short_roomy built_in c.args.log.now c.if-log.true
