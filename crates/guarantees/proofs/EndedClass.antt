-- A log of a class that is no longer sold is planned and served as before, proved.
use Rattle.std.specs.Prelude.{List, ◌≡◌, refl, ℕ}
use Rattle.prices.specs.Prices.{classes, prices_of}
use Rattle.prices.specs.PriceLaws.{given_priced}
use Rattle.prices.specs.Tariff.{built_in, none}
use Rattle.request_log.specs.Fields.{class_of, setup_of, header_of}
use Rattle.request_log.specs.Conditions.{Accepted}
use Rattle.request_log.specs.Contents.{decode}
use Rattle.request_log.specs.Ranges.{Sound}
use Rattle.request_log.specs.AcceptedLaws.{sound_accepted}
use Rattle.model.specs.LogRequests.{prices_in}
use Rattle.live.specs.Live.{opened}
use Rattle.live.specs.LiveLaws.{starts}
use Rattle.guarantees.proofs.Quotes.{whole_within}
use Rattle.guarantees.specs.Demand3.{Ready, for_log, online_within_three}
use Rattle.guarantees.proofs.Demand3.{planned_best}
use Rattle.guarantees.specs.EndedClass.{seven, written_43, started_43, OldLog}

-- OLD LOGS: every log of class 7 that is as the format says
pub old_log : (log : List ℕ) → Sound log → class_of log ≡ 7 → OldLog log
unfolding prices_in prices_of classes opened decode header_of
old_log log sound e =
    let a : Accepted built_in log = sound_accepted built_in log refl (rw e seven) sound in
    let ready : Ready built_in none (header_of log) (opened built_in log) = for_log (starts built_in (given_priced built_in none) log a) in
    record {
      accepted = a;
      prices_are = rw e;
      planned = λ u taken k h. planned_best built_in u taken log k a h;
      quoted = whole_within built_in log a;
      started = ready;
      within = λ calls. online_within_three built_in none (header_of log) (opened built_in log) ready calls;
      unstarted = (started_43 (setup_of log)).1 e;
      unwritten = λ room. (written_43 (decode log) room).1 e;
    }
