-- `season::lines::put_report` meets its contract. Assumes nothing.
use borrow.Author.Rules.{rules}
use mathlib.Core.Path.{◌∙◌}
use Prim.Native.Nat.{ℕ}
use mir.Syntax.{w64}
use mir.Val.{Fits}
use lib.ListN.{get_or}
use Rattle.text.specs.Lines.{ascii}
use Rattle.text.specs.Page.{page}
use Rattle.season.specs.ReportLaws.{report_parts, report_length}
use Rattle.season.proofs.lines.put_report.Goals as goal

pub returns : goal.returns
unfolding ascii
returns c =
    let t = c.args.tally in
    let fits = c.well_formed.1.0.1.1 in
    let costs = fits.1.1.1 in
    let w = costs.1.1.0.1.1 in
    let n : (k : ℕ) → Fits w64 (get_or t.refused k 0) = λ k. search rules in record {
      text_after = c.put_worst.ensures
          ∙ rw (c.put_line-d.ensures, c.put_line-c.ensures, c.put_counts-b.ensures, c.put_line-a.ensures) (report_parts t (page 0 c.args.text.now));
      tally_len_bound = report_length t fits.1.0.1 (λ k h. (n k).fits) costs.0.1 costs.1.0.1 w.0.1 w.1.0.1 w.1.1.0.1;
    }
