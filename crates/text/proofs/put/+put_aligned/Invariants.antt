-- A shorter number each time.
use Rattle.text.proofs.put.+put_aligned.Given as goal

abbrev pub decreases-put_aligned : goal.decreases-put_aligned
decreases-put_aligned l = l.number
