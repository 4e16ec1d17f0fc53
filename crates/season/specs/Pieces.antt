-- A list of pieces, each fed to the season and the room that the one before left: whatever the pieces are, none is refused and the tally is that of the whole input.
use Rattle.std.specs.Prelude.{Bool, true, false, List, [], ◌∷◌, ◌++◌, ◌⊎◌, ◌≡◌, refl, ℕ, ◌-◌, ◌≤◌, ◌<◌, take, replicate, Ok}
use Rattle.std.proofs.Common.{inl, inr, sym, ◌∙◌, arith, length-append, take_at, le-ltb}
use Rattle.std.proofs.Math.Path.{ap, subst}
use Rattle.std.proofs.Math.ListN.{length}
use Rattle.std.proofs.lemmas.List.{length-replicate}
use Rattle.std.proofs.lemmas.Bool.{lt-leb}
use Rattle.base.specs.Choice.{pick, true_or_false}
use Rattle.base.specs.Lent.{lent}
use Rattle.base.specs.Refusals.{first, Verdict}
use Rattle.prices.specs.Tariff.{Tariff}
use Rattle.request_log.specs.Sizes.{log_room}
use Rattle.season.specs.Steps.{Gathered, gathered, full, unfinished, stepped, with_byte, with_bytes, feed_verdict}
use Rattle.season.specs.Answers.{gathered_in, fed_by}
use Rattle.season.specs.Claims.{Kept, fed_piece, fed_pieces, Passes, joined}
use Rattle.season.specs.Needs.{unfinished_short}
use Rattle.season.specs.Whole.{with_both}

-- what is held is shorter than any log
byte_short : (t : Tariff) (g : Gathered) (b : ℕ) → length (with_byte t g b).held < log_room
unfolding with_byte
byte_short t g b = go (full g.tally) (true_or_false (unfinished t (g.held ++ (b ∷ []))))
  where
    s : List ℕ
    s = g.held ++ (b ∷ [])

    go : (w : Bool) → (unfinished t s ≡ true) ⊎ (unfinished t s ≡ false)
        → length (pick w (gathered (stepped t g.tally []) []) (pick (unfinished t s) (gathered g.tally s) (gathered (stepped t g.tally s) []))).held < log_room
    go true u = omega arith
    go false (inl u) = rw u (unfinished_short t s u)
    go false (inr u) = rw u (omega arith)

pub held_short : (t : Tariff) (g : Gathered) (s : List ℕ) → length g.held < log_room → length (with_bytes t g s).held < log_room
unfolding with_bytes
held_short t g [] h = h
held_short t g (b ∷ s) h = held_short t (with_byte t g b) s (byte_short t g b)

-- a room that is long enough, and no more held than an unfinished log has
pub record Ready (k : Kept) : Type 0 where
  pub roomy : log_room ≤ length k.room
  pub short : k.season.held < log_room

-- then a piece is not refused
pub ready_passes : (k : Kept) → Ready k → feed_verdict k.season.held (length k.room) ≡ Ok tt
unfolding feed_verdict first
ready_passes k r = rw (lt-leb log_room k.season.held r.short, le-ltb (length k.room) log_room r.roomy)

-- what is gathered after it
pub record After (t : Tariff) (g : Gathered) (k : Kept) : Type 0 where
  pub ready : Ready k
  pub holds : gathered_in k.season k.room ≡ g

module _ (t : Tariff) (k : Kept) (piece : List ℕ) (r : Ready k) where
  abbrev after : Gathered
  after = with_bytes t (gathered_in k.season k.room) piece

  abbrev kept_after : Verdict → Kept
  kept_after v = record { season = (fed_by v k.season after).season; room = lent v after.held k.room }

  pub after_piece : length (take k.season.held k.room) < log_room → After t after (fed_piece t k piece)
  unfolding fed_by lent
  after_piece h =
      let short : length after.held < log_room = held_short t (gathered_in k.season k.room) piece h in
      let passed : After t after (kept_after (Ok tt)) =
      record {
        ready = record { roomy = simp (length-append, length-replicate) (omega (arith, r.roomy)); short = short };
        holds = ap (gathered after.tally) (take_at after.held (replicate (length k.room - length after.held) 0) (length after.held) refl);
      } in
      subst (λ (v : Verdict). After t after (kept_after v)) (sym (ready_passes k r)) passed

-- it may go on
after_short : (t : Tariff) (k : Kept) (piece : List ℕ) → Ready k → length (take k.season.held k.room) < log_room
    → length (take (fed_piece t k piece).season.held (fed_piece t k piece).room) < log_room
after_short t k piece r h =
    rw (ap (λ (x : Gathered). length x.held) (after_piece t k piece r h).holds) (held_short t (gathered_in k.season k.room) piece h)

-- no piece is refused
pub pieces_pass : (t : Tariff) (k : Kept) (pieces : List (List ℕ)) → Ready k → length (take k.season.held k.room) < log_room → Passes t k pieces
unfolding Passes
pieces_pass t k [] r h = tt
pieces_pass t k (piece ∷ pieces) r h =
    (ready_passes k r, pieces_pass t (fed_piece t k piece) pieces (after_piece t k piece r h).ready (after_short t k piece r h))

-- pieces are fed as their whole is
pub after_pieces : (t : Tariff) (k : Kept) (pieces : List (List ℕ)) → Ready k → length (take k.season.held k.room) < log_room
    → gathered_in (fed_pieces t k pieces).season (fed_pieces t k pieces).room ≡ with_bytes t (gathered_in k.season k.room) (joined pieces)
unfolding fed_pieces joined with_bytes
after_pieces t k [] r h = refl
after_pieces t k (piece ∷ pieces) r h =
    let a = after_piece t k piece r h in
    after_pieces t (fed_piece t k piece) pieces a.ready (after_short t k piece r h)
    ∙ ap (λ (x : Gathered). with_bytes t x (joined pieces)) a.holds
    ∙ sym (with_both t (gathered_in k.season k.room) piece (joined pieces))
