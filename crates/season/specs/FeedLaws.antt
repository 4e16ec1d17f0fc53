-- Pieces as the code takes them: some bytes at a time, into a room.
use Rattle.std.specs.Prelude.{Bool, true, false, List, [], ◌∷◌, ◌++◌, ◌⊎◌, ◌≡◌, refl, ℕ, min, ◌+◌, ◌-◌, ◌≤◌, ◌<◌, leb, ltb, length, take, drop, replicate, Ok, Err}
use Rattle.base.specs.declared.reasons.Reason.TheVariants as reason
use Rattle.std.proofs.Common.{append_assoc, inl, inr, sym, ap, ◌∙◌, arith, length-append, length-drop, take_all, take-add, take_at, length-take-le, lt-ltb, le-ltb, leb-false, ltb-false}
use Rattle.std.proofs.lemmas.List.{take_min}
use Rattle.base.specs.Choice.{pick, le_or_lt, true_or_false}
use Rattle.base.specs.Lent.{lent}
use Rattle.base.specs.Lists.{cleared, splice, splice_fits}
use Rattle.base.specs.Refusals.{refuse, short}
use Rattle.base.specs.RefusalLaws.{first_passed}
use Rattle.base.specs.declared.Refusal.{Refusal}
use Rattle.prices.specs.Tariff.{Tariff}
use Rattle.request_log.specs.Sizes.{log_room}
use Rattle.season.specs.declared.Season.{Season}
use Rattle.season.specs.declared.Tally.{Tally}
use Rattle.season.specs.Tallies.{ends}
use Rattle.season.specs.Met.{looked_at, one_too_many, empty}
use Rattle.season.specs.Counting.{counted}
use Rattle.season.specs.Steps.{Gathered, gathered, full, unfinished, stepped, with_byte, with_bytes, finished, feed_verdict}
use Rattle.season.specs.Answers.{gathered_in, fed_by, fed, room_left}
use Rattle.season.specs.Needs.{needed, needed_some, needed_most, unfinished_short, settled, together}
use Rattle.season.specs.Whole.{with_both, over_stays, pick_true, pick_false, settled_waits, settled_done}

-- the lesser of two numbers
pub record Lesser (a b n : ℕ) : Type 0 where
  pub left : n ≤ a
  pub right : n ≤ b
  pub some : 1 ≤ a → 1 ≤ b → 1 ≤ n

pub lesser_is : (a b n : ℕ) → n ≡ pick (ltb b a) b a → Lesser a b n
lesser_is a b n e = go (le_or_lt a b)
  where
    go : (a ≤ b) ⊎ (b < a) → Lesser a b n
    go (inl h) = let f : n ≡ a = rw (le-ltb b a h) at e in record { left = omega (arith, f); right = omega (arith, f); some = λ p q. omega (arith, f) }
    go (inr h) = let f : n ≡ b = rw (lt-ltb b a h) at e in record { left = omega (arith, f); right = omega (arith, f); some = λ p q. omega (arith, f) }

-- by the Prelude's name
pub lesser_min : (a b n : ℕ) → n ≡ min a b → Lesser a b n
lesser_min a b n e = record { left = omega (arith, e); right = omega (arith, e); some = λ p q. omega (arith, e, p, q) }

-- the front of a room that a number names, or all of it
pub lesser_front : (a : ℕ) (s : List ℕ) (n k : ℕ) → n ≡ pick (ltb (length s) a) (length s) a → a ≡ k → take n s ≡ take k s
lesser_front a s n k e f = go (le_or_lt a (length s))
  where
    go : (a ≤ length s) ⊎ (length s < a) → take n s ≡ take k s
    go (inl h) = let g : n ≡ a = rw (le-ltb (length s) a h) at e in ap (λ (i : ℕ). take i s) (g ∙ f)
    go (inr h) = let g : n ≡ length s = rw (lt-ltb (length s) a h) at e in rw (← f) (ap (λ (i : ℕ). take i s) g ∙ take_all (length s) s (omega arith) ∙ sym (take_all a s (omega arith)))

-- where no further log is looked at a piece changes the tally once
over_next : (t : Tariff) (tally : Tally) → full tally ≡ true → (stepped t tally []).over ≡ true
unfolding full stepped counted one_too_many ends
over_next t tally e = go (true_or_false tally.over)
  where
    go : (tally.over ≡ true) ⊎ (tally.over ≡ false) → (stepped t tally []).over ≡ true
    go (inl o) = ap (λ (x : Tally). x.over) (pick_true tally _ o) ∙ o
    go (inr o) =
        ap (λ (x : Tally). x.over) (pick_false tally _ o ∙ ap (counted tally) (pick_true one_too_many (looked_at t []) (sym (pick_false true _ o) ∙ e)))

pub full_piece : (t : Tariff) (tally : Tally) (held piece : List ℕ) → full tally ≡ true → 1 ≤ length piece
    → with_bytes t (gathered tally held) piece ≡ gathered (stepped t tally []) []
unfolding with_bytes with_byte
full_piece t tally held [] e h = absurd (omega arith)
full_piece t tally held (b ∷ piece) e h =
    ap (λ (g : Gathered). with_bytes t g piece) (pick_true (gathered (stepped t tally []) []) _ e) ∙ over_stays t (stepped t tally []) piece (over_next t tally e)

-- ---- bytes that are taken into the room

pub held_more : (held n : ℕ) (room piece : List ℕ) → held + n ≤ length room → n ≤ length piece
    → take (held + n) (splice held (take n piece) room) ≡ take held room ++ take n piece
held_more held n room piece h l =
    let xs = take n piece in
    let long : length xs ≡ n = length-take-le n piece l in
    let front : length (take held room) ≡ held = length-take-le held room (omega arith) in
    let e : splice held xs room ≡ (take held room ++ xs) ++ drop (held + length xs) room = splice_fits held xs room (omega (arith, long)) ∙ sym (append_assoc (take held room) xs (drop (held + length xs) room)) in
    ap (take (held + n)) e ∙ take_at (take held room ++ xs) (drop (held + length xs) room) (held + n) (simp length-append (omega (arith, long, front)))

abbrev pub after_taking : ℕ → ℕ → List ℕ → List ℕ → List ℕ
after_taking held n room piece = take (held + n) (splice held (take n piece) room)

-- any number of bytes that is no more than are needed, and than there are
module _ (t : Tariff) (tally : Tally) (held n : ℕ) (room piece : List ℕ) (open' : full tally ≡ false) (fits : held < log_room) (roomy : log_room ≤ length room)
    (some : 1 ≤ length piece) (is : Lesser (needed t (take held room)) (length piece) n) where
  front_is : length (take held room) ≡ held
  front_is = length-take-le held room (omega arith)

  -- there is room for them
  pub end_fits : held + n ≤ log_room
  end_fits = omega (arith, needed_most t (take held room) (omega (arith, front_is)), front_is, is.left)

  pub taken_some : 1 ≤ n
  taken_some = is.some (needed_some t (take held room)) some

  after_is : (after_taking held n room piece) ≡ take held room ++ take n piece
  after_is = held_more held n room piece (omega (arith, end_fits)) is.right

  pub taken_is : with_bytes t (gathered tally (take held room)) (take n piece) ≡ settled t tally (after_taking held n room piece)
  taken_is =
      let long : length (take n piece) ≡ n = length-take-le n piece is.right in
      together t tally (take held room) (take n piece) open' (omega (arith, long, taken_some)) (omega (arith, long, is.left)) ∙ ap (settled t tally) (sym after_is)

  -- an unfinished log is held
  pub taken_held : unfinished t (after_taking held n room piece) ≡ true → gathered tally (after_taking held n room piece) ≡ with_bytes t (gathered tally (take held room)) (take n piece)
  taken_held e = sym (taken_is ∙ settled_waits t tally (after_taking held n room piece) e)

  pub still_short : unfinished t (after_taking held n room piece) ≡ true → held + n < log_room
  still_short e =
      let long : length (take n piece) ≡ n = length-take-le n piece is.right in
      let whole : length (after_taking held n room piece) ≡ held + n = ap length after_is ∙ simp length-append (omega (arith, long, front_is)) in
      omega (arith, unfinished_short t (after_taking held n room piece) e, whole)

  -- a whole one is counted
  pub taken_counted : unfinished t (after_taking held n room piece) ≡ false → gathered (stepped t tally (after_taking held n room piece)) [] ≡ with_bytes t (gathered tally (take held room)) (take n piece)
  taken_counted e = sym (taken_is ∙ settled_done t tally (after_taking held n room piece) e)

-- of what is taken: how much it is, and what the log that is held is then
pub record Taking (t : Tariff) (tally : Tally) (held n : ℕ) (room piece : List ℕ) : Type 0 where
  pub there : n ≤ length piece
  pub some : 1 ≤ n
  pub fits : held + n ≤ log_room
  pub short : unfinished t (after_taking held n room piece) ≡ true → held + n < log_room
  pub waits : unfinished t (after_taking held n room piece) ≡ true → gathered tally (after_taking held n room piece) ≡ with_bytes t (gathered tally (take held room)) (take n piece)
  pub counts : unfinished t (after_taking held n room piece) ≡ false
      → gathered (stepped t tally (after_taking held n room piece)) [] ≡ with_bytes t (gathered tally (take held room)) (take n piece)

pub taking : (t : Tariff) (tally : Tally) (held n want : ℕ) (room piece : List ℕ) (w : Bool) → w ≡ full tally → w ≡ false → held < log_room → log_room ≤ length room
    → 1 ≤ length piece → want ≡ needed t (take held room) → n ≡ min want (length piece) → Taking t tally held n room piece
taking t tally held n want room piece w full_is not_full fits roomy some wanted least =
    let o : full tally ≡ false = sym full_is ∙ not_full in
    let is : Lesser (needed t (take held room)) (length piece) n = rw (← wanted) (lesser_min want (length piece) n least) in
    record {
      there = is.right;
      some = taken_some t tally held n room piece o fits roomy some is;
      fits = end_fits t tally held n room piece o fits roomy some is;
      short = still_short t tally held n room piece o fits roomy some is;
      waits = taken_held t tally held n room piece o fits roomy some is;
      counts = taken_counted t tally held n room piece o fits roomy some is;
    }

-- what is left of a piece
pub part_is : (at : ℕ) (piece : List ℕ) → take (length piece - at) (drop at piece) ≡ drop at piece
part_is at piece = take_all (length piece - at) (drop at piece) (omega (arith, length-drop at piece))

pub part_length : (at : ℕ) (piece : List ℕ) → length (take (length piece - at) (drop at piece)) ≡ length piece - at
part_length at piece = ap length (part_is at piece) ∙ length-drop at piece

-- a piece goes on where the last bytes of it ended
pub taken_next : (t : Tariff) (g h : Gathered) (at used : ℕ) (piece : List ℕ) → h ≡ with_bytes t g (take at piece)
    → with_bytes t h (take used (take (length piece - at) (drop at piece))) ≡ with_bytes t g (take (at + used) piece)
taken_next t g h at used piece e =
    ap (λ (x : List ℕ). with_bytes t h (take used x)) (part_is at piece)
    ∙ ap (λ (x : Gathered). with_bytes t x (take used (drop at piece))) e
    ∙ sym (with_both t g (take at piece) (take used (drop at piece)))
    ∙ ap (with_bytes t g) (sym (take-add at used piece))

-- ---- the end of the input

pub finish_none : (t : Tariff) (tally : Tally) (room : List ℕ) (held n : ℕ) → n ≡ min held (length room) → n ≡ 0 → tally ≡ finished t (gathered tally (take held room))
unfolding finished empty
finish_none t tally room held n e z = go (take held room) (ap length (sym (take_min held room) ∙ ap (λ k. take k room) (sym e ∙ z)))
  where
    go : (s : List ℕ) → length s ≡ 0 → tally ≡ finished t (gathered tally s)
    go [] l = refl
    go (b ∷ s) l = absurd (omega arith)

pub finish_some : (t : Tariff) (tally : Tally) (room : List ℕ) (held n : ℕ) → n ≡ min held (length room) → 1 ≤ n → stepped t tally (take n room) ≡ finished t (gathered tally (take held room))
unfolding finished empty
finish_some t tally room held n e h =
    let f : take n room ≡ take held room = ap (λ k. take k room) e ∙ take_min held room in
    let l : length (take n room) ≡ n = length-take-le n room (omega (arith, e)) in
    rw (← f) (go (take n room) (omega (arith, l)))
  where
    go : (s : List ℕ) → 1 ≤ length s → stepped t tally s ≡ finished t (gathered tally s)
    go [] l = absurd (omega arith)
    go (b ∷ s) l = refl

-- ---- a piece by its verdict

pub fed_refused : (t : Tariff) (season : Season) (room piece : List ℕ) (r : Refusal) → feed_verdict season.held (length room) ≡ Err r
    → (record { season = season; verdict = Err r } ≡ fed t season room piece) × (room ≡ room_left t season room piece)
unfolding fed_by lent
fed_refused t season room piece r e = rw e (refl, refl)

-- a season and a room that a piece is taken for
pub feed_passed : (held room : ℕ) → feed_verdict held room ≡ Ok tt → (held < log_room) × (log_room ≤ room)
unfolding feed_verdict
feed_passed held room e =
    let f = (first_passed (refuse reason.BrokenState 0 (leb log_room held) ∷ short log_room room ∷ [])).0 e in
    (leb-false log_room held (f 0), ltb-false room log_room (f 1))

pub fed_passed : (t : Tariff) (season : Season) (room room' piece : List ℕ) (tally : Tally) (held : ℕ) → feed_verdict season.held (length room) ≡ Ok tt
    → length room' ≡ length room → held < log_room → gathered tally (take held room') ≡ with_bytes t (gathered_in season room) piece
    → (record { season = record { tally = tally; held = held }; verdict = Ok tt } ≡ fed t season room piece) × (cleared held room' ≡ room_left t season room piece)
unfolding fed_by lent
fed_passed t season room room' piece tally held e l h g =
    let (short', roomy) = feed_passed season.held (length room) e in
    let n : length (take held room') ≡ held = length-take-le held room' (omega (arith, l, roomy)) in
    rw (e, ← g) (
      ap (λ (k : ℕ). record { season = record { tally = tally; held = k }; verdict = Ok tt }) (sym n),
      (let k : length room' - held ≡ length room - length (take held room') = omega (arith, l, n) in ap (λ (i : ℕ). take held room' ++ replicate i 0) k),
    )
