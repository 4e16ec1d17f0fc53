-- What the tally's worst log is: the first one of the largest ratio of running to least cost.
use Rattle.std.specs.Prelude.{List, [], ◌∷◌, ◌++◌, ◌⊎◌, ◌≢◌, ◌↔◌, ◌≡◌, refl, ℕ, zero, suc, ◌*◌, ◌≤◌, ◌<◌, length}
use Rattle.std.proofs.Common.{append-nil, append_assoc, inl, inr, sym, ap, ◌∙◌, mul-le-mul_right, mul-lt-mul_of_pos_right, lt_of_mul-lt-mul_right, arith, length-append, lt-ltb, le-ltb, eq-eqb, ne_eqb}
use Rattle.std.proofs.Math.ListN.{get_or-append}
use Rattle.std.proofs.Math.Seq.{get_or-append_seam}
use Rattle.base.specs.Choice.{le_or_lt, same_or_not}
use Rattle.season.specs.Tallies.{Met}
use Rattle.season.specs.declared.Worst.{Worst}
use Rattle.season.specs.Tallies.{no_worst, larger, worse, worst_of, tally_of}
use Rattle.season.specs.Claims.{no_log, log_at, NamesWorst}
use Rattle.season.specs.TallyLaws.{Each, each_append, each_at}

-- a log with a request has a least cost, and so a ratio
abbrev pub RatedLog : Met → Type 0
RatedLog m = m.requests ≢ 0 → 1 ≤ m.least

abbrev pub Rated : List Met → Type 0
Rated = Each RatedLog

-- ---- one log is worse or not

data Turn (w : Worst) (place : ℕ) (m : Met) : Type 0 where
  idle : m.requests ≡ 0 → worse w place m ≡ w → Turn w place m
  stays : w.place ≢ 0 → m.running * w.least ≤ w.running * m.least → worse w place m ≡ w → Turn w place m
  turns : m.requests ≢ 0 → (w.place ≡ 0) ⊎ (w.running * m.least < m.running * w.least)
      → worse w place m ≡ record { place = place; running = m.running; least = m.least } → Turn w place m

turn : (w : Worst) (place : ℕ) (m : Met) → Turn w place m
unfolding worse larger
turn w place m =
    go (same_or_not m.requests 0) (same_or_not w.place 0) (le_or_lt (m.running * w.least) (w.running * m.least))
  where
    go : (m.requests ≡ 0) ⊎ (m.requests ≢ 0) → (w.place ≡ 0) ⊎ (w.place ≢ 0)
        → (m.running * w.least ≤ w.running * m.least) ⊎ (w.running * m.least < m.running * w.least) → Turn w place m
    go (inl r) _ _ = idle r (rw (eq-eqb _ _ r))
    go (inr r) (inl p) _ = turns r (inl p) (rw (ne_eqb _ _ r, eq-eqb _ _ p))
    go (inr r) (inr p) (inl h) = stays p h (rw (ne_eqb _ _ r, ne_eqb _ _ p, le-ltb _ _ h))
    go (inr r) (inr p) (inr h) = turns r (inr h) (rw (ne_eqb _ _ r, ne_eqb _ _ p, lt-ltb _ _ h))

-- ---- where there is none

none_from : (w : Worst) (k : ℕ) (ms : List Met) → (worst_of w k ms).place ≡ 0
    → (w.place ≡ 0) × ((j : ℕ) → j < length ms → (log_at ms j).requests ≡ 0)
unfolding worst_of
none_from w k [] e = (e, λ j l. refl)
none_from w k (m ∷ ms) e = go (turn w (suc k) m) (none_from (worse w (suc k) m) (suc k) ms e)
  where
    all : m.requests ≡ 0 → ((j : ℕ) → j < length ms → (log_at ms j).requests ≡ 0)
        → (j : ℕ) → j < length (m ∷ ms) → (log_at (m ∷ ms) j).requests ≡ 0
    all r f zero l = r
    all r f (suc j) l = f j (omega arith)

    go : Turn w (suc k) m → ((worse w (suc k) m).place ≡ 0) × ((j : ℕ) → j < length ms → (log_at ms j).requests ≡ 0)
        → (w.place ≡ 0) × ((j : ℕ) → j < length (m ∷ ms) → (log_at (m ∷ ms) j).requests ≡ 0)
    go (idle r s) (z, f) = (sym (ap (λ (x : Worst). x.place) s) ∙ z, all r f)
    go (stays p h s) (z, f) = absurd (p (sym (ap (λ (x : Worst). x.place) s) ∙ z))
    go (turns r h s) (z, f) = absurd (omega (arith, ap (λ (x : Worst). x.place) s))

none_kept : (w : Worst) (k : ℕ) (ms : List Met) → ((j : ℕ) → j < length ms → (log_at ms j).requests ≡ 0) → worst_of w k ms ≡ w
unfolding worst_of worse
none_kept w k [] f = refl
none_kept w k (m ∷ ms) f =
    rw (eq-eqb _ _ (f 0 (omega arith))) (none_kept w (suc k) ms (λ j l. f (suc j) (omega arith)))

-- no worst log is named if and only if no log has a request
pub worst_none : (ms : List Met) → ((tally_of ms).worst.place ≡ 0) ↔ ((j : ℕ) → j < length ms → (log_at ms j).requests ≡ 0)
unfolding tally_of
worst_none ms = (λ e. (none_from no_worst 0 ms e).1, λ f. ap (λ (w : Worst). w.place) (none_kept no_worst 0 ms f))

-- ---- a list and one log more

log_front : (ms : List Met) (m : Met) (j : ℕ) → j < length ms → log_at (ms ++ (m ∷ [])) j ≡ log_at ms j
log_front ms m j l = get_or-append ms (m ∷ []) no_log j l

log_back : (ms : List Met) (m : Met) → log_at (ms ++ (m ∷ [])) (length ms) ≡ m
log_back ms m = get_or-append_seam ms m [] no_log

one_more : (P : Met → Type 0) (ms : List Met) (m : Met) → ((j : ℕ) → j < length ms → P (log_at ms j)) → P m
    → (j : ℕ) → j < length (ms ++ (m ∷ [])) → P (log_at (ms ++ (m ∷ [])) j)
one_more P ms m f p j l = go (le_or_lt (length ms) j)
  where
    go : (length ms ≤ j) ⊎ (j < length ms) → P (log_at (ms ++ (m ∷ [])) j)
    go (inl h) = let e : j ≡ length ms = omega (arith, length-append ms (m ∷ [])) in rw (e, log_back ms m) p
    go (inr h) = rw (log_front ms m j h) (f j h)

-- the same log is still the worst
kept : (ms : List Met) (m : Met) (w : Worst) → NamesWorst ms w → (m.requests ≢ 0 → m.running * w.least ≤ w.running * m.least)
    → NamesWorst (ms ++ (m ∷ [])) w
kept ms m w n h =
    record {
      index = n.index;
      placed = n.placed;
      within = omega (arith, n.within, length-append ms (m ∷ []));
      asked = rw (log_front ms m n.index n.within) n.asked;
      runs = rw (log_front ms m n.index n.within) n.runs;
      needs = rw (log_front ms m n.index n.within) n.needs;
      largest = one_more (λ x. x.requests ≢ 0 → x.running * w.least ≤ w.running * x.least) ms m n.largest h;
      first = λ j l. rw (log_front ms m j (omega (arith, n.within))) (n.first j l);
    }

-- the last log is
last_is : (ms : List Met) (m : Met) → m.requests ≢ 0
    → ((j : ℕ) → j < length ms → (log_at ms j).requests ≢ 0 → (log_at ms j).running * m.least < m.running * (log_at ms j).least)
    → NamesWorst (ms ++ (m ∷ [])) (record { place = suc (length ms); running = m.running; least = m.least })
last_is ms m r f =
    record {
      index = length ms;
      placed = refl;
      within = omega (arith, length-append ms (m ∷ []));
      asked = rw (log_back ms m) r;
      runs = rw (log_back ms m) refl;
      needs = rw (log_back ms m) refl;
      largest =
          one_more (λ x. x.requests ≢ 0 → x.running * m.least ≤ m.running * x.least) ms m
          (λ j l q. let h : (log_at ms j).running * m.least < m.running * (log_at ms j).least = f j l q in omega arith)
          (λ q. omega arith);
      first = λ j l. rw (log_front ms m j l) (f j l);
    }

-- a/b ≤ c/d and c/d < e/f give a/b < e/f
cross : (a b c d e f : ℕ) → 1 ≤ b → a * d ≤ c * b → c * f < e * d → a * f < e * b
cross a b c d e f p h g =
    lt_of_mul-lt-mul_right d (omega (arith, mul-le-mul_right f h, mul-lt-mul_of_pos_right {k = b} g p))

-- ---- the worst of all

data Standing (ms : List Met) (w : Worst) : Type 0 where
  none_yet : w.place ≡ 0 → ((j : ℕ) → j < length ms → (log_at ms j).requests ≡ 0) → Standing ms w
  named : NamesWorst ms w → Standing ms w

step : (ms : List Met) (m : Met) (w : Worst) → Rated ms → Standing ms w → Turn w (suc (length ms)) m
    → Standing (ms ++ (m ∷ [])) (worse w (suc (length ms)) m)
step ms m w r (none_yet z f) (idle q s) = rw s (none_yet z (one_more (λ x. x.requests ≡ 0) ms m f q))
step ms m w r (none_yet z f) (stays p h s) = absurd (p z)
step ms m w r (none_yet z f) (turns q h s) = rw s (named (last_is ms m q (λ j l d. absurd (d (f j l)))))
step ms m w r (named n) (idle q s) = rw s (named (kept ms m w n (λ d. absurd (d q))))
step ms m w r (named n) (stays p h s) = rw s (named (kept ms m w n (λ d. h)))
step ms m w r (named n) (turns q (inl z) s) = absurd (omega (arith, n.placed))
step ms m w r (named n) (turns q (inr h) s) =
    rw s (named (last_is ms m q (λ j l d.
    cross (log_at ms j).running (log_at ms j).least w.running w.least m.running m.least
    (each_at RatedLog ms j no_log r l d) (n.largest j l d) h)))

standing : (before ms : List Met) (w : Worst) → Rated before → Rated ms → Standing before w
    → Standing (before ++ ms) (worst_of w (length before) ms)
unfolding worst_of
standing before [] w p q s = rw (append-nil before) s
standing before (m ∷ ms) w p (q, qs) s =
    let ih = standing (before ++ (m ∷ [])) ms (worse w (suc (length before)) m) (each_append RatedLog before (m ∷ []) p (q, tt)) qs
    (step before m w p s (turn w (suc (length before)) m)) in
    let e : length (before ++ (m ∷ [])) ≡ suc (length before) = omega (arith, length-append before (m ∷ [])) in
    rw (append_assoc before (m ∷ []) ms, e) at ih

-- the log that is named is the worst
pub worst_named : (ms : List Met) → Rated ms → (tally_of ms).worst.place ≢ 0 → NamesWorst ms (tally_of ms).worst
unfolding tally_of
worst_named ms r d = go (standing [] ms no_worst tt r (none_yet refl (λ j l. refl)))
  where
    go : Standing ms (worst_of no_worst 0 ms) → NamesWorst ms (worst_of no_worst 0 ms)
    go (none_yet z f) = absurd (d z)
    go (named n) = n

-- ---- there is one worst log

not_before : (ms : List Met) (w w' : Worst) (n : NamesWorst ms w) (n' : NamesWorst ms w') → n.index < n'.index → ⊥
not_before ms w w' n n' h =
    let a : (log_at ms n.index).running * w'.least < w'.running * (log_at ms n.index).least = n'.first n.index h n.asked in
    let b : (log_at ms n'.index).running * w.least ≤ w.running * (log_at ms n'.index).least =
    n.largest n'.index n'.within n'.asked in
    let c : w.running * w'.least < w'.running * w.least = rw (n.runs, n.needs) a in
    let d : w'.running * w.least ≤ w.running * w'.least = rw (n'.runs, n'.needs) b in
    omega arith

pub same_index : (ms : List Met) (w w' : Worst) (n : NamesWorst ms w) (n' : NamesWorst ms w') → n.index ≡ n'.index
same_index ms w w' n n' = go (le_or_lt n.index n'.index) (le_or_lt n'.index n.index)
  where
    go : (n.index ≤ n'.index) ⊎ (n'.index < n.index) → (n'.index ≤ n.index) ⊎ (n.index < n'.index) → n.index ≡ n'.index
    go (inl h) (inl k) = omega arith
    go (inl h) (inr k) = absurd (not_before ms w w' n n' k)
    go (inr h) _ = absurd (not_before ms w' w n' n h)

pub worst_unique : (ms : List Met) (w w' : Worst) → NamesWorst ms w → NamesWorst ms w' → w ≡ w'
worst_unique ms w w' n n' =
    let e = same_index ms w w' n n' in
    let p : w.place ≡ w'.place = n.placed ∙ ap suc e ∙ sym n'.placed in
    let r : w.running ≡ w'.running = n.runs ∙ ap (λ (j : ℕ). (log_at ms j).running) e ∙ sym n'.runs in
    let l : w.least ≡ w'.least = n.needs ∙ ap (λ (j : ℕ). (log_at ms j).least) e ∙ sym n'.needs in
    λ i. record { place = p i; running = r i; least = l i }
