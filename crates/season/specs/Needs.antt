-- How many bytes a log that is held may take before it is looked at again: in between it is unfinished.
use Rattle.std.specs.Prelude.{true, false, List, [], ◌∷◌, ◌++◌, ◌⊎◌, ◌≡◌, refl, ℕ, suc, ◌+◌, ◌-◌, ◌≤◌, ◌<◌, ltb, length, Ok, Err}
use Rattle.base.specs.Refusals.{Verdict}
use Rattle.std.proofs.Common.{append_assoc, inl, inr, ap, ◌∙◌, arith, length-append, lt-ltb, le-ltb, ltb-true}
use Rattle.std.proofs.Math.ListN.{get_or-append}
use Rattle.base.specs.Choice.{pick, both, le_or_lt, true_or_false}
use Rattle.base.specs.ChoiceLaws.{both_true}
use Rattle.base.specs.Bytes.{byte, le16}
use Rattle.prices.specs.Tariff.{Tariff}
use Rattle.request_log.specs.Sizes.{log_room}
use Rattle.request_log.specs.Fields.{total_length, length_for}
use Rattle.request_log.specs.Conditions.{head_verdict}
use Rattle.request_log.specs.HeadLaws.{headed, head_same}
use Rattle.season.specs.declared.Tally.{Tally}
use Rattle.season.specs.Tallies.{accepts}
use Rattle.season.specs.Steps.{Gathered, gathered, full, unfinished, stepped, with_byte, with_bytes}

-- up to a header, or up to what it says; else one byte
unfoldable pub needed : Tariff → List ℕ → ℕ
needed t s = pick (ltb (length s) 40) (40 - length s) (pick (unfinished t s) (total_length s - length s) 1)

-- the bytes of a beginning
front_byte : (s u : List ℕ) (k : ℕ) → k < length s → byte (s ++ u) k ≡ byte s k
front_byte s u k h = get_or-append s u 0 k h

front_16 : (s u : List ℕ) (k : ℕ) → suc k < length s → le16 (s ++ u) k ≡ le16 s k
front_16 s u k h = rw (front_byte s u k (omega arith), front_byte s u (k + 1) (omega arith))

-- what a header says is said by more bytes too
pub total_front : (s u : List ℕ) → 40 ≤ length s → total_length (s ++ u) ≡ total_length s
unfolding total_length
total_front s u h = rw (front_16 s u 16 (omega arith), front_16 s u 18 (omega arith))

pub head_front : (t : Tariff) (s u : List ℕ) → 40 ≤ length s → head_verdict t (s ++ u) ≡ head_verdict t s
head_front t s u h = head_same t s (s ++ u) h (simp length-append (omega arith)) (λ k l. front_byte s u k (omega arith))

-- ---- unfinished logs

-- a verdict that passes
pub accepted : (v : Verdict) → accepts v ≡ true → v ≡ Ok tt
unfolding accepts
accepted (Ok _) e = refl
accepted (Err r) e = absurd (let z : ◌≡◌ {A = ℕ} 0 1 = cc in omega arith)

-- what they are
pub data Unfinished (t : Tariff) (s : List ℕ) : Type 0 where
  short_of_header : length s < 40 → Unfinished t s
  short_of_total : 40 ≤ length s → head_verdict t s ≡ Ok tt → length s < total_length s → Unfinished t s

pub unfinished_is : (t : Tariff) (s : List ℕ) → unfinished t s ≡ true → Unfinished t s
unfolding unfinished
unfinished_is t s e = go (le_or_lt 40 (length s))
  where
    go : (40 ≤ length s) ⊎ (length s < 40) → Unfinished t s
    go (inr h) = short_of_header h
    go (inl h) =
        let f : both (accepts (head_verdict t s)) (ltb (length s) (total_length s)) ≡ true = rw (le-ltb (length s) 40 h) at e in
        let (a, b) = both_true _ _ f in
        short_of_total h (accepted _ a) (ltb-true _ _ b)

pub is_unfinished : (t : Tariff) (s : List ℕ) → Unfinished t s → unfinished t s ≡ true
unfolding unfinished accepts
is_unfinished t s (short_of_header h) = rw (lt-ltb _ _ h)
is_unfinished t s (short_of_total h e l) = rw (le-ltb _ _ h, e, lt-ltb _ _ l)

-- they are shorter than any log
pub unfinished_short : (t : Tariff) (s : List ℕ) → unfinished t s ≡ true → length s < log_room
unfolding length_for
unfinished_short t s e = go (unfinished_is t s e)
  where
    go : Unfinished t s → length s < log_room
    go (short_of_header h) = omega arith
    go (short_of_total h f l) = let g = headed t s f in omega (arith, g.few, g.total_is, l)

-- ---- bytes that are taken together

-- at least one
pub needed_some : (t : Tariff) (s : List ℕ) → 1 ≤ needed t s
unfolding needed
needed_some t s = go (le_or_lt 40 (length s)) (true_or_false (unfinished t s))
  where
    go : (40 ≤ length s) ⊎ (length s < 40) → (unfinished t s ≡ true) ⊎ (unfinished t s ≡ false) → 1 ≤ needed t s
    go (inr h) b = rw (lt-ltb _ _ h) (omega arith)
    go (inl h) (inr b) = rw (le-ltb _ _ h, b) (omega arith)
    go (inl h) (inl b) = rw (le-ltb _ _ h, b) (more (unfinished_is t s b))
      where
        more : Unfinished t s → 1 ≤ total_length s - length s
        more (short_of_header l) = absurd (omega arith)
        more (short_of_total l f m) = omega arith

-- and no more than the room has
pub needed_most : (t : Tariff) (s : List ℕ) → length s < log_room → length s + needed t s ≤ log_room
unfolding needed length_for
needed_most t s w = go (le_or_lt 40 (length s)) (true_or_false (unfinished t s))
  where
    go : (40 ≤ length s) ⊎ (length s < 40) → (unfinished t s ≡ true) ⊎ (unfinished t s ≡ false) → length s + needed t s ≤ log_room
    go (inr h) b = rw (lt-ltb _ _ h) (omega arith)
    go (inl h) (inr b) = rw (le-ltb _ _ h, b) (omega arith)
    go (inl h) (inl b) = rw (le-ltb _ _ h, b) (more (unfinished_is t s b))
      where
        more : Unfinished t s → length s + (total_length s - length s) ≤ log_room
        more (short_of_header l) = absurd (omega arith)
        more (short_of_total l f m) = let g = headed t s f in omega (arith, g.few, g.total_is, m)

-- a header that passes needs what it says
pub needed_more : (t : Tariff) (s : List ℕ) → 40 ≤ length s → unfinished t s ≡ true → needed t s ≡ total_length s - length s
unfolding needed
needed_more t s h e = rw (le-ltb _ _ h, e)

pub total_more : (t : Tariff) (s : List ℕ) → 40 ≤ length s → unfinished t s ≡ true → length s < total_length s
total_more t s h e = go (unfinished_is t s e)
  where
    go : Unfinished t s → length s < total_length s
    go (short_of_header l) = absurd (omega arith)
    go (short_of_total l f m) = m

-- before the last of them the log is unfinished, and needs one byte less
pub record Less (t : Tariff) (s : List ℕ) (b : ℕ) : Type 0 where
  pub still : unfinished t (s ++ (b ∷ [])) ≡ true
  pub fewer : suc (needed t (s ++ (b ∷ []))) ≡ needed t s

pub one_less : (t : Tariff) (s : List ℕ) (b : ℕ) → 2 ≤ needed t s → Less t s b
unfolding needed
one_less t s b w = go (le_or_lt 40 (length s)) (true_or_false (unfinished t s))
  where
    s' : List ℕ
    s' = s ++ (b ∷ [])

    long : length s' ≡ suc (length s)
    long = simp length-append (omega arith)

    go : (40 ≤ length s) ⊎ (length s < 40) → (unfinished t s ≡ true) ⊎ (unfinished t s ≡ false) → Less t s b
    go (inr h) z =
        let v : 2 ≤ 40 - length s = rw (lt-ltb _ _ h) at w in
        let l : length s' < 40 = omega (arith, long) in
        record { still = is_unfinished t s' (short_of_header l); fewer = rw (lt-ltb _ _ h, lt-ltb _ _ l) (omega (arith, long)) }
    go (inl h) (inr z) = let v : 2 ≤ 1 = rw (le-ltb _ _ h, z) at w in absurd (omega arith)
    go (inl h) (inl z) = more (unfinished_is t s z)
      where
        more : Unfinished t s → Less t s b
        more (short_of_header l) = absurd (omega arith)
        more (short_of_total l f m) =
            let v : 2 ≤ total_length s - length s = rw (le-ltb _ _ h, z) at w in
            let q = total_front s (b ∷ []) l in
            let still = is_unfinished t s' (short_of_total (omega (arith, long)) (head_front t s (b ∷ []) l ∙ f) (omega (arith, long, q))) in
            record { still = still; fewer = rw (le-ltb _ _ h, z, le-ltb (length s') 40 (omega (arith, long)), still) (omega (arith, long, q)) }

-- what is held after some bytes: counted once it is no longer unfinished
unfoldable pub settled : Tariff → Tally → List ℕ → Gathered
settled t tally s = pick (unfinished t s) (gathered tally s) (gathered (stepped t tally s) [])

-- bytes that are taken together, one by one
pub together : (t : Tariff) (tally : Tally) (s u : List ℕ) → full tally ≡ false → 1 ≤ length u → length u ≤ needed t s
    → with_bytes t (gathered tally s) u ≡ settled t tally (s ++ u)
unfolding with_bytes with_byte settled
together t tally s [] e h l = absurd (omega arith)
together t tally s (b ∷ []) e h l = rw e
together t tally s (b ∷ c ∷ u) e h l =
    let w = one_less t s b (omega arith) in
    let n : length (c ∷ u) ≤ needed t (s ++ (b ∷ [])) = omega (arith, w.fewer) in
    rw (e, w.still) (together t tally (s ++ (b ∷ [])) (c ∷ u) e (omega arith) n ∙ ap (settled t tally) (append_assoc s (b ∷ []) (c ∷ u)))
