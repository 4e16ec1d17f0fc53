-- The states that requests lead to from a fresh one: each agrees with the history of the requests, and 32 does not hold.
use Rattle.std.specs.Prelude.{true, List, ◌⊎◌, ◌≢◌, ◌≡◌, refl, ℕ, suc, ◌≤◌, ◌<◌, eqb, get_or, Ok}
use Rattle.std.proofs.Common.{inl, inr, sym, ap, ◌∙◌, arith, eq-eqb, ne_eqb}
use Rattle.std.proofs.Math.Option.{some}
use Rattle.base.specs.Choice.{same_or_not, not_both}
use Rattle.base.specs.Lists.{build, build_at}
use Rattle.base.specs.Sets.{has}
use Rattle.prices.specs.declared.Prices.{Prices}
use Rattle.prices.specs.Prices.{prices_of, window, InRange}
use Rattle.request_log.specs.declared.Header.{Header}
use Rattle.request_log.specs.Contents.{setup_in}
use Rattle.request_log.specs.Ranges.{Allowed}
use Rattle.model.specs.Requests.{Requests, latest, Rising, Within}
use Rattle.model.proofs.RequestLaws.{none_some, latest_some}
use Rattle.online.specs.declared.Cache.{Cache}
use Rattle.online.specs.Servers.{set_of}
use Rattle.online.specs.ServerLaws.{has_set}
use Rattle.online.specs.Rules.{window_of, copy_at, use_at, fresh, accept, shut}
use Rattle.bounds.specs.History.{last_use}
use Rattle.bounds.proofs.HistoryLaws.{use_last, use_none, Link, never, since, link, transfers_most}
use Rattle.bounds.proofs.Seconds.{held_zero, held_most}
use Rattle.bounds.proofs.Agreement.{Seen, gone, here, Agrees, agrees_next}
use Rattle.online.specs.Intact.{Intact, IntactServer}
use Rattle.online.specs.Answers.{scan_verdict}
use Rattle.online.specs.Passed.{Fit, scan_passed}

-- the state after the first i of some requests, of a start that was given a table and s
pub record Reached (table : List Prices) (s : Header) (q : Requests) (c : Cache) (i : ℕ) : Type 0 where
  pub prices_are : c.prices ≡ prices_of table s.«class»
  pub id_is : c.id ≡ s.id
  pub count_is : c.server_count ≡ s.server_count
  pub agrees : Agrees (window (prices_of table s.«class»)) q c i
  pub second_most : q.time i ≤ 4000000
  pub few : i ≤ 2048
  pub rising : Rising q i
  pub within : Within s.server_count q i

-- a start reaches it
pub reached_fresh : (table : List Prices) (s : Header) → Allowed (setup_in s) → (q : Requests) → q.time 0 ≡ 0 → q.server 0 ≡ s.home → Reached table s q (fresh table s) 0
unfolding fresh Within copy_at use_at window_of
reached_fresh table s k q z e =
    record {
      prices_are = refl;
      id_is = refl;
      count_is = refl;
      agrees =
          record {
            window_is = refl;
            last_is = sym e;
            second_is = sym z;
            requests_are = refl;
            transfers_are = omega (arith, transfers_most W q 0);
            held_are = sym (held_zero W q 64 z);
            seen = seen;
          };
      second_most = omega arith;
      few = omega arith;
      rising = record { start = z; rise = λ i h. absurd (omega arith) };
      within = λ i h. let o : i ≡ 0 = omega arith in rw (o, e) k.home_below;
    }
  where
    W : ℕ
    W = window (prices_of table s.«class»)

    at : (y : ℕ) → (y ≡ s.home) ⊎ (y ≢ s.home) → Seen W q (eqb y s.home) 0 0 y
    at y (inl d) = here (eq-eqb y s.home d) (ap (last_use W q 0) (d ∙ sym e) ∙ use_last W q 0 ∙ ap some z) (omega arith) (omega arith)
    at y (inr d) = gone (ne_eqb y s.home d) refl (λ u l. absurd (none_some (use_none W q y (λ v. d (v ∙ e))) l))

    seen : (y : ℕ) → y < 64 → Seen W q (has (set_of 64 (λ y. eqb y s.home)) y) (get_or (build 64 (λ y. 0)) y 0) 0 y
    seen y h = rw (has_set 64 (λ y. eqb y s.home) y h, build_at {A = ℕ} 64 (λ y. 0) y 0 h) (at y (same_or_not y s.home))

-- one request more
reached_next : (table : List Prices) (s : Header) (q : Requests) (c : Cache) (i : ℕ) → Reached table s q c i → Fit c (q.time (suc i)) (q.server (suc i))
    → Reached table s q (accept c (q.time (suc i)) (q.server (suc i))) (suc i)
unfolding accept Within
reached_next table s q c i r f =
    record {
      prices_are = r.prices_are;
      id_is = r.id_is;
      count_is = r.count_is;
      agrees = agrees_next (window (prices_of table s.«class»)) q c i r.agrees up (omega (arith, f.counted, f.intact.count_most));
      second_most = f.second_most;
      few = omega (arith, f.room, r.agrees.requests_are);
      rising = record { start = r.rising.start; rise = λ l h. rise l h (same_or_not l i) };
      within = λ l h. below l h (same_or_not l (suc i));
    }
  where
    up : q.time i < q.time (suc i)
    up = omega (arith, f.later, r.agrees.second_is)

    rise : (l : ℕ) → l < suc i → (l ≡ i) ⊎ (l ≢ i) → q.time l < q.time (suc l)
    rise l h (inl e) = rw e up
    rise l h (inr e) = r.rising.rise l (omega arith)

    below : (l : ℕ) → l ≤ suc i → (l ≡ suc i) ⊎ (l ≢ suc i) → q.server l < s.server_count
    below l h (inl e) = rw e (omega (arith, f.counted, r.count_is))
    below l h (inr e) = r.within l (omega arith)

-- the request at a second and a server whose scan is not refused
pub reached_scan : (table : List Prices) (s : Header) (q : Requests) (c : Cache) (i : ℕ) (id : List ℕ) (second server : ℕ) → Reached table s q c i
    → scan_verdict c id second server ≡ Ok tt → q.time (suc i) ≡ second → q.server (suc i) ≡ server → Reached table s q (accept c second server) (suc i)
reached_scan table s q c i id second server r e t x = rw (← t, ← x) (reached_next table s q c i r (rw (t, x) (scan_passed c id second server e)))

-- the close
pub reached_shut : (table : List Prices) (s : Header) (q : Requests) (c : Cache) (i : ℕ) → Reached table s q c i → Reached table s q (shut c) i
unfolding shut window_of copy_at use_at
reached_shut table s q c i r =
    let a = r.agrees in
    record {
      prices_are = r.prices_are;
      id_is = r.id_is;
      count_is = r.count_is;
      agrees =
          record {
            window_is = a.window_is;
            last_is = a.last_is;
            second_is = a.second_is;
            requests_are = a.requests_are;
            transfers_are = a.transfers_are;
            held_are = a.held_are;
            seen = a.seen;
          };
      second_most = r.second_most;
      few = r.few;
      rising = r.rising;
      within = r.within;
    }

-- 32 does not hold of it
pub reached_intact : (table : List Prices) (s : Header) → Allowed (setup_in s) → InRange (prices_of table s.«class») → (q : Requests) (c : Cache) (i : ℕ)
    → Reached table s q c i → Intact c
unfolding Within
reached_intact table s k p q c i r =
    record {
      priced = rw r.prices_are p;
      count_least = omega (arith, r.count_is, k.servers_least);
      count_most = omega (arith, r.count_is, k.servers_most);
      second_most = omega (arith, a.second_is, r.second_most);
      last_counted = omega (arith, a.last_is, r.count_is, r.within i (omega arith));
      last_stands = (last_seen (a.seen c.last last_under)).0;
      last_used = (last_seen (a.seen c.last last_under)).1;
      requests_most = omega (arith, a.requests_are, r.few);
      transfers_most = omega (arith, a.requests_are, a.transfers_are, transfers_most W q i);
      held_most = omega (arith, a.held_are, held_most W q 64 i r.rising i (omega arith), r.second_most);
      servers = λ y h. server y (a.seen y h) (link W q i r.rising i y (omega arith));
    }
  where
    W : ℕ
    W = window (prices_of table s.«class»)

    a : Agrees W q c i
    a = r.agrees

    last_under : c.last < 64
    last_under = omega (arith, a.last_is, r.within i (omega arith), k.servers_most)

    used : last_use W q i c.last ≡ some (q.time i)
    used = ap (last_use W q i) a.last_is ∙ use_last W q i

    last_seen : Seen W q (copy_at c c.last) (use_at c c.last) i c.last → (copy_at c c.last ≡ true) × (use_at c c.last ≡ c.second)
    last_seen (gone h z far) = absurd (omega (arith, far (q.time i) used))
    last_seen (here h l d e) =
        let z : some (use_at c c.last) ≡ some (q.time i) = sym l ∙ used in
        let v : use_at c c.last ≡ q.time i = cc in
        (h, omega (arith, a.second_is))

    below : (y j : ℕ) → latest q.server y (suc i) ≡ some j → y < c.server_count
    below y j e =
        let l = latest_some q.server y (suc i) j e in
        omega (arith, l.there, r.within j (omega (arith, l.below)), r.count_is)

    server : (y : ℕ) → Seen W q (copy_at c y) (use_at c y) i y → Link W q i y → IntactServer c y
    server y (gone h z far) l =
        record {
          counted = λ d. absurd (not_both d h);
          by_then = omega arith;
          lasting = λ d e. absurd (not_both d h);
          unused = λ d. z;
        }
    server y (here h l d e) (never b u) = absurd (none_some u l)
    server y (here h l d e) (since j u b v f g) =
        record {
          counted = λ z. below y j b;
          by_then = omega (arith, a.second_is);
          lasting = λ z k. omega (arith, a.second_is, a.window_is);
          unused = λ z. absurd (not_both h z);
        }
