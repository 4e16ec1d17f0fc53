-- The lists that are loaded from an accepted log: its requests, with room after them that changes nothing, and ready for the table.
use mathlib.Core.List.{List, [], ◌∷◌, ◌++◌}
use Rattle.std.specs.Prelude.{◌⊎◌, ◌≡◌, refl, length, take, drop, set, replicate, Ok, Err}
use Rattle.std.proofs.Common.{inl, inr, sym, ◌∙◌, arith, take-append-drop, get_or-append-add}
use Rattle.std.proofs.Math.Option.{Option}
use Rattle.std.proofs.Math.Path.{ap, ap₂, fun_ext}
use Prim.Native.Nat.{ℕ, zero, suc, ◌+◌, ◌-◌, ◌≤◌, ◌<◌}
use Rattle.std.proofs.lemmas.List.{length-replicate, get_or-replicate}
use Rattle.std.proofs.Math.ListN.{get_or-append, get_or-eq_default}
use Rattle.base.specs.Choice.{le_or_lt}
use Rattle.base.specs.Lent.{lent}
use Rattle.base.specs.Refusals.{first, Verdict}
use Rattle.base.specs.Lists.{build, build_at}
use Rattle.prices.specs.Tariff.{Tariff}
use Rattle.prices.specs.PriceLaws.{Priced}
use Rattle.prices.specs.Uploads.{upload_conditions}
use Rattle.request_log.specs.Fields.{request_count, servers_of}
use Rattle.request_log.specs.Conditions.{verdict_of, Accepted}
use Rattle.request_log.specs.Ranges.{Sound}
use Rattle.request_log.specs.AcceptedLaws.{accepted_sound, servers_length}
use Rattle.base.specs.declared.Refusal.{Refusal}
use Rattle.model.specs.Requests.{Requests, requests, latest, previous}
use Rattle.model.proofs.TableLists.{at}
use Rattle.model.specs.LogRequests.{requests_in, rates_in}
use Rattle.model.specs.Rates.{rates}
use Rattle.model.proofs.LogRequestLaws.{sound_seconds, log_rising, log_priced}
use Rattle.planner.specs.Asked.{asks}
use Rattle.planner.specs.Terms.{index}
use Rattle.model.proofs.RateLaws.{fee_most}
use Rattle.planner.specs.Fits.{Fits, Ready}
use Rattle.planner.specs.Loading.{seconds_with_home, servers_with_home, links}

-- home's element, put before a list that was lent
home_put : (o xs : List ℕ) (h : ℕ) → 1 ≤ length o → set (take 1 o ++ lent (Ok tt) xs (drop 1 o)) 0 h ≡ lent (Ok tt) (h ∷ xs) o
unfolding lent
home_put [] xs h l = absurd (omega arith)
home_put (y ∷ o) xs h l =
    let z : length o - length xs ≡ suc (length o) - suc (length xs) = omega arith in
    ap (λ (k : ℕ). h ∷ (xs ++ replicate k 0)) z

pub home_loaded : (v : Verdict) (o xs ys : List ℕ) (h k : ℕ) → v ≡ Ok tt → ys ≡ take 1 o ++ lent v xs (drop 1 o) → k ≡ h → 1 ≤ length o
    → set ys 0 k ≡ lent v (h ∷ xs) o
home_loaded (Ok _) o xs ys h k e f g l = ap₂ (λ (x : List ℕ) (y : ℕ). set x 0 y) f g ∙ home_put o xs h l
home_loaded (Err r) o xs ys h k e f g l = absurd (let z : ◌≡◌ {A = ℕ} 0 1 = cc in omega arith)

-- nothing is changed by a refusal
pub home_kept : (v : Verdict) (r : Refusal) (o xs ys zs : List ℕ) → v ≡ Err r → ys ≡ take 1 o ++ lent v xs (drop 1 o) → ys ≡ lent v zs o
unfolding lent
home_kept (Ok _) r o xs ys zs e f = absurd (let z : ◌≡◌ {A = ℕ} 0 1 = cc in omega arith)
home_kept (Err r') r o xs ys zs e f = f ∙ take-append-drop 1 o

-- zeros after a list are what is read past its end
pub at_lent : (xs o : List ℕ) → at (lent (Ok tt) xs o) ≡ at xs
unfolding lent
at_lent xs o = fun_ext λ i. go i (le_or_lt (length xs) i)
  where
    zeros : (k j : ℕ) → at (replicate k 0) j ≡ 0
    zeros k j = elim (le_or_lt k j) [ inl h ↦ get_or-eq_default (replicate k 0) 0 {n = j} (omega (arith, length-replicate {A = ℕ} k 0)) | inr h ↦ get_or-replicate k j 0 0 h ]

    go : (i : ℕ) → (length xs ≤ i) ⊎ (i < length xs) → at (xs ++ replicate (length o - length xs) 0) i ≡ at xs i
    go i (inl h) =
        let (j, e) : (j : ℕ) × (i ≡ length xs + j) = (i - length xs, omega arith) in
        rw e (get_or-append-add xs (replicate (length o - length xs) 0) j 0 ∙ zeros (length o - length xs) j ∙ sym (get_or-eq_default xs 0 {n = length xs + j} (omega arith)))
    go i (inr h) = get_or-append xs (replicate (length o - length xs) 0) 0 i h

-- nor do they change what links are made from it
pub links_lent : (xs o : List ℕ) (n : ℕ) → links (lent (Ok tt) xs o) n ≡ links xs n
unfolding links
links_lent xs o n = ap (λ (s : ℕ → ℕ). build (suc n) (λ i. index (latest s (s i) i))) (at_lent xs o)

-- the requests of a log, by the two lists with home before them
pub with_home : (log : List ℕ) → asks (seconds_with_home log) (servers_with_home log) ≡ requests_in log
unfolding requests_in requests seconds_with_home servers_with_home
with_home log = refl

module _ (t : Tariff) (log : List ℕ) (ok : Accepted t log) where
  sound : Sound log
  sound = accepted_sound t log ok

  -- every server is one of 64
  pub servers_small : (k : ℕ) → at (servers_with_home log) k < 64
  unfolding servers_with_home
  servers_small zero = omega (arith, sound.setup.home_below, sound.setup.servers_most)
  servers_small (suc k) = go (le_or_lt (request_count log) k)
    where
      go : (request_count log ≤ k) ⊎ (k < request_count log) → at (servers_of log) k < 64
      go (inl h) = rw (get_or-eq_default (servers_of log) 0 {n = k} (omega (arith, servers_length log))) (omega arith)
      go (inr h) = omega (arith, (sound.in_order k h).server_below, sound.setup.servers_most)

  -- so is every one in a list that holds them, with zeros after them
  pub lent_small : (o x : List ℕ) → x ≡ lent (verdict_of t log) (servers_with_home log) o → (k : ℕ) → at x k < 64
  unfolding Accepted
  lent_small o x f k =
      let g : x ≡ lent (Ok tt) (servers_with_home log) o = f ∙ ap (λ (w : Verdict). lent w (servers_with_home log) o) ok in
      let e : at x k ≡ at (servers_with_home log) k = ap (λ (y : List ℕ). at y k) g ∙ ap (λ (s : ℕ → ℕ). s k) (at_lent (servers_with_home log) o) in
      omega (arith, servers_small k)

  -- and the links made from such a list are those of its requests
  pub links_loaded : (o p x y : List ℕ) (n : ℕ) → x ≡ lent (verdict_of t log) (servers_with_home log) o → n ≡ request_count log
      → y ≡ lent (Ok tt) (links x n) p → y ≡ lent (verdict_of t log) (links (servers_with_home log) (request_count log)) p
  unfolding Accepted
  links_loaded o p x y n f e g =
      let w : x ≡ lent (Ok tt) (servers_with_home log) o = f ∙ ap (λ (w : Verdict). lent w (servers_with_home log) o) ok in
      g
      ∙ ap₂ (λ (l : List ℕ) (k : ℕ). lent (Ok tt) (links l k) p) w e
      ∙ ap (λ (l : List ℕ). lent (Ok tt) l p) (links_lent (servers_with_home log) o (request_count log))
      ∙ ap (λ (w : Verdict). lent w (links (servers_with_home log) (request_count log)) p) (sym ok)

  -- all costs fit
  pub log_fits : Priced t → (u : Option ℕ) → first (upload_conditions u) ≡ Ok tt → Fits (rates_in t u log) (requests_in log) (request_count log)
  unfolding rates
  log_fits priced u offer =
      let p = log_priced t priced log ok in
      record {
        hold_most = p.hold_most;
        transfer_most = p.transfer_most;
        upload_most = fee_most u offer;
        requests_most = sound.requests_most;
        times_most = sound_seconds log sound;
        rising = log_rising t log ok;
      }

  -- the links are to the previous requests
  links_right : (i : ℕ) → i ≤ request_count log → at (links (servers_with_home log) (request_count log)) i ≡ index (previous (requests_in log) i)
  unfolding previous links requests_in requests servers_with_home
  links_right i h = build_at (suc (request_count log)) (λ i. index (latest (at (servers_with_home log)) (at (servers_with_home log) i) i)) i 0 (omega arith)

  module _ (o₁ o₂ o₃ : List ℕ) where
    -- the requests that the lists hold are the log's
    pub lent_requests : asks (lent (Ok tt) (seconds_with_home log) o₁) (lent (Ok tt) (servers_with_home log) o₂) ≡ requests_in log
    lent_requests =
        ap₂ (λ (t s : ℕ → ℕ). record { time = t; server = s }) (at_lent (seconds_with_home log) o₁) (at_lent (servers_with_home log) o₂) ∙ with_home log

    -- and they are ready
    pub lent_ready : Priced t → (u : Option ℕ) → first (upload_conditions u) ≡ Ok tt → Ready (rates_in t u log) (lent (Ok tt) (seconds_with_home log) o₁) (lent (Ok tt) (servers_with_home log) o₂)
        (lent (Ok tt) (links (servers_with_home log) (request_count log)) o₃) (request_count log)
    lent_ready p u offer =
        record {
          fits = rw lent_requests (log_fits p u offer);
          linked = λ i h.
              ap (λ (f : ℕ → ℕ). f i) (at_lent (links (servers_with_home log) (request_count log)) o₃)
              ∙ links_right i h
              ∙ sym (ap (λ (q : Requests). index (previous q i)) lent_requests);
        }
