-- A fresh state as the code makes it: from prices that are a class's of some table, and its lists and words. Assumes nothing.
use Rattle.std.specs.Prelude.{Bool, List, [], ◌∷◌, ◌++◌, ◌⊎◌, ◌≢◌, ◌≡◌, refl, ℕ, zero, suc, ◌≤◌, ◌<◌, ltb, eqb, replicate}
use Rattle.std.proofs.Common.{inl, inr, ap, ◌∙◌, arith, eq-eqb, ne_eqb, lt-ltb, le-ltb}
use Rattle.base.specs.Choice.{pick, le_or_lt, same_or_not}
use Rattle.base.specs.Sets.{put}
use Rattle.base.specs.Lists.{build}
use Rattle.base.specs.Refusals.{from, Verdict}
use Rattle.base.specs.RefusalLaws.{from_otherwise}
use Rattle.prices.specs.declared.Prices.{Prices}
use Rattle.prices.specs.Prices.{prices_of}
use Rattle.prices.specs.Tariff.{Tariff}
use Rattle.prices.specs.Offer.{Offer, offer}
use Rattle.request_log.specs.declared.Header.{Header}
use Rattle.request_log.specs.Conditions.{setup_conditions, offered_conditions}
use Rattle.request_log.specs.Contents.{setup_in}
use Rattle.online.specs.declared.Started.{Started}
use Rattle.online.specs.Answers.{start_verdict, log_start_verdict, started_by, started, started_for_log}
use Rattle.online.specs.Servers.{set_of}

-- something holds of each table in which the class has these prices
abbrev pub WithPrices : Prices → Header → (List Prices → Type 0) → Type 0
WithPrices p h P = (table : List Prices) → p ≡ prices_of table h.«class» → P table

-- a start by a tariff; of what is offered it asks only whether the one class has ended
pub start_made : (t : Tariff) (w : Verdict) (ended : Bool) (o : Offer) (h : Header) (x : Started) → t ≡ o.tariff → ended ≡ o.ended h.«class»
    → w ≡ from t.judged (offered_conditions (offer t (λ class. ended)) (setup_in h)) → x ≡ started_by w t.table h → x ≡ started o h
unfolding started start_verdict offered_conditions
start_made t w ended o h x z g e f =
    rw z at f ∙ ap (λ (u : Verdict). started_by u o.tariff.table h) (rw z at e ∙ from_otherwise o.tariff.judged _ ∙ rw g)

pub log_start_made : (t : Tariff) (w : Verdict) (h : Header) (x : Started) → w ≡ from t.judged (setup_conditions t.table (setup_in h))
    → x ≡ started_by w t.table h → x ≡ started_for_log t h
unfolding started_for_log log_start_verdict
log_start_made t w h x e f = f ∙ ap (λ (u : Verdict). started_by u t.table h) (e ∙ from_otherwise t.judged (setup_conditions t.table (setup_in h)))

-- one more of the same at the end
replicate_end : (n x : ℕ) → replicate n x ++ (x ∷ []) ≡ replicate (suc n) x
replicate_end zero x = refl
replicate_end (suc n) x = ap (λ (l : List ℕ). x ∷ l) (replicate_end n x)

-- a list of one number, built
pub build_const : (n x : ℕ) → build n (λ y. x) ≡ replicate n x
unfolding build
build_const zero x = refl
build_const (suc n) x = ap (λ (l : List ℕ). l ++ (x ∷ [])) (build_const n x) ∙ replicate_end n x

-- the set of one server, if it is below n
pub set_one : (n a : ℕ) → set_of n (λ y. eqb y a) ≡ pick (ltb a n) (put 0 a) 0
unfolding set_of
set_one zero a = rw (le-ltb a 0 (omega arith))
set_one (suc n) a = go (same_or_not n a) (le_or_lt n a) (set_one n a)
  where
    go : (n ≡ a) ⊎ (n ≢ a) → (n ≤ a) ⊎ (a < n) → set_of n (λ y. eqb y a) ≡ pick (ltb a n) (put 0 a) 0
        → set_of (suc n) (λ y. eqb y a) ≡ pick (ltb a (suc n)) (put 0 a) 0
    go (inl e) l ih =
        rw (eq-eqb n a e, ih, lt-ltb a (suc n) (omega arith), le-ltb a n (omega arith)) (ap (put 0) e)
    go (inr e) (inl l) ih = rw (ne_eqb n a e, ih, le-ltb a (suc n) (omega arith), le-ltb a n l)
    go (inr e) (inr l) ih = rw (ne_eqb n a e, ih, lt-ltb a (suc n) (omega arith), lt-ltb a n l)
