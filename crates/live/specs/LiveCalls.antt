-- The requests of a log as a list of scan calls: where no scan is refused, all of them are taken.
use Rattle.std.specs.Prelude.{List, [], ◌∷◌, ◌++◌, map, ◌≡◌, refl, ℕ, zero, suc, ◌≤◌, length, get_or, take, replicate, Ok}
use Rattle.base.specs.Refusals.{Verdict}
use Rattle.std.proofs.lemmas.List.{map-append, replicate-append-replicate}
use Rattle.std.proofs.Common.{sym, ap, ap₂, ◌∙◌, add-one, arith}
use Rattle.base.specs.Lists.{build, build_length, build_read}
use Rattle.model.specs.Requests.{requests}
use Rattle.request_log.specs.declared.Header.{Header}
use Rattle.online.specs.declared.Cache.{Cache}
use Rattle.bounds.specs.Calls.{Call, scan, verdict, after, run, verdicts, Request, requests_of}
use Rattle.bounds.specs.Progress.{Progress, due, advanced, with_request, dues, taken}
use Rattle.live.specs.Live.{scans, state_after}
use Rattle.live.specs.LiveLaws.{Runs}

-- calls and then others
verdicts_append : (c : Cache) (xs ys : List Call) → verdicts c (xs ++ ys) ≡ verdicts c xs ++ verdicts (run c xs) ys
unfolding verdicts run
verdicts_append c [] ys = refl
verdicts_append c (x ∷ xs) ys = ap (λ (vs : List Verdict). verdict c x ∷ vs) (verdicts_append (after c x) xs ys)

-- scans that are not refused
pub scans_passed : (c : Cache) (id seconds servers : List ℕ) (n : ℕ) → Runs c id seconds servers n → verdicts c (scans id seconds servers n) ≡ replicate n (Ok tt)
unfolding scans build verdicts verdict Runs state_after
scans_passed c id seconds servers zero r = refl
scans_passed c id seconds servers (suc n) r =
    verdicts_append c (scans id seconds servers n) (scan id (get_or seconds n 0) (get_or servers n 0) ∷ [])
    ∙ rw (scans_passed c id seconds servers n (λ i h. r i (omega arith)), r n (omega arith))
    (replicate-append-replicate n 1 (Ok tt) ∙ ap (λ (k : ℕ). replicate k (Ok tt)) (add-one n))

-- a request as a call
abbrev call : Request → Call
call r = scan r.id r.second r.server

-- requests whose calls are not refused are taken
all_taken : (s : Header) (p : Progress) (rs : List Request) → dues s p (map call rs) ≡ replicate (length rs) (Ok tt) → taken s p (map call rs) ≡ rs
unfolding dues taken with_request
all_taken s p [] e = refl
all_taken s p (r ∷ rs) e =
    let v : due s p (call r) ≡ (Ok tt) = cc in
    let next = advanced (due s p (call r)) (call r) p in
    let f : dues s next (map call rs) ≡ replicate (length rs) (Ok tt) = cc in
    go (due s p (call r)) v (taken s next (map call rs)) (all_taken s next rs f)
  where
    go : (w : Verdict) → w ≡ Ok tt → (ts : List Request) → ts ≡ rs → with_request w (call r) ts ≡ r ∷ rs
    go w v ts f = rw (v, f) refl

-- request i, from 0, of a file and two lists
abbrev pub request : List ℕ → List ℕ → List ℕ → ℕ → Request
request id seconds servers i = record { id = id; second = get_or seconds i 0; server = get_or servers i 0 }

map_build : {A B : Type 0} (g : A → B) (n : ℕ) (f : ℕ → A) → map g (build n f) ≡ build n (λ i. g (f i))
unfolding build
map_build g zero f = refl
map_build g (suc n) f = map-append g (build n f) (f n ∷ []) ∙ ap (λ (xs : List _). xs ++ (g (f n) ∷ [])) (map_build g n f)

-- so are those of scans
pub scans_taken : (s : Header) (p : Progress) (id seconds servers : List ℕ) (n : ℕ) → dues s p (scans id seconds servers n) ≡ replicate n (Ok tt)
    → taken s p (scans id seconds servers n) ≡ build n (request id seconds servers)
unfolding scans
scans_taken s p id seconds servers n e =
    let rs = build n (request id seconds servers) in
    let m : map call rs ≡ scans id seconds servers n = map_build call n (request id seconds servers) in
    ap (taken s p) (sym m)
    ∙ all_taken s p rs (ap (dues s p) m ∙ e ∙ ap (λ (k : ℕ). replicate k (Ok tt)) (sym (build_length n (request id seconds servers))))

-- which are the first of the two lists
pub requests_taken : (home n : ℕ) (id seconds servers : List ℕ) → n ≤ length seconds → n ≤ length servers
    → requests_of home (build n (request id seconds servers)) ≡ requests home (take n seconds) (take n servers)
unfolding requests_of
requests_taken home n id seconds servers h k =
    ap₂ (requests home)
    (map_build (λ r. r.second) n (request id seconds servers) ∙ build_read n seconds 0 h)
    (map_build (λ r. r.server) n (request id seconds servers) ∙ build_read n servers 0 k)
