-- The conditions on what is to be written, part by part, as the code comes by them.
use Rattle.std.specs.Prelude.{Bool, true, false, not, [], ◌∷◌, ◌++◌, ◌≡◌, refl, ℕ, ◌≤◌, ltb, eqb, length, Ok, Err}
use Rattle.base.specs.declared.reasons.Reason.TheVariants as reason
use Rattle.std.proofs.Common.{append_assoc, ap, sym, ◌∙◌, arith, ltb-false, eqb-true}
use Rattle.std.proofs.lemmas.Bool.{not-false}
use Rattle.base.specs.Choice.{either}
use Rattle.base.specs.Refusals.{Condition, refuse, first, each, or_else, from, otherwise, Verdict}
use Rattle.base.specs.RefusalLaws.{first_append, from_append, from_otherwise, otherwise_assoc}
use Rattle.prices.specs.Offer.{Offer}
use Rattle.request_log.specs.Sizes.{most_requests}
use Rattle.request_log.specs.Conditions.{offered_conditions, request_conditions}
use Rattle.request_log.specs.Contents.{Contents, setup_in, contents_conditions}

-- 7: more than 2,048 requests, or lists of unequal length
abbrev pub lengths_condition : ℕ → ℕ → Condition
lengths_condition n m = refuse reason.RequestCount 0 (either (ltb most_requests n) (not (eqb n m)))

pub contents_parts : (v : Verdict) (o : Offer) (c : Contents)
    → otherwise v (first (contents_conditions o c))
    ≡ otherwise
    (or_else (from v (offered_conditions o (setup_in c.header))) (lengths_condition (length c.seconds) (length c.servers)))
    (first (each (request_conditions c.header.server_count c.seconds c.servers) (length c.seconds)))
unfolding contents_conditions from
contents_parts judged o c =
    let setup = offered_conditions o (setup_in c.header) in
    let seven = lengths_condition (length c.seconds) (length c.servers) ∷ [] in
    let rest = each (request_conditions c.header.server_count c.seconds c.servers) (length c.seconds) in
    ap (otherwise judged) (ap first (sym (append_assoc setup seven rest)) ∙ first_append (setup ++ seven) rest)
    ∙ otherwise_assoc judged (first (setup ++ seven)) (first rest)
    ∙ ap (λ (v : Verdict). otherwise v (first rest)) (sym (from_otherwise judged (setup ++ seven)) ∙ from_append judged setup seven)

-- a condition that did not refuse does not hold
pub or_else_passed : (v : Verdict) (c : Condition) → or_else v c ≡ Ok tt → c.holds ≡ false
unfolding or_else first
or_else_passed (Ok _) c e = go c.holds refl
  where
    go : (b : Bool) → c.holds ≡ b → c.holds ≡ false
    go false q = q
    go true q = absurd (let w = rw q at e in let z : ◌≡◌ {A = ℕ} 0 1 = cc in omega arith)
or_else_passed (Err r) c e = absurd (let z : ◌≡◌ {A = ℕ} 0 1 = cc in omega arith)

-- 7 that did not refuse: lists of one length, and at most 2,048 requests
pub lengths_inside : (n m : ℕ) → either (ltb most_requests n) (not (eqb n m)) ≡ false → (n ≡ m) × (n ≤ most_requests)
lengths_inside n m e = go (ltb most_requests n) refl e
  where
    go : (b : Bool) → ltb most_requests n ≡ b → either b (not (eqb n m)) ≡ false → (n ≡ m) × (n ≤ most_requests)
    go true q e = absurd (let z : ◌≡◌ {A = ℕ} 0 1 = cc in omega arith)
    go false q e = (eqb-true n m (not-false _ e), ltb-false most_requests n q)
