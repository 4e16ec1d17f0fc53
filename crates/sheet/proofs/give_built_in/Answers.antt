use Rattle.std.proofs.Common.{◌≡◌, refl, sym, ap, ◌∙◌, ℕ, ◌≤◌, arith, List, ◌++◌, length, take, drop, take_at, length-take-le}
use Rattle.base.specs.Lists.{splice, splice_fits, splice_length}
use Rattle.prices.specs.PriceFile.{built_in_bytes}
use Rattle.report.specs.Output.{price_limit}
use Rattle.streams.specs.Counts.{IsPrefixLen}
use Rattle.sheet.proofs.give_built_in.Goals as goal

-- the table at the front of a list
at_front : (o x : List ℕ) → x ≡ splice 0 built_in_bytes o → price_limit ≡ length o → IsPrefixLen 68 x × (take 68 x ≡ built_in_bytes)
unfolding built_in_bytes price_limit
at_front o x e l =
    let room : 68 ≤ length o = omega arith in
    let placed : x ≡ built_in_bytes ++ drop 68 o = e ∙ splice_fits 0 built_in_bytes o room in
    let long : 68 ≤ length x = omega (arith, ap length e, splice_length 0 built_in_bytes o) in
    ((long, sym (length-take-le 68 x long)), ap (take 68) placed ∙ take_at built_in_bytes (drop 68 o) 68 refl)

pub returns : goal.returns
returns c =
    let o = c.args.bytes.now in
    at_front o _ (c.copy.ensures ∙ ap (λ (x : List ℕ). splice 0 x o) c.built_in.ensures) c.requires
