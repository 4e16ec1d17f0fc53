-- `live::running_of` meets its contract. Assumes nothing.
use native.Mathlib.Numerals.{add-one}
use native.Mathlib.Omega.{arith}
use Prim.Native.Nat.{◌+◌, ◌*◌, ◌<◌}
use mathlib.Core.Path.{◌≡◌, refl, ap, ◌∙◌}
use Rattle.base.specs.Bytes.{le16, le32}
use Rattle.base.specs.Lists.{build}
use Rattle.request_log.specs.Fields.{request_count}
use Rattle.bounds.specs.Calls.{run}
use Rattle.live.specs.Live.{scans, state_after, state_of}
use Rattle.live.specs.LiveLaws.{state_read}
use Rattle.live.proofs.running_of.Goals as goal

pub loop-k-init : goal.loop-k-init
unfolding state_after scans build run
loop-k-init c = refl

pub loop-k-preserved : goal.loop-k-preserved
unfolding request_count
loop-k-preserved c =
    let l = c.loop-k in
    let log = c.args.log.now in
    let h : l.k < request_count log = omega (arith, c.at16-k-end.ensures, c.loop-k-test.true) in
    let j : c.request_place-i.result + 4 ≡ 44 + 6 * l.k = omega (arith, c.request_place-i.ensures) in
    let second : c.at32-second.result ≡ le32 log (40 + 6 * l.k) = c.at32-second.ensures ∙ ap (le32 log) c.request_place-i.ensures in
    let server : c.at16-server.result ≡ le16 log (44 + 6 * l.k) = c.at16-server.ensures ∙ ap (le16 log) j in
    rw (add-one l.k, state_read _ _ log l.k h, c.scan.ensures, l.invariant, second, server)

pub returns : goal.returns
unfolding state_of request_count
returns c =
    let l = c.loop-k in
    let e : l.k ≡ c.at16-k-end.result = omega arith in
    rw (c.running.ensures, l.invariant, e, c.at16-k-end.ensures, c.open-state.ensures, c.header_in-header.ensures)
