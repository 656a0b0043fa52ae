-- `report::last_line` meets its contract: its three parts are written one after the other where the longest last line has room.
use mathlib.Core.List.{◌++◌}
use Prim.Native.Nat.{◌≤◌}
use native.Mathlib.Omega.{arith}
use lib.ListN.{length, length-append}
use Rattle.text.specs.Quote.{bytes_of}
use Rattle.report.specs.Text.{named}
use Rattle.report.proofs.Puts.{no_last, last_put, front, next}
use Rattle.report.proofs.last_line.Goals as goal

pub returns-then-out-lt-LAST_MOST : goal.returns-then-out-lt-LAST_MOST
returns-then-out-lt-LAST_MOST c = no_last _ _ _ _ c.if-out-lt-LAST_MOST.true

pub returns : goal.returns
returns c =
    let s = named (bytes_of "stop ") c.args.stop 32 in
    let j = named (bytes_of "judged ") c.args.judged 32 in
    let r = named (bytes_of "read ") c.args.read 10 in
    let p = c.put_named-n.ensures in
    let q = c.put_named-n-2.ensures in
    let t = c.put_named.ensures in
    let h : length ((s ++ j) ++ r) ≤ length c.args.out.now =
    omega (arith, c.if-out-lt-LAST_MOST.false, length-append (s ++ j) r, length-append s j, p.most, p.put.end, q.most, q.put.end, t.most, t.put.end) in
    last_put c.args.stop c.args.judged c.args.read c.args.out.now c.if-out-lt-LAST_MOST.false
    (next _ _ h (next _ _ (front _ _ h) p.put q.put) t.put)
