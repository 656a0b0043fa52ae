-- `run_whole` meets its contract: heading, turns and last line are what was asked for.
use mathlib.Core.Path.{◌≡◌}
use borrow.Author.Rules.{rules}
use Rattle.std.specs.Prelude.{Ok}
use Rattle.std.specs.Io.KnownBytes.{Appends}
use Rattle.service.proofs.Bytes.{where_written}
use Rattle.service.proofs.Promises.{answered}
use Rattle.service.proofs.run_whole.Goals as goal

pub returns : goal.returns
returns g c =
    let h : Appends (g.W.Write.contents c.args.output.now) (g.W.Write.contents c.write_all.new.self) c.heading.result = search rules in
    let e : c.serve.result ≡ Ok c.in_ok-serve.field-0 = search rules in
    where_written _ _ c.map_err-2.ensures.variant (λ w.
    answered _ _ _ _ _ _ _ _ c.new-run.result _ c.last_line.new.self _ c.heading.ensures h c.new-run.ensures (rw e at c.serve.ensures.passed) c.last_line.ensures (rw c.lines.ensures at w)) c.write_all-2.ensures.bytes
