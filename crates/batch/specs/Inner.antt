-- Definitions that only inner functions of `batch` cite: a reader of the promises can pass over them.
use Rattle.std.specs.Prelude.{ℕ, List, ◌++◌, Result, Ok, Err, drop}
use Rattle.record.specs.Records.{record_at}
use Rattle.record.specs.declared.Head.{Head}
use Rattle.verdict.specs.Verdict.{verdict_size}
use Rattle.batch.specs.Verdicts.{verdict_of}
use Rattle.batch.specs.declared.Stop.{Stop}

-- what the output holds after one turn
abbrev pub act_out : Result Head Stop → List ℕ → ℕ → List ℕ → List ℕ
act_out (Err s) batch offset out = out
act_out (Ok h) batch offset out = verdict_of (record_at batch offset h.kind h.length) ++ drop verdict_size out
