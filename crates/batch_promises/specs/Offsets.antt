-- SCOPE, "The batch": "the record's stream offset", as the verdicts of an output hold it.
use Rattle.std.specs.Prelude.{ℕ, zero, suc, List, [], ◌∷◌, drop}
use Rattle.verdict.specs.Verdict.{verdict_size, read_verdict}

-- the offsets that the first k verdicts say
unfoldable pub offsets_in : ℕ → List ℕ → List ℕ
offsets_in zero v = []
offsets_in (suc k) v = (read_verdict v).offset ∷ offsets_in k (drop verdict_size v)
