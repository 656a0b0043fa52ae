-- `vectors::replay_all` meets its contract. The measure: each line leaves less of the list.
use Rattle.std.proofs.Common.{length}
use Rattle.vectors.proofs.replay_all.Given as goal

abbrev pub decreases-loop-words : goal.decreases-loop-words
decreases-loop-words l = length l.words.left.now
