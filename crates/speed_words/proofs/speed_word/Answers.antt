use Rattle.speed_words.proofs.Right.{entry_right, past_end}
use Rattle.speed_words.proofs.speed_word.Goals as goal

-- src/lib.rt:12:1
pub returns-then-index-lt420 : goal.returns-then-index-lt420
returns-then-index-lt420 c = entry_right c.args.index _ c.if-index-lt420.true

-- src/lib.rt:12:1
pub returns-else-index-lt420 : goal.returns-else-index-lt420
returns-else-index-lt420 c = past_end c.args.index c.if-index-lt420.false
