use Rattle.std.proofs.Common.{sym}
use Rattle.buslist.specs.Bytes.{word}
use Rattle.buslist.proofs.Walk.{word_past}
use Rattle.buslist.proofs.bytes.word_past.Goals as goal

pub returns-then-list-i : goal.returns-then-list-i
returns-then-list-i c = sym (word_past _ _ c.if-list-i.true)

pub returns : goal.returns
unfolding word
returns c = cc
