-- What a list in a buffer holds.
use Rattle.std.specs.Prelude.{ℕ, List, length, take}
use Rattle.cases.specs.declared.filled.Filled.{Filled}

-- the items so far, which stand at the buffer's start
abbrev pub items : {T : Type 0} → Filled T → List T
items f = take f.count f.buffer.now

-- how many items it can hold
abbrev pub capacity : {T : Type 0} → Filled T → ℕ
capacity f = length f.buffer.now
