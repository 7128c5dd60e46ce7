-- What a run comes to where it ends, as counts.
use Rattle.std.specs.Prelude.{ℕ, Result, ⊤}
use Rattle.registers.specs.declared.Progress.{Progress}
use Rattle.registers.specs.declared.Stop.{Stop}
use Rattle.registers.specs.Contract.{outcome_number}
use Rattle.engine.specs.declared.Counts.{Counts}

-- the answer and the counts that an outcome gives after so many calls, where the run had come so far
abbrev pub ended_counts : Progress → Result ⊤ Stop → ℕ → Counts
ended_counts progress r calls =
    record {
      answer = outcome_number r;
      calls = calls;
      used = progress.used;
      made = progress.made;
      got = progress.got;
    }
