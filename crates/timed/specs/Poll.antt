-- What a timed wait waits for, and when one poll of it ends it well.
use Rattle.std.specs.Prelude.{Option, Some, None, ℕ, Bool, true, false, ◌&&◌, ◌||◌, ◌==◌, ◌≡◌, List, ◌++◌, Result, ⊤}
use Rattle.units.specs.declared.Setup.{Setup}
use Rattle.registers.specs.declared.Awaited.{Awaited}
use Rattle.registers.specs.declared.BusError.{BusError}
use Rattle.registers.specs.declared.Stop.{Stop}
use Rattle.registers.specs.Word.{SB, ADDR, BTF, RXNE, TXE}
use Rattle.registers.specs.Machine.{Step, Handler, next, poll_error, poll_ready}
use Rattle.registers.specs.State.{State, resume}
use Rattle.registers.specs.Contract.{handled}

-- the flags that a wait waits for
abbrev pub waited_flag : ℕ → Bool
waited_flag f = f == SB || f == ADDR || f == BTF || f == RXNE || f == TXE

-- a wait for one of them, or for STOP
abbrev pub waited : Awaited → Bool
waited (Awaited.Flag f n) = waited_flag f
waited Awaited.Stop = true

abbrev pub no_error : Option BusError → Bool
no_error (Some e) = false
no_error None = true

-- a poll that read v ends its wait well: no error, and ready
unfoldable pub over : Awaited → ℕ → Bool
over w v = no_error (poll_error w v) && poll_ready w v

-- the polls of a timed wait, the last of which read v, by the state of the run before them and after them
pub record WaitsOn (s : Setup) (w : Awaited) (limit start v : ℕ) (st st' : State) (r : Result ⊤ Stop) : Type 0 where
  pub is : (h : Handler) (p : List Step) → resume s (next s (Step.poll w limit h start) v ++ p) st ≡ handled s h st' r p
