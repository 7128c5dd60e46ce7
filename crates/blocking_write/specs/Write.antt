-- The blocking engine as steps (document 01, "Blocking", and src/i2c/blocking.rs), in its order: start, address and write.
-- The machine has the poll, the timed wait and the start with retries (`poll_word`, `Step.timed`, `start`).
use Rattle.std.specs.Prelude.{ℕ, Bool, false, List, [], ◌∷◌, ◌++◌}
use Rattle.units.specs.declared.Setup.{Setup}
use Rattle.registers.specs.declared.Source.{Source}
use Rattle.registers.specs.declared.Awaited.{Awaited}
use Rattle.registers.specs.Word.{ADDR, BTF, TXE}
use Rattle.registers.specs.Access.{SR1, SR2, wDR}
use Rattle.registers.specs.Machine.{Step, Handler, start}
use Rattle.i2c.specs.Polling.{address_byte}

-- the data timeout for all but SB and ADDR
abbrev pub data_limit : Setup → ℕ
data_limit s = s.data_limit.0

-- start: at most retries times (`send_start_and_wait`)
abbrev pub send_start_and_wait : Setup → List Step
send_start_and_wait s = start s s.start_retries

-- address: read SR1, write DR, timed ADDR (AF: Address); a NoAcknowledge sets STOP
abbrev pub send_addr_and_wait : Setup → ℕ → Bool → List Step
send_addr_and_wait s a reads =
    Step.get SR1 ∷ Step.put wDR (address_byte a reads) ∷ Step.timed (Awaited.Flag ADDR Source.Address) s.addr_limit.0 Handler.stops ∷ []

-- a timed wait of a write; a NoAcknowledge sets STOP
abbrev pub write_wait : Setup → ℕ → Step
write_wait s flag = Step.timed (Awaited.Flag flag Source.Data) (data_limit s) Handler.stops

-- before each later byte timed TXE
unfoldable pub later_bytes : Setup → List ℕ → List Step
later_bytes s [] = []
later_bytes s (byte ∷ bytes) = write_wait s TXE ∷ Step.put wDR byte ∷ later_bytes s bytes

-- read SR1, SR2
abbrev pub read_status : List Step
read_status = Step.get SR1 ∷ Step.get SR2 ∷ []

-- write: read SR1, SR2; first byte to DR; the later bytes; then timed BTF; with nothing to write, nothing is done
unfoldable pub write_bytes_and_wait : Setup → List ℕ → List Step
write_bytes_and_wait s [] = []
write_bytes_and_wait s (byte ∷ bytes) = (read_status ++ Step.put wDR byte ∷ []) ++ (later_bytes s bytes ++ write_wait s BTF ∷ [])

-- `write_without_stop`
unfoldable pub write_without_stop : Setup → ℕ → List ℕ → List Step
write_without_stop s a [] = []
write_without_stop s a (byte ∷ bytes) = send_start_and_wait s ++ (send_addr_and_wait s a false ++ write_bytes_and_wait s (byte ∷ bytes))
