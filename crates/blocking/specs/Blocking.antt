-- The blocking engine as steps (document 01, "Blocking", and src/i2c/blocking.rs), in its order: close and read, after start, address and write.
use Rattle.std.specs.Prelude.{ℕ, zero, suc, true, List, [], ◌∷◌, ◌++◌}
use Rattle.units.specs.declared.Setup.{Setup}
use Rattle.buslist.specs.Meaning.{Operation, write, read}
use Rattle.registers.specs.declared.Source.{Source}
use Rattle.registers.specs.declared.Awaited.{Awaited}
use Rattle.registers.specs.Word.{none, one, both, BTF, RXNE, STOP, ACK, POS}
use Rattle.registers.specs.Access.{DR}
use Rattle.registers.specs.Machine.{Step, Handler}
use Rattle.i2c.specs.declared.Previous.{Previous}
use Rattle.blocking_write.specs.Write.{data_limit, send_start_and_wait, send_addr_and_wait, read_status, write_without_stop}

-- timed wait for STOP clear in CR1
abbrev pub stop_wait : Setup → Step
stop_wait s = Step.timed Awaited.Stop (data_limit s) Handler.ends

-- closing: set STOP, timed wait for STOP clear in CR1
abbrev pub close : Setup → List Step
close s = Step.modify (one STOP) none ∷ stop_wait s ∷ []

-- a timed wait of a read (AF: Data, no STOP for it), and the byte that it waits for
abbrev pub read_wait : Setup → ℕ → Step
read_wait s flag = Step.timed (Awaited.Flag flag Source.Data) (data_limit s) Handler.ends

abbrev pub receive : Setup → List Step
receive s = read_wait s RXNE ∷ Step.get DR ∷ []

-- the end of a read: the timed wait for STOP clear, then ACK on
abbrev pub finish_read : Setup → List Step
finish_read s = stop_wait s ∷ Step.modify (one ACK) none ∷ []

-- the arm of length 1
abbrev pub one_ready : List Step
one_ready = Step.modify none (one ACK) ∷ read_status ++ Step.modify (one STOP) none ∷ []

abbrev pub read_one : Setup → List Step
read_one s = one_ready ++ (receive s ++ finish_read s)

-- the arm of length 2: until both bytes are there; the bytes; the end
abbrev pub two_ready : Setup → List Step
two_ready s = Step.modify (both POS ACK) none ∷ read_status ++ Step.modify none (one ACK) ∷ read_wait s BTF ∷ []

abbrev pub two_bytes : List Step
two_bytes = Step.modify (one STOP) none ∷ Step.get DR ∷ Step.get DR ∷ []

abbrev pub two_end : Setup → List Step
two_end s = stop_wait s ∷ Step.modify none (both POS ACK) ∷ Step.modify (one ACK) none ∷ []

abbrev pub read_two : Setup → List Step
read_two s = two_ready s ++ (two_bytes ++ two_end s)

-- the arm of more: all but three bytes, then the last three
abbrev pub more_ready : List Step
more_ready = Step.modify (one ACK) none ∷ read_status

unfoldable pub receive_bytes : Setup → ℕ → List Step
receive_bytes s zero = []
receive_bytes s (suc n) = receive s ++ receive_bytes s n

abbrev pub third_last : Setup → List Step
third_last s = read_wait s BTF ∷ Step.modify none (one ACK) ∷ Step.get DR ∷ []

abbrev pub second_last : List Step
second_last = Step.modify (one STOP) none ∷ Step.get DR ∷ []

abbrev pub last_three : Setup → List Step
last_three s = third_last s ++ (second_last ++ (receive s ++ finish_read s))

abbrev pub read_more : Setup → ℕ → List Step
read_more s n = more_ready ++ (receive_bytes s n ++ last_three s)

-- `read` by its length, once the address is sent
unfoldable pub read_arm : Setup → ℕ → List Step
read_arm s zero = []
read_arm s (suc zero) = read_one s
read_arm s (suc (suc zero)) = read_two s
read_arm s (suc (suc (suc n))) = read_more s n

-- `read`: with nothing to read, nothing is done
unfoldable pub read_steps : Setup → ℕ → ℕ → List Step
read_steps s a zero = []
read_steps s a (suc n) = send_start_and_wait s ++ (send_addr_and_wait s a true ++ read_arm s (suc n))

-- what one operation of a blocking call does; an empty one does nothing
abbrev pub operation_steps : Setup → ℕ → Operation → List Step
operation_steps s a (write bytes) = write_without_stop s a bytes
operation_steps s a (read n) = read_steps s a n

-- the last operation done; empty ones do not count
abbrev pub done_last : Previous → Operation → Previous
done_last previous (write []) = previous
done_last previous (write (byte ∷ bytes)) = Previous.Write
done_last previous (read zero) = previous
done_last previous (read (suc n)) = Previous.Read

-- `write_read` closes after a write alone: where the last operation done was a write
unfoldable pub close_after : Setup → Previous → List Step
close_after s Previous.Nothing = []
close_after s Previous.Write = close s
close_after s Previous.Read = []

-- the operations of a blocking call, in order
unfoldable pub blocking_steps : Setup → ℕ → Previous → List Operation → List Step
blocking_steps s a previous [] = close_after s previous
blocking_steps s a previous (o ∷ os) = operation_steps s a o ++ blocking_steps s a (done_last previous o) os
