use Rattle.registers.proofs.Steps.{here, read_step, read_stops, read_small, write_does, call_last}
use mathlib.Core.Path.{◌≡◌, refl}
use Prim.Native.Nat.{ℕ}
use mathlib.Core.List.{[], ◌∷◌}
use Rattle.registers.specs.declared.Bits.{Bits}
use Rattle.units.specs.declared.Setup.{Setup}
use Rattle.registers.specs.Access.{wCR1}
use Rattle.registers.specs.Word.{with_bits, without_bits}
use Rattle.registers.specs.Machine.{Step, next}
use Rattle.registers.proofs.access.Bus.modify_cr1.Goals as goal

altered_is : (s : Setup) (on off : Bits) (v w : ℕ) → w ≡ without_bits off (with_bits on v) → next s (Step.modify on off) v ≡ Step.put wCR1 w ∷ []
unfolding next
altered_is s on off v w e = rw e

pub returns-in_err-word : goal.returns-in_err-word
returns-in_err-word c = read_stops {q₁ = []} here c.read.ensures refl c.in_err-word.was c.from_residual.ensures

pub altered-requires : goal.altered-requires
altered-requires c = (read_small c.read.ensures refl c.in_ok-word.was, c.requires.0, c.requires.1)

pub returns : goal.returns
returns c =
    call_last (read_step here c.read.ensures refl refl c.in_ok-word.was (altered_is _ _ _ _ _ c.altered.ensures))
    (write_does c.write.ensures)
