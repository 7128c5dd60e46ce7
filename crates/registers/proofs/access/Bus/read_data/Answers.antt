use native.Mathlib.Omega.{arith}
use mathlib.Core.Path.{refl, sym}
use mathlib.Core.List.{[]}
use Rattle.registers.proofs.Steps.{here, read_stops, read-counts, data_step, same_then}
use Rattle.registers.proofs.access.Bus.read_data.Goals as goal

pub returns-in_err-word : goal.returns-in_err-word
returns-in_err-word c = read_stops {q₁ = []} here c.read.ensures refl c.in_err-word.was c.from_residual.ensures

pub take_byte-requires : goal.take_byte-requires
take_byte-requires c = let n = read-counts c.read.ensures c.in_ok-word.was in omega arith

pub returns : goal.returns
returns c = let y = c.take_byte.ensures in data_step c.in_ok-word.ensures (same_then c.read.ensures.same y.same) (sym y.is)
