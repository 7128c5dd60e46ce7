use mathlib.Core.Bool.{Bool, true, false, cond}
use mathlib.Core.Path.{◌≡◌, refl}
use mathlib.Core.List.{[], ◌++◌}
use Rattle.buslist.specs.declared.Address.{Address}
use Rattle.registers.proofs.Steps.{here, rewritten, call_step, call_stops, call_last}
use Rattle.i2c.specs.declared.Previous.{Previous}
use Rattle.i2c.specs.Polling.{prepare_write, prepare_read, turn_write, turn_read}
use Rattle.prepare.specs.Turn.{sends_write, sends_read, turn_to}
use Rattle.prepare.proofs.turn.Goals as goal

-- the prepares of an operation: for a write, then for a read, each where it is needed
in_turn : (a : Address) (previous : Previous) (reads : Bool) {for_write for_read : Bool} → for_write ≡ sends_write a previous reads → for_read ≡ sends_read previous reads
    → turn_to a previous reads ≡ cond for_write (prepare_write a) [] ++ cond for_read (prepare_read a for_write) []
unfolding turn_write turn_read
in_turn (Address.Seven a) Previous.Nothing false e f = rw (e, f)
in_turn (Address.Seven a) Previous.Nothing true e f = rw (e, f)
in_turn (Address.Ten a) Previous.Nothing false e f = rw (e, f)
in_turn (Address.Ten a) Previous.Nothing true e f = rw (e, f)
in_turn a Previous.Write false e f = rw (e, f)
in_turn a Previous.Write true e f = rw (e, f)
in_turn (Address.Seven a) Previous.Read false e f = rw (e, f)
in_turn (Address.Ten a) Previous.Read false e f = rw (e, f)
in_turn a Previous.Read true e f = rw (e, f)

pub returns-in_err-turn_write : goal.returns-in_err-turn_write
returns-in_err-turn_write c =
    call_stops c.turn_write.ensures _ (rewritten (in_turn c.args.addr c.args.previous c.args.read c.sends_write-written.ensures refl) here) c.in_err-turn_write.was
    c.from_residual.ensures

pub returns : goal.returns
returns c =
    call_last
    (call_step c.turn_write.ensures _ (rewritten (in_turn c.args.addr c.args.previous c.args.read c.sends_write-written.ensures c.sends_read.ensures) here) c.in_ok-turn_write.was)
    c.turn_read.ensures
