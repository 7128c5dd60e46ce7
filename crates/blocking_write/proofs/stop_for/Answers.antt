use mathlib.Core.Path.{◌≡◌}
use mathlib.Core.List.{List, [], ◌∷◌}
use Rattle.std.proofs.Common.{rules}
use Rattle.std.specs.Prelude.{Result, Err, ⊤}
use Rattle.registers.specs.declared.Source.{Source}
use Rattle.registers.specs.declared.BusError.{BusError}
use Rattle.registers.specs.declared.Stop.{Stop}
use Rattle.registers.specs.declared.access.Bus.{Bus}
use Rattle.registers.specs.Word.{none, one, STOP}
use Rattle.registers.specs.Machine.{Step, Handler, handle, stop_for}
use Rattle.registers.specs.Contract.{Reaches, Waits}
use Rattle.registers.proofs.Steps.{call_step, call_stops, ends_failed}
use Rattle.blocking_write.proofs.Stops.{to_handler, unhandled}
use Rattle.blocking_write.proofs.stop_for.Goals as goal

-- a wait that failed for want of an acknowledge comes to STOP
to_stop : {q : List Step} {b b' : Bus} {r : Result ⊤ Stop} → Waits Handler.stops q b b' r → {n : Source} → r ≡ Err (Stop.Failed (BusError.NoAcknowledge n))
    → Reaches q b (Step.modify (one STOP) none ∷ Step.fail (BusError.NoAcknowledge n) ∷ []) b'
unfolding handle stop_for
to_stop x k = to_handler x k

pub returns-in_err-send_stop : goal.returns-in_err-send_stop
returns-in_err-send_stop c q b x =
    call_stops c.send_stop.ensures _ (to_stop x {n = c.in-Err-Failed-NoAcknowledge.field-0-0-0} (search rules)) c.in_err-send_stop.was c.from_residual.ensures

pub returns-in_ok-send_stop : goal.returns-in_ok-send_stop
returns-in_ok-send_stop c q b x =
    let e : c.args.waited ≡ Err (Stop.Failed (BusError.NoAcknowledge c.in-Err-Failed-NoAcknowledge.field-0-0-0)) = search rules in
    rw e (ends_failed (call_step c.send_stop.ensures _ (to_stop x e) c.in_ok-send_stop.was))

pub returns : goal.returns
returns c q b x = unhandled x (λ n k. search rules)
