-- The forms of the contracts of the run's inner functions: one operation of a call, the end of a call, and a whole run from a state, call by call.
use Rattle.std.specs.Prelude.{Result, ⊤, ℕ, ◌+◌, ◌≤◌, ◌<◌, ◌≡◌, Bool, List, [], ◌∷◌, ◌++◌, map, eqb}
use Rattle.units.specs.declared.Setup.{Setup}
use Rattle.buslist.specs.declared.Address.{Address}
use Rattle.buslist.specs.declared.CallEntry.{CallEntry}
use Rattle.buslist.specs.declared.Joined.{Joined}
use Rattle.buslist.specs.Meaning.{Operation, Engine, polling, blocking, engine_of, address_number, operation_of, address_of, calls_of}
use Rattle.buslist.specs.Next.{operations_from}
use Rattle.registers.specs.declared.Stop.{Stop}
use Rattle.registers.specs.declared.access.Bus.{Bus}
use Rattle.registers.specs.Access.{well, failed, cut_number, number}
use Rattle.registers.specs.Machine.{Step}
use Rattle.registers.specs.State.{State, After, resume}
use Rattle.registers.specs.Contract.{outcome_number, state, Same}
use Rattle.i2c.specs.declared.Previous.{Previous}
use Rattle.i2c.specs.Polling.{direction, operation_steps as polling_operation}
use Rattle.blocking.specs.Blocking.{done_last, close_after, operation_steps as blocking_operation}
use Rattle.calls.specs.declared.Stopped.{Stopped}
use Rattle.calls.specs.Calls.{early, operations_steps, performed, steps_of}

-- one operation, with the operation before it and whether it is the last
unfoldable pub operation_steps : Setup → Engine → Bool → Address → Previous → Bool → Operation → List Step
operation_steps s polling early a previous last o = polling_operation early a previous last o
operation_steps s blocking early a previous last o = blocking_operation s (address_number a) o

-- one operation of the call that an entry of the call table has; and of a polling one
abbrev pub entry_steps : Setup → CallEntry → Previous → Bool → Operation → List Step
entry_steps s c previous last o = operation_steps s (engine_of c.kind) (early c.kind) (address_of c) previous last o

abbrev pub polling_entry : CallEntry → Previous → Bool → Operation → List Step
polling_entry c previous last o = polling_operation (early c.kind) (address_of c) previous last o

-- the operation before, for the one after o
unfoldable pub moved : Engine → Previous → Operation → Previous
moved polling previous o = direction o
moved blocking previous o = done_last previous o

-- what is left to do of the call that an entry has: these operations, after one of direction `previous` or none
abbrev pub rest_steps : Setup → CallEntry → Previous → List Operation → List Step
rest_steps s c previous os = operations_steps s (engine_of c.kind) (early c.kind) (address_of c) previous (performed c.kind os)

-- of the operations from j on a call does the joined one first, then those from the next number on
pub record Takes (l : List ℕ) (c : CallEntry) (j end : ℕ) (r : Joined) : Type 0 where
  pub some : j < r.next
  pub most : r.next ≤ end
  pub first : (s : Setup) (previous : Previous) →
      let o = operation_of l r.operation in
      rest_steps s c previous (operations_from l j end)
      ≡ entry_steps s c previous (eqb r.next end) o ++ rest_steps s c (moved (engine_of c.kind) previous o) (operations_from l r.next end)

-- the end of a call
unfoldable pub end_steps : Setup → Engine → Previous → List Step
end_steps s polling previous = []
end_steps s blocking previous = close_after s previous

-- how a run ends: its answer, the calls that ended well, and the state
pub record Final : Type 0 where
  pub answer : ℕ
  pub calls : ℕ
  pub state : State

abbrev pub more_calls : ℕ → Final → Final
more_calls k f = record { answer = f.answer; calls = k + f.calls; state = f.state }

abbrev pub after_calls : ℕ → After → (State → Final) → Final
after_calls k (After.going st) f = more_calls k (f st)
after_calls k (After.failed e st) f = record { answer = number (failed e); calls = 0; state = st }
after_calls k (After.cut_short c st) f = record { answer = cut_number c; calls = 0; state = st }

-- the calls in order, until one does not end well
unfoldable pub calls_run : Setup → List (List Step) → State → Final
calls_run s [] st = record { answer = number well; calls = 0; state = st }
calls_run s (c ∷ cs) st = after_calls 1 (resume s c st) (calls_run s cs)

-- a run that ended with this outcome after k calls
abbrev pub final : State → ℕ → Result ⊤ Stop → Final
final st k r = record { answer = outcome_number r; calls = k; state = st }

-- the calls cs from st end so
pub record Ends (s : Setup) (cs : List (List Step)) (st st' : State) (k : ℕ) (r : Result ⊤ Stop) : Type 0 where
  pub is : calls_run s cs st ≡ final st' k r

-- the calls of a list end so, from one state to another
abbrev pub EndsCalls : Setup → List ℕ → State → State → Stopped → Type 0
EndsCalls s list st st' r = Ends s (map (steps_of s) (calls_of list)) st st' r.calls r.outcome

-- and from where the bus was to where it is
pub record RunsCalls (list : List ℕ) (b b' : Bus) (r : Stopped) : Type 0 where
  pub same : Same b b'
  pub ends : EndsCalls b.setup list (state b) (state b') r

-- after k calls, the calls cs' are left from st'
pub record Left (s : Setup) (cs : List (List Step)) (st : State) (k : ℕ) (cs' : List (List Step)) (st' : State) : Type 0 where
  pub is : calls_run s cs st ≡ more_calls k (calls_run s cs' st')
