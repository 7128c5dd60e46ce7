use Prim.Native.Nat.{ℕ, zero, suc, ◌+◌, ◌-◌, ◌<◌, ◌≤◌}
use native.Mathlib.Omega.{arith}
use mathlib.Core.Path.{◌≡◌, refl}
use mathlib.Core.List.{List, [], ◌∷◌, ◌++◌}
use Rattle.std.proofs.Common.{rules}
use Rattle.std.specs.Prelude.{Result, Ok, Err, ⊤}
use Rattle.units.specs.declared.Setup.{Setup}
use Rattle.registers.specs.declared.Awaited.{Awaited}
use Rattle.registers.specs.declared.BusError.{BusError}
use Rattle.registers.specs.declared.Source.{Source}
use Rattle.registers.specs.declared.Stop.{Stop}
use Rattle.registers.specs.declared.access.Bus.{Bus}
use Rattle.registers.specs.Word.{one, START, SB}
use Rattle.registers.specs.Machine.{Step, Handler, handle, reset, send_start, start, start_again}
use Rattle.registers.specs.Contract.{Does, Reaches, Waits}
use Rattle.registers.proofs.Steps.{HandsOn, at_setup, rewritten, call_step, call_stops, ends_well, ends_failed, waits_last}
use Rattle.blocking_write.proofs.Stops.{to_handler, unfailed}
use Rattle.blocking_write.proofs.send_start_and_wait.Goals as goal

-- the wait of a try, and a try with that many left
abbrev start_wait : Setup → Handler → List Step
start_wait s h = Step.timed (Awaited.Flag SB Source.Unknown) s.start_limit.0 h ∷ []

start_more : (s : Setup) (n : ℕ) → 0 < n → start s n ≡ send_start (one START) ++ start_wait s (Handler.resets (n - 1))
unfolding start
start_more s zero h = absurd (omega arith)
start_more s (suc n) h = let e : suc n - 1 ≡ n = omega arith in rw e

start_none : (s : Setup) (n : ℕ) → n ≤ 0 → start s n ≡ []
unfolding start
start_none s n h = let e : n ≡ zero = omega arith in rw e

again_none : (s : Setup) (n : ℕ) (e : BusError) → n ≡ 0 → start_again s n e ≡ Step.fail e ∷ []
unfolding start_again
again_none s n e h = rw h

again_more : (s : Setup) (n : ℕ) (e : BusError) → (n ≡ 0 → ⊥) → start_again s n e ≡ start s n
unfolding start_again
again_more s zero e h = absurd (h refl)
again_more s (suc n) e h = refl

-- a try begins; it comes to its wait; a try whose wait failed comes to what is done again after a reset
module _ {n : ℕ} (h : 0 < n) {q : List Step} {b b₁ : Bus} (g : Reaches q b (start b.setup n) b₁) where
  try_first : Reaches q b (send_start (one START) ++ start_wait b.setup (Handler.resets (n - 1))) b₁
  try_first = rewritten (start_more b.setup n h) g

  module _ {b₂ : Bus} {r : Result ⊤ Stop} (x : Does (send_start (one START)) b₁ b₂ r) {t : ⊤} (k : r ≡ Ok t)
      {b₃ : Bus} {r' : Result ⊤ Stop} (y : (h : Handler) → Waits h (start_wait b.setup h) b₂ b₃ r') where
    try_waits : Waits (Handler.resets (n - 1)) q b b₃ r'
    try_waits = waits_last (call_step x (start_wait b.setup (Handler.resets (n - 1))) try_first k) (y (Handler.resets (n - 1)))

    module _ {e : BusError} (l : r' ≡ Err (Stop.Failed e)) where
      try_failed : Reaches q b (reset b.setup ++ start_again b.setup (n - 1) e) b₃
      unfolding handle
      try_failed = to_handler try_waits l

      module _ {b₄ : Bus} {o : Result ⊤ Stop} (z : Does (reset b₃.setup) b₃ b₄ o) where
        reset_stops : {stop : Stop} {o' : Result ⊤ Stop} → o ≡ Err stop → HandsOn stop o' → Does q b b₄ o'
        reset_stops m u = call_stops (at_setup try_failed.same reset z) _ try_failed m u

        try_again : {t' : ⊤} → o ≡ Ok t' → Reaches q b (start_again b.setup (n - 1) e) b₄
        try_again m = call_step (at_setup try_failed.same reset z) _ try_failed m

pub returns-in_err-send_start : goal.returns-in_err-send_start
returns-in_err-send_start c =
    call_stops c.send_start.ensures _ (try_first (omega (arith, c.loop-retry-test.true)) c.loop-retry.invariant) c.in_err-send_start.was c.from_residual.ensures

pub returns-in_default : goal.returns-in_default
returns-in_default c =
    unfailed (try_waits (omega (arith, c.loop-retry-test.true)) c.loop-retry.invariant c.send_start.ensures c.in_ok-send_start.was c.busy_wait-waited.ensures) (λ e k. search rules)

pub returns-in_default-2 : goal.returns-in_default-2
returns-in_default-2 c =
    unfailed (try_waits (omega (arith, c.loop-retry-test.true)) c.loop-retry.invariant c.send_start.ensures c.in_ok-send_start.was c.busy_wait-waited.ensures) (λ e k. search rules)

pub returns-in_err-reset : goal.returns-in_err-reset
returns-in_err-reset c =
    reset_stops (omega (arith, c.loop-retry-test.true)) c.loop-retry.invariant c.send_start.ensures c.in_ok-send_start.was c.busy_wait-waited.ensures {e = c.in-Err-Failed.error} (search rules) c.reset.ensures
    c.in_err-reset.was c.from_residual-in_err-reset.ensures

pub returns-then-retry-retries : goal.returns-then-retry-retries
returns-then-retry-retries c =
    ends_failed (rewritten (again_none _ _ _ (omega (arith, c.if-retry-retries.true)))
    (try_again (omega (arith, c.loop-retry-test.true)) c.loop-retry.invariant c.send_start.ensures c.in_ok-send_start.was c.busy_wait-waited.ensures {e = c.in-Err-Failed.error} (search rules) c.reset.ensures c.in_ok-reset.was))

pub loop-retry-preserved : goal.loop-retry-preserved
loop-retry-preserved c =
    let e : c.args.bus.now.setup.start_retries - c.loop-retry.retry - 1 ≡ c.args.bus.now.setup.start_retries - (c.loop-retry.retry + 1) = omega arith in
    rw e at (rewritten (again_more _ _ _ (λ z. omega (arith, c.if-retry-retries.false, c.loop-retry-test.true)))
    (try_again (omega (arith, c.loop-retry-test.true)) c.loop-retry.invariant c.send_start.ensures c.in_ok-send_start.was c.busy_wait-waited.ensures {e = c.in-Err-Failed.error} (search rules) c.reset.ensures c.in_ok-reset.was))

pub returns : goal.returns
returns c = ends_well (rewritten (start_none _ _ (omega (arith, c.loop-retry-test.false))) c.loop-retry.invariant)
