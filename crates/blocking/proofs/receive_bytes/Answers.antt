use Prim.Native.Nat.{ℕ, ◌+◌, ◌-◌, ◌<◌, ◌≤◌}
use mathlib.Core.List.{List, [], ◌++◌}
use Rattle.registers.specs.declared.access.Bus.{Bus}
use Rattle.registers.specs.Machine.{Step}
use Rattle.registers.specs.Contract.{Reaches}
use Rattle.registers.proofs.Steps.{at_setup, reaches_at_setup, reaches_then, call_step, call_stops, ends_well, rewritten, keeps_fewer}
use Rattle.blocking.specs.Blocking.{receive, receive_bytes}
use Rattle.blocking.proofs.Bytes.{next-byte, no_byte}
use Rattle.blocking.proofs.receive_bytes.Goals as goal

-- the bytes that were ready, and then others
module _ {q : List Step} {b b₁ : Bus} (n m i : ℕ) (g : Reaches q b (receive_bytes b.setup (n - m)) b₁) {b₂ : Bus}
    (x : Reaches (receive_bytes b₁.setup (n - m)) b₁ (receive_bytes b₁.setup (n - i)) b₂) where
  left : Reaches q b (receive_bytes b.setup (n - i)) b₂
  left = reaches_then g (reaches_at_setup g.same (λ s. receive_bytes s (n - m)) (λ s. receive_bytes s (n - i)) x)

  at_byte : i < n → Reaches q b (receive b.setup ++ receive_bytes b.setup (n - (i + 1))) b₂
  at_byte h = rewritten (next-byte _ n i h) left

  all_received : n ≤ i → Reaches q b [] b₂
  all_received h = rewritten (no_byte _ n i h) left

pub returns-in_err-receive : goal.returns-in_err-receive
returns-in_err-receive c =
    let next = at_byte _ _ _ c.receive_ready-ready.ensures.bytes.1 c.loop.invariant.reaches c.loop-test.true in
    call_stops (at_setup next.same receive c.receive.ensures) _ next c.in_err-receive.was c.from_residual.ensures

pub loop-preserved : goal.loop-preserved
loop-preserved c =
    let i = c.loop.invariant.reaches in
    record {
      reaches = call_step (at_setup i.same receive c.receive.ensures) _ (rewritten (next-byte _ _ _ c.loop-test.true) i) c.in_ok-receive.was;
      fewer = keeps_fewer c.receive.ensures c.loop.invariant.fewer;
    }

pub returns : goal.returns
returns c = ends_well (all_received _ _ _ c.receive_ready-ready.ensures.bytes.1 c.loop.invariant.reaches c.loop-test.false)
