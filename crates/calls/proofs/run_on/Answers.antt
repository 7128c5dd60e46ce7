-- The labelled loops: after k calls the calls from k on are left, and within a call its operations from j on.
use Prim.Native.Nat.{◌<◌}
use native.Mathlib.Omega.{arith}
use mathlib.Core.Path.{refl, ◌∙◌}
use mathlib.Core.List.{map}
use Rattle.std.proofs.Common.{rules}
use Rattle.buslist.specs.Table.{call_count}
use Rattle.buslist.proofs.Accept.{call_within}
use Rattle.registers.proofs.Steps.{here, same_bus, same_then, starts_fewer, keeps_fewer}
use Rattle.calls.proofs.CallLaws.{calls-start, call_stops_run, next_call, calls_end, next_operation, operation_stops, end_of_call, calls_all, calls-next, calls_none, left_rewritten, Stops, ends_calls}
use Rattle.buslist.specs.Meaning.{calls_of}
use Rattle.calls.specs.Calls.{steps_of}
use Rattle.calls.proofs.run_on.Goals as goal
use Rattle.calls.proofs.run_on.Goals.{else-calls-test, then-calls-test+then-loop-j-test+in_default, then-calls-test+else-loop-j-test+in_default-outcome}

pub calls-init : goal.calls-init
calls-init c =
    record {
      same = same_bus;
      fewer = starts_fewer c.from_parts-bus.ensures c.requires.1;
      done = refl;
      well = refl;
      left = left_rewritten (calls_all _ _ _ c.call_count-count.ensures) calls-start;
    }

pub loop-j-init : goal.loop-j-init
loop-j-init c = record { reaches = here; fewer = c.calls.invariant.fewer }

pub operation_from-joined-requires : goal.operation_from-joined-requires
operation_from-joined-requires c =
    let h : c.calls.k < call_count c.args.list.now = omega (arith, c.calls-test.true, c.call_count-count.ensures) in (
      c.loop-j-test.true,
      rw c.call_at-call.ensures (call_within _ _ c.requires.0.1 _ h),
      c.requires.0,
    )

pub loop-j-smaller : goal.loop-j-smaller
loop-j-smaller c = omega (arith, c.operation_from-joined.ensures.some, c.operation_from-joined.ensures.most)

pub loop-j-preserved : goal.loop-j-preserved
loop-j-preserved c =
    record {
      reaches =
          rw c.moved-previous.ensures
          (next_operation _ _ _ c.loop-j.invariant.reaches (c.loop-j.invariant.reaches.same.setup ∙ c.calls.invariant.same.setup ∙ c.from_parts-bus.ensures.with_setup)
          c.operation_from-joined.ensures c.operation-outcome.ensures c.in-Ok.is);
      fewer = keeps_fewer c.operation-outcome.ensures c.loop-j.invariant.fewer;
    }

pub calls-preserved : goal.calls-preserved
calls-preserved c =
    let e = c.calls.invariant.same.setup ∙ c.from_parts-bus.ensures.with_setup in
    let done = end_of_call _ _ _ c.loop-j.invariant.reaches (c.loop-j.invariant.reaches.same.setup ∙ e) c.loop-j-test.false c.end_call-outcome.ensures in
    record {
      same = same_then c.calls.invariant.same done.same;
      fewer = keeps_fewer c.end_call-outcome.ensures c.loop-j.invariant.fewer;
      done = refl;
      well = c.in-Ok-outcome.is;
      left = next_call (left_rewritten (calls-next _ _ _ _ _ c.calls-test.true c.call_at-call.ensures refl) c.calls.invariant.left) e done c.in-Ok-outcome.is;
    }

pub returns : goal.returns
returns c =
    let e = c.calls.invariant.same.setup ∙ c.from_parts-bus.ensures.with_setup in
    let s = c.args.setup in
    let stops : Stops s (map (steps_of s) (calls_of c.args.list.now)) c.from_parts-bus.result c.calls-test.bus c.calls.calls c.calls-test.outcome =
    elim c.calls-test.branch [
      | else-calls-test w ↦ rw (w.bus-is, w.outcome-is, c.calls.invariant.well, c.calls.invariant.done)
          (record {
            same = c.calls.invariant.same;
            ends = calls_end (left_rewritten (calls_none _ _ _ _ w.calls-test.false) c.calls.invariant.left);
          })
      | then-calls-test+then-loop-j-test+in_default w ↦ rw (w.bus-is, w.outcome-is, c.calls.invariant.done)
          (let done = operation_stops _ _ _ w.loop-j.invariant.reaches (w.loop-j.invariant.reaches.same.setup ∙ e) w.operation_from-joined.ensures w.operation-outcome.ensures w.in_default.not-Ok in
          record {
            same = same_then c.calls.invariant.same done.same;
            ends = call_stops_run (left_rewritten (calls-next _ _ _ _ _ w.calls-test.true w.call_at-call.ensures refl) c.calls.invariant.left) e done w.in_default.not-Ok;
          })
      | then-calls-test+else-loop-j-test+in_default-outcome w ↦ rw (w.bus-is, w.outcome-is, c.calls.invariant.done)
          (let done = end_of_call _ _ _ w.loop-j.invariant.reaches (w.loop-j.invariant.reaches.same.setup ∙ e) w.loop-j-test.false w.end_call-outcome.ensures in
          record {
            same = same_then c.calls.invariant.same done.same;
            ends = call_stops_run (left_rewritten (calls-next _ _ _ _ _ w.calls-test.true w.call_at-call.ensures refl) c.calls.invariant.left) e done w.in_default-outcome.not-Ok;
          })
    ]
    in
    ends_calls _ c.from_parts-bus.ensures stops (let log = stops.same.log in search rules) (let rx = stops.same.rx in search rules)
