-- Demands 1 and 3 of what the code itself gives: by its contract.
-- Assumes nothing.
use Prim.Native.Nat.{ℕ}
use mathlib.Core.Path.{◌≡◌, sym, ◌∙◌}
use mathlib.Core.List.{List, flatten}
use lib.ListN.{length}
use lib.Seq.{take_at, take-append_seam}
use Rattle.registers.specs.Access.{record_of, received_of, reads}
use Rattle.registers.specs.Machine.{flat}
use Rattle.engine.specs.Run.{Result, run, counts_of, filled, HostRunsTo}
use Rattle.demands.specs.Compare.{SameRun}
use Rattle.demands.specs.Corollaries.{RunOf, counts_in, words_made, bytes_got, Results1, Results3}
use Rattle.engine.proofs.RunLaws.{record_length}
use Rattle.engine.proofs.Result.{refused_is}
use Rattle.demands.proofs.Demand1.{demand_1}
use Rattle.demands.proofs.Demand3.{demand_3}

-- the meaning of a run by the code
abbrev meant : {list : List ℕ} → RunOf list → Result
meant {list} r = run list r.readings (length r.rx) (length r.lg)

module _ {list : List ℕ} (r : RunOf list) where
  -- what stands in the buffers is the record and the received bytes of the meaning
  words_are : words_made r ≡ record_of (flat (meant r).log)
  unfolding counts_of filled
  words_are = rw (r.runs.counts, r.runs.recorded) (take_at _ _ _ (record_length (flat (meant r).log)))

  bytes_are : bytes_got r ≡ received_of (flat (meant r).log)
  unfolding counts_of filled
  bytes_are = rw (r.runs.counts, r.runs.received) (take-append_seam _ _)

  pub results_1 : Results1 r
  unfolding counts_of filled flatten record_of received_of reads
  results_1 =
      let d = demand_1 list r.readings (length r.rx) (length r.lg) in
      let c = r.runs.counts in
      record {
        answer = rw c d.answer;
        accepted = λ ok. rw c (d.accepted ok);
        refused = λ h.
            let e = refused_is list r.readings (length r.rx) (length r.lg) h in
            (c ∙ rw e, r.runs.received ∙ rw e, r.runs.recorded ∙ rw e);
        well = λ z. rw c (d.well (rw c at z));
        no_reading = λ z. rw c (d.no_reading (rw c at z)).all_used;
        no_record = λ z. rw c (d.no_record (rw c at z)).full;
      }

module _ {l m : List ℕ} (r : RunOf l) (q : RunOf m) where
  pub results_3 : Results3 r q
  unfolding counts_of
  results_3 =
      let c = r.runs.counts in
      let d = q.runs.counts in
      record {
        told_apart = λ k z z' same.
            demand_3.told_apart l m k.comparable _ _ _ _ _ _ k.accepted k.accepted' (rw c at z) (rw d at z') (sym (words_are r) ∙ same ∙ words_are q);
        same_run = λ k same full full' e f g.
            let s : SameRun (meant r) (meant q)
            = rw (e, f, g) (demand_3.same_run l m k.comparable same full full' _ _ _ (rw f at k.accepted) k.accepted') in
            record {
              counts = c ∙ s.counts ∙ sym d;
              words = words_are r ∙ s.record_words ∙ sym (words_are q);
              bytes = bytes_are r ∙ s.received_bytes ∙ sym (bytes_are q);
            };
      }

-- a host's run is one with the counts that stand in its array
abbrev pub of_host : {list readings rx lg rx' lg' array : List ℕ} → HostRunsTo list readings rx lg rx' lg' array → RunOf list
of_host {readings} {rx} {lg} {rx'} {lg'} {array} h =
    record { readings = readings; rx = rx; lg = lg; rx' = rx'; lg' = lg'; counts = counts_in array; runs = rw h.told h.runs }

pub host_results_1 : {list readings rx lg rx' lg' array : List ℕ} (h : HostRunsTo list readings rx lg rx' lg' array) → Results1 (of_host h)
host_results_1 h = results_1 (of_host h)

pub host_results_3 : {l m readings rx lg rx' lg' array readings₂ rx₂ lg₂ rx₂' lg₂' array₂ : List ℕ}
    (h : HostRunsTo l readings rx lg rx' lg' array) (k : HostRunsTo m readings₂ rx₂ lg₂ rx₂' lg₂' array₂) → Results3 (of_host h) (of_host k)
host_results_3 h k = results_3 (of_host h) (of_host k)
