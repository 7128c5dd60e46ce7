-- A run receives no more bytes than its calls read.
-- Assumes nothing.
use Prim.Native.Nat.{ℕ, zero, suc, ◌+◌, ◌≤◌}
use native.Mathlib.Omega.{arith}
use mathlib.Core.Bool.{Bool, true, false, cond}
use mathlib.Core.Path.{◌≡◌, refl, ◌∙◌}
use mathlib.Core.List.{List, [], ◌∷◌, map, flatten}
use mathlib.Core.Logic.{◌⊎◌, ⊎_elim}
use lib.ListN.{length, length-append}
use Rattle.units.specs.declared.Setup.{Setup}
use Rattle.buslist.specs.declared.OperationEntry.{OperationEntry}
use Rattle.buslist.specs.Table.{call_count, operation_count, call_at, operation_at, entries}
use Rattle.buslist.specs.Refusal.{refusal, received, all_received}
use Rattle.buslist.specs.Meaning.{operation_of, call_of, calls_of}
use Rattle.buslist.proofs.Accept.{calls-received, calls-room, call_within, operation_direction, operation_write, operation_read}
use Rattle.registers.specs.declared.Entry.{Entry}
use Rattle.registers.specs.Access.{Ending, is_data, received_of, cut, low_byte}
use Rattle.registers.specs.Machine.{Step, bring_up, flat, whole_run}
use Rattle.calls.specs.Calls.{steps_of}
use Rattle.engine.proofs.Plan.{Weights, total, total_append, after-access, bring_up_none, times, reads_in, reads_together, steps_total}
use Rattle.engine.proofs.Goes.{Goes, done, halted, full, lacks, wrote, took, whole_goes}

-- an access with DR's read code weighs 1
abbrev pub G : ℕ → ℕ
G code = cond (is_data code) 1 0

abbrev pub P : ℕ → ℕ → ℕ
P code value = G code

abbrev pub data_weights : Weights P G
data_weights = record { cr1 = λ v. refl; cr2 = λ v. refl; ccr = λ v. refl; trise = λ v. refl; sr1 = refl; dr = λ v. refl; get_sr1 = refl; get_sr2 = refl; get_cr1 = refl; get_cyc = refl }

-- the DR reads that steps plan
abbrev planned : List Step → ℕ
planned p = total P G data_weights p

times_is : (n : ℕ) → times P G data_weights n ≡ n
unfolding times
times_is zero = refl
times_is (suc n) = omega (arith, times_is n)

received-entry : (e : Entry) (es : List Entry) → length (received_of (e ∷ es)) ≡ cond (is_data e.code) 1 0 + length (received_of es)
unfolding received_of
received-entry e es = length-append (cond (is_data e.code) (low_byte e.value ∷ []) []) (received_of es) ∙ go (is_data e.code)
  where
    go : (t : Bool) → length (cond t (low_byte e.value ∷ []) []) + length (received_of es) ≡ cond t 1 0 + length (received_of es)
    go true = refl
    go false = refl

-- steps receive no more than they plan
goes_received : {s : Setup} {p : List Step} {n : ℕ} {rs : List ℕ} {l : List Entry} {e : Ending} → Goes s p n rs l e → length (received_of l) ≤ planned p
unfolding received_of
goes_received done = omega arith
goes_received (halted e a) = omega arith
goes_received (full a k) = omega arith
goes_received (lacks r a t) = omega arith
goes_received {s} (wrote {i} {p} {l} r v a t g) =
    omega (arith, received-entry (record { code = r; value = v }) l, goes_received g, rw a at (after-access P G data_weights (λ e. refl) s i p v))
goes_received {s} (took {i} {p} {l} r w a t g) =
    omega (arith, received-entry (record { code = r; value = cut r w }) l, goes_received g, rw a at (after-access P G data_weights (λ e. refl) s i p (cut r w)))

-- Accepted lists

module _ (l : List ℕ) (rx : ℕ) (ok : refusal l rx ≡ 0) where
  entry-reads : (o : OperationEntry) → (o.direction ≡ 0) ⊎ (o.direction ≡ 1) → reads_in P G data_weights (operation_of l o) ≡ received o
  unfolding received
  entry-reads o d =
      ⊎_elim (λ (e : o.direction ≡ 0). rw (operation_write l o e, e)) (λ (e : o.direction ≡ 1). rw (operation_read l o e, e, times_is)) d

  entries-reads : (j n : ℕ) → j + n ≤ operation_count l
      → reads_together P G data_weights (map (operation_of l) (entries (operation_at l) j n)) ≡ all_received (entries (operation_at l) j n)
  unfolding entries reads_together all_received
  entries-reads j zero h = refl
  entries-reads j (suc n) h =
      omega (arith, entry-reads (operation_at l j) (operation_direction l rx ok j (omega arith)), entries-reads (j + 1) n (omega arith))

  calls_planned : (s : Setup) (k n : ℕ) → k + n ≤ call_count l
      → planned (flatten (map (steps_of s) (map (call_of l) (entries (call_at l) k n)))) ≡ calls-received l (entries (call_at l) k n)
  unfolding entries flatten total calls-received
  calls_planned s k zero h = refl
  calls_planned s k (suc n) h =
      total_append P G data_weights (steps_of s (call_of l (call_at l k))) _
      ∙ omega (
        arith,
        steps_total P G data_weights s (call_of l (call_at l k)),
        entries-reads (call_at l k).first (call_at l k).count (call_within l rx ok k (omega arith)),
        calls_planned s (k + 1) n (omega arith),
      )

  -- the received buffer has room for all that a run receives
  pub received-fits : (s : Setup) (room : ℕ) (rs : List ℕ)
      → length (received_of (flat (whole_run s (map (steps_of s) (calls_of l)) room rs).log)) ≤ rx
  received-fits s room rs =
      omega (
        arith,
        goes_received (whole_goes s (calls_of l) room rs),
        total_append P G data_weights (bring_up s) (flatten (map (steps_of s) (calls_of l))),
        bring_up_none P G data_weights s,
        calls_planned s 0 (call_count l) (omega arith),
        calls-room l rx ok,
      )
