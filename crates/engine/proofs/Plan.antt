-- What the steps of a call weigh together, where a write weighs by its code and value, and a read by its code.
-- Assumes nothing.
use Prim.Native.Nat.{ℕ, zero, suc, ◌+◌}
use native.Mathlib.Omega.{arith}
use native.Mathlib.Nat.{zero-add, suc-add}
use mathlib.Core.Bool.{Bool, true, false, cond}
use mathlib.Core.Path.{◌≡◌, refl, ◌∙◌}
use mathlib.Core.List.{List, [], ◌∷◌, ◌++◌, map, flatten}
use lib.Dec.{eqb, leb}
use Rattle.units.specs.declared.Setup.{Setup}
use Rattle.buslist.specs.declared.Address.{Address}
use Rattle.buslist.specs.Meaning.{Operation, write, read, Engine, engine_of, address_number, Call}
use Rattle.buslist.specs.Combined.{dropped, gather, joined, combined}
use Rattle.i2c.specs.declared.Previous.{Previous}
use Rattle.i2c.specs.Polling.{prepare_write, prepare_read, write_bytes, read_bytes, last_read, turn_write, turn_read, turn, transfer, direction, is_last, polling_steps}
use Rattle.blocking_write.specs.Write.{later_bytes, write_wait, write_bytes_and_wait, write_without_stop}
use Rattle.blocking.specs.Blocking.{receive_bytes, last_three, read_arm, read_steps, done_last, close_after, blocking_steps, operation_steps as blocking_operation}
use Rattle.calls.specs.Calls.{early, operations_steps, performed, steps_of}
use Rattle.registers.specs.declared.Source.{Source}
use Rattle.registers.specs.declared.BusError.{BusError}
use Rattle.std.specs.Prelude.{Option, Some, None}
use Rattle.registers.specs.declared.Awaited.{Awaited}
use Rattle.registers.specs.Word.{has, BTF, BERR, STOP, MSL, BUSY}
use Rattle.registers.specs.Access.{SR1, SR2, CR1, DR, CYC, wCR1, wCR2, wCCR, wTRISE, wSR1, wDR, flag_of, clear_word, Access, code_of}
use Rattle.registers.specs.Machine.{Step, Handler, Act, clear, access, next, check_word, after_check, poll_word, poll_error, polled_register, poll_ready, after_poll, handle, start, start_again, stop_for, since, bring_up}
use Rattle.registers.proofs.FlagOf.{check_flag, poll_flag}

-- weights of accesses, where no write of the engines weighs but a clear of a flag, and of the reads only DR's
pub record Weights (P : ℕ → ℕ → ℕ) (G : ℕ → ℕ) : Type 0 where
  pub cr1 : (v : ℕ) → P wCR1 v ≡ 0
  pub cr2 : (v : ℕ) → P wCR2 v ≡ 0
  pub ccr : (v : ℕ) → P wCCR v ≡ 0
  pub trise : (v : ℕ) → P wTRISE v ≡ 0
  pub sr1 : P wSR1 0 ≡ 0
  pub dr : (v : ℕ) → P wDR v ≡ 0
  pub get_sr1 : G SR1 ≡ 0
  pub get_sr2 : G SR2 ≡ 0
  pub get_cr1 : G CR1 ≡ 0
  pub get_cyc : G CYC ≡ 0

-- the code of the access that a step makes; 0 for none
abbrev pub code_made : Act → ℕ
code_made (Act.halt e) = 0
code_made (Act.make a) = code_of a

module _ (P : ℕ → ℕ → ℕ) (G : ℕ → ℕ) (w : Weights P G) where
  -- a step's weight
  abbrev pub weight : Step → ℕ
  weight (Step.get r) = G r
  weight (Step.fail e) = 0
  weight (Step.put r v) = P r v
  weight (Step.modify on off) = 0
  weight Step.stop_clear = 0
  weight (Step.check f n) = 0
  weight Step.check_master = 0
  weight Step.checked_master = 0
  weight (Step.check_twice f n) = 0
  weight (Step.checked_twice f n) = 0
  weight (Step.flag f) = 0
  weight Step.master = 0
  weight (Step.timed w l h) = 0
  weight (Step.poll w l h t) = 0
  weight (Step.late w l h t) = 0

  unfoldable pub total : List Step → ℕ
  total [] = 0
  total (i ∷ p) = weight i + total p

  pub total_append : (p q : List Step) → total (p ++ q) ≡ total p + total q
  unfolding total
  total_append [] q = omega arith
  total_append (i ∷ p) q = omega (arith, total_append p q)

  -- what takes a step's place weighs nothing, but for a clear
  pick_none : (t : Bool) (p q : List Step) → total p ≡ 0 → total q ≡ 0 → total (cond t p q) ≡ 0
  pick_none true p q h k = h
  pick_none false p q h k = k

  start_none : (s : Setup) (n : ℕ) → total (start s n) ≡ 0
  unfolding start total
  start_none s zero = omega arith
  start_none s (suc n) = omega arith

  again_none : (s : Setup) (n : ℕ) (e : BusError) → total (start_again s n e) ≡ 0
  unfolding start_again total
  again_none s zero e = omega arith
  again_none s (suc n) e = start_none s (suc n)

  stop_none : (e : BusError) → total (stop_for e) ≡ 0
  unfolding stop_for total
  stop_none BusError.Overrun = omega arith
  stop_none (BusError.NoAcknowledge n) = omega arith
  stop_none BusError.Timeout = omega arith
  stop_none BusError.Bus = omega arith
  stop_none BusError.Crc = omega arith
  stop_none BusError.ArbitrationLoss = omega arith

  handle_none : (s : Setup) (h : Handler) (e : BusError) → total (handle s h e) ≡ 0
  unfolding handle total
  handle_none s Handler.ends e = omega arith
  handle_none s Handler.stops e = total_append (stop_for e) (Step.fail e ∷ []) ∙ rw (stop_none e)
  handle_none s (Handler.resets n) e = omega (arith, again_none s n e)

  -- steps that take the place of one whose access had this code and value: they weigh nothing, but for the clear of a flag that an SR1 read shows
  pub data Follows (r v : ℕ) : List Step → Type 0 where
    weightless : {p : List Step} → total p ≡ 0 → Follows r v p
    clearing : {p : List Step} (e : BusError) → r ≡ SR1 → has (flag_of e) v ≡ true → total p ≡ 0 → Follows r v (clear e ∷ p)

  check_follows : (n : Source) (v : ℕ) (p : List Step) → total p ≡ 0 → Follows SR1 v (after_check (check_word n v) (has BERR v) p)
  unfolding after_check flag_of total
  check_follows n v p z = go (check_word n v) refl (has BERR v) refl
    where
      go : (f : Option BusError) → check_word n v ≡ f → (t : Bool) → has BERR v ≡ t → Follows SR1 v (after_check f t p)
      go (Some e) h t k = clearing e refl (check_flag v n e h) (omega arith)
      go None h true k = clearing BusError.Bus refl k z
      go None h false k = weightless z

  poll_follows : (s : Setup) (h : Handler) (a : Awaited) (v : ℕ) (i : Step) → weight i ≡ 0
      → Follows (polled_register a) v (after_poll s h (poll_error a v) (poll_ready a v) i)
  unfolding after_poll poll_error poll_ready total
  poll_follows s h (Awaited.Flag f n) v i z = go (poll_word n v) refl (has f v)
    where
      go : (c : Option BusError) → poll_word n v ≡ c → (t : Bool) → Follows SR1 v (after_poll s h c t i)
      go (Some e) k t = clearing e refl (poll_flag v n e k) (handle_none s h e)
      go None k t = weightless (pick_none t [] (i ∷ []) refl (omega arith))
  poll_follows s h Awaited.Stop v i z = weightless (pick_none (poll_ready Awaited.Stop v) [] (i ∷ []) refl (omega arith))

  pub next_follows : (s : Setup) (i : Step) (v : ℕ) → Follows (code_made (access i)) v (next s i v)
  unfolding next total
  next_follows s (Step.fail e) v = weightless refl
  next_follows s (Step.put r w) v = weightless refl
  next_follows s (Step.get r) v = weightless refl
  next_follows s (Step.modify on off) v = weightless (omega arith)
  next_follows s Step.stop_clear v = weightless (pick_none (has STOP v) _ _ refl refl)
  next_follows s (Step.check f n) v = check_follows n v _ (pick_none (has f v) _ _ refl refl)
  next_follows s Step.check_master v = check_follows Source.Unknown v _ refl
  next_follows s Step.checked_master v = weightless (pick_none (has MSL v) _ _ refl (pick_none (has BUSY v) _ _ refl refl))
  next_follows s (Step.check_twice f n) v = check_follows n v _ refl
  next_follows s (Step.checked_twice f n) v = weightless (pick_none (has f v) _ _ refl refl)
  next_follows s (Step.flag f) v = weightless (pick_none (has f v) _ _ refl refl)
  next_follows s Step.master v = weightless (pick_none (has MSL v) _ _ refl (pick_none (has BUSY v) _ _ refl refl))
  next_follows s (Step.timed a l h) v = weightless refl
  next_follows s (Step.poll a l h t) v = poll_follows s h a v _ refl
  next_follows s (Step.late a l h t) v = weightless (pick_none (leb l (since t v)) _ _ (handle_none s h BusError.Timeout) refl)

  -- the weight of n DR reads, of an operation, and of operations together
  unfoldable pub times : ℕ → ℕ
  times zero = 0
  times (suc n) = G DR + times n

  abbrev pub reads_in : Operation → ℕ
  reads_in (write bytes) = 0
  reads_in (read n) = times n

  unfoldable pub reads_together : List Operation → ℕ
  reads_together [] = 0
  reads_together (o ∷ os) = reads_in o + reads_together os

  -- Polling

  write_bytes_none : (bytes : List ℕ) → total (write_bytes bytes) ≡ 0
  unfolding write_bytes total
  write_bytes_none [] = omega arith
  write_bytes_none (b ∷ bytes) = omega (arith, write_bytes_none bytes)

  read_bytes_total : (n : ℕ) → total (read_bytes n) ≡ times n
  unfolding read_bytes total times
  read_bytes_total zero = omega arith
  read_bytes_total (suc n) = omega (arith, read_bytes_total n)

  prepare_write_none : (a : Address) → total (prepare_write a) ≡ 0
  unfolding total
  prepare_write_none (Address.Seven a) = omega arith
  prepare_write_none (Address.Ten a) = omega arith

  prepare_read_none : (a : Address) (again : Bool) → total (prepare_read a again) ≡ 0
  unfolding total
  prepare_read_none a true = omega arith
  prepare_read_none a false = omega arith

  turn_write_none : (a : Address) (previous : Previous) → total (turn_write a previous) ≡ 0
  unfolding turn_write total
  turn_write_none a Previous.Nothing = prepare_write_none a
  turn_write_none a Previous.Write = omega arith
  turn_write_none a Previous.Read = prepare_write_none a

  turn_read_none : (a : Address) (previous : Previous) → total (turn_read a previous) ≡ 0
  unfolding turn_read total
  turn_read_none (Address.Seven a) Previous.Nothing = prepare_read_none (Address.Seven a) false
  turn_read_none (Address.Ten a) Previous.Nothing = omega arith
  turn_read_none a Previous.Write = prepare_read_none a false
  turn_read_none a Previous.Read = omega arith

  turn_none : (early : Bool) (a : Address) (previous : Previous) (o : Operation) → total (turn early a previous o) ≡ 0
  unfolding turn total
  turn_none early a previous (write bytes) = turn_write_none a previous
  turn_none true a previous (read zero) = omega arith
  turn_none true a previous (read (suc n)) = turn_read_none a previous
  turn_none false a previous (read n) = turn_read_none a previous

  transfer_total : (last : Bool) (o : Operation) → total (transfer last o) ≡ reads_in o
  unfolding transfer last_read total times
  transfer_total false (write bytes) = write_bytes_none bytes
  transfer_total false (read n) = read_bytes_total n
  transfer_total true (write bytes) = total_append (write_bytes bytes) _ ∙ rw (write_bytes_none bytes)
  transfer_total true (read zero) = omega arith
  transfer_total true (read (suc n)) = total_append (read_bytes n) _ ∙ rw (read_bytes_total n) (omega arith)

  polling_total : (early : Bool) (a : Address) (previous : Previous) (os : List Operation) → total (polling_steps early a previous os) ≡ reads_together os
  unfolding polling_steps reads_together total
  polling_total early a previous [] = omega arith
  polling_total early a previous (o ∷ os) =
      omega (
        arith,
        total_append (turn early a previous o ++ transfer (is_last os) o) (polling_steps early a (direction o) os),
        total_append (turn early a previous o) (transfer (is_last os) o),
        turn_none early a previous o,
        transfer_total (is_last os) o,
        polling_total early a (direction o) os,
      )

  -- Blocking

  later_bytes_none : (s : Setup) (bytes : List ℕ) → total (later_bytes s bytes) ≡ 0
  unfolding later_bytes total
  later_bytes_none s [] = omega arith
  later_bytes_none s (b ∷ bytes) = omega (arith, later_bytes_none s bytes)

  receive_bytes_total : (s : Setup) (n : ℕ) → total (receive_bytes s n) ≡ times n
  unfolding receive_bytes total times
  receive_bytes_total s zero = omega arith
  receive_bytes_total s (suc n) = omega (arith, receive_bytes_total s n)

  write_total : (s : Setup) (a : ℕ) (bytes : List ℕ) → total (write_without_stop s a bytes) ≡ 0
  unfolding write_without_stop write_bytes_and_wait total
  write_total s a [] = omega arith
  write_total s a (b ∷ bytes) =
      total_append (start s s.start_retries) _
      ∙ omega (arith, start_none s s.start_retries, total_append (later_bytes s bytes) (write_wait s BTF ∷ []), later_bytes_none s bytes)

  arm_total : (s : Setup) (n : ℕ) → total (read_arm s n) ≡ times n
  unfolding read_arm total times
  arm_total s zero = omega arith
  arm_total s (suc zero) = omega arith
  arm_total s (suc (suc zero)) = omega arith
  arm_total s (suc (suc (suc n))) = omega (arith, total_append (receive_bytes s n) (last_three s), receive_bytes_total s n)

  read_total : (s : Setup) (a n : ℕ) → total (read_steps s a n) ≡ times n
  unfolding read_steps total times
  read_total s a zero = omega arith
  read_total s a (suc n) = total_append (start s s.start_retries) _ ∙ omega (arith, start_none s s.start_retries, arm_total s (suc n))

  close_none : (s : Setup) (previous : Previous) → total (close_after s previous) ≡ 0
  unfolding close_after total
  close_none s Previous.Nothing = omega arith
  close_none s Previous.Write = omega arith
  close_none s Previous.Read = omega arith

  blocking_operation_total : (s : Setup) (a : ℕ) (o : Operation) → total (blocking_operation s a o) ≡ reads_in o
  blocking_operation_total s a (write bytes) = write_total s a bytes
  blocking_operation_total s a (read n) = read_total s a n

  blocking_total : (s : Setup) (a : ℕ) (previous : Previous) (os : List Operation) → total (blocking_steps s a previous os) ≡ reads_together os
  unfolding blocking_steps reads_together
  blocking_total s a previous [] = close_none s previous
  blocking_total s a previous (o ∷ os) =
      omega (
        arith,
        total_append (blocking_operation s a o) (blocking_steps s a (done_last previous o) os),
        blocking_operation_total s a o,
        blocking_total s a (done_last previous o) os,
      )

  -- Kind 7

  times_add : (m n : ℕ) → times (m + n) ≡ times m + times n
  unfolding times
  times_add zero n = rw zero-add (omega arith)
  times_add (suc m) n = rw suc-add (omega (arith, times_add m n))

  -- empty operations receive nothing, and joined ones what their parts do
  dropped-reads : (os : List Operation) → reads_together (dropped os) ≡ reads_together os
  unfolding dropped reads_together times
  dropped-reads [] = refl
  dropped-reads (write [] ∷ os) = omega (arith, dropped-reads os)
  dropped-reads (write (b ∷ bs) ∷ os) = omega (arith, dropped-reads os)
  dropped-reads (read zero ∷ os) = omega (arith, dropped-reads os)
  dropped-reads (read (suc n) ∷ os) = omega (arith, dropped-reads os)

  gather-reads : (o : Operation) (os : List Operation) → reads_together (gather o os) ≡ reads_in o + reads_together os
  unfolding gather reads_together
  gather-reads o [] = refl
  gather-reads (write bs) (write cs ∷ os) = omega (arith, gather-reads (write (bs ++ cs)) os)
  gather-reads (write bs) (read n ∷ os) = omega (arith, gather-reads (read n) os)
  gather-reads (read m) (write cs ∷ os) = omega (arith, gather-reads (write cs) os)
  gather-reads (read m) (read n ∷ os) = omega (arith, gather-reads (read (m + n)) os, times_add m n)

  joined-reads : (os : List Operation) → reads_together (joined os) ≡ reads_together os
  unfolding joined reads_together
  joined-reads [] = refl
  joined-reads (o ∷ os) = gather-reads o os

  performed-reads : (kind : ℕ) (os : List Operation) → reads_together (performed kind os) ≡ reads_together os
  unfolding performed
  performed-reads kind os = go (eqb kind 7)
    where
      go : (t : Bool) → reads_together (cond t (combined os) os) ≡ reads_together os
      go true = joined-reads (dropped os) ∙ dropped-reads os
      go false = refl

  -- operations plan what they are to receive, in both engines
  operations_total : (s : Setup) (e : Engine) (early : Bool) (a : Address) (os : List Operation) → total (operations_steps s e early a Previous.Nothing os) ≡ reads_together os
  unfolding operations_steps
  operations_total s Engine.polling early a os = polling_total early a Previous.Nothing os
  operations_total s Engine.blocking early a os = blocking_total s (address_number a) Previous.Nothing os

  -- a call plans what its operations are to receive
  pub steps_total : (s : Setup) (c : Call) → total (steps_of s c) ≡ reads_together c.operations
  unfolding steps_of
  steps_total s c =
      operations_total s (engine_of c.kind) (early c.kind) c.address (performed c.kind c.operations) ∙ performed-reads c.kind c.operations

  -- the weight of the access that a step makes
  abbrev pub access_weight : Act → ℕ
  access_weight (Act.halt e) = 0
  access_weight (Act.make (Access.read r)) = G r
  access_weight (Act.make (Access.write r v)) = P r v

  pub access_total : (i : Step) → access_weight (access i) ≡ weight i
  access_total (Step.fail e) = omega arith
  access_total (Step.put r v) = omega arith
  access_total (Step.get r) = omega arith
  access_total (Step.modify on off) = omega arith
  access_total Step.stop_clear = omega arith
  access_total (Step.check f n) = omega arith
  access_total Step.check_master = omega arith
  access_total Step.checked_master = omega arith
  access_total (Step.check_twice f n) = omega arith
  access_total (Step.checked_twice f n) = omega arith
  access_total (Step.flag f) = omega arith
  access_total Step.master = omega arith
  access_total (Step.timed a l h) = omega arith
  access_total (Step.poll (Awaited.Flag f n) l h t) = omega arith
  access_total (Step.poll Awaited.Stop l h t) = omega arith
  access_total (Step.late a l h t) = omega arith

  -- where clears weigh nothing, what takes a step's place weighs nothing
  abbrev pub ClearsWeighNothing : Type 0
  ClearsWeighNothing = (e : BusError) → P wSR1 (clear_word e) ≡ 0

  follows_none : {r v : ℕ} {p : List Step} → ClearsWeighNothing → Follows r v p → total p ≡ 0
  unfolding total
  follows_none c (weightless z) = z
  follows_none c (clearing e r h z) = omega (arith, c e, z)

  -- what is left to do after an access, with the access
  pub after-access : ClearsWeighNothing → (s : Setup) (i : Step) (p : List Step) (v : ℕ) → access_weight (access i) + total (next s i v ++ p) ≡ total (i ∷ p)
  unfolding total
  after-access c s i p v = omega (arith, access_total i, total_append (next s i v) p, follows_none c (next_follows s i v))

  pub bring_up_none : (s : Setup) → total (bring_up s) ≡ 0
  unfolding total
  bring_up_none s = omega arith

  -- where a DR read weighs nothing, no call as it is planned weighs anything: no clear is planned
  times_none : G DR ≡ 0 → (n : ℕ) → times n ≡ 0
  unfolding times
  times_none d zero = refl
  times_none d (suc n) = omega (arith, d, times_none d n)

  operations_none : G DR ≡ 0 → (os : List Operation) → reads_together os ≡ 0
  unfolding reads_together
  operations_none d [] = refl
  operations_none d (write bytes ∷ os) = omega (arith, operations_none d os)
  operations_none d (read n ∷ os) = omega (arith, times_none d n, operations_none d os)

  pub calls_none : G DR ≡ 0 → (s : Setup) (cs : List Call) → total (flatten (map (steps_of s) cs)) ≡ 0
  unfolding flatten total
  calls_none d s [] = refl
  calls_none d s (c ∷ cs) =
      total_append (steps_of s c) (flatten (map (steps_of s) cs)) ∙ omega (arith, steps_total s c, operations_none d c.operations, calls_none d s cs)
