-- Document 01's proved examples, in one table over the meanings; of P9 also the words written, by document 02.
use Rattle.std.specs.Prelude.{ℕ, ◌≡◌, Bool}
use mathlib.Core.List.{List, [], ◌∷◌, flat_map, flatten}
use Rattle.buslist.specs.declared.Address.{Address}
use Rattle.buslist.specs.Bytes.{half, word}
use Rattle.buslist.specs.Table.{settings_of, call_at, operation_at, entries}
use Rattle.buslist.specs.Form.{header_right, written, operation_right, operations_right, has_directions, kind_right, call_right, calls_right, of_the_form}
use Rattle.buslist.specs.Refusal.{any, over_limit, timeout_out, received, all_received, causes, first_cause, refusal}
use Rattle.units.specs.declared.Mode.TheVariants.{Standard}
use Rattle.units.specs.declared.Settings.{Settings}
use Rattle.units.specs.declared.Setup.{Setup}
use Rattle.units.specs.Setup.{setup_of}
use Rattle.buslist.specs.Meaning.{Operation, write, engine_of, Call, operation_of, address_of}
use Rattle.buslist.specs.Combined.{dropped, gather, joined, read_then_write}
use Rattle.buslist.specs.Encode.{half_bytes, word_bytes, header, call_entries, call_bytes, operation_entries, operation_bytes, encode}
use Rattle.registers.specs.declared.Source.{Source}
use Rattle.registers.specs.declared.BusError.{BusError}
use Rattle.std.specs.Prelude.{Some}
use Rattle.registers.specs.declared.Awaited.{Awaited}
use Rattle.registers.specs.Word.{has, with_bit, without_bit, BERR}
use Rattle.registers.specs.Access.{wSR1, cut, flag_of, clear_word, record_of, reads, received_of, number}
use Rattle.registers.specs.Machine.{Step, Handler, check_word, after_check, poll_word, after_poll, next, handle, exec, exec_on, exec_full, perform, no_room, after_call, after_bring_up, flat, whole_run, run as machine_run}
use Rattle.i2c.specs.Polling.{write_bytes, last_read, turn, turn_write, turn_read, transfer, polling_steps}
use Rattle.calls.specs.Calls.{early, operations_steps, performed, steps_of}
use Rattle.engine.specs.Run.{Result, run, result, accepted_run, counts_of}
use Rattle.demands.specs.Compare.{reduced}
use Rattle.engine.specs.Speed.{speed_cr2, speed_trise, speed_ccr}

-- settings at 36 MHz, Standard: sysclk, frequency, start timeout, start retries, address timeout, data timeout
abbrev pub settings : ℕ → ℕ → ℕ → ℕ → ℕ → ℕ → Settings
settings sysclk frequency start retries address «data» =
    record {
      pclk1 = record { 0 = 36000000 };
      sysclk = record { 0 = sysclk };
      mode = Standard;
      frequency = record { 0 = frequency };
      start_timeout = record { 0 = start };
      start_retries = retries;
      addr_timeout = record { 0 = address };
      data_timeout = record { 0 = «data» };
    }

-- a call of these operations to 50 hex
abbrev pub call_to : ℕ → List Operation → Call
call_to kind os = record { kind = kind; address = Address.Seven 0x50; operations = os }

-- the list of a polling write of 2A to 50 hex with these settings
pub write_list : Settings → List ℕ
write_list s = encode s (call_to 0 (write (0x2a ∷ []) ∷ []) ∷ [])

-- the same with this frequency and other settings 0
pub at_frequency : ℕ → List ℕ
at_frequency frequency = write_list (settings 0 frequency 0 0 0 0)

-- the same with sysclk 72 MHz and these timeouts
pub with_timeouts : ℕ → ℕ → ℕ → List ℕ
with_timeouts start address «data» = write_list (settings 72000000 100000 start 0 address «data»)

-- the record words of the run that document 01 prints: code and value of each access
unfoldable pub printed : List ℕ
printed =
    12 ∷ 0x24 ∷ 14 ∷ 0x25 ∷ 13 ∷ 0xb4 ∷ 3 ∷ 0 ∷ 11 ∷ 1 ∷ 3 ∷ 1 ∷ 15 ∷ 0 ∷ 3 ∷ 1 ∷ 11 ∷ 0x101 ∷ 1 ∷ 1 ∷ 1 ∷ 1 ∷ 2 ∷ 3 ∷ 16 ∷ 0xa0
    ∷ 1 ∷ 2 ∷ 2 ∷ 7 ∷ 1 ∷ 0x80 ∷ 16 ∷ 0x2a ∷ 1 ∷ 0x84 ∷ 3 ∷ 1 ∷ 11 ∷ 0x201 ∷ 3 ∷ 1 ∷ []

-- its run: 36 MHz, Standard 100,000, other settings 0, with these readings and the buffers of `busrun`
unfoldable pub first_run : Result
first_run = run (at_frequency 100000) (0 ∷ 1 ∷ 1 ∷ 1 ∷ 1 ∷ 3 ∷ 2 ∷ 7 ∷ 0x80 ∷ 0x84 ∷ 1 ∷ 1 ∷ []) 4096 16000

pub record Table : Type 0 where
  -- the run printed in document 01: record, received bytes, and all five numbers
  pub p1_record : record_of (flat first_run.log) ≡ printed
  pub p1_received : received_of (flat first_run.log) ≡ []
  pub p1_counts : counts_of first_run ≡ record { answer = 0; calls = 1; used = 12; made = 21; got = 0 }
  -- 2:1, 36 MHz, 400,000: CCR 801E hex, TRISE 11
  pub p2 : (speed_ccr 36000000 1 400000 ≡ 0x801e) × (speed_trise 36000000 1 400000 ≡ 11)
  -- 16:9: C003 hex
  pub p3 : speed_ccr 36000000 2 400000 ≡ 0xc003
  -- Standard, 2 MHz, 400,000: CCR 4
  pub p4 : speed_ccr 2000000 0 400000 ≡ 4
  -- 64 MHz, Standard 100,000: CR2 0, TRISE 1
  pub p5 : (speed_cr2 64000000 0 100000 ≡ 0) × (speed_trise 64000000 0 100000 ≡ 1)
  -- frequency 400,001 refused
  pub p6 : refusal (at_frequency 400001) 0 ≡ 22
  -- at 72 MHz 59,652,323 µs passes, one more is refused: each timeout
  pub p7 : refusal (with_timeouts 59652323 59652323 59652323) 0 ≡ 0
  pub p7_start : refusal (with_timeouts 59652324 59652323 59652323) 0 ≡ 23
  pub p7_address : refusal (with_timeouts 59652323 59652324 59652323) 0 ≡ 23
  pub p7_data : refusal (with_timeouts 59652323 59652323 59652324) 0 ≡ 23
  -- start 4,294,967,290, now 4: limit 10 out, 11 not: every timed wait, whatever it does with an error
  pub p8_out : (s : Setup) (w : Awaited) (h : Handler) → next s (Step.late w 10 h 4294967290) 4 ≡ handle s h BusError.Timeout
  pub p8_in : (s : Setup) (w : Awaited) (h : Handler) → next s (Step.late w 11 h 4294967290) 4 ≡ Step.poll w 11 h 4294967290 ∷ []
  -- SR1 0C00 hex: polling Overrun, blocking NoAcknowledge; and the words written, D700 and DB00 (document 02, C-15)
  pub p9_polling : (n : Source) → check_word n 0x0c00 ≡ Some BusError.Overrun
  pub p9_blocking : (n : Source) → poll_word n 0x0c00 ≡ Some (BusError.NoAcknowledge n)
  pub p9_polling_writes : (n : Source) (p : List Step) → after_check (check_word n 0x0c00) (has BERR 0x0c00) p ≡ Step.put wSR1 0xd700 ∷ Step.fail BusError.Overrun ∷ []
  pub p9_blocking_writes : (s : Setup) (h : Handler) (n : Source) (ready : Bool) (later : Step)
      → after_poll s h (poll_word n 0x0c00) ready later ≡ Step.put wSR1 0xdb00 ∷ handle s h (BusError.NoAcknowledge n)
  -- writes 1 and 2 reduce as one write of both
  pub p10 : reduced (call_to 3 (write (1 ∷ []) ∷ write (2 ∷ []) ∷ [])) ≡ reduced (call_to 0 (write (1 ∷ 2 ∷ []) ∷ []))

-- names all that `refusal` of a written list computes by, so that `unfolding computed` opens it
unfoldable pub computed : List ℕ → ℕ → ℕ
unfolding refusal causes first_cause over_limit timeout_out any received all_received dropped gather joined read_then_write engine_of operation_of of_the_form header_right written operation_right operations_right has_directions kind_right call_right calls_right settings_of call_at operation_at entries half word at_frequency with_timeouts write_list encode header call_entries call_bytes operation_entries operation_bytes word_bytes half_bytes flat_map
computed l rx = refusal l rx

-- names all that a polling run computes by
unfoldable pub ran : List ℕ → List ℕ → ℕ → ℕ → Result
unfolding run result accepted_run counts_of setup_of steps_of operations_steps performed engine_of early operation_of address_of has with_bit without_bit cut flag_of clear_word record_of reads received_of number check_word after_check next exec exec_on exec_full perform no_room after_call after_bring_up machine_run whole_run flatten handle write_bytes last_read turn turn_write turn_read transfer polling_steps
ran l rs rx words = run l rs rx words
