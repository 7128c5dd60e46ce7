-- Document 01's proved examples hold.
-- Assumes nothing.
use Rattle.std.specs.Prelude.{refl}
use Rattle.registers.specs.Word.{has, without_bit}
use Rattle.registers.specs.Access.{flag_of, clear_word}
use Rattle.registers.specs.Machine.{since, check_word, after_check, poll_word, after_poll}
use Rattle.buslist.specs.Meaning.{engine_of}
use Rattle.buslist.specs.Combined.{gather, joined}
use Rattle.demands.specs.Compare.{reduced_operations, reduced}
use Rattle.demands.specs.Examples.{first_run, printed, Table, computed, ran}

pub table : Table
unfolding computed ran first_run printed since has without_bit flag_of clear_word check_word after_check poll_word after_poll reduced reduced_operations joined gather engine_of
table =
    record {
      p1_record = refl;
      p1_received = refl;
      p1_counts = refl;
      p2 = (refl, refl);
      p3 = refl;
      p4 = refl;
      p5 = (refl, refl);
      p6 = refl;
      p7 = refl;
      p7_start = refl;
      p7_address = refl;
      p7_data = refl;
      p8_out = λ s w h. refl;
      p8_in = λ s w h. refl;
      p9_polling = λ n. refl;
      p9_blocking = λ n. refl;
      p9_polling_writes = λ n p. refl;
      p9_blocking_writes = λ s h n ready later. refl;
      p10 = refl;
    }
