-- The parts of a bus list as its bytes have them (document 01, "Bus list"): the header's words, the calls and the operations.
use Rattle.std.specs.Prelude.{ℕ, zero, suc, ◌+◌, ◌*◌, List, [], ◌∷◌}
use Rattle.units.specs.declared.Settings.{Settings}
use Rattle.units.specs.Speed.{mode_of}
use Rattle.buslist.specs.declared.CallEntry.{CallEntry}
use Rattle.buslist.specs.declared.OperationEntry.{OperationEntry}
use Rattle.buslist.specs.Bytes.{byte, half, word}

-- calls C
abbrev pub call_count : List ℕ → ℕ
call_count l = word l 0

-- call offset
abbrev pub call_offset : List ℕ → ℕ
call_offset l = word l 4

-- operations O
abbrev pub operation_count : List ℕ → ℕ
operation_count l = word l 8

-- operation offset
abbrev pub operation_offset : List ℕ → ℕ
operation_offset l = word l 12

-- data bytes D
abbrev pub data_bytes : List ℕ → ℕ
data_bytes l = word l 16

-- data offset
abbrev pub data_offset : List ℕ → ℕ
data_offset l = word l 20

-- settings: the eight header words from pclk1 to the data timeout
unfoldable pub settings_of : List ℕ → Settings
settings_of l =
    record {
      pclk1 = record { 0 = word l 24 };
      sysclk = record { 0 = word l 28 };
      mode = mode_of (word l 32);
      frequency = record { 0 = word l 36 };
      start_timeout = record { 0 = word l 40 };
      start_retries = word l 44;
      addr_timeout = record { 0 = word l 48 };
      data_timeout = record { 0 = word l 52 };
    }

-- call number k, 8 bytes: kind and address width (one byte each), address, first operation and operation count (16 bits each)
unfoldable pub call_at : List ℕ → ℕ → CallEntry
call_at l k =
    record {
      kind = byte l (call_offset l + 8 * k);
      width = byte l (call_offset l + 8 * k + 1);
      address = half l (call_offset l + 8 * k + 2);
      first = half l (call_offset l + 8 * k + 4);
      count = half l (call_offset l + 8 * k + 6);
    }

-- operation number j, 8 bytes: direction and a zero byte (one byte each), length (16 bits), data offset (32 bits)
unfoldable pub operation_at : List ℕ → ℕ → OperationEntry
operation_at l j =
    record {
      direction = byte l (operation_offset l + 8 * j);
      reserved = byte l (operation_offset l + 8 * j + 1);
      length = half l (operation_offset l + 8 * j + 2);
      offset = word l (operation_offset l + 8 * j + 4);
    }

-- n entries of a table, from number j on
unfoldable pub entries : {A : Type 0} → (ℕ → A) → ℕ → ℕ → List A
entries entry j zero = []
entries entry j (suc n) = entry j ∷ entries entry (j + 1) n

-- the calls of a list
abbrev pub calls : List ℕ → List CallEntry
calls l = entries (call_at l) 0 (call_count l)

-- the operations of a list
abbrev pub operations : List ℕ → List OperationEntry
operations l = entries (operation_at l) 0 (operation_count l)

-- the operations of a call
abbrev pub operations_of : List ℕ → CallEntry → List OperationEntry
operations_of l c = entries (operation_at l) c.first c.count
