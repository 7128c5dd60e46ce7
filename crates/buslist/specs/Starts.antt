-- What a `BusList` keeps beside its bytes: how long the tables are, and where they and the data begin.
use Rattle.std.specs.Prelude.{ℕ, ◌≡◌, ◌<◌, List}
use Rattle.buslist.specs.declared.list.BusList.TheInside.{Inside}
use Rattle.buslist.specs.Bytes.{byte}
use Rattle.buslist.specs.Table.{call_count, call_offset, operation_count, operation_offset, data_offset}

-- the bytes
abbrev pub bytes_in : Inside → List ℕ
bytes_in s = s.bytes.now

-- each is the header's word, and a byte is below 256
pub record StartsRight (s : Inside) : Type 0 where
  pub counts_calls : s.call_count ≡ call_count s.bytes.now
  pub starts_calls : s.call_start ≡ call_offset s.bytes.now
  pub counts_operations : s.operation_count ≡ operation_count s.bytes.now
  pub starts_operations : s.operation_start ≡ operation_offset s.bytes.now
  pub starts_data : s.data_start ≡ data_offset s.bytes.now
  pub fits : (i : ℕ) → byte s.bytes.now i < 256
