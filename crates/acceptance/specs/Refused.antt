-- The causes by their numbers (document 01, "How a run can end", and document 02).
use Rattle.std.specs.Prelude.{ℕ, Result, Ok, Err}
use Rattle.acceptance.specs.declared.refusal.Refusal.{Refusal}
use Rattle.acceptance.specs.declared.refusal.Refusal.TheVariants.{Form, Limit, Frequency, Timeout, Address, EmptyBlocking, Room, WriteAfterRead}

abbrev pub cause_number : Refusal → ℕ
cause_number Form = 20
cause_number Limit = 21
cause_number Frequency = 22
cause_number Timeout = 23
cause_number Address = 24
cause_number EmptyBlocking = 25
cause_number Room = 26
cause_number WriteAfterRead = 27

-- the number of a refusal, or 0
abbrev pub refusal_number : {A : Type 0} → Result A Refusal → ℕ
refusal_number (Ok x) = 0
refusal_number (Err cause) = cause_number cause
