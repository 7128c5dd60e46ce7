-- A cause has a number above 0, so a refusal by one is none of acceptance.
-- Assumes nothing.
use Rattle.std.proofs.Common.{◌<◌, arith}
use Rattle.acceptance.specs.declared.refusal.Refusal.{Refusal}
use Rattle.acceptance.specs.declared.refusal.Refusal.TheVariants.{Form, Limit, Frequency, Timeout, Address, EmptyBlocking, Room, WriteAfterRead}
use Rattle.acceptance.specs.Refused.{cause_number}

pub cause_number-above : (cause : Refusal) → 0 < cause_number cause
cause_number-above Form = omega arith
cause_number-above Limit = omega arith
cause_number-above Frequency = omega arith
cause_number-above Timeout = omega arith
cause_number-above Address = omega arith
cause_number-above EmptyBlocking = omega arith
cause_number-above Room = omega arith
cause_number-above WriteAfterRead = omega arith
