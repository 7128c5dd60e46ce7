-- Register words: single bits by their weight, and the bits of RM0008.
use Rattle.std.specs.Prelude.{ℕ, ◌+◌, ◌-◌, ◌/◌, ◌%◌, ◌^◌, Bool, cond, eqb}
use Rattle.registers.specs.declared.Bits.{Bits}

-- the weight of bit n
abbrev bit : ℕ → ℕ
bit n = 2 ^ n

-- SR1
abbrev pub SB : ℕ
SB = bit 0

abbrev pub ADDR : ℕ
ADDR = bit 1

abbrev pub BTF : ℕ
BTF = bit 2

abbrev pub ADD10 : ℕ
ADD10 = bit 3

abbrev pub RXNE : ℕ
RXNE = bit 6

abbrev pub TXE : ℕ
TXE = bit 7

abbrev pub BERR : ℕ
BERR = bit 8

abbrev pub ARLO : ℕ
ARLO = bit 9

abbrev pub AF : ℕ
AF = bit 10

abbrev pub OVR : ℕ
OVR = bit 11

abbrev pub PECERR : ℕ
PECERR = bit 12

abbrev pub TIMEOUT : ℕ
TIMEOUT = bit 14

abbrev pub SMBALERT : ℕ
SMBALERT = bit 15

-- the write-zero-to-clear bits of SR1, 8 to 12, 14 and 15: a 0 written clears the bit, a 1 leaves it
abbrev pub WRITE_ZERO_TO_CLEAR : ℕ
WRITE_ZERO_TO_CLEAR = BERR + ARLO + AF + OVR + PECERR + TIMEOUT + SMBALERT

-- SR2
abbrev pub MSL : ℕ
MSL = bit 0

abbrev pub BUSY : ℕ
BUSY = bit 1

-- CR1
abbrev pub PE : ℕ
PE = bit 0

abbrev pub START : ℕ
START = bit 8

abbrev pub STOP : ℕ
STOP = bit 9

abbrev pub ACK : ℕ
ACK = bit 10

abbrev pub POS : ℕ
POS = bit 11

abbrev pub SWRST : ℕ
SWRST = bit 15

-- the bit of weight w is set in v
unfoldable pub has : ℕ → ℕ → Bool
has w v = eqb (v / w % 2) 1

-- v with the bit of weight w set, and with it clear; weight 0 is no bit
unfoldable pub with_bit : ℕ → ℕ → ℕ
with_bit w v = cond (has w v) v (v + w)

unfoldable pub without_bit : ℕ → ℕ → ℕ
without_bit w v = cond (has w v) (v - w) v

-- the same for several bits, by their weights
abbrev pub with_bits : Bits → ℕ → ℕ
with_bits bs v = with_bit bs.1 (with_bit bs.0 v)

abbrev pub without_bits : Bits → ℕ → ℕ
without_bits bs v = without_bit bs.1 (without_bit bs.0 v)

abbrev pub none : Bits
none = record { 0 = 0; 1 = 0 }

abbrev pub one : ℕ → Bits
one w = record { 0 = w; 1 = 0 }

abbrev pub both : ℕ → ℕ → Bits
both w x = record { 0 = w; 1 = x }
