-- Operations joined (document 01, "Reduced call"), and combined as in a call of kind 7 (document 02, C-11).
use Rattle.std.specs.Prelude.{◌+◌, List, [], ◌∷◌, ◌++◌, Bool, true, false, cond}
use Rattle.buslist.specs.Meaning.{Operation, write, read, empty}

-- empty operations dropped
unfoldable pub dropped : List Operation → List Operation
dropped [] = []
dropped (o ∷ os) = cond (empty o) (dropped os) (o ∷ dropped os)

-- neighbours of one direction joined: `gather o os` is o joined with what follows it, and the rest
-- a joined write has the bytes of its parts in order, a joined read the sum of their lengths
unfoldable pub gather : Operation → List Operation → List Operation
gather o [] = o ∷ []
gather (write bs) (write cs ∷ os) = gather (write (bs ++ cs)) os
gather (write bs) (read n ∷ os) = write bs ∷ gather (read n) os
gather (read m) (write cs ∷ os) = read m ∷ gather (write cs) os
gather (read m) (read n ∷ os) = gather (read (m + n)) os

unfoldable pub joined : List Operation → List Operation
joined [] = []
joined (o ∷ os) = gather o os

-- the operations of a kind 7 call as they are done: empty ones are dropped, neighbours of one direction are joined
abbrev pub combined : List Operation → List Operation
combined os = joined (dropped os)

-- a read is followed by a write, which cannot be done without losing the bus between them
unfoldable pub read_then_write : List Operation → Bool
read_then_write [] = false
read_then_write (write bs ∷ os) = read_then_write os
read_then_write (read n ∷ []) = false
read_then_write (read n ∷ (write bs ∷ os)) = true
read_then_write (read n ∷ (read m ∷ os)) = read_then_write (read m ∷ os)
