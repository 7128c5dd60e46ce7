-- The kinds of calls by their numbers (document 01, "Bus list").
use Rattle.std.specs.Prelude.{ℕ, ◌≡◌, ◌<◌, Result, MatchResult}
use Rattle.buslist.specs.declared.kind.Kind.{Kind}
use Rattle.buslist.specs.declared.kind.Kind.TheVariants.{PollingWrite, PollingRead, PollingWriteRead, PollingTransaction, BlockingWrite, BlockingRead, BlockingWriteRead, BlockingTransaction}
use Rattle.buslist.specs.declared.kind.UnknownKind.{UnknownKind}

abbrev pub kind_number : Kind → ℕ
kind_number PollingWrite = 0
kind_number PollingRead = 1
kind_number PollingWriteRead = 2
kind_number PollingTransaction = 3
kind_number BlockingWrite = 4
kind_number BlockingRead = 5
kind_number BlockingWriteRead = 6
kind_number BlockingTransaction = 7

-- the kind of a number, or the number as an error where there is none
abbrev pub DecodesKind : ℕ → Result Kind UnknownKind → Type 0
DecodesKind number r = MatchResult r (λ kind. kind_number kind ≡ number) (λ e. (e.0 ≡ number) × (7 < number))
