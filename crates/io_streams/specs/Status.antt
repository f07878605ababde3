-- The numbers of the statuses.
use Rattle.std.specs.Prelude.{ℕ, ⊤}
use Rattle.io_streams.specs.declared.status.Status.{Status}
use Rattle.io_streams.specs.declared.status.Status.TheVariants.{Done, Invalid, Usage, ReadFault, WriteFault, Memory, ByteLimit}

-- the number with which the process ends
abbrev pub number_of : Status → ℕ
number_of Done = 0
number_of Invalid = 1
number_of Usage = 2
number_of ReadFault = 4
number_of WriteFault = 5
number_of Memory = 6
number_of ByteLimit = 7

-- a fact for one status
abbrev pub OnDone : Status → Type 0 → Type 0
OnDone Done P = P
OnDone _ P = ⊤

abbrev pub OnInvalid : Status → Type 0 → Type 0
OnInvalid Invalid P = P
OnInvalid _ P = ⊤

abbrev pub OnUsage : Status → Type 0 → Type 0
OnUsage Usage P = P
OnUsage _ P = ⊤

abbrev pub OnReadFault : Status → Type 0 → Type 0
OnReadFault ReadFault P = P
OnReadFault _ P = ⊤

abbrev pub OnWriteFault : Status → Type 0 → Type 0
OnWriteFault WriteFault P = P
OnWriteFault _ P = ⊤

abbrev pub OnMemory : Status → Type 0 → Type 0
OnMemory Memory P = P
OnMemory _ P = ⊤

abbrev pub OnByteLimit : Status → Type 0 → Type 0
OnByteLimit ByteLimit P = P
OnByteLimit _ P = ⊤
