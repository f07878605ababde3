-- The word by which a session refuses a line, by what is wrong with it.
use Rattle.sql_replies.specs.declared.refusal.Refusal.{Refusal}
use Rattle.sql_replies.specs.declared.refusal.Refusal.TheVariants as words
use Rattle.adv_diagnosis.specs.declared.fault.Fault.{Fault}
use Rattle.adv_diagnosis.specs.declared.fault.Fault.TheVariants.{LineTooLong, Syntax, Limit, DuplicateStream, DuplicateColumn, DuplicateQuery, TooManyStreams, TooManyQueries, NoStream, NotInFrom, NoColumn, SelfJoin, NoQuery, Locked, LockTwice, LockNoStream, NoLock, RowKey, RowName, RowStream, Arity, Value, Domain}

-- the word by which a session refuses a line with this fault
abbrev pub word_of : Fault → Refusal
word_of LineTooLong = words.LineTooLong
word_of (Locked line) = words.Locked
word_of (Syntax at next) = words.Syntax
word_of (Limit what found) = words.Limit
word_of (DuplicateStream name) = words.Duplicate
word_of (DuplicateColumn name) = words.Duplicate
word_of (DuplicateQuery name) = words.Duplicate
word_of TooManyStreams = words.TooMany
word_of TooManyQueries = words.TooMany
word_of (NoStream name) = words.UnknownStream
word_of (NotInFrom column) = words.UnknownStream
word_of (NoColumn column) = words.UnknownColumn
word_of (SelfJoin name) = words.SelfJoin
word_of (NoQuery name) = words.UnknownQuery
word_of (LockTwice name) = words.Duplicate
word_of (LockNoStream name) = words.UnknownStream
word_of NoLock = words.Value
word_of RowKey = words.Syntax
word_of (RowName bytes) = words.Limit
word_of RowStream = words.UnknownStream
word_of (Arity stream wanted found) = words.Arity
word_of (Value field) = words.Value
word_of (Domain stream field) = words.Domain
