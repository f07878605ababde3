use Rattle.std.proofs.Common.{w64, rules}
use Rattle.std.proofs.lemmas.Nat.Bits.{bit_at-trailing_zeros}
use Rattle.exec_query_index.proofs.words.lowest_bit.Goals as goal

pub returns-clause-own : goal.returns-clause-own
returns-clause-own c = (bit_at-trailing_zeros w64 c.args.word c.requires (search rules)).1

pub returns-clause-below : goal.returns-clause-below
returns-clause-below c = (bit_at-trailing_zeros w64 c.args.word c.requires (search rules)).2
