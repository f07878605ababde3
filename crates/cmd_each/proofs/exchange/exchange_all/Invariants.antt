use Rattle.std.proofs.Common.{◌≡◌, map, take}
use Rattle.cmd_each.specs.Exchange.{exchanged}
use Rattle.cmd_each.proofs.exchange.exchange_all.Given as goal

abbrev pub invariant-bytes : goal.invariant-bytes
invariant-bytes l = l.bytes.items ≡ map exchanged (take l.byte-index l.piece)
