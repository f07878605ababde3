use Rattle.std.proofs.Common.{◌≡◌, length}
use Rattle.cert_checker.specs.Reading.{following}
use Rattle.cert_checker.specs.Standing.{Stands}
use Rattle.cert_checker.proofs.cursor.TreeCursor.go_on.Given as goal

abbrev pub invariant-loop-sign : goal.invariant-loop-sign
invariant-loop-sign l = record {
  stands : Stands l.q l.shown l.self;
  same : following l.self.signs.items ≡ following l.fn.self.signs.items;
}

abbrev pub decreases-loop-sign : goal.decreases-loop-sign
decreases-loop-sign l = length l.self.signs.items
