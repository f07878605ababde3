use Rattle.std.proofs.Common.{◌<◌, length, arith}
use Rattle.cert_checker.specs.Shown.{branching_of}
use Rattle.cert_checker.specs.Standing.{Adds}
use Rattle.cert_checker.proofs.Standing.{room_more, stands_deeper}
use Rattle.cert_checker.proofs.cursor.TreeCursor.push.Goals as goal

pub add_each-requires : goal.add_each-requires
add_each-requires c =
    let l : length c.args.self.now.signs.items < length (branching_of c.args.shown c.args.q.now).pairs = rw c.requires.pairs at c.requires.room in
    let a : Adds c.args.q.now c.args.shown c.args.self.now.signs.items c.args.sign c.sign_constraints-added.result.items = rw c.as_slice.ensures.value at c.sign_constraints-added.ensures in
    rw c.as_slice-2.ensures.value (room_more c.args.q.now c.args.shown c.args.self.now c.args.sign c.sign_constraints-added.result.items c.requires.stands l a)

pub returns-clause-stands : goal.returns-clause-stands
returns-clause-stands c =
    let l : length c.args.self.now.signs.items < length (branching_of c.args.shown c.args.q.now).pairs = rw c.requires.pairs at c.requires.room in
    let a : Adds c.args.q.now c.args.shown c.args.self.now.signs.items c.args.sign c.sign_constraints-added.result.items = rw c.as_slice.ensures.value at c.sign_constraints-added.ensures in
    stands_deeper c.args.q.now c.args.shown c.args.self.now record { signs = c.push.new.self; constraints = c.add_each.new.list } c.args.sign c.sign_constraints-added.result.items c.requires.stands l a c.push.ensures.items (rw c.as_slice-2.ensures.value at c.add_each.ensures)

pub push-requires : goal.push-requires
push-requires c =
    let l : length c.args.self.now.signs.items < length (branching_of c.args.shown c.args.q.now).pairs = rw c.requires.pairs at c.requires.room in
    let r = c.requires.stands.room in
    (omega arith, omega (arith, l, r))
