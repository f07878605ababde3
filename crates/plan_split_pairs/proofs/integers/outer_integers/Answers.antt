use Rattle.std.proofs.Common.{◌≡◌, pos, int_lt, get_or, rules, FitsSigned, w64, length}
use Rattle.std.proofs.lemmas.Int.{to_z-of_z}
use Rattle.std.proofs.lemmas.List.{take_more}
use Rattle.sem_query.specs.Query.{with_new}
use Rattle.plan_split_pairs.specs.Outer.{nearest_short}
use Rattle.plan_split_pairs.proofs.Room.{near_fits, put_room, put_more, put_length}
use Rattle.plan_split_pairs.proofs.integers.outer_integers.Goals as goal

pub put_integer-requires : goal.put_integer-requires
put_integer-requires c = put_room _ c.integers.list.items c.integers.integer-index (length c.as_slice-integer-items.result.now) c.integers.invariant.few c.integers-test.true c.as_slice-integer-items.ensures.fits

pub integers-preserved : goal.integers-preserved
integers-preserved c =
    let items = c.as_slice-integer-items.result.now in
    let i = c.integers.integer-index in
    let k = get_or items i (pos 0) in
    let fits : FitsSigned w64 k = search rules in
    let is : c.nearest_short.result ≡ nearest_short k = simp to_z-of_z at c.nearest_short.ensures in
    let near : FitsSigned w64 (nearest_short k) = near_fits k in
    let e : c.put_integer.new.integers.items ≡ with_new int_lt (nearest_short k) c.integers.list.items = simp to_z-of_z at (rw is at c.put_integer.ensures) in
    record {
      put = put_more items i k (take_more items i (pos 0) c.integers-test.true) c.integers.list.items c.integers.invariant.put c.put_integer.new.integers.items e;
      few = put_length (nearest_short k) c.integers.list.items c.put_integer.new.integers.items i c.integers.invariant.few e;
    }
