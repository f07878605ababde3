use Rattle.std.proofs.Common.{[], Some, refl, sym, ap, subst}
use Rattle.cert_checker.specs.Shown.{branching_of, breaks_by}
use Rattle.cert_checker.specs.Reading.{AreGood, done}
use Rattle.cert_checker.proofs.Choosing.{begins_bounded}
use Rattle.cert_checker.proofs.walk.Walk.new.Goals as goal

pub returns : goal.returns
returns c = record {
  good = subst (AreGood (branching_of c.args.shown c.args.q.now) (Some []) []) (ap Some (sym c.root.ensures.signs)) done;
  stands = c.root.ensures.stands;
  count = refl;
  leaves_are = refl;
  decided = begins_bounded (breaks_by c.args.shown c.args.q.now) c.new.result c.new.ensures;
}
