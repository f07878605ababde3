use Rattle.std.proofs.Common.{subst, sym}
use Rattle.exec_synopsis.specs.Axes.{IsBoxLayout, AreBoxLayouts}
use Rattle.exec_synopsis.proofs.PrepareLaws.{pushed-get, pushed-length}
use Rattle.exec_synopsis.proofs.axes.places_of.Goals as goal

pub places-preserved : goal.places-preserved
places-preserved c = record {
  many = pushed-length c.places.places.items c.in-Some.listed c.push.new.self.items c.places.place c.in_ok-push-in-Some.ensures.items c.places.invariant.many;
  each = subst (AreBoxLayouts c.args.part.now) (sym c.in_ok-push-in-Some.ensures.items)
      (pushed-get (IsBoxLayout c.args.part.now) c.places.places.items c.in-Some.listed c.places.invariant.each (subst (λ n. IsBoxLayout c.args.part.now n c.in-Some.listed) (sym c.places.invariant.many) c.in-Some.ensures));
}
