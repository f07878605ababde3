use Rattle.std.proofs.Common.{◌≡◌, length}
use Rattle.exec_synopsis.specs.Axes.{AreBoxLayouts}
use Rattle.exec_synopsis.proofs.axes.places_of.Given as goal

abbrev pub invariant-places : goal.invariant-places
invariant-places l = record {
  many : length l.places.items ≡ l.place;
  each : AreBoxLayouts l.part l.places.items;
}
