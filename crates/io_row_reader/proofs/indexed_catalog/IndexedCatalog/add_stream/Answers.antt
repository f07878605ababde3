use Rattle.std.proofs.Common.{ℕ, slice_set, sym, subst, ◌∙◌}
use Rattle.io_row_reader.specs.Indexed.{IsIndexed}
use Rattle.io_row_reader.proofs.StreamsNoted.{all_noted}
use Rattle.io_row_reader.proofs.indexed_catalog.IndexedCatalog.add_stream.Goals as goal

pub invariant_of-self : goal.invariant_of-self
invariant_of-self c = (
  subst (λ (n : ℕ). IsIndexed (slice_set c.self.inside.noted n c.of.result) c.add_stream.new.self) (sym c.from.ensures)
      (all_noted c.self.inside.catalog c.add_stream.new.self (record { name = c.args.name; columns = c.args.columns.now }) c.in-Ok.number c.self.inside.noted c.of.result c.self.invariant.0 c.len-few.ensures.catalog
      (sym c.in-Ok.is ∙ c.add_stream.ensures.result) c.add_stream.ensures.streams c.of.ensures),
  c.add.ensures c.self.invariant.1,
)
