use Rattle.std.proofs.Common.{◌≡◌, ℕ, length, slice_index_or, slice_get, Some}
use Rattle.exec_filter.specs.declared.prefilter.StreamFilter.{StreamFilter}
use Rattle.exec_filter.specs.Prefilter.{lets_in, Passes}
use Rattle.exec_filter.proofs.prefilter.stream_filters_of.Given as goal

abbrev pub invariant-places : goal.invariant-places
invariant-places l = record {
  size : length l.stream_filters.items ≡ l.place;
  streams : (place : ℕ) (e : StreamFilter) → slice_get l.stream_filters.items place ≡ Some e → e.stream ≡ slice_index_or l.from place 0;
  ranges : (place : ℕ) (e : StreamFilter) → slice_get l.stream_filters.items place ≡ Some e → Passes l.parts place (lets_in e);
}
