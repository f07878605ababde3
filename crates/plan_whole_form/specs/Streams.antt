-- What is kept of a stream, with 0 for an end that is not there.
use Rattle.std.specs.Prelude.{map}
use Rattle.sem_query.specs.declared.plan.Dim.{Dim}
use Rattle.plan_whole.specs.declared.extreme.KeptClass.{KeptClass}
use Rattle.plan_whole.specs.declared.streams.KeptStream.{KeptStream}
use Rattle.plan_whole_form.specs.declared.part.WholeStream.{WholeStream}
use Rattle.plan_whole_form.specs.Part.{dim_in}

abbrev pub dim_of : KeptClass → Dim
dim_of k = dim_in k.attr k.ends

abbrev pub stream_of : KeptStream → WholeStream
stream_of s = record { dims = record { items = map dim_of s.dims.items }; kind = s.kind }
