-- The dims of a stream, as those of a form.
use Rattle.std.specs.Prelude.{◌≡◌, ◌≢◌, ℕ, ◌<◌, List, map, length}
use Rattle.std.specs.List.{slice_index_or}
use Rattle.std.specs.declared.option.Option.{Option}
use Rattle.std.specs.declared.option.Option.TheVariants.{None, Some}
use Rattle.sem_query.specs.declared.atom.Attr.{Attr}
use Rattle.sem_query.specs.declared.atom.Atom.{Atom}
use Rattle.sem_query.specs.declared.plan.Kind.{Kind}
use Rattle.sem_query.specs.Query.{QueryValue}
use Rattle.sem_whole.specs.Whole.{KeptDim, StreamKeep}
use Rattle.sem_whole.specs.Plan.{HasRead, IsOfExtreme, IsPlannedDim, IsPlannedStream}
use Rattle.plan_whole.specs.declared.extreme.KeptClass.{KeptClass}
use Rattle.plan_whole.specs.declared.streams.KeptStream.{KeptStream}
use Rattle.plan_whole.specs.Closed.{ends_of}
use Rattle.plan_whole.specs.Classes.{IsNameOf}

abbrev pub dim_of : KeptClass → KeptDim
dim_of k = record { attr = k.attr; range = ends_of k.ends }

abbrev pub keep_of : List KeptClass → Kind → StreamKeep
keep_of dims kind = record { dims = map dim_of dims; kind = kind }

-- why the column has no dim: an earlier one names its class, no column of its class is read, or it is of the extreme
pub data HasNoDim (q : QueryValue) (links : List Atom) (kind : Kind) (a : Attr) : Type 0 where
  later : (n : Attr) → IsNameOf q a n → n ≢ a → HasNoDim q links kind a
  unread : ¬ HasRead q links a → HasNoDim q links kind a
  extreme : IsOfExtreme q kind a → HasNoDim q links kind a

-- the dim that the column names, or none
abbrev pub IsDimOf : QueryValue → List Atom → Kind → Attr → Option KeptClass → Type 0
IsDimOf q links kind a None = HasNoDim q links kind a
IsDimOf q links kind a (Some k) = (k.attr ≡ a) × IsPlannedDim q links a.stream kind (dim_of k)

-- what is kept of each stream of FROM, in order
pub record ArePlanned (q : QueryValue) (links : List Atom) (streams : List KeptStream) : Type 0 where
  pub count : length streams ≡ length q.from
  pub each : (place : ℕ) (d : KeptStream) → place < length streams → IsPlannedStream q links place (keep_of (slice_index_or streams place d).dims.items (slice_index_or streams place d).kind)
