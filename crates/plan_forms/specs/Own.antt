-- The classes of a form with their own ranges.
use Rattle.std.specs.Prelude.{◌≡◌, Option, None, Some, Result, Ok, Err, List, [], ◌∷◌, map}
use Rattle.arrayvec.specs.ArrayVec.{ArrayVec}
use Rattle.sem_query.specs.declared.atom.Attr.{Attr}
use Rattle.sem_query.specs.declared.plan.Dim.{Dim}
use Rattle.sem_query.specs.Members.{Has}
use Rattle.sem_query.specs.Query.{QueryValue}
use Rattle.plan_whole_form.specs.declared.part.WholeStream.{WholeStream}
use Rattle.plan_whole_form.specs.Part.{kept_dim}
use Rattle.sem_forms.specs.Part.{AreOwnDims}
use Rattle.sem_forms.specs.SplitBreaks.{IsBetweenEnds, LacksEnd}

-- a column with its own range as a dim, or none where that lacks an end
abbrev pub IsOwnDim : QueryValue → Attr → Option Dim → Type 0
IsOwnDim q a None = LacksEnd q a
IsOwnDim q a (Some d) = (d.attr ≡ a) × IsBetweenEnds q d.attr d.lo d.hi

-- the first of some dims that is of a column whose range lacks an end
pub data IsFirstOpenDim (q : QueryValue) : List Dim → Attr → Type 0 where
  first_dim : {d : Dim} {dims : List Dim} → LacksEnd q d.attr → IsFirstOpenDim q (d ∷ dims) d.attr
  next_dim : {d : Dim} {dims : List Dim} {a : Attr} → ¬ LacksEnd q d.attr → IsFirstOpenDim q dims a → IsFirstOpenDim q (d ∷ dims) a

-- the dims with their own ranges, or the first that lacks an end
abbrev pub AreOwnDimsOr : QueryValue → List Dim → Result (ArrayVec Dim) Attr → Type 0
AreOwnDimsOr q dims (Ok own) = AreOwnDims q (map kept_dim dims) own.items
AreOwnDimsOr q dims (Err a) = IsFirstOpenDim q dims a

-- the stream keeps the same, of each class its own range
pub record IsOwnOf (q : QueryValue) (stream own : WholeStream) : Type 0 where
  pub dims : AreOwnDims q (map kept_dim stream.dims.items) own.dims.items
  pub kind : own.kind ≡ stream.kind

abbrev pub IsOwnOr : QueryValue → WholeStream → Result WholeStream Attr → Type 0
IsOwnOr q stream (Ok own) = IsOwnOf q stream own
IsOwnOr q stream (Err a) = IsFirstOpenDim q stream.dims.items a

-- each of the streams does
abbrev pub AreOwnStreams : QueryValue → List WholeStream → List WholeStream → Type 0
AreOwnStreams q [] [] = Unit {0}
AreOwnStreams q [] (t ∷ own) = ⊥
AreOwnStreams q (s ∷ streams) [] = ⊥
AreOwnStreams q (s ∷ streams) (t ∷ own) = IsOwnOf q s t × AreOwnStreams q streams own

-- the first of some streams with a dim whose range lacks an end, and the first such dim of it
pub data IsFirstOpenIn (q : QueryValue) : List WholeStream → Attr → Type 0 where
  first_stream : {s : WholeStream} {streams : List WholeStream} {a : Attr} → IsFirstOpenDim q s.dims.items a → IsFirstOpenIn q (s ∷ streams) a
  next_stream : {s : WholeStream} {streams : List WholeStream} {a : Attr} → ((d : Dim) → Has s.dims.items d → ¬ LacksEnd q d.attr) → IsFirstOpenIn q streams a → IsFirstOpenIn q (s ∷ streams) a

abbrev pub AreOwnOr : QueryValue → List WholeStream → Result (ArrayVec WholeStream) Attr → Type 0
AreOwnOr q streams (Ok own) = AreOwnStreams q streams own.items
AreOwnOr q streams (Err a) = IsFirstOpenIn q streams a
