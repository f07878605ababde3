-- The one part of the whole form of a query.
use Rattle.std.specs.Prelude.{◌≡◌, ℕ, ℤ, pos, List, [], ◌∷◌, map, length}
use Rattle.std.specs.List.{slice_index_or}
use Rattle.std.specs.declared.option.Option.{Option}
use Rattle.std.specs.declared.option.Option.TheVariants.{None, Some}
use Rattle.sem_query.specs.declared.atom.Attr.{Attr}
use Rattle.sem_query.specs.declared.atom.Atom.{Atom}
use Rattle.sem_query.specs.declared.first_break.Break.{Break}
use Rattle.sem_query.specs.declared.plan.Dim.{Dim}
use Rattle.sem_query.specs.declared.plan.Kind.{Kind}
use Rattle.sem_query.specs.Admission.{alone, keeps_local}
use Rattle.sem_query.specs.Query.{QueryValue}
use Rattle.sem_query.specs.Ranges.{different}
use Rattle.sem_query.specs.Violation.{Failure}
use Rattle.sem_whole.specs.System.{system}
use Rattle.sem_whole.specs.Links.{AreLinks}
use Rattle.sem_whole.specs.Ranges.{range}
use Rattle.sem_whole.specs.Kept.{IsRange}
use Rattle.sem_whole.specs.Whole.{KeptDim, StreamKeep, Form, HasFiniteRanges}
use Rattle.sem_whole.specs.Plan.{IsWholePlan}
use Rattle.sem_whole.specs.Failing.{Contradicts, IsFirstWholeBreak, failure_of}
use Rattle.plan_whole.specs.declared.closed.Ends.{Ends}
use Rattle.plan_whole.specs.Closed.{ends_of}
use Rattle.plan_whole.specs.Columns.{atom_of}
use Rattle.plan_whole_form.specs.declared.part.WholeStream.{WholeStream}
use Rattle.plan_whole_form.specs.declared.whole.WholePart.{WholePart}
use Rattle.plan_whole_form.specs.declared.whole.Whole.{Whole}
use Rattle.plan_whole_form.specs.declared.whole.Whole.TheVariants.{Contradiction, Broken, Part}
use Rattle.plan_whole_form.specs.Conditions.{AreConditions}

-- an end, or 0 where there is none
abbrev pub end_or_zero : Option ℤ → ℤ
end_or_zero None = pos 0
end_or_zero (Some k) = k

-- a column with its ends as a dim
abbrev pub dim_in : Attr → Ends → Dim
dim_in a e = record { attr = a; lo = end_or_zero e.lo; hi = end_or_zero e.hi }

-- the range of a column, with 0 for an end that is not there
abbrev pub IsRangeOf : QueryValue → Attr → Dim → Type 0
IsRangeOf q a d = (e : Ends) × IsRange (system q) a (ends_of e) × (d ≡ dim_in a e)

abbrev pub AreRangesOf : QueryValue → List Attr → List Dim → Type 0
AreRangesOf q [] [] = Unit {0}
AreRangesOf q [] (d ∷ dims) = ⊥
AreRangesOf q (a ∷ columns) [] = ⊥
AreRangesOf q (a ∷ columns) (d ∷ dims) = IsRangeOf q a d × AreRangesOf q columns dims

-- a dim, as that of a form
abbrev pub kept_dim : Dim → KeptDim
kept_dim d = record { attr = d.attr; range = range (Some d.lo) (Some d.hi) }

abbrev pub kept_stream : WholeStream → StreamKeep
kept_stream s = record { dims = map kept_dim s.dims.items; kind = s.kind }

-- what is kept of the stream at a place
abbrev pub stream_in : WholePart → ℕ → WholeStream
stream_in p place = slice_index_or p.streams.items place record { dims = record { items = [] }; kind = Kind.Present }

-- the part as a form: its links, what is kept of each stream, and which rows meet its conditions
abbrev pub form_of : WholePart → Form
form_of p = record {
  links = map atom_of p.links.items;
  keeps = λ place. kept_stream (stream_in p place);
  admits = λ place v. keeps_local place (alone v) p.conditions.items;
}

-- the ranges of the different selected columns
abbrev pub AreSelectedRanges : QueryValue → List Dim → Type 0
AreSelectedRanges q dims = AreRangesOf q (different q.select) dims

-- the one part is the plan of the query, with finite ranges; it asks of rows what has to be asked
pub record IsWholePart (q : QueryValue) (p : WholePart) : Type 0 where
  pub plan : IsWholePlan q (form_of p)
  pub finite : HasFiniteRanges q (form_of p)
  pub count : length p.streams.items ≡ length q.from
  pub conditions : AreConditions q p.conditions.items
  pub selected : AreSelectedRanges q p.selected.items

-- a first condition that is broken
pub record IsBroken (q : QueryValue) (b : Break) : Type 0 where
  pub sound : ¬ Contradicts q
  pub links : List Atom
  pub are_links : AreLinks q links
  pub first : IsFirstWholeBreak q links (Some b)

-- the system of the query contradicts itself, or its form breaks a condition, or has finite ranges
abbrev pub IsWhole : QueryValue → Whole → Type 0
IsWhole q Contradiction = Contradicts q
IsWhole q (Broken b) = IsBroken q b
IsWhole q (Part p) = IsWholePart q p

-- the failure of the one part, where it breaks a condition
abbrev pub failure_in : Whole → Option Failure
failure_in Contradiction = None
failure_in (Broken b) = failure_of (Some b)
failure_in (Part p) = None
