-- The equalities between dims of different streams.
use Rattle.std.specs.Prelude.{◌≡◌, ℕ, zero, suc, ◌+◌, ◌-◌, ◌*◌, ◌≤◌, ◌<◌, ◌⊎◌, ◌↔◌, pos, List, [], ◌∷◌, ◌++◌, Option, None, Some, length, take}
use Rattle.std.specs.List.{slice_index_or}
use Rattle.sem_query.specs.declared.atom.Attr.{Attr}
use Rattle.sem_query.specs.declared.atom.Element.TheVariants as element
use Rattle.sem_query.specs.declared.plan.Dim.{Dim}
use Rattle.sem_query.specs.declared.plan.Kind.{Kind}
use Rattle.sem_query.specs.declared.plan.Link.{Link}
use Rattle.sem_query.specs.Members.{Has, Ascends}
use Rattle.sem_query.specs.Plan.{link, link_lt}
use Rattle.sem_query.specs.Query.{QueryValue, attr_lt}
use Rattle.sem_whole.specs.System.{system, Bound}
use Rattle.plan_whole_form.specs.declared.part.WholeStream.{WholeStream}

-- two columns are equal in each solution
abbrev pub IsEqual : QueryValue → Attr → Attr → Type 0
IsEqual q a b = Bound (system q) (element.Attr a) (element.Attr b) (pos 0) × Bound (system q) (element.Attr b) (element.Attr a) (pos 0)

-- a column names one of some dims
abbrev pub IsNamed : List Dim → Attr → Type 0
IsNamed dims a = (d : Dim) × Has dims d × (d.attr ≡ a)

-- the dims of the stream at a place
abbrev pub dims_of : List WholeStream → ℕ → List Dim
dims_of streams place = (slice_index_or streams place record { dims = record { items = [] }; kind = Kind.Present }).dims.items

-- the dims of each stream are of its columns, ascending, and none of two that are equal in each solution
pub record AreClasses (q : QueryValue) (streams : List WholeStream) : Type 0 where
  pub here : (place : ℕ) (d : Dim) → Has (dims_of streams place) d → d.attr.stream ≡ place
  pub ascend : (place : ℕ) → Ascends (λ (d e : Dim). attr_lt d.attr e.attr) (dims_of streams place)
  pub apart : (place : ℕ) (a b : Attr) → IsNamed (dims_of streams place) a → IsNamed (dims_of streams place) b → IsEqual q a b → a ≡ b

-- a dim that equals a column, or none where none does
abbrev pub IsFound : QueryValue → Attr → List Dim → Option Attr → Type 0
IsFound q a dims None = (b : Attr) → IsNamed dims b → ¬ IsEqual q a b
IsFound q a dims (Some b) = IsNamed dims b × IsEqual q a b

-- a link to it is added
abbrev pub with_found : Attr → Option Attr → List Link → List Link
with_found a None list = list
with_found a (Some b) list = list ++ link a b ∷ []

-- a column equals a dim of a stream from one place on and before another
abbrev pub IsEqualFrom : QueryValue → List WholeStream → ℕ → ℕ → Attr → Attr → Type 0
IsEqualFrom q streams from to a b = (place : ℕ) × (from ≤ place) × (place < to) × IsNamed (dims_of streams place) b × IsEqual q a b

-- links are added that stand for what is said, at most so many, and all ascend
pub record AreAdded (old : List Link) (Says : Link → Type 0) (most : ℕ) (new : List Link) : Type 0 where
  pub members : (l : Link) → Has new l ↔ (Has old l ⊎ Says l)
  pub ascend : Ascends link_lt new
  pub few : length new ≤ length old + most

-- what is said of a link: it has this column on its left, and an equal dim of a stream from one place on and before another on its right
abbrev pub SaysOne : QueryValue → List WholeStream → ℕ → ℕ → Attr → Link → Type 0
SaysOne q streams from to a l = (l.left ≡ a) × IsEqualFrom q streams from to a l.right

-- it has one of some dims on its left, and an equal dim of a stream behind a place on its right
abbrev pub SaysOf : QueryValue → List WholeStream → ℕ → List Dim → Link → Type 0
SaysOf q streams place dims l = IsNamed dims l.left × IsEqualFrom q streams (place + 1) (length streams) l.left l.right

-- it has a dim of a stream before a place on its left, and an equal one of a later stream on its right
abbrev pub SaysBefore : QueryValue → List WholeStream → ℕ → Link → Type 0
SaysBefore q streams place l = (p : ℕ) × (p < place) × SaysOf q streams p (dims_of streams p) l

-- the equalities of a column with streams from one place on and before another are added
abbrev pub AreEquals : QueryValue → List WholeStream → List Link → Attr → ℕ → ℕ → List Link → Type 0
AreEquals q streams old a from to new = AreAdded old (SaysOne q streams from to a) (to - from) new

-- those of the first dims of a stream with later streams are added
abbrev pub AreStreams : QueryValue → List WholeStream → ℕ → List Link → ℕ → List Link → Type 0
AreStreams q streams place old k new = AreAdded old (SaysOf q streams place (take k (dims_of streams place))) (k * (3 - place)) new × (k ≤ length (dims_of streams place))

-- the most links before a stream, of at most four
abbrev pub most_before : ℕ → ℕ
most_before zero = 0
most_before (suc zero) = 24
most_before (suc (suc zero)) = 40
most_before (suc (suc (suc place))) = 48

-- those of the streams before a place with later streams
abbrev pub AreBefore : QueryValue → List WholeStream → ℕ → List Link → Type 0
AreBefore q streams place list = AreAdded [] (SaysBefore q streams place) (most_before place) list × (place ≤ length streams)
