-- What the lines of a script have made, as far as the choice of keys needs it.
use Rattle.std.specs.Prelude.{ℕ, ◌+◌, List, [], ◌∷◌, ◌++◌, map, length, Option, Some, None}
use Rattle.std.specs.List.{position, remove}
use Rattle.std.specs.Str.{bytes_eq}
use Rattle.sql_replies.specs.declared.refusal.Refusal.{Refusal}
use Rattle.sql_catalog.specs.Streams.{Shape, with_stream}
use Rattle.adv_key_choices.specs.declared.choice.KeyedQuery.{KeyedQuery}
use Rattle.cmd_advise_split.specs.declared.state.Stop.{Stop}

-- The streams; the names of the live queries, in the order of their lines, and the queries with the classes of their columns and the limits that refuse
-- them; how many lines were read; and the first line that is refused, if one is.
pub record State : Type 0 where
  pub streams : List Shape
  pub names : List (List ℕ)
  pub queries : List KeyedQuery
  pub lines : ℕ
  pub stop : Option Stop

-- before the first line
abbrev pub empty : State
empty = record { streams = []; names = []; queries = []; lines = 0; stop = None }

-- one line more
abbrev pub one_line_more : State → State
one_line_more s = record s { lines = s.lines + 1 }

-- one line more, which is refused by this word
abbrev pub stopped : State → Refusal → State
stopped s word = record s { lines = s.lines + 1; stop = Some (record { line = s.lines + 1; word = word }) }

-- one stream more
abbrev pub one_stream_more : State → Shape → State
one_stream_more s shape = record s { streams = with_stream s.streams shape; lines = s.lines + 1 }

-- one query more, whether or not a limit refuses it
abbrev pub one_query_more : State → List ℕ → KeyedQuery → State
one_query_more s name keyed = record s { names = s.names ++ name ∷ []; queries = s.queries ++ keyed ∷ []; lines = s.lines + 1 }

-- a list without the element at a place, where there is one
abbrev pub without : {A : Type 0} → Option ℕ → List A → List A
without None xs = xs
without (Some place) xs = remove xs place

-- the first live query of a name is live no more
abbrev pub one_query_less : State → List ℕ → State
one_query_less s name = (let place = position (λ other. bytes_eq other name) s.names in record s { names = without place s.names; queries = without place s.queries; lines = s.lines + 1 })

-- how many columns each stream has
abbrev pub widths_of : List Shape → List ℕ
widths_of streams = map (λ shape. length shape.columns) streams
