-- What is said of single parts: what those keep that keep many cells, and what a part orders.
use Rattle.std.specs.Prelude.{ℕ, nat_lt, slice_index, Bool, if◌then◌else◌, List, [], ◌∷◌, ◌++◌, length, codes}
use Rattle.sql_catalog.specs.Streams.{Shape}
use Rattle.sql_parser.specs.Resolution.{stream_named}
use Rattle.adv_mends.specs.declared.dearest.DearPart.{DearPart}
use Rattle.adv_order.specs.declared.chains.Step.{Step}
use Rattle.adv_order.specs.declared.chains.Chain.{Chain}
use Rattle.adv_lines.specs.Lines.{kept_head, part_head}
use Rattle.adv_lines.specs.Items.{behind, headed, ranges_text}

-- how many cells a part keeps, the stream that keeps most of them, and the ranges of its columns
abbrev pub kept_line : List Shape → List ℕ → DearPart → List ℕ
kept_line streams from d = kept_head d.part d.cells d.kept (stream_named streams (slice_index from d.place)) ++ (ranges_text streams from d.dims.items ++ 10 ∷ [])

-- what stands between an element and the one before it
abbrev pub sign_text : Bool → List ℕ
sign_text equal = if equal then codes " = " else codes " < "

-- the first element
abbrev pub first_step : List Shape → List ℕ → Step → List ℕ
first_step streams from step = behind streams from (codes " ") step.element

-- an element behind the one before it
abbrev pub next_step : List Shape → List ℕ → Step → List ℕ
next_step streams from step = behind streams from (sign_text step.equal) step.element

-- the elements in ascending order, as ` 0 < S.a = S.b < 9`
abbrev pub steps_text : List Shape → List ℕ → List Step → List ℕ
steps_text streams from steps = headed (first_step streams from) (next_step streams from) steps

-- a chain of several elements
abbrev pub order_line : List Shape → List ℕ → ℕ → Chain → List ℕ
order_line streams from part chain = part_head part ++ (steps_text streams from chain.steps.items ++ 10 ∷ [])

-- a chain of a part, as `  part 23 has 0 < S.a = S.b < 9`: nothing where it has one element, which is in no order
abbrev pub chain_line : List Shape → List ℕ → ℕ → Chain → List ℕ
chain_line streams from part chain = if nat_lt 1 (length chain.steps.items) then order_line streams from part chain else []
