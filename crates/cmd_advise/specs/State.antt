-- What the lines of a script have made, and how many of them came to what.
use Rattle.std.specs.Prelude.{ℕ, ℤ, ◌+◌, ◌-◌, Bool, not, nat_lt, nat_eq, true, false, if◌then◌else◌, List, [], ◌∷◌, ◌++◌, sum, Option, Some, None}
use Rattle.std.specs.List.{position, remove}
use Rattle.std.specs.Str.{bytes_eq}
use Rattle.arrayvec.specs.ArrayVec.{ArrayVec}
use Rattle.io_streams.specs.declared.status.Status.{Status}
use Rattle.io_streams.specs.declared.status.Status.TheVariants.{Done, Invalid}
use Rattle.sem_query.specs.Numbers.{page_count}
use Rattle.sql_catalog.specs.Streams.{Shape, with_stream}
use Rattle.adv_mends.specs.declared.judging.Judgement.{Judgement}
use Rattle.adv_mends.specs.declared.judging.Judgement.TheVariants as judgement
use Rattle.cmd_advise.specs.declared.state.StandingLock.{StandingLock}

-- The streams; the names of the live queries, in the order of their lines, and the pages of the pool that each has; how many lines were read,
-- how many queries were accepted and refused, how many lines are at fault, and how many of these are rows; and the lock that stands, if one does.
pub record State : Type 0 where
  pub streams : List Shape
  pub live : List (List ℕ)
  pub pages : List ℕ
  pub lines : ℕ
  pub accepted : ℕ
  pub refused : ℕ
  pub at_fault : ℕ
  pub rows : ℕ
  pub lock : Option StandingLock

-- before the first line
abbrev pub empty : State
empty = record { streams = []; live = []; pages = []; lines = 0; accepted = 0; refused = 0; at_fault = 0; rows = 0; lock = None }

-- the pages that are free beside those of the live queries
abbrev pub free_pages : State → ℕ
free_pages s = 16384 - sum s.pages

-- the pages of a query that comes to this: a filter has none
abbrev pub pages_for : Judgement → ℕ
pages_for (judgement.Accepted numbers) = page_count numbers.cells
pages_for _ = 0

-- whether a query that comes to this is accepted where so many pages are free
abbrev pub is_accepted : ℕ → Judgement → Bool
is_accepted free judgement.Filter = true
is_accepted free (judgement.Accepted numbers) = not (nat_lt free (page_count numbers.cells))
is_accepted free _ = false

-- one line more
abbrev pub one_line_more : State → State
one_line_more s = record s { lines = s.lines + 1 }

-- one line more, by which a lock stands
abbrev pub one_lock_more : State → Option ℤ → ArrayVec (List ℕ) → State
one_lock_more s key streams = record s { lines = s.lines + 1; lock = Some (record { line = s.lines + 1; key = key; streams = streams }) }

-- one line more, by which none stands
abbrev pub one_lock_less : State → State
one_lock_less s = record s { lines = s.lines + 1; lock = None }

-- one line more, which is at fault, and may be a row
abbrev pub one_fault_more : State → Bool → State
one_fault_more s row = record s { lines = s.lines + 1; at_fault = s.at_fault + 1; rows = if row then s.rows + 1 else s.rows }

-- one stream more
abbrev pub one_stream_more : State → Shape → State
one_stream_more s shape = record s { streams = with_stream s.streams shape; lines = s.lines + 1 }

-- a list without the element at a place, where there is one
abbrev pub without : {A : Type 0} → Option ℕ → List A → List A
without None xs = xs
without (Some place) xs = remove xs place

-- the first live query of a name is live no more
abbrev pub one_query_less : State → List ℕ → State
one_query_less s name = (let place = position (λ other. bytes_eq other name) s.live in record s { live = without place s.live; pages = without place s.pages; lines = s.lines + 1 })

-- a query that is accepted is live, behind the others; one that is refused is not
abbrev pub one_query_more : State → List ℕ → Judgement → State
one_query_more s name judged =
    if is_accepted (free_pages s) judged
    then record s { live = s.live ++ name ∷ []; pages = s.pages ++ pages_for judged ∷ []; lines = s.lines + 1; accepted = s.accepted + 1 }
    else record s { lines = s.lines + 1; refused = s.refused + 1 }

-- the status behind all lines: Done where no query was refused and no line is at fault
abbrev pub status_for : State → Status
status_for s = if nat_eq s.refused 0 then (if nat_eq s.at_fault 0 then Done else Invalid) else Invalid
