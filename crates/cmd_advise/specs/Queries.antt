-- What is said of a query.
use Rattle.std.specs.Prelude.{ℕ, nat_lt, nat_eq, if◌then◌else◌, List, [], ◌++◌}
use Rattle.std.specs.List.{flat_map}
use Rattle.sem_query.specs.declared.atom.Attr.{Attr}
use Rattle.sem_query.specs.declared.condition.Condition.{Condition}
use Rattle.sem_query.specs.declared.decision.Which.{Which}
use Rattle.sem_query.specs.declared.plan.Numbers.{Numbers}
use Rattle.sem_query.specs.Numbers.{page_count}
use Rattle.sql_catalog.specs.Streams.{Shape}
use Rattle.sql_parser.specs.Resolution.{column_named}
use Rattle.adv_mends.specs.declared.judging.Judgement.{Judgement}
use Rattle.adv_mends.specs.declared.judging.Judgement.TheVariants as judgement
use Rattle.cmd_advise.specs.declared.queries.AdvisedQuery.{AdvisedQuery}
use Rattle.adv_lines.specs.Lines.{numbers_text, query_line, pool_line, above_line, violation_line}
use Rattle.cmd_advise.specs.declared.queries.TheConstants.{NEVER, NO_ROW, MANY, NO_MORE}
use Rattle.cmd_advise.specs.Changes.{same_text, changes_text, lifting_text, mends_text}
use Rattle.cmd_advise.specs.Parts.{kept_line, chain_line}

-- what is said of the line of a query
abbrev pub said_line : AdvisedQuery → List ℕ → List ℕ
said_line a said = query_line a.number a.name said

-- a query of several parts that is accepted: its numbers, the parts that keep the most cells, and what makes it cheaper and keeps every answer
abbrev pub parts_text : List Shape → List ℕ → AdvisedQuery → Numbers → List ℕ
parts_text streams from a numbers = said_line a NO_MORE.now ++ (numbers_text numbers ++ (flat_map (kept_line streams from) a.advice.dearest.items ++ same_text a.advice))

-- a query that is within the limits and needs more pages than are free, the parts that keep the most cells, and what takes fewer pages
abbrev pub pool_text : List Shape → List ℕ → AdvisedQuery → ℕ → List ℕ
pool_text streams from a needed = pool_line a.number a.name needed a.free ++ (flat_map (kept_line streams from) a.advice.dearest.items ++ changes_text streams from a.advice)

-- what is said of a query that is within the limits: nothing where its pages are free and it has one part
abbrev pub accepted_text : List Shape → List ℕ → AdvisedQuery → Numbers → List ℕ
accepted_text streams from a numbers =
    if nat_lt a.free (page_count numbers.cells) then pool_text streams from a (page_count numbers.cells) else
    (if nat_eq numbers.parts 0 then said_line a NEVER.now else (if nat_eq numbers.parts 1 then [] else parts_text streams from a numbers))

-- the parts that keep the most cells, and what lifts the limit that refuses the query
abbrev pub limit_of : List Shape → List ℕ → AdvisedQuery → List ℕ
limit_of streams from a = flat_map (kept_line streams from) a.advice.dearest.items ++ lifting_text streams from a.advice

-- what is said of a query of which a number is above its limit
abbrev pub above_text : List Shape → List ℕ → AdvisedQuery → Which → ℕ → List ℕ
above_text streams from a which value = above_line a.number a.name which value ++ limit_of streams from a

-- what is said of a query of too many parts
abbrev pub many_text : List Shape → List ℕ → AdvisedQuery → List ℕ
many_text streams from a = said_line a MANY.now ++ limit_of streams from a

-- the condition that a query breaks first
abbrev pub broken_line : List Shape → List ℕ → AdvisedQuery → ℕ → Condition → Attr → List ℕ
broken_line streams from a part condition attr = violation_line a.number a.name part a.query.distinct condition (column_named streams from attr)

-- what is said of a query that breaks a condition: that, what the part orders that breaks it, and what mends the query
abbrev pub broken_text : List Shape → List ℕ → AdvisedQuery → ℕ → Condition → Attr → List ℕ
broken_text streams from a part condition attr = broken_line streams from a part condition attr ++ (flat_map (chain_line streams from part) a.advice.chains.items ++ mends_text streams from a.advice)

-- what is said of a filter: nothing, but where no row meets its comparisons
abbrev pub filter_text : AdvisedQuery → List ℕ
filter_text a = if a.advice.never then said_line a NO_ROW.now else []

-- what is said of a query that comes to this
abbrev pub judged_text : List Shape → List ℕ → AdvisedQuery → Judgement → List ℕ
judged_text streams from a judgement.Filter = filter_text a
judged_text streams from a (judgement.Accepted numbers) = accepted_text streams from a numbers
judged_text streams from a (judgement.Above which value) = above_text streams from a which value
judged_text streams from a (judgement.Violation part condition attr) = broken_text streams from a part condition attr
judged_text streams from a judgement.ManyParts = many_text streams from a

-- what is said of a query, over these streams
abbrev pub query_text : List Shape → AdvisedQuery → List ℕ
query_text streams a = judged_text streams a.query.from a a.advice.judgement
