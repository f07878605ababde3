-- The text of what is found.
use Rattle.std.specs.Prelude.{ℕ, nat_eq, if◌then◌else◌, List, [], ◌∷◌, ◌++◌, length, codes, decimal}
use Rattle.std.specs.List.{flat_map, range_with_len}
use Rattle.std.specs.Fmt.{signed_decimal}
use Rattle.std.specs.declared.option.Option.{Option}
use Rattle.std.specs.declared.option.Option.TheVariants.{None, Some}
use Rattle.sql_catalog.specs.Streams.{Shape, shape_at, column_at}
use Rattle.sql_replies.specs.Texts.{which_text}
use Rattle.adv_templates.specs.Template.{filled}
use Rattle.adv_key_decision.specs.declared.judging.Judgement.{Judgement}
use Rattle.adv_key_decision.specs.declared.judging.Judgement.TheVariants.{Apart, Deduped, Home, Torn}
use Rattle.adv_key_choices.specs.declared.choice.Choice.{Choice}
use Rattle.adv_key_choices.specs.Choices.{keys_in}
use Rattle.adv_key_ranges.specs.declared.ranges.Ranges.{Ranges}
use Rattle.adv_key_ranges.specs.declared.searching.Least.{Least}
use Rattle.adv_key_ranges.specs.declared.searching.Least.TheVariants.{Number, NoneUpTo}
use Rattle.cmd_advise_split.specs.declared.ranges.TheConstants as lines
use Rattle.cmd_advise_split.specs.declared.told.ToldChoice.{ToldChoice}
use Rattle.cmd_advise_split.specs.declared.finding.Finding.{Finding}
use Rattle.cmd_advise_split.specs.declared.finding.Finding.TheVariants as finding

-- what stands before a stream
abbrev pub lead : ℕ → List ℕ
lead n = if nat_eq n 0 then codes "deal " else codes ", "

-- a stream that is dealt by a column, as `deal Temp by room`
abbrev pub dealt_text : List ℕ → List ℕ → List ℕ → List ℕ
dealt_text front stream column = front ++ (stream ++ (codes " by " ++ (column ++ [])))

-- a stream that is broadcast, as `, Watch to all`
abbrev pub broadcast_text : List ℕ → List ℕ → List ℕ
broadcast_text front stream = front ++ (stream ++ (codes " to all" ++ []))

-- a stream, by its key
abbrev pub by_key_text : List Shape → ℕ → Option ℕ → List ℕ
by_key_text streams n None = broadcast_text (lead n) (shape_at streams n).name
by_key_text streams n (Some column) = dealt_text (lead n) (shape_at streams n).name (column_at (shape_at streams n).columns column)

-- the stream of a number, by a choice
abbrev pub stream_text : List Shape → Choice → ℕ → List ℕ
stream_text streams c n = by_key_text streams n (keys_in c n)

-- all streams, by a choice, as `deal Temp by room, Lim by room, Watch to all`
abbrev pub deal_text : List Shape → Choice → List ℕ
deal_text streams c = flat_map (stream_text streams c) (range_with_len 0 (length streams))

-- how the shards of a query answer
abbrev pub judgement_text : Judgement → List ℕ
judgement_text Apart = codes ": the answers of the shards together are the answers\n"
judgement_text Deduped = codes ": shards may answer a tuple each, of equal tuples the first counts\n"
judgement_text Home = codes ": create it in one shard alone, else each shard answers it\n"
judgement_text Torn = codes ": rows that belong together may be in different shards\n"

-- a query, as `  hot: the answers of the shards together are the answers`
abbrev pub query_text : List ℕ → List ℕ → List ℕ
query_text name what = codes "  " ++ (name ++ (what ++ []))

-- what stands before the number of ranges, and the number
abbrev pub least_lead : Least → List ℕ
least_lead (Number k) = []
least_lead (NoneUpTo m) = codes "none up to "

abbrev pub least_number : Least → ℕ
least_number (Number k) = k
least_number (NoneUpTo m) = m

-- the line of ranges, as `    refused limit cells; ranges of 1..1000000 with which it is accepted in each: 16`
abbrev pub some_ranges_text : Ranges → List ℕ
some_ranges_text r =
    filled lines.RANGES.now (which_text r.which ∷ signed_decimal r.ends.lo ∷ signed_decimal r.ends.hi ∷ least_lead r.least ∷ decimal (least_number r.least) ∷ [])

-- nothing where there is nothing to say
abbrev pub ranges_text : Option Ranges → List ℕ
ranges_text None = []
ranges_text (Some r) = some_ranges_text r

-- a query, and its ranges
abbrev pub one_query_text : List ℕ → Judgement → Option Ranges → List ℕ
one_query_text name how ranges = query_text name (judgement_text how) ++ ranges_text ranges

-- the queries, in the order of their lines
abbrev pub queries_text : List (List ℕ) → List Judgement → List (Option Ranges) → List ℕ
queries_text [] judgements ranges = []
queries_text (name ∷ names) [] ranges = []
queries_text (name ∷ names) (how ∷ others) [] = []
queries_text (name ∷ names) (how ∷ others) (r ∷ ranges) = one_query_text name how r ++ queries_text names others ranges

-- a choice, and its queries
abbrev pub choice_text : List Shape → List (List ℕ) → ToldChoice → List ℕ
choice_text streams names t = deal_text streams t.choice ++ (10 ∷ queries_text names t.judgements.items t.ranges.items)

-- how many choices more there are
abbrev pub more_text : ℕ → List ℕ
more_text more = if nat_eq more 0 then [] else decimal more ++ (codes " choices more\n" ++ [])

-- what is found
abbrev pub finding_text : List Shape → List (List ℕ) → Finding → List ℕ
finding_text streams names finding.NoStream = codes "the script creates no stream\n"
finding_text streams names finding.Many = codes "the streams have more than 1048576 choices of keys, too many to look at\n"
finding_text streams names (finding.Least told more) = flat_map (choice_text streams names) told.items ++ more_text more
