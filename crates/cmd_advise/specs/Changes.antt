-- What is said of the changes that make a query cheaper, lift a limit or mend it: first those that keep every answer, and then those that leave rows out.
use Rattle.std.specs.Prelude.{ℕ, Bool, true, false, not, ◌||◌, if◌then◌else◌, List, [], ◌∷◌, ◌++◌, codes}
use Rattle.std.specs.List.{flat_map}
use Rattle.std.specs.declared.option.Option.{Option}
use Rattle.std.specs.declared.option.Option.TheVariants.{None, Some}
use Rattle.sem_query.specs.declared.plan.Numbers.{Numbers}
use Rattle.sql_catalog.specs.Streams.{Shape}
use Rattle.adv_mends.specs.declared.comparing.Cheaper.{Cheaper}
use Rattle.adv_mends.specs.declared.advising.QueryAdvice.{QueryAdvice}
use Rattle.adv_lines.specs.declared.items.Remedy.TheVariants.{Comparisons, Domains}
use Rattle.adv_lines.specs.Lines.{text_if}
use Rattle.adv_lines.specs.Items.{change_line, comparison_line, set_line}
use Rattle.cmd_advise.specs.declared.changes.TheConstants.{SAME_ANSWERS, LEAVES_OUT, BY_DISTINCT, ENDS, NOTHING, CUT_SHORT, NARROW, NOT_LIFTED}

-- whether there is none
abbrev pub is_empty : {A : Type 0} → List A → Bool
is_empty [] = true
is_empty (x ∷ xs) = false

-- whether a change is told
abbrev pub is_told : Option Numbers → Bool
is_told None = false
is_told (Some numbers) = true

-- with one comparison more
abbrev pub cheaper_line : List Shape → List ℕ → Cheaper → List ℕ
cheaper_line streams from c = comparison_line streams from c.atom c.numbers

-- whether a comparison is told
abbrev pub has_comparisons : QueryAdvice → Bool
has_comparisons advice = not (is_empty advice.cheaper.items) || not (is_empty advice.narrowed.items)

-- whether some set of columns mends the query
abbrev pub has_sets : QueryAdvice → Bool
has_sets advice = not (is_empty advice.bounds.found.items) || not (is_empty advice.domains.found.items)

-- whether numbers are told of COMPACT or of shared cells
abbrev pub has_numbers : QueryAdvice → Bool
has_numbers advice = is_told advice.compact || is_told advice.shared

-- whether a change is told that keeps every answer
abbrev pub keeps_answers : QueryAdvice → Bool
keeps_answers advice = has_numbers advice || advice.distinct

-- whether any change is told but sets of columns
abbrev pub has_change : QueryAdvice → Bool
has_change advice = keeps_answers advice || has_comparisons advice

-- whether a change is told that leaves rows out
abbrev pub leaves_out : QueryAdvice → Bool
leaves_out advice = has_comparisons advice || has_sets advice

-- whether anything mends the query
abbrev pub has_mend : QueryAdvice → Bool
has_mend advice = keeps_answers advice || leaves_out advice

-- the changes that keep every answer under their heading, where there are some: COMPACT, shared cells, and DISTINCT
unfoldable pub same_text : QueryAdvice → List ℕ
same_text advice =
    text_if (keeps_answers advice) SAME_ANSWERS.now ++ (change_line (codes "COMPACT") advice.compact ++ (change_line (codes "SHARED") advice.shared ++ text_if advice.distinct BY_DISTINCT.now))

-- with one comparison more, of both kinds
abbrev pub compared_text : List Shape → List ℕ → QueryAdvice → List ℕ
compared_text streams from advice = flat_map (cheaper_line streams from) advice.cheaper.items ++ flat_map (cheaper_line streams from) advice.narrowed.items

-- what makes a query cheaper or lifts a limit: COMPACT, shared cells, and one comparison more under a heading, each with the numbers of the query that has it
abbrev pub changes_text : List Shape → List ℕ → QueryAdvice → List ℕ
changes_text streams from advice = same_text advice ++ (text_if (has_comparisons advice) LEAVES_OUT.now ++ compared_text streams from advice)

-- that no change lifts the limit, by whether ranges are named
abbrev pub not_lifted : QueryAdvice → List ℕ
not_lifted advice = if has_change advice then [] else (if is_empty advice.dearest.items then NOT_LIFTED.now else NARROW.now)

-- the changes that lift a limit, or that none does, and that not all was tried
abbrev pub lifting_text : List Shape → List ℕ → QueryAdvice → List ℕ
lifting_text streams from advice = changes_text streams from advice ++ (not_lifted advice ++ text_if advice.cut_short CUT_SHORT.now)

-- the sets of columns of which each mends the query, by two comparisons on each column and by a domain on each, and which integers were tried
abbrev pub sets_text : List Shape → List ℕ → QueryAdvice → List ℕ
sets_text streams from advice =
    flat_map (set_line Comparisons streams from) advice.bounds.found.items ++ (flat_map (set_line Domains streams from) advice.domains.found.items ++ text_if (has_sets advice) ENDS.now)

-- what mends a query: first what keeps every answer, COMPACT or DISTINCT, and then a set of columns, or one comparison more; or that nothing does, and that not all was tried
abbrev pub mends_text : List Shape → List ℕ → QueryAdvice → List ℕ
mends_text streams from advice =
    same_text advice ++ (text_if (leaves_out advice) LEAVES_OUT.now ++ (sets_text streams from advice ++ (compared_text streams from advice
    ++ (text_if (not (has_mend advice)) NOTHING.now ++ text_if advice.cut_short CUT_SHORT.now))))
