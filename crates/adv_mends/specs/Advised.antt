-- What is advised for a query.
use Rattle.std.specs.Prelude.{◌≡◌, ℕ, ◌<◌, ◌↔◌, Bool, true, false, ◌||◌, nat_lt, IsTrue, IsFalse, List, [], ◌∷◌, length, take}
use Rattle.std.specs.declared.option.Option.{Option}
use Rattle.std.specs.declared.option.Option.TheVariants.{None, Some}
use Rattle.sem_query.specs.declared.plan.Numbers.{Numbers}
use Rattle.sem_query.specs.Query.{QueryValue}
use Rattle.adv_mends.specs.declared.judging.Judgement.{Judgement}
use Rattle.adv_mends.specs.declared.judging.Judgement.TheVariants as judgement
use Rattle.adv_mends.specs.declared.mend.ChangeKind.{ChangeKind}
use Rattle.adv_mends.specs.declared.mend.ChangeKind.TheVariants as kind
use Rattle.adv_mends.specs.declared.mend.Mend.{Mend}
use Rattle.adv_mends.specs.declared.mend.Mend.TheVariants.{Distinct, Compact, Shared}
use Rattle.adv_mends.specs.declared.searching.LeastSets.{LeastSets}
use Rattle.adv_mends.specs.declared.comparing.Cheaper.{Cheaper}
use Rattle.adv_mends.specs.declared.advising.QueryAdvice.{QueryAdvice}
use Rattle.adv_mends.specs.Mended.{Mends}
use Rattle.adv_mends.specs.Sets.{AreLeastSets}
use Rattle.adv_mends.specs.Numbered.{IsJudgement}
use Rattle.adv_mends.specs.Comparisons.{comparisons_of, AreFewer, AreBest}
use Rattle.adv_mends.specs.Meeting.{NeverMeets}
use Rattle.adv_mends.specs.Violating.{AreChainsFor}
use Rattle.adv_mends.specs.Dearest.{AreDearestFor}
use Rattle.adv_mends.specs.Narrowed.{AreNarrowings}

-- the most sets of columns that are looked at, all of eight columns, and the most comparisons that are tried, all of 12 columns and 6 integers
abbrev pub most_sets : ℕ
most_sets = 93

abbrev pub most_comparisons : ℕ
most_comparisons = 144

-- whether a query is refused by a condition
abbrev pub breaks_condition : Judgement → Bool
breaks_condition judgement.Filter = false
breaks_condition (judgement.Accepted numbers) = false
breaks_condition (judgement.Above which value) = false
breaks_condition (judgement.Violation part condition attr) = true
breaks_condition judgement.ManyParts = false

-- whether a query is refused, or accepted with more than one part
abbrev pub has_cost : Judgement → Bool
has_cost judgement.Filter = false
has_cost (judgement.Accepted numbers) = nat_lt 1 numbers.parts
has_cost (judgement.Above which value) = true
has_cost (judgement.Violation part condition attr) = true
has_cost judgement.ManyParts = true

-- the least sets of columns that mend a query, where a condition refuses it, and else none
pub record AreSetsFor (kind : ChangeKind) (q : QueryValue) (own : Judgement) (sets : LeastSets) : Type 0 where
  pub refused : IsTrue (breaks_condition own) → AreLeastSets kind q most_sets sets.found.items sets.cut_short
  pub other : IsFalse (breaks_condition own) → (sets.found.items ≡ []) × IsFalse sets.cut_short

-- the numbers of a query with a change that it has not, where it is accepted with it and has fewer cells than it comes to
pub record AreBetterNumbers (shared : Bool) (q : QueryValue) (own : Judgement) (mend : Mend) (has : Bool) (numbers : Option Numbers) : Type 0 where
  pub before : IsTrue has → numbers ≡ None
  pub found : IsFalse has → AreFewer shared q own mend numbers

-- the best comparisons, where the query is refused or has more than one part and is not compact, and else none
pub record AreComparisonsFor (shared : Bool) (q : QueryValue) (own : Judgement) (list : List Cheaper) (cut_short : Bool) : Type 0 where
  pub compact : IsTrue q.compact → (list ≡ []) × IsFalse cut_short
  pub dear : IsFalse q.compact → IsTrue (has_cost own) → AreBest shared q own (take most_comparisons (comparisons_of q)) list × (IsTrue cut_short ↔ most_comparisons < length (comparisons_of q))
  pub other : IsFalse (has_cost own) → (list ≡ []) × IsFalse cut_short

-- whether a limit refuses a query
abbrev pub passes_limit : Judgement → Bool
passes_limit judgement.Filter = false
passes_limit (judgement.Accepted numbers) = false
passes_limit (judgement.Above which value) = true
passes_limit (judgement.Violation part condition attr) = false
passes_limit judgement.ManyParts = true

-- whether a change is told with which the query is accepted: a comparison, COMPACT or shared cells
abbrev pub is_lifted : List Cheaper → Option Numbers → Option Numbers → Bool
is_lifted [] None None = false
is_lifted [] None (Some shared) = true
is_lifted [] (Some compact) shared = true
is_lifted (c ∷ cheaper) compact shared = true

-- the widest ranges of single columns with which the query is accepted, where a limit refuses it and no change lifts that, and else none
pub record AreNarrowingsFor (shared : Bool) (q : QueryValue) (own : Judgement) (lifted : Bool) (list : List Cheaper) : Type 0 where
  pub stuck : IsTrue (passes_limit own) → IsFalse lifted → AreNarrowings shared q own list
  pub fine : IsFalse (passes_limit own) → list ≡ []
  pub other : IsTrue lifted → list ≡ []

-- what the query comes to and what would mend it or make it cheaper, and whether one of the searches was cut short
pub record IsAdvice (share : Bool) (q : QueryValue) (advice : QueryAdvice) : Type 0 where
  pub judgement : IsJudgement share q advice.judgement
  pub never : IsTrue advice.never ↔ NeverMeets q
  pub chains : AreChainsFor q advice.judgement advice.chains.items
  pub dearest : AreDearestFor q advice.judgement advice.dearest.items
  pub distinct : IsTrue advice.distinct ↔ (IsTrue (breaks_condition advice.judgement) × IsFalse q.distinct × Mends Distinct q)
  pub bounds : AreSetsFor kind.Bounds q advice.judgement advice.bounds
  pub domains : AreSetsFor kind.Domains q advice.judgement advice.domains
  pub compact : AreBetterNumbers share q advice.judgement Compact q.compact advice.compact
  pub shared : AreBetterNumbers share q advice.judgement Shared share advice.shared
  pub stopped : Bool
  pub cheaper : AreComparisonsFor share q advice.judgement advice.cheaper.items stopped
  pub narrowed : AreNarrowingsFor share q advice.judgement (is_lifted advice.cheaper.items advice.compact advice.shared) advice.narrowed.items
  pub cut_short : advice.cut_short ≡ advice.bounds.cut_short || advice.domains.cut_short || stopped
