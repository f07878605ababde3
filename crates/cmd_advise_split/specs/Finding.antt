-- What is found for the streams and queries of a script.
use Rattle.std.specs.Prelude.{◌≡◌, ℕ, ◌-◌, List, [], length, take, Option}
use Rattle.std.specs.List.{AllZip}
use Rattle.adv_key_decision.specs.declared.judging.Judgement.{Judgement}
use Rattle.adv_key_decision.specs.Judged.{IsJudged}
use Rattle.adv_key_choices.specs.declared.choice.Choice.{Choice}
use Rattle.adv_key_choices.specs.declared.choice.KeyedQuery.{KeyedQuery}
use Rattle.adv_key_choices.specs.Choices.{keys_in, AreLeast}
use Rattle.adv_key_choices.specs.Counting.{HasManyChoices}
use Rattle.adv_key_ranges.specs.declared.ranges.Ranges.{Ranges}
use Rattle.adv_key_ranges.specs.Ranges.{AreRanges}
use Rattle.cmd_advise_split.specs.declared.told.ToldChoice.{ToldChoice}
use Rattle.cmd_advise_split.specs.declared.finding.Finding.{Finding}
use Rattle.cmd_advise_split.specs.declared.finding.Finding.TheVariants.{NoStream, Many, Least}
use Rattle.cmd_advise_split.specs.State.{State, widths_of}

-- how the shards answer each query under a choice
abbrev pub AreJudged : List KeyedQuery → Choice → List Judgement → Type 0
AreJudged queries c judgements = AllZip (λ k how. IsJudged k.query (keys_in c) how) queries judgements

-- of each query that a limit refuses the least number of ranges of its keys with which it is accepted in each
abbrev pub AreRangesOf : List KeyedQuery → Choice → List (Option Ranges) → Type 0
AreRangesOf queries c ranges = AllZip (λ k r. AreRanges k.shared k.query (keys_in c) r) queries ranges

-- the choice is told, with how the shards answer each query under it, and with these numbers
pub record IsTold (queries : List KeyedQuery) (c : Choice) (t : ToldChoice) : Type 0 where
  pub choice : t.choice ≡ c
  pub judged : AreJudged queries c t.judgements.items
  pub ranges : AreRangesOf queries c t.ranges.items

-- the first 16 of the least choices are told, and how many more there are
pub record TellsLeast (s : State) (told : List ToldChoice) (more : ℕ) : Type 0 where
  pub choices : List Choice
  pub least : AreLeast s.queries (widths_of s.streams) choices
  pub each : AllZip (IsTold s.queries) (take 16 choices) told
  pub others : more ≡ length choices - 16

-- there is no stream, there are too many choices to look at, or the least ones are told
abbrev pub IsFinding : State → Finding → Type 0
IsFinding s NoStream = s.streams ≡ []
IsFinding s Many = HasManyChoices (widths_of s.streams)
IsFinding s (Least told more) = TellsLeast s told.items more
