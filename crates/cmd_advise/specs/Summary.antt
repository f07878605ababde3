-- What all lines came to, in one line.
use Rattle.std.specs.Prelude.{ℕ, ◌-◌, List, [], ◌∷◌, codes, decimal, nat_eq, if◌then◌else◌}
use Rattle.adv_templates.specs.Template.{filled}
use Rattle.cmd_advise.specs.declared.state.TheConstants.{SUMMARY}
use Rattle.cmd_advise.specs.State.{State, free_pages}

-- one word for one, and another for any other number
abbrev pub lines_word : ℕ → List ℕ
lines_word n = if nat_eq n 1 then codes "line" else codes "lines"

abbrev pub queries_word : ℕ → List ℕ
queries_word n = if nat_eq n 1 then codes "query" else codes "queries"

-- how many lines were read, how many queries were accepted and the pages that they take, how many were refused, and how many lines are at fault
unfoldable pub summary_text : State → List ℕ
summary_text s =
    filled SUMMARY.now (decimal s.lines ∷ lines_word s.lines ∷ decimal s.accepted ∷ queries_word s.accepted ∷ decimal (16384 - free_pages s) ∷ decimal s.refused ∷ decimal s.at_fault ∷ lines_word s.at_fault ∷ [])
