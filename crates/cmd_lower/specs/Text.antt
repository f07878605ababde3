-- The text of what is found for a query.
use Rattle.std.specs.Prelude.{ℕ, List, [], ◌∷◌, ◌++◌, codes, decimal}
use Rattle.sem_query.specs.Query.{QueryValue}
use Rattle.sql_catalog.specs.Streams.{Shape}
use Rattle.sql_parser.specs.Resolution.{column_named}
use Rattle.sql_parser.specs.Naming.{column_text}
use Rattle.sql_replies.specs.Texts.{condition_text}
use Rattle.fam_text.specs.Text.{rows_text}
use Rattle.cmd_lower.specs.declared.finding.NoFamily.{NoFamily}
use Rattle.cmd_lower.specs.declared.finding.NoFamily.TheVariants as why
use Rattle.cmd_lower.specs.declared.finding.LowerFinding.{LowerFinding}
use Rattle.cmd_lower.specs.declared.finding.LowerFinding.TheVariants.{Nothing, Rows}

-- the line of a query that has no family, as `no family C3`
abbrev pub nothing_text : NoFamily → List ℕ
nothing_text why.Bounded = codes "no family bounded" ++ 10 ∷ []
nothing_text why.Few = codes "no family few" ++ 10 ∷ []
nothing_text why.Form = codes "no family form" ++ 10 ∷ []
nothing_text why.C2 = codes "no family C2" ++ 10 ∷ []
nothing_text why.C3 = codes "no family C3" ++ 10 ∷ []

-- the first line of a family, as `family q part 1 C1 S.a size 2`, by its parts
abbrev pub head_text : List ℕ → List ℕ → List ℕ → List ℕ → List ℕ → List ℕ
head_text name part condition column size = codes "family " ++ name ++ codes " part " ++ part ++ 32 ∷ condition ++ 32 ∷ column ++ codes " size " ++ size ++ 10 ∷ []

-- the last line of a family
abbrev pub end_text : List ℕ → List ℕ
end_text name = codes "end " ++ name ++ 10 ∷ []

-- the text of what is found for the query of this name: the rows of a family stand between its first and its last line
abbrev pub finding_text : List Shape → List ℕ → QueryValue → ℕ → LowerFinding → List ℕ
finding_text streams name q n (Nothing reason) = nothing_text reason
finding_text streams name q n (Rows part condition attr family) =
    head_text name (decimal part) (condition_text condition) (column_text (column_named streams q.from attr)) (decimal n) ++ (rows_text streams n family ++ end_text name)
