-- What stands behind the query.
use Rattle.std.proofs.Common.{◌≡◌, ℕ, Bool, List, [], ◌∷◌, ◌++◌, length, refl, ap, ◌∙◌, append_assoc, length-append, arith}
use Rattle.io_streams.specs.Source.{SourceState}
use Rattle.io_line_reader.specs.Reading.{Reading}
use Rattle.sem_query.specs.Query.{QueryValue}
use Rattle.sql_catalog.specs.Streams.{Shape}
use Rattle.sql_parser.specs.declared.tree.SelectAst.{SelectAst}
use Rattle.sql_script.specs.declared.texts.TextAnswer.{TextAnswer}
use Rattle.sql_script.specs.declared.texts.TextAnswer.TheVariants as answers
use Rattle.sql_script.specs.Script as scripts
use Rattle.sql_script.specs.Script.{Asks}
use Rattle.sql_script.specs.Ends.{GivesText, ReadsBlank, blank_end}

-- a line that is not blank is refused
pub behind : (answer : TextAnswer) (source now : SourceState) (given : List (List ℕ)) (reader : Reading) → GivesText answer source now given reader → ReadsBlank (blank_end answer reader.lines) source now given reader
behind answers.Text source now given reader t = record {
  blanks = t.blanks;
  line = t.line;
  front = t.front;
  lines = t.lines;
  blank = t.blank;
  holds = (t.holds.0, scripts.loud t.holds.2 t.holds.3 refl);
}
behind answers.TooLong source now given reader t = record {
  blanks = t.blanks;
  line = t.line;
  front = t.front;
  lines = t.lines;
  blank = t.blank;
  holds = (t.holds.0, scripts.IsMisplaced.too_long t.holds.1 refl);
}
behind answers.End source now given reader t = t
behind answers.ReadFault source now given reader t = t
behind answers.ByteLimit source now given reader t = t

-- lines that ask for a query still do where more lines stand behind them
abbrev pub asks-more : (lines more : List (List ℕ)) (streams : List Shape) (name : List ℕ) (select : SelectAst) (shared : Bool) (q : QueryValue) (number : ℕ) → Asks lines streams name select shared q number → Asks (lines ++ more) streams name select shared q number
asks-more lines more streams name select shared q number a = record {
  before = a.before;
  line = a.line;
  behind = a.behind ++ more;
  whole = ap (λ l. l ++ more) a.whole ∙ append_assoc a.before (a.line ∷ a.behind) more;
  create = a.create;
  is = a.is;
  number_is = a.number_is;
}

no-more : (xs : List (List ℕ)) → length xs ≡ 0 → xs ≡ []
no-more [] e = refl
no-more (x ∷ xs) e = absurd (omega arith)

-- the line of the query is the last of those that were given up to it
pub none-behind : (given : List (List ℕ)) (streams : List Shape) (name : List ℕ) (select : SelectAst) (shared : Bool) (q : QueryValue) (number : ℕ)
    → (a : Asks given streams name select shared q number) → number ≡ length given → a.behind ≡ []
none-behind given streams name select shared q number a last =
    no-more a.behind (omega (arith, last, a.number_is, ap length a.whole, length-append a.before (a.line ∷ a.behind)))

-- lines that ask for a query, and more lines behind them
abbrev pub asks-then : (given more all : List (List ℕ)) (streams : List Shape) (name : List ℕ) (select : SelectAst) (shared : Bool) (q : QueryValue) (number : ℕ)
    → (a : Asks given streams name select shared q number) → a.behind ≡ [] → all ≡ given ++ more → Asks all streams name select shared q number
asks-then given more all streams name select shared q number a none e = record {
  before = a.before;
  line = a.line;
  behind = more;
  whole = e ∙ ap (λ l. l ++ more) (a.whole ∙ ap (λ l. a.before ++ a.line ∷ l) none) ∙ append_assoc a.before (a.line ∷ []) more;
  create = a.create;
  is = a.is;
  number_is = a.number_is;
}
