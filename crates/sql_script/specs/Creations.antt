-- What a line of a script creates.
use Rattle.std.specs.Prelude.{◌≡◌, ℕ, Bool, true, false, List, [], ◌∷◌, ◌++◌}
use Rattle.std.specs.declared.result.Result.{Result}
use Rattle.std.specs.declared.result.Result.TheVariants.{Ok, Err}
use Rattle.sql_text.specs.declared.key.Key.{Key}
use Rattle.sql_text.specs.declared.key.Key.TheVariants.{CreateKey}
use Rattle.sql_lexer.specs.declared.token.Token.{Token}
use Rattle.sql_lexer.specs.declared.token.TokenKind.{TokenKind}
use Rattle.sql_lexer.specs.declared.token.TokenKind.TheVariants.{Reserved}
use Rattle.sql_catalog.specs.Streams.{Shape}
use Rattle.sql_parser.specs.declared.tree.SelectAst.{SelectAst}
use Rattle.sql_parser.specs.declared.tree.Statement.TheVariants.{CreateQuery}
use Rattle.sql_parser.specs.Resolution.{HasNamed}
use Rattle.sql_replies.specs.declared.refusal.Refusal.{Refusal}
use Rattle.sql_script.specs.declared.creation.Asked.{Asked}
use Rattle.sql_script.specs.declared.creation.Creation.{Creation}
use Rattle.sql_script.specs.declared.creation.Creation.TheVariants.{Stream, Query}
use Rattle.sql_script.specs.Script.{ScriptLine, stream, query, refused, IsScriptStatement, IsScriptLine}

-- whether a reserved word is CREATE
abbrev pub is_create_key : Key → Bool
is_create_key CreateKey = true
is_create_key _ = false

-- whether the kind of a token is the word CREATE
abbrev pub is_create : TokenKind → Bool
is_create (Reserved k) = is_create_key k
is_create _ = false

-- whether the first token is the word CREATE
abbrev pub begin_with_create : Result (List Token) ℕ → Bool
begin_with_create (Ok []) = false
begin_with_create (Ok (t ∷ ts)) = is_create t.kind
begin_with_create (Err at) = false

-- a stream is added
pub record TakesStream (streams : List Shape) (line : ScriptLine) (now : List Shape) : Type 0 where
  pub shape : Shape
  pub is : line ≡ stream shape
  pub added : now ≡ streams ++ shape ∷ []

-- the query is asked for by this statement
pub record TakesQuery (asked : Asked) (streams : List Shape) (line : ScriptLine) (now : List Shape) : Type 0 where
  pub name : List ℕ
  pub select : SelectAst
  pub shared : Bool
  pub states : asked.statement ≡ CreateQuery name select shared
  pub is : line ≡ query name select shared asked.query
  pub same : now ≡ streams
  pub named : HasNamed streams asked.query

-- What a line does to the streams: it adds one, or asks for the query, or is refused.
abbrev pub Takes : Result Creation Refusal → List Shape → ScriptLine → List Shape → Type 0
Takes (Ok Stream) streams line now = TakesStream streams line now
Takes (Ok (Query asked)) streams line now = TakesQuery asked streams line now
Takes (Err word) streams line now = (line ≡ refused word) × (now ≡ streams)

-- what a text does that is read as a statement
pub record TakesText (result : Result Creation Refusal) (streams : List Shape) (text : List ℕ) (now : List Shape) : Type 0 where
  pub line : ScriptLine
  pub is_line : IsScriptStatement streams text line
  pub takes : Takes result streams line now

-- what a line does
pub record TakesLine (result : Result Creation Refusal) (streams : List Shape) (bytes : List ℕ) (now : List Shape) : Type 0 where
  pub line : ScriptLine
  pub is_line : IsScriptLine streams bytes line
  pub takes : Takes result streams line now
