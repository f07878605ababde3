-- Tokens that the code writes, and what they say.
use Rattle.std.specs.Prelude.{ℕ, Bool, true, false, List, [], ◌∷◌, ◌++◌}
use Rattle.sql_printer.specs.declared.pieces.Piece.{Piece}
use Rattle.sql_printer.specs.declared.pieces.Piece.TheVariants as pieces
use Rattle.sql_parser.specs.Grammar.{Lexeme, word, number}
use Rattle.sql_printer.specs.Printed.{text_for, joins, joins_short, gap_by}
use Rattle.sql_parser.specs.Syntax.{lexeme_as}

-- what a piece says
abbrev pub said : Piece → Lexeme
said (pieces.Word w) = word w
said (pieces.Integer z) = number z
said (pieces.Other k) = lexeme_as k []

-- whether no space stands between two tokens, in the short form or in the printed one
abbrev pub close_by : Bool → Lexeme → Lexeme → Bool
close_by true = joins_short
close_by false = joins

-- what stands behind a token
abbrev pub behind_by : (Lexeme → Lexeme → Bool) → Lexeme → List Lexeme → List ℕ
behind_by close l [] = []
behind_by close l (m ∷ ls) = (gap_by close l m ++ text_for m) ++ behind_by close m ls
