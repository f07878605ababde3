-- What the steps of reading a line give: the line that words spell, word by word.
use Rattle.std.specs.Prelude.{ℕ, ℤ, pos, negsuc, ◌&&◌, nat_lt, nat_le, if◌then◌else◌, List, [], ◌∷◌, length, codes}
use Rattle.std.specs.declared.option.Option.{Option}
use Rattle.std.specs.declared.option.Option.TheVariants.{None, Some}
use Rattle.std.specs.Option.{option_and_then, option_map}
use Rattle.std.specs.Str.{bytes_eq}
use Rattle.sql_text.specs.Value.{is_digits, amount}
use Rattle.cert_format.specs.declared.line.Line.{Line}
use Rattle.cert_format.specs.declared.line.Line.TheVariants as line
use Rattle.cert_format.specs.declared.reading.Keyword.{Keyword}
use Rattle.cert_format.specs.declared.reading.Keyword.TheVariants as keyword

-- an integer as a number of at most 65,535
abbrev pub small : ℤ → Option ℕ
small (pos n) = if nat_lt n 65536 then Some n else None
small (negsuc n) = None

-- the number that a word is
unfoldable pub number_of : List ℕ → Option ℕ
number_of word = if is_digits word && nat_lt (amount word) 65536 then Some (amount word) else None

-- the numbers that words are
abbrev pub numbers_of : List (List ℕ) → Option (List ℕ)
numbers_of [] = Some []
numbers_of (word ∷ ws) = option_and_then (λ n. option_map (λ ns. n ∷ ns) (numbers_of ws)) (number_of word)

-- some numbers, where there is one and no more than so many
abbrev pub up_to : ℕ → List ℕ → Option (List ℕ)
up_to most ns = if nat_lt 0 (length ns) && nat_le (length ns) most then Some ns else None

-- the numbers that words are, at least one and at most so many
abbrev pub chain_of : ℕ → List (List ℕ) → Option (List ℕ)
chain_of most ws = option_and_then (up_to most) (numbers_of ws)

-- the keyword that a word is
unfoldable pub keyword_of : List ℕ → Option Keyword
keyword_of word =
    if bytes_eq word (codes "split") then Some keyword.Split else
    (if bytes_eq word (codes "infeasible") then Some keyword.Infeasible else
    (if bytes_eq word (codes "against") then Some keyword.Against else
    (if bytes_eq word (codes "leaf") then Some keyword.Leaf else
    (if bytes_eq word (codes "path") then Some keyword.Path else None))))

-- the split that words behind its keyword spell
abbrev pub split_of : List (List ℕ) → Option Line
split_of [] = None
split_of (word ∷ []) = option_map line.Split (number_of word)
split_of (word ∷ other ∷ ws) = None

-- the infeasible node
abbrev pub infeasible_of : List (List ℕ) → Option Line
infeasible_of ws = option_map (λ ns. line.Infeasible record { items = ns }) (chain_of 13 ws)

-- the branch that a comparison closes
abbrev pub against_of : List (List ℕ) → Option Line
against_of [] = None
against_of (word ∷ []) = option_map line.Against (number_of word)
against_of (word ∷ other ∷ ws) = None

-- the leaf, behind whose keyword no word stands
abbrev pub leaf_of : List (List ℕ) → Option Line
leaf_of [] = Some line.Leaf
leaf_of (word ∷ ws) = None

-- the path
abbrev pub path_of : List (List ℕ) → Option Line
path_of [] = None
path_of (from_word ∷ []) = None
path_of (from_word ∷ to_word ∷ ws) =
    option_and_then (λ from. option_and_then (λ to. option_map (λ ns. line.Path record { from = from; to = to; numbers = record { items = ns } }) (chain_of 12 ws)) (number_of to_word)) (number_of from_word)

-- the line that words behind a keyword spell
abbrev pub line_behind : Keyword → List (List ℕ) → Option Line
line_behind keyword.Split ws = split_of ws
line_behind keyword.Infeasible ws = infeasible_of ws
line_behind keyword.Against ws = against_of ws
line_behind keyword.Leaf ws = leaf_of ws
line_behind keyword.Path ws = path_of ws

-- the line that words spell
abbrev pub line_of : List (List ℕ) → Option Line
line_of [] = None
line_of (word ∷ ws) = option_and_then (λ k. line_behind k ws) (keyword_of word)
