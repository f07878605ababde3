-- The text of a certificate: which line a text is, and how a line is printed.
use Rattle.std.specs.Prelude.{◌≡◌, ℕ, ◌<◌, ◌≤◌, true, List, [], ◌∷◌, ◌++◌, ◌==◌, length, codes, decimal}
use Rattle.std.specs.declared.option.Option.{Option}
use Rattle.std.specs.declared.option.Option.TheVariants.{None, Some}
use Rattle.std.specs.List.{All, AllZip, flat_map, slice_split}
use Rattle.sql_text.specs.Value.{is_digits, amount}
use Rattle.cert_format.specs.declared.line.Path.{Path}
use Rattle.cert_format.specs.declared.line.Line.{Line}
use Rattle.cert_format.specs.declared.line.Line.TheVariants as line

-- the words of a text, which is cut at each space
abbrev pub words : List ℕ → List (List ℕ)
words text = slice_split (λ b. b == 32) text

-- a word is a number: one digit or more, of at most 65,535
pub record IsNumber (word : List ℕ) (n : ℕ) : Type 0 where
  pub digits : is_digits word ≡ true
  pub amount_is : amount word ≡ n
  pub small : n < 65536

-- words are numbers, at least one and at most so many
pub record AreNumbers (most : ℕ) (ws : List (List ℕ)) (ns : List ℕ) : Type 0 where
  pub each : AllZip IsNumber ws ns
  pub some : 0 < length ns
  pub few : length ns ≤ most

-- `split P`
pub record IsSplit (ws : List (List ℕ)) (pair : ℕ) : Type 0 where
  pub word : List ℕ
  pub whole : ws ≡ codes "split" ∷ word ∷ []
  pub number : IsNumber word pair

-- `infeasible E1 E2 ..`, with at most 13 numbers
pub record IsInfeasible (ws : List (List ℕ)) (ns : List ℕ) : Type 0 where
  pub behind : List (List ℕ)
  pub whole : ws ≡ codes "infeasible" ∷ behind
  pub numbers : AreNumbers 13 behind ns

-- `against A`
pub record IsAgainst (ws : List (List ℕ)) (comparison : ℕ) : Type 0 where
  pub word : List ℕ
  pub whole : ws ≡ codes "against" ∷ word ∷ []
  pub number : IsNumber word comparison

-- `path I J E1 E2 ..`, with at most 12 numbers behind I and J
pub record IsPathFrom (ws : List (List ℕ)) (p : Path) : Type 0 where
  pub from_word : List ℕ
  pub to_word : List ℕ
  pub behind : List (List ℕ)
  pub whole : ws ≡ codes "path" ∷ from_word ∷ to_word ∷ behind
  pub from : IsNumber from_word p.from
  pub to : IsNumber to_word p.to
  pub numbers : AreNumbers 12 behind p.numbers.items

-- words spell a line
abbrev pub Spells : List (List ℕ) → Line → Type 0
Spells ws (line.Split pair) = IsSplit ws pair
Spells ws (line.Infeasible numbers) = IsInfeasible ws numbers.items
Spells ws (line.Against comparison) = IsAgainst ws comparison
Spells ws line.Leaf = ws ≡ codes "leaf" ∷ []
Spells ws (line.Path p) = IsPathFrom ws p

-- a text is a line of a certificate
abbrev pub IsLine : List ℕ → Line → Type 0
IsLine text l = Spells (words text) l

-- what a text is read as: the line that it is, or none where it is no line
abbrev pub IsReading : List ℕ → Option Line → Type 0
IsReading text None = (l : Line) → ¬ IsLine text l
IsReading text (Some l) = IsLine text l

-- numbers of at most 65,535, at least one and at most so many
pub record HasNumbers (most : ℕ) (ns : List ℕ) : Type 0 where
  pub some : 0 < length ns
  pub few : length ns ≤ most
  pub small : All (λ n. n < 65536) ns

-- the numbers of a path
pub record IsWholePath (p : Path) : Type 0 where
  pub from : p.from < 65536
  pub to : p.to < 65536
  pub numbers : HasNumbers 12 p.numbers.items

-- a line has the numbers that a text can spell
abbrev pub IsWhole : Line → Type 0
IsWhole (line.Split pair) = pair < 65536
IsWhole (line.Infeasible numbers) = HasNumbers 13 numbers.items
IsWhole (line.Against comparison) = comparison < 65536
IsWhole line.Leaf = Unit {0}
IsWhole (line.Path p) = IsWholePath p

-- numbers, each behind a space
abbrev pub numbers_text : List ℕ → List ℕ
numbers_text numbers = flat_map (λ n. 32 ∷ decimal n) numbers

-- a line in its printed form: a keyword and numbers
abbrev pub line_text : Line → List ℕ
line_text (line.Split pair) = codes "split" ++ numbers_text (pair ∷ [])
line_text (line.Infeasible numbers) = codes "infeasible" ++ numbers_text numbers.items
line_text (line.Against comparison) = codes "against" ++ numbers_text (comparison ∷ [])
line_text line.Leaf = codes "leaf"
line_text (line.Path p) = codes "path" ++ numbers_text (p.from ∷ p.to ∷ p.numbers.items)

-- the lines of a certificate in their printed forms, each ended by LF
abbrev pub certificate_text : List Line → List ℕ
certificate_text lines = flat_map (λ l. line_text l ++ 10 ∷ []) lines
