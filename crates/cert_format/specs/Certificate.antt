-- What contracts see of a certificate.
use Rattle.std.specs.Prelude.{◌≡◌, ℕ, ◌+◌, ◌-◌, ◌<◌, ◌≤◌, Bool, true, false, List, [], ◌∷◌, ◌++◌, length, slice_get}
use Rattle.std.specs.declared.option.Option.{Option}
use Rattle.std.specs.declared.option.Option.TheVariants.{None, Some}
use Rattle.std.specs.declared.result.Result.{Result}
use Rattle.std.specs.declared.result.Result.TheVariants.{Ok, Err}
use Rattle.cert_format.specs.declared.line.Line.{Line}
use Rattle.cert_format.specs.declared.line.Line.TheVariants as line
use Rattle.cert_format.specs.declared.error.CertError.{CertError}
use Rattle.cert_format.specs.declared.error.CertError.TheVariants as why
use Rattle.cert_format.specs.Nodes.{nodes_of}
use Rattle.cert_format.specs.Text.{IsLine, IsWhole}

-- whether a path may stand behind a line: behind a leaf or a path
abbrev pub takes_path : Option Line → Bool
takes_path None = false
takes_path (Some (line.Split pair)) = false
takes_path (Some (line.Infeasible numbers)) = false
takes_path (Some (line.Against comparison)) = false
takes_path (Some line.Leaf) = true
takes_path (Some (line.Path p)) = true

-- a line may stand behind another, or first: each but a path may stand anywhere
abbrev pub MayFollow : Option Line → Line → Type 0
MayFollow before (line.Split pair) = Unit {0}
MayFollow before (line.Infeasible numbers) = Unit {0}
MayFollow before (line.Against comparison) = Unit {0}
MayFollow before line.Leaf = Unit {0}
MayFollow before (line.Path p) = takes_path before ≡ true

-- a line may stand behind another, or first, and has the numbers that a text can spell
pub record IsNext (before : Option Line) (l : Line) : Type 0 where
  pub follows : MayFollow before l
  pub whole : IsWhole l

-- each line may stand behind the one before it
abbrev pub AreLinesBehind : Option Line → List Line → Type 0
AreLinesBehind before [] = Unit {0}
AreLinesBehind before (l ∷ lines) = IsNext before l × AreLinesBehind (Some l) lines

-- the lines of a certificate, which has at most 262,144 nodes
pub record AreLines (lines : List Line) : Type 0 where
  pub stand : AreLinesBehind None lines
  pub few : length (nodes_of lines) ≤ 262144

-- the last of some lines
abbrev pub last_of : List Line → Option Line
last_of lines = slice_get lines (length lines - 1)

-- how many nodes a line begins
abbrev pub count_of : Line → ℕ
count_of (line.Split pair) = 1
count_of (line.Infeasible numbers) = 1
count_of (line.Against comparison) = 1
count_of line.Leaf = 1
count_of (line.Path p) = 0

-- what counting one more line comes to: the nodes with it; or the line may not stand there, or begins a node too many
abbrev pub Counts : Result ℕ CertError → ℕ → Option Line → Line → Type 0
Counts (Ok n) nodes before l = IsNext before l × (n ≡ nodes + count_of l) × (n ≤ 262144)
Counts (Err why.Syntax) nodes before l = ¬ IsNext before l
Counts (Err why.Limit) nodes before l = IsNext before l × (262144 < nodes + count_of l)
Counts (Err why.Memory) nodes before l = ⊥

-- a line with which there are at most 262,144 nodes
abbrev pub HasRoom : List Line → Line → Type 0
HasRoom lines l = length (nodes_of (lines ++ l ∷ [])) ≤ 262144

-- a line that begins another node than the 262,144 that are there
pub record IsTooMany (lines : List Line) (l : Line) : Type 0 where
  pub full : length (nodes_of lines) ≡ 262144
  pub more : length (nodes_of (lines ++ l ∷ [])) ≡ 262145

-- what adding a line comes to: it stands behind the others; or all is as before, since it may not stand there, since it begins a
-- node too many, or for want of memory
abbrev pub AddsLine : Result (Unit {0}) CertError → Line → List Line → List Line → Type 0
AddsLine (Ok u) l old new = IsNext (last_of old) l × HasRoom old l × (new ≡ old ++ l ∷ [])
AddsLine (Err why.Syntax) l old new = ¬ IsNext (last_of old) l × (new ≡ old)
AddsLine (Err why.Limit) l old new = IsNext (last_of old) l × IsTooMany old l × (new ≡ old)
AddsLine (Err why.Memory) l old new = IsNext (last_of old) l × HasRoom old l × (new ≡ old)

-- a text is no line that may stand behind these
abbrev pub IsNoNextText : List Line → List ℕ → Type 0
IsNoNextText lines text = (l : Line) → IsLine text l → ¬ IsNext (last_of lines) l

-- what adding the line of a text comes to: what adding that line does; or all is as before, since the text is no line that may
-- stand behind the others
abbrev pub Adds : Result (Unit {0}) CertError → List ℕ → List Line → List Line → Type 0
Adds (Ok u) text old new = (l : Line) × IsLine text l × AddsLine (Ok u) l old new
Adds (Err why.Syntax) text old new = IsNoNextText old text × (new ≡ old)
Adds (Err why.Limit) text old new = (l : Line) × IsLine text l × AddsLine (Err why.Limit) l old new
Adds (Err why.Memory) text old new = (l : Line) × IsLine text l × AddsLine (Err why.Memory) l old new
