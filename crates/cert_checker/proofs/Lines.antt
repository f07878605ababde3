-- Lines, taken from the front.
use Rattle.std.proofs.Common.{◌≡◌, ℕ, ◌+◌, ◌-◌, ◌<◌, ◌≤◌, List, [], ◌∷◌, length, length-drop, take, drop, get_or, refl, sym, ◌∙◌, ap, arith}
use Rattle.std.proofs.Math.ListN.{drop_of_length-le}
use Rattle.std.proofs.lemmas.List.{drop_more, take_all}
use Rattle.cert_format.specs.declared.line.Path.{Path}
use Rattle.cert_format.specs.declared.line.Line.{Line}
use Rattle.cert_format.specs.declared.line.Line.TheVariants as line
use Rattle.cert_format.specs.Nodes.{grouped}

-- the lines from a place on, with the one at the place
pub ahead : (lines : List Line) (i : ℕ) (l : Line) → i < length lines → l ≡ get_or lines i l → drop i lines ≡ l ∷ drop (i + 1) lines
ahead lines i l lt e = drop_more lines i l lt ∙ ap (λ (z : Line). z ∷ drop (i + 1) lines) (sym e)

pub path_ahead : (lines : List Line) (i : ℕ) (l : Line) (p : Path) → i < length lines → l ≡ get_or lines i l → l ≡ line.Path p → (grouped (drop i lines)).paths ≡ p ∷ (grouped (drop (i + 1) lines)).paths
path_ahead lines i l p lt e is = ap (λ (z : List Line). (grouped z).paths) (ahead lines i l lt e ∙ ap (λ (z : Line). z ∷ drop (i + 1) lines) is)

pub none_ahead : (lines : List Line) (i : ℕ) → length lines ≤ i → (grouped (drop i lines)).paths ≡ []
none_ahead lines i l = ap (λ (z : List Line). (grouped z).paths) (drop_of_length-le lines l)

-- a line that is no path
no_path : (l : Line) (lines : List Line) → ((p : Path) → l ≡ line.Path p → ⊥) → (grouped (l ∷ lines)).paths ≡ []
no_path (line.Split pair) lines n = refl
no_path (line.Infeasible numbers) lines n = refl
no_path (line.Against comparison) lines n = refl
no_path line.Leaf lines n = refl
no_path (line.Path p) lines n = absurd (n p refl)

pub node_ahead : (lines : List Line) (i : ℕ) (l : Line) → i < length lines → l ≡ get_or lines i l → ((p : Path) → l ≡ line.Path p → ⊥) → (grouped (drop i lines)).paths ≡ []
node_ahead lines i l lt e n = ap (λ (z : List Line). (grouped z).paths) (ahead lines i l lt e) ∙ no_path l (drop (i + 1) lines) n

-- the lines from a place on, as a slice has them
pub rest_is : (lines : List Line) (i : ℕ) → take (length lines - i) (drop i lines) ≡ drop i lines
rest_is lines i = take_all (length lines - i) (drop i lines) (omega (arith, length-drop i lines))
