-- The form that the first node of some lines shows.
use Rattle.std.proofs.Common.{◌≡◌, ℕ, ◌+◌, ◌<◌, ◌≤◌, Some, None, List, ◌∷◌, length, drop, get_or, refl, sym, ◌∙◌, ap}
use Rattle.std.proofs.Math.ListN.{drop_of_length-le}
use Rattle.cert_format.specs.declared.line.Line.{Line}
use Rattle.cert_format.specs.declared.line.Line.TheVariants as line
use Rattle.cert_format.specs.Nodes.{nodes_of}
use Rattle.cert_checker.specs.declared.shown.Shown.{Shown}
use Rattle.cert_checker.specs.Shown.{first_shows, form_at}
use Rattle.cert_checker.proofs.Lines.{ahead}

at_line : (l : Line) (rest : List Line) (s : Shown) → form_at l ≡ Some s → first_shows (nodes_of (l ∷ rest)) ≡ s
at_line (line.Split pair) rest s h = cc
at_line (line.Infeasible numbers) rest s h = cc
at_line (line.Against comparison) rest s h = cc
at_line line.Leaf rest s h = cc
at_line (line.Path p) rest s h = absurd cc

behind_path : (l : Line) (rest : List Line) → form_at l ≡ None → nodes_of (l ∷ rest) ≡ nodes_of rest
behind_path (line.Split pair) rest h = absurd cc
behind_path (line.Infeasible numbers) rest h = absurd cc
behind_path (line.Against comparison) rest h = absurd cc
behind_path line.Leaf rest h = absurd cc
behind_path (line.Path p) rest h = refl

module _ (lines : List Line) (i : ℕ) (same : nodes_of lines ≡ nodes_of (drop i lines)) where
  pub shows_here : (l : Line) (s : Shown) → i < length lines → l ≡ get_or lines i l → form_at l ≡ Some s → s ≡ first_shows (nodes_of lines)
  shows_here l s lt e h = sym (ap first_shows (same ∙ ap nodes_of (ahead lines i l lt e)) ∙ at_line l (drop (i + 1) lines) s h)

  pub shows_later : (l : Line) → i < length lines → l ≡ get_or lines i l → form_at l ≡ None → nodes_of lines ≡ nodes_of (drop (i + 1) lines)
  shows_later l lt e h = same ∙ ap nodes_of (ahead lines i l lt e) ∙ behind_path l (drop (i + 1) lines) h

  pub shows_nothing : length lines ≤ i → Shown.Whole ≡ first_shows (nodes_of lines)
  shows_nothing l = sym (ap first_shows (same ∙ ap nodes_of (drop_of_length-le lines l)))
