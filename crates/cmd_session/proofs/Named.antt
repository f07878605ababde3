-- The names of live queries.
use Rattle.std.proofs.Common.{◌≡◌, ℕ, List, [], ◌∷◌, map, refl, ap, ◌||◌}
use Rattle.std.specs.List.{list_any}
use Rattle.std.specs.Str.{bytes_eq}
use Rattle.exec_registry.specs.Live.{Live}

-- a test of names finds what the same test of live queries finds
pub any_name : (live : List Live) (name : List ℕ) → list_any (λ (l : Live). bytes_eq l.name name) live ≡ list_any (λ other. bytes_eq other name) (map (λ (l : Live). l.name) live)
any_name [] name = refl
any_name (l ∷ others) name = ap (λ b. bytes_eq l.name name || b) (any_name others name)
