-- The nodes of lines that are joined.
use Rattle.std.proofs.Common.{◌≡◌, ◌+◌, ◌-◌, List, [], ◌∷◌, ◌++◌, map, length, length-append, slice_get, Some, refl, ◌∙◌, ap, arith}
use Rattle.cert_format.specs.declared.line.Path.{Path}
use Rattle.cert_format.specs.declared.line.Line.{Line}
use Rattle.cert_format.specs.declared.line.Line.TheVariants as line
use Rattle.cert_format.specs.Nodes.{Node, split, infeasible, against, leaf, grouped, nodes_of}
use Rattle.cert_format.specs.Certificate.{last_of}

-- lines of which neither begins with a path
pub heads-append : (xs ys : List Line) → (grouped xs).paths ≡ [] → (grouped ys).paths ≡ [] → (grouped (xs ++ ys)).paths ≡ []
heads-append [] ys a b = b
heads-append (line.Split pair ∷ xs) ys a b = refl
heads-append (line.Infeasible numbers ∷ xs) ys a b = refl
heads-append (line.Against comparison ∷ xs) ys a b = refl
heads-append (line.Leaf ∷ xs) ys a b = refl
heads-append (line.Path p ∷ xs) ys a b = cc

paths-append : (xs ys : List Line) → (grouped ys).paths ≡ [] → (grouped (xs ++ ys)).paths ≡ (grouped xs).paths
paths-append [] ys b = b
paths-append (line.Split pair ∷ xs) ys b = refl
paths-append (line.Infeasible numbers ∷ xs) ys b = refl
paths-append (line.Against comparison ∷ xs) ys b = refl
paths-append (line.Leaf ∷ xs) ys b = refl
paths-append (line.Path p ∷ xs) ys b = ap (λ z. p ∷ z) (paths-append xs ys b)

leaf_same : (ps rs : List Path) (ns ms : List Node) → ps ≡ rs → ns ≡ ms → leaf ps ∷ ns ≡ leaf rs ∷ ms
leaf_same ps rs ns ms a b = cc

-- lines behind others, of which the first is no path
pub nodes-append : (xs ys : List Line) → (grouped ys).paths ≡ [] → nodes_of (xs ++ ys) ≡ nodes_of xs ++ nodes_of ys
nodes-append [] ys b = refl
nodes-append (line.Split pair ∷ xs) ys b = ap (λ z. split pair ∷ z) (nodes-append xs ys b)
nodes-append (line.Infeasible numbers ∷ xs) ys b = ap (λ z. infeasible numbers.items ∷ z) (nodes-append xs ys b)
nodes-append (line.Against comparison ∷ xs) ys b = ap (λ z. against comparison ∷ z) (nodes-append xs ys b)
nodes-append (line.Leaf ∷ xs) ys b = leaf_same _ _ _ _ (paths-append xs ys b) (nodes-append xs ys b)
nodes-append (line.Path p ∷ xs) ys b = nodes-append xs ys b

-- lines behind any others
pub length-nodes : (xs ys : List Line) → length (nodes_of (xs ++ ys)) ≡ length (nodes_of xs) + length (nodes_of ys)
length-nodes [] ys = omega arith
length-nodes (line.Split pair ∷ xs) ys = omega (arith, length-nodes xs ys)
length-nodes (line.Infeasible numbers ∷ xs) ys = omega (arith, length-nodes xs ys)
length-nodes (line.Against comparison ∷ xs) ys = omega (arith, length-nodes xs ys)
length-nodes (line.Leaf ∷ xs) ys = omega (arith, length-nodes xs ys)
length-nodes (line.Path p ∷ xs) ys = length-nodes xs ys

-- ---- paths

pub paths_alone : (ps : List Path) → (grouped (map line.Path ps)).paths ≡ ps
paths_alone [] = refl
paths_alone (p ∷ ps) = ap (λ z. p ∷ z) (paths_alone ps)

pub no_nodes : (ps : List Path) → nodes_of (map line.Path ps) ≡ []
no_nodes [] = refl
no_nodes (p ∷ ps) = no_nodes ps

-- a leaf with its paths
pub leaf_alone : (ps : List Path) → nodes_of (line.Leaf ∷ map line.Path ps) ≡ leaf ps ∷ []
leaf_alone ps = leaf_same _ _ _ _ (paths_alone ps) (no_nodes ps)

-- ---- the last line

last_at : (xs : List Line) (l : Line) → slice_get (xs ++ l ∷ []) (length xs) ≡ Some l
last_at [] l = refl
last_at (x ∷ xs) l = last_at xs l

pub last-append : (xs : List Line) (l : Line) → last_of (xs ++ l ∷ []) ≡ Some l
last-append xs l =
    let n : length (xs ++ l ∷ []) - 1 ≡ length xs = omega (arith, length-append xs (l ∷ [])) in
    ap (λ n. slice_get (xs ++ l ∷ []) n) n ∙ last_at xs l
