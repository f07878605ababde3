-- The printed lines of a certificate, added in turn.
use Rattle.std.proofs.Common.{◌≡◌, ◌≤◌, List, [], ◌∷◌, ◌++◌, length, None, Some, Option, Result, Ok, Err, ap, sym, ◌∙◌, subst, arith}
use Rattle.cert_format.specs.declared.line.Line.{Line}
use Rattle.cert_format.specs.declared.line.Line.TheVariants as line
use Rattle.cert_format.specs.declared.error.CertError.{CertError}
use Rattle.cert_format.specs.declared.error.CertError.TheVariants as why
use Rattle.cert_format.specs.Nodes.{nodes_of}
use Rattle.cert_format.specs.Text.{IsLine, line_text, words}
use Rattle.cert_format.specs.Certificate.{IsNext, AreLinesBehind, AreLines, last_of, Adds}
use Rattle.cert_format.specs.Laws.{IsTaken}
use Rattle.cert_format.proofs.Spelled.{one_line}
use Rattle.cert_format.proofs.PrintedLines.{line_back}
use Rattle.cert_format.proofs.Added.{last_behind, last_is}

nodes_more : (before : List Line) (l : Line) (behind : List Line) → length (nodes_of (before ++ l ∷ [])) ≤ length (nodes_of (before ++ l ∷ behind))
nodes_more [] (line.Split pair) behind = omega arith
nodes_more [] (line.Infeasible numbers) behind = omega arith
nodes_more [] (line.Against comparison) behind = omega arith
nodes_more [] line.Leaf behind = omega arith
nodes_more [] (line.Path p) behind = omega arith
nodes_more (line.Split pair ∷ before) l behind = omega (arith, nodes_more before l behind)
nodes_more (line.Infeasible numbers ∷ before) l behind = omega (arith, nodes_more before l behind)
nodes_more (line.Against comparison ∷ before) l behind = omega (arith, nodes_more before l behind)
nodes_more (line.Leaf ∷ before) l behind = omega (arith, nodes_more before l behind)
nodes_more (line.Path p ∷ before) l behind = nodes_more before l behind

next_at : (first : Option Line) (before : List Line) (l : Line) (behind : List Line) → AreLinesBehind first (before ++ l ∷ behind) → IsNext (last_behind first before) l
next_at first [] l behind h = h.0
next_at first (m ∷ before) l behind h = next_at (Some m) before l behind h.1

next_line : (old : List Line) (l : Line) (behind : List Line) → AreLines (old ++ l ∷ behind) → IsNext (last_of old) l
next_line old l behind are = let P : Option Line → Type 0 = λ before. IsNext before l in subst P (last_is old) (next_at None old l behind are.stand)

same_line : (l m : Line) → IsLine (line_text l) l → IsLine (line_text l) m → m ≡ l
same_line l m is also = one_line (words (line_text l)) m l also is

pub line_taken : (old : List Line) (l : Line) (behind new : List Line) (r : Result (Unit {0}) CertError) → AreLines (old ++ l ∷ behind) → Adds r (line_text l) old new → IsTaken r l old new
line_taken old l behind new r are adds = by r (next_line old l behind are) adds
  where
    by : (r : Result (Unit {0}) CertError) → IsNext (last_of old) l → Adds r (line_text l) old new → IsTaken r l old new
    by (Ok u) next (m, also, done) = done.2 ∙ ap (λ x. old ++ x ∷ []) (same_line l m (line_back l next.whole) also)
    by (Err why.Syntax) next (never, same) = never l (line_back l next.whole) next
    by (Err why.Limit) next (m, also, full) =
        let few : length (nodes_of (old ++ l ∷ behind)) ≤ 262144 = are.few in
        let many : length (nodes_of (old ++ l ∷ [])) ≡ 262145 = ap (λ x. length (nodes_of (old ++ x ∷ []))) (sym (same_line l m (line_back l next.whole) also)) ∙ full.1.more in
        absurd (omega (arith, few, many, nodes_more old l behind))
    by (Err why.Memory) next (m, also, done) = done.2
