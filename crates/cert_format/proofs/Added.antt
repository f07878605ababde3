-- A line behind the lines of a certificate.
use Rattle.std.proofs.Common.{◌≡◌, ℕ, ◌+◌, ◌-◌, ◌<◌, ◌≤◌, List, [], ◌∷◌, ◌++◌, length, slice_get, None, Some, Option, Result, Ok, Err, refl, ap, sym, ◌∙◌, subst, arith}
use Rattle.std.specs.Result.{IsErrAnd}
use Rattle.cert_format.specs.declared.line.Line.{Line}
use Rattle.cert_format.specs.declared.line.Line.TheVariants as line
use Rattle.cert_format.specs.declared.error.CertError.{CertError}
use Rattle.cert_format.specs.declared.error.CertError.TheVariants as why
use Rattle.cert_format.specs.Nodes.{nodes_of}
use Rattle.cert_format.specs.Text.{IsLine, words}
use Rattle.cert_format.specs.Certificate.{IsNext, AreLinesBehind, AreLines, last_of, count_of, HasRoom, IsTooMany, AddsLine, Adds, Counts}
use Rattle.cert_format.proofs.Spelled.{one_line}

-- the nodes are those before, and the one that the line begins
pub nodes_added : (lines : List Line) (l : Line) → length (nodes_of (lines ++ l ∷ [])) ≡ length (nodes_of lines) + count_of l
nodes_added [] (line.Split pair) = refl
nodes_added [] (line.Infeasible numbers) = refl
nodes_added [] (line.Against comparison) = refl
nodes_added [] line.Leaf = refl
nodes_added [] (line.Path p) = refl
nodes_added (line.Split pair ∷ lines) l = omega (arith, nodes_added lines l)
nodes_added (line.Infeasible numbers ∷ lines) l = omega (arith, nodes_added lines l)
nodes_added (line.Against comparison ∷ lines) l = omega (arith, nodes_added lines l)
nodes_added (line.Leaf ∷ lines) l = omega (arith, nodes_added lines l)
nodes_added (line.Path p ∷ lines) l = nodes_added lines l

abbrev pub last_behind : Option Line → List Line → Option Line
last_behind before [] = before
last_behind before (m ∷ lines) = last_behind (Some m) lines

last_at : (m : Line) (lines : List Line) → last_behind (Some m) lines ≡ slice_get (m ∷ lines) (length lines)
last_at m [] = refl
last_at m (n ∷ lines) = last_at n lines

pub last_is : (lines : List Line) → last_behind None lines ≡ last_of lines
last_is [] = refl
last_is (m ∷ lines) = let same : length lines ≡ length (m ∷ lines) - 1 = omega arith in last_at m lines ∙ ap (slice_get (m ∷ lines)) same

stand_added : (before : Option Line) (lines : List Line) (l : Line) → AreLinesBehind before lines → IsNext (last_behind before lines) l → AreLinesBehind before (lines ++ l ∷ [])
stand_added before [] l h is = (is, tt)
stand_added before (m ∷ lines) l h is = (h.0, stand_added (Some m) lines l h.1 is)

-- the lines stay lines of a certificate
pub lines_added : (lines : List Line) (l : Line) → AreLines lines → IsNext (last_of lines) l → HasRoom lines l → AreLines (lines ++ l ∷ [])
lines_added lines l are is room = let P : Option Line → Type 0 = λ before. IsNext before l in record { stand = stand_added None lines l are.stand (subst P (sym (last_is lines)) is); few = room }

count_small : (l : Line) → count_of l ≤ 1
count_small (line.Split pair) = omega arith
count_small (line.Infeasible numbers) = omega arith
count_small (line.Against comparison) = omega arith
count_small line.Leaf = omega arith
count_small (line.Path p) = omega arith

-- one node too many
pub too_many : (lines : List Line) (l : Line) → AreLines lines → 262144 < length (nodes_of lines) + count_of l → IsTooMany lines l
too_many lines l are more =
    let small = count_small l in
    record { full = omega (arith, more, are.few, small); more = omega (arith, more, are.few, small, nodes_added lines l) }

-- a line that is counted may be added
pub counted : (n nodes : ℕ) (before : Option Line) (l : Line) (lines : List Line) → before ≡ last_of lines → nodes ≡ length (nodes_of lines) → Counts (Ok n) nodes before l → IsNext (last_of lines) l × HasRoom lines l
counted n nodes before l lines last same counts =
    let P : Option Line → Type 0 = λ b. IsNext b l in
    let all = counts.1 in
    let few = counts.2 in
    (subst P last counts.0, omega (arith, same, all, few, nodes_added lines l))

-- a line that is not counted is not added
not_counted : (e : CertError) (l : Line) (lines : List Line) (nodes : ℕ) → AreLines lines → nodes ≡ length (nodes_of lines) → Counts (Err e) nodes (last_of lines) l → AddsLine (Err e) l lines lines
not_counted why.Syntax l lines nodes are same counts = (counts, refl)
not_counted why.Limit l lines nodes are same counts = let more = counts.1 in (counts.0, too_many lines l are (omega (arith, same, more)), refl)
not_counted why.Memory l lines nodes are same counts = absurd counts

pub refused : (r : Result (Unit {0}) CertError) (e : CertError) (l : Line) (lines : List Line) (nodes : ℕ) → IsErrAnd r (λ f. f ≡ e) → AreLines lines → nodes ≡ length (nodes_of lines) → Counts (Err e) nodes (last_of lines) l → AddsLine r l lines lines
refused (Ok u) e l lines nodes h are same counts = absurd h
refused (Err f) e l lines nodes h are same counts =
    let P : CertError → Type 0 = λ x. Counts (Err x) nodes (last_of lines) l in
    not_counted f l lines nodes are same (subst P (sym h) counts)

-- the line of a text is added as the line is
pub text_added : (r : Result (Unit {0}) CertError) (text : List ℕ) (l : Line) (old new : List Line) → IsLine text l → AddsLine r l old new → Adds r text old new
text_added (Ok u) text l old new is adds = (l, is, adds)
text_added (Err why.Syntax) text l old new is adds = (λ m also next. let P : Line → Type 0 = λ x. IsNext (last_of old) x in adds.0 (subst P (one_line (words text) m l also is) next), adds.1)
text_added (Err why.Limit) text l old new is adds = (l, is, adds)
text_added (Err why.Memory) text l old new is adds = (l, is, adds)
