-- Lines are refused once before the query, or the same lines stand behind it; blank lines have no line among them that is refused.
use Rattle.std.proofs.Common.{◌≡◌, ℕ, Bool, List, [], ◌∷◌, ◌++◌, length, None, sym, ap, ap₂, ◌∙◌, subst, length-append, arith}
use Rattle.std.specs.List.{All, AllByRecursion}
use Rattle.std.proofs.lemmas.List.Elements.{recursion_from_All}
use Rattle.io_streams.specs.declared.status.Status.TheVariants as status
use Rattle.sem_query.specs.Query.{QueryValue}
use Rattle.sql_catalog.specs.Streams.{Shape}
use Rattle.sql_parser.specs.declared.tree.SelectAst.{SelectAst}
use Rattle.sql_replies.specs.declared.refusal.Refusal.{Refusal}
use Rattle.sql_script.specs.Script as scripts
use Rattle.sql_script.specs.Script.{Asks, IsBlank, IsMisplaced, IsRefusedAt, at_line, at_end}
use Rattle.sql_script.proofs.OneEnd.{one_end}
use Rattle.sql_script.specs.Commands.{Outcome, error_text, refusal, early_refusal}

pub head-same : (x y : List ℕ) (xs ys : List (List ℕ)) → x ∷ xs ≡ y ∷ ys → x ≡ y
head-same x y xs ys e = cc

pub tail-same : (x y : List ℕ) (xs ys : List (List ℕ)) → x ∷ xs ≡ y ∷ ys → xs ≡ ys
tail-same x y xs ys e = cc

-- what stands behind as many lines and one more is the same
rest-same : (xs ys : List (List ℕ)) (x y : List ℕ) (rest others : List (List ℕ)) → xs ++ x ∷ rest ≡ ys ++ y ∷ others → length xs ≡ length ys → rest ≡ others
rest-same [] [] x y rest others e same = tail-same x y rest others e
rest-same [] (b ∷ ys) x y rest others e same = absurd (omega (arith, same))
rest-same (a ∷ xs) [] x y rest others e same = absurd (omega (arith, same))
rest-same (a ∷ xs) (b ∷ ys) x y rest others e same = rest-same xs ys x y rest others (tail-same a b (xs ++ x ∷ rest) (ys ++ y ∷ others) e) (omega (arith, same))

-- the same lines stand behind the query
pub behind-same : (all : List (List ℕ)) (streams shapes : List Shape) (name title : List ℕ) (select choice : SelectAst) (shared joint : Bool) (q r : QueryValue) (m n : ℕ)
    → (a : Asks all streams name select shared q m) → (b : Asks all shapes title choice joint r n) → m ≡ n → a.behind ≡ b.behind
behind-same all streams shapes name title select choice shared joint q r m n a b e =
    rest-same a.before b.before a.line b.line a.behind b.behind (sym a.whole ∙ b.whole) (omega (arith, a.number_is, b.number_is, e))

-- a line is refused, or the end: not both by the same number
refusal-same : (all : List (List ℕ)) (m n : ℕ) (v w : Refusal) (a : IsRefusedAt all m v) (b : IsRefusedAt all n w) → m ≡ n → v ≡ w → early_refusal m v a ≡ early_refusal n w b
refusal-same all m n v w (at_line before line behind streams whole create is number_is) (at_line front text others shapes cut made it place) e f = ap₂ (λ (i : ℕ) (x : Refusal). refusal i x) e f
refusal-same all m n v w (at_line before line behind streams whole create is number_is) (at_end shapes made word_is place) e f =
    absurd (omega (arith, number_is, place, e, ap length whole, length-append before (line ∷ behind)))
refusal-same all m n v w (at_end streams create word_is number_is) (at_line front text others shapes cut made it place) e f =
    absurd (omega (arith, number_is, place, e, ap length cut, length-append front (text ∷ others)))
refusal-same all m n v w (at_end streams create word_is number_is) (at_end shapes made is place) e f =
    let at : ℕ → Refusal → Outcome = λ i x. record { status = status.Invalid; text = error_text i x; needs = None } in
    ap₂ at e f

-- the refusal before the query is the same
pub early-same : (all : List (List ℕ)) (m n : ℕ) (v w : Refusal) (a : IsRefusedAt all m v) (b : IsRefusedAt all n w) → early_refusal m v a ≡ early_refusal n w b
early-same all m n v w a b =
    let same : (m ≡ n) × (v ≡ w) = (one_end all).1 m n v w a b in
    refusal-same all m n v w a b same.0 same.1

-- a line that has no place is not blank
pub misplaced-loud : (line : List ℕ) (w : Refusal) → IsMisplaced line w → IsBlank line → ⊥
misplaced-loud line w (scripts.IsMisplaced.too_long m p) b = omega (arith, m, b.short)
misplaced-loud line w (scripts.loud short n p) b = n b

-- none of blank lines is misplaced
blank-placed : (xs : List (List ℕ)) (x : List ℕ) (rest : List (List ℕ)) (w : Refusal) → AllByRecursion IsBlank (xs ++ x ∷ rest) → IsMisplaced x w → ⊥
blank-placed [] x rest w all i = misplaced-loud x w i all.0
blank-placed (z ∷ xs) x rest w all i = blank-placed xs x rest w all.1 i

pub all-placed : (texts xs : List (List ℕ)) (x : List ℕ) (rest : List (List ℕ)) (w : Refusal) → texts ≡ xs ++ x ∷ rest → All IsBlank texts → IsMisplaced x w → ⊥
all-placed texts xs x rest w e all i = blank-placed xs x rest w (subst (AllByRecursion IsBlank) e (recursion_from_All IsBlank texts all)) i
