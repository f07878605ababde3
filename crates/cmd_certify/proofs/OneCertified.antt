-- The lines determine what `certify` comes to, but for the certificate.
use Rattle.std.proofs.Common.{◌≡◌, ℕ, suc, Bool, None, List, [], ◌∷◌, ◌++◌, length, refl, sym, ap, ap₂, ◌∙◌, subst, arith}
use Rattle.std.specs.List.{AllByRecursion}
use Rattle.std.proofs.lemmas.List.Elements.{recursion_from_All}
use Rattle.sem_query.specs.Query.{QueryValue}
use Rattle.sql_catalog.specs.Streams.{Shape}
use Rattle.sql_parser.specs.declared.tree.SelectAst.{SelectAst}
use Rattle.sql_replies.specs.declared.refusal.Refusal.{Refusal}
use Rattle.cert_format.specs.declared.line.Line.{Line}
use Rattle.sql_script.specs.Script as scripts
use Rattle.sql_script.specs.Script.{IsBlank, IsMisplaced}
use Rattle.sql_script.proofs.OneEnd.{one_end}
use Rattle.sql_script.specs.Commands.{Outcome, refusal}
use Rattle.cmd_certify.specs.Certifying as certifying
use Rattle.cmd_certify.specs.Certifying.{Certifies, certified}
use Rattle.cmd_certify.specs.Judged.{IsUncertified}
use Rattle.cmd_certify.specs.Laws.{AreAlike, same, both}
use Rattle.sql_script.proofs.OneRefusal.{head-same, tail-same, behind-same, early-same, misplaced-loud, all-placed}

one-word : (line : List ℕ) (v w : Refusal) → IsMisplaced line v → IsMisplaced line w → v ≡ w
one-word line v w (scripts.IsMisplaced.too_long m p) (scripts.IsMisplaced.too_long n q) = p ∙ sym q
one-word line v w (scripts.IsMisplaced.too_long m p) (scripts.loud short n q) = absurd (omega (arith, m, short))
one-word line v w (scripts.loud short n p) (scripts.IsMisplaced.too_long m q) = absurd (omega (arith, m, short))
one-word line v w (scripts.loud short n p) (scripts.loud s m q) = p ∙ sym q

-- one word says why no certificate is written
one-why : (q : QueryValue) (v w : Refusal) → IsUncertified q v → IsUncertified q w → v ≡ w
one-why q v w u t = u.is ∙ sym t.is

-- one line is the first that has no place
one-misplaced : (xs ys : List (List ℕ)) (x y : List ℕ) (rest others : List (List ℕ)) (v w : Refusal) → AllByRecursion IsBlank xs → AllByRecursion IsBlank ys → IsMisplaced x v → IsMisplaced y w
    → xs ++ x ∷ rest ≡ ys ++ y ∷ others → (length xs ≡ length ys) × (v ≡ w)
one-misplaced [] [] x y rest others v w a b i k e = (refl, one-word x v w i (subst (λ l. IsMisplaced l w) (sym (head-same x y rest others e)) k))
one-misplaced [] (z ∷ ys) x y rest others v w a b i k e = absurd (misplaced-loud x v i (subst IsBlank (sym (head-same x z rest (ys ++ y ∷ others) e)) b.0))
one-misplaced (z ∷ xs) [] x y rest others v w a b i k e = absurd (misplaced-loud y w k (subst IsBlank (head-same z y (xs ++ x ∷ rest) others e) a.0))
one-misplaced (u ∷ xs) (z ∷ ys) x y rest others v w a b i k e =
    let same = one-misplaced xs ys x y rest others v w a.1 b.1 i k (tail-same u z (xs ++ x ∷ rest) (ys ++ y ∷ others) e) in
    (ap suc same.0, same.1)

certified-same : (streams shapes : List Shape) (name title : List ℕ) (select choice : SelectAst) (shared joint : Bool) (c : List Line) → streams ≡ shapes → name ≡ title → select ≡ choice → shared ≡ joint
    → certified streams name select shared c ≡ certified shapes title choice joint c
certified-same streams shapes name title select choice shared joint c e f g h =
    ap (λ s. certified s name select shared c) e ∙ ap (λ n. certified shapes n select shared c) f ∙ ap (λ x. certified shapes title x shared c) g ∙ ap (λ b. certified shapes title choice b c) h

pub alike : (all : List (List ℕ)) (o p : Outcome) → Certifies all o → Certifies all p → AreAlike o p
alike all o p (certifying.early m v a e) (certifying.early n w b f) = same (e ∙ early-same all m n v w a b ∙ sym f)
alike all o p (certifying.early m v a e) (certifying.uncertified streams name select shared q n asks w why f) = absurd ((one_end all).2 streams name select shared q n m v asks a)
alike all o p (certifying.early m v a e) (certifying.misplaced streams name select shared q n asks small blanks line others w is blank wrong f) = absurd ((one_end all).2 streams name select shared q n m v asks a)
alike all o p (certifying.early m v a e) (certifying.whole streams name select shared q n asks small blank c are good f) = absurd ((one_end all).2 streams name select shared q n m v asks a)
alike all o p (certifying.uncertified streams name select shared q n asks w why e) (certifying.early m v a f) = absurd ((one_end all).2 streams name select shared q n m v asks a)
alike all o p (certifying.uncertified streams name select shared q m asks u why e) (certifying.uncertified shapes title choice joint r n also w reason f) =
    let i = (one_end all).0 streams shapes name title select choice shared joint q r m n asks also in
    same (e ∙ ap₂ (λ (k : ℕ) (x : Refusal). refusal k x) i.5 (one-why r u w (subst (λ x. IsUncertified x u) i.4 why) reason) ∙ sym f)
alike all o p (certifying.uncertified streams name select shared q m asks u why e) (certifying.misplaced shapes title choice joint r n also small blanks line others w is blank wrong f) =
    let i = (one_end all).0 streams shapes name title select choice shared joint q r m n asks also in
    absurd (small u (subst (λ x. IsUncertified x u) i.4 why))
alike all o p (certifying.uncertified streams name select shared q m asks u why e) (certifying.whole shapes title choice joint r n also small blank c are good f) =
    let i = (one_end all).0 streams shapes name title select choice shared joint q r m n asks also in
    absurd (small u (subst (λ x. IsUncertified x u) i.4 why))
alike all o p (certifying.misplaced streams name select shared q n asks small blanks line others w is blank wrong e) (certifying.early m v a f) = absurd ((one_end all).2 streams name select shared q n m v asks a)
alike all o p (certifying.misplaced streams name select shared q m asks small blanks line others v is blank wrong e) (certifying.uncertified shapes title choice joint r n also w reason f) =
    let i = (one_end all).0 streams shapes name title select choice shared joint q r m n asks also in
    absurd (small w (subst (λ x. IsUncertified x w) (sym i.4) reason))
alike all o p (certifying.misplaced streams name select shared q m asks small blanks line others v is blank wrong e) (certifying.misplaced shapes title choice joint r n also little empty text more w it bare bad f) =
    let i = (one_end all).0 streams shapes name title select choice shared joint q r m n asks also in
    let behind : asks.behind ≡ also.behind = behind-same all streams shapes name title select choice shared joint q r m n asks also i.5 in
    let k = one-misplaced blanks empty line text others more v w (recursion_from_All IsBlank blanks blank) (recursion_from_All IsBlank empty bare) wrong bad (sym is ∙ behind ∙ it) in
    same (e ∙ ap₂ (λ (j : ℕ) (x : Refusal). refusal j x) (omega (arith, i.5, k.0)) k.1 ∙ sym f)
alike all o p (certifying.misplaced streams name select shared q m asks small blanks line others v is blank wrong e) (certifying.whole shapes title choice joint r n also little bare c are good f) =
    let i = (one_end all).0 streams shapes name title select choice shared joint q r m n asks also in
    let behind : asks.behind ≡ also.behind = behind-same all streams shapes name title select choice shared joint q r m n asks also i.5 in
    absurd (all-placed also.behind blanks line others v (sym behind ∙ is) bare wrong)
alike all o p (certifying.whole streams name select shared q n asks small blank c are good e) (certifying.early m v a f) = absurd ((one_end all).2 streams name select shared q n m v asks a)
alike all o p (certifying.whole streams name select shared q m asks small blank c are good e) (certifying.uncertified shapes title choice joint r n also w reason f) =
    let i = (one_end all).0 streams shapes name title select choice shared joint q r m n asks also in
    absurd (small w (subst (λ x. IsUncertified x w) (sym i.4) reason))
alike all o p (certifying.whole streams name select shared q m asks small blank c are good e) (certifying.misplaced shapes title choice joint r n also little empty text more w it bare bad f) =
    let i = (one_end all).0 streams shapes name title select choice shared joint q r m n asks also in
    let behind : asks.behind ≡ also.behind = behind-same all streams shapes name title select choice shared joint q r m n asks also i.5 in
    absurd (all-placed asks.behind empty text more w (behind ∙ it) blank bad)
alike all o p (certifying.whole streams name select shared q m asks small blank c are good e) (certifying.whole shapes title choice joint r n also little bare d lines fine f) =
    let i = (one_end all).0 streams shapes name title select choice shared joint q r m n asks also in
    both shapes title choice joint c d (e ∙ certified-same streams shapes name title select choice shared joint c i.0 i.1 i.2 i.3) f

-- where one outcome needs all lines, each does
needs-alike : (o p : Outcome) → AreAlike o p → p.needs ≡ None → o.needs ≡ None
needs-alike o p (same e) none = ap (λ (x : Outcome). x.needs) e ∙ none
needs-alike o p (both streams name select shared c d e f) none = ap (λ (x : Outcome). x.needs) e

pub certifies-alike : (all : List (List ℕ)) (o p : Outcome) → Certifies all o → Certifies all p → p.needs ≡ None → o.needs ≡ None
certifies-alike all o p a b none = needs-alike o p (alike all o p a b) none
