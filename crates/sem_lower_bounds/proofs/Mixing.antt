-- Mixed assignments keep the signs of a part, and what they score.
use Rattle.std.proofs.Common.{◌≡◌, ◌≢◌, ℕ, ◌*◌, List, [], ◌∷◌, map, length, cond, Bool, true, false, refl, sym, ap, ◌∙◌, subst, arith, nat_eq}
use Rattle.std.proofs.lemmas.List.Elements.{All-contains}
use Rattle.std.specs.List.{list_all}
use Rattle.sem_query.proofs.Has.{Has, first, later, Contains-from_has, same_map, same_at}
use Rattle.sem_query.proofs.Elements.{SidesIn, sides_in, HasElement}
use Rattle.sem_laws.proofs.Tests.{false_if}
use Rattle.sem_laws.proofs.Order.{same-itself, same-is}
use Rattle.sem_laws.proofs.Sums.{bit}
use Rattle.sem_laws.proofs.Counts.{gives}
use Rattle.sem_query.specs.declared.atom.Attr.{Attr}
use Rattle.sem_query.specs.declared.atom.Element.{Element}
use Rattle.sem_query.specs.declared.atom.Element.TheVariants as element
use Rattle.sem_query.specs.declared.part.Sign.{Sign}
use Rattle.sem_query.specs.Query.{QueryValue, IsColumn, attrs_of, consts_of}
use Rattle.sem_query.specs.Assignment.{Assignment, value, compares, meets, holds, projected, Holds}
use Rattle.sem_query.specs.Parts.{pairs, sign, sign_at, signs_of, InPart}
use Rattle.sem_query.specs.Meaning.{by_column, joined}
use Rattle.sem_query.specs.Tuples.{is_same}
use Rattle.sem_lower_bounds.specs.Plain.{IsPlain}
use Rattle.sem_lower_bounds.proofs.Formed.{IsFormed}
use Rattle.sem_lower_bounds.proofs.Plainly.{IsLocal, pair-local, keeps-none}
use Rattle.sem_lower_bounds.proofs.OneLong.{mixed, combined, combined-is, row_of}

mixed_here : (place : ℕ) (v u : Assignment) (a : Attr) → a.stream ≡ place → mixed place v u a ≡ v a
mixed_here place v u a e = let f : nat_eq a.stream place ≡ true = grind (arith, e) in ap (λ b. cond b (v a) (u a)) f

mixed_other : (place : ℕ) (v u : Assignment) (a : Attr) → a.stream ≢ place → mixed place v u a ≡ u a
mixed_other place v u a n = let f : nat_eq a.stream place ≡ false = grind (arith, n) in ap (λ b. cond b (v a) (u a)) f

pub mixed-here : (place : ℕ) (v u : Assignment) (a : Attr) → a.stream ≡ place → mixed place v u a ≡ v a
mixed-here = mixed_here

pub mixed-other : (place : ℕ) (v u : Assignment) (a : Attr) → a.stream ≢ place → mixed place v u a ≡ u a
mixed-other = mixed_other

mixed_itself : (place : ℕ) (u : Assignment) (a : Attr) → mixed place u u a ≡ u a
mixed_itself place u a = by (nat_eq a.stream place)
  where
    by : (b : Bool) → cond b (u a) (u a) ≡ u a
    by true = refl
    by false = refl

-- a local pair reads the one assignment alone, or the other alone
sign_mixed : (place : ℕ) (v u : Assignment) (a : Attr) (x : Element) → IsLocal a x
    → sign_at v record { left = a; right = x } ≡ sign_at u record { left = a; right = x }
    → sign_at (mixed place v u) record { left = a; right = x } ≡ sign_at u record { left = a; right = x }
sign_mixed place v u a (element.Const k) l e = by (nat_eq a.stream place)
  where
    by : (b : Bool) → sign (cond b (v a) (u a)) k ≡ sign (u a) k
    by true = e
    by false = refl
sign_mixed place v u a (element.Attr b) l e = subst (λ (s : ℕ). sign (mixed place v u a) (cond (nat_eq s place) (v b) (u b)) ≡ sign (u a) (u b)) l (by (nat_eq a.stream place))
  where
    by : (c : Bool) → sign (cond c (v a) (u a)) (cond c (v b) (u b)) ≡ sign (u a) (u b)
    by true = e
    by false = refl

-- a mixture of two assignments of a part has the signs of the part
pub mixed-signs : (q : QueryValue) → IsPlain q → (s : List Sign) (place : ℕ) (v u : Assignment) → InPart q s v → InPart q s u → signs_of q (mixed place v u) ≡ s
mixed-signs q plain s place v u i j =
    same_map (sign_at (mixed place v u)) (sign_at u) (pairs q)
    (λ p k. sign_mixed place v u p.left p.right (pair-local q plain p k) (same_at (sign_at v) (sign_at u) (i.signs ∙ sym j.signs) k))
    ∙ j.signs

-- where such a mixture is none of the part, the condition fails of it
pub mixed-fails : (q : QueryValue) → IsPlain q → (s : List Sign) (place : ℕ) (v u : Assignment) → InPart q s v → InPart q s u
    → (InPart q s (mixed place v u) → ⊥) → holds q (mixed place v u) ≡ false
mixed-fails q plain s place v u i j n =
    false_if (holds q (mixed place v u)) (λ h. n record { holds = h; domains = keeps-none q plain.domains (mixed place v u); signs = mixed-signs q plain s place v u i j })

-- 1 where the mixture of v at the place and u elsewhere holds and has the tuple of u
abbrev pub score : QueryValue → ℕ → Assignment → Assignment → ℕ
score q place v u = bit (holds q (mixed place v u)) * bit (is_same (projected q u) (projected q (mixed place v u)))

-- assignments that agree on the columns of atoms and on the selected ones
pub record Agree (q : QueryValue) (v w : Assignment) : Type 0 where
  pub atoms : (a : Attr) → Has (attrs_of q.atoms) a → v a ≡ w a
  pub select : (a : Attr) → Has q.select a → v a ≡ w a

same_value : (q : QueryValue) (v w : Assignment) → Agree q v w → (x : Element) → HasElement (attrs_of q.atoms) (consts_of q.atoms) x → value x v ≡ value x w
same_value q v w g (element.Attr a) h = g.atoms a h
same_value q v w g (element.Const k) h = refl

same_all : {X : Type 0} (t u : X → Bool) (xs : List X) → ((x : X) → Has xs x → t x ≡ u x) → list_all t xs ≡ list_all u xs
same_all t u [] h = refl
same_all t u (x ∷ xs) h = let e : t x ≡ u x = h x first in let f : list_all t xs ≡ list_all u xs = same_all t u xs (λ y k. h y (later k)) in rw (e, f) refl

pub same-holds : (q : QueryValue) (v w : Assignment) → Agree q v w → holds q v ≡ holds q w
same-holds q v w g = same_all (meets v) (meets w) q.atoms (λ t h.
    let o : SidesIn q.atoms t = sides_in q.atoms t h in
    ap (λ x. compares t.op x (value t.right v)) (same_value q v w g t.left o.left)
    ∙ ap (λ y. compares t.op (value t.left w) y) (same_value q v w g t.right o.right))

pub same-projected : (q : QueryValue) (v w : Assignment) → Agree q v w → projected q v ≡ projected q w
same-projected q v w g = same_map v w q.select g.select

-- a mixture of an assignment with itself scores
pub score-itself : (q : QueryValue) (place : ℕ) (u : Assignment) → Holds q u → score q place u u ≡ 1
score-itself q place u h =
    let g : Agree q (mixed place u u) u = record { atoms = λ a k. mixed_itself place u a; select = λ a k. mixed_itself place u a } in
    let e : holds q (mixed place u u) ≡ true = same-holds q (mixed place u u) u g ∙ h in
    let f : is_same (projected q u) (projected q (mixed place u u)) ≡ true
    = ap (is_same (projected q u)) (same-projected q (mixed place u u) u g) ∙ same-itself (projected q u) in
    ap (λ b. bit b * bit (is_same (projected q u) (projected q (mixed place u u)))) e ∙ ap (λ b. 1 * bit b) f

pub score-fails : (q : QueryValue) (place : ℕ) (v u : Assignment) → holds q (mixed place v u) ≡ false → score q place v u ≡ 0
score-fails q place v u e = ap (λ b. bit b * bit (is_same (projected q u) (projected q (mixed place v u)))) e ∙ none (bit (is_same (projected q u) (projected q (mixed place v u))))
  where
    none : (n : ℕ) → 0 * n ≡ 0
    none n = omega arith

pub score-other : (q : QueryValue) (place : ℕ) (v u : Assignment) → (projected q u ≡ projected q (mixed place v u) → ⊥) → score q place v u ≡ 0
score-other q place v u n =
    ap (λ b. bit (holds q (mixed place v u)) * bit b) (false_if (is_same (projected q u) (projected q (mixed place v u))) (λ h. n (same-is _ _ h)))
    ∙ none (bit (holds q (mixed place v u)))
  where
    none : (n : ℕ) → n * 0 ≡ 0
    none n = omega arith

-- so a combination of rows scores
pub gives-score : (q : QueryValue) → IsFormed q → (place : ℕ) (v u : Assignment)
    → gives q (projected q u) (map by_column (combined (row_of v place) u place 0 q.from)) ≡ score q place v u
gives-score q within place v u =
    ap (λ b. bit b * bit (is_same (projected q u) (projected q C))) (same-holds q C (mixed place v u) g)
    ∙ ap (λ p. bit (holds q (mixed place v u)) * bit (is_same (projected q u) p)) (same-projected q C (mixed place v u) g)
  where
    C : Assignment
    C = joined (map by_column (combined (row_of v place) u place 0 q.from))

    at : (a : Attr) → IsColumn (length q.from) a → C a ≡ mixed place v u a
    at a i = combined-is v u place q.from a i.stream i.column

    g : Agree q C (mixed place v u)
    g = record {
      atoms = λ a k. at a (All-contains (IsColumn (length q.from)) (attrs_of q.atoms) a within.attrs (Contains-from_has _ a k));
      select = λ a k. at a (All-contains (IsColumn (length q.from)) q.select a within.select (Contains-from_has _ a k));
    }
