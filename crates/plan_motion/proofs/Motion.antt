-- What is told of the comparisons of a query is whether its values move.
use Rattle.std.proofs.Common.{◌≡◌, ◌≢◌, ◌↔◌, ◌⊎◌, inl, inr, ℤ, pos, List, ◌∷◌, ◌++◌, Bool, true, false, ◌||◌, IsTrue, refl, sym, ap, ◌∙◌, subst, Contains}
use Rattle.std.specs.Prelude.{IsFalse}
use Rattle.std.specs.List.{Any, flat_map}
use Rattle.sem_query.specs.declared.atom.Atom.{Atom}
use Rattle.sem_query.specs.declared.atom.Attr.{Attr}
use Rattle.sem_query.specs.declared.atom.Element.{Element}
use Rattle.sem_query.specs.declared.atom.Element.TheVariants as element
use Rattle.sem_query.specs.declared.atom.Op.{Op}
use Rattle.sem_query.specs.Query.{QueryValue}
use Rattle.sem_query.proofs.Has.{Has, first, later, Has-nil, Has-from_contains, Contains-from_has, Has-append_left, Has-append_cases, Has-flat_map, Has-flat_map_from}
use Rattle.sem_laws.proofs.Tests.{not_both}
use Rattle.sem_whole.specs.Failing.{Contradicts}
use Rattle.sem_whole.specs.System.{Difference, bounds_of, atom_bounds, domain_bounds, system}
use Rattle.sem_split_bounds.specs.Steps.{NoTop, NoBottom, Step, OneEnd}
use Rattle.sem_split_bounds.specs.Moving.{IsCompared, LackOneEnd, MoveApart, HasMotion}
use Rattle.sem_split_bounds.specs.Moving as moving
use Rattle.plan_motion.specs.Moving.{LacksEnd, leads_right, leads_left, OfOneWay, OfStep, MovesWith, MovesWithOne, HasMoving, AreOpenAcross, IsOpenAcross, MovesByTests}

any_has : {X : Type 0} (P : X → Type 0) (xs : List X) → Any P xs → (x : X) × Has xs x × P x
any_has P xs w = (w.1, Has-from_contains xs w.1 (w.0, w.2, w.3), w.4)

any_if : {X : Type 0} (P : X → Type 0) (xs : List X) (x : X) → Has xs x → P x → Any P xs
any_if P xs x h p = let c = Contains-from_has xs x h in (c.0, x, c.1, c.2, p)

no_integer : (a : Attr) (k : ℤ) → element.Attr a ≡ element.Const k → ⊥
no_integer a k e = cc

-- ---- what operators say

right_said : (o : Op) (x y : Element) → IsTrue (leads_right o) → (d : Difference) × Has (bounds_of o x y) d × (d.left ≡ x) × (d.right ≡ y)
right_said Op.Lt x y k = (_, first, refl, refl)
right_said Op.Le x y k = (_, first, refl, refl)
right_said Op.Eq x y k = (_, first, refl, refl)
right_said Op.Gt x y k = absurd cc
right_said Op.Ge x y k = absurd cc
right_said Op.Ne x y k = absurd cc

left_said : (o : Op) (x y : Element) → IsTrue (leads_left o) → (d : Difference) × Has (bounds_of o x y) d × (d.left ≡ y) × (d.right ≡ x)
left_said Op.Lt x y k = absurd cc
left_said Op.Le x y k = absurd cc
left_said Op.Eq x y k = (_, later first, refl, refl)
left_said Op.Gt x y k = (_, first, refl, refl)
left_said Op.Ge x y k = (_, first, refl, refl)
left_said Op.Ne x y k = absurd cc

abbrev SaidBy : Op → Element → Element → Difference → Type 0
SaidBy o x y d = (IsTrue (leads_right o) × (d.left ≡ x) × (d.right ≡ y)) ⊎ (IsTrue (leads_left o) × (d.left ≡ y) × (d.right ≡ x))

said_by : (o : Op) (x y : Element) (d : Difference) → Has (bounds_of o x y) d → SaidBy o x y d
said_by Op.Lt x y d first = inl (refl, refl, refl)
said_by Op.Lt x y d (later k) = Has-nil k
said_by Op.Le x y d first = inl (refl, refl, refl)
said_by Op.Le x y d (later k) = Has-nil k
said_by Op.Eq x y d first = inl (refl, refl, refl)
said_by Op.Eq x y d (later first) = inr (refl, refl, refl)
said_by Op.Eq x y d (later (later k)) = Has-nil k
said_by Op.Gt x y d first = inr (refl, refl, refl)
said_by Op.Gt x y d (later k) = Has-nil k
said_by Op.Ge x y d first = inr (refl, refl, refl)
said_by Op.Ge x y d (later k) = Has-nil k
said_by Op.Ne x y d k = Has-nil k

module _ (q : QueryValue) where
  abbrev ds : List Difference
  ds = system q

  -- ---- differences between streams

  module _ (P : Attr → Attr → Type 0) where
    step_at : (l : Element) (o : Op) (r : Element) → ((d : Difference) → Has (bounds_of o l r) d → Has ds d) → OfStep P l o r → (x y : Attr) × Step ds x y × P x y
    step_at (element.Attr a) o (element.Attr b) from s = elim s.1 [
      | inl k ↦ (let d = right_said o (element.Attr a) (element.Attr b) k.0 in (a, b, record { of = d.0; among = from d.0 d.1; left = d.2; right = d.3; across = s.0 }, k.1))
      | inr k ↦ (let d = left_said o (element.Attr a) (element.Attr b) k.0 in (b, a, record { of = d.0; among = from d.0 d.1; left = d.2; right = d.3; across = λ e. s.0 (sym e) }, k.1))
    ]
    step_at (element.Attr a) o (element.Const k) from s = absurd s
    step_at (element.Const k) o r from s = absurd s

    step_of : (t : Atom) → Has q.atoms t → OfStep P t.left t.op t.right → (x y : Attr) × Step ds x y × P x y
    step_of t h s = step_at t.left t.op t.right (λ d k. Has-append_left (flat_map domain_bounds q.domains) (Has-flat_map atom_bounds q.atoms t d h k)) s

    step_told : (x y : Attr) → Step ds x y → P x y → (t : Atom) × Has q.atoms t × OfStep P t.left t.op t.right
    step_told x y s p = elim (Has-append_cases (flat_map atom_bounds q.atoms) (flat_map domain_bounds q.domains) s.of s.among) [
      | inl k ↦ (let t = Has-flat_map_from atom_bounds q.atoms s.of k in (t.0, t.1, of_atom t.0 (said_by t.0.op t.0.left t.0.right s.of t.2)))
      | inr k ↦ (let e = Has-flat_map_from domain_bounds q.domains s.of k in
          absurd (elim (Has-append_cases (bounds_of Op.Le (element.Const e.0.lo) (element.Attr e.0.attr)) (bounds_of Op.Le (element.Attr e.0.attr) (element.Const e.0.hi)) s.of e.2) [
            | inl i ↦ low e.0.lo (element.Attr e.0.attr) (said_by Op.Le (element.Const e.0.lo) (element.Attr e.0.attr) s.of i)
            | inr i ↦ high (element.Attr e.0.attr) e.0.hi (said_by Op.Le (element.Attr e.0.attr) (element.Const e.0.hi) s.of i)
          ]))
    ]
      where
        of_atom : (t : Atom) → SaidBy t.op t.left t.right s.of → OfStep P t.left t.op t.right
        of_atom t (inl k) = subst (λ l. OfStep P l t.op t.right) (sym (sym k.1 ∙ s.left)) (subst (λ r. OfStep P (element.Attr x) t.op r) (sym (sym k.2 ∙ s.right)) (s.across, inl (k.0, p)))
        of_atom t (inr k) = subst (λ l. OfStep P l t.op t.right) (sym (sym k.2 ∙ s.right)) (subst (λ r. OfStep P (element.Attr y) t.op r) (sym (sym k.1 ∙ s.left)) (λ e. s.across (sym e), inr (k.0, p)))

        low : (k : ℤ) (r : Element) → SaidBy Op.Le (element.Const k) r s.of → ⊥
        low k r (inl i) = no_integer x k (sym s.left ∙ i.1)
        low k r (inr i) = absurd cc

        high : (l : Element) (k : ℤ) → SaidBy Op.Le l (element.Const k) s.of → ⊥
        high l k (inl i) = no_integer y k (sym s.right ∙ i.2)
        high l k (inr i) = absurd cc

  -- ---- the three ways

  end_lacks : (a : Attr) → LacksEnd ds a → NoTop ds a ⊎ NoBottom ds a
  unfolding LacksEnd
  end_lacks a o = o

  lacks_end : (a : Attr) → NoTop ds a ⊎ NoBottom ds a → LacksEnd ds a
  unfolding LacksEnd
  lacks_end a o = o

  open_at : (l r : Element) → AreOpenAcross ds l r → (x y : Attr) × (l ≡ element.Attr x) × (r ≡ element.Attr y) × AreOpenAcross ds (element.Attr x) (element.Attr y)
  open_at (element.Attr a) (element.Attr b) o = (a, b, refl, refl, o)
  open_at (element.Attr a) (element.Const k) o = absurd o
  open_at (element.Const k) r o = absurd o

  told_moves : MovesByTests q ds → HasMotion q
  told_moves (inl i) = let w = any_has (LacksEnd ds) q.select i in moving.selected w.0 (Contains-from_has q.select w.0 w.1) (end_lacks w.0 w.2)
  told_moves (inr (inl i)) =
      let w = any_has (IsOpenAcross ds) q.atoms i.1 in
      let o = open_at w.0.left w.0.right w.2 in
      moving.counted i.0 o.0 o.1 record { by = w.0; among = w.1; left = o.2; right = o.3; across = o.4.0 } o.4.1
  told_moves (inr (inr i)) =
      let w = any_has (HasMoving ds q.atoms) q.atoms i in
      let s = step_of (MovesWithOne ds q.atoms) w.0 w.1 w.2 in
      let v = any_has (MovesWith ds s.0 s.1) q.atoms s.3 in
      let t = step_of (MoveApart ds s.0 s.1) v.0 v.1 v.2 in
      moving.apart s.0 s.1 t.0 t.1 s.2 t.2 t.3

  moves_told : HasMotion q → MovesByTests q ds
  moves_told (moving.selected a h o) = inl (any_if (LacksEnd ds) q.select a (Has-from_contains q.select a h) (lacks_end a o))
  moves_told (moving.counted d x y c o) = inr (inl (
    d,
    any_if (IsOpenAcross ds) q.atoms c.by c.among
        (subst (λ l. AreOpenAcross ds l c.by.right) (sym c.left) (subst (λ r. AreOpenAcross ds (element.Attr x) r) (sym c.right) (c.across, o))),
  ))
  moves_told (moving.apart x1 y1 x2 y2 s1 s2 m) =
      let u = step_told (MoveApart ds x1 y1) x2 y2 s2 m in
      let t = step_told (MovesWithOne ds q.atoms) x1 y1 s1 (any_if (MovesWith ds x1 y1) q.atoms u.0 u.1 u.2) in
      inr (inr (any_if (HasMoving ds q.atoms) q.atoms t.0 t.1 t.2))

  pub tests_tell : MovesByTests q ds ↔ HasMotion q
  tests_tell = (told_moves, moves_told)

  -- what contradicts itself has no motion
  module _ (never : Contradicts q) where
    no_top : (a : Attr) → NoTop ds a → ⊥
    no_top a n = n (pos 0) (λ v s. absurd (never v s))

    no_bottom : (a : Attr) → NoBottom ds a → ⊥
    no_bottom a n = n (pos 0) (λ v s. absurd (never v s))

    both_lack : (x y : Attr) → LackOneEnd ds x y → ⊥
    both_lack x y (inl t) = no_top x t.0
    both_lack x y (inr t) = no_bottom x t.0

    one_end : (x1 y1 x2 y2 : Attr) → OneEnd ds x1 y1 x2 y2 → ⊥
    one_end x1 y1 x2 y2 (inl t) = no_top x1 t.0
    one_end x1 y1 x2 y2 (inr t) = no_bottom y1 t.0

    none_apart : (x1 y1 x2 y2 : Attr) → MoveApart ds x1 y1 x2 y2 → ⊥
    none_apart x1 y1 x2 y2 (inl m) = one_end x1 y1 x2 y2 m.1
    none_apart x1 y1 x2 y2 (inr (inl m)) = one_end x1 y1 x2 y2 m.1
    none_apart x1 y1 x2 y2 (inr (inr m)) = no_top x1 m.1

    pub still : HasMotion q → ⊥
    still (moving.selected a h (inl t)) = no_top a t
    still (moving.selected a h (inr t)) = no_bottom a t
    still (moving.counted d x y c o) = both_lack x y o
    still (moving.apart x1 y1 x2 y2 s1 s2 m) = none_apart x1 y1 x2 y2 m

-- one of two, where a test says that it is not the first
pub other_way : {A B : Type 0} (r s : Bool) → IsTrue r ↔ A → r ≡ false → IsTrue s ↔ B → IsTrue s ↔ (A ⊎ B)
other_way r s er e es = (λ h. inr (es.0 h), λ k. elim k [ inl a ↦ absurd (not_both r (er.1 a) e) | inr b ↦ es.1 b ])
