-- Kept ranges are in order, and what is kept of a row lies in them.
use Rattle.std.proofs.Common.{ℕ, ℤ, ◌≤ℤ◌, List, [], ◌∷◌, map, Option, Some, None, sym, subst, arith}
use Rattle.std.proofs.lemmas.Int.{ints}
use Rattle.sem_query.specs.declared.atom.Attr.{Attr}
use Rattle.sem_query.specs.declared.atom.Atom.{Atom}
use Rattle.sem_query.specs.declared.atom.Element.TheVariants as element
use Rattle.sem_query.specs.declared.plan.Dim.{Dim}
use Rattle.sem_query.specs.Boxes.{AreInside, AreFull}
use Rattle.sem_query.specs.Query.{QueryValue}
use Rattle.sem_query.proofs.Has.{Has, first, later}
use Rattle.sem_whole.specs.System.{Difference, system, AreOneClass}
use Rattle.sem_whole.specs.Links.{AreLinks}
use Rattle.sem_whole.specs.Ranges.{Range, range, IsIn, kept, flipped}
use Rattle.sem_whole.specs.Kept.{IsLowest, IsHighest, IsRange, IsAsked, as_it_is, left, right, IsKeptRange}
use Rattle.sem_whole.specs.Whole.{KeptDim, Serves, AreBoxed}
use Rattle.sem_whole.specs.Laws.{KeysLieInBoxes}
use Rattle.sem_whole.proofs.Keeping.{InOrder, Meet, cut_ordered, kept_inside}
use Rattle.sem_whole.proofs.CutLaw.{Stuck, Said, link_stuck, link_said, stuck_flipped, said_flipped, meet, own_ordered, to_none}

-- the columns of a class have one range
pub range_over : (ds : List Difference) (a b : Attr) (r : Range) → AreOneClass ds a b → IsRange ds a r → IsRange ds b r
range_over ds a b r c h = record { low = low r.lo h.low; high = high r.hi h.high }
  where
    low : (l : Option ℤ) → IsLowest ds a l → IsLowest ds b l
    low None n = λ k i. n k (λ v s. (let x = i v s in let y = c.above v s in omega (arith, ints, x, y)))
    low (Some l) n = (λ v s. (let x = n.0 v s in let y = c.below v s in omega (arith, ints, x, y)), λ k i. n.1 k (λ v s. (let x = i v s in let y = c.above v s in omega (arith, ints, x, y))))

    high : (l : Option ℤ) → IsHighest ds a l → IsHighest ds b l
    high None n = λ k i. n k (λ v s. (let x = i v s in let y = c.below v s in omega (arith, ints, x, y)))
    high (Some l) n = (λ v s. (let x = n.0 v s in let y = c.above v s in omega (arith, ints, x, y)), λ k i. n.1 k (λ v s. (let x = i v s in let y = c.below v s in omega (arith, ints, x, y))))

-- the own range meets each window
asked_meet : (q : QueryValue) (links : List Atom) → AreLinks q links → (a : Attr) (own : Range) → IsRange (system q) a own → (w : Range) → IsAsked q links a w → Meet own w
asked_meet q links are a own i w (as_it_is k) = record { alone = own_ordered (system q) a a own.lo own.hi i.low i.high; first = to_none own.lo; second = tt; window = tt }
asked_meet q links are a own i w (left t h b c eb ec cl r ir) =
    meet (system q) t.op b c own r (range_over (system q) a b own cl i) ir
    (subst (λ x. Stuck (system q) t.op x (element.Attr c)) eb (subst (λ y. Stuck (system q) t.op t.left y) ec (link_stuck q links are t h)))
    (subst (λ x. Said (system q) t.op x (element.Attr c)) eb (subst (λ y. Said (system q) t.op t.left y) ec (link_said q links are t h)))
asked_meet q links are a own i w (right t h b c ec eb cl r ir) =
    meet (system q) (flipped t.op) b c own r (range_over (system q) a b own cl i) ir
    (stuck_flipped (system q) t.op (element.Attr c) (element.Attr b)
    (subst (λ x. Stuck (system q) t.op x (element.Attr b)) ec (subst (λ y. Stuck (system q) t.op t.left y) eb (link_stuck q links are t h))))
    (said_flipped (system q) t.op (element.Attr c) (element.Attr b)
    (subst (λ x. Said (system q) t.op x (element.Attr b)) ec (subst (λ y. Said (system q) t.op t.left y) eb (link_said q links are t h))))

-- a kept range is in order
pub kept_ordered : (q : QueryValue) (links : List Atom) → AreLinks q links → (a : Attr) (r : Range) → IsKeptRange q links a r → InOrder r.lo r.hi
kept_ordered q links are a r k =
    subst (λ r. InOrder r.lo r.hi) (sym k.is)
    (cut_ordered k.own k.asked k.some.0 k.some.1 (asked_meet q links are a k.own k.is_own k.some.0 ((k.all k.some.0).0 k.some.1)))

boxed : (ds : List KeptDim) (dims : List Dim) → AreBoxed ds dims → ((d : KeptDim) → Has ds d → InOrder d.range.lo d.range.hi)
    → AreFull dims × ((v : ℕ → ℤ) → AreInside dims (map (λ d. kept d.range (v d.attr.column)) ds))
boxed [] [] b o = (tt, λ v. tt)
boxed [] (e ∷ dims) b o = absurd b
boxed (d ∷ ds) [] b o = absurd b
boxed (d ∷ ds) (e ∷ dims) b o =
    let rest = boxed ds dims b.2 (λ f h. o f (later h)) in
    let full : e.lo ≤ℤ e.hi = subst (λ r. InOrder r.lo r.hi) b.1 (o d first) in (
      (full, rest.0),
      λ v.
          (let i : IsIn (range (Some e.lo) (Some e.hi)) (kept d.range (v d.attr.column))
          = subst (λ r. IsIn r (kept d.range (v d.attr.column))) b.1 (kept_inside d.range.lo d.range.hi (v d.attr.column) (o d first)) in
          (i.0, i.1, rest.1 v)),
    )

pub keys_lie_in_boxes : KeysLieInBoxes
keys_lie_in_boxes q f is place l dims b =
    let s : Serves q f.links place (f.keeps place) = is.serves place l in
    boxed (f.keeps place).dims dims b (λ d h. kept_ordered q f.links is.links d.attr d.range (s.range d h))
