-- The kind of the cell of each number, over the boxes of a plan.
use Rattle.std.proofs.Common.{◌≡◌, ℕ, ◌+◌, ◌-◌, ◌<◌, cond, nat_lt, Bool, true, false, List, [], ◌∷◌, ◌++◌, Some, refl, sym, ap, ◌∙◌, subst, arith, All}
use Rattle.std.proofs.lemmas.Bool.Decides.{nat_tests}
use Rattle.std.proofs.lemmas.List.Elements.{All-contains}
use Rattle.sem_query.specs.declared.plan.Kind.{Kind}
use Rattle.sem_query.specs.declared.plan.PartPlan.{PartPlan}
use Rattle.sem_query.specs.declared.plan.Plan.{Plan}
use Rattle.sem_query.specs.declared.plan.Plan.TheVariants as plans
use Rattle.sem_query.specs.Query.{QueryValue}
use Rattle.sem_query.specs.Plan.{stream_at}
use Rattle.sem_query.specs.Serving.{KeepsStreams}
use Rattle.sem_query.specs.Numbers.{parts_of}
use Rattle.sem_query.specs.Sharing.{Box, box_at, size_in, sizes_in, kept_boxes}
use Rattle.sem_query.proofs.Has.{Has, first, Has-append_right, Contains-from_has}
use Rattle.sem_laws.specs.Sharing.{Begins, IsCovered, AreBoxesOf}
use Rattle.sem_laws.proofs.PlanBoxes.{plans-have-boxes}
use Rattle.sem_laws.proofs.SameBoxes.{are-same, same-size, sizes-cons}
use Rattle.sem_laws.proofs.Walking.{serving-keep}
use Rattle.sem_forms.specs.Forms.{IsServingForm}
use Rattle.exec_restore.specs.Loadable.{kind_at}

less : (n m : ℕ) → n < m → nat_lt n m ≡ true
less n m l = grind (arith, nat_tests)

not_less : (n m k : ℕ) → n ≡ m + k → nat_lt n m ≡ false
not_less n m k e = grind (arith, nat_tests)

-- a number in the first box
kind_first : (b : Box) (boxes : List Box) (i : ℕ) → i < size_in b → kind_at (b ∷ boxes) i ≡ Some (stream_at b.part b.place).kind
unfolding kind_at
kind_first b boxes i inside = ap (λ t. cond t (Some (stream_at b.part b.place).kind) (kind_at boxes (i - size_in b))) (less i (size_in b) inside)

-- a number behind it
kind_past : (b : Box) (boxes : List Box) (n m : ℕ) → n ≡ size_in b + m → kind_at (b ∷ boxes) n ≡ kind_at boxes m
unfolding kind_at
kind_past b boxes n m e =
    ap (λ t. cond t (Some (stream_at b.part b.place).kind) (kind_at boxes (n - size_in b))) (not_less n (size_in b) m e)
    ∙ ap (kind_at boxes) (let z : n - size_in b ≡ m = omega (arith, e) in z)

-- a number in a box behind others
kind_behind : (before : List Box) (b : Box) (after : List Box) (n i : ℕ) → i < size_in b → n ≡ sizes_in before + i → kind_at (before ++ b ∷ after) n ≡ Some (stream_at b.part b.place).kind
kind_behind [] b after n i inside e = ap (kind_at (b ∷ after)) (let z : n ≡ i = omega (arith, e) in z) ∙ kind_first b after i inside
kind_behind (x ∷ before) b after n i inside e =
    let all = sizes-cons x before in
    kind_past x (before ++ b ∷ after) n (sizes_in before + i) (omega (arith, e, all)) ∙ kind_behind before b after (sizes_in before + i) i inside refl

-- a number is that of a place in the box of a part of the plan, and has its kind
pub record IsKindAt (plan : List PartPlan) (list : List Box) (n : ℕ) : Type 0 where
  pub cell : IsCovered plan n
  pub kind : kind_at list n ≡ Some (stream_at cell.part cell.place).kind

of_boxes : (q : QueryValue) (plan : List PartPlan) → All (KeepsStreams q) plan → (list : List Box) → AreBoxesOf q plan list → (n : ℕ) → n < sizes_in list → IsKindAt plan list n
of_boxes q plan plans list of n below =
    let c : IsCovered plan n = of.covers n below in
    let b : Begins q list (box_at c.part c.place) (stream_at c.part c.place).base = of.each c.part c.known c.place c.there in
    let own = of.alone b.same (Contains-from_has list b.same (subst (λ (l : List Box). Has l b.same) (sym b.whole) (Has-append_right b.before first))) in
    let p : KeepsStreams q c.part = All-contains (KeepsStreams q) plan c.part plans c.known in
    let r : KeepsStreams q b.same.part = All-contains (KeepsStreams q) plan b.same.part plans own.0 in
    let size : size_in b.same ≡ (stream_at c.part c.place).size
    = same-size q b.same (box_at c.part c.place) b.is r p (let m = r.count in let l = own.1 in omega (arith, m, l)) (let m = p.count in let l = c.there in omega (arith, m, l)) in
    let inside : c.i < size_in b.same = (let i = c.inside in omega (arith, size, i)) in
    record {
      cell = c;
      kind = ap (λ (l : List Box). kind_at l n) b.whole ∙ kind_behind b.before b.same b.after n c.i inside (let t = b.there in let a = c.at in omega (arith, t, a))
          ∙ ap (λ (k : Kind). Some k) (are-same q b.same (box_at c.part c.place) b.is).kind;
    }

none : (shared : Bool) (q : QueryValue) → sizes_in (kept_boxes shared q []) ≡ 0
none false q = refl
none true q = refl

-- each cell of a plan that serves has its kind
pub kind_there : (shared : Bool) (q : QueryValue) (p : Plan) → IsServingForm shared q p → (n : ℕ) → n < sizes_in (kept_boxes shared q (parts_of p)) → IsKindAt (parts_of p) (kept_boxes shared q (parts_of p)) n
kind_there shared q plans.Filter is n below = absurd (let e = none shared q in omega (arith, e, below))
kind_there shared q (plans.Parts list numbers) is n below = of_boxes q list (serving-keep q list is.1.serves) (kept_boxes shared q list) (plans-have-boxes shared q list is.2) n below
