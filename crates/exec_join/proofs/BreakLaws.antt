-- A value that a link excludes breaks this link.
use Rattle.std.proofs.Common.{◌≡◌, ◌≢◌, ℕ, zero, suc, ◌<◌, ◌==◌, Bool, true, false, get_or, List, [], ◌∷◌, ◌++◌, length, refl, sym, ap, ◌∙◌, arith, ℤ, pos, if◌then◌else◌, ◌&&◌, ◌||◌, append_assoc, AllPairs}
use Rattle.std.specs.Prelude.{Option, Some, None, slice_get, nat_lt, int_lt}
use Rattle.std.specs.List.{list_all, list_any}
use Rattle.std.specs.Ordering.{int_eq}
use Rattle.std.proofs.lemmas.Bool.Decides.{nat_tests}
use Rattle.std.proofs.lemmas.Int.{ints}
use Rattle.sem_query.specs.declared.atom.Attr.{Attr}
use Rattle.sem_query.specs.declared.part.Pair.{Pair}
use Rattle.sem_query.specs.declared.plan.Dim.{Dim}
use Rattle.sem_query.specs.declared.plan.Link.{Link}
use Rattle.sem_query.specs.declared.plan.PartPlan.{PartPlan}
use Rattle.sem_query.specs.Query.{attr_eq}
use Rattle.sem_query.specs.Assignment.{compares}
use Rattle.sem_query.specs.Meaning.{by_column}
use Rattle.sem_query.specs.Plan.{dims_at}
use Rattle.sem_query.specs.Combinations.{any_ties, binds}
use Rattle.sem_query.specs.Probing.{is_known}
use Rattle.exec_ranges.specs.declared.binding.Binding.{Binding}
use Rattle.exec_synopsis.specs.Classes.{are_tied}
use Rattle.exec_ranges.specs.Values.{valued, extreme_of, chosen_value, value_in}
use Rattle.exec_join.specs.Choosing.{Setting, chosen, value, meets, meets_links}
use Rattle.exec_ranges.specs.Narrowed.{dims_in}
use Rattle.exec_synopsis.specs.Narrowing.{binding_column}
use Rattle.exec_join.proofs.ExactLaws.{Breaks, BreaksLess}
use Rattle.exec_join.proofs.CutLaws.{is_allowed, breaks-less}
use Rattle.exec_synopsis.proofs.PlanLaws.{IsNamed}
use Rattle.exec_synopsis.proofs.Lookups.{none-is, some-is}

same-attr : (a b : Attr) → attr_eq a b ≡ true → a ≡ b
same-attr a b e =
    let s : a.stream ≡ b.stream = grind (arith, nat_tests) in
    let c : a.column ≡ b.column = grind (arith, nat_tests) in
    λ k. record { stream = s k; column = c k }

left-true : (s t : Bool) → s && t ≡ true → s ≡ true
left-true true t e = refl
left-true false t e = e

right-true : (s t : Bool) → s && t ≡ true → t ≡ true
right-true true t e = e
right-true false t e = absurd (false-is-not e)
  where
    false-is-not : false ≡ true → ⊥
    false-is-not e = cc

no-and : (s t : Bool) → t ≡ false → s && t ≡ false
no-and true t e = e
no-and false t e = refl

not-equal : (x y : ℤ) → x ≢ y → int_eq x y ≡ false
not-equal x y h = by (int_eq x y) refl
  where
    by : (t : Bool) → int_eq x y ≡ t → t ≡ false
    by true e = absurd (h (grind (arith, ints)))
    by false e = refl

module _ (arriving place : ℕ) (a : Attr) (U V : Attr → ℤ) (kept : (y : Attr) → is_known arriving place y ≡ true → V y ≡ U y) where
  breaks-link : (links : List Link) (x : Attr) → binding_column arriving place a links ≡ Some x → V a ≢ U x → list_all (λ l. int_eq (V l.left) (V l.right)) links ≡ false
  breaks-link [] x e h = absurd (none-is x e)
  breaks-link (l ∷ ls) x e h = first (attr_eq l.left a && is_known arriving place l.right) refl e
      (λ f. breaks-link ls x f h)
    where
      second : (t : Bool) → (attr_eq l.right a && is_known arriving place l.left) ≡ t → (if t then Some l.left else binding_column arriving place a ls) ≡ Some x → (binding_column arriving place a ls ≡ Some x → list_all (λ l. int_eq (V l.left) (V l.right)) ls ≡ false) → list_all (λ l. int_eq (V l.left) (V l.right)) (l ∷ ls) ≡ false
      second true g f ih =
          let r = same-attr l.right a (left-true _ _ g) in
          let k = kept l.left (right-true (attr_eq l.right a) _ g) in
          let z = some-is l.left x f in
          ap (λ b. b && list_all (λ l. int_eq (V l.left) (V l.right)) ls) (not-equal (V l.left) (V l.right) (λ i. h (ap V (sym r) ∙ sym i ∙ k ∙ ap U z)))
      second false g f ih = no-and (int_eq (V l.left) (V l.right)) _ (ih f)

      first : (t : Bool) → (attr_eq l.left a && is_known arriving place l.right) ≡ t → (if t then Some l.right else (if attr_eq l.right a && is_known arriving place l.left then Some l.left else binding_column arriving place a ls)) ≡ Some x → (binding_column arriving place a ls ≡ Some x → list_all (λ l. int_eq (V l.left) (V l.right)) ls ≡ false) → list_all (λ l. int_eq (V l.left) (V l.right)) (l ∷ ls) ≡ false
      first true g f ih =
          let r = same-attr l.left a (left-true _ _ g) in
          let k = kept l.right (right-true (attr_eq l.left a) _ g) in
          let z = some-is l.right x f in
          ap (λ b. b && list_all (λ l. int_eq (V l.left) (V l.right)) ls) (not-equal (V l.left) (V l.right) (λ i. h (ap V (sym r) ∙ i ∙ k ∙ ap U z)))
      first false g f ih = second (attr_eq l.right a && is_known arriving place l.left) refl f ih

get-before : {X : Type 0} (xs ys : List X) (i : ℕ) → i < length xs → slice_get (xs ++ ys) i ≡ slice_get xs i
get-before [] ys i l = absurd (omega (arith, l))
get-before (x ∷ xs) ys zero l = refl
get-before (x ∷ xs) ys (suc i) l = get-before xs ys i (omega (arith, l))

pub get-here : {X : Type 0} (xs ys : List X) (x : X) → slice_get ((xs ++ x ∷ []) ++ ys) (length xs) ≡ Some x
get-here [] ys x = refl
get-here (y ∷ xs) ys x = get-here xs ys x

attr_eq-self : (a : Attr) → attr_eq a a ≡ true
attr_eq-self a = grind (arith, nat_tests)

-- a dim has its own value
pub valued-own : (ps : List Pair) (part : PartPlan) (dims : List Dim) (xs : List ℤ) (k : ℕ) (o : Dim) (z : ℤ)
    → AllPairs (λ (d e : Dim). are_tied ps part d.attr e.attr ≡ false) dims
    → k < length dims → k < length xs → valued ps part dims xs z (get_or dims k o).attr ≡ get_or xs k (pos 0)
valued-own ps part [] xs k o z names l m = absurd (omega (arith, l))
valued-own ps part (d ∷ dims) [] k o z names l m = absurd (omega (arith, m))
valued-own ps part (d ∷ dims) (x ∷ xs) zero o z names l m =
    ap (λ b. if (b || any_ties d.attr d.attr ps part.signs.items) || list_any (binds d.attr d.attr) part.local then x else valued ps part dims xs z d.attr) (attr_eq-self d.attr)
valued-own ps part (d ∷ dims) (x ∷ xs) (suc k) o z names l m =
    let e = names 0 (suc k) o (omega arith) l in
    ap (λ b. if b then x else valued ps part dims xs z (get_or dims k o).attr) e
    ∙ valued-own ps part dims xs k o z (λ i j p h g. names (suc i) (suc j) p (omega (arith, h)) (omega (arith, g))) (omega (arith, l)) (omega (arith, m))

pub value-chosen : (ps : List Pair) (part : PartPlan) (arriving place : ℕ) (row : List ℤ) (cs : List Binding) (a : Attr) (c : Binding) (v : ℤ)
    → a.stream ≡ place → (place == arriving) ≡ false → slice_get cs place ≡ Some c
    → valued ps part (dims_at part place) c.values.items (extreme_of c.cell) a ≡ v
    → value_in ps part arriving row cs a ≡ v
unfolding value_in
value-chosen ps part arriving place row cs a c v s e g h =
    (λ i. if s i == arriving then by_column row a.column else from (s i) (slice_get cs (s i)))
    ∙ (λ i. if e i then by_column row a.column else from place (g i))
    ∙ h
  where
    from : ℕ → Option Binding → ℤ
    from n None = pos 0
    from n (Some d) = valued ps part (dims_at part n) d.values.items (extreme_of d.cell) a

pub value-known : (ps : List Pair) (part : PartPlan) (arriving : ℕ) (row : List ℤ) (known more : List Binding) (a : Attr) → is_known arriving (length known) a ≡ true → value_in ps part arriving row (known ++ more) a ≡ value_in ps part arriving row known a
unfolding value_in
value-known ps part arriving row known more a = by (a.stream == arriving)
  where
    by : (t : Bool) → (t || nat_lt a.stream (length known)) ≡ true → (if t then by_column row a.column else chosen_value ps part a (slice_get (known ++ more) a.stream)) ≡ (if t then by_column row a.column else chosen_value ps part a (slice_get known a.stream))
    by true e = refl
    by false e = let l : a.stream < length known = grind (arith, nat_tests) in ap (chosen_value ps part a) (get-before known more a.stream l)

pub breaks : (w : Setting) → IsNamed w.pairs w.part → Breaks w
unfolding meets_links dims_in
breaks w named known k d a vs c cs = by (length known == w.arriving) refl
  where
    by : (t : Bool) → (length known == w.arriving) ≡ t → k < length (if t then [] else dims_at w.part (length known)) → k < length vs →
        binding_column w.arriving (length known) (get_or (if t then [] else dims_at w.part (length known)) k d).attr w.part.equal.items ≡ Some a → get_or vs k (pos 0) ≢ value w known a →
        meets w ((known ++ chosen vs c ∷ []) ++ cs) ≡ false
    by true e l m f h = absurd (omega (arith, l))
    by false e l m f h =
        let dim = get_or (dims_at w.part (length known)) k d in
        let n = named (length known) in
        let here : dim.attr.stream ≡ length known = n.streams k d l in
        let is : value w ((known ++ chosen vs c ∷ []) ++ cs) dim.attr ≡ get_or vs k (pos 0) =
        value-chosen w.pairs w.part w.arriving (length known) w.row ((known ++ chosen vs c ∷ []) ++ cs) dim.attr (chosen vs c) (get_or vs k (pos 0))
        here e (get-here known cs (chosen vs c)) (valued-own w.pairs w.part (dims_at w.part (length known)) vs k d (extreme_of c) n.names l m) in
        let broken = breaks-link w.arriving (length known) dim.attr (value w known) (value w ((known ++ chosen vs c ∷ []) ++ cs))
        (λ y t. (λ i. value w (append_assoc known (chosen vs c ∷ []) cs i) y) ∙ value-known w.pairs w.part w.arriving w.row known (chosen vs c ∷ cs) y t)
        w.part.equal.items a f (λ i. h (sym is ∙ i)) in
        ap (λ b. (b && list_all (λ l. int_lt (value w ((known ++ chosen vs c ∷ []) ++ cs) l.left) (value w ((known ++ chosen vs c ∷ []) ++ cs) l.right)) w.part.less.items)
        && list_all (λ l. compares l.op (value w ((known ++ chosen vs c ∷ []) ++ cs) l.left) (value w ((known ++ chosen vs c ∷ []) ++ cs) l.right)) w.part.soft.items) broken

pub breaks-inequality : (w : Setting) → IsNamed w.pairs w.part → BreaksLess w
unfolding meets_links dims_in
breaks-inequality w named known k d vs c cs = by (length known == w.arriving) refl
  where
    by : (t : Bool) → (length known == w.arriving) ≡ t → k < length (if t then [] else dims_at w.part (length known)) → k < length vs →
        is_allowed w.arriving (length known) w.part.less.items (value w known) (get_or (if t then [] else dims_at w.part (length known)) k d).attr (get_or vs k (pos 0)) ≡ false →
        meets w ((known ++ chosen vs c ∷ []) ++ cs) ≡ false
    by true e l m f = absurd (omega (arith, l))
    by false e l m f =
        let dim = get_or (dims_at w.part (length known)) k d in
        let n = named (length known) in
        let here : dim.attr.stream ≡ length known = n.streams k d l in
        let is : value w ((known ++ chosen vs c ∷ []) ++ cs) dim.attr ≡ get_or vs k (pos 0) =
        value-chosen w.pairs w.part w.arriving (length known) w.row ((known ++ chosen vs c ∷ []) ++ cs) dim.attr (chosen vs c) (get_or vs k (pos 0))
        here e (get-here known cs (chosen vs c)) (valued-own w.pairs w.part (dims_at w.part (length known)) vs k d (extreme_of c) n.names l m) in
        let broken = breaks-less w.arriving (length known) dim.attr (value w known) (value w ((known ++ chosen vs c ∷ []) ++ cs))
        (λ y t. (λ i. value w (append_assoc known (chosen vs c ∷ []) cs i) y) ∙ value-known w.pairs w.part w.arriving w.row known (chosen vs c ∷ cs) y t)
        (get_or vs k (pos 0)) is w.part.less.items f in
        ap (λ b. b && list_all (λ l. compares l.op (value w ((known ++ chosen vs c ∷ []) ++ cs) l.left) (value w ((known ++ chosen vs c ∷ []) ++ cs) l.right)) w.part.soft.items)
        (no-and (list_all (λ l. int_eq (value w ((known ++ chosen vs c ∷ []) ++ cs) l.left) (value w ((known ++ chosen vs c ∷ []) ++ cs) l.right)) w.part.equal.items) _ broken)
