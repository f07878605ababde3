-- What one turn of a probe keeps.
use Rattle.sem_query.specs.Parts.{pairs}
use Rattle.std.proofs.Common.{◌≡◌, ◌≢◌, ℕ, zero, suc, ◌+◌, ◌-◌, ◌*◌, ◌<◌, ◌≤◌, ◌^◌, ◌==◌, Bool, true, false, not, cond, get_or, List, [], ◌∷◌, ◌++◌, map, filter, length, drop, take, lit≤, refl, sym, ap, ◌∙◌, subst, arith, length-append, ℤ, pos, if◌then◌else◌, ◌&&◌, ◌||◌}
use Rattle.std.specs.Prelude.{Option, Some, None, int_le, slice_index_or}
use Rattle.std.specs.List.{list_any}
use Rattle.std.proofs.lemmas.Bool.Decides.{nat_tests}
use Rattle.std.proofs.Math.Nat.{mul-le-mul}
use Rattle.std.proofs.lemmas.List.{length-take, take_more}
use Rattle.sem_query.specs.Boxes.{box, place_of, dim_size, box_size, values_at, AreInside}
use Rattle.sem_query.specs.declared.atom.Attr.{Attr}
use Rattle.sem_query.specs.declared.part.Pair.{Pair}
use Rattle.sem_query.specs.declared.plan.Dim.{Dim}
use Rattle.sem_query.specs.declared.plan.Link.{Link}
use Rattle.sem_query.specs.declared.plan.Kind.{Kind}
use Rattle.sem_query.specs.declared.plan.PartPlan.{PartPlan}
use Rattle.sem_query.specs.Query.{attr_eq}
use Rattle.sem_query.specs.Plan.{stream_at, dims_at}
use Rattle.sem_query.specs.Cells.{FitsKind}
use Rattle.sem_query.specs.Combinations.{Reading, read_from}
use Rattle.sem_query.specs.Numbers.{equals_some}
use Rattle.sem_query.specs.Probing.{is_known}
use Rattle.sem_query.proofs.BoxLaws.{values-inside, length-box, box-from, place-below}
use Rattle.sem_query.specs.declared.cell.Cell.{Cell}
use Rattle.sem_query.specs.declared.cell.Cell.TheVariants.{Empty, Count, Present, Extreme}
use Rattle.exec_ranges.specs.declared.binding.Binding.{Binding}
use Rattle.exec_join.specs.declared.probe.Probe.{Probe}
use Rattle.exec_ranges.specs.Values.{value_in, rows_in}
use Rattle.exec_join.specs.Choosing.{setting, product_of, meets_links, tuple_of, found, cell_in}
use Rattle.exec_ranges.specs.Narrowed.{dims_in, narrowed_dims}
use Rattle.exec_join.specs.Walk.{left, walk, outer}
use Rattle.exec_synopsis.specs.Narrowing.{narrow, narrowed_by, binding_column, clip}
use Rattle.exec_join.specs.Costs.{Rates, cost_left, tried_size, read_at}
use Rattle.exec_pool.specs.declared.scan.StridedCells.{StridedCells}
use Rattle.exec_pool.specs.Strides.{at_stride}
use Rattle.exec_ranges.specs.Lined.{IsLine}
use Rattle.exec_synopsis.specs.Premises.{IsLaidOut, AreFitting}
use Rattle.exec_join.specs.Remaining.{left_of, outer_of, IsPlaced, WentBack, HasEntered, ended, popped, AreLight, limit, as_found}
use Rattle.exec_join.proofs.WalkLaws.{left-skip, left-back, left-past, left-whole, left-enter, outer-none}
use Rattle.exec_join.proofs.CostLaws.{cost-skip, cost-back, cost-end, cost-next, cost-enter}
use Rattle.exec_ranges.proofs.NarrowLaws.{clip-narrower, one-value}
use Rattle.exec_ranges.proofs.DimLaws.{dims-beside, inside-narrowed}

-- a dim counts with all its values where no known column fixes it, and else with one
abbrev free_dim : Dim → Option Attr → ℕ
free_dim d None = dim_size d
free_dim d (Some a) = 1

-- how many combinations of values there are of dims, of each that a known column fixes one
abbrev free_product : ℕ → ℕ → List Link → List Dim → ℕ
free_product arriving place links [] = 1
free_product arriving place links (d ∷ ds) = free_dim d (binding_column arriving place d.attr links) * free_product arriving place links ds

-- the links tell of a known column
abbrev is_told : ℕ → ℕ → List Link → Dim → Bool
is_told arriving place links d =
    list_any (λ l. (attr_eq l.left d.attr && is_known arriving place l.right) || (attr_eq l.right d.attr && is_known arriving place l.left)) links

free-told : (arriving place : ℕ) (links : List Link) (d : Dim) → free_dim d (binding_column arriving place d.attr links) ≡ cond (is_told arriving place links d) 1 (dim_size d)
free-told arriving place [] d = refl
free-told arriving place (l ∷ ls) d =
    by (attr_eq l.left d.attr && is_known arriving place l.right) (attr_eq l.right d.attr && is_known arriving place l.left) (free-told arriving place ls d)
  where
    by : (s t : Bool) → free_dim d (binding_column arriving place d.attr ls) ≡ cond (is_told arriving place ls d) 1 (dim_size d)
        → free_dim d (if s then Some l.right else (if t then Some l.left else binding_column arriving place d.attr ls)) ≡ cond ((s || t) || is_told arriving place ls d) 1 (dim_size d)
    by true t h = refl
    by false true h = refl
    by false false h = h

free-filter : (arriving place : ℕ) (links : List Link) (ds : List Dim) → free_product arriving place links ds ≡ box_size (filter (λ d. not (is_told arriving place links d)) ds)
free-filter arriving place links [] = refl
free-filter arriving place links (d ∷ ds) =
    (λ k. free-told arriving place links d k * free-filter arriving place links ds k) ∙ by (is_told arriving place links d)
  where
    by : (t : Bool) → cond t 1 (dim_size d) * box_size (filter (λ e. not (is_told arriving place links e)) ds) ≡ box_size (cond (not t) (d ∷ filter (λ e. not (is_told arriving place links e)) ds) (filter (λ e. not (is_told arriving place links e)) ds))
    by true = omega arith
    by false = refl

free-tried : (part : PartPlan) (arriving place : ℕ) → free_product arriving place part.equal.items (dims_in part arriving place) ≡ tried_size part arriving place
unfolding dims_in tried_size
free-tried part arriving place = by (place == arriving)
  where
    by : (t : Bool) → free_product arriving place part.equal.items (if t then [] else dims_at part place) ≡ box_size (if t then [] else filter (λ d. not (equals_some part d.attr (is_known arriving place))) (dims_at part place))
    by true = refl
    by false = free-filter arriving place part.equal.items (dims_at part place)

free-open : (arriving place : ℕ) (ds : List Dim) → free_product arriving place [] ds ≡ box_size ds
free-open arriving place [] = refl
free-open arriving place (d ∷ ds) = ap (λ n. dim_size d * n) (free-open arriving place ds)

dims-other : (part : PartPlan) (arriving place : ℕ) → place ≢ arriving → dims_in part arriving place ≡ dims_at part place
unfolding dims_in
dims-other part arriving place other = by (place == arriving) refl
  where
    by : (t : Bool) → (place == arriving) ≡ t → (if t then [] else dims_at part place) ≡ dims_at part place
    by true e = absurd (other (grind (arith, nat_tests)))
    by false e = refl

-- where no columns are equal, a walk tries each value of each dim of another stream
pub tried-open : (part : PartPlan) (arriving place : ℕ) → part.equal.items ≡ [] → place ≢ arriving → tried_size part arriving place ≡ box_size (dims_at part place)
tried-open part arriving place none other =
    sym (free-tried part arriving place) ∙ (λ k. free_product arriving place (none k) (dims-other part arriving place other k)) ∙ free-open arriving place (dims_at part place)

one-at-most : (d : Dim) (v : ℤ) (t : Bool) → dim_size (if t then record { attr = d.attr; lo = v; hi = v } else record { attr = d.attr; lo = pos 1; hi = pos 0 }) ≤ 1
one-at-most d v true = omega (arith, one-value v)
one-at-most d v false = omega arith

free-by : (d other : Dim) (values : Attr → ℤ) (a : Option Attr) → dim_size other ≤ dim_size d → dim_size (narrowed_by d other values a) ≤ free_dim d a
free-by d other values None h = h
free-by d other values (Some a) h = one-at-most d (values a) (int_le d.lo (values a) && int_le (values a) d.hi)

free-map : (arriving place : ℕ) (equal less : List Link) (values : Attr → ℤ) (ds : List Dim) → box_size (map (narrow arriving place equal less values) ds) ≤ free_product arriving place equal ds
unfolding narrow
free-map arriving place equal less values [] = omega arith
free-map arriving place equal less values (d ∷ ds) =
    mul-le-mul (free-by d (clip arriving place less values d) values (binding_column arriving place d.attr equal) (clip-narrower arriving place less values d).size) (free-map arriving place equal less values ds)

pub few-candidates : (ps : List Pair) (part : PartPlan) (arriving : ℕ) (row : List ℤ) (known : List Binding) → box_size (narrowed_dims ps part arriving row known) ≤ tried_size part arriving (length known)
unfolding narrowed_dims
few-candidates ps part arriving row known =
    let a = free-map arriving (length known) part.equal.items part.less.items (value_in ps part arriving row known) (dims_in part arriving (length known)) in
    let b = free-tried part arriving (length known) in
    omega (arith, a, b)

pub cost-of-back : (rates : ℕ → Rates) (streams : ℕ) (p r : Probe) → WentBack p r → p.over ≡ false → length p.room.now.numbers.items ≤ streams →
    cost_left (rates r.arriving) streams r.room.now.numbers.items r.next r.over + (rates p.arriving).level ≤ cost_left (rates p.arriving) streams p.room.now.numbers.items p.next p.over
cost-of-back rates streams p r (ended a b c d e f g h m zs ss) o l =
    let x : cost_left (rates r.arriving) streams r.room.now.numbers.items r.next r.over ≡ cost_left (rates p.arriving) streams r.room.now.numbers.items r.next true = λ k. cost_left (rates (f k)) streams r.room.now.numbers.items r.next (e k) in
    let y : cost_left (rates p.arriving) streams p.room.now.numbers.items p.next p.over ≡ cost_left (rates p.arriving) streams [] p.next false = λ k. cost_left (rates p.arriving) streams (b k) p.next (o k) in
    omega (arith, x, y, cost-end (rates p.arriving) streams p.next r.room.now.numbers.items r.next)
cost-of-back rates streams p r (popped c n z a b e v f g j m zs zv ss) o l =
    let l-b = ap length b in
    let h = length-append r.room.now.numbers.items (n ∷ []) in
    let x : cost_left (rates r.arriving) streams r.room.now.numbers.items r.next r.over ≡ cost_left (rates p.arriving) streams r.room.now.numbers.items n false = λ k. cost_left (rates (f k)) streams r.room.now.numbers.items (e k) ((v ∙ o) k) in
    let y : cost_left (rates p.arriving) streams p.room.now.numbers.items p.next p.over ≡ cost_left (rates p.arriving) streams (r.room.now.numbers.items ++ n ∷ []) p.next false = λ k. cost_left (rates p.arriving) streams (b k) p.next (o k) in
    omega (arith, x, y, cost-back (rates p.arriving) streams r.room.now.numbers.items n p.next (omega (arith, l-b, h, l)))

-- what is outside the level is what is left after going back
pub outer-of-back : (sel : List Attr) (part : PartPlan) (read : Reading) (p r : Probe) → WentBack p r → p.over ≡ false → IsPlaced part p →
    left_of sel part read r ≡ outer_of sel part read p
unfolding left
outer-of-back sel part read p r (ended a b c d e f g h m zs ss) o u =
    (λ k. left (setting (pairs r.q.now) sel part r.arriving r.row.now.items read) r.room.now.chosen.items r.room.now.numbers.items r.next (e k))
    ∙ sym ((λ k. outer (setting (pairs p.q.now) sel part p.arriving p.row.now.items read) (length part.streams.items) [] (a k) p.room.now.numbers.items) ∙ outer-none (setting (pairs p.q.now) sel part p.arriving p.row.now.items read) (length part.streams.items) [] p.room.now.numbers.items)
outer-of-back sel part read p r (popped c n z a b e v f g j m zs zv ss) o u =
    let w = setting (pairs p.q.now) sel part p.arriving p.row.now.items read in
    let x = ap length a in
    let y = ap length b in
    let s = length-append r.room.now.chosen.items (c ∷ []) in
    let t = length-append r.room.now.numbers.items (n ∷ []) in
    let m : length r.room.now.chosen.items ≡ length r.room.now.numbers.items = omega (arith, x, y, s, t, u.same) in
    let few : length r.room.now.chosen.items < length part.streams.items = omega (arith, x, s, u.few) in
    (λ k. left (setting (pairs (j k).now) sel part (f k) (g k).now.items read) r.room.now.chosen.items r.room.now.numbers.items (e k) ((v ∙ o) k))
    ∙ sym (left-back w r.room.now.chosen.items r.room.now.numbers.items c n m few)
    ∙ (λ k. outer w (length part.streams.items) [] (sym a k) (sym b k))

pub light-front : (a i : ℕ) (cs : List Binding) (c : Binding) → AreLight a i (cs ++ c ∷ []) → AreLight a i cs
light-front a i [] c h = tt
light-front a i (x ∷ cs) c h = (h.0, light-front a (i + 1) cs c h.1)

pub light-more : (a i : ℕ) (cs : List Binding) (c : Binding) → AreLight a i cs → rows_in c.cell ≤ limit a (i + length cs) → AreLight a i (cs ++ c ∷ [])
light-more a i [] c h l = (subst (λ n. rows_in c.cell ≤ limit a n) (let e : i + 0 ≡ i = omega arith in e) l, tt)
light-more a i (x ∷ cs) c h l = (h.0, light-more a (i + 1) cs c h.1 (subst (λ n. rows_in c.cell ≤ limit a n) (let e : i + suc (length cs) ≡ i + 1 + length cs = omega arith in e) l))

-- a level that is used up
pub past-outer : (sel : List Attr) (part : PartPlan) (read : Reading) (p : Probe) → p.over ≡ false → length p.room.now.chosen.items < length part.streams.items →
    box_size (narrowed_dims (pairs p.q.now) part p.arriving p.row.now.items p.room.now.chosen.items) ≤ p.next → left_of sel part read p ≡ outer_of sel part read p
past-outer sel part read p o l past =
    let w = setting (pairs p.q.now) sel part p.arriving p.row.now.items read in
    (λ k. left w p.room.now.chosen.items p.room.now.numbers.items p.next (o k))
    ∙ left-past w p.room.now.chosen.items p.room.now.numbers.items p.next l (omega (arith, past, length-box (narrowed_dims (pairs p.q.now) part p.arriving p.row.now.items p.room.now.chosen.items)))

-- the candidate that is next
pub candidate : (part : PartPlan) (p : Probe) (values : List ℤ) → p.next < box_size (narrowed_dims (pairs p.q.now) part p.arriving p.row.now.items p.room.now.chosen.items) →
    values ≡ values_at (narrowed_dims (pairs p.q.now) part p.arriving p.row.now.items p.room.now.chosen.items) p.next →
    drop p.next (box (narrowed_dims (pairs p.q.now) part p.arriving p.row.now.items p.room.now.chosen.items)) ≡ values ∷ drop (p.next + 1) (box (narrowed_dims (pairs p.q.now) part p.arriving p.row.now.items p.room.now.chosen.items))
candidate part p values l e = box-from _ _ l ∙ ap (λ vs. vs ∷ drop (p.next + 1) (box (narrowed_dims (pairs p.q.now) part p.arriving p.row.now.items p.room.now.chosen.items))) (sym e)

pub paid-exactly : (s t x y e f : ℕ) → t ≡ s + e → e ≡ f → x + f ≡ y → t + x ≤ s + y
paid-exactly s t x y e f a b c = omega (arith, a, b, c)

pub paid-enough : (s t x y e f : ℕ) → t ≡ s + e → e ≡ f → x + f ≤ y → t + x ≤ s + y
paid-enough s t x y e f a b c = omega (arith, a, b, c)

-- the cost of a level more, and of the next candidate, in the probe's terms
module _ (rates : Rates) (streams : ℕ) (p : Probe) (l : length p.room.now.numbers.items < streams) (h : p.next < rates.size (length p.room.now.numbers.items)) (o : p.over ≡ false) where
  pub cost-of-enter : (ns : List ℕ) → ns ≡ p.room.now.numbers.items ++ (p.next + 1) ∷ [] → cost_left rates streams ns 0 p.over + rates.each (length p.room.now.numbers.items) ≡ cost_left rates streams p.room.now.numbers.items p.next p.over
  cost-of-enter ns e = (λ k. cost_left rates streams (e k) 0 (o k) + rates.each (length p.room.now.numbers.items)) ∙ cost-enter rates streams p.room.now.numbers.items p.next l h ∙ (λ k. cost_left rates streams p.room.now.numbers.items p.next (sym o k))

  pub cost-of-next : cost_left rates streams p.room.now.numbers.items (p.next + 1) p.over + rates.each (length p.room.now.numbers.items) ≤ cost_left rates streams p.room.now.numbers.items p.next p.over
  cost-of-next = let g = cost-next rates streams p.room.now.numbers.items p.next l h in subst (λ b. cost_left rates streams p.room.now.numbers.items (p.next + 1) b + rates.each (length p.room.now.numbers.items) ≤ cost_left rates streams p.room.now.numbers.items p.next b) (sym o) g

modest-weight : (kind : Kind) (c : Cell) → FitsKind kind c → rows_in c ≤ 2 ^ 40
modest-weight kind Empty h = omega arith
modest-weight Kind.Count (Count n) h = h.1
modest-weight Kind.Present (Count n) h = absurd h
modest-weight (Kind.Least a) (Count n) h = absurd h
modest-weight (Kind.Greatest a) (Count n) h = absurd h
modest-weight kind Present h = omega arith
modest-weight kind (Extreme v) h = omega arith

pub light-cell : (part : PartPlan) (arriving : ℕ) (read : Reading) (place : ℕ) (vs : List ℤ) → AreFitting part read → place < length part.streams.items
    → (cells : ℕ) → (place ≢ arriving → IsLaidOut (stream_at part place) cells) → AreInside (dims_in part arriving place) vs → rows_in (cell_in part read arriving place vs) ≤ limit arriving place
unfolding cell_in dims_in
light-cell part arriving read place vs fits l cells out = by (place == arriving) refl
  where
    by : (t : Bool) → (place == arriving) ≡ t → AreInside (if t then [] else dims_at part place) vs → rows_in (if t then Present else read part place (place_of (dims_at part place) vs)) ≤ (if t then 1 else 2 ^ 40)
    by true e i = omega arith
    by false e i =
        let other : place ≢ arriving = grind (arith, nat_tests) in
        let s = (out other).size in
        let b = place-below (dims_at part place) vs i in
        modest-weight (stream_at part place).kind _ (fits place (place_of (dims_at part place) vs) l (omega (arith, s, b)))

pub limits : ℕ → ℕ → ℕ → ℕ
limits a i zero = 1
limits a i (suc n) = limit a i * limits a (i + 1) n

within-limits : (a i : ℕ) (cs : List Binding) → AreLight a i cs → product_of cs ≤ limits a i (length cs)
unfolding limits
within-limits a i [] h = omega arith
within-limits a i (c ∷ cs) h = mul-le-mul h.0 (within-limits a (i + 1) cs h.1)

three-counts : (a n : ℕ) → a < 4 → n ≤ 4 → limits a 0 n ≤ 2 ^ 120
unfolding limits
three-counts zero zero l m = lit≤ tt
three-counts zero (suc zero) l m = lit≤ tt
three-counts zero (suc (suc zero)) l m = lit≤ tt
three-counts zero (suc (suc (suc zero))) l m = lit≤ tt
three-counts zero (suc (suc (suc (suc zero)))) l m = lit≤ tt
three-counts zero (suc (suc (suc (suc (suc n))))) l m = absurd (omega (arith, m))
three-counts (suc zero) zero l m = lit≤ tt
three-counts (suc zero) (suc zero) l m = lit≤ tt
three-counts (suc zero) (suc (suc zero)) l m = lit≤ tt
three-counts (suc zero) (suc (suc (suc zero))) l m = lit≤ tt
three-counts (suc zero) (suc (suc (suc (suc zero)))) l m = lit≤ tt
three-counts (suc zero) (suc (suc (suc (suc (suc n))))) l m = absurd (omega (arith, m))
three-counts (suc (suc zero)) zero l m = lit≤ tt
three-counts (suc (suc zero)) (suc zero) l m = lit≤ tt
three-counts (suc (suc zero)) (suc (suc zero)) l m = lit≤ tt
three-counts (suc (suc zero)) (suc (suc (suc zero))) l m = lit≤ tt
three-counts (suc (suc zero)) (suc (suc (suc (suc zero)))) l m = lit≤ tt
three-counts (suc (suc zero)) (suc (suc (suc (suc (suc n))))) l m = absurd (omega (arith, m))
three-counts (suc (suc (suc zero))) zero l m = lit≤ tt
three-counts (suc (suc (suc zero))) (suc zero) l m = lit≤ tt
three-counts (suc (suc (suc zero))) (suc (suc zero)) l m = lit≤ tt
three-counts (suc (suc (suc zero))) (suc (suc (suc zero))) l m = lit≤ tt
three-counts (suc (suc (suc zero))) (suc (suc (suc (suc zero)))) l m = lit≤ tt
three-counts (suc (suc (suc zero))) (suc (suc (suc (suc (suc n))))) l m = absurd (omega (arith, m))
three-counts (suc (suc (suc (suc a)))) n l m = absurd (omega (arith, l))

light-take : (a i k : ℕ) (cs : List Binding) → AreLight a i cs → AreLight a i (take k cs)
light-take a i zero cs h = tt
light-take a i (suc k) [] h = tt
light-take a i (suc k) (c ∷ cs) h = (h.0, light-take a (i + 1) k cs h.1)

-- no product of counts passes 120 bits
pub light-product : (a k : ℕ) (cs : List Binding) → a < 4 → length cs ≤ 4 → AreLight a 0 cs → product_of (take k cs) ≤ 2 ^ 120
light-product a k cs l m h =
    let s = length-take k cs in
    let x = within-limits a 0 (take k cs) (light-take a 0 k cs h) in
    let y = three-counts a (length (take k cs)) l (omega (arith, s, m)) in
    omega (arith, x, y)

pub product-more : (cs : List Binding) (i : ℕ) (c : Binding) → i < length cs → product_of (take (i + 1) cs) ≡ product_of (take i cs) * rows_in (get_or cs i c).cell
product-more cs i c l = ap product_of (take_more cs i c l) ∙ product-end (take i cs) (get_or cs i c)
  where
    product-end : (xs : List Binding) (y : Binding) → product_of (xs ++ y ∷ []) ≡ product_of xs * rows_in y.cell
    product-end [] y = omega arith
    product-end (x ∷ xs) y = omega (arith, ap (λ n. rows_in x.cell * n) (product-end xs y))

pub product-next : (cs : List Binding) (i : ℕ) (x : Binding) (product w v : ℕ) → i < length cs → product ≡ product_of (take i cs) → x ≡ get_or cs i x → w ≡ rows_in x.cell → v ≡ w → product * v ≡ product_of (take (i + 1) cs)
product-next cs i x product w v l e f g h = (λ k. e k * (h ∙ g ∙ ap (λ (y : Binding). rows_in y.cell) f) k) ∙ sym (product-more cs i x l)

-- all streams are chosen: the combination, if it meets the links, and then the rest
module _ (sel : List Attr) (part : PartPlan) (p r : Probe) (back : (read : Reading) → left_of sel part read r ≡ outer_of sel part read p) (o : p.over ≡ false) (whole : length p.room.now.chosen.items ≡ length part.streams.items) where
  whole-left : (read : Reading) → left_of sel part read p ≡ walk (setting (pairs p.q.now) sel part p.arriving p.row.now.items read) 0 p.room.now.chosen.items ++ left_of sel part read r
  whole-left read =
      (λ k. left (setting (pairs p.q.now) sel part p.arriving p.row.now.items read) p.room.now.chosen.items p.room.now.numbers.items p.next (o k))
      ∙ left-whole (setting (pairs p.q.now) sel part p.arriving p.row.now.items read) p.room.now.chosen.items p.room.now.numbers.items p.next whole
      ∙ ap (λ fs. walk (setting (pairs p.q.now) sel part p.arriving p.row.now.items read) 0 p.room.now.chosen.items ++ fs) (sym (back read))

  pub finish-none : meets_links (pairs p.q.now) part p.arriving p.row.now.items p.room.now.chosen.items ≡ false → (read : Reading) → left_of sel part read p ≡ left_of sel part read r
  unfolding walk
  finish-none e read = whole-left read ∙ ap (λ b. (if b then found (setting (pairs p.q.now) sel part p.arriving p.row.now.items read) p.room.now.chosen.items ∷ [] else []) ++ left_of sel part read r) e

  pub finish-some : (vs : List ℤ) (n : ℕ) → meets_links (pairs p.q.now) part p.arriving p.row.now.items p.room.now.chosen.items ≡ true → vs ≡ tuple_of (pairs p.q.now) sel part p.arriving p.row.now.items p.room.now.chosen.items → n ≡ product_of p.room.now.chosen.items → (read : Reading) → left_of sel part read p ≡ as_found vs n ∷ left_of sel part read r
  unfolding walk
  finish-some vs n e f g read =
      whole-left read ∙ ap (λ b. (if b then found (setting (pairs p.q.now) sel part p.arriving p.row.now.items read) p.room.now.chosen.items ∷ [] else []) ++ left_of sel part read r) e
      ∙ (λ k. as_found (sym f k) (sym g k) ∷ left_of sel part read r)

pub left-over : (sel : List Attr) (part : PartPlan) (read : Reading) (p : Probe) → p.over ≡ true → left_of sel part read p ≡ []
unfolding left
left-over sel part read p o = λ k. left (setting (pairs p.q.now) sel part p.arriving p.row.now.items read) p.room.now.chosen.items p.room.now.numbers.items p.next (o k)

-- one level more
pub entered-left : (sel : List Attr) (part : PartPlan) (read : Reading) (p r : Probe) (values : List ℤ) (cell : Cell) → HasEntered values cell p r → p.over ≡ false → length p.room.now.chosen.items ≡ length p.room.now.numbers.items
    → length p.room.now.chosen.items < length part.streams.items → p.next < box_size (narrowed_dims (pairs p.q.now) part p.arriving p.row.now.items p.room.now.chosen.items)
    → values ≡ values_at (narrowed_dims (pairs p.q.now) part p.arriving p.row.now.items p.room.now.chosen.items) p.next → cell_in part read p.arriving (length p.room.now.chosen.items) values ≡ cell → (cell ≡ Empty → ⊥)
    → left_of sel part read r ≡ left_of sel part read p
entered-left sel part read p r values cell e o same more below is content some =
    let w = setting (pairs p.q.now) sel part p.arriving p.row.now.items read in
    (λ k. left (setting (pairs (e.query k).now) sel part (e.arriving k) (e.row k).now.items read) (e.chosen k) (e.numbers k) (e.next k) ((e.over ∙ o) k))
    ∙ sym (left-enter w p.room.now.chosen.items p.room.now.numbers.items p.next values cell same more (candidate part p values below is) content some)
    ∙ (λ k. left w p.room.now.chosen.items p.room.now.numbers.items p.next (sym o k))

pub entered-long : (p r : Probe) (values : List ℤ) (cell : Cell) → HasEntered values cell p r → length r.room.now.chosen.items ≡ length p.room.now.chosen.items + 1
entered-long p r values cell e = let a = ap length e.chosen in let b = length-append p.room.now.chosen.items (record { values = record { items = values }; cell = cell } ∷ []) in omega (arith, a, b)

pub entered-cost : (rates : ℕ → Rates) (streams : ℕ) (p r : Probe) (values : List ℤ) (cell : Cell) → HasEntered values cell p r → p.over ≡ false → length p.room.now.numbers.items < streams
    → p.next < (rates p.arriving).size (length p.room.now.numbers.items)
    → cost_left (rates r.arriving) streams r.room.now.numbers.items r.next r.over + (rates p.arriving).each (length p.room.now.numbers.items) ≡ cost_left (rates p.arriving) streams p.room.now.numbers.items p.next p.over
entered-cost rates streams p r values cell e o more below =
    (λ k. cost_left (rates (e.arriving k)) streams r.room.now.numbers.items (e.next k) (e.over k) + (rates p.arriving).each (length p.room.now.numbers.items))
    ∙ cost-of-enter (rates p.arriving) streams p more below o r.room.now.numbers.items e.numbers

-- the arriving row stands for itself
pub own-cell : (part : PartPlan) (read : Reading) (arriving place : ℕ) (values : List ℤ) → place ≡ arriving → cell_in part read arriving place values ≡ Present
unfolding cell_in
own-cell part read arriving place values e =
    let t : (place == arriving) ≡ true = grind (arith, nat_tests) in
    ap (λ b. if b then Present else read part place (place_of (dims_at part place) values)) t

-- the cells of a level that stand on a line
module _ (ps : List Pair) (part : PartPlan) (arriving : ℕ) (row : List ℤ) (cells : ℕ) (known : List Binding) (r : length known ≢ arriving → IsLaidOut (stream_at part (length known)) cells) (n : length known ≢ arriving) (line : StridedCells) (on : IsLine (stream_at part (length known)).base (dims_at part (length known)) (narrowed_dims ps part arriving row known) line) where
  pub line-within : (i : ℕ) → i < box_size (narrowed_dims ps part arriving row known) → line.first + i * line.stride < (stream_at part (length known)).base + (stream_at part (length known)).size
  line-within i l =
      let D = narrowed_dims ps part arriving row known in
      let inside = subst (λ ds. AreInside ds (values_at D i)) (dims-beside ps part arriving row cells known r n) (inside-narrowed ps part arriving row cells known r (values_at D i) (values-inside D i l)) in
      let b = place-below (dims_at part (length known)) (values_at D i) inside in
      omega (arith, on i l, b, (r n).size)

  pub line-cell : (contents : List Cell) (i : ℕ) → i < box_size (narrowed_dims ps part arriving row known) → cell_in part (read_from contents) arriving (length known) (values_at (narrowed_dims ps part arriving row known) i) ≡ at_stride contents line i
  unfolding cell_in
  line-cell contents i l = by (length known == arriving) refl ∙ ap (λ m. slice_index_or contents m Empty) (on i l)
    where
      by : (t : Bool) → (length known == arriving) ≡ t → (if t then Present else read_from contents part (length known) (place_of (dims_at part (length known)) (values_at (narrowed_dims ps part arriving row known) i)))
          ≡ slice_index_or contents ((stream_at part (length known)).base + place_of (dims_at part (length known)) (values_at (narrowed_dims ps part arriving row known) i)) Empty
      by true e = absurd (n (grind (arith, nat_tests)))
      by false e = refl

-- candidates with empty cells are passed
pub passed-left : (sel : List Attr) (part : PartPlan) (read : Reading) (p : Probe) (m : ℕ) → p.over ≡ false → length p.room.now.chosen.items < length part.streams.items → p.next ≤ m
    → m ≤ box_size (narrowed_dims (pairs p.q.now) part p.arriving p.row.now.items p.room.now.chosen.items)
    → ((i : ℕ) → p.next ≤ i → i < m → cell_in part read p.arriving (length p.room.now.chosen.items) (values_at (narrowed_dims (pairs p.q.now) part p.arriving p.row.now.items p.room.now.chosen.items) i) ≡ Empty)
    → left (setting (pairs p.q.now) sel part p.arriving p.row.now.items read) p.room.now.chosen.items p.room.now.numbers.items m p.over ≡ left_of sel part read p
passed-left sel part read p m o more after within empty =
    let w = setting (pairs p.q.now) sel part p.arriving p.row.now.items read in
    let s : p.next + (m - p.next) ≡ m = omega (arith, after) in
    (λ k. left w p.room.now.chosen.items p.room.now.numbers.items (sym s k) (o k))
    ∙ sym (left-skip w p.room.now.chosen.items p.room.now.numbers.items (m - p.next) p.next more (λ i a b. (omega (arith, b, s, within), empty i a (omega (arith, b, s)))))
    ∙ (λ k. left w p.room.now.chosen.items p.room.now.numbers.items p.next (sym o k))

pub passed-cost : (rates : Rates) (streams : ℕ) (p : Probe) (m : ℕ) → p.over ≡ false → length p.room.now.numbers.items < streams → p.next ≤ m → m ≤ rates.size (length p.room.now.numbers.items)
    → cost_left rates streams p.room.now.numbers.items m p.over + (m - p.next) * rates.each (length p.room.now.numbers.items) ≤ cost_left rates streams p.room.now.numbers.items p.next p.over
passed-cost rates streams p m o more after within =
    let s : p.next + (m - p.next) ≡ m = omega (arith, after) in
    let h = cost-skip rates streams p.room.now.numbers.items (m - p.next) p.next more (omega (arith, s, within)) in
    let x : cost_left rates streams p.room.now.numbers.items m p.over ≡ cost_left rates streams p.room.now.numbers.items (p.next + (m - p.next)) false = λ k. cost_left rates streams p.room.now.numbers.items (sym s k) (o k) in
    let y : cost_left rates streams p.room.now.numbers.items p.next p.over ≡ cost_left rates streams p.room.now.numbers.items p.next false = λ k. cost_left rates streams p.room.now.numbers.items p.next (o k) in
    omega (arith, h, x, y)

-- a cell beside the arriving row is one read
pub read-beside : (arriving place : ℕ) → place ≢ arriving → read_at arriving place ≡ 1
read-beside arriving place n = by (place == arriving) refl
  where
    by : (t : Bool) → (place == arriving) ≡ t → ◌≡◌ {A = ℕ} (if t then 0 else 1) 1
    by true e = absurd (n (grind (arith, nat_tests)))
    by false e = refl

pub own-light : (arriving place : ℕ) → place ≡ arriving → 1 ≤ limit arriving place
own-light arriving place e = by (place == arriving)
  where
    by : (t : Bool) → 1 ≤ (if t then 1 else 2 ^ 40)
    by true = omega arith
    by false = omega arith
