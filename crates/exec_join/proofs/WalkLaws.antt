-- The turns of the walk keep what is left.
use Rattle.std.proofs.Common.{◌≡◌, ℕ, zero, suc, ◌+◌, ◌-◌, ◌<◌, ◌≤◌, false, List, [], ◌∷◌, ◌++◌, length, drop, refl, sym, ap, ◌∙◌, arith, append_assoc, append-nil, length-append}
use Rattle.std.specs.Prelude.{flat_map, ℤ}
use Rattle.std.proofs.lemmas.List.{drop_all}
use Rattle.sem_query.specs.declared.cell.Cell.{Cell}
use Rattle.sem_query.specs.declared.cell.Cell.TheVariants.{Empty, Count, Present, Extreme}
use Rattle.exec_ranges.specs.declared.binding.Binding.{Binding}
use Rattle.sem_query.specs.Combinations.{Found}
use Rattle.exec_join.specs.Choosing.{Setting, cell_at, chosen}
use Rattle.sem_query.specs.Boxes.{box_size, values_at}
use Rattle.sem_query.proofs.BoxLaws.{box-from}
use Rattle.exec_ranges.specs.Narrowed.{narrowed_dims}
use Rattle.exec_join.specs.Walk.{candidates, entered, opened, walk, walk_from, outer, left}

-- one level more
pub outer-push : (w : Setting) (m : ℕ) (known cs : List Binding) (ns : List ℕ) (c : Binding) (n : ℕ) → length cs ≡ length ns → length cs < m →
    outer w m known (cs ++ c ∷ []) (ns ++ n ∷ []) ≡ walk_from w (m - length cs) (known ++ cs) n ++ outer w m known cs ns
unfolding outer
outer-push w zero known cs ns c n e l = absurd (omega (arith, l))
outer-push w (suc m) known [] [] c n e l =
    let same : suc m ≡ suc m - 0 = omega arith in
    (λ k. walk_from w (same k) (sym (append-nil known) k) n) ∙ sym (append-nil (walk_from w (suc m - 0) (known ++ []) n))
outer-push w (suc m) known [] (y ∷ ns) c n e l = absurd (omega (arith, e))
outer-push w (suc m) known (x ∷ cs) [] c n e l = absurd (omega (arith, e))
outer-push w (suc m) known (x ∷ cs) (y ∷ ns) c n e l =
    let fewer : m - length cs ≡ suc m - suc (length cs) = omega arith in
    ap (λ fs. fs ++ walk_from w (suc m) known y) (outer-push w m (known ++ x ∷ []) cs ns c n (omega (arith, e)) (omega (arith, l)))
    ∙ append_assoc (walk_from w (m - length cs) ((known ++ x ∷ []) ++ cs) n) (outer w m (known ++ x ∷ []) cs ns) (walk_from w (suc m) known y)
    ∙ (λ k. walk_from w (fewer k) (append_assoc known (x ∷ []) cs k) n ++ (outer w m (known ++ x ∷ []) cs ns ++ walk_from w (suc m) known y))

pub walk-first : (w : Setting) (m : ℕ) (known : List Binding) → walk_from w m known 0 ≡ walk w m known
unfolding walk walk_from
walk-first w zero known = refl
walk-first w (suc m) known = refl

-- past the last candidate nothing is left here
pub walk-past : (w : Setting) (m : ℕ) (known : List Binding) (n : ℕ) → length (candidates w known) ≤ n → walk_from w (suc m) known n ≡ []
unfolding walk_from
walk-past w m known n l = ap (flat_map (opened w known (walk w m))) (drop_all n (candidates w known) l)

-- one candidate
pub walk-step : (w : Setting) (m : ℕ) (known : List Binding) (n : ℕ) (values : List ℤ) → drop n (candidates w known) ≡ values ∷ drop (n + 1) (candidates w known) →
    walk_from w (suc m) known n ≡ entered values known (walk w m) (cell_at w (length known) values) ++ walk_from w (suc m) known (n + 1)
unfolding walk_from
walk-step w m known n values e = ap (flat_map (opened w known (walk w m))) e

-- one level less: what is left there from the next candidate on
pub left-back : (w : Setting) (cs : List Binding) (ns : List ℕ) (c : Binding) (n : ℕ) → length cs ≡ length ns → length cs < length w.part.streams.items →
    outer w (length w.part.streams.items) [] (cs ++ c ∷ []) (ns ++ n ∷ []) ≡ left w cs ns n false
unfolding left
left-back w cs ns c n e l = outer-push w (length w.part.streams.items) [] cs ns c n e l

-- the level is used up
pub left-past : (w : Setting) (cs : List Binding) (ns : List ℕ) (n : ℕ) → length cs < length w.part.streams.items → length (candidates w cs) ≤ n →
    left w cs ns n false ≡ outer w (length w.part.streams.items) [] cs ns
unfolding left
left-past w cs ns n l past =
    let e : length w.part.streams.items - length cs ≡ suc (length w.part.streams.items - length cs - 1) = omega (arith, l) in
    ap (λ m. walk_from w m cs n ++ outer w (length w.part.streams.items) [] cs ns) e
    ∙ ap (λ fs. fs ++ outer w (length w.part.streams.items) [] cs ns) (walk-past w (length w.part.streams.items - length cs - 1) cs n past)

-- all streams are chosen
pub left-whole : (w : Setting) (cs : List Binding) (ns : List ℕ) (n : ℕ) → length cs ≡ length w.part.streams.items →
    left w cs ns n false ≡ walk w 0 cs ++ outer w (length w.part.streams.items) [] cs ns
unfolding left walk_from
left-whole w cs ns n e =
    let z : length w.part.streams.items - length cs ≡ 0 = omega (arith, e) in
    ap (λ m. walk_from w m cs n ++ outer w (length w.part.streams.items) [] cs ns) z

-- nothing was chosen
pub outer-none : (w : Setting) (m : ℕ) (known : List Binding) (ns : List ℕ) → outer w m known [] ns ≡ []
unfolding outer
outer-none w m known ns = refl

-- an empty cell
pub left-empty : (w : Setting) (cs : List Binding) (ns : List ℕ) (n : ℕ) (values : List ℤ) → length cs < length w.part.streams.items →
    drop n (candidates w cs) ≡ values ∷ drop (n + 1) (candidates w cs) → cell_at w (length cs) values ≡ Empty →
    left w cs ns n false ≡ left w cs ns (n + 1) false
unfolding left
left-empty w cs ns n values l d e =
    let N = length w.part.streams.items in
    let m = N - length cs - 1 in
    let s : N - length cs ≡ suc m = omega (arith, l) in
    ap (λ k. walk_from w k cs n ++ outer w N [] cs ns) s
    ∙ ap (λ fs. fs ++ outer w N [] cs ns) (walk-step w m cs n values d ∙ ap (λ c. entered values cs (walk w m) c ++ walk_from w (suc m) cs (n + 1)) e)
    ∙ ap (λ k. walk_from w k cs (n + 1) ++ outer w N [] cs ns) (sym s)

-- some empty cells
pub left-skip : (w : Setting) (cs : List Binding) (ns : List ℕ) (d n : ℕ) → length cs < length w.part.streams.items
    → ((i : ℕ) → n ≤ i → i < n + d → (i < box_size (narrowed_dims w.pairs w.part w.arriving w.row cs)) × (cell_at w (length cs) (values_at (narrowed_dims w.pairs w.part w.arriving w.row cs) i) ≡ Empty))
    → left w cs ns n false ≡ left w cs ns (n + d) false
left-skip w cs ns zero n l h = ap (λ m. left w cs ns m false) (let z : n ≡ n + 0 = omega arith in z)
left-skip w cs ns (suc d) n l h =
    let here = h n (omega arith) (omega arith) in
    left-empty w cs ns n (values_at (narrowed_dims w.pairs w.part w.arriving w.row cs) n) l (box-from (narrowed_dims w.pairs w.part w.arriving w.row cs) n here.0) here.1
    ∙ left-skip w cs ns d (n + 1) l (λ i a b. h i (omega (arith, a)) (omega (arith, b)))
    ∙ ap (λ m. left w cs ns m false) (let z : n + 1 + d ≡ n + suc d = omega arith in z)

pub entered-some : (values : List ℤ) (known : List Binding) (go : List Binding → List Found) (c : Cell) → (c ≡ Empty → ⊥) → entered values known go c ≡ go (known ++ chosen values c ∷ [])
entered-some values known go Empty h = absurd (h refl)
entered-some values known go (Count n) h = refl
entered-some values known go Present h = refl
entered-some values known go (Extreme v) h = refl

-- a cell with content: one level more
pub left-enter : (w : Setting) (cs : List Binding) (ns : List ℕ) (n : ℕ) (values : List ℤ) (cell : Cell) → length cs ≡ length ns → length cs < length w.part.streams.items →
    drop n (candidates w cs) ≡ values ∷ drop (n + 1) (candidates w cs) → cell_at w (length cs) values ≡ cell → (cell ≡ Empty → ⊥) →
    left w cs ns n false ≡ left w (cs ++ chosen values cell ∷ []) (ns ++ (n + 1) ∷ []) 0 false
unfolding left
left-enter w cs ns n values cell q l d e some =
    let N = length w.part.streams.items in
    let m = N - length cs - 1 in
    let s : N - length cs ≡ suc m = omega (arith, l) in
    let t : m ≡ N - length (cs ++ chosen values cell ∷ []) = omega (arith, length-append cs (chosen values cell ∷ [])) in
    let deeper = cs ++ chosen values cell ∷ [] in
    ap (λ k. walk_from w k cs n ++ outer w N [] cs ns) s
    ∙ ap (λ fs. fs ++ outer w N [] cs ns) (walk-step w m cs n values d ∙ ap (λ c. entered values cs (walk w m) c ++ walk_from w (suc m) cs (n + 1)) e ∙ ap (λ fs. fs ++ walk_from w (suc m) cs (n + 1)) (entered-some values cs (walk w m) cell some))
    ∙ append_assoc (walk w m deeper) (walk_from w (suc m) cs (n + 1)) (outer w N [] cs ns)
    ∙ ap (λ fs. walk w m deeper ++ fs) (ap (λ k. walk_from w k cs (n + 1) ++ outer w N [] cs ns) (sym s) ∙ sym (outer-push w N [] cs ns (chosen values cell) (n + 1) q l))
    ∙ ap (λ fs. fs ++ outer w N [] deeper (ns ++ (n + 1) ∷ [])) (sym (walk-first w m deeper) ∙ ap (λ k. walk_from w k deeper 0) t)
