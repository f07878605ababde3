-- An executor that is told what a base keeps, one number at a time: the rows given, a cell, a tuple.
use Rattle.std.proofs.Common.{◌≡◌, ℕ, zero, suc, ◌+◌, ◌*◌, ◌^◌, ◌<◌, ◌≤◌, ◌⊎◌, inl, inr, cond, Bool, true, false, ◌&&◌, nat_eq, nat_abs, int_le, ℤ, pos, List, [], ◌∷◌, length, take, drop, set, get_or, refl, sym, ap, ◌∙◌, subst, arith, All, Contains, Option, Some, None, option_map, option_and_then, get_or-set_same, get_or-set_other, length-set}
use Rattle.std.specs.Ordering.{int_eq}
use Rattle.std.proofs.lemmas.Int.{ints}
use Rattle.std.proofs.lemmas.List.{get_or-take, drop-set-lt, length-take-le}
use Rattle.sem_query.specs.declared.cell.Cell.{Cell}
use Rattle.sem_query.specs.declared.plan.Kind.{Kind}
use Rattle.sem_query.specs.declared.plan.PartPlan.{PartPlan}
use Rattle.sem_query.specs.Plan.{stream_at}
use Rattle.sem_query.specs.Serving.{KeepsStreams}
use Rattle.sem_query.specs.Cells.{FitsKind}
use Rattle.sem_query.specs.Combinations.{read_from}
use Rattle.sem_query.specs.Sharing.{Box, sizes_in}
use Rattle.sem_query.specs.Bases.{Base}
use Rattle.sem_laws.specs.Sharing.{AreBoxesOf}
use Rattle.sem_laws.proofs.Bases.{bases-keep-on}
use Rattle.sem_laws.proofs.Tests.{and-left, and-right, true_or_false, nat_true}
use Rattle.exec_pool.specs.Extents.{PoolValue, cells_of, with_cells, IsLive}
use Rattle.exec_pool.proofs.CallerLemmas.{cells_of_with, live_with}
use Rattle.exec_saturation.specs.Known.{none_yet}
use Rattle.exec_query.specs.Executor.{ExecutorValue, parts_in, list_in, cells_in, rest_in, tuples_in, IsSound, with_given, with_saturation}
use Rattle.exec_query.proofs.Closing.{stands-saturated, within-saturated, none-known}
use Rattle.exec_query.specs.Standing.{CountsUpto, AreKept, KeepsWithin}
use Rattle.exec_restore.specs.Loadable.{is_empty, kind_at, filled_cell}
use Rattle.exec_query.specs.Bases.{kept_in, StandsFrom}
use Rattle.exec_query.specs.Loading.{loaded_cell, Loads}
use Rattle.exec_restore.proofs.CellKinds.{kind-past, kind-of-box}
use Rattle.exec_query.proofs.PlanFacts.{serving_in, parts_keep, boxes_of_plan, cells_of_plan}

-- what stood for no rows since keeps just the base
pub keeps-base : (e : ExecutorValue) (pool : PoolValue) (base : Base) → StandsFrom e pool base [] → kept_in e base [] ≡ base
keeps-base e pool base s = (bases-keep-on e.query (parts_in e) (list_in e) base s.size).none

-- a cell counts no more than more rows
counts-more : (m n : ℕ) (c : Cell) → m ≤ n → CountsUpto m c → CountsUpto n c
counts-more m n Cell.Empty l h = tt
counts-more m n (Cell.Count k) l h = omega (arith, l, h)
counts-more m n Cell.Present l h = tt
counts-more m n (Cell.Extreme z) l h = tt

-- where none was given, so many rows may be
pub given-kept : (e x : ExecutorValue) → e ≡ x → (n : ℕ) (pool : PoolValue) → nat_eq x.given 0 ≡ true → AreKept x pool → AreKept (with_given e n e.table.entries) pool
given-kept e x same n pool none kept =
    let k : AreKept e pool = subst (λ (o : ExecutorValue). AreKept o pool) (sym same) kept in
    let z : e.given ≡ 0 = ap (λ (o : ExecutorValue). o.given) same ∙ nat_true x.given 0 none in
    record {
      live = k.live;
      fitting = k.fitting;
      counts = λ part c place i l s. counts-more e.given n (read_from (cells_in e pool) part place i) (omega (arith, z)) (k.counts part c place i l s);
      saturated = k.saturated;
    }

-- a front and a back of cells after one of the front was set
take-set : (xs : List Cell) (i n : ℕ) (c : Cell) → i < n → take n (set xs i c) ≡ set (take n xs) i c
take-set xs i zero c l = absurd (omega (arith, l))
take-set [] zero (suc n) c l = refl
take-set [] (suc i) (suc n) c l = refl
take-set (x ∷ xs) zero (suc n) c l = refl
take-set (x ∷ xs) (suc i) (suc n) c l = ap (λ (ys : List Cell). x ∷ ys) (take-set xs i n c (omega (arith, l)))

same-there : (xs : List Cell) (i : ℕ) (d e : Cell) → i < length xs → get_or xs i d ≡ get_or xs i e
same-there [] i d e l = absurd (omega (arith, l))
same-there (x ∷ xs) zero d e l = refl
same-there (x ∷ xs) (suc i) d e l = same-there xs i d e (omega (arith, l))

below_or : (n m : ℕ) → (n < m) ⊎ (m ≤ n)
below_or n m = grind arith

-- a cell of a kind is below all cells
kind-below : (list : List Box) (i : ℕ) (kind : Kind) → kind_at list i ≡ Some kind → i < sizes_in list
kind-below list i kind e = elim (below_or i (sizes_in list)) [
  | inl l ↦ l
  | inr l ↦ absurd (let p = kind-past list i l in let q : Some kind ≡ None = sym e ∙ p in cc)
]

-- a content that fits makes a cell of the kind, which counts no more than the rows given
filled-fits : (given : ℕ) (kind : Kind) (v : ℤ) (c : Cell) → given ≤ 2 ^ 40 → filled_cell given kind v ≡ Some c → FitsKind kind c × CountsUpto given c
filled-fits given Kind.Count v c few e = by (int_le (pos 1) v && int_le v (pos given)) refl e
  where
    by : (b : Bool) → (int_le (pos 1) v && int_le v (pos given)) ≡ b → cond b (Some (Cell.Count (nat_abs v))) None ≡ Some c → FitsKind Kind.Count c × CountsUpto given c
    by true h f =
        let low : int_le (pos 1) v ≡ true = and-left _ (int_le v (pos given)) h in
        let high : int_le v (pos given) ≡ true = and-right (int_le (pos 1) v) _ h in
        let l : 0 < nat_abs v = grind (arith, ints, low) in
        let u : nat_abs v ≤ given = grind (arith, ints, low, high) in
        let is : Cell.Count (nat_abs v) ≡ c = cc in
        subst (λ (x : Cell). FitsKind Kind.Count x × CountsUpto given x) is ((l, omega (arith, u, few)), u)
    by false h f = absurd cc
filled-fits given Kind.Present v c few e = by (int_eq v (pos 1)) e
  where
    by : (b : Bool) → cond b (Some Cell.Present) None ≡ Some c → FitsKind Kind.Present c × CountsUpto given c
    by true f = let is : Cell.Present ≡ c = cc in subst (λ (x : Cell). FitsKind Kind.Present x × CountsUpto given x) is (tt, tt)
    by false f = absurd cc
filled-fits given (Kind.Least a) v c few e =
    let is : Cell.Extreme v ≡ c = cc in subst (λ (x : Cell). FitsKind (Kind.Least a) x × CountsUpto given x) is (tt, tt)
filled-fits given (Kind.Greatest a) v c few e =
    let is : Cell.Extreme v ≡ c = cc in subst (λ (x : Cell). FitsKind (Kind.Greatest a) x × CountsUpto given x) is (tt, tt)

-- the kind of a cell that is filled
wanted-kind : (given : ℕ) (v : ℤ) (o : Option Kind) (c : Cell) → option_and_then (λ kind. filled_cell given kind v) o ≡ Some c
    → (kind : Kind) × (o ≡ Some kind) × (filled_cell given kind v ≡ Some c)
wanted-kind given v None c e = absurd cc
wanted-kind given v (Some kind) c e = (kind, refl, e)

module _ (e : ExecutorValue) (sound : IsSound e) (pool : PoolValue) (live : IsLive pool e.extent) (i : ℕ) (v : ℤ) where
  abbrev list : List Box
  list = list_in e

  abbrev n : ℕ
  n = sizes_in list

  abbrev all : List Cell
  all = cells_of pool e.extent

  -- what the cell comes to by its content
  abbrev pub wanted : Option Cell
  wanted = option_and_then (λ kind. filled_cell e.given kind v) (kind_at list i)

  plans : All (KeepsStreams e.query) (parts_in e)
  plans = parts_keep e.shared e.query e.plan (serving_in e sound)

  of : AreBoxesOf e.query (parts_in e) list
  of = boxes_of_plan e.shared e.query e.plan (serving_in e sound)

  pub whole : n ≤ length all
  whole =
      let c = (cells_of_plan e.shared e.query e.plan (serving_in e sound) sound.accepted.within).0 in
      let l = live.pages in
      let p = sound.pages in omega (arith, c, l, p)

  module _ (c : Cell) (fits : wanted ≡ Some c) where
    pub below : i < n
    below = let k = wanted-kind e.given v (kind_at list i) c fits in kind-below list i k.0 k.1

    pub within : i < 64 * e.extent.pages
    within = let b = below in let w = whole in let l = live.pages in omega (arith, b, w, l)

    abbrev filled : List Cell
    filled = set all i c

    abbrev later : PoolValue
    later = with_cells pool e.extent filled

    cells_later : cells_of later e.extent ≡ filled
    cells_later = cells_of_with pool e.extent filled live

    cut_later : cells_in e later ≡ set (cells_in e pool) i c
    cut_later = ap (take n) cells_later ∙ take-set all i n c below

    rest_later : rest_in e later ≡ rest_in e pool
    rest_later = ap (drop n) cells_later ∙ drop-set-lt n all i c below

    live_later : IsLive later e.extent
    live_later = live_with pool e.extent filled live (length-set all i c)

    -- the base with the cell
    module _ (base : Base) (s : StandsFrom e pool base []) where
      base_cells : cells_in e pool ≡ base.cells
      base_cells = s.cells ∙ ap (λ (b : Base). b.cells) (keeps-base e pool base s)

      abbrev more : Base
      more = record base { cells = set base.cells i c }

      more_size : length more.cells ≡ n
      more_size = length-set base.cells i c ∙ s.size

      more_none : kept_in e more [] ≡ more
      more_none = (bases-keep-on e.query (parts_in e) list more more_size).none

      filled-from : StandsFrom e later more []
      filled-from = record {
        live = live_later;
        size = more_size;
        cells = cut_later ∙ ap (λ (cs : List Cell). set cs i c) base_cells ∙ sym (ap (λ (b : Base). b.cells) more_none);
        rest = rest_later ∙ s.rest;
        given = s.given;
        rows = s.rows;
        tuples = λ d. s.tuples d ∙ ap (λ (b : Base). b.table) (keeps-base e pool base s) ∙ sym (ap (λ (b : Base). b.table) more_none);
      }

      -- the cell of the base is the one in the pool
      read_base : get_or base.cells i Cell.Present ≡ get_or all i Cell.Empty
      read_base =
          ap (λ (cs : List Cell). get_or cs i Cell.Present) (sym base_cells) ∙ get_or-take n all i Cell.Present below
          ∙ same-there all i Cell.Present Cell.Empty (let b = below in let w = whole in omega (arith, b, w))

    abbrev kind : Kind
    kind = (wanted-kind e.given v (kind_at list i) c fits).0

    kind_fits : FitsKind kind c × CountsUpto e.given c
    kind_fits = filled-fits e.given kind v c sound.given (wanted-kind e.given v (kind_at list i) c fits).2

    some-is : (k l : Kind) → Some k ≡ Some l → k ≡ l
    some-is k l h = cc

    -- each cell stays of its kind, and counts no more
    kept_at : AreKept e pool → (part : PartPlan) → Contains (parts_in e) part → (place j : ℕ) → place < length part.streams.items → j < (stream_at part place).size
        → FitsKind (stream_at part place).kind (read_from (cells_in e later) part place j) × CountsUpto e.given (read_from (cells_in e later) part place j)
    kept_at k part known place j l s = elim (true_or_false (nat_eq ((stream_at part place).base + j) i)) [
      | inl t ↦ (
          let m : (stream_at part place).base + j ≡ i = nat_true _ i t in
          let own : kind ≡ (stream_at part place).kind
          = some-is _ _ (sym (wanted-kind e.given v (kind_at list i) c fits).1 ∙ kind-of-box e.query (parts_in e) plans list of part known place i j l (sym m) s) in
          let r : read_from (cells_in e later) part place j ≡ c
          = ap (λ (cs : List Cell). get_or cs ((stream_at part place).base + j) Cell.Empty) cut_later
          ∙ ap (λ o. get_or (set (cells_in e pool) i c) o Cell.Empty) m
          ∙ get_or-set_same (cells_in e pool) i c Cell.Empty (let b = below in let z = length-take-le n all whole in omega (arith, b, z)) in
          subst (λ (x : Cell). FitsKind (stream_at part place).kind x × CountsUpto e.given x) (sym r)
          (subst (λ (o : Kind). FitsKind o c × CountsUpto e.given c) own kind_fits))
      | inr t ↦ (
          let r : read_from (cells_in e later) part place j ≡ read_from (cells_in e pool) part place j
          = ap (λ (cs : List Cell). get_or cs ((stream_at part place).base + j) Cell.Empty) cut_later
          ∙ get_or-set_other (cells_in e pool) i ((stream_at part place).base + j) c Cell.Empty (λ h. apart ((stream_at part place).base + j) i t h) in
          subst (λ (x : Cell). FitsKind (stream_at part place).kind x × CountsUpto e.given x) (sym r) (k.fitting part known place j l s, k.counts part known place j l s))
    ]
      where
        apart : (a b : ℕ) → nat_eq a b ≡ false → a ≡ b → ⊥
        apart a b f h = grind (arith, f, h)

    filled-kept : AreKept e pool → AreKept (with_saturation e none_yet) later
    filled-kept k = record {
      live = live_later;
      fitting = λ part known place j l s. (kept_at k part known place j l s).0;
      counts = λ part known place j l s. (kept_at k part known place j l s).1;
      saturated = λ d. none-known e.query (parts_in e) (read_from (cells_in e later)) (tuples_in e);
    }

    filled-within : KeepsWithin e pool → KeepsWithin e later
    filled-within w = record {
      live = live_later;
      pages = w.pages;
      rest = rest_later ∙ w.rest;
      room = w.room;
      entries = w.entries;
      ascends = w.ascends;
    }

  -- what was done with what the cell comes to: it was put in the place of an empty one, and else nothing was
  abbrev pub Puts : Option Cell → Bool → PoolValue → Type 0
  Puts None result after = (result ≡ false) × (after ≡ pool)
  Puts (Some c) result after =
      (result ≡ is_empty (get_or all i Cell.Empty)) × (after ≡ cond result (with_cells pool e.extent (set all i c)) pool)

  -- the executor then
  abbrev pub told : Bool → ExecutorValue
  told result = with_saturation e (cond result none_yet e.saturation)

  told-same : (result : Bool) → result ≡ false → told result ≡ e
  told-same result r = ap told r

  pub cell-loads : (o : Option Cell) (result : Bool) (after : PoolValue) → wanted ≡ o → Puts o result after
      → (base : Base) → StandsFrom e pool base [] → Loads result (loaded_cell list i v base) e pool (told result) after
  cell-loads None result after w p base s =
      subst (λ (x : Option Base). Loads result x e pool (told result) after) (sym (given_is ∙ nothing (is_empty (get_or base.cells i Cell.Present)))) (p.0, told-same result p.0, p.1)
    where
      filling : Option Cell → Option Base
      filling o = option_map (λ c. record base { cells = set base.cells i c }) o

      given : e.given ≡ base.given
      given = let g = s.given in omega (arith, g)

      given_is : loaded_cell list i v base ≡ cond (is_empty (get_or base.cells i Cell.Present)) (filling None) None
      given_is =
          ap (λ m. cond (is_empty (get_or base.cells i Cell.Present)) (filling (option_and_then (λ kind. filled_cell m kind v) (kind_at list i))) None) (sym given)
          ∙ ap (λ o. cond (is_empty (get_or base.cells i Cell.Present)) (filling o) None) w

      nothing : (b : Bool) → cond b (filling None) None ≡ None
      nothing true = refl
      nothing false = refl
  cell-loads (Some c) result after w p base s = subst (λ (x : Option Base). Loads result x e pool (told result) after) (sym given_is) (by (is_empty (get_or all i Cell.Empty)) refl)
    where
      filling : Option Cell → Option Base
      filling o = option_map (λ d. record base { cells = set base.cells i d }) o

      given : e.given ≡ base.given
      given = let g = s.given in omega (arith, g)

      given_is : loaded_cell list i v base ≡ cond (is_empty (get_or all i Cell.Empty)) (Some (record base { cells = set base.cells i c })) None
      given_is =
          ap (λ m. cond (is_empty (get_or base.cells i Cell.Present)) (filling (option_and_then (λ kind. filled_cell m kind v) (kind_at list i))) None) (sym given)
          ∙ ap (λ o. cond (is_empty (get_or base.cells i Cell.Present)) (filling o) None) w
          ∙ ap (λ (x : Cell). cond (is_empty x) (filling (Some c)) None) (read_base c w base s)

      by : (b : Bool) → is_empty (get_or all i Cell.Empty) ≡ b → Loads result (cond b (Some (record base { cells = set base.cells i c })) None) e pool (told result) after
      by true h =
          let r : result ≡ true = p.0 ∙ h in
          (r, stands-saturated e (cond result none_yet e.saturation) after (record base { cells = set base.cells i c }) [] (subst (λ (o : PoolValue). StandsFrom e o (record base { cells = set base.cells i c }) []) (sym (p.1 ∙ ap (λ b. cond b (with_cells pool e.extent (set all i c)) pool) r)) (filled-from c w base s)))
      by false h =
          let r : result ≡ false = p.0 ∙ h in
          (r, told-same result r, p.1 ∙ ap (λ b. cond b (with_cells pool e.extent (set all i c)) pool) r)

  -- in both cases all else is kept
  put-is : (P : PoolValue → Type 0) (o : Option Cell) (result : Bool) (after : PoolValue) → wanted ≡ o → Puts o result after → P pool
      → ((c : Cell) → wanted ≡ Some c → P (with_cells pool e.extent (set all i c))) → P after
  put-is P None result after w p was put = subst P (sym p.1) was
  put-is P (Some c) result after w p was put = by result p.1
    where
      by : (b : Bool) → after ≡ cond b (with_cells pool e.extent (set all i c)) pool → P after
      by true is = subst P (sym is) (put c w)
      by false is = subst P (sym is) was

  pub cell-kept : (o : Option Cell) (result : Bool) (after : PoolValue) → wanted ≡ o → Puts o result after → AreKept e pool → AreKept (told result) after
  cell-kept None result after w p k = subst (AreKept (told result)) (sym p.1) (subst (λ (x : ExecutorValue). AreKept x pool) (sym (told-same result p.0)) k)
  cell-kept (Some c) result after w p k = by result refl p.1
    where
      by : (b : Bool) → result ≡ b → after ≡ cond b (with_cells pool e.extent (set all i c)) pool → AreKept (told result) after
      by true r is = subst (AreKept (told result)) (sym is) (subst (λ b. AreKept (told b) (with_cells pool e.extent (set all i c))) (sym r) (filled-kept c w k))
      by false r is = subst (AreKept (told result)) (sym is) (subst (λ (x : ExecutorValue). AreKept x pool) (sym (told-same result r)) k)

  pub cell-within : (o : Option Cell) (result : Bool) (after : PoolValue) → wanted ≡ o → Puts o result after → KeepsWithin e pool → KeepsWithin (told result) after
  cell-within o result after w p k =
      within-saturated e (cond result none_yet e.saturation) after (put-is (KeepsWithin e) o result after w p k (λ c f. filled-within c f k))

  -- only the cells of the extent changed
  pub cell-only : (o : Option Cell) (result : Bool) (after : PoolValue) → wanted ≡ o → Puts o result after → pool ≡ with_cells pool e.extent all
      → after ≡ with_cells pool e.extent (cells_of after e.extent)
  cell-only o result after w p own = put-is (λ x. x ≡ with_cells pool e.extent (cells_of x e.extent)) o result after w p own (λ c f. ap (with_cells pool e.extent) (sym (cells_later c f)))

  -- where there is a cell to be put there are cells
  pub cell-some : (c : Cell) → wanted ≡ Some c → 1 ≤ n
  cell-some c w = let b = below c w in omega (arith, b)

-- a cell that is kept stands within the extent
pub cell-stands : (e x : ExecutorValue) → e ≡ x → IsSound e → (i : ℕ) → i < sizes_in (list_in x) → i < 64 * e.extent.pages
cell-stands e x same sound i l =
    let c = (cells_of_plan e.shared e.query e.plan (serving_in e sound) sound.accepted.within).0 in
    let p = sound.pages in
    let n : sizes_in (list_in e) ≡ sizes_in (list_in x) = ap (λ (o : ExecutorValue). sizes_in (list_in o)) same in omega (arith, c, p, n, l)
