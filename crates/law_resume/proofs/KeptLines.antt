-- The lines that tell what is kept of a live query lead to what is told.
use Rattle.std.proofs.Common.{◌≡◌, ℕ, suc, ◌+◌, ◌<◌, ◌≤◌, ◌^◌, Bool, true, false, cond, not, ◌&&◌, nat_eq, int_le, ℤ, pos, List, [], ◌∷◌, ◌++◌, map, length, replicate, Option, Some, None, option_and_then, option_map, refl, sym, ap, ◌∙◌, subst, arith, append_assoc, append-nil, length-append, slice_index_or, slice_set, IsTrue, All, Contains}
use Rattle.std.specs.List.{list_any, AllByRecursion}
use Rattle.std.specs.Str.{bytes_eq}
use Rattle.std.proofs.Math.Seq.{get_or-append_seam, set-append_seam}
use Rattle.std.proofs.lemmas.Bool.Decides.{nat_tests}
use Rattle.std.proofs.lemmas.Int.{ints}
use Rattle.std.proofs.lemmas.List.{map-append, length-replicate, length-map}
use Rattle.std.proofs.lemmas.List.Elements.{All-head, All-tail, recursion_from_All}
use Rattle.sql_text.specs.Value.{fits_i64}
use Rattle.sem_query.specs.declared.cell.Cell.{Cell}
use Rattle.sem_query.specs.declared.plan.Kind.{Kind}
use Rattle.sem_query.specs.Cells.{FitsKind}
use Rattle.sem_query.specs.Merge.{merged_table}
use Rattle.sem_query.specs.Numbers.{parts_of}
use Rattle.sem_query.specs.Ranges.{all_tuples}
use Rattle.sem_query.specs.Sharing.{Box, sizes_in}
use Rattle.sem_query.specs.Tuples.{is_same}
use Rattle.sem_query.specs.Bases.{Base, first_base}
use Rattle.sem_query.proofs.Has.{Has-from_contains}
use Rattle.sem_laws.proofs.Bases.{bases-keep-on}
use Rattle.sem_laws.proofs.Order.{same-itself}
use Rattle.sem_laws.proofs.Tests.{any_if, and-both}
use Rattle.exec_restore.specs.Loadable.{is_empty, kind_at, filled_cell}
use Rattle.exec_query.specs.Loading.{loaded_given, loaded_cell, loaded_tuple}
use Rattle.exec_query.specs.Standing.{CountsUpto}
use Rattle.sem_forms.proofs.Forms.{form_plans_serve}
use Rattle.exec_query.proofs.PlanFacts.{cells_of_plan}
use Rattle.sql_parser.specs.declared.tree.Statement.{Statement}
use Rattle.sql_parser.specs.declared.tree.Statement.TheVariants.{ResumeGiven, ResumeCell}
use Rattle.sql_parser.proofs.Names.{name_facts}
use Rattle.sql_printer.specs.Printed.{printed_form}
use Rattle.exec_snapshot.specs.Lines.{content_in, cell_statement, cell_statements, tuple_statements, printed_statements}
use Rattle.exec_registry.specs.Live.{LiveQuery, newly, boxes_of, base_in}
use Rattle.exec_registry.specs.Sound.{IsSoundLive, IsCellOf}
use Rattle.sql_replies.specs.declared.refusal.Refusal.TheVariants.{Late, Arity}
use Rattle.cmd_session.specs.Request.{Request, based, refused}
use Rattle.cmd_session.specs.Requests.{live_named, natural, natural_upto, loaded_request, load_request, statement_request, IsRequest}
use Rattle.cmd_session.specs.Answer.{plain}
use Rattle.cmd_session.specs.Checkpoint.{kept_lines}
use Rattle.cmd_session.specs.State.{State, from_base, set_base, next_by}
use Rattle.law_resume.specs.Small.{HasShortLines, FitsContent}
use Rattle.law_resume.specs.Restores.{LeadsTo, KeepsTuplesDistinct, KeptIsRestored}
use Rattle.law_resume.proofs.Widths.{given_within, cell_within, tuple_within}
use Rattle.law_resume.proofs.ShortLines.{Told, content_fits, all_wide}
use Rattle.law_resume.proofs.Leading.{line_asks, no_line, one_line, joined}
use Rattle.law_resume.proofs.TupleOrder.{Ascend, ascend_from, ascend_front, merged_behind, not_there}
use Rattle.law_resume.proofs.ToldLines.{IsTold, given_told, cell_told, tuple_told, tuple_line}

-- the first live query of a name goes on from a base, and then from another
set_again : (name : List ℕ) (a b : Base) (qs : List LiveQuery) → set_base name b (set_base name a qs) ≡ set_base name b qs
set_again name a b [] = refl
set_again name a b (q ∷ qs) = by (bytes_eq q.name name) refl (set_again name a b qs)
  where
    by : (c : Bool) → bytes_eq q.name name ≡ c → set_base name b (set_base name a qs) ≡ set_base name b qs
        → set_base name b (cond c (from_base a q ∷ qs) (q ∷ set_base name a qs)) ≡ cond c (from_base b q ∷ qs) (q ∷ set_base name b qs)
    by true e rest = ap (λ c. cond c (from_base b q ∷ qs) (from_base a q ∷ set_base name b qs)) e
    by false e rest = ap (λ c. cond c (from_base b q ∷ set_base name a qs) (q ∷ set_base name b (set_base name a qs))) e ∙ ap (λ us. q ∷ us) rest

named_again : (name : List ℕ) (a : Base) (live : LiveQuery) (qs : List LiveQuery) → live_named name qs ≡ Some live → live_named name (set_base name a qs) ≡ Some (from_base a live)
named_again name a live [] h = absurd cc
named_again name a live (q ∷ qs) h = by (bytes_eq q.name name) refl h (named_again name a live qs)
  where
    by : (c : Bool) → bytes_eq q.name name ≡ c → cond c (Some q) (live_named name qs) ≡ Some live → (live_named name qs ≡ Some live → live_named name (set_base name a qs) ≡ Some (from_base a live))
        → live_named name (cond c (from_base a q ∷ qs) (q ∷ set_base name a qs)) ≡ Some (from_base a live)
    by true e f rest = (let same : q ≡ live = cc in ap (λ c. cond c (Some (from_base a q)) (live_named name qs)) e ∙ ap (λ (x : LiveQuery). Some (from_base a x)) same)
    by false e f rest = ap (λ c. cond c (Some q) (live_named name (set_base name a qs))) e ∙ rest f

-- a line that asks for a base leads to it
based_line : (t : State) (x : Statement) (name : List ℕ) (b : Base) → t.lock ≡ None → IsTold x → length (printed_form x) ≤ 1024 → statement_request t x ≡ based name b
    → LeadsTo t (printed_form x ∷ []) (next_by t (based name b))
based_line t x name b unlocked told short e =
    one_line t (next_by t (based name b)) (printed_form x) (plain (based name b)) told.text.whole refl
    (record { request = based name b; asks = subst (IsRequest t (printed_form x)) e (line_asks t x (printed_form x) unlocked told.text told.is told.within short); settles = refl })
    refl

-- what the lines ask for
load_asks : (t : State) (name : List ℕ) (load : LiveQuery → Request) (live : LiveQuery) → t.began ≡ false → live_named name t.queries ≡ Some live → load_request t name load (live_named name t.queries) ≡ load live
load_asks t name load live began e = ap (load_request t name load) e ∙ ap (λ b. cond b (refused Late) (load live)) began

is_natural : (n : ℕ) → natural (pos n) ≡ Some n
is_natural n = ap (λ b. cond b (Some n) None) le
  where
    le : int_le (pos 0) (pos n) ≡ true
    le = grind (arith, ints)

upto : (n most : ℕ) → n ≤ most → natural_upto most (pos n) ≡ Some n
upto n most h = ap (λ b. cond b (natural (pos n)) None) le ∙ is_natural n
  where
    le : int_le (pos n) (pos most) ≡ true
    le = grind (arith, ints)

given_asks : (t : State) (name : List ℕ) (n : ℕ) (live : LiveQuery) (base : Base) → t.began ≡ false → live_named name t.queries ≡ Some live → base_in live ≡ base → n ≤ t.taken → base.given ≡ 0
    → statement_request t (ResumeGiven name (pos n)) ≡ based name (record base { given = n })
given_asks t name n live base began e is few none =
    load_asks t name _ live began e
    ∙ ap (λ (b : Base). loaded_request name (option_and_then (λ m. loaded_given m b) (natural_upto t.taken (pos n)))) is
    ∙ ap (λ (o : Option ℕ). loaded_request name (option_and_then (λ m. loaded_given m base) o)) (upto n t.taken few)
    ∙ ap (λ k. loaded_request name (cond (nat_eq k 0) (Some (record base { given = n })) None)) none

cell_asks : (t : State) (name : List ℕ) (i : ℕ) (v : ℤ) (live : LiveQuery) (base : Base) (kind : Kind) (c : Cell) → t.began ≡ false → live_named name t.queries ≡ Some live → base_in live ≡ base
    → is_empty (slice_index_or base.cells i Cell.Present) ≡ true → kind_at (boxes_of live) i ≡ Some kind → filled_cell base.given kind v ≡ Some c
    → statement_request t (ResumeCell name (pos i) v) ≡ based name (record base { cells = slice_set base.cells i c })
cell_asks t name i v live base kind c began e is none there filled =
    let told : Option Cell → Request = λ o. loaded_request name (option_map (λ x. record base { cells = slice_set base.cells i x }) o) in
    load_asks t name _ live began e
    ∙ ap (λ (o : Option ℕ). loaded_request name (option_and_then (λ n. loaded_cell (boxes_of live) n v (base_in live)) o)) (is_natural i)
    ∙ ap (λ (b : Base). loaded_request name (loaded_cell (boxes_of live) i v b)) is
    ∙ ap (λ b. loaded_request name (cond b (option_map (λ x. record base { cells = slice_set base.cells i x }) (option_and_then (λ k. filled_cell base.given k v) (kind_at (boxes_of live) i))) None)) none
    ∙ ap (λ (o : Option Kind). told (option_and_then (λ k. filled_cell base.given k v) o)) there
    ∙ ap told filled

tuple_asks : (t : State) (name : List ℕ) (zs : List ℤ) (live : LiveQuery) (base : Base) → t.began ≡ false → live_named name t.queries ≡ Some live → base_in live ≡ base
    → length zs ≡ length live.query.select → live.query.distinct ≡ true → list_any (is_same zs) (all_tuples live.query (parts_of live.plan)) ≡ true → list_any (is_same zs) base.table ≡ false
    → statement_request t (tuple_line name zs) ≡ based name (record base { table = merged_table base.table (zs ∷ []) })
tuple_asks t name zs live base began e is wide distinct lies none =
    let told : Bool → Request = λ b. loaded_request name (cond b (Some (record base { table = merged_table base.table (zs ∷ []) })) None) in
    load_asks t name _ live began e
    ∙ ap (λ b. cond b (loaded_request name (loaded_tuple live.query (parts_of live.plan) zs (base_in live))) (refused Arity)) same
    ∙ ap (λ (b : Base). loaded_request name (loaded_tuple live.query (parts_of live.plan) zs b)) is
    ∙ ap (λ d. told (d && (list_any (is_same zs) (all_tuples live.query (parts_of live.plan)) && not (list_any (is_same zs) base.table)))) distinct
    ∙ ap (λ a. told (a && not (list_any (is_same zs) base.table))) lies
    ∙ ap (λ a. told (not a)) none
  where
    same : nat_eq (length zs) (length live.query.select) ≡ true
    same = grind (arith, nat_tests)

-- the cell of a content is this cell again
filled_again : (kind : Kind) (c : Cell) (given : ℕ) (v : ℤ) → FitsKind kind c → CountsUpto given c → content_in c ≡ Some v → filled_cell given kind v ≡ Some c
filled_again kind Cell.Empty given v h u e = absurd cc
filled_again Kind.Count (Cell.Count n) given v h u e =
    let same : pos n ≡ v = cc in
    subst (λ z. filled_cell given Kind.Count z ≡ Some (Cell.Count n)) same (ap (λ b. cond b (Some (Cell.Count n)) None) (and-both (int_le (pos 1) (pos n)) (int_le (pos n) (pos given)) (one n h.0) (most n u)))
  where
    one : (m : ℕ) → 0 < m → int_le (pos 1) (pos m) ≡ true
    one m l = grind (arith, ints)

    most : (m : ℕ) → m ≤ given → int_le (pos m) (pos given) ≡ true
    most m l = grind (arith, ints)
filled_again Kind.Present (Cell.Count n) given v h u e = absurd h
filled_again (Kind.Least a) (Cell.Count n) given v h u e = absurd h
filled_again (Kind.Greatest a) (Cell.Count n) given v h u e = absurd h
filled_again Kind.Count Cell.Present given v h u e = absurd h
filled_again Kind.Present Cell.Present given v h u e = (let same : pos 1 ≡ v = cc in subst (λ z. filled_cell given Kind.Present z ≡ Some Cell.Present) same refl)
filled_again (Kind.Least a) Cell.Present given v h u e = absurd h
filled_again (Kind.Greatest a) Cell.Present given v h u e = absurd h
filled_again Kind.Count (Cell.Extreme z) given v h u e = absurd h
filled_again Kind.Present (Cell.Extreme z) given v h u e = absurd h
filled_again (Kind.Least a) (Cell.Extreme z) given v h u e = (let same : z ≡ v = cc in ap (λ x. Some (Cell.Extreme x)) (sym same))
filled_again (Kind.Greatest a) (Cell.Extreme z) given v h u e = (let same : z ≡ v = cc in ap (λ x. Some (Cell.Extreme x)) (sym same))

empty_again : (c : Cell) → content_in c ≡ None → c ≡ Cell.Empty
empty_again Cell.Empty e = refl
empty_again (Cell.Count n) e = absurd cc
empty_again Cell.Present e = absurd cc
empty_again (Cell.Extreme z) e = absurd cc

small : (n : ℕ) → n < 2 ^ 63 → fits_i64 (pos n) ≡ true
small n h = grind (arith, nat_tests)

module _ (s : State) (q : LiveQuery) (began : s.began ≡ false) (unlocked : s.lock ≡ None) (named : live_named q.name s.queries ≡ Some (newly q.name q.query q.shared q.plan))
    (sound : IsSoundLive q) (has : HasShortLines s.streams q) where
  -- the query goes on from a base, after so many lines
  abbrev going : Base → ℕ → State
  going base n = record s { queries = set_base q.name base s.queries; lines = s.lines + n }

  abbrev live_at : Base → LiveQuery
  live_at base = from_base base (newly q.name q.query q.shared q.plan)

  named_at : (base : Base) (n : ℕ) → live_named q.name (going base n).queries ≡ Some (live_at base)
  named_at base n = named_again q.name base (newly q.name q.query q.shared q.plan) s.queries named

  kept_at : (base : Base) → length base.cells ≡ sizes_in (boxes_of q) → base_in (live_at base) ≡ base
  kept_at base e = (bases-keep-on q.query (parts_of q.plan) (boxes_of q) base e).none

  short_name : length q.name ≤ 24
  short_name = (name_facts q.name has.name).short

  few_cells : sizes_in (boxes_of q) < 2 ^ 63
  few_cells = (let size = (cells_of_plan q.shared q.query q.plan (form_plans_serve q.shared q.query q.plan sound.limits sound.accepted.met sound.accepted.plan) sound.accepted.within).1 in omega (arith, size))

  -- a line that tells one thing more
  tells : (base next : Base) (n : ℕ) (x : Statement) → IsTold x → length (printed_form x) ≤ 1024 → statement_request (going base n) x ≡ based q.name next
      → LeadsTo (going base n) (printed_form x ∷ []) (going next (n + 1))
  tells base next n x told short e =
      let sets : set_base q.name next (set_base q.name base s.queries) ≡ set_base q.name next s.queries = set_again q.name base next s.queries in
      let count : s.lines + n + 1 ≡ s.lines + (n + 1) = omega arith in
      let same : next_by (going base n) (based q.name next) ≡ going next (n + 1) = λ j. record s { queries = sets j; lines = count j } in
      subst (LeadsTo (going base n) (printed_form x ∷ [])) same (based_line (going base n) x q.name next unlocked told short e)

  -- one cell
  abbrev blank : ℕ → List Cell
  blank n = replicate n Cell.Empty

  one_cell : (base : Base) (front rest : List Cell) (c : Cell) (n i : ℕ) → i ≡ length front → base.cells ≡ front ++ Cell.Empty ∷ blank (length rest) → front ++ c ∷ rest ≡ (base_in q).cells → base.given ≡ (base_in q).given
      → (o : Option ℤ) → content_in c ≡ o
      → LeadsTo (going base n) (map printed_form (cell_statement q.name i o)) (going (record base { cells = (front ++ c ∷ []) ++ blank (length rest) }) (n + length (cell_statement q.name i o)))
  one_cell base front rest c n i place cells whole given None e =
      let none : c ≡ Cell.Empty = empty_again c e in
      let same : base.cells ≡ (front ++ c ∷ []) ++ blank (length rest)
      = cells ∙ ap (λ d. front ++ d ∷ blank (length rest)) (sym none) ∙ sym (append_assoc front (c ∷ []) (blank (length rest))) in
      let count : n ≡ n + 0 = omega arith in
      let to : going base n ≡ going (record base { cells = (front ++ c ∷ []) ++ blank (length rest) }) (n + 0) = λ j. going (record base { cells = same j }) (count j) in
      subst (LeadsTo (going base n) []) to (no_line (going base n))
  one_cell base front rest c n i place cells whole given (Some v) e =
      let l : length (front ++ c ∷ rest) ≡ length front + length (c ∷ rest) = length-append front (c ∷ rest) in
      let m : length (front ++ Cell.Empty ∷ blank (length rest)) ≡ length front + suc (length (blank (length rest))) = length-append front (Cell.Empty ∷ blank (length rest)) in
      let r : length (blank (length rest)) ≡ length rest = length-replicate (length rest) Cell.Empty in
      let all : length (front ++ c ∷ rest) ≡ sizes_in (boxes_of q) = ap length whole ∙ sound.whole in
      let size : length base.cells ≡ sizes_in (boxes_of q) = ap length cells ∙ m ∙ (let z : length front + suc (length (blank (length rest))) ≡ length (front ++ c ∷ rest) = omega (arith, l, r) in z) ∙ all in
      let inside : i < sizes_in (boxes_of q) = omega (arith, place, l, all) in
      let at : slice_index_or (base_in q).cells i c ≡ c = ap (λ (xs : List Cell). slice_index_or xs i c) (sym whole) ∙ ap (λ k. slice_index_or (front ++ c ∷ rest) k c) place ∙ get_or-append_seam front c rest c in
      let is : IsCellOf (boxes_of q) (base_in q).given i c = subst (IsCellOf (boxes_of q) (base_in q).given i) at (sound.cells i c inside) in
      let content : FitsContent c = subst FitsContent at (has.cells i c (let w = sound.whole in omega (arith, inside, w))) in
      let fits : IsTrue (fits_i64 v) = subst Told e (content_fits is.kind c is.fits content) in
      let number : i < 2 ^ 63 = (let few = few_cells in omega (arith, inside, few)) in
      let none : is_empty (slice_index_or base.cells i Cell.Present) ≡ true
      = ap (λ (xs : List Cell). is_empty (slice_index_or xs i Cell.Present)) cells ∙ ap (λ k. is_empty (slice_index_or (front ++ Cell.Empty ∷ blank (length rest)) k Cell.Present)) place
      ∙ ap is_empty (get_or-append_seam front Cell.Empty (blank (length rest)) Cell.Present) in
      let filled : filled_cell base.given is.kind v ≡ Some c = ap (λ g. filled_cell g is.kind v) given ∙ filled_again is.kind c (base_in q).given v is.fits is.counts e in
      let set : slice_set base.cells i c ≡ (front ++ c ∷ []) ++ blank (length rest)
      = ap (λ (xs : List Cell). slice_set xs i c) cells ∙ ap (λ k. slice_set (front ++ Cell.Empty ∷ blank (length rest)) k c) place
      ∙ set-append_seam front Cell.Empty (blank (length rest)) c ∙ sym (append_assoc front (c ∷ []) (blank (length rest))) in
      tells base (record base { cells = (front ++ c ∷ []) ++ blank (length rest) }) n (ResumeCell q.name (pos i) v)
      (cell_told q.name (pos i) v has.name (small i number) fits) (cell_within q.name i v short_name number fits)
      (cell_asks (going base n) q.name i v (live_at base) base is.kind c began (named_at base n) (kept_at base size) none is.there filled
      ∙ ap (λ (cs : List Cell). based q.name (record base { cells = cs })) set)

  -- all cells
  all_cells : (base : Base) (front rest : List Cell) (n i : ℕ) → i ≡ length front → base.cells ≡ front ++ blank (length rest) → front ++ rest ≡ (base_in q).cells → base.given ≡ (base_in q).given
      → LeadsTo (going base n) (map printed_form (cell_statements q.name i rest)) (going (record base { cells = (base_in q).cells }) (n + length (cell_statements q.name i rest)))
  unfolding cell_statements
  all_cells base front [] n i place cells whole given =
      let same : base.cells ≡ (base_in q).cells = cells ∙ whole in
      let count : n ≡ n + 0 = omega arith in
      let to : going base n ≡ going (record base { cells = (base_in q).cells }) (n + 0) = λ j. going (record base { cells = same j }) (count j) in
      subst (LeadsTo (going base n) []) to (no_line (going base n))
  all_cells base front (c ∷ rest) n i place cells whole given =
      let next : Base = record base { cells = (front ++ c ∷ []) ++ blank (length rest) } in
      let done : Base = record base { cells = (base_in q).cells } in
      let here : List Statement = cell_statement q.name i (content_in c) in
      let others : List Statement = cell_statements q.name (i + 1) rest in
      let one : LeadsTo (going base n) (map printed_form here) (going next (n + length here)) = one_cell base front rest c n i place cells whole given (content_in c) refl in
      let l : length (front ++ c ∷ []) ≡ length front + 1 = length-append front (c ∷ []) in
      let more : LeadsTo (going next (n + length here)) (map printed_form others) (going done (n + length here + length others))
      = all_cells next (front ++ c ∷ []) rest (n + length here) (i + 1) (omega (arith, place, l)) refl (append_assoc front (c ∷ []) rest ∙ whole) given in
      let count : n + length here + length others ≡ n + length (here ++ others) = (let k = length-append here others in omega (arith, k)) in
      subst (λ k. LeadsTo (going base n) (map printed_form (here ++ others)) (going done k)) count
      (subst (λ ls. LeadsTo (going base n) ls (going done (n + length here + length others))) (sym (map-append printed_form here others))
      (joined (going base n) (going next (n + length here)) (going done (n + length here + length others)) (map printed_form here) (map printed_form others) one more))

  -- the printed tuples
  all_told : (distinct : q.query.distinct ≡ true) (base : Base) (front rest : List (List ℤ)) (n : ℕ) → length base.cells ≡ sizes_in (boxes_of q) → base.table ≡ front → Ascend (front ++ rest)
      → All (Contains (all_tuples q.query (parts_of q.plan))) rest → All (All (λ z. IsTrue (fits_i64 z))) rest
      → LeadsTo (going base n) (map printed_form (tuple_statements q.name rest)) (going (record base { table = front ++ rest }) (n + length (tuple_statements q.name rest)))
  all_told distinct base front [] n size table ascends lie fits =
      let same : base.table ≡ front ++ [] = table ∙ sym (append-nil front) in
      let count : n ≡ n + 0 = omega arith in
      let to : going base n ≡ going (record base { table = front ++ [] }) (n + 0) = λ j. going (record base { table = same j }) (count j) in
      subst (LeadsTo (going base n) []) to (no_line (going base n))
  all_told distinct base front (t ∷ rest) n size table ascends lie fits =
      let next : Base = record base { table = front ++ t ∷ [] } in
      let e : (front ++ t ∷ []) ++ rest ≡ front ++ t ∷ rest = append_assoc front (t ∷ []) rest in
      let here : Ascend (front ++ t ∷ []) = ascend_front (front ++ t ∷ []) rest (subst Ascend (sym e) ascends) in
      let wide = all_wide q.query (parts_of q.plan) (t ∷ rest) lie in
      let selected = sound.limits.selected in
      let own = recursion_from_All (λ z. IsTrue (fits_i64 z)) t (All-head (All (λ z. IsTrue (fits_i64 z))) t rest fits) in
      let most : length t ≤ 8 = (let w = wide.0 in let m = selected.1 in omega (arith, w, m)) in
      let some : 0 < length t = (let w = wide.0 in let m = selected.0 in omega (arith, w, m)) in
      let lies : list_any (is_same t) (all_tuples q.query (parts_of q.plan)) ≡ true
      = any_if (is_same t) (all_tuples q.query (parts_of q.plan)) t (Has-from_contains (all_tuples q.query (parts_of q.plan)) t (All-head (Contains (all_tuples q.query (parts_of q.plan))) t rest lie)) (same-itself t) in
      let none : list_any (is_same t) base.table ≡ false = ap (list_any (is_same t)) table ∙ not_there front t here in
      let merges : merged_table base.table (t ∷ []) ≡ front ++ t ∷ [] = ap (λ (ts : List (List ℤ)). merged_table ts (t ∷ [])) table ∙ merged_behind front t here in
      let one : LeadsTo (going base n) (printed_form (tuple_line q.name t) ∷ []) (going next (n + 1))
      = tells base next n (tuple_line q.name t) (some_told t some most own) (tuple_within q.name t short_name most own)
      (tuple_asks (going base n) q.name t (live_at base) base began (named_at base n) (kept_at base size) wide.0 distinct lies none ∙ ap (λ (ts : List (List ℤ)). based q.name (record base { table = ts })) merges) in
      let more : LeadsTo (going next (n + 1)) (map printed_form (tuple_statements q.name rest)) (going (record base { table = (front ++ t ∷ []) ++ rest }) (n + 1 + length (tuple_statements q.name rest)))
      = all_told distinct next (front ++ t ∷ []) rest (n + 1) size refl (subst Ascend (sym e) ascends)
      (All-tail (Contains (all_tuples q.query (parts_of q.plan))) t rest lie) (All-tail (All (λ z. IsTrue (fits_i64 z))) t rest fits) in
      let count : n + 1 + length (tuple_statements q.name rest) ≡ n + suc (length (tuple_statements q.name rest)) = omega arith in
      let to : going (record base { table = (front ++ t ∷ []) ++ rest }) (n + 1 + length (tuple_statements q.name rest)) ≡ going (record base { table = front ++ t ∷ rest }) (n + suc (length (tuple_statements q.name rest)))
      = λ j. going (record base { table = e j }) (count j) in
      subst (LeadsTo (going base n) (map printed_form (tuple_statements q.name (t ∷ rest)))) to
      (joined (going base n) (going next (n + 1)) (going (record base { table = (front ++ t ∷ []) ++ rest }) (n + 1 + length (tuple_statements q.name rest))) (printed_form (tuple_line q.name t) ∷ []) (map printed_form (tuple_statements q.name rest)) one more)
    where
      some_told : (zs : List ℤ) → 0 < length zs → length zs ≤ 8 → AllByRecursion (λ z. IsTrue (fits_i64 z)) zs → IsTold (tuple_line q.name zs)
      some_told [] l m o = absurd (omega (arith, l))
      some_told (z ∷ zs) l m o = tuple_told q.name z zs has.name m o

  printed_told : (distinct : Bool) → q.query.distinct ≡ distinct → KeepsTuplesDistinct q → (base : Base) (n : ℕ) → length base.cells ≡ sizes_in (boxes_of q) → base.table ≡ []
      → LeadsTo (going base n) (map printed_form (printed_statements q.name distinct (base_in q).table)) (going (record base { table = (base_in q).table }) (n + length (printed_statements q.name distinct (base_in q).table)))
  printed_told true d without base n size table = all_told d base [] (base_in q).table n size table (ascend_from (base_in q).table (sound.ascends d)) (sound.tuples d) has.values
  printed_told false d without base n size table =
      let same : base.table ≡ (base_in q).table = table ∙ sym (without d) in
      let count : n ≡ n + 0 = omega arith in
      let to : going base n ≡ going (record base { table = (base_in q).table }) (n + 0) = λ j. going (record base { table = same j }) (count j) in
      subst (LeadsTo (going base n) []) to (no_line (going base n))

  -- all that is kept
  all_kept : (base_in q).given ≤ s.taken → KeepsTuplesDistinct q → LeadsTo s (kept_lines q) (record s { queries = set_base q.name (base_in q) s.queries; lines = s.lines + length (kept_lines q) })
  all_kept few without =
      let list : List Box = boxes_of q in
      let given : ℕ = (base_in q).given in
      let zero_base : Base = first_base list in
      let first : Base = record zero_base { given = given } in
      let size : length zero_base.cells ≡ sizes_in list = length-replicate (sizes_in list) Cell.Empty in
      let line : Statement = ResumeGiven q.name (pos given) in
      let cells : List Statement = cell_statements q.name 0 (base_in q).cells in
      let tuples : List Statement = printed_statements q.name q.query.distinct (base_in q).table in
      let number : fits_i64 (pos given) ≡ true = small given (let g = has.given in omega (arith, g)) in
      let one : LeadsTo s (printed_form line ∷ []) (going first 1)
      = based_line s line q.name first unlocked (given_told q.name (pos given) has.name number) (given_within q.name given short_name has.given)
      (given_asks s q.name given (newly q.name q.query q.shared q.plan) zero_base began named (kept_at zero_base size) few refl) in
      let whole : length (base_in q).cells ≡ sizes_in list = sound.whole in
      let two : LeadsTo (going first 1) (map printed_form cells) (going (record first { cells = (base_in q).cells }) (1 + length cells))
      = all_cells first [] (base_in q).cells 1 0 refl (ap (λ k. blank k) (sym whole)) refl refl in
      let three : LeadsTo (going (record first { cells = (base_in q).cells }) (1 + length cells)) (map printed_form tuples) (going (base_in q) (1 + length cells + length tuples))
      = printed_told q.query.distinct refl without (record first { cells = (base_in q).cells }) (1 + length cells) whole refl in
      let both : LeadsTo (going first 1) (map printed_form (cells ++ tuples)) (going (base_in q) (1 + length cells + length tuples))
      = subst (λ ls. LeadsTo (going first 1) ls (going (base_in q) (1 + length cells + length tuples))) (sym (map-append printed_form cells tuples))
      (joined (going first 1) (going (record first { cells = (base_in q).cells }) (1 + length cells)) (going (base_in q) (1 + length cells + length tuples)) (map printed_form cells) (map printed_form tuples) two three) in
      let count : 1 + length cells + length tuples ≡ length (kept_lines q) = (let k = length-append cells tuples in let m = length-map (cells ++ tuples) printed_form in omega (arith, k, m)) in
      subst (λ k. LeadsTo s (kept_lines q) (going (base_in q) k)) count
      (joined s (going first 1) (going (base_in q) (1 + length cells + length tuples)) (printed_form line ∷ []) (map printed_form (cells ++ tuples)) one both)

pub kept_is_restored : KeptIsRestored
kept_is_restored s q began unlocked named sound has few without = all_kept s q began unlocked named sound has few without
