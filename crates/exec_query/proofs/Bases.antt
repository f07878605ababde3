-- An executor that goes on from a base.
use Rattle.std.proofs.Common.{◌≡◌, ℕ, zero, suc, ◌+◌, ◌^◌, min, cond, Bool, true, false, ◌&&◌, nat_eq, ℤ, List, [], ◌∷◌, ◌++◌, length, take, drop, replicate, refl, sym, ap, ◌∙◌, subst, arith, inl, inr, ◌⊎◌, ◌-◌, length-append}
use Rattle.std.specs.List.{list_all}
use Rattle.std.proofs.lemmas.List.{take-append-le, take_all, drop-append-le, length-drop, length-replicate}
use Rattle.sem_query.specs.declared.cell.Cell.{Cell}
use Rattle.sem_query.specs.declared.plan.PartPlan.{PartPlan}
use Rattle.sem_query.specs.Query.{QueryValue}
use Rattle.sem_query.specs.Tuples.{at_most}
use Rattle.sem_query.specs.Meaning.{Arrival, new_answers}
use Rattle.sem_query.specs.Domains.{RowsKeep}
use Rattle.sem_query.specs.Combinations.{read_from}
use Rattle.sem_query.specs.Future.{future}
use Rattle.sem_query.specs.Merge.{merged_table}
use Rattle.sem_query.specs.Sharing.{Box, sizes_in, synopsis_in, merge_in}
use Rattle.sem_query.specs.Bases.{Base, first_base, base_of, answers_from}
use Rattle.sem_query.proofs.Has.{Has-append_cases}
use Rattle.sem_laws.specs.Growth.{occurs}
use Rattle.sem_laws.specs.Bases.{KeepsOn, StandsForHistories}
use Rattle.sem_laws.proofs.Tests.{true_or_false, and-left, and-right, nat_true}
use Rattle.sem_laws.proofs.Counts.{times}
use Rattle.sem_laws.proofs.Order.{ascending-rises, times-ascending}
use Rattle.sem_laws.proofs.Interleaving.{occurs-is}
use Rattle.sem_laws.proofs.Keeping.{row-keeps, rows-keep, rows-more-keep}
use Rattle.sem_laws.proofs.SharedCells.{into-size}
use Rattle.sem_laws.proofs.Bases.{bases-keep-on, bases-stand-for-histories, times-at_most}
use Rattle.exec_pool.specs.Extents.{PoolValue, cells_of, IsLive}
use Rattle.exec_pool.proofs.CallerLemmas.{cells_of_with}
use Rattle.exec_answer_table.specs.Entries.{Entry, Ascends, waiting_of, tuples_of}
use Rattle.exec_query.specs.Executor.{ExecutorValue, parts_in, list_in, cells_in, rest_in, tuples_in, waiting_in, IsSound, with_given}
use Rattle.exec_query.specs.Standing.{StandsFor, future_in}
use Rattle.exec_query.specs.Bases.{kept_in, is_fresh, answers_by, StandsFrom, TakingKeepsOn, BasesAndHistories}
use Rattle.exec_restore.specs.Loadable.{is_empty}
use Rattle.exec_query.proofs.Spelled.{spelled_is}
use Rattle.exec_query.proofs.Answered.{settled-tuples}
use Rattle.exec_query.proofs.Settled.{written}
use Rattle.exec_query.proofs.Rows.{future-table}
use Rattle.exec_query.proofs.PlanFacts.{serving_in, kept_is}

front : (xs ys : List Cell) (n : ℕ) → n ≡ length xs → take n (xs ++ ys) ≡ xs
front xs ys n e = take-append-le n xs ys (omega (arith, e)) ∙ take_all n xs (omega (arith, e))

none-left : (n : ℕ) (xs : List Cell) → n ≡ length xs → drop n xs ≡ []
none-left n xs e = nothing (drop n xs) (length-drop n xs ∙ (let z : length xs - n ≡ 0 = omega (arith, e) in z))
  where
    nothing : (ys : List Cell) → length ys ≡ 0 → ys ≡ []
    nothing [] h = refl
    nothing (y ∷ ys) h = absurd (omega (arith, h))

back : (xs ys : List Cell) (n : ℕ) → n ≡ length xs → drop n (xs ++ ys) ≡ ys
back xs ys n e = drop-append-le n xs ys (omega (arith, e)) ∙ ap (λ zs. zs ++ ys) (none-left n xs e)

module _ (e : ExecutorValue) (sound : IsSound e) (pool : PoolValue) (r : Arrival) (es : List Entry) (a : Ascends es)
    (waits : (t : List ℤ) → waiting_of t es ≡ min (occurs t (future_in e pool r)) (2 ^ 127))
    (tuples : e.query.distinct ≡ true → tuples_of es ≡ merged_table (tuples_in e) (future_in e pool r)) (base : Base) (history : List Arrival) (stands : StandsFrom e pool base history) where
  abbrev q : QueryValue
  q = e.query

  abbrev parts : List PartPlan
  parts = parts_in e

  abbrev was : Base
  was = kept_in e base history

  -- what cells and table answer is what the base and the rows since answer
  future-is : future_in e pool r ≡ future q parts (read_from was.cells) was.table r
  future-is = ap (λ cs. future q parts (read_from cs) (tuples_in e) r) stands.cells ∙ by (true_or_false q.distinct)
    where
      by : (q.distinct ≡ true) ⊎ (q.distinct ≡ false) → future q parts (read_from was.cells) (tuples_in e) r ≡ future q parts (read_from was.cells) was.table r
      by (inl d) = ap (λ ts. future q parts (read_from was.cells) ts r) (stands.tuples d)
      by (inr d) = future-table q parts (read_from was.cells) (tuples_in e) was.table r d

  pub waiting-is : waiting_in (with_given e (e.given + 1) es) ≡ answers_from q parts was r
  waiting-is =
      spelled_is es (answers_from q parts was r) a (ascending-rises (at_most (2 ^ 127) (future q parts (read_from was.cells) was.table r))) (λ z.
      let f : List (List ℤ) = future q parts (read_from was.cells) was.table r in
      waits z ∙ ap (λ ts. min (occurs z ts) (2 ^ 127)) future-is
      ∙ ap (λ n. min n (2 ^ 127)) (occurs-is z f) ∙ turned (times z f) (2 ^ 127)
      ∙ sym (times-at_most (2 ^ 127) z f) ∙ sym (times-ascending z (at_most (2 ^ 127) f)))
    where
      turned : (m n : ℕ) → min m n ≡ min n m
      turned m n = omega arith

  pub table-is : q.distinct ≡ true → tuples_of es ≡ (kept_in e base (history ++ r ∷ [])).table
  table-is d =
      tuples d
      ∙ (λ j. merged_table (stands.tuples d j) (future-is j))
      ∙ sym (ap (λ b. cond b (merged_table was.table (future q parts (read_from was.cells) was.table r)) []) d)
      ∙ sym (ap (λ (b : Base). b.table) ((bases-keep-on q parts (list_in e) base stands.size).row history r))

-- what an executor keeps of a base and rows is what the whole history comes to, where the base is one
pub histories : (e : ExecutorValue) → IsSound e → StandsForHistories e.query (parts_in e) (list_in e)
histories e sound =
    bases-stand-for-histories e.query (parts_in e) (list_in e) sound.limits (kept_is e.shared e.query e.plan (serving_in e sound))

no-tuples : (ts : List (List ℤ)) → nat_eq (length ts) 0 ≡ true → ts ≡ []
no-tuples [] h = refl
no-tuples (t ∷ ts) h = absurd (let e = nat_true (length (t ∷ ts)) 0 h in omega (arith, e))

is-empty : (c : Cell) → is_empty c ≡ true → c ≡ Cell.Empty
is-empty Cell.Empty h = refl
is-empty (Cell.Count n) h = absurd cc
is-empty Cell.Present h = absurd cc
is-empty (Cell.Extreme z) h = absurd cc

all-empty : (cs : List Cell) (n : ℕ) → length cs ≡ n → list_all is_empty cs ≡ true → cs ≡ replicate n Cell.Empty
all-empty [] zero e h = refl
all-empty [] (suc n) e h = absurd (omega (arith, e))
all-empty (c ∷ cs) zero e h = absurd (omega (arith, e))
all-empty (c ∷ cs) (suc n) e h =
    let own : c ≡ Cell.Empty = is-empty c (and-left _ (list_all is_empty cs) h) in
    λ j. own j ∷ all-empty cs n (omega (arith, e)) (and-right (is_empty c) _ h) j

-- a base as after creation is the first one
fresh-is : (list : List Box) (base : Base) → length base.cells ≡ sizes_in list → is_fresh base ≡ true → base ≡ first_base list
fresh-is list base size h =
    let rest : (nat_eq (length base.table) 0 && list_all is_empty base.cells) ≡ true = and-right (nat_eq base.given 0) _ h in
    let given : base.given ≡ 0 = nat_true base.given 0 (and-left _ (nat_eq (length base.table) 0 && list_all is_empty base.cells) h) in
    let table : base.table ≡ [] = no-tuples base.table (and-left _ (list_all is_empty base.cells) rest) in
    let cells : base.cells ≡ replicate (sizes_in list) Cell.Empty = all-empty base.cells (sizes_in list) size (and-right (nat_eq (length base.table) 0) _ rest) in
    λ j. record { cells = cells j; table = table j; given = given j }

-- who stands for such a base and rows stands for the rows as a history
pub fresh-stands : (e : ExecutorValue) (pool : PoolValue) → IsSound e → (base : Base) (history : List Arrival) → is_fresh base ≡ true → StandsFrom e pool base history
    → StandsFor e pool history
fresh-stands e pool sound base history h s =
    let b : kept_in e base history ≡ base_of e.query (list_in e) history
    = ap (λ (o : Base). kept_in e o history) (fresh-is (list_in e) base s.size h) ∙ (histories e sound).created history s.rows in
    record {
      live = s.live;
      cells = s.cells ∙ ap (λ (o : Base). o.cells) b;
      rest = s.rest;
      given = s.given ∙ ap (λ (o : Base). o.given) b;
      rows = s.rows;
      tuples = λ d. s.tuples d ∙ ap (λ (o : Base). o.table) b;
    }

-- the rows of two histories keep to the domains where those of each do
both-keep : (q : QueryValue) (history later : List Arrival) → RowsKeep q history → RowsKeep q later → RowsKeep q (history ++ later)
both-keep q history later h k = rows-keep q (history ++ later) (λ r m. elim (Has-append_cases history later r m) [
  | inl i ↦ row-keeps q history h r i
  | inr i ↦ row-keeps q later k r i
])

pub taking-keeps-on : TakingKeepsOn
taking-keeps-on before after pool later r sound keep a took base history stands =
    subst (λ (x : ExecutorValue). (waiting_in x ≡ answers_by before.query (parts_in before) list base history r) × StandsFrom x later base (history ++ r ∷ [])) (sym took.same) (
      waiting (is_fresh base) refl,
      record {
        live = subst (λ (x : ExecutorValue). IsLive later x.extent) took.same took.kept.live;
        size = stands.size;
        cells = ap (take n) cells_now ∙ front merged (rest_in before pool) n (sym size) ∙ ap (λ cs. merge_in list cs (synopsis_in before.query list (r ∷ []))) stands.cells
            ∙ sym (ap (λ (b : Base). b.cells) (keeps.row history r));
        rest = ap (drop n) cells_now ∙ back merged (rest_in before pool) n (sym size) ∙ stands.rest;
        given = (let g = stands.given in let l = length-append history (r ∷ []) in omega (arith, g, l));
        rows = rows-more-keep before.query history r stands.rows keep;
        tuples = λ d. table-is before sound pool r es a took.waits took.tuples base history stands d;
      },
    )
  where
    es : List Entry
    es = after.table.entries

    list : List Box
    list = list_in before

    n : ℕ
    n = sizes_in list

    waiting : (b : Bool) → is_fresh base ≡ b
        → waiting_in (with_given before (before.given + 1) es) ≡ cond b (new_answers before.query history r) (answers_from before.query (parts_in before) (kept_in before base history) r)
    waiting true h = sym (ap waiting_in took.same) ∙ (took.history history (fresh-stands before pool sound base history h stands)).0
    waiting false h = waiting-is before sound pool r es a took.waits took.tuples base history stands

    keeps : KeepsOn before.query (parts_in before) list base
    keeps = bases-keep-on before.query (parts_in before) list base stands.size

    merged : List Cell
    merged = merge_in list (cells_in before pool) (synopsis_in before.query list (r ∷ []))

    size : length merged ≡ n
    size =
        let own : length (cells_in before pool) ≡ n = ap length stands.cells ∙ into-size before.query list base.cells stands.size history in
        into-size before.query list (cells_in before pool) own (r ∷ [])

    cells_now : cells_of later before.extent ≡ merged ++ rest_in before pool
    cells_now = ap (λ (p : PoolValue). cells_of p before.extent) took.cells ∙ cells_of_with pool before.extent (merged ++ rest_in before pool) stands.live

pub bases-and-histories : BasesAndHistories
bases-and-histories e pool sound = (
  λ history later keep s.
      let b = law.resumed history later keep s.rows in
      record {
        live = s.live;
        cells = s.cells ∙ ap (λ (b : Base). b.cells) b;
        rest = s.rest;
        given = s.given ∙ ap (λ (b : Base). b.given) b;
        rows = both-keep e.query history later keep s.rows;
        tuples = λ d. s.tuples d ∙ ap (λ (b : Base). b.table) b;
      },
  λ history s.
      let b = law.created history s.rows in
      record {
        live = s.live;
        size = length-replicate (sizes_in (list_in e)) Cell.Empty;
        cells = s.cells ∙ sym (ap (λ (b : Base). b.cells) b);
        rest = s.rest;
        given = s.given ∙ sym (ap (λ (b : Base). b.given) b);
        rows = s.rows;
        tuples = λ d. s.tuples d ∙ sym (ap (λ (b : Base). b.table) b);
      },
  λ base history s.
      let size = into-size e.query (list_in e) base.cells s.size history in
      let b = (bases-keep-on e.query (parts_in e) (list_in e) (kept_in e base history) size).none in
      record {
        live = s.live;
        size = size;
        cells = s.cells ∙ sym (ap (λ (b : Base). b.cells) b);
        rest = s.rest;
        given = s.given ∙ sym (ap (λ (b : Base). b.given) b);
        rows = λ k d l. absurd (omega (arith, l));
        tuples = λ d. s.tuples d ∙ sym (ap (λ (b : Base). b.table) b);
      },
)
  where
    law : StandsForHistories e.query (parts_in e) (list_in e)
    law = histories e sound

-- an executor whose answers were written stands for what it stood for
pub written-from : (e : ExecutorValue) (pool : PoolValue) (base : Base) (history : List Arrival) → StandsFrom e pool base history → StandsFrom (written e) pool base history
written-from e pool base history s = record {
  live = s.live;
  size = s.size;
  cells = s.cells;
  rest = s.rest;
  given = s.given;
  rows = s.rows;
  tuples = λ d. settled-tuples e.table.entries ∙ s.tuples d;
}
