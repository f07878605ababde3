-- What a live query answers, by what is kept of it.
use Rattle.std.proofs.Common.{◌≡◌, ℕ, zero, suc, ◌+◌, ◌^◌, ◌≤◌, Bool, true, false, ◌&&◌, cond, nat_eq, ℤ, List, [], ◌∷◌, ◌++◌, length, replicate, refl, sym, ap, ◌∙◌, arith, length-append}
use Rattle.std.specs.List.{list_all}
use Rattle.std.proofs.lemmas.Bool.Decides.{nat_tests}
use Rattle.sem_query.specs.declared.cell.Cell.{Cell}
use Rattle.sem_query.specs.Meaning.{Arrival, new_answers}
use Rattle.sem_query.specs.Domains.{RowKeeps}
use Rattle.sem_query.specs.Numbers.{parts_of}
use Rattle.sem_query.specs.Sharing.{Box, sizes_in}
use Rattle.sem_query.specs.Bases.{Base, first_base, base_of, answers_from, kept, kept_row}
use Rattle.sem_laws.specs.Bases.{StandsForHistories}
use Rattle.sem_laws.proofs.Bases.{bases-keep-on, bases-stand-for-histories}
use Rattle.sem_laws.proofs.Keeping.{rows-more-keep}
use Rattle.exec_restore.specs.Loadable.{is_empty}
use Rattle.exec_query.specs.Bases.{is_fresh}
use Rattle.sem_forms.proofs.Forms.{form_plans_serve}
use Rattle.exec_query.proofs.PlanFacts.{kept_is}
use Rattle.sql_catalog.specs.Streams.{Shape, KeepsDomains}
use Rattle.sql_parser.proofs.DomainRows.{rows_keep_domains}
use Rattle.exec_registry.specs.Live.{LiveQuery, boxes_of, base_in, answers_of, with_row}
use Rattle.law_resume.specs.Sound.{IsSoundIn}

both_hold : (a b : Bool) → (a && b) ≡ true → (a ≡ true) × (b ≡ true)
both_hold true true h = (refl, refl)
both_hold true false h = absurd cc
both_hold false b h = absurd cc

is_zero : (n : ℕ) → nat_eq n 0 ≡ true → n ≡ 0
is_zero n h = grind (arith, nat_tests)

no_tuples : (ts : List (List ℤ)) → nat_eq (length ts) 0 ≡ true → ts ≡ []
no_tuples [] h = refl
no_tuples (t ∷ ts) h = absurd (let e = is_zero (length (t ∷ ts)) h in omega (arith, e))

empty_cell : (c : Cell) → is_empty c ≡ true → c ≡ Cell.Empty
empty_cell Cell.Empty h = refl
empty_cell (Cell.Count n) h = absurd cc
empty_cell Cell.Present h = absurd cc
empty_cell (Cell.Extreme z) h = absurd cc

empty_cells : (cs : List Cell) (n : ℕ) → length cs ≡ n → list_all is_empty cs ≡ true → cs ≡ replicate n Cell.Empty
empty_cells [] zero e h = refl
empty_cells [] (suc n) e h = absurd (omega (arith, e))
empty_cells (c ∷ cs) zero e h = absurd (omega (arith, e))
empty_cells (c ∷ cs) (suc n) e h =
    let both = both_hold (is_empty c) (list_all is_empty cs) h in
    let own : c ≡ Cell.Empty = empty_cell c both.0 in
    let rest : cs ≡ replicate n Cell.Empty = empty_cells cs n (omega (arith, e)) both.1 in
    λ j. own j ∷ rest j

-- a base as after creation is the first one
fresh_is_first : (list : List Box) (base : Base) → length base.cells ≡ sizes_in list → is_fresh base ≡ true → base ≡ first_base list
fresh_is_first list base size h =
    let outer = both_hold (nat_eq base.given 0) (nat_eq (length base.table) 0 && list_all is_empty base.cells) h in
    let inner = both_hold (nat_eq (length base.table) 0) (list_all is_empty base.cells) outer.1 in
    let given : base.given ≡ 0 = is_zero base.given outer.0 in
    let table : base.table ≡ [] = no_tuples base.table inner.0 in
    let cells : base.cells ≡ replicate (sizes_in list) Cell.Empty = empty_cells base.cells (sizes_in list) size inner.1 in
    λ j. record { cells = cells j; table = table j; given = given j }

-- a live query answers what is kept of it tells, whatever base and rows that came of
pub answers_by_kept : (streams : List Shape) (taken : ℕ) (q : LiveQuery) (r : Arrival) → IsSoundIn streams taken q → taken ≤ 2 ^ 40 → KeepsDomains streams r.stream r.values
    → answers_of r q ≡ answers_from q.query (parts_of q.plan) (base_in q) r
answers_by_kept streams taken q r sound few keeps = by (is_fresh q.base) refl
  where
    given : q.base.given + length q.history ≤ taken
    given = sound.given

    law : StandsForHistories q.query (parts_of q.plan) (boxes_of q)
    law = bases-stand-for-histories q.query (parts_of q.plan) (boxes_of q) sound.limits (kept_is q.shared q.query q.plan (form_plans_serve q.shared q.query q.plan sound.limits sound.met sound.plan))

    row : RowKeeps q.query r
    row = rows_keep_domains streams q.query r sound.named keeps

    by : (b : Bool) → is_fresh q.base ≡ b
        → cond b (new_answers q.query q.history r) (answers_from q.query (parts_of q.plan) (base_in q) r) ≡ answers_from q.query (parts_of q.plan) (base_in q) r
    by false e = refl
    by true e =
        let first : q.base ≡ first_base (boxes_of q) = fresh_is_first (boxes_of q) q.base sound.size e in
        let is : base_in q ≡ base_of q.query (boxes_of q) q.history
        = ap (λ (o : Base). kept q.query (parts_of q.plan) (boxes_of q) o q.history) first ∙ law.created q.history sound.rows in
        sym (law.answers q.history r sound.rows row (omega (arith, given, few))) ∙ ap (λ (o : Base). answers_from q.query (parts_of q.plan) o r) (sym is)

-- what is kept after one more row
pub kept_after_row : (streams : List Shape) (taken : ℕ) (q : LiveQuery) (r : Arrival) → IsSoundIn streams taken q
    → base_in (with_row r q) ≡ kept_row q.query (parts_of q.plan) (boxes_of q) (base_in q) r
kept_after_row streams taken q r sound = (bases-keep-on q.query (parts_of q.plan) (boxes_of q) q.base sound.size).row q.history r

-- a live query is such a one after one more row
pub sound_after_row : (streams : List Shape) (taken : ℕ) (q : LiveQuery) (r : Arrival) → IsSoundIn streams taken q → KeepsDomains streams r.stream r.values
    → IsSoundIn streams (taken + 1) (with_row r q)
sound_after_row streams taken q r sound keeps = record {
  limits = sound.limits;
  met = sound.met;
  named = sound.named;
  plan = sound.plan;
  rows = rows-more-keep q.query q.history r sound.rows (rows_keep_domains streams q.query r sound.named keeps);
  size = sound.size;
  given = more;
}
  where
    given : q.base.given + length q.history ≤ taken
    given = sound.given

    more : q.base.given + length (q.history ++ r ∷ []) ≤ taken + 1
    more = (let l : length (q.history ++ r ∷ []) ≡ length q.history + 1 = length-append q.history (r ∷ []) in omega (arith, l, given))
