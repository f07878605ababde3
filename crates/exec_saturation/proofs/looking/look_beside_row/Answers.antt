use Rattle.std.proofs.Common.{◌≡◌, ◌==◌, ◌∙◌, ◌*◌, ◌-◌, ◌/◌, ℕ, ℤ, Bool, true, false, List, length, refl, sym, ap, subst, arith}
use Rattle.sem_query.specs.Combinations.{Reading}
use Rattle.sem_query.specs.Query.{QueryValue}
use Rattle.sem_query.specs.declared.plan.Plan.{Plan}
use Rattle.sem_query.specs.declared.plan.Plan.TheVariants as plans
use Rattle.exec_saturation.specs.declared.saturation.Cursor.{Cursor}
use Rattle.exec_saturation.specs.declared.saturation.Saturation.{Saturation}
use Rattle.std.specs.List.{list_any}
use Rattle.exec_answer_table.specs.Entries.{tuples_of}
use Rattle.sem_query.specs.Combinations.{read_from}
use Rattle.sem_query.specs.Numbers.{parts_of}
use Rattle.exec_pool.specs.Extents.{cells_of}
use Rattle.exec_saturation.specs.declared.saturation.Saturation.TheVariants as saturation
use Rattle.exec_saturation.specs.Known.{AreSaturated}
use Rattle.exec_saturation.specs.Looking.{CanLook, CanLookAt, HasMoved, HasLookedBeside, work_of}
use Rattle.exec_saturation.proofs.looking.look_beside_row.Goals as goal

pub look_on-requires-clause-look : goal.look_on-requires-clause-look
look_on-requires-clause-look g c =
    let q = c.args.planned.now.query in
    let two : length q.from ≡ 2 = (let n = ap length c.from.ensures.value in let t = c.if-from-ne2.false in omega (arith, n, t)) in
    subst (λ (m : ℕ). CanLook q c.in-Parts.parts c.args.planned.now.prepared c.args.pool.now c.args.planned.now.extent c.args.table.now.width m) (sym (ap work_of c.in-Parts.is))
    (subst (λ p. CanLookAt q p c.args.planned.now.prepared c.args.pool.now c.args.planned.now.extent c.args.table.now.width) c.in-Parts.is c.requires.look
    (sym c.distinct.ensures ∙ c.if-not-distinct.false) two)

pub look_on-requires-clause-known : goal.look_on-requires-clause-known
look_on-requires-clause-known g c =
    subst (λ p. AreSaturated (saturation.Before c.args.cursor) c.args.planned.now.query (parts_of p) (read_from (cells_of c.args.pool.now c.args.planned.now.extent)) (tuples_of c.args.table.now.entries)) c.in-Parts.is
    (c.requires.known (sym c.distinct.ensures ∙ c.if-not-distinct.false))

pub returns-in-Parts-clause-known : goal.returns-in-Parts-clause-known
returns-in-Parts-clause-known g c = λ d.
    subst (λ p. AreSaturated c.look_on.result c.args.planned.now.query (parts_of p) (read_from (cells_of c.args.pool.now c.args.planned.now.extent)) (tuples_of c.args.table.now.entries)) (sym c.in-Parts.is)
    c.look_on.ensures.known

pub returns-in-Parts-clause-outside : goal.returns-in-Parts-clause-outside
returns-in-Parts-clause-outside g c = λ no.
    absurd (let named : list_any (λ s. c.args.stream == s) c.args.planned.now.query.from ≡ true = sym (ap (list_any (λ s. c.args.stream == s)) c.from-2.ensures.value) ∙ sym c.is_named.ensures ∙ c.if-not-is_named.false in
    let e : true ≡ false = sym named ∙ no in cc)

-- a row of another stream leaves the cursor
stays : (q : QueryValue) (p : Plan) (read : Reading) (table : List (List ℤ)) (named : Bool) (from : Cursor) → named ≡ false → HasLookedBeside q p read table named from (saturation.Before from)
stays q plans.Filter read table named from e = tt
stays q (plans.Parts parts numbers) read table true from e = absurd cc
stays q (plans.Parts parts numbers) read table false from e = refl

pub returns-then-not-is_named-clause-moves : goal.returns-then-not-is_named-clause-moves
returns-then-not-is_named-clause-moves g c d two =
    let named : list_any (λ s. c.args.stream == s) c.args.planned.now.query.from ≡ false = sym (ap (list_any (λ s. c.args.stream == s)) c.from-2.ensures.value) ∙ sym c.is_named.ensures ∙ c.if-not-is_named.true in
    stays c.args.planned.now.query c.args.planned.now.plan (read_from (cells_of c.args.pool.now c.args.planned.now.extent)) (tuples_of c.args.table.now.entries) _ c.args.cursor named

-- beside a row of a stream of FROM
named-so : (q : QueryValue) (p : Plan) (read : Reading) (table : List (List ℤ)) (named : Bool) (from : Cursor) (now : Saturation) → named ≡ true → HasLookedBeside q p read table true from now → HasLookedBeside q p read table named from now
named-so q p read table named from now e h = subst (λ (b : Bool). HasLookedBeside q p read table b from now) (sym e) h

pub returns-in-Parts-clause-moves : goal.returns-in-Parts-clause-moves
returns-in-Parts-clause-moves g c d two =
    let named : list_any (λ s. c.args.stream == s) c.args.planned.now.query.from ≡ true = sym (ap (list_any (λ s. c.args.stream == s)) c.from-2.ensures.value) ∙ sym c.is_named.ensures ∙ c.if-not-is_named.false in
    let q = c.args.planned.now.query in
    let read = read_from (cells_of c.args.pool.now c.args.planned.now.extent) in
    let table = tuples_of c.args.table.now.entries in
    let work = c.in-Parts.numbers.work in
    let most : HasMoved c.args.cursor (2 * c.from-work.result - c.from-work.result / 2) work c.look_on.result
    = subst (λ (m : ℕ). HasMoved c.args.cursor (2 * c.from-work.result - c.from-work.result / 2) m c.look_on.result) (ap work_of c.in-Parts.is) c.look_on.ensures.moves in
    let moved = subst (λ (w : ℕ). HasMoved c.args.cursor (2 * w - w / 2) work c.look_on.result) c.from-work.ensures most in
    named-so q c.args.planned.now.plan read table _ c.args.cursor c.look_on.result named
    (subst (λ (p : Plan). HasLookedBeside q p read table true c.args.cursor c.look_on.result) (sym c.in-Parts.is) (moved, c.look_on.ensures.open))
