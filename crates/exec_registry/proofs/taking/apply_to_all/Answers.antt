use Rattle.std.proofs.Common.{◌≡◌, ℕ, ◌+◌, ◌%◌, ◌^◌, ◌<◌, ◌≤◌, ◌∙◌, cond, Bool, true, false, List, [], ap, sym, refl, rules, subst, arith, length, slice_index_or, slice_set, All}
use Rattle.std.specs.Int.{bit_at}
use Rattle.std.specs.List.{sum_by}
use Rattle.std.specs.Vec.{with_items}
use Rattle.std.proofs.lemmas.List.{length-set, with_items_is}
use Rattle.std.proofs.lemmas.Nat.Bits.{bit_at-zero}
use Rattle.sem_query.specs.declared.plan.Plan.{Plan}
use Rattle.sem_query.specs.Meaning.{Arrival}
use Rattle.exec_query.specs.Executor.{arrival}
use Rattle.exec_registry.specs.declared.queries.Runner.{Runner}
use Rattle.exec_registry.specs.Live.{Live, live_of, named, plan_reads, plan_writes}
use Rattle.exec_registry.specs.Counted.{shown, IsCounted}
use Rattle.exec_registry.proofs.BitsLeft.{IsOnlyBit}
use Rattle.exec_registry.proofs.Shown.{size_run}
use Rattle.exec_registry.proofs.Ended.{HasTaken, only_left, only_counted, only_ready, only_keeps, only_plan, none_took, only_took, part_of_sum}
use Rattle.exec_registry.proofs.taking.apply_to_all.Given.{Over}
use Rattle.exec_registry.proofs.taking.apply_to_all.Goals.{After-as_mut_slice-runners, After-take_next-waits, then-waits, else-waits}
use Rattle.exec_registry.proofs.taking.apply_to_all.Goals as goal

-- the word has one bit, and what runs the queries stands in a slice
record IsAlone (word place : ℕ) (names : List (List ℕ)) (rows : ℕ) (items : List Runner) (live : List Live) : Type 0 where
  only : IsOnlyBit word place
  same : length names ≡ length items
  view : live_of names (shown rows items) ≡ live
  counted : All (IsCounted rows) items

alone : (g : Over) (c : After-as_mut_slice-runners g) → IsAlone c.args.asked.word c.lowest_bit-place.result c.live.inside.names.keys c.live.inside.rows c.as_mut_slice-runners.result.now c.args.live.now
alone g c =
    let value = c.as_mut_slice-runners.ensures.value in
    record {
      only = only_left c.args.asked.word c.without_bit.result c.lowest_bit-place.result (search rules) c.lowest_bit-place.ensures.few c.lowest_bit-place.ensures.own c.lowest_bit-place.ensures.below
          c.without_bit.ensures.own c.without_bit.ensures.others c.if-without_bit-ne0.false;
      same = c.live.invariant.0 ∙ sym (ap (λ (rs : List Runner). length rs) value);
      view = ap (λ (rs : List Runner). live_of c.live.inside.names.keys (shown c.live.inside.rows rs)) value ∙ c.live.view_is;
      counted = subst (λ (rs : List Runner). All (IsCounted c.live.inside.rows) rs) (sym value) c.live.invariant.1;
    }

-- the bits that are kept are those of the word
kept_bits : (waits : Bool) (result word : ℕ) → result ≡ cond waits word 0 → (k : ℕ) → bit_at result k ≡ 1 → bit_at word k ≡ 1
kept_bits true result word is k on = ap (λ (w : ℕ). bit_at w k) (sym is) ∙ on
kept_bits false result word is k on = absurd (let z = bit_at-zero k in let e = ap (λ (w : ℕ). bit_at w k) is in omega (arith, z, e, on))

-- where a bit of the word is not kept, nothing waits
kept_none : (waits : Bool) (result word place : ℕ) → result ≡ cond waits word 0 → bit_at word place ≡ 1 → bit_at result place ≡ 0 → waits ≡ false
kept_none true result word place is on off = absurd (let e = ap (λ (w : ℕ). bit_at w place) is in omega (arith, e, on, off))
kept_none false result word place is on off = refl

-- the only one took the row, and it was counted for all others
took : (g : Over) (c : After-take_next-waits g)
    → IsAlone c.args.asked.word c.lowest_bit-place.result c.live.inside.names.keys c.live.inside.rows c.as_mut_slice-runners.result.now c.args.live.now
    → (waiting : ℕ) → waiting ≡ cond c.take_next-waits.result c.args.asked.word 0
    → HasTaken (arrival c.args.stream c.args.row.now.items) c.args.pool.now c.take_next-waits.new.pool c.args.live.now c.live.inside.names.keys ((c.live.inside.rows + 1) % 2 ^ 64)
    (with_items c.live.inside.runners (slice_set c.as_mut_slice-runners.result.now c.lowest_bit-place.result c.take_next-waits.new.runner)).items waiting
took g c h waiting is =
    let r : Arrival = arrival c.args.stream c.args.row.now.items in
    let rows : ℕ = c.live.inside.rows in
    let later : ℕ = (rows + 1) % 2 ^ 64 in
    let items : List Runner = c.as_mut_slice-runners.result.now in
    let place : ℕ = c.lowest_bit-place.result in
    let new : Runner = c.take_next-waits.new.runner in
    let kept = with_items_is c.live.inside.runners (slice_set items place new) (length-set items place new ∙ c.as_mut_slice-runners.ensures.len) in
    subst (λ (xs : List Runner). HasTaken r c.args.pool.now c.take_next-waits.new.pool c.args.live.now c.live.inside.names.keys later xs waiting) (sym kept)
    (only_took r c.args.pool.now c.args.live.now c.live.inside.names.keys rows items later c.args.asked.word h.same h.view c.requires.few c.requires.keeps c.requires.spared c.requires.sound h.counted place h.only
    c.take_next-waits.new.pool c.index-runners-place.result new waiting refl c.take_next-waits.ensures.before c.take_next-waits.ensures.taken
    (kept_bits c.take_next-waits.result waiting c.args.asked.word is)
    (λ off. c.take_next-waits.ensures.none (kept_none c.take_next-waits.result waiting c.args.asked.word place is h.only.own off)))

-- what its plan takes is no more than what the plans of all do
no_more : (g : Over) (c : After-take_next-waits g)
    → IsAlone c.args.asked.word c.lowest_bit-place.result c.live.inside.names.keys c.live.inside.rows c.as_mut_slice-runners.result.now c.args.live.now
    → (f : Plan → ℕ) → f (slice_index_or c.as_mut_slice-runners.result.now c.lowest_bit-place.result c.index-runners-place.result).executor.plan ≤ sum_by (λ (l : Live). f l.executor.plan) c.args.live.now
no_more g c h f =
    let r : Arrival = arrival c.args.stream c.args.row.now.items in
    let rows : ℕ = c.live.inside.rows in
    let items : List Runner = c.as_mut_slice-runners.result.now in
    let place : ℕ = c.lowest_bit-place.result in
    let own : Runner = c.index-runners-place.result in
    let d : Live = named [] own.executor in
    let here : place < length c.args.live.now = c.requires.spared.only place h.only.own in
    let plan = ap f (only_plan r c.args.pool.now c.args.live.now c.live.inside.names.keys rows items ((rows + 1) % 2 ^ 64) c.args.asked.word h.same h.view c.requires.few c.requires.keeps c.requires.spared c.requires.sound h.counted place h.only own d) in
    let part = part_of_sum (λ (l : Live). f l.executor.plan) c.args.live.now place d here in
    omega (arith, plan, part)

pub bounds-runners-place : goal.bounds-runners-place
bounds-runners-place g c =
    let here = c.requires.spared.only c.lowest_bit-place.result c.lowest_bit-place.ensures.own in
    let many = ap (λ (rs : List Runner). length rs) c.as_mut_slice-runners.ensures.value in
    let size = size_run c.live.inside.rows c.live.inside.names.keys c.live.inside.runners.items c.args.live.now c.live.invariant.0 c.live.view_is in
    omega (arith, here, many, size)

pub take_next-waits-requires-clause-counted : goal.take_next-waits-requires-clause-counted
take_next-waits-requires-clause-counted g c =
    let h = alone g (goal.at.take_next-waits-requires-clause-counted g c).After-as_mut_slice-runners in
    let rows : ℕ = c.live.inside.rows in
    only_counted (arrival c.args.stream c.args.row.now.items) c.args.pool.now c.args.live.now c.live.inside.names.keys rows c.as_mut_slice-runners.result.now ((rows + 1) % 2 ^ 64) c.args.asked.word
    h.same h.view c.requires.few c.requires.keeps c.requires.spared c.requires.sound h.counted c.lowest_bit-place.result h.only c.index-runners-place.result

pub take_next-waits-requires-clause-ready : goal.take_next-waits-requires-clause-ready
take_next-waits-requires-clause-ready g c =
    let h = alone g (goal.at.take_next-waits-requires-clause-ready g c).After-as_mut_slice-runners in
    let rows : ℕ = c.live.inside.rows in
    only_ready (arrival c.args.stream c.args.row.now.items) c.args.pool.now c.args.live.now c.live.inside.names.keys rows c.as_mut_slice-runners.result.now ((rows + 1) % 2 ^ 64) c.args.asked.word
    h.same h.view c.requires.few c.requires.keeps c.requires.spared c.requires.sound h.counted c.lowest_bit-place.result h.only c.index-runners-place.result

pub take_next-waits-requires-clause-keeps : goal.take_next-waits-requires-clause-keeps
take_next-waits-requires-clause-keeps g c =
    let h = alone g (goal.at.take_next-waits-requires-clause-keeps g c).After-as_mut_slice-runners in
    let rows : ℕ = c.live.inside.rows in
    only_keeps (arrival c.args.stream c.args.row.now.items) c.args.pool.now c.args.live.now c.live.inside.names.keys rows c.as_mut_slice-runners.result.now ((rows + 1) % 2 ^ 64) c.args.asked.word
    h.same h.view c.requires.few c.requires.keeps c.requires.spared c.requires.sound h.counted c.lowest_bit-place.result h.only c.index-runners-place.result

pub returns-clause-taken : goal.returns-clause-taken
returns-clause-taken g c =
    let at = goal.at.returns-clause-taken g c in
    (took g at.After-take_next-waits (alone g at.After-as_mut_slice-runners) c.if-waits.result (elim c.if-waits.branch [
      | then-waits w ↦ w.result-is ∙ sym (ap (λ (b : Bool). cond b c.args.asked.word 0) w.if-waits.true)
      | else-waits w ↦ w.result-is ∙ sym (ap (λ (b : Bool). cond b c.args.asked.word 0) w.if-waits.false)
    ])).taken

pub returns-clause-waiting : goal.returns-clause-waiting
returns-clause-waiting g c =
    let at = goal.at.returns-clause-waiting g c in
    (took g at.After-take_next-waits (alone g at.After-as_mut_slice-runners) c.if-waits.result (elim c.if-waits.branch [
      | then-waits w ↦ w.result-is ∙ sym (ap (λ (b : Bool). cond b c.args.asked.word 0) w.if-waits.true)
      | else-waits w ↦ w.result-is ∙ sym (ap (λ (b : Bool). cond b c.args.asked.word 0) w.if-waits.false)
    ])).quiet

pub invariant_of-live-2 : goal.invariant_of-live-2
invariant_of-live-2 g c =
    let at = goal.at.invariant_of-live-2 g c in
    let h = took g at.After-take_next-waits (alone g at.After-as_mut_slice-runners) c.if-waits.result (elim c.if-waits.branch [
      | then-waits w ↦ w.result-is ∙ sym (ap (λ (b : Bool). cond b c.args.asked.word 0) w.if-waits.true)
      | else-waits w ↦ w.result-is ∙ sym (ap (λ (b : Bool). cond b c.args.asked.word 0) w.if-waits.false)
    ]) in
    (h.sized, h.counted)

pub returns-clause-reads : goal.returns-clause-reads
returns-clause-reads g c =
    let at = goal.at.returns-clause-reads g c in
    let part = no_more g at.After-take_next-waits (alone g at.After-as_mut_slice-runners) plan_reads in
    let some = c.take_next-waits.ensures.reads in
    omega (arith, part, some)

pub returns-clause-writes : goal.returns-clause-writes
returns-clause-writes g c =
    let at = goal.at.returns-clause-writes g c in
    let part = no_more g at.After-take_next-waits (alone g at.After-as_mut_slice-runners) plan_writes in
    let some = c.take_next-waits.ensures.writes in
    omega (arith, part, some)

pub returns-then-asked-eq0-clause-taken : goal.returns-then-asked-eq0-clause-taken
returns-then-asked-eq0-clause-taken g c =
    (none_took (arrival c.args.stream c.args.row.now.items) c.args.pool.now c.args.live.now c.live.inside.names.keys c.live.inside.rows c.live.inside.runners.items ((c.live.inside.rows + 1) % 2 ^ 64) c.args.asked.word c.live.invariant.0 c.live.view_is c.requires.few c.requires.keeps c.requires.spared c.requires.sound c.live.invariant.1
    refl c.if-asked-eq0.true).taken

pub returns-then-asked-eq0-clause-waiting : goal.returns-then-asked-eq0-clause-waiting
returns-then-asked-eq0-clause-waiting g c =
    (none_took (arrival c.args.stream c.args.row.now.items) c.args.pool.now c.args.live.now c.live.inside.names.keys c.live.inside.rows c.live.inside.runners.items ((c.live.inside.rows + 1) % 2 ^ 64) c.args.asked.word c.live.invariant.0 c.live.view_is c.requires.few c.requires.keeps c.requires.spared c.requires.sound c.live.invariant.1
    refl c.if-asked-eq0.true).quiet

pub invariant_of-live : goal.invariant_of-live
invariant_of-live g c =
    let h = none_took (arrival c.args.stream c.args.row.now.items) c.args.pool.now c.args.live.now c.live.inside.names.keys c.live.inside.rows c.live.inside.runners.items ((c.live.inside.rows + 1) % 2 ^ 64) c.args.asked.word c.live.invariant.0 c.live.view_is c.requires.few c.requires.keeps c.requires.spared c.requires.sound c.live.invariant.1
    refl c.if-asked-eq0.true in
    (h.sized, h.counted)
