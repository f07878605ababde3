use Rattle.std.proofs.Common.{◌≡◌, ℕ, suc, ◌+◌, ◌-◌, ◌%◌, ◌<◌, ◌≤◌, ◌^◌, ◌∙◌, Bool, true, false, inl, inr, List, [], ap, sym, refl, subst, arith, rules, length, take, slice_index_or, slice_set, All}
use Rattle.std.specs.Int.{bit_at}
use Rattle.std.proofs.lemmas.Bool.{cases_eq, cases_lt}
use Rattle.std.proofs.lemmas.Nat.Bits.{bit_at-zero}
use Rattle.std.proofs.lemmas.List.{length-set, get_or-set_same, get_or-set_other, with_items_is}
use Rattle.sem_query.specs.Meaning.{Arrival}
use Rattle.exec_query.specs.Executor.{ExecutorValue, arrival, waiting_in}
use Rattle.exec_registry.specs.declared.queries.Runner.{Runner}
use Rattle.exec_registry.specs.Live.{Live, live_of, named, plan_reads, plan_writes}
use Rattle.exec_registry.specs.Counted.{shown, run_to, IsCounted}
use Rattle.exec_registry.specs.Registry.{most_reads, most_writes}
use Rattle.exec_registry.specs.RowByQuery.{TookFirst, TookOne}
use Rattle.exec_registry.specs.Waiting.{AreQuiet}
use Rattle.exec_registry.proofs.SideBySide.{under, under_same}
use Rattle.exec_registry.proofs.Shown.{sized, size_run}
use Rattle.exec_registry.proofs.InTurn.{took_none, sum_more}
use Rattle.exec_registry.proofs.BitsLeft.{left_all, left_next, left_between, left_more, none_after}
use Rattle.exec_registry.proofs.Ended.{ended}
use Rattle.exec_registry.proofs.Spared.{step_ready, step_keeps, step_plan, step_took, ahead_waits, sum_front}
use Rattle.exec_registry.proofs.taking.apply_to_each.Goals as goal

pub bits-init : goal.bits-init
bits-init g c =
    let before : List Live = c.args.live.now in
    let rows : ℕ = c.live.inside.rows in
    let items : List Runner = c.as_mut_slice-runners.result.now in
    let value = c.as_mut_slice-runners.ensures.value in
    let many = ap (λ (rs : List Runner). length rs) value in
    let same : under before (shown rows items) ≡ before
    = ap (λ (rs : List Runner). under before (shown rows rs)) value
    ∙ under_same c.live.inside.names.keys (shown rows c.live.inside.runners.items) before (sized rows c.live.inside.names.keys c.live.inside.runners.items c.live.invariant.0) c.live.view_is in
    let ahead : (i : ℕ) (r : Runner) → i < length items → IsCounted rows (slice_index_or items i r)
    = λ i r a. subst (λ (rs : List Runner). IsCounted rows (slice_index_or rs i r)) (sym value) (c.live.invariant.1 i r (omega (arith, many, a))) in
    record {
      size = many ∙ size_run rows c.live.inside.names.keys c.live.inside.runners.items before c.live.invariant.0 c.live.view_is;
      left = left_all c.args.asked.word;
      few = omega arith;
      order = omega arith;
      live = subst (λ (now : List Live). TookFirst (arrival c.args.stream c.args.row.now.items) 0 c.args.pool.now c.args.pool.now before now) (sym same) (took_none _ c.args.pool.now before c.requires.sound);
      ahead = λ i r a b. ahead i r b;
      behind = λ i r a. (let h = (ahead i r a).behind in omega (arith, h));
      only = λ k on. absurd (let z = bit_at-zero k in omega (arith, z, on));
      quiet = λ k r a b off. absurd (omega (arith, a));
      reads = omega arith;
      writes = omega arith;
    }

pub take_next-waits-requires : goal.take_next-waits-requires
take_next-waits-requires g c =
    let before : List Live = c.args.live.now in
    let r : Arrival = arrival c.args.stream c.args.row.now.items in
    let rows : ℕ = c.live.inside.rows in
    let i = c.bits.invariant in
    let place : ℕ = c.lowest_bit-place.result in
    let few = c.lowest_bit-place.ensures.few in
    let next = left_next c.args.asked.word c.bits.left c.bits.next place i.left few c.lowest_bit-place.ensures.own in
    let within : place < length before = c.requires.spared.only place next.1 in
    let between = left_between c.args.asked.word c.bits.left c.bits.next place i.left few c.lowest_bit-place.ensures.below in
    let refused = λ (j : ℕ) (l : Live) (a : c.bits.next ≤ j) (b : j < place). c.requires.spared.refused j l (omega (arith, b, within)) (between j a b) in
    let quiet = λ (j : ℕ) (l : Live) (a : c.bits.next ≤ j) (b : j < place). c.requires.spared.quiet j l (omega (arith, b, within)) (between j a b) in
    let own : Runner = c.index-runners-place.result in
    let size = i.size in
    record {
      counted = i.ahead place own next.0 (omega (arith, within, size));
      ready = (step_ready r c.args.pool.now c.bits.pool before rows c.bits.runners i.size c.requires.few c.requires.keeps c.bits.next place i.live next.0 within refused quiet own);
      keeps = (step_keeps r c.args.pool.now c.bits.pool before rows c.bits.runners i.size c.requires.few c.requires.keeps c.bits.next place i.live next.0 within refused quiet own);
    }

pub bits-preserved : goal.bits-preserved
bits-preserved g c =
    let before : List Live = c.args.live.now in
    let r : Arrival = arrival c.args.stream c.args.row.now.items in
    let rows : ℕ = c.live.inside.rows in
    let i = c.bits.invariant in
    let place : ℕ = c.lowest_bit-place.result in
    let few = c.lowest_bit-place.ensures.few in
    let next = left_next c.args.asked.word c.bits.left c.bits.next place i.left few c.lowest_bit-place.ensures.own in
    let le : c.bits.next ≤ place = next.0 in
    let within : place < length before = c.requires.spared.only place next.1 in
    let between = left_between c.args.asked.word c.bits.left c.bits.next place i.left few c.lowest_bit-place.ensures.below in
    let refused = λ (j : ℕ) (l : Live) (a : c.bits.next ≤ j) (b : j < place). c.requires.spared.refused j l (omega (arith, b, within)) (between j a b) in
    let quiet = λ (j : ℕ) (l : Live) (a : c.bits.next ≤ j) (b : j < place). c.requires.spared.quiet j l (omega (arith, b, within)) (between j a b) in
    let rs : List Runner = c.bits.runners in
    let own : Runner = c.index-runners-place.result in
    let new : Runner = c.take_next-waits.new.runner in
    let size = i.size in
    let here : place < length rs = omega (arith, within, size) in
    let same : new.before ≡ (slice_index_or rs place own).before = c.take_next-waits.ensures.before in
    let one : (name : List ℕ) → TookOne r c.bits.pool c.take_next-waits.new.pool (named name (run_to rows (slice_index_or rs place own))) (named name new.executor)
    = c.take_next-waits.ensures.taken in
    let given : new.executor.given ≡ ((slice_index_or rs place own).before + rows) + 1 = ap (λ (e : ExecutorValue). e.given) (one []).same in
    let d : Live = named [] new.executor in
    let plan = step_plan r c.args.pool.now c.bits.pool before rows rs i.size c.requires.few c.requires.keeps c.bits.next place i.live le within refused quiet own d in
    let plan_is = plan in
    let back : place + 1 ≡ suc place = omega arith in
    let front_reads = sum_front (λ (l : Live). plan_reads l.executor.plan) before c.bits.next (place - c.bits.next) place (omega (arith, le)) (omega (arith, within)) in
    let front_writes = sum_front (λ (l : Live). plan_writes l.executor.plan) before c.bits.next (place - c.bits.next) place (omega (arith, le)) (omega (arith, within)) in
    let more_reads : most_reads (take (place + 1) before) ≡ most_reads (take place before) + plan_reads (slice_index_or before place d).executor.plan
    = ap (λ n. most_reads (take n before)) back ∙ sum_more (λ (l : Live). plan_reads l.executor.plan) before place d within in
    let more_writes : most_writes (take (place + 1) before) ≡ most_writes (take place before) + plan_writes (slice_index_or before place d).executor.plan
    = ap (λ n. most_writes (take n before)) back ∙ sum_more (λ (l : Live). plan_writes l.executor.plan) before place d within in
    let own_reads = ap plan_reads plan_is in
    let own_writes = ap plan_writes plan_is in
    record {
      size = length-set rs place new ∙ i.size;
      left = left_more c.args.asked.word c.bits.left c.bits.next place c.without_bit-left.result i.left few c.lowest_bit-place.ensures.own c.lowest_bit-place.ensures.below c.without_bit-left.ensures.own c.without_bit-left.ensures.others;
      few = omega (arith, few);
      order = omega (arith, within);
      live = step_took r c.args.pool.now c.bits.pool before rows rs i.size c.requires.few c.requires.keeps c.bits.next place i.live le within refused quiet c.take_next-waits.new.pool own new same one;
      ahead = λ j ρ a b.
          (let many = length-set rs place new in
          subst (λ (x : Runner). IsCounted rows x) (sym (get_or-set_other rs place j new ρ (λ e. omega (arith, e, a)))) (i.ahead j ρ (omega (arith, a, le)) (omega (arith, b, many))));
      behind = λ j ρ a.
          (let many = length-set rs place new in
          elim (cases_eq j place) [
            | inl e ↦ subst (λ (x : Runner). x.executor.given ≤ x.before + (rows + 1)) (sym (ap (λ k. slice_index_or (slice_set rs place new) k ρ) e ∙ get_or-set_same rs place new ρ here)) (omega (arith, given, same))
            | inr ne ↦ subst (λ (x : Runner). x.executor.given ≤ x.before + (rows + 1)) (sym (get_or-set_other rs place j new ρ ne)) (i.behind j ρ (omega (arith, a, many)))
          ]);
      only = λ k on. elim (cases_eq k place) [
        | inl e ↦ omega (arith, e)
        | inr ne ↦ (let old = i.only k (sym (c.noted-waiting.ensures.others k ne) ∙ on) in omega (arith, old, le))
      ];
      quiet = λ k ρ a b off.
          (let many = length-set rs place new in
          elim (cases_eq k place) [
            | inl e ↦ subst (λ (x : Runner). waiting_in x.executor ≡ []) (sym (ap (λ j. slice_index_or (slice_set rs place new) j ρ) e ∙ get_or-set_same rs place new ρ here))
                (silent c.take_next-waits.result (c.noted-waiting.ensures.own) (ap (bit_at c.noted-waiting.result) (sym e) ∙ off) c.take_next-waits.ensures.none)
            | inr ne ↦ subst (λ (x : Runner). waiting_in x.executor ≡ []) (sym (get_or-set_other rs place k new ρ ne)) (elim (cases_lt k c.bits.next) [
              | inl h ↦ i.quiet k ρ h (omega (arith, b, many)) (sym (c.noted-waiting.ensures.others k ne) ∙ off)
              | inr h ↦ ahead_waits r c.args.pool.now c.bits.pool before rows rs i.size c.bits.next i.live k ρ h (omega (arith, b, many)) (λ l. quiet k l h (omega (arith, a, ne)))
            ])
          ]);
      reads = (let a = i.reads in let b = c.take_next-waits.ensures.reads in omega (arith, a, b, front_reads, more_reads, own_reads));
      writes = (let a = i.writes in let b = c.take_next-waits.ensures.writes in omega (arith, a, b, front_writes, more_writes, own_writes));
    }
  where
    silent : {P : Type 0} (waits : Bool) {n : ℕ} → (waits ≡ true → n ≡ 1) → n ≡ 0 → (waits ≡ false → P) → P
    silent true on off none = absurd (let y = on refl in omega (arith, y, off))
    silent false on off none = none refl

pub bits-smaller : goal.bits-smaller
bits-smaller g c =
    let next = left_next c.args.asked.word c.bits.left c.bits.next c.lowest_bit-place.result c.bits.invariant.left c.lowest_bit-place.ensures.few c.lowest_bit-place.ensures.own in
    let few = c.lowest_bit-place.ensures.few in
    let le = next.0 in
    omega (arith, le, few)

pub returns-clause-taken : goal.returns-clause-taken
returns-clause-taken g c =
    let i = c.bits.invariant in
    let r : Arrival = arrival c.args.stream c.args.row.now.items in
    let rows : ℕ = c.live.inside.rows in
    let rs : List Runner = c.bits.runners in
    let later : ℕ = (rows + 1) % 2 ^ 64 in
    let none = none_after c.args.asked.word c.bits.left c.bits.next (search rules) i.left c.bits-test.false in
    let kept = with_items_is c.live.inside.runners rs (c.bits.auto.runners ∙ c.as_mut_slice-runners.ensures.len) in
    let h = ended r c.args.pool.now c.args.live.now c.live.inside.names.keys rows c.live.inside.runners.items later c.args.asked.word c.live.invariant.0 c.live.view_is c.requires.few c.requires.keeps c.requires.spared
    c.bits.pool rs c.bits.waiting c.bits.next refl i.size i.live i.order none i.behind i.only i.quiet in
    subst (λ (xs : List Runner). TookFirst r (length c.args.live.now) c.args.pool.now c.bits.pool c.args.live.now (live_of c.live.inside.names.keys (shown later xs))) (sym kept) h.taken

pub returns-clause-waiting : goal.returns-clause-waiting
returns-clause-waiting g c =
    let i = c.bits.invariant in
    let r : Arrival = arrival c.args.stream c.args.row.now.items in
    let rows : ℕ = c.live.inside.rows in
    let rs : List Runner = c.bits.runners in
    let later : ℕ = (rows + 1) % 2 ^ 64 in
    let none = none_after c.args.asked.word c.bits.left c.bits.next (search rules) i.left c.bits-test.false in
    let kept = with_items_is c.live.inside.runners rs (c.bits.auto.runners ∙ c.as_mut_slice-runners.ensures.len) in
    let h = ended r c.args.pool.now c.args.live.now c.live.inside.names.keys rows c.live.inside.runners.items later c.args.asked.word c.live.invariant.0 c.live.view_is c.requires.few c.requires.keeps c.requires.spared
    c.bits.pool rs c.bits.waiting c.bits.next refl i.size i.live i.order none i.behind i.only i.quiet in
    subst (λ (xs : List Runner). AreQuiet c.bits.waiting (live_of c.live.inside.names.keys (shown later xs))) (sym kept) h.quiet

pub invariant_of-live : goal.invariant_of-live
invariant_of-live g c =
    let i = c.bits.invariant in
    let r : Arrival = arrival c.args.stream c.args.row.now.items in
    let rows : ℕ = c.live.inside.rows in
    let rs : List Runner = c.bits.runners in
    let later : ℕ = (rows + 1) % 2 ^ 64 in
    let none = none_after c.args.asked.word c.bits.left c.bits.next (search rules) i.left c.bits-test.false in
    let kept = with_items_is c.live.inside.runners rs (c.bits.auto.runners ∙ c.as_mut_slice-runners.ensures.len) in
    let h = ended r c.args.pool.now c.args.live.now c.live.inside.names.keys rows c.live.inside.runners.items later c.args.asked.word c.live.invariant.0 c.live.view_is c.requires.few c.requires.keeps c.requires.spared
    c.bits.pool rs c.bits.waiting c.bits.next refl i.size i.live i.order none i.behind i.only i.quiet in
    (h.sized ∙ ap (λ (xs : List Runner). length xs) (sym kept), subst (λ (xs : List Runner). All (IsCounted later) xs) (sym kept) h.counted)
