use Rattle.std.proofs.Common.{◌≡◌, ◌∙◌, ◌+◌, ◌&&◌, ◌||◌, not, true, refl, ap, sym, subst, arith, slice_get, Some}
use Rattle.std.specs.Option.{IfSome}
use Rattle.std.proofs.lemmas.Option.{slice_get-get_or}
use Rattle.sem_query.specs.declared.plan.PartPlan.{PartPlan}
use Rattle.sem_query.specs.Meaning.{by_column}
use Rattle.exec_part_index.specs.declared.shift.CellAt.{CellAt}
use Rattle.exec_part_index.specs.Shifts.{StandsAt}
use Rattle.exec_query.proofs.PartCells.{taken_step, ready_part, room_now, table_more, work_more}
use Rattle.exec_part_index.proofs.Linked.{passed_by, hit_within}
use Rattle.exec_query.proofs.PassedOver.{HaveDone, nothing_done, same_state, passed_one, passed_over}
use Rattle.exec_query.proofs.LeftCells.{met_done, paid_to, held-parts, reached_done, own-there, few-read}
use Rattle.exec_part_index.proofs.PassedCells.{on-chain, next-of}
use Rattle.exec_part_index.specs.Leaving.{number_of}
use Rattle.exec_pool.specs.Counted.{StepsValue}
use Rattle.sem_laws.proofs.Tests.{and-left, and-right}
use Rattle.exec_query.proofs.OwnCells.{turned, can-count}
use Rattle.exec_query.proofs.route.apply_along.Goals as goal
use Rattle.exec_query.proofs.route.apply_along.Goals.{then-is_inside, else-is_inside}

pub parts-init : goal.parts-init
parts-init g c =
    let o = c.args.led.now in
    let e = c.args.led.now.extent.now in
    let v = by_column o.row.now.items in
    let within = hit_within o.q.now o.parts.now o.pos c.args.led.now.part_index.now c.requires.part_index v 0 c.args.first c.requires.first in
    record {
      done =
          passed_over o.q.now o.parts.now e o.pos c.requires.here o.row.now.items c.args.pool.now c.requires.ready c.args.table.now c.args.steps.now
          c.args.pool.now c.args.table.now c.args.steps.now 0 c.args.first (omega arith) within
          (passed_by o.q.now o.parts.now o.pos c.args.led.now.part_index.now c.requires.part_index v 0 c.args.first c.requires.first)
          (nothing_done o.q.now o.parts.now e o.pos c.requires.here o.row.now.items c.args.pool.now c.requires.ready c.args.table.now c.args.steps.now);
      same = λ h. refl;
      chain = on-chain o.q.now o.parts.now o.pos c.args.led.now.part_index.now c.requires.part_index o.row.now.items 0 c.args.first c.requires.first;
      told = tt;
    }

pub reach-requires-clause-held : goal.reach-requires-clause-held
reach-requires-clause-held g c =
    let o = c.args.led.now in
    held-parts o.q.now o.parts.now c.args.led.now.extent.now o.pos c.requires.here o.row.now.items c.args.pool.now c.requires.ready c.parts.pool c.parts.invariant.done.taken.live

pub apply_to_part-requires-clause-ready : goal.apply_to_part-requires-clause-ready
apply_to_part-requires-clause-ready g c =
    let o = c.args.led.now in
    let e = c.args.led.now.extent.now in
    let m = c.in-Part.met.i in
    let at_m : slice_get o.parts.now m ≡ Some c.get-plan.result.now
    = slice_get-get_or o.parts.now m c.get-plan.result.now c.in-Part.ensures.reached.1.inside ∙ ap (λ (p : PartPlan). Some p) (sym (c.get-plan.ensures c.get-plan.result.now)) in
    let done : HaveDone o.q.now o.parts.now e o.pos o.row.now.items c.args.pool.now c.args.table.now c.args.steps.now m c.parts.pool c.parts.table (paid_to c.parts.steps c.parts.i m)
    = met_done o.q.now o.parts.now e o.pos c.requires.here o.row.now.items c.args.pool.now c.requires.ready c.args.table.now c.args.steps.now c.args.led.now.known c.args.led.now.each c.parts.same (c.args.led.now.known && (c.args.led.now.each || c.parts.same))
    c.requires.known c.requires.each refl c.args.led.now.part_index.now c.parts.i m c.parts.pool c.parts.table c.parts.steps c.parts.invariant.same
    (λ f. sym (ap number_of (c.reach.ensures.none f)) ∙ ap number_of c.in-Part.is) c.in-Part.ensures.reached.0 c.parts.invariant.done in
    ready_part o.q.now o.parts.now e o.pos c.requires.here o.row.now.items c.args.pool.now c.requires.ready m c.get-plan.result.now at_m c.parts.pool done.taken

pub apply_to_part-requires-clause-prepared : goal.apply_to_part-requires-clause-prepared
apply_to_part-requires-clause-prepared g c =
    let o = c.args.led.now in
    let e = c.args.led.now.extent.now in
    let m = c.in-Part.met.i in
    let at_m : slice_get o.parts.now m ≡ Some c.get-plan.result.now
    = slice_get-get_or o.parts.now m c.get-plan.result.now c.in-Part.ensures.reached.1.inside ∙ ap (λ (p : PartPlan). Some p) (sym (c.get-plan.ensures c.get-plan.result.now)) in
    c.part.ensures c.get-plan.result.now at_m

pub apply_to_part-requires-clause-room : goal.apply_to_part-requires-clause-room
apply_to_part-requires-clause-room g c =
    let o = c.args.led.now in
    let e = c.args.led.now.extent.now in
    let m = c.in-Part.met.i in
    let at_m : slice_get o.parts.now m ≡ Some c.get-plan.result.now
    = slice_get-get_or o.parts.now m c.get-plan.result.now c.in-Part.ensures.reached.1.inside ∙ ap (λ (p : PartPlan). Some p) (sym (c.get-plan.ensures c.get-plan.result.now)) in
    let done : HaveDone o.q.now o.parts.now e o.pos o.row.now.items c.args.pool.now c.args.table.now c.args.steps.now m c.parts.pool c.parts.table (paid_to c.parts.steps c.parts.i m)
    = met_done o.q.now o.parts.now e o.pos c.requires.here o.row.now.items c.args.pool.now c.requires.ready c.args.table.now c.args.steps.now c.args.led.now.known c.args.led.now.each c.parts.same (c.args.led.now.known && (c.args.led.now.each || c.parts.same))
    c.requires.known c.requires.each refl c.args.led.now.part_index.now c.parts.i m c.parts.pool c.parts.table c.parts.steps c.parts.invariant.same
    (λ f. sym (ap number_of (c.reach.ensures.none f)) ∙ ap number_of c.in-Part.is) c.in-Part.ensures.reached.0 c.parts.invariant.done in
    room_now o.q.now o.parts.now e o.pos c.requires.here o.row.now.items c.args.pool.now c.requires.ready m c.get-plan.result.now at_m c.parts.pool done.taken
    o.q.now.distinct c.args.table.now c.parts.table c.requires.room done.found

pub apply_to_part-requires-clause-counts : goal.apply_to_part-requires-clause-counts
apply_to_part-requires-clause-counts g c =
    let o = c.args.led.now in
    let e = c.args.led.now.extent.now in
    let m = c.in-Part.met.i in
    let at_m : slice_get o.parts.now m ≡ Some c.get-plan.result.now
    = slice_get-get_or o.parts.now m c.get-plan.result.now c.in-Part.ensures.reached.1.inside ∙ ap (λ (p : PartPlan). Some p) (sym (c.get-plan.ensures c.get-plan.result.now)) in
    let done : HaveDone o.q.now o.parts.now e o.pos o.row.now.items c.args.pool.now c.args.table.now c.args.steps.now m c.parts.pool c.parts.table (paid_to c.parts.steps c.parts.i m)
    = met_done o.q.now o.parts.now e o.pos c.requires.here o.row.now.items c.args.pool.now c.requires.ready c.args.table.now c.args.steps.now c.args.led.now.known c.args.led.now.each c.parts.same (c.args.led.now.known && (c.args.led.now.each || c.parts.same))
    c.requires.known c.requires.each refl c.args.led.now.part_index.now c.parts.i m c.parts.pool c.parts.table c.parts.steps c.parts.invariant.same
    (λ f. sym (ap number_of (c.reach.ensures.none f)) ∙ ap number_of c.in-Part.is) c.in-Part.ensures.reached.0 c.parts.invariant.done in
    can-count o.q.now o.parts.now e o.pos c.requires.here o.row.now.items c.args.pool.now c.requires.ready m c.get-plan.result.now at_m c.parts.pool done.taken c.owns-owns.result c.owns-owns.ensures

pub owns-owns-requires-clause-part : goal.owns-owns-requires-clause-part
owns-owns-requires-clause-part g c =
    let o = c.args.led.now in
    let e = c.args.led.now.extent.now in
    let m = c.in-Part.met.i in
    let at_m : slice_get o.parts.now m ≡ Some c.get-plan.result.now
    = slice_get-get_or o.parts.now m c.get-plan.result.now c.in-Part.ensures.reached.1.inside ∙ ap (λ (p : PartPlan). Some p) (sym (c.get-plan.ensures c.get-plan.result.now)) in
    at_m

pub cell_after-told-requires-clause-part : goal.cell_after-told-requires-clause-part
cell_after-told-requires-clause-part g c =
    let o = c.args.led.now in
    let e = c.args.led.now.extent.now in
    let m = c.in-Part.met.i in
    let at_m : slice_get o.parts.now m ≡ Some c.get-plan.result.now
    = slice_get-get_or o.parts.now m c.get-plan.result.now c.in-Part.ensures.reached.1.inside ∙ ap (λ (p : PartPlan). Some p) (sym (c.get-plan.ensures c.get-plan.result.now)) in
    at_m

pub apply_to_part-requires-clause-admitted : goal.apply_to_part-requires-clause-admitted
apply_to_part-requires-clause-admitted g c =
    let o = c.args.led.now in
    let e = c.args.led.now.extent.now in
    let m = c.in-Part.met.i in
    let at_m : slice_get o.parts.now m ≡ Some c.get-plan.result.now
    = slice_get-get_or o.parts.now m c.get-plan.result.now c.in-Part.ensures.reached.1.inside ∙ ap (λ (p : PartPlan). Some p) (sym (c.get-plan.ensures c.get-plan.result.now)) in
    sym (c.in-Part.ensures.reached.1.placed c.get-plan.result.now at_m).inside ∙ sym c.is_inside.ensures ∙ c.if-is_inside.true

pub apply_to_part-requires-clause-placement : goal.apply_to_part-requires-clause-placement
apply_to_part-requires-clause-placement g c =
    let o = c.args.led.now in
    let e = c.args.led.now.extent.now in
    let m = c.in-Part.met.i in
    let at_m : slice_get o.parts.now m ≡ Some c.get-plan.result.now
    = slice_get-get_or o.parts.now m c.get-plan.result.now c.in-Part.ensures.reached.1.inside ∙ ap (λ (p : PartPlan). Some p) (sym (c.get-plan.ensures c.get-plan.result.now)) in
    (c.in-Part.ensures.reached.1.placed c.get-plan.result.now at_m).cell

pub apply_to_part-requires-clause-own : goal.apply_to_part-requires-clause-own
apply_to_part-requires-clause-own g c =
    let o = c.args.led.now in
    let e = c.args.led.now.extent.now in
    let m = c.in-Part.met.i in
    let at_m : slice_get o.parts.now m ≡ Some c.get-plan.result.now
    = slice_get-get_or o.parts.now m c.get-plan.result.now c.in-Part.ensures.reached.1.inside ∙ ap (λ (p : PartPlan). Some p) (sym (c.get-plan.ensures c.get-plan.result.now)) in
    own-there o.parts.now o.pos o.row.now.items c.parts.pool e m c.get-plan.result.now at_m c.in-Part.met.own c.in-Part.ensures.reached.1.own

pub cell_after-told-requires-clause-placement : goal.cell_after-told-requires-clause-placement
cell_after-told-requires-clause-placement g c =
    let o = c.args.led.now in
    let e = c.args.led.now.extent.now in
    let m = c.in-Part.met.i in
    let at_m : slice_get o.parts.now m ≡ Some c.get-plan.result.now
    = slice_get-get_or o.parts.now m c.get-plan.result.now c.in-Part.ensures.reached.1.inside ∙ ap (λ (p : PartPlan). Some p) (sym (c.get-plan.ensures c.get-plan.result.now)) in
    c.in-Part.ensures.reached.1.placed c.get-plan.result.now at_m

pub parts-preserved-in-Unasked : goal.parts-preserved-in-Unasked
parts-preserved-in-Unasked g c =
    let o = c.args.led.now in
    let passed = c.in-Unasked.ensures.reached.1 in
    let low = passed.behind in
    let r = c.in-Unasked.ensures.reads in
    let w = c.in-Unasked.ensures.writes in
    record {
      done =
          reached_done o.q.now o.parts.now c.args.led.now.extent.now o.pos c.requires.here o.row.now.items c.args.pool.now c.requires.ready c.args.table.now c.args.steps.now c.args.led.now.known c.args.led.now.each c.parts.same (c.args.led.now.known && (c.args.led.now.each || c.parts.same))
          c.requires.known c.requires.each refl c.parts.i c.in-Unasked.next c.parts.pool c.parts.table c.parts.steps c.reach.new.steps c.parts.invariant.same
          (λ f. sym (ap number_of (c.reach.ensures.none f)) ∙ ap number_of c.in-Unasked.is) low passed.there.within (omega (arith, r)) (omega (arith, w)) passed.left c.parts.invariant.done;
      same = c.parts.invariant.same;
      chain = passed.there;
      told = tt;
    }

pub parts-preserved : goal.parts-preserved
parts-preserved g c =
    let o = c.args.led.now in
    let e = c.args.led.now.extent.now in
    let m = c.in-Part.met.i in
    let at_m : slice_get o.parts.now m ≡ Some c.get-plan.result.now
    = slice_get-get_or o.parts.now m c.get-plan.result.now c.in-Part.ensures.reached.1.inside ∙ ap (λ (p : PartPlan). Some p) (sym (c.get-plan.ensures c.get-plan.result.now)) in
    let done : HaveDone o.q.now o.parts.now e o.pos o.row.now.items c.args.pool.now c.args.table.now c.args.steps.now m c.parts.pool c.parts.table (paid_to c.parts.steps c.parts.i m)
    = met_done o.q.now o.parts.now e o.pos c.requires.here o.row.now.items c.args.pool.now c.requires.ready c.args.table.now c.args.steps.now c.args.led.now.known c.args.led.now.each c.parts.same (c.args.led.now.known && (c.args.led.now.each || c.parts.same))
    c.requires.known c.requires.each refl c.args.led.now.part_index.now c.parts.i m c.parts.pool c.parts.table c.parts.steps c.parts.invariant.same
    (λ f. sym (ap number_of (c.reach.ensures.none f)) ∙ ap number_of c.in-Part.is) c.in-Part.ensures.reached.0 c.parts.invariant.done in
    let next = next-of o.q.now o.parts.now o.pos c.args.led.now.part_index.now c.requires.part_index o.row.now.items m c.after-i.result c.in-Part.ensures.reached.1.inside c.in-Part.ensures.reached.0.there c.after-i.ensures.next in
    let within = hit_within o.q.now o.parts.now o.pos c.args.led.now.part_index.now c.requires.part_index (by_column o.row.now.items) (m + 1) c.after-i.result next in
    let more = work_more o.q.now o.parts.now e o.pos c.requires.here o.row.now.items c.args.pool.now c.requires.ready m c.get-plan.result.now at_m c.parts.pool done.taken in
    let low = c.in-Part.ensures.reached.0.behind in
    let came = c.in-Part.ensures.reads in
    let wrote = c.in-Part.ensures.writes in
    let few = few-read c.in-Part.met.own in
    let one : HaveDone o.q.now o.parts.now e o.pos o.row.now.items c.args.pool.now c.args.table.now c.args.steps.now (m + 1) c.if-is_inside.pool c.if-is_inside.table c.if-is_inside.steps
    = elim c.if-is_inside.branch [
      | then-is_inside w ↦ record {
        taken = taken_step o.q.now o.parts.now e o.pos c.requires.here o.row.now.items c.args.pool.now c.requires.ready m c.get-plan.result.now at_m c.parts.pool done.taken w.owns-owns.result w.owns-owns.ensures c.if-is_inside.pool (w.pool-is ∙ w.apply_to_part.ensures.pool);
        found = table_more o.q.now o.parts.now e o.pos c.requires.here o.row.now.items c.args.pool.now c.requires.ready m c.get-plan.result.now at_m c.parts.pool done.taken o.q.now.distinct c.args.table.now c.parts.table c.if-is_inside.table done.found (w.table-is ∙ w.apply_to_part.ensures.table);
        reads = (let a = done.reads in let b = w.apply_to_part.ensures.reads in let s = ap (λ (x : StepsValue). x.reads) w.steps-is in omega (arith, more, a, b, s, came, low));
        writes = (let a = done.writes in let b = w.apply_to_part.ensures.writes in let s = ap (λ (x : StepsValue). x.writes) w.steps-is in omega (arith, a, b, s, wrote));
      }
      | else-is_inside w ↦ (
          let refused = passed_one o.q.now o.parts.now e o.pos c.requires.here o.row.now.items c.args.pool.now c.requires.ready c.args.table.now c.args.steps.now c.parts.pool c.parts.table (paid_to c.parts.steps c.parts.i m) m c.get-plan.result.now at_m
          (sym (c.in-Part.ensures.reached.1.placed c.get-plan.result.now at_m).inside ∙ sym c.is_inside.ensures ∙ w.if-is_inside.false) done in
          same_state o.q.now o.parts.now e o.pos o.row.now.items c.args.pool.now c.args.table.now c.args.steps.now (m + 1) c.parts.pool c.if-is_inside.pool c.parts.table c.if-is_inside.table c.reach.new.steps c.if-is_inside.steps w.pool-is w.table-is w.steps-is record {
            taken = refused.taken;
            found = refused.found;
            reads = (let a = done.reads in omega (arith, more, a, came, low, few));
            writes = (let a = done.writes in omega (arith, a, wrote));
          })
    ] in
    let same : c.if-is_inside.same ≡ true → c.if-is_inside.pool ≡ c.args.pool.now
    = elim c.if-is_inside.branch [
      | then-is_inside w ↦ (λ h.
          let both : (c.parts.same && not w.apply_to_part.result) ≡ true = sym w.same-is ∙ h in
          w.pool-is ∙ w.apply_to_part.ensures.same (turned w.apply_to_part.result (and-right c.parts.same _ both)) ∙ c.parts.invariant.same (and-left _ (not w.apply_to_part.result) both))
      | else-is_inside w ↦ (λ h. w.pool-is ∙ c.parts.invariant.same (sym w.same-is ∙ h))
    ] in
    record {
      done =
          passed_over o.q.now o.parts.now e o.pos c.requires.here o.row.now.items c.args.pool.now c.requires.ready c.args.table.now c.args.steps.now c.if-is_inside.pool c.if-is_inside.table c.if-is_inside.steps (m + 1) c.after-i.result next.behind within
          (passed_by o.q.now o.parts.now o.pos c.args.led.now.part_index.now c.requires.part_index (by_column o.row.now.items) (m + 1) c.after-i.result next) one;
      same = same;
      chain = on-chain o.q.now o.parts.now o.pos c.args.led.now.part_index.now c.requires.part_index o.row.now.items (m + 1) c.after-i.result next;
      told = subst (λ n. IfSome c.cell_after-told.result (λ (cell : CellAt). StandsAt o.q.now o.parts.now o.pos o.row.now.items n cell)) (sym c.after-i.ensures.number) c.cell_after-told.ensures;
    }
