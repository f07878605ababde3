use Rattle.std.proofs.Common.{rules, w64, sym, ap, ◌∙◌, refl, subst}
use Rattle.std.proofs.lemmas.Int.{to_z-of_z}
use Rattle.exec_registry.specs.Live.{boxes_of}
use Rattle.exec_registry.specs.Loaded.{LoadsAt}
use Rattle.exec_query.specs.Loading.{loaded_cell}
use Rattle.cmd_session.specs.Requests.{natural}
use Rattle.cmd_session.proofs.Loading.{to_set, sets_loaded, cell_refused, cell_asks, no_cell, cells_are}
use Rattle.cmd_session.proofs.resuming.set_cell.Goals as goal

pub returns-in-Err-clause-sets : goal.returns-in-Err-clause-sets
returns-in-Err-clause-sets g c = λ s h. (cell_refused c.args.began c.args.name.now c.args.registry.now s c.args.index c.args.content c.in-Err.word h (sym c.place_of.ensures.place ∙ c.in-Err.is), refl)

pub returns-in-Some-clause-sets : goal.returns-in-Some-clause-sets
returns-in-Some-clause-sets g c = λ s h.
    let t = to_set c.args.began c.args.name.now c.args.registry.now s c.in-Ok.place h (sym c.place_of.ensures.place ∙ c.in-Ok.is) in
    sets_loaded c.taken_or_value.result c.load_cell.result c.args.name.now (λ q. loaded_cell (boxes_of q) c.in-Some.i c.args.content q.base) _ c.in-Ok.place s c.args.registry.now c.load_cell.new.self t
    (cell_asks c.args.name.now c.in-Ok.place s c.args.index c.args.content _ t (ap natural (sym (to_z-of_z w64 c.args.index (search rules))) ∙ c.in-Some.ensures)) c.taken_or_value.ensures h.queries c.executor.ensures.sound
    (subst (λ v. LoadsAt c.load_cell.result c.in-Ok.place (λ q. loaded_cell (boxes_of q) c.in-Some.i v q.base) c.args.registry.now c.load_cell.new.self) (to_z-of_z w64 c.args.content (search rules)) c.load_cell.ensures.loads)

pub returns-in-None-clause-sets : goal.returns-in-None-clause-sets
returns-in-None-clause-sets g c = λ s h.
    let t = to_set c.args.began c.args.name.now c.args.registry.now s c.in-Ok.place h (sym c.place_of.ensures.place ∙ c.in-Ok.is) in
    let size = cells_are c.args.registry.now.pool c.args.registry.now.live s.queries c.in-Ok.place t.found.live c.plan.result.now c.announced_by_plan-cells.result.cells h.queries t.found.there c.in-Ok.ensures.there c.plan.ensures.value c.plan.ensures.plan c.announced_by_plan-cells.ensures.cells in
    (no_cell c.args.name.now c.in-Ok.place s c.args.index c.args.content c.announced_by_plan-cells.result.cells _ t refl size (λ n e. c.in-None.ensures n (ap natural (to_z-of_z w64 c.args.index (search rules)) ∙ e)), refl)
