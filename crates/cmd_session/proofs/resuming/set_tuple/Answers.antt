use Rattle.std.proofs.Common.{length, rules, sym, ap, ◌∙◌, refl}
use Rattle.sem_query.specs.Numbers.{parts_of}
use Rattle.exec_query.specs.Loading.{loaded_tuple}
use Rattle.exec_query.specs.Executor.{ExecutorValue}
use Rattle.cmd_session.proofs.Loading.{to_set, sets_loaded, tuple_refused, tuple_asks, wrong_width, width_is}
use Rattle.cmd_session.proofs.resuming.set_tuple.Goals as goal

pub returns-in-Err-clause-sets : goal.returns-in-Err-clause-sets
returns-in-Err-clause-sets c = λ s h. (tuple_refused c.args.began c.args.name.now c.args.registry.now s c.args.values.now.items c.in-Err.word h (sym c.place_of.ensures.place ∙ c.in-Err.is), refl)

pub returns-then-as_slice-select-clause-sets : goal.returns-then-as_slice-select-clause-sets
returns-then-as_slice-select-clause-sets c = λ s h.
    let t = to_set c.args.began c.args.name.now c.args.registry.now s c.in-Ok.place h (sym c.place_of.ensures.place ∙ c.in-Ok.is) in
    let width = width_is c.args.registry.now.pool c.args.registry.now.live s.queries c.in-Ok.place t.found.live c.query.result.now c.select.result.now h.queries t.found.there c.in-Ok.ensures.there (λ d. c.query.ensures.value ∙ sym (ap (λ (e : ExecutorValue). e.query) (c.executor.ensures.value d))) c.select.ensures.value in
    (wrong_width c.args.name.now c.in-Ok.place s c.args.values.now.items (length c.select.result.now) t width (search rules), refl)

pub returns-clause-sets : goal.returns-clause-sets
returns-clause-sets c = λ s h.
    let t = to_set c.args.began c.args.name.now c.args.registry.now s c.in-Ok.place h (sym c.place_of.ensures.place ∙ c.in-Ok.is) in
    let width = width_is c.args.registry.now.pool c.args.registry.now.live s.queries c.in-Ok.place t.found.live c.query.result.now c.select.result.now h.queries t.found.there c.in-Ok.ensures.there (λ d. c.query.ensures.value ∙ sym (ap (λ (e : ExecutorValue). e.query) (c.executor.ensures.value d))) c.select.ensures.value in
    sets_loaded c.taken_or_value.result c.load_tuple.result c.args.name.now (λ q. loaded_tuple q.query (parts_of q.plan) c.args.values.now.items q.base) _ c.in-Ok.place s c.args.registry.now c.load_tuple.new.self t
    (tuple_asks c.args.name.now c.in-Ok.place s c.args.values.now.items (length c.select.result.now) t width (search rules)) c.taken_or_value.ensures h.queries c.executor.ensures.sound c.load_tuple.ensures.loads
