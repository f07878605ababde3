use Rattle.std.proofs.Common.{rules, w64, sym, ap, ◌∙◌, refl}
use Rattle.std.proofs.lemmas.Int.{to_z-of_z}
use Rattle.exec_query.specs.Loading.{loaded_given}
use Rattle.cmd_session.specs.Requests.{natural_upto}
use Rattle.cmd_session.proofs.Loading.{to_set, sets_loaded, given_refused, given_asks}
use Rattle.cmd_session.proofs.resuming.set_given.Goals as goal

pub returns-in-Err-clause-sets : goal.returns-in-Err-clause-sets
returns-in-Err-clause-sets c = λ s h e. (given_refused c.args.began c.args.name.now c.args.registry.now s c.args.rows c.in-Err.word h (sym c.place_of.ensures.place ∙ c.in-Err.is), refl)

pub returns-in-Some-clause-sets : goal.returns-in-Some-clause-sets
returns-in-Some-clause-sets c = λ s h e.
    let t = to_set c.args.began c.args.name.now c.args.registry.now s c.in-Ok.place h (sym c.place_of.ensures.place ∙ c.in-Ok.is) in
    sets_loaded c.taken_or_value.result c.load_given.result c.args.name.now (λ q. loaded_given c.in-Some.n q.base) _ c.in-Ok.place s c.args.registry.now c.load_given.new.self t
    (given_asks c.args.name.now c.in-Ok.place s c.args.rows c.args.taken _ t e (ap (natural_upto c.args.taken) (sym (to_z-of_z w64 c.args.rows (search rules))) ∙ sym c.natural_upto.ensures ∙ c.in-Some.is)) c.taken_or_value.ensures h.queries c.executor.ensures.sound c.load_given.ensures.loads

pub returns-in-None-clause-sets : goal.returns-in-None-clause-sets
returns-in-None-clause-sets c = λ s h e.
    let t = to_set c.args.began c.args.name.now c.args.registry.now s c.in-Ok.place h (sym c.place_of.ensures.place ∙ c.in-Ok.is) in
    (given_asks c.args.name.now c.in-Ok.place s c.args.rows c.args.taken _ t e (ap (natural_upto c.args.taken) (sym (to_z-of_z w64 c.args.rows (search rules))) ∙ sym c.natural_upto.ensures ∙ c.in-None.is), refl)
