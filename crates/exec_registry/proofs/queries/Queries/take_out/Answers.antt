use Rattle.std.proofs.Common.{◌∙◌, List, length, arith, sym, ap, subst, All}
use Rattle.std.proofs.lemmas.List.Edits.{length-remove}
use Rattle.exec_registry.specs.declared.queries.Runner.{Runner}
use Rattle.exec_registry.specs.Counted.{shown, IsCounted}
use Rattle.exec_registry.proofs.SideBySide.{removed}
use Rattle.exec_registry.proofs.Shown.{sized, size_run, runs_as, shown_remove, all_removed}
use Rattle.exec_registry.proofs.queries.Queries.take_out.Goals as goal

pub remove-runner-requires : goal.remove-runner-requires
remove-runner-requires c =
    let size = size_run c.self.inside.rows c.self.inside.names.keys c.self.inside.runners.items c.args.self.now c.self.invariant.0 c.self.view_is in
    omega (arith, size, c.requires)

pub invariant_of-self : goal.invariant_of-self
invariant_of-self c =
    let size = size_run c.self.inside.rows c.self.inside.names.keys c.self.inside.runners.items c.args.self.now c.self.invariant.0 c.self.view_is in
    let few = length-remove c.self.inside.names.keys c.args.place (omega (arith, size, c.self.invariant.0, c.requires)) in
    let fewer = length-remove c.self.inside.runners.items c.args.place (omega (arith, size, c.requires)) in
    let names = ap (λ xs. length xs) c.shift_remove_index-name.ensures.keys in
    let runners = ap (λ (xs : List Runner). length xs) c.remove-runner.ensures.items in (
      omega (arith, few, fewer, names, runners, c.self.invariant.0),
      subst (λ (rs : List Runner). All (IsCounted c.self.inside.rows) rs) (sym c.remove-runner.ensures.items) (all_removed (IsCounted c.self.inside.rows) c.self.inside.runners.items c.args.place c.self.invariant.1),
    )

pub returns-clause-value : goal.returns-clause-value
returns-clause-value c = λ d.
    c.catch_up.ensures.executor
    ∙ sym (runs_as c.self.inside.rows c.self.inside.names.keys c.self.inside.runners.items c.args.self.now c.args.place c.remove-runner.result d c.self.invariant.0 c.self.view_is c.requires c.remove-runner.ensures.value)

pub returns-clause-left : goal.returns-clause-left
returns-clause-left c =
    removed c.self.inside.names.keys c.shift_remove_index-name.new.self.keys (shown c.self.inside.rows c.self.inside.runners.items) (shown c.self.inside.rows c.remove-runner.new.self.items) c.args.self.now c.args.place
    (sized c.self.inside.rows c.self.inside.names.keys c.self.inside.runners.items c.self.invariant.0) c.self.view_is c.shift_remove_index-name.ensures.keys
    (ap (λ (rs : List Runner). shown c.self.inside.rows rs) c.remove-runner.ensures.items ∙ shown_remove c.self.inside.rows c.self.inside.runners.items c.args.place)
