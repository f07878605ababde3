use Rattle.std.proofs.Common.{◌≡◌, ◌∙◌, ◌+◌, ℕ, List, [], ◌∷◌, ◌++◌, length, ap, sym, subst, arith, All}
use Rattle.std.specs.List.{list_any}
use Rattle.std.specs.Str.{bytes_eq}
use Rattle.std.proofs.lemmas.List.{length-append}
use Rattle.exec_query.specs.Executor.{ExecutorValue, with_given}
use Rattle.exec_registry.specs.declared.queries.Runner.{Runner}
use Rattle.exec_registry.specs.Live.{Live}
use Rattle.exec_registry.specs.Counted.{shown, run_to, IsCounted}
use Rattle.exec_registry.proofs.Shown.{sized, level_size, shown_last, all_last}
use Rattle.exec_registry.proofs.SideBySide.{any_live, added}
use Rattle.exec_registry.proofs.queries.Queries.add_last.Goals as goal

pub put_name-requires-clause-new : goal.put_name-requires-clause-new
put_name-requires-clause-new c =
    ap (list_any (bytes_eq c.args.name)) c.reserve.ensures.keys ∙ any_live c.args.name c.self.inside.names.keys (shown c.self.inside.rows c.self.inside.runners.items) (sized c.self.inside.rows c.self.inside.names.keys c.self.inside.runners.items c.self.invariant.0)
    ∙ ap (λ (live : List Live). list_any (λ (l : Live). bytes_eq l.name c.args.name) live) c.self.view_is ∙ c.requires.new

pub invariant_of-self-in-Ok : goal.invariant_of-self-in-Ok
invariant_of-self-in-Ok c =
    let rs : List Runner = c.level.new.runners.items in
    let r : Runner = record { executor = c.args.executor; before = c.given-before.result } in
    let same = level_size c.self.inside.rows c.self.inside.names.keys c.self.inside.runners.items rs c.self.invariant.0 c.level.ensures.shown in
    let kept = ap (λ xs. length xs) c.reserve.ensures.keys in
    let items : c.push.new.self.items ≡ rs ++ r ∷ [] = c.in-Ok.ensures.items in
    let many = ap (λ (xs : List Runner). length xs) items ∙ length-append rs (r ∷ []) in
    let keys = ap (λ xs. length xs) c.put_name.ensures ∙ length-append c.reserve.new.self.keys (c.args.name ∷ []) in
    let value = c.given-before.ensures.value in
    let few = c.given-before.ensures.few in
    let own : IsCounted 0 r = record { behind = omega (arith, value); few = omega (arith, few) } in (
      omega (arith, many, keys, kept, same),
      subst (λ (n : ℕ). All (IsCounted n) c.push.new.self.items) (sym c.level.ensures.rows)
          (subst (λ (xs : List Runner). All (IsCounted 0) xs) (sym items) (all_last (IsCounted 0) rs r c.level.ensures.counted own)),
    )

pub invariant_of-self-in-Err : goal.invariant_of-self-in-Err
invariant_of-self-in-Err c =
    let rs : List Runner = c.level.new.runners.items in
    let r : Runner = record { executor = c.args.executor; before = c.given-before.result } in
    let same = level_size c.self.inside.rows c.self.inside.names.keys c.self.inside.runners.items rs c.self.invariant.0 c.level.ensures.shown in
    let kept = ap (λ xs. length xs) c.reserve.ensures.keys in
    let items : c.push.new.self.items ≡ rs = c.in-Err.ensures.items in
    let many = ap (λ (xs : List Runner). length xs) items in (
      omega (arith, many, kept, same),
      subst (λ (n : ℕ). All (IsCounted n) c.push.new.self.items) (sym c.level.ensures.rows)
          (subst (λ (xs : List Runner). All (IsCounted 0) xs) (sym items) c.level.ensures.counted),
    )

pub returns-in-Ok-clause-last : goal.returns-in-Ok-clause-last
returns-in-Ok-clause-last c =
    let rs : List Runner = c.level.new.runners.items in
    let r : Runner = record { executor = c.args.executor; before = c.given-before.result } in
    let same = level_size c.self.inside.rows c.self.inside.names.keys c.self.inside.runners.items rs c.self.invariant.0 c.level.ensures.shown in
    let kept = ap (λ xs. length xs) c.reserve.ensures.keys in
    let items : c.push.new.self.items ≡ rs ++ r ∷ [] = c.in-Ok.ensures.items in
    let e : ExecutorValue = c.args.executor in
    let count : c.given-before.result + 0 ≡ e.given = (let v = c.given-before.ensures.value in omega (arith, v)) in
    let run : run_to 0 r ≡ e = ap (λ (k : ℕ). with_given e k e.table.entries) count in
    let before : shown 0 rs ≡ shown c.self.inside.rows c.self.inside.runners.items = c.level.ensures.shown in
    added c.self.inside.names.keys c.reserve.new.self.keys c.put_name.new.names.keys (shown c.self.inside.rows c.self.inside.runners.items) (shown c.level.new.rows c.push.new.self.items) c.args.self.now c.args.name e
    (sized c.self.inside.rows c.self.inside.names.keys c.self.inside.runners.items c.self.invariant.0) c.self.view_is c.reserve.ensures.keys c.put_name.ensures
    (ap (λ (n : ℕ). shown n c.push.new.self.items) c.level.ensures.rows ∙ ap (λ (xs : List Runner). shown 0 xs) items ∙ shown_last 0 rs r ∙ (λ j. before j ++ run j ∷ []))
