use Rattle.std.proofs.Common.{◌≡◌, ℕ, ◌≤◌, [], ap, ◌∙◌, subst, sym, IsTrue, Some, arith}
use Rattle.std.specs.List.{list_any, position, remove}
use Rattle.std.specs.Str.{bytes_eq}
use Rattle.exec_query.specs.Executor.{waiting_in}
use Rattle.exec_registry.specs.Live.{Live}
use Rattle.exec_registry.specs.Registry.{KeepQueries, RegistryValue, StandsFor, IsQuiet, GivenUpto}
use Rattle.exec_registry.proofs.Quiet.{quiet_all}
use Rattle.exec_registry.proofs.Verdicts.{true_or_false}
use Rattle.exec_registry.proofs.Whole.{dropped_stands, dropped_keep, dropped_all, found_place, not_found}
use Rattle.exec_registry.proofs.registry.Registry.drop_query.Goals as goal

pub returns-in-Some-clause-stands : goal.returns-in-Some-clause-stands
returns-in-Some-clause-stands c = λ queries all.
    dropped_stands c.args.name.now c.in-Some.place c.self.inside.pool c.drop_at.new.pool c.self.inside.live c.drop_at.new.live queries
    (sym c.in-Some.ensures.place) c.drop_at.ensures (subst (λ (v : RegistryValue). StandsFor v queries) (sym c.self.view_is) all)

pub returns-in-Some-clause-quiet : goal.returns-in-Some-clause-quiet
returns-in-Some-clause-quiet c = λ quiet.
    let found = found_place c.args.name.now c.self.inside.live c.in-Some.place (sym c.in-Some.ensures.place) in
    dropped_all (λ (l : Live). waiting_in l.executor ≡ []) c.in-Some.place c.self.inside.pool c.drop_at.new.pool c.self.inside.live c.drop_at.new.live found.0 c.drop_at.ensures
    (subst (λ (v : RegistryValue). IsQuiet v) (sym c.self.view_is) quiet)

pub returns-in-Some-clause-given : goal.returns-in-Some-clause-given
returns-in-Some-clause-given c = λ n given.
    let found = found_place c.args.name.now c.self.inside.live c.in-Some.place (sym c.in-Some.ensures.place) in
    dropped_all (λ (l : Live). l.executor.given ≤ n) c.in-Some.place c.self.inside.pool c.drop_at.new.pool c.self.inside.live c.drop_at.new.live found.0 c.drop_at.ensures
    (subst (λ (v : RegistryValue). GivenUpto n v) (sym c.self.view_is) given)

pub returns-in-None-clause-stands : goal.returns-in-None-clause-stands
returns-in-None-clause-stands c = λ queries all.
    let none = not_found c.args.name.now c.self.inside.live (sym c.in-None.ensures.place) in
    absurd (true_or_false (subst (λ (v : RegistryValue). IsTrue (list_any (λ (l : Live). bytes_eq l.name c.args.name.now) v.live)) (sym c.self.view_is) c.requires) none)

pub returns-in-Some-clause-queries : goal.returns-in-Some-clause-queries
returns-in-Some-clause-queries c =
    let found = found_place c.args.name.now c.self.inside.live c.in-Some.place (sym c.in-Some.ensures.place) in
    subst (λ (v : RegistryValue). KeepQueries v.live c.drop_at.new.live) c.self.view_is
    (dropped_keep c.in-Some.place c.self.inside.pool c.drop_at.new.pool c.self.inside.live c.drop_at.new.live found.0 c.drop_at.ensures)

same_place : (n m : ℕ) → Some n ≡ Some m → n ≡ m
same_place n m e = cc

pub returns-in-Some-clause-left : goal.returns-in-Some-clause-left
returns-in-Some-clause-left c = λ n e.
    let viewed = ap (λ (v : RegistryValue). position (λ (l : Live). bytes_eq l.name c.args.name.now) v.live) c.self.view_is in
    let same : c.in-Some.place ≡ n = same_place c.in-Some.place n (c.in-Some.ensures.place ∙ viewed ∙ e) in
    c.drop_at.ensures.left ∙ ap (λ (v : RegistryValue). remove v.live c.in-Some.place) c.self.view_is ∙ ap (λ m. remove c.args.self.now.live m) same

pub returns-in-None-clause-left : goal.returns-in-None-clause-left
returns-in-None-clause-left c = λ n e.
    let none = not_found c.args.name.now c.self.inside.live (sym c.in-None.ensures.place) in
    absurd (true_or_false (subst (λ (v : RegistryValue). IsTrue (list_any (λ (l : Live). bytes_eq l.name c.args.name.now) v.live)) (sym c.self.view_is) c.requires) none)

pub invariant_of-self : goal.invariant_of-self
invariant_of-self c = (
  c.drop_at.ensures.sound,
  quiet_all c.all_of-self-inside.result c.drop_at.new.live
      (λ k on. let f = c.all_of-self-inside.ensures.only k on in let n = c.len.ensures in omega (arith, f, n))
      (λ k a. c.all_of-self-inside.ensures.all k (let n = c.len.ensures in omega (arith, a, n))),
  c.forget.ensures c.drop_at.new.live,
)

pub returns-in-Some-clause-pages : goal.returns-in-Some-clause-pages
returns-in-Some-clause-pages c = c.drop_at.ensures.pages ∙ ap (λ (v : RegistryValue). v.pool.pages) c.self.view_is
