use Rattle.std.proofs.Common.{◌≡◌, ℤ, ◌<◌, length, map, ap, ◌∙◌, sym, subst, arith, to_z, of_z, w64, rules}
use Rattle.std.proofs.lemmas.Int.{to_z-of_z}
use Rattle.exec_query.specs.Loading.{loaded_cell}
use Rattle.exec_registry.specs.Live.{Live, LiveQuery, boxes_for, boxes_of}
use Rattle.exec_registry.specs.Registry.{RegistryValue, IsQuiet, GivenUpto, KeepQueries}
use Rattle.exec_registry.specs.Loaded.{LoadsAt, LoadedAt}
use Rattle.exec_registry.proofs.Loads.{loaded_sound, loaded_silent, loaded_stands, loaded_quiet, loaded_upto, loaded_names, loaded_keep, loaded_pages}
use Rattle.exec_registry.proofs.registry.Registry.load_cell.Goals as goal

pub invariant_of-self : goal.invariant_of-self
invariant_of-self g c =
    let v : to_z w64 (of_z w64 c.args.v) ≡ c.args.v = to_z-of_z w64 c.args.v (search rules) in
    let did = subst (λ (z : ℤ). LoadedAt c.args.place c.load_cell.result 0 (λ q shared plan base. loaded_cell (boxes_for q shared plan) c.args.i z base) c.self.inside.pool c.load_cell.new.pool c.self.inside.live c.load_cell.new.live) v c.load_cell.ensures.loads in
    let there = subst (λ (v : RegistryValue). c.args.place < length v.live) (sym c.self.view_is) c.requires.there in (
      loaded_sound c.args.place c.load_cell.result 0 (λ q shared plan base. loaded_cell (boxes_for q shared plan) c.args.i c.args.v base) c.self.inside.pool c.load_cell.new.pool c.self.inside.live c.load_cell.new.live c.self.invariant.0 there did,
      loaded_silent c.args.place c.load_cell.result 0 (λ q shared plan base. loaded_cell (boxes_for q shared plan) c.args.i c.args.v base) c.self.inside.pool c.load_cell.new.pool c.self.inside.live c.load_cell.new.live c.self.invariant.0 there did c.self.inside.waiting c.self.invariant.1,
      c.forget.ensures c.load_cell.new.live,
    )

pub returns-clause-loads : goal.returns-clause-loads
returns-clause-loads g c =
    let v : to_z w64 (of_z w64 c.args.v) ≡ c.args.v = to_z-of_z w64 c.args.v (search rules) in
    let did = subst (λ (z : ℤ). LoadedAt c.args.place c.load_cell.result 0 (λ q shared plan base. loaded_cell (boxes_for q shared plan) c.args.i z base) c.self.inside.pool c.load_cell.new.pool c.self.inside.live c.load_cell.new.live) v c.load_cell.ensures.loads in
    let there = subst (λ (v : RegistryValue). c.args.place < length v.live) (sym c.self.view_is) c.requires.there in
    subst (λ (v : RegistryValue). LoadsAt c.load_cell.result c.args.place (λ (q : LiveQuery). loaded_cell (boxes_of q) c.args.i c.args.v q.base) v (let new : RegistryValue = record { pool = c.load_cell.new.pool; live = c.load_cell.new.live } in new)) c.self.view_is
    (loaded_stands c.args.place c.load_cell.result 0 (λ q shared plan base. loaded_cell (boxes_for q shared plan) c.args.i c.args.v base) c.self.inside.pool c.load_cell.new.pool c.self.inside.live c.load_cell.new.live c.self.invariant.0 there did)

pub returns-clause-quiet : goal.returns-clause-quiet
returns-clause-quiet g c = λ quiet.
    let v : to_z w64 (of_z w64 c.args.v) ≡ c.args.v = to_z-of_z w64 c.args.v (search rules) in
    let did = subst (λ (z : ℤ). LoadedAt c.args.place c.load_cell.result 0 (λ q shared plan base. loaded_cell (boxes_for q shared plan) c.args.i z base) c.self.inside.pool c.load_cell.new.pool c.self.inside.live c.load_cell.new.live) v c.load_cell.ensures.loads in
    let there = subst (λ (v : RegistryValue). c.args.place < length v.live) (sym c.self.view_is) c.requires.there in
    loaded_quiet c.args.place c.load_cell.result 0 (λ q shared plan base. loaded_cell (boxes_for q shared plan) c.args.i c.args.v base) c.self.inside.pool c.load_cell.new.pool c.self.inside.live c.load_cell.new.live c.self.invariant.0 there did (subst (λ (v : RegistryValue). IsQuiet v) (sym c.self.view_is) quiet)

pub returns-clause-given : goal.returns-clause-given
returns-clause-given g c = λ m given.
    let v : to_z w64 (of_z w64 c.args.v) ≡ c.args.v = to_z-of_z w64 c.args.v (search rules) in
    let did = subst (λ (z : ℤ). LoadedAt c.args.place c.load_cell.result 0 (λ q shared plan base. loaded_cell (boxes_for q shared plan) c.args.i z base) c.self.inside.pool c.load_cell.new.pool c.self.inside.live c.load_cell.new.live) v c.load_cell.ensures.loads in
    let there = subst (λ (v : RegistryValue). c.args.place < length v.live) (sym c.self.view_is) c.requires.there in
    loaded_upto c.args.place c.load_cell.result 0 (λ q shared plan base. loaded_cell (boxes_for q shared plan) c.args.i c.args.v base) c.self.inside.pool c.load_cell.new.pool c.self.inside.live c.load_cell.new.live c.self.invariant.0 there did m (omega arith) (subst (λ (v : RegistryValue). GivenUpto m v) (sym c.self.view_is) given)

pub returns-clause-names : goal.returns-clause-names
returns-clause-names g c =
    let v : to_z w64 (of_z w64 c.args.v) ≡ c.args.v = to_z-of_z w64 c.args.v (search rules) in
    let did = subst (λ (z : ℤ). LoadedAt c.args.place c.load_cell.result 0 (λ q shared plan base. loaded_cell (boxes_for q shared plan) c.args.i z base) c.self.inside.pool c.load_cell.new.pool c.self.inside.live c.load_cell.new.live) v c.load_cell.ensures.loads in
    let there = subst (λ (v : RegistryValue). c.args.place < length v.live) (sym c.self.view_is) c.requires.there in
    loaded_names c.args.place c.load_cell.result 0 (λ q shared plan base. loaded_cell (boxes_for q shared plan) c.args.i c.args.v base) c.self.inside.pool c.load_cell.new.pool c.self.inside.live c.load_cell.new.live c.self.invariant.0 there did ∙ ap (λ (v : RegistryValue). map (λ (l : Live). l.name) v.live) c.self.view_is

pub returns-clause-queries : goal.returns-clause-queries
returns-clause-queries g c =
    let v : to_z w64 (of_z w64 c.args.v) ≡ c.args.v = to_z-of_z w64 c.args.v (search rules) in
    let did = subst (λ (z : ℤ). LoadedAt c.args.place c.load_cell.result 0 (λ q shared plan base. loaded_cell (boxes_for q shared plan) c.args.i z base) c.self.inside.pool c.load_cell.new.pool c.self.inside.live c.load_cell.new.live) v c.load_cell.ensures.loads in
    let there = subst (λ (v : RegistryValue). c.args.place < length v.live) (sym c.self.view_is) c.requires.there in
    subst (λ (v : RegistryValue). KeepQueries v.live c.load_cell.new.live) c.self.view_is (loaded_keep c.args.place c.load_cell.result 0 (λ q shared plan base. loaded_cell (boxes_for q shared plan) c.args.i c.args.v base) c.self.inside.pool c.load_cell.new.pool c.self.inside.live c.load_cell.new.live c.self.invariant.0 there did)

pub returns-clause-pages : goal.returns-clause-pages
returns-clause-pages g c =
    let v : to_z w64 (of_z w64 c.args.v) ≡ c.args.v = to_z-of_z w64 c.args.v (search rules) in
    let did = subst (λ (z : ℤ). LoadedAt c.args.place c.load_cell.result 0 (λ q shared plan base. loaded_cell (boxes_for q shared plan) c.args.i z base) c.self.inside.pool c.load_cell.new.pool c.self.inside.live c.load_cell.new.live) v c.load_cell.ensures.loads in
    let there = subst (λ (v : RegistryValue). c.args.place < length v.live) (sym c.self.view_is) c.requires.there in
    loaded_pages c.args.place c.load_cell.result 0 (λ q shared plan base. loaded_cell (boxes_for q shared plan) c.args.i c.args.v base) c.self.inside.pool c.load_cell.new.pool c.self.inside.live c.load_cell.new.live c.self.invariant.0 there did ∙ ap (λ (v : RegistryValue). v.pool.pages) c.self.view_is
