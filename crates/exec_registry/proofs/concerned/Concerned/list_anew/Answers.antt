use Rattle.std.proofs.Common.{◌<◌, length, rules, refl, sym, subst, ℕ, arith}
use Rattle.exec_registry.specs.Concerned.{IsListed, SparesStream}
use Rattle.exec_registry.proofs.Sparing.{lists_one, noted_known}
use Rattle.exec_registry.proofs.concerned.Concerned.list_anew.Goals as goal

pub returns-clause-told : goal.returns-clause-told
returns-clause-told c =
    let at = c.from-number.ensures in
    let inside : c.from-number.result < length c.args.self.now.streams.items = search rules in
    lists_one c.args.live.now c.args.self.now _ c.from-number.result _ c.list_stream.result inside c.requires.told
    (subst (λ (n : ℕ). IsListed n c.list_stream.new.candidates c.args.live.now) (sym at) c.list_stream.ensures.listed)
    (λ e. subst (λ (n : ℕ). SparesStream n c.args.live.now) (sym at) (c.list_stream.ensures.spared e))
    refl refl

pub returns-clause-listed : goal.returns-clause-listed
returns-clause-listed c = λ _.
    let at = c.from-number.ensures in
    let inside : c.from-number.result < length c.args.self.now.streams.items = search rules in
    let few = c.requires.told.streams in
    let many = c.requires.told.size in
    noted_known c.args.self.now.listings c.from-number.result c.args.stream c.list_stream.result (omega (arith, at, inside, few, many)) at c.list_stream.ensures.known
