use Rattle.std.proofs.Common.{rules, ◌≡◌, ◌≢◌, ◌∙◌, ◌<◌, ℕ, ℤ, List, Some, length, sym, ap, subst, arith, slice_get, slice_index_or}
use Rattle.std.proofs.lemmas.Option.{slice_get-get_or}
use Rattle.exec_query_index.specs.declared.candidates.Candidates.{Candidates}
use Rattle.exec_query.specs.Executor.{arrival}
use Rattle.exec_registry.specs.Concerned.{IsTold, MayConcern}
use Rattle.exec_registry.specs.declared.concerned.Listing.TheVariants as listing
use Rattle.exec_registry.proofs.Sparing.{listed_concerns}
use Rattle.exec_registry.proofs.concerned.Concerned.of.Goals as goal

-- the stream is listed
known : (c : goal.After-of) → slice_index_or c.match-self-number.self.listings c.args.stream listing.Unlisted ≢ listing.Unlisted
known c = search rules

told : (c : goal.After-of) → IsTold c.match-self-number.self c.args.live.now
told c = search rules

pub returns-clause-may : goal.returns-clause-may
returns-clause-may c =
    let own : Candidates = c.index.result.now in
    let streams : List Candidates = c.match-self-number.self.streams.items in
    let at = (told c).within c.args.stream (known c) in
    let n = c.from-number.ensures in
    let within : c.from-number.result < length streams = omega (arith, at, n) in
    let there : slice_get streams c.args.stream ≡ Some own
    = ap (λ (n : ℕ). slice_get streams n) (sym c.from-number.ensures)
    ∙ slice_get-get_or streams c.from-number.result own within ∙ ap (λ (x : Candidates). Some x) (sym c.index.ensures) in
    subst (λ (row : List ℤ). MayConcern c.of.result.word (arrival c.args.stream row) c.args.live.now) c.as_slice.ensures.value
    (listed_concerns c.of.result.word c.args.stream c.as_slice.result.now own c.args.live.now ((told c).listed c.args.stream own (known c) there) c.of.ensures.held c.of.ensures.only)
