use Rattle.std.proofs.Common.{◌<◌, ◌+◌, ◌≡◌, true, pos, length, slice_index_or, sym, subst}
use Rattle.sem_query.specs.declared.plan.Dim.{Dim}
use Rattle.sem_query.specs.declared.plan.Link.{Link}
use Rattle.sem_query.specs.Query.{attr_lt}
use Rattle.sem_query.proofs.Has.{Has}
use Rattle.plan_forms.specs.Equated.{dims_of, AreEquals}
use Rattle.plan_forms.proofs.Equalities.{streams_none, streams_behind, streams_next}
use Rattle.plan_forms.proofs.equating.add_stream.Goals as goal

abbrev zero_dim : Dim
zero_dim = record { attr = record { stream = 0; column = 0 }; lo = pos 0; hi = pos 0 }

pub dims-init : goal.dims-init
dims-init c = streams_none c.args.closed.now c.args.streams.now c.requires.classes c.args.place c.requires.place c.requires.few c.args.list.now.items c.requires.ascend

pub add_equals-requires-clause-behind : goal.add_equals-requires-clause-behind
add_equals-requires-clause-behind c =
    let l : c.dims.k < length (dims_of c.args.streams.now c.args.place) = subst (λ ds. c.dims.k < length ds) c.requires.dims c.dims-test.true in
    subst (λ ds. (m : Link) → Has c.dims.list.items m → attr_lt m.left (slice_index_or ds c.dims.k zero_dim).attr ≡ true) (sym c.requires.dims)
    (streams_behind c.args.closed.now c.args.streams.now c.requires.classes c.args.place c.requires.place c.requires.few c.args.list.now.items c.dims.list.items c.dims.k zero_dim l c.requires.behind c.dims.invariant)

pub dims-preserved : goal.dims-preserved
dims-preserved c =
    let l : c.dims.k < length (dims_of c.args.streams.now c.args.place) = subst (λ ds. c.dims.k < length ds) c.requires.dims c.dims-test.true in
    streams_next c.args.closed.now c.args.streams.now c.requires.classes c.args.place c.requires.place c.requires.few c.args.list.now.items c.dims.list.items c.add_equals.new.list.items c.dims.k zero_dim l c.dims.invariant
    (subst (λ ds. AreEquals c.args.closed.now c.args.streams.now c.dims.list.items (slice_index_or ds c.dims.k zero_dim).attr (c.args.place + 1) (length c.args.streams.now) c.add_equals.new.list.items) c.requires.dims c.add_equals.ensures)
