use Rattle.std.proofs.Common.{◌≡◌, ◌≤◌, ◌++◌, [], drop, refl, sym, ◌∙◌, arith, append-nil, length-append, subst}
use Rattle.std.proofs.lemmas.List.{drop_more}
use Rattle.sem_query.specs.Parts.{pairs_among}
use Rattle.sem_query.proofs.PairLoop.{more_pairs, room_for_consts, room_for_attrs, drop-past}
use Rattle.sem_query.proofs.query.add_pairs.Goals as goal

pub loop-i-init : goal.loop-i-init
loop-i-init c = (subst (λ n. n ≤ 114) (sym (length-append _ _)) c.requires, refl)

pub push_consts-requires : goal.push_consts-requires
push_consts-requires c = room_for_consts _ _ _ _ _ _ (drop_more c.args.attrs.now c.loop-i.i record { stream = 0; column = 0 } (omega arith)) c.loop-i.invariant.1 c.loop-i.invariant.0

pub push_attrs-requires-clause-room : goal.push_attrs-requires-clause-room
push_attrs-requires-clause-room c = room_for_attrs _ _ _ _ _ _ _ (drop_more c.args.attrs.now c.loop-i.i record { stream = 0; column = 0 } (omega arith)) c.loop-i.invariant.1 c.push_consts.ensures c.loop-i.invariant.0

pub loop-i-preserved : goal.loop-i-preserved
loop-i-preserved c = (c.loop-i.invariant.0, more_pairs _ _ _ _ _ _ _ _ (drop_more c.args.attrs.now c.loop-i.i record { stream = 0; column = 0 } (omega arith)) c.loop-i.invariant.1 c.push_consts.ensures c.push_attrs.ensures)

pub returns : goal.returns
returns c =
    let e : c.loop-i.list.items ++ pairs_among (drop c.loop-i.i c.args.attrs.now) c.args.consts.now ≡ c.args.list.now.items ++ pairs_among c.args.attrs.now c.args.consts.now = c.loop-i.invariant.1 in
    let z : drop c.loop-i.i c.args.attrs.now ≡ [] = drop-past _ _ c.loop-i-test.false in
    sym (append-nil _) ∙ (rw z at e)
