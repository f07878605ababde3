use Rattle.std.proofs.Common.{Some, refl, arith, ap}
use Rattle.std.proofs.lemmas.Result.{err_from_is_err_and}
use Rattle.cert_checker.specs.Shown.{branching_of}
use Rattle.cert_checker.proofs.Judging.{split_wrong, split_good}
use Rattle.cert_checker.proofs.walk.Walk.split.Goals as goal

pub returns : goal.returns
returns c = record {
  good = split_good (branching_of c.args.shown c.args.q.now) c.args.self.now.place.signs.items c.as_slice.result.now c.args.pairs.now c.args.pair c.requires.pairs c.as_slice.ensures.value c.in_ok-judge_split.ensures;
  at_is = rw c.requires.more (ap Some c.push.ensures.signs);
  stands = c.push.ensures.stands;
  count = refl;
  leaves_are = omega arith;
  decides = refl;
}

pub returns-in_err-judge_split : goal.returns-in_err-judge_split
returns-in_err-judge_split c =
    let p = err_from_is_err_and c.from_residual.result c.from_residual.ensures.1 in
    rw (p.1, p.2) (split_wrong (branching_of c.args.shown c.args.q.now) c.args.self.now.place.signs.items c.as_slice.result.now c.args.pairs.now c.args.pair c.in_err-judge_split.field-0.0 c.requires.pairs c.as_slice.ensures.value c.in_err-judge_split.ensures, refl)
