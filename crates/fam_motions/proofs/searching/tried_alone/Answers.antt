use Rattle.std.proofs.Common.{rules, subst, ◌⊎◌, List, length, ℤ}
use Rattle.arrayvec.specs.ArrayVec.{ArrayVec as Items}
use Rattle.fam_motions.specs.Apart.{LaterMixesFail, EarlierMixesFail, assigned}
use Rattle.fam_motions.proofs.searching.tried_alone.Goals as goal

pub returns-then-are_apart_once : goal.returns-then-are_apart_once
returns-then-are_apart_once c =
    let q = c.args.search.now.q.now in
    record {
      solutions = search rules;
      apart = subst (λ (all : List (Items ℤ)). LaterMixesFail q c.args.place (length all) (assigned q all) ⊎ EarlierMixesFail q c.args.place (length all) (assigned q all)) c.deref.ensures.value (c.are_apart_once.ensures c.if-are_apart_once.true);
    }
