use Rattle.std.proofs.Common.{rules, subst, List, length, ℤ}
use Rattle.arrayvec.specs.ArrayVec.{ArrayVec as Items}
use Rattle.fam_motions.specs.Apart.{LaterMixesFail, EarlierMixesFail, assigned}
use Rattle.fam_motions.proofs.searching.tried_with_block.Goals as goal

pub returns-then-are_apart : goal.returns-then-are_apart
returns-then-are_apart c =
    let q = c.args.search.now.q.now in
    record {
      solutions = search rules;
      later = subst (λ (all : List (Items ℤ)). LaterMixesFail q c.args.place (length all) (assigned q all)) c.deref.ensures.value (c.are_apart.ensures.later c.if-are_apart.true);
      earlier = subst (λ (all : List (Items ℤ)). EarlierMixesFail q c.args.place (length all) (assigned q all)) c.deref.ensures.value (c.are_apart.ensures.earlier c.if-are_apart.true);
    }
