use Rattle.std.proofs.Common.{◌≡◌, ◌∙◌, subst, refl, IfSome}
use Rattle.exec_synopsis.specs.Joining.{IsJoinLookup}
use Rattle.exec_synopsis.specs.Preparing.{AreTests, class_of}
use Rattle.exec_synopsis.specs.declared.accesses.PlaceAccess.{PlaceAccess}
use Rattle.exec_synopsis.proofs.prepared.prepare.Goals as goal

pub returns : goal.returns
returns c =
    let same = c.as_slice-pairs.ensures.value ∙ c.pairs.ensures in
    record {
      classes = λ a class e. subst (λ ps. class ≡ class_of ps c.args.part.now a) same (c.all_classes-classes.ensures a.stream a.column class e);
      tests = subst (λ ps. AreTests ps c.args.part.now c.tests_of-tests.result.items) same c.tests_of-tests.ensures;
      asked = c.in_ok-asked.ensures;
      places = c.in_ok-places.ensures;
      pinned = c.in_ok-pinned.ensures;
      joins = λ arriving listed e. subst (λ ps. IfSome listed (λ p. IsJoinLookup ps c.args.part.now arriving p)) same (c.in_ok-joins.ensures arriving listed e);
      whole = λ arriving place e. c.all_accesses.ensures arriving place PlaceAccess.Scan e refl;
    }
