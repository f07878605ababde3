-- A combination is in a part exactly where its rows are admitted and the links hold.
use Rattle.std.proofs.Common.{◌≡◌, ℕ, ℤ, List, length, true, subst, arith}
use Rattle.sem_query.specs.declared.plan.PartPlan.{PartPlan}
use Rattle.sem_query.specs.Query.{QueryValue}
use Rattle.sem_query.specs.Meaning.{joined, at_place}
use Rattle.sem_query.specs.Admission.{admits}
use Rattle.sem_query.specs.Combinations.{linked}
use Rattle.sem_laws.specs.Admitting.{AreAdmitted, AdmissionIsExact}
use Rattle.sem_laws.proofs.Tests.{and-left, and-right, and-both}
use Rattle.sem_laws.proofs.Sums.{passes}
use Rattle.sem_laws.proofs.Queries.{query_within}
use Rattle.sem_laws.proofs.Admission.{passes_at, passes_if, fits-if, fits-then, fits}

all_pass : (q : QueryValue) (part : PartPlan) (rows : List (ℕ → ℤ)) → length rows ≡ length q.from → fits q part rows ≡ true
    → AreAdmitted q part rows
all_pass q part rows whole h = record {
  each =
      λ place l. passes_at (admits q part) 0 rows place place (and-left _ (linked part (joined rows)) h) (omega (arith, l, whole)) (omega arith);
  links = and-right (passes (admits q part) 0 rows) _ h;
}

pub admission-is-exact : AdmissionIsExact
admission-is-exact q part within some plan rows whole keeps = (
  λ i. all_pass q part rows whole (fits-if q part plan some (query_within q within) rows whole i),
  λ a. fits-then q part plan some (query_within q within) rows whole keeps
      (and-both (passes (admits q part) 0 rows) (linked part (joined rows))
      (passes_if (admits q part) 0 rows (λ i m l e. let same : i ≡ m = omega (arith, e) in subst (λ n. admits q part n (at_place rows i) ≡ true) same (a.each i (omega (arith, l, whole)))))
      a.links),
)
