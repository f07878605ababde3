use Rattle.std.proofs.Common.{rules, ◌≡◌, ◌∙◌, ◌+ℤ◌, FitsSigned, to_z, of_z}
use Rattle.std.specs.Int.{w128}
use Rattle.std.proofs.lemmas.Int.{to_z-of_z}
use Rattle.sem_query.specs.Assignment.{compares}
use Rattle.exec_synopsis.proofs.prepared.stands_wide.Goals as goal

pub returns : goal.returns
returns c =
    let first : c.from.result ≡ c.args.left = search rules in
    let second : c.from-2.result ≡ c.args.right = search rules in
    let third : c.from-3.result ≡ c.args.by = search rules in
    let left : to_z w128 (of_z w128 c.from.result) ≡ c.args.left = to_z-of_z w128 c.from.result (search rules) ∙ first in
    let right : to_z w128 (of_z w128 c.from-2.result) ≡ c.args.right = to_z-of_z w128 c.from-2.result (search rules) ∙ second in
    let by : to_z w128 (of_z w128 c.from-3.result) ≡ c.args.by = to_z-of_z w128 c.from-3.result (search rules) ∙ third in
    let fits : FitsSigned w128 (to_z w128 (of_z w128 c.from-2.result) +ℤ to_z w128 (of_z w128 c.from-3.result)) = search rules in
    c.compares.ensures
    ∙ (λ k. compares c.args.op (left k) ((to_z-of_z w128 (to_z w128 (of_z w128 c.from-2.result) +ℤ to_z w128 (of_z w128 c.from-3.result)) fits ∙ (λ i. right i +ℤ by i)) k))
