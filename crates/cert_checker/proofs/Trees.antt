-- Nodes that are read one after another.
use Rattle.std.proofs.Common.{◌≡◌, ℕ, suc, ◌+◌, ◌≤◌, Bool, true, false, Option, Some, None, Ok, Err, List, [], ◌∷◌, ◌++◌, length, length-append, append_assoc, append-nil, inl, inr, refl, sym, ◌∙◌, ap, subst, arith}
use Rattle.sem_query.specs.declared.part.Sign.{Sign}
use Rattle.sem_query.specs.Query.{QueryValue}
use Rattle.cert_checker.specs.declared.shown.Shown.{Shown}
use Rattle.cert_checker.specs.Branching.{Branching}
use Rattle.cert_checker.specs.Shown.{branching_of, breaks_by, IsShownDecision, IsAnswerOf}
use Rattle.cert_format.specs.declared.line.Line.{Line}
use Rattle.cert_format.specs.declared.line.Line.TheVariants as line
use Rattle.cert_checker.specs.declared.answer.Reason.{Reason}
use Rattle.cert_checker.specs.declared.answer.Reason.TheVariants as reason
use Rattle.cert_checker.specs.declared.walk.Walk.{Walk}
use Rattle.cert_format.specs.Nodes.{Node, split, infeasible, against, leaf, grouped, nodes_of}
use Rattle.cert_checker.specs.Reading.{after, AreGood, done, next, IsGood, IsFirstFault, broken, unfinished, left_over}
use Rattle.cert_checker.specs.Standing.{at}
use Rattle.sem_query.specs.declared.decision.Decision.{Decision}
use Rattle.cert_checker.specs.declared.decision.DecisionSoFar.{DecisionSoFar}
use Rattle.cert_checker.specs.declared.answer.CheckAnswer.{CheckAnswer}
use Rattle.cert_checker.specs.declared.answer.CheckAnswer.TheVariants.{Yes, No}
use Rattle.cert_checker.specs.Leaves.{leaves_of}
use Rattle.cert_checker.specs.SoFar.{IsSoFar}
use Rattle.cert_checker.specs.Walking.{node_at, leaves, Decides, Steps, IsWrong, StepsOr, Walked, Finishes, EndsWith}
use Rattle.cert_checker.proofs.LeavesInOrder.{leaves-nil}
use Rattle.cert_checker.proofs.LeavesDecided.{leaf_decided, other_decided}

pub good_append : {branching : Branching} {a b c : Option (List Sign)} {xs ys : List Node} → AreGood branching a xs b → AreGood branching b ys c → AreGood branching a (xs ++ ys) c
good_append done h = h
good_append (next g r) h = next g (good_append r h)

leaves-append : (xs ys : List Node) → leaves (xs ++ ys) ≡ leaves xs + leaves ys
leaves-append [] ys = omega arith
leaves-append (split pair ∷ xs) ys = leaves-append xs ys
leaves-append (infeasible numbers ∷ xs) ys = leaves-append xs ys
leaves-append (against comparison ∷ xs) ys = leaves-append xs ys
leaves-append (leaf paths ∷ xs) ys = let r : leaves (xs ++ ys) ≡ leaves xs + leaves ys = leaves-append xs ys in omega arith

pub few_leaves : (xs : List Node) → leaves xs ≤ length xs
few_leaves [] = omega arith
few_leaves (split pair ∷ xs) = let r : leaves xs ≤ length xs = few_leaves xs in omega arith
few_leaves (infeasible numbers ∷ xs) = let r : leaves xs ≤ length xs = few_leaves xs in omega arith
few_leaves (against comparison ∷ xs) = let r : leaves xs ≤ length xs = few_leaves xs in omega arith
few_leaves (leaf paths ∷ xs) = let r : leaves xs ≤ length xs = few_leaves xs in omega arith

-- the leaves are as many as the nodes that are leaves
pub count_leaves : {b : Branching} {at end : Option (List Sign)} {nodes : List Node} → AreGood b at nodes end → length (leaves_of at nodes) ≡ leaves nodes
count_leaves (done {at}) = ap length (leaves-nil at)
count_leaves (next {node = split pair} g r) = count_leaves r
count_leaves (next {node = infeasible numbers} g r) = count_leaves r
count_leaves (next {node = against comparison} g r) = count_leaves r
count_leaves (next {node = leaf paths} g r) = let e = count_leaves r in omega (arith, e)

decided_more : (q : QueryValue) (shown : Shown) (read : List Node) (node : Node) {signs : List Sign} → AreGood (branching_of shown q) (Some []) read (Some signs) → (number : ℕ) (old new : DecisionSoFar) → number ≡ suc (length (leaves_of (Some []) read)) → Decides shown q signs node number old new → IsSoFar (breaks_by shown q) (leaves_of (Some []) read) old → IsSoFar (breaks_by shown q) (leaves_of (Some []) (read ++ node ∷ [])) new
decided_more q shown read (split pair) g number old new n d h = other_decided (breaks_by shown q) g (split pair) new refl (subst (IsSoFar (breaks_by shown q) (leaves_of (Some []) read)) (sym d) h)
decided_more q shown read (infeasible numbers) g number old new n d h = other_decided (breaks_by shown q) g (infeasible numbers) new refl (subst (IsSoFar (breaks_by shown q) (leaves_of (Some []) read)) (sym d) h)
decided_more q shown read (against comparison) g number old new n d h = other_decided (breaks_by shown q) g (against comparison) new refl (subst (IsSoFar (breaks_by shown q) (leaves_of (Some []) read)) (sym d) h)
decided_more q shown read (leaf paths) g number old new n d h = leaf_decided (breaks_by shown q) g paths number old new n d h

-- the nodes before the rest of the lines were read, and are good
pub record Progress (q : QueryValue) (shown : Shown) (lines rest : List Line) (w : Walk) : Type 0 where
  pub read : List Node
  pub split_is : nodes_of lines ≡ read ++ nodes_of rest
  pub walked : Walked q shown read w

pub walked_more : (q : QueryValue) (shown : Shown) (read : List Node) (node : Node) (old new : Walk) → Walked q shown read old → Steps q shown node old new → Walked q shown (read ++ node ∷ []) new
walked_more q shown read node old new w s =
    let here : AreGood (branching_of shown q) (Some []) read (Some old.place.signs.items) = subst (λ (b : Bool). AreGood (branching_of shown q) (Some []) read (at b old.place.signs.items)) s.more w.good in
    let more : AreGood (branching_of shown q) (Some []) (read ++ node ∷ []) (after old.place.signs.items node) = good_append here (next s.good done) in
    record {
      good = subst (AreGood (branching_of shown q) (Some []) (read ++ node ∷ [])) (sym s.at_is) more;
      stands = s.stands;
      count = omega (arith, s.count, w.count, length-append read (node ∷ []));
      leaves_are = omega (arith, s.leaves_are, w.leaves_are, leaves-append read (node ∷ []));
      decided = decided_more q shown read node here (old.leaves + 1) old.so_far new.so_far (omega (arith, w.leaves_are, count_leaves here)) s.decides w.decided;
    }

node_more : (q : QueryValue) (shown : Shown) (lines behind : List Line) (read : List Node) (node : Node) (old new : Walk) → nodes_of lines ≡ read ++ node ∷ nodes_of behind → Walked q shown read old → Steps q shown node old new → Progress q shown lines behind new
node_more q shown lines behind read node old new e w s = record {
  read = read ++ node ∷ [];
  split_is = e ∙ sym (append_assoc read (node ∷ []) (nodes_of behind));
  walked = walked_more q shown read node old new w s;
}

line_more : (q : QueryValue) (shown : Shown) (lines : List Line) (l : Line) (behind : List Line) (old new : Walk) (u : Unit {0}) → Progress q shown lines (l ∷ behind) old → StepsOr q shown (node_at l behind) old new (Ok u) → Progress q shown lines behind new
line_more q shown lines (line.Split pair) behind old new u p s = node_more q shown lines behind p.read (split pair) old new p.split_is p.walked s
line_more q shown lines (line.Infeasible numbers) behind old new u p s = node_more q shown lines behind p.read (infeasible numbers.items) old new p.split_is p.walked s
line_more q shown lines (line.Against comparison) behind old new u p s = node_more q shown lines behind p.read (against comparison) old new p.split_is p.walked s
line_more q shown lines line.Leaf behind old new u p s = node_more q shown lines behind p.read (leaf (grouped behind).paths) old new p.split_is p.walked s
line_more q shown lines (line.Path path) behind old new u p s = record { read = p.read; split_is = p.split_is; walked = subst (Walked q shown p.read) (sym s) p.walked }

pub progress_more : (q : QueryValue) (shown : Shown) (lines rest : List Line) (l : Line) (behind : List Line) (old new : Walk) (u : Unit {0}) → rest ≡ l ∷ behind → Progress q shown lines rest old → StepsOr q shown (node_at l behind) old new (Ok u) → Progress q shown lines behind new
progress_more q shown lines rest l behind old new u e p s = line_more q shown lines l behind old new u (subst (λ (z : List Line). Progress q shown lines z old) e p) s

node_fault : (q : QueryValue) (shown : Shown) (nodes read : List Node) (node : Node) (others : List Node) (old new : Walk) (why : Reason) → nodes ≡ read ++ node ∷ others → Walked q shown read old → IsWrong (branching_of shown q) node old why × (new.nodes ≡ old.nodes + 1) → IsFirstFault (branching_of shown q) nodes new.nodes why
node_fault q shown nodes read node others old new why e w h =
    let place : new.nodes ≡ suc (length read) = omega (arith, h.1, w.count) in
    elim h.0 [
      | inl o ↦ left_over w.stands.room read node others e (subst (λ (b : Bool). AreGood (branching_of shown q) (Some []) read (at b old.place.signs.items)) o.0 w.good) o.1 place
      | inr b ↦ broken w.stands.room read node others old.place.signs.items e (subst (λ (b : Bool). AreGood (branching_of shown q) (Some []) read (at b old.place.signs.items)) b.0 w.good) b.1 place
    ]

line_fault : (q : QueryValue) (shown : Shown) (lines : List Line) (l : Line) (behind : List Line) (old new : Walk) (why : Reason) → Progress q shown lines (l ∷ behind) old → StepsOr q shown (node_at l behind) old new (Err why) → IsFirstFault (branching_of shown q) (nodes_of lines) new.nodes why
line_fault q shown lines (line.Split pair) behind old new why p s = node_fault q shown (nodes_of lines) p.read (split pair) (nodes_of behind) old new why p.split_is p.walked s
line_fault q shown lines (line.Infeasible numbers) behind old new why p s = node_fault q shown (nodes_of lines) p.read (infeasible numbers.items) (nodes_of behind) old new why p.split_is p.walked s
line_fault q shown lines (line.Against comparison) behind old new why p s = node_fault q shown (nodes_of lines) p.read (against comparison) (nodes_of behind) old new why p.split_is p.walked s
line_fault q shown lines line.Leaf behind old new why p s = node_fault q shown (nodes_of lines) p.read (leaf (grouped behind).paths) (nodes_of behind) old new why p.split_is p.walked s
line_fault q shown lines (line.Path path) behind old new why p s = absurd s

pub progress_fault : (q : QueryValue) (shown : Shown) (lines rest : List Line) (l : Line) (behind : List Line) (old new : Walk) (why : Reason) → rest ≡ l ∷ behind → Progress q shown lines rest old → StepsOr q shown (node_at l behind) old new (Err why) → IsFirstFault (branching_of shown q) (nodes_of lines) new.nodes why
progress_fault q shown lines rest l behind old new why e p s = line_fault q shown lines l behind old new why (subst (λ (z : List Line). Progress q shown lines z old) e p) s

-- ---- the limits

pub few_nodes : (q : QueryValue) (shown : Shown) (lines rest : List Line) (w : Walk) → length (nodes_of lines) ≤ 262144 → Progress q shown lines rest w → w.nodes ≤ 262144
few_nodes q shown lines rest w few p =
    let n : length (nodes_of lines) ≡ length p.read + length (nodes_of rest) = ap length p.split_is ∙ length-append p.read (nodes_of rest) in
    omega (arith, n, p.walked.count, few)

pub few_read_leaves : (q : QueryValue) (shown : Shown) (lines rest : List Line) (w : Walk) → length (nodes_of lines) ≤ 262144 → Progress q shown lines rest w → w.leaves ≤ 262144
few_read_leaves q shown lines rest w few p = omega (arith, few_nodes q shown lines rest w few p, few_leaves p.read, p.walked.leaves_are, p.walked.count)

-- ---- the end of the lines

all_read : (q : QueryValue) (shown : Shown) (lines rest : List Line) (w : Walk) → rest ≡ [] → (p : Progress q shown lines rest w) → p.read ≡ nodes_of lines
all_read q shown lines rest w e p = sym (p.split_is ∙ ap (λ (z : List Line). p.read ++ nodes_of z) e ∙ append-nil p.read)

ends_open : (q : QueryValue) (shown : Shown) (lines rest : List Line) (w : Walk) (place : ℕ) → rest ≡ [] → Progress q shown lines rest w → w.more ≡ true → place ≡ w.nodes + 1 → IsFirstFault (branching_of shown q) (nodes_of lines) place reason.Shape
ends_open q shown lines rest w place e p m n =
    let r : p.read ≡ nodes_of lines = all_read q shown lines rest w e p in
    let g : AreGood (branching_of shown q) (Some []) p.read (Some w.place.signs.items) = subst (λ (b : Bool). AreGood (branching_of shown q) (Some []) p.read (at b w.place.signs.items)) m p.walked.good in
    let l : length p.read ≡ length (nodes_of lines) = ap length r in
    unfinished p.walked.stands.room w.place.signs.items (subst (λ (z : List Node). AreGood (branching_of shown q) (Some []) z (Some w.place.signs.items)) r g) refl (omega (arith, n, p.walked.count, l))

ends_whole : (q : QueryValue) (shown : Shown) (lines rest : List Line) (w : Walk) (d : Decision) → rest ≡ [] → Progress q shown lines rest w → w.more ≡ false → Finishes q shown w.so_far d → IsGood (branching_of shown q) (nodes_of lines) × IsShownDecision q shown d w.leaves
ends_whole q shown lines rest w d e p m f =
    let r : p.read ≡ nodes_of lines = all_read q shown lines rest w e p in
    let g : AreGood (branching_of shown q) (Some []) p.read None = subst (λ (b : Bool). AreGood (branching_of shown q) (Some []) p.read (at b w.place.signs.items)) m p.walked.good in
    let n : length (leaves_of (Some []) p.read) ≡ w.leaves = count_leaves g ∙ sym p.walked.leaves_are in
    let i : IsGood (branching_of shown q) p.read = record { room = p.walked.stands.room; good = g } in
    (subst (IsGood (branching_of shown q)) r i, subst (IsShownDecision q shown d) n (f p.read i p.walked.decided))

pub starts : (q : QueryValue) (shown : Shown) (lines : List Line) (w : Walk) → Walked q shown [] w → Progress q shown lines lines w
starts q shown lines w h = record { read = []; split_is = refl; walked = h }

-- what is answered where no line follows is right for the nodes of the lines
pub ends_right : (q : QueryValue) (shown : Shown) (lines rest : List Line) (w : Walk) (answer : CheckAnswer) → rest ≡ [] → Progress q shown lines rest w → EndsWith q shown w answer → IsAnswerOf shown q (nodes_of lines) answer
ends_right q shown lines rest w (Yes decision parts) e p h =
    let r : IsGood (branching_of shown q) (nodes_of lines) × IsShownDecision q shown decision w.leaves = ends_whole q shown lines rest w decision e p h.0 h.2 in
    (r.0, subst (IsShownDecision q shown decision) (sym h.1) r.1)
ends_right q shown lines rest w (No place why) e p h =
    subst (λ z. IsFirstFault (branching_of shown q) (nodes_of lines) place z) (sym h.2) (ends_open q shown lines rest w place e p h.0 h.1)
