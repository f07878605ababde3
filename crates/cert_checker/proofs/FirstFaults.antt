-- The nodes of a certificate have one first fault at most, and none where they are good.
use Rattle.std.proofs.Common.{◌≡◌, ℕ, suc, ◌+◌, refl, sym, ◌∙◌, ap, subst, arith, Option, Some, None, List, [], ◌∷◌, ◌++◌, length, append-nil}
use Rattle.sem_query.specs.declared.part.Sign.{Sign}
use Rattle.cert_checker.specs.declared.answer.Reason.{Reason}
use Rattle.cert_checker.specs.declared.answer.Reason.TheVariants as reason
use Rattle.cert_format.specs.Nodes.{Node, split, infeasible, against, leaf}
use Rattle.cert_checker.specs.Branching.{Branching, HasRoom}
use Rattle.cert_checker.specs.Rules.{IsGoodNode, Breaks, no_split, no_cycle, no_refuted, no_part, no_paths, not_closed}
use Rattle.cert_checker.specs.Reading.{after, AreGood, done, next, IsGood, IsFirstFault, crowded, broken, unfinished, left_over}

-- a node that breaks a rule is not good
pub breaks_is_bad : (branching : Branching) (signs : List Sign) (node : Node) (why : Reason) → Breaks branching signs node why → ¬ IsGoodNode branching signs node
breaks_is_bad branching signs (split pair) why (no_split n) g = n g
breaks_is_bad branching signs (infeasible numbers) why (no_cycle n) g = n g
breaks_is_bad branching signs (against comparison) why (no_refuted n) g = n g
breaks_is_bad branching signs (leaf paths) why (no_part n) g = n g.place
breaks_is_bad branching signs (leaf paths) why (no_paths l n) g = n g.are_paths
breaks_is_bad branching signs (leaf paths) why (not_closed l a n) g = n g.closed

-- a node breaks one rule first
pub one_reason : (branching : Branching) (signs : List Sign) (node : Node) (r s : Reason) → Breaks branching signs node r → Breaks branching signs node s → r ≡ s
one_reason branching signs (split pair) r s (no_split n) (no_split m) = refl
one_reason branching signs (infeasible numbers) r s (no_cycle n) (no_cycle m) = refl
one_reason branching signs (against comparison) r s (no_refuted n) (no_refuted m) = refl
one_reason branching signs (leaf paths) r s (no_part n) (no_part m) = refl
one_reason branching signs (leaf paths) r s (no_part n) (no_paths l m) = absurd (n l)
one_reason branching signs (leaf paths) r s (no_part n) (not_closed l a m) = absurd (n l)
one_reason branching signs (leaf paths) r s (no_paths l n) (no_part m) = absurd (m l)
one_reason branching signs (leaf paths) r s (no_paths l n) (no_paths k m) = refl
one_reason branching signs (leaf paths) r s (no_paths l n) (not_closed k a m) = absurd (n a)
one_reason branching signs (leaf paths) r s (not_closed l a n) (no_part m) = absurd (m l)
one_reason branching signs (leaf paths) r s (not_closed l a n) (no_paths k m) = absurd (m a)
one_reason branching signs (leaf paths) r s (not_closed l a n) (not_closed k b m) = refl

-- a node breaks a rule and is the first, or it is good and the fault is behind it
pub data FaultBehind (here : Reason → Type 0) (good : Type 0) (rest : ℕ → Reason → Type 0) (place : ℕ) (why : Reason) : Type 0 where
  at_once : here why → place ≡ 1 → FaultBehind here good rest place why
  later_on : good → (m : ℕ) → place ≡ suc m → rest m why → FaultBehind here good rest place why

-- the first fault of nodes that stand at some signs, by the nodes one after the other
abbrev pub IsFaultFrom : Branching → Option (List Sign) → List Node → ℕ → Reason → Type 0
IsFaultFrom branching None [] place why = ⊥
IsFaultFrom branching None (node ∷ nodes) place why = (place ≡ 1) × (why ≡ reason.Shape)
IsFaultFrom branching (Some signs) [] place why = (place ≡ 1) × (why ≡ reason.Shape)
IsFaultFrom branching (Some signs) (node ∷ nodes) place why = FaultBehind (Breaks branching signs node) (IsGoodNode branching signs node) (IsFaultFrom branching (after signs node) nodes) place why

-- a first fault stands as far behind good nodes as there are such nodes
pub fault_behind : {branching : Branching} {at mid : Option (List Sign)} {nodes : List Node} (others : List Node) (place : ℕ) (why : Reason) → AreGood branching at nodes mid → IsFaultFrom branching mid others place why → IsFaultFrom branching at (nodes ++ others) (length nodes + place) why
fault_behind {branching} others place why (done {at}) f = let e : place ≡ 0 + place = omega arith in subst (λ z. IsFaultFrom branching at others z why) e f
fault_behind others place why (next {nodes} g rest) f = later_on g (length nodes + place) (omega arith) (fault_behind others place why rest f)

-- a first fault is that there is no room, or it is one by the nodes one after the other
pub data IsFault (branching : Branching) (nodes : List Node) (place : ℕ) (why : Reason) : Type 0 where
  no_room : ¬ HasRoom branching → why ≡ reason.Shape → place ≡ 1 → IsFault branching nodes place why
  in_turn : HasRoom branching → IsFaultFrom branching (Some []) nodes place why → IsFault branching nodes place why

pub fault_from_first : (branching : Branching) (nodes : List Node) (place : ℕ) (why : Reason) → IsFirstFault branching nodes place why → IsFault branching nodes place why
fault_from_first branching nodes place why (crowded n w p) = no_room n w p
fault_from_first branching nodes place why (broken m before node behind signs e g b p) =
    let h : length before + 1 ≡ place = omega (arith, p) in
    let f : IsFaultFrom branching (Some []) (before ++ node ∷ behind) (length before + 1) why = fault_behind (node ∷ behind) 1 why g (at_once b refl) in
    in_turn m (subst (λ z. IsFaultFrom branching (Some []) z place why) (sym e) (subst (λ z. IsFaultFrom branching (Some []) (before ++ node ∷ behind) z why) h f))
fault_from_first branching nodes place why (unfinished m signs g w p) =
    let h : length nodes + 1 ≡ place = omega (arith, p) in
    let f : IsFaultFrom branching (Some []) (nodes ++ []) (length nodes + 1) why = fault_behind [] 1 why g (refl, w) in
    in_turn m (subst (λ z. IsFaultFrom branching (Some []) z place why) (append-nil nodes) (subst (λ z. IsFaultFrom branching (Some []) (nodes ++ []) z why) h f))
fault_from_first branching nodes place why (left_over m before node behind e g w p) =
    let h : length before + 1 ≡ place = omega (arith, p) in
    let f : IsFaultFrom branching (Some []) (before ++ node ∷ behind) (length before + 1) why = fault_behind (node ∷ behind) 1 why g (refl, w) in
    in_turn m (subst (λ z. IsFaultFrom branching (Some []) z place why) (sym e) (subst (λ z. IsFaultFrom branching (Some []) (before ++ node ∷ behind) z why) h f))

no_fault : {here : Reason → Type 0} {good : Type 0} {rest : ℕ → Reason → Type 0} (place : ℕ) (why : Reason) → ¬ here why → ((m : ℕ) → ¬ rest m why) → ¬ FaultBehind here good rest place why
no_fault place why h f (at_once b p) = h b
no_fault place why h f (later_on g m p r) = f m r

-- good nodes up to the end of the tree have no fault
pub good_has_no_fault : {branching : Branching} {at end : Option (List Sign)} {nodes : List Node} (place : ℕ) (why : Reason) → end ≡ None → AreGood branching at nodes end → ¬ IsFaultFrom branching at nodes place why
good_has_no_fault {branching} place why e (done {at}) f = subst (λ z. IsFaultFrom branching z [] place why) e f
good_has_no_fault {branching} place why e (next {signs} {node} g rest) f = no_fault place why (λ b. breaks_is_bad branching signs node why b g) (λ m. good_has_no_fault m why e rest) f

both : {here : Reason → Type 0} {good : Type 0} {rest : ℕ → Reason → Type 0} (place other : ℕ) (why because : Reason)
    → (here why → here because → why ≡ because) → (here why → ¬ good) → (here because → ¬ good)
    → ((m n : ℕ) → rest m why → rest n because → (m ≡ n) × (why ≡ because))
    → FaultBehind here good rest place why → FaultBehind here good rest other because → (place ≡ other) × (why ≡ because)
both place other why because one bad worse f (at_once b p) (at_once c r) = (p ∙ sym r, one b c)
both place other why because one bad worse f (at_once b p) (later_on g n r t) = absurd (bad b g)
both place other why because one bad worse f (later_on g m p s) (at_once c r) = absurd (worse c g)
both place other why because one bad worse f (later_on g m p s) (later_on h n r t) =
    let e : (m ≡ n) × (why ≡ because) = f m n s t in
    (p ∙ ap suc e.0 ∙ sym r, e.1)

-- the first fault by the nodes one after the other is one
pub one_fault_from : (branching : Branching) (at : Option (List Sign)) (nodes : List Node) (place other : ℕ) (why because : Reason) → IsFaultFrom branching at nodes place why → IsFaultFrom branching at nodes other because → (place ≡ other) × (why ≡ because)
one_fault_from branching None [] place other why because f g = absurd f
one_fault_from branching None (node ∷ nodes) place other why because f g = (f.0 ∙ sym g.0, f.1 ∙ sym g.1)
one_fault_from branching (Some signs) [] place other why because f g = (f.0 ∙ sym g.0, f.1 ∙ sym g.1)
one_fault_from branching (Some signs) (node ∷ nodes) place other why because f g =
    both place other why because (one_reason branching signs node why because) (breaks_is_bad branching signs node why) (breaks_is_bad branching signs node because)
    (λ m n. one_fault_from branching (after signs node) nodes m n why because) f g

one_of_two : (branching : Branching) (nodes : List Node) (place other : ℕ) (why because : Reason) → IsFault branching nodes place why → IsFault branching nodes other because → (place ≡ other) × (why ≡ because)
one_of_two branching nodes place other why because (no_room n w p) (no_room m v o) = (p ∙ sym o, w ∙ sym v)
one_of_two branching nodes place other why because (no_room n w p) (in_turn m g) = absurd (n m)
one_of_two branching nodes place other why because (in_turn m f) (no_room n v o) = absurd (n m)
one_of_two branching nodes place other why because (in_turn m f) (in_turn n g) = one_fault_from branching (Some []) nodes place other why because f g

-- nodes have one first fault
pub one_first_fault : (branching : Branching) (nodes : List Node) (place other : ℕ) (why because : Reason) → IsFirstFault branching nodes place why → IsFirstFault branching nodes other because → (place ≡ other) × (why ≡ because)
one_first_fault branching nodes place other why because f g = one_of_two branching nodes place other why because (fault_from_first branching nodes place why f) (fault_from_first branching nodes other because g)

good_or : (branching : Branching) (nodes : List Node) (place : ℕ) (why : Reason) → IsGood branching nodes → ¬ IsFault branching nodes place why
good_or branching nodes place why g (no_room n w p) = n g.room
good_or branching nodes place why g (in_turn m f) = good_has_no_fault place why refl g.good f

-- good nodes have no first fault
pub good_or_fault : (branching : Branching) (nodes : List Node) (place : ℕ) (why : Reason) → IsGood branching nodes → ¬ IsFirstFault branching nodes place why
good_or_fault branching nodes place why g f = good_or branching nodes place why g (fault_from_first branching nodes place why f)
