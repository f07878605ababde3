-- A certificate is checked as one of the form that its first node shows, and is a good one of that form.
use Rattle.std.proofs.Common.{◌≡◌, ℕ, Bool, true, false, Option, Some, None, List, [], ◌∷◌, ◌++◌, length, ◌⊎◌, inl, inr, refl, sym, ap, ◌∙◌, subst, arith}
use Rattle.std.specs.Prelude.{IsTrue, IsFalse, cond, nat_eq, if◌then◌else◌}
use Rattle.sem_query.specs.declared.atom.Atom.{Atom}
use Rattle.sem_query.specs.declared.atom.Attr.{Attr}
use Rattle.sem_query.specs.declared.part.Pair.{Pair}
use Rattle.sem_query.specs.declared.part.Sign.{Sign}
use Rattle.sem_query.specs.Query.{QueryValue, attrs_of}
use Rattle.plan_constraints.specs.declared.constraint.Constraint.{Constraint}
use Rattle.plan_constraints.specs.PartConstraints.{of_signs}
use Rattle.plan_constraints.specs.Solutions.{IsNegativeCycle}
use Rattle.plan_split_pairs.specs.Pairs.{split_pairs}
use Rattle.plan_whole.specs.Closed.{closed_constraints}
use Rattle.cert_format.specs.Nodes as nodes
use Rattle.cert_format.specs.Nodes.{Node}
use Rattle.cert_checker.specs.declared.shown.Shown.{Shown}
use Rattle.cert_checker.specs.Branching.{Branching, whole_branching, split_branching}
use Rattle.cert_checker.specs.Rules.{ArePaths, AreClosed, comparison, is_there_refuted}
use Rattle.cert_checker.specs.Reading.{AreGood, done, next, IsGood}
use Rattle.cert_checker.specs.Shown.{goes_by_form, first_shows, branching_of, shown_by}
use Rattle.cmd_certify.specs.Judged.{plain, whole, split}
use Rattle.cmd_certify.specs.Agreement.{RootIsAlike, CertifiedAreChecked}

-- at the root no sign says anything
unsigned : (xs : List Attr) (ps : List Pair) → of_signs xs ps [] ≡ of_signs xs [] []
unsigned xs [] = refl
unsigned xs (p ∷ ps) = refl

-- nothing stands behind the tree, over whatever it branches
ended : (b c : Branching) (end : Option (List Sign)) (listed : List Node) → AreGood b None listed end → AreGood c None listed end
ended b c end [] done = done
ended b c end (node ∷ listed) g = elim g [ ]

module _ (q : QueryValue) where
  same : closed_constraints q ++ of_signs (attrs_of q.atoms) (split_pairs q) [] ≡ closed_constraints q ++ of_signs (attrs_of q.atoms) [] []
  same = ap (λ (cs : List Constraint). closed_constraints q ++ cs) (unsigned (attrs_of q.atoms) (split_pairs q))

  rooted : (at end : Option (List Sign)) (listed : List Node) → at ≡ Some [] → end ≡ None → first_shows listed ≡ Shown.Whole → AreGood (split_branching q) at listed end → AreGood (whole_branching q) at listed end
  rooted at end [] e f shows done = absurd cc
  rooted (Some []) end (nodes.split pair ∷ listed) e f shows (next g r) = absurd cc
  rooted (Some []) end (nodes.against number ∷ listed) e f shows (next g r) = absurd cc
  rooted (Some []) end (nodes.infeasible numbers ∷ listed) e f shows (next g r) =
      next (subst (λ (cs : List Constraint). IsNegativeCycle cs numbers) same g) (ended (split_branching q) (whole_branching q) end listed r)
  rooted (Some []) end (nodes.leaf paths ∷ listed) e f shows (next g r) =
      next (record {
        place = record { whole = refl; agree = refl };
        are_paths = subst (λ (cs : List Constraint). ArePaths (length (attrs_of q.atoms)) cs paths) same g.are_paths;
        closed = subst (λ (cs : List Constraint). AreClosed (length (attrs_of q.atoms)) cs paths) same g.closed;
      }) (ended (split_branching q) (whole_branching q) end listed r)
  rooted None end (node ∷ listed) e f shows g = elim g [ ]
  rooted (Some (s ∷ signs)) end (node ∷ listed) e f shows (next g r) = absurd cc

pub root_is_alike : RootIsAlike
root_is_alike q listed good shows = record { room = omega arith; good = rooted q (Some []) None listed refl refl shows good.good }

-- of no comparisons none is refuted
either : (b : Bool) (t : Option Atom) → cond b t t ≡ t
either true t = refl
either false t = refl

not_there : (number : ℕ) → comparison [] number ≡ None
not_there number = either (nat_eq number 0) None

unrefuted : (signs : List Sign) (number : ℕ) → IsTrue (is_there_refuted [] signs (comparison [] number)) → ⊥
unrefuted signs number h =
    let same : false ≡ true = subst (λ (t : Option Atom). is_there_refuted [] signs t ≡ true) (not_there number) h in
    cc

-- a good tree of a whole form has no split, and no comparison closes it
shows_whole : (q : QueryValue) (at end : Option (List Sign)) (listed : List Node) → at ≡ Some [] → end ≡ None → AreGood (whole_branching q) at listed end → first_shows listed ≡ Shown.Whole
shows_whole q at end [] e f done = refl
shows_whole q None end (node ∷ listed) e f g = elim g [ ]
shows_whole q (Some signs) end (nodes.split pair ∷ listed) e f (next g r) = absurd (let l = g.left in omega (arith, l))
shows_whole q (Some signs) end (nodes.against number ∷ listed) e f (next g r) = absurd (unrefuted signs number g)
shows_whole q (Some signs) end (nodes.infeasible numbers ∷ listed) e f (next g r) = refl
shows_whole q (Some signs) end (nodes.leaf paths ∷ listed) e f (next g r) = refl

-- the form that a certificate shows
shown_plainly : (q : QueryValue) (listed : List Node) → IsFalse (goes_by_form q) → shown_by q listed ≡ Shown.Plain
shown_plainly q listed e = ap (λ (b : Bool). if b then first_shows listed else Shown.Plain) e

shown_first : (q : QueryValue) (listed : List Node) → IsTrue (goes_by_form q) → shown_by q listed ≡ first_shows listed
shown_first q listed e = ap (λ (b : Bool). if b then first_shows listed else Shown.Plain) e

first_is : (listed : List Node) → (first_shows listed ≡ Shown.Whole) ⊎ (first_shows listed ≡ Shown.Split)
first_is [] = inl refl
first_is (nodes.split pair ∷ listed) = inr refl
first_is (nodes.against number ∷ listed) = inr refl
first_is (nodes.infeasible numbers ∷ listed) = inl refl
first_is (nodes.leaf paths ∷ listed) = inl refl

moved : (q : QueryValue) (listed : List Node) (s t : Shown) → t ≡ s → IsGood (branching_of s q) listed → IsGood (branching_of t q) listed
moved q listed s t e good = subst (λ (x : Shown). IsGood (branching_of x q) listed) (sym e) good

pub certified_are_checked : CertifiedAreChecked
certified_are_checked q Shown.Plain listed (plain never) good = moved q listed Shown.Plain (shown_by q listed) (shown_plainly q listed never) good
certified_are_checked q Shown.Whole listed (whole by has) good =
    moved q listed Shown.Whole (shown_by q listed) (shown_first q listed by ∙ shows_whole q (Some []) None listed refl refl good.good) good
certified_are_checked q Shown.Split listed (split by lacks) good = elim (first_is listed) [
  | inl e ↦ moved q listed Shown.Whole (shown_by q listed) (shown_first q listed by ∙ e) (root_is_alike q listed good e)
  | inr e ↦ moved q listed Shown.Split (shown_by q listed) (shown_first q listed by ∙ e) good
]
