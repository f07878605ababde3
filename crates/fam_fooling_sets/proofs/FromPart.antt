-- From the part that a decision names to what is answered.
use Rattle.std.proofs.Common.{◌≡◌, ℕ, zero, suc, ◌+◌, ◌-◌, ◌<◌, ◌≤◌, inl, inr, nat_eq, List, [], ◌∷◌, length, not, ◌&&◌, Bool, true, false, Option, None, Some, Result, Ok, Err, refl, sym, ap, ◌∙◌, subst, arith, ℤ, slice_get, slice_index_or, Contains, All, IsFalse}
use Rattle.std.proofs.lemmas.Bool.Decides.{nat_tests}
use Rattle.std.proofs.lemmas.List.Elements.{All-contains}
use Rattle.sem_query.specs.declared.atom.Attr.{Attr}
use Rattle.sem_query.specs.declared.condition.Condition.{Condition}
use Rattle.sem_query.specs.declared.condition.Condition.TheVariants.{C1, C2, C3}
use Rattle.sem_query.specs.declared.part.Part.{Part}
use Rattle.sem_query.specs.declared.part.Sign.{Sign}
use Rattle.sem_query.specs.Query.{QueryValue, attrs_of, is_filter, IsWithinLimits}
use Rattle.sem_query.specs.Order.{IsBounded}
use Rattle.sem_query.specs.Links.{IsEquality}
use Rattle.sem_query.specs.Parts.{IsPart, AreParts, sign_lists}
use Rattle.sem_query.specs.Violation.{Failure, failure_lt, Breaks, Fails, IsViolation, filter, first}
use Rattle.sem_query.proofs.Has.{Has-from_contains, Contains-from_has}
use Rattle.sem_query.proofs.Unique.{one_list_of_parts}
use Rattle.sem_laws.proofs.Queries.{IsQuery, query_within}
use Rattle.plan_constraints.specs.declared.constraint.Constraint.{Constraint}
use Rattle.plan_constraints.specs.Nodes.{place_of}
use Rattle.plan_constraints.specs.Solutions.{IsLeast, IsGreatest, IsLowAnswer, IsHighAnswer}
use Rattle.plan_constraints.proofs.NodeFacts.{node_has, place_below}
use Rattle.plan_constraints.proofs.OfDomains.{node_within}
use Rattle.plan_constraints.proofs.InPart.{least_in_part, greatest_in_part}
use Rattle.plan_closure.specs.Answers.{IsSmall}
use Rattle.plan_links.specs.Known.{IsKnown}
use Rattle.plan_links.proofs.InPartFacts.{satisfiable}
use Rattle.fam_fooling_sets.specs.declared.ground.Ground.{Ground}
use Rattle.fam_fooling_sets.specs.declared.error.LowerError.{LowerError}
use Rattle.fam_fooling_sets.specs.declared.error.LowerError.TheVariants as why
use Rattle.fam_fooling_sets.specs.Family.{FamilyValue, IsFamily}
use Rattle.fam_fooling_sets.specs.Blanks.{IsRead, AreBlanks}
use Rattle.fam_fooling_sets.specs.Laws.{AreLocalFor}
use Rattle.fam_fooling_sets.specs.Lowered.{IsBroken, IsWholeFor, IsMadeFamily, MakesFamily, LowersBroken}
use Rattle.fam_fooling_sets.specs.Members.{AreEnds, IsGroundOf, IsNodeOf, IsLowEnd, IsHighEnd, AreMembers}
use Rattle.fam_fooling_sets.specs.Shown.{rows_in}
use Rattle.fam_fooling_sets.proofs.Telling.{families-tell}
use Rattle.fam_fooling_sets.proofs.TellingAlone.{families-tell-alone}
use Rattle.fam_fooling_sets.proofs.Made.{family-made, family-asks, family-like}
use Rattle.fam_fooling_sets.proofs.Solved.{drawn}

ends-of : (cs : List Constraint) (node : ℕ) (low high : Option ℤ) → IsLowAnswer cs node low → IsHighAnswer cs node high
    → ((l h : ℤ) → IsLeast cs node l → IsGreatest cs node h → ⊥) → AreEnds cs node low high
ends-of cs node (Some l) (Some h) a b n = n l h a b
ends-of cs node (Some l) None a b n = (a, b)
ends-of cs node None (Some h) a b n = (a, b)
ends-of cs node None None a b n = (a, b)

-- what a part's bounds answer is what rows are made from
pub ground-made : (q : QueryValue) (s : List Sign) (a : Attr) (g : Ground) → IsKnown q s g.bounds.now → (IsBounded q s a → ⊥)
    → g.attrs.now ≡ attrs_of q.atoms → g.from.now ≡ q.from → g.named ≡ a → IsNodeOf g.attrs.now a g.node
    → IsLowEnd g.bounds.now.constraints g.node g.low → IsHighEnd g.bounds.now.constraints g.node g.high → IsSmall g.low → IsSmall g.high → IsGroundOf q s a g
ground-made q s a g known free attrs from named node low high small_low small_high = record {
  ground = record {
    few = subst (λ (ks : List Attr). length ks ≤ 12) (sym attrs) known.few;
    attrs = known.attrs ∙ ap length (sym attrs);
    node = (let w = node.within in let e = known.attrs ∙ ap length (sym attrs) in omega (arith, w, e));
    satisfiable = satisfiable q s g.bounds.now known;
    low = small_low;
    high = small_high;
    ends = λ l. ends-of g.bounds.now.constraints g.node g.low g.high (low l) (high l) (λ x y i j. free (bounded (node.named l) x y i j));
  };
  attrs_are = attrs;
  from_is = from;
  named_is = named;
  constraints_are = known.constraints;
  node_is = λ c. node.there (subst (λ (ks : List Attr). Contains ks a) (sym attrs) c) ∙ ap (λ (ks : List Attr). suc (place_of ks a)) attrs;
}
  where
    bounded : Contains g.attrs.now a → (x y : ℤ) → IsLeast g.bounds.now.constraints g.node x → IsGreatest g.bounds.now.constraints g.node y → IsBounded q s a
    bounded c x y i j =
        let h : Contains (attrs_of q.atoms) a = subst (λ (ks : List Attr). Contains ks a) attrs c in
        let n : g.node ≡ suc (place_of (attrs_of q.atoms) a) = node.there c ∙ ap (λ (ks : List Attr). suc (place_of ks a)) attrs in
        let u = least_in_part q s known.within known.part a h x (subst (λ cs. IsLeast cs (suc (place_of (attrs_of q.atoms) a)) x) known.constraints (subst (λ (m : ℕ). IsLeast g.bounds.now.constraints m x) n i)) in
        let w = greatest_in_part q s known.within known.part a h y (subst (λ cs. IsGreatest cs (suc (place_of (attrs_of q.atoms) a)) y) known.constraints (subst (λ (m : ℕ). IsGreatest g.bounds.now.constraints m y) n j)) in
        record { low = x; high = y; above = u.above; below = w.below }

-- the rows that were made are a family of rows from assignments of the part
pub family-of : (q : QueryValue) (s : List Sign) (a : Attr) (g : Ground) (n : ℕ) (f : FamilyValue) (blanks : List (List ℤ)) → n ≤ 65536 → IsWithinLimits q → IsPart q s → IsGroundOf q s a g → IsRead q a
    → (IsBounded q s a → ⊥) → a.stream < length q.from → rows_in g.blanks.now ≡ blanks → AreBlanks q blanks → f.stream ≡ slice_index_or q.from a.stream 0
    → AreMembers g a.stream n f.rows f.asking → IsMadeFamily q s a blanks n f
family-of q s a g n f blanks few within part ground read free there same are stream made =
    let b : AreBlanks q (rows_in g.blanks.now) = subst (AreBlanks q) (sym same) are in
    let d = drawn q within s part a g n f ground few made in
    subst (λ (z : List (List ℤ)). IsMadeFamily q s a z n f) same record {
      stream = stream;
      size = made.many;
      many = made.asked;
      asks = family-asks q within s a g n f ground read free there b stream _ _ d;
      made = family-made q within s a g n f ground read free there b stream _ _ d;
      like = family-like q within s a g n f ground read free there b stream _ _ d;
    }

-- the column of an unbounded inequality is an attribute
pub names-attr : (q : QueryValue) (s : List Sign) (a : Attr) → IsBroken q s C3 a → Contains (attrs_of q.atoms) a
names-attr q s a b = elim b.breaks.0 [ inl r ↦ r.inequality.across.left | inr r ↦ r.inequality.across.right ]

read-of : (q : QueryValue) (s : List Sign) (condition : Condition) (a : Attr) → Breaks q s condition a → AreLocalFor q condition → IsRead q a
read-of q s C1 a b l = inr b.0
read-of q s C2 a b l = elim b.2 [ inl e ↦ inl e.across.left | inr e ↦ inl e.across.right ]
read-of q s C3 a b l = elim b.0 [ inl r ↦ inl r.inequality.across.left | inr r ↦ inl r.inequality.across.right ]

pub reads : (q : QueryValue) (s : List Sign) (condition : Condition) (a : Attr) → IsBroken q s condition a → AreLocalFor q condition → IsRead q a
reads q s condition a b l = read-of q s condition a b.breaks l

pub stands-in : (q : QueryValue) (s : List Sign) (condition : Condition) (a : Attr) → IsBroken q s condition a → AreLocalFor q condition → a.stream < length q.from
stands-in q s condition a b l = at (reads q s condition a b l)
  where
    well : IsQuery q
    well = query_within q b.within

    at : IsRead q a → a.stream < length q.from
    at (inl c) = (query_within q b.within).atoms a c
    at (inr c) = (query_within q b.within).select a c

free-of : (q : QueryValue) (s : List Sign) (condition : Condition) (a : Attr) → Breaks q s condition a → AreLocalFor q condition → IsBounded q s a → ⊥
free-of q s C1 a b l = b.1
free-of q s C2 a b l = b.0
free-of q s C3 a b l = elim b.0 [ inl r ↦ r.unbounded | inr r ↦ r.unbounded ]

pub is-free : (q : QueryValue) (s : List Sign) (condition : Condition) (a : Attr) → IsBroken q s condition a → AreLocalFor q condition → IsBounded q s a → ⊥
is-free q s condition a b l = free-of q s condition a b.breaks l

-- over one stream no equality lies between streams
only-first : (q : QueryValue) (s : List Sign) (a : Attr) → IsWithinLimits q → length q.from ≡ 1 → Breaks q s C2 a → ⊥
only-first q s a within one b = elim b.2 [ inl e ↦ apart a b.1 e | inr e ↦ apart b.1 a e ]
  where
    apart : (x y : Attr) → IsEquality q s x y → ⊥
    apart x y e =
        let l = (query_within q within).atoms x e.across.left in
        let r = (query_within q within).atoms y e.across.right in
        e.across.across (omega (arith, one, l, r))

-- such rows tell their sets
tells : (q : QueryValue) (s : List Sign) (condition : Condition) (a : Attr) (blanks : List (List ℤ)) (n : ℕ) (f : FamilyValue) → IsBroken q s condition a → AreLocalFor q condition → (condition ≡ C3 → ⊥)
    → IsMadeFamily q s a blanks n f → IsFamily q condition a n f
tells q s condition a blanks n f b l first_two m = by (nat_eq (length q.from) 1) refl
  where
    there : a.stream < length q.from
    there = stands-in q s condition a b l

    distinct : (d t : Bool) → (not d && t) ≡ false → t ≡ true → d ≡ true
    distinct true t e o = refl
    distinct false true e o = absurd cc
    distinct false false e o = absurd cc

    alone : (c : Condition) → (c ≡ C3 → ⊥) → Breaks q s c a → AreLocalFor q c → length q.from ≡ 1 → q.distinct ≡ true → IsFamily q c a n f
    alone C1 o z k one d = families-tell-alone q s a n f b.within one d (stands-in q s condition a b l) z.0 m.stream m.size m.many m.asks m.made
    alone C2 o z k one d = absurd (only-first q s a b.within one z)
    alone C3 o z k one d = absurd (o refl)

    by : (t : Bool) → nat_eq (length q.from) 1 ≡ t → IsFamily q condition a n f
    by true e =
        let one : length q.from ≡ 1 = grind (arith, e, nat_tests) in
        alone condition first_two b.breaks l one (distinct q.distinct (nat_eq (length q.from) 1) b.counts e)
    by false e =
        families-tell q s condition a n f b.within (let p = b.within.streams.0 in grind (arith, p, e, nat_tests)) (stands-in q s condition a b l) first_two b.breaks l m.stream m.size m.many m.asks m.made

pub lowered : (q : QueryValue) (s : List Sign) (condition : Condition) (a : Attr) (blanks : List (List ℤ)) (n : ℕ) (result : Result FamilyValue LowerError)
    → IsBroken q s condition a → AreLocalFor q condition → (condition ≡ C3 → ⊥) → MakesFamily q s a blanks n result → LowersBroken q blanks condition a n result
lowered q s condition a blanks n (Ok f) b l o m = record { local = l; whole = whole-for condition o; family = tells q s condition a blanks n f b l o m; like = m.like }
  where
    whole-for : (c : Condition) → (c ≡ C3 → ⊥) → IsWholeFor q c
    whole-for C1 o = tt
    whole-for C2 o = tt
    whole-for C3 o = absurd (o refl)
lowered q s condition a blanks n (Err why.Memory) b l o m = tt
lowered q s condition a blanks n (Err why.Bounded) b l o m = absurd m
lowered q s condition a blanks n (Err why.C2) b l o m = absurd m
lowered q s condition a blanks n (Err why.C3) b l o m = absurd m

-- the part that a decision names
found-at : (ps : List Part) (i : ℕ) (s : List Sign) (d : Part) → slice_get (sign_lists ps) i ≡ Some s → (i < length ps) × ((slice_index_or ps i d).signs.items ≡ s)
found-at [] i s d e = absurd cc
found-at (p ∷ ps) zero s d e = (omega arith, cc)
found-at (p ∷ ps) (suc i) s d e = let r = found-at ps i s d e in ((let l = r.0 in omega (arith, l)), r.1)

part-here : (q : QueryValue) (xs : List (List Sign)) (i : ℕ) (s : List Sign) → All (IsPart q) xs → slice_get xs i ≡ Some s → IsPart q s
part-here q xs i s a e = All-contains (IsPart q) xs s a (among xs i e)
  where
    among : (xs : List (List Sign)) (i : ℕ) → slice_get xs i ≡ Some s → Contains xs s
    among [] i e = absurd cc
    among (x ∷ xs) zero e = (0, omega arith, cc)
    among (x ∷ xs) (suc i) e = let r = among xs i e in (suc r.0, (let l = r.1 in omega (arith, l)), r.2)

module _ (q : QueryValue) (within : IsWithinLimits q) (ps : List Part) (parts : AreParts q (sign_lists ps)) (f : Failure) where
  record Named : Type 0 where
    pub counts : IsFalse (is_filter q)
    pub fails : Fails q (sign_lists ps) f
    pub least : (g : Failure) → failure_lt g f ≡ true → Fails q (sign_lists ps) g → ⊥

  named : IsViolation q (Some f) → Named
  named (filter t e) = absurd cc
  named (first t others are ff) = record {
    counts = t;
    fails = subst (λ (xs : List (List Sign)). Fails q xs f) same ff.0;
    least = λ g l h. ff.1 g l (subst (λ (xs : List (List Sign)). Fails q xs g) (sym same) h);
  }
    where
      same : others ≡ sign_lists ps
      same = one_list_of_parts q others (sign_lists ps) are parts

  pub part-below : IsViolation q (Some f) → (f.part - 1 < length ps) × (0 < f.part)
  part-below v = let n = named v in elim ps as (λ z. slice_get (sign_lists z) (f.part - 1) ≡ Some n.fails.signs → (f.part - 1 < length z) × (0 < f.part)) [
    | [] ↦ (λ e. absurd cc)
    | p ∷ rest ↦ (λ e. ((found-at (p ∷ rest) (f.part - 1) n.fails.signs p e).0, n.fails.number))
  ] n.fails.at

  pub part-broken : IsViolation q (Some f) → (d : Part) → IsBroken q (slice_index_or ps (f.part - 1) d).signs.items f.condition f.attr
  part-broken v d =
      let n = named v in
      let r = found-at ps (f.part - 1) n.fails.signs d n.fails.at in
      subst (λ (s : List Sign). IsBroken q s f.condition f.attr) (sym r.1) record {
        counts = n.counts;
        within = within;
        part = part-here q (sign_lists ps) (f.part - 1) n.fails.signs parts.each n.fails.at;
        breaks = n.fails.breaks;
        second = λ third b h. n.least (record { part = f.part; condition = C2; attr = b }) (before third b) record {
          signs = n.fails.signs;
          number = n.fails.number;
          at = n.fails.at;
          breaks = h;
        };
      }
    where
      earlier : (part : ℕ) (b c : Attr) → failure_lt record { part = part; condition = C2; attr = b } record { part = part; condition = C3; attr = c } ≡ true
      earlier part b c = grind arith

      before : f.condition ≡ C3 → (b : Attr) → failure_lt record { part = f.part; condition = C2; attr = b } f ≡ true
      before third b = subst (λ (c : Condition). failure_lt record { part = f.part; condition = C2; attr = b } record { part = f.part; condition = c; attr = f.attr } ≡ true) (sym third) (earlier f.part b f.attr)

-- the node of a column
pub node-there : (attrs : List Attr) (a : Attr) (place : ℕ) → place ≡ place_of attrs a → place < length attrs → IsNodeOf attrs a (place + 1)
node-there attrs a place e l = record {
  there = λ c. omega (arith, e);
  named = λ k. Contains-from_has attrs a (node_has attrs a (node_within attrs a (omega (arith, e, l))));
  within = omega (arith, l);
}

pub node-none : (attrs : List Attr) (a : Attr) (place : ℕ) → place ≡ place_of attrs a → length attrs ≤ place → IsNodeOf attrs a 0
node-none attrs a place e l = record {
  there = λ c. absurd (let k = place_below attrs a (Has-from_contains attrs a c) in omega (arith, e, l, k));
  named = λ k. absurd (omega (arith, k));
  within = omega arith;
}
