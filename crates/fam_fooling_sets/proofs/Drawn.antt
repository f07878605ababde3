-- What is drawn from values that satisfy the query is a family where these stay apart.
use Rattle.std.proofs.Common.{◌≡◌, ℕ, suc, ◌<◌, ◌≤◌, ◌⊎◌, inl, inr, nat_eq, nat_lt, List, [], length, cond, Bool, true, false, sym, ap, ◌∙◌, subst, arith, ℤ, pos, slice_index_or, FitsSigned, w64, Contains, IsFalse}
use Rattle.std.specs.Prelude.{if◌then◌else◌}
use Rattle.std.proofs.lemmas.Int.{ints}
use Rattle.std.proofs.lemmas.Bool.Decides.{nat_tests}
use Rattle.std.proofs.lemmas.List.Elements.{All-contains}
use Rattle.arrayvec.specs.ArrayVec.{ArrayVec as Items}
use Rattle.sem_query.specs.declared.atom.Attr.{Attr}
use Rattle.sem_query.specs.declared.atom.Domain.{Domain}
use Rattle.sem_query.specs.declared.condition.Condition.{Condition}
use Rattle.sem_query.specs.declared.condition.Condition.TheVariants.{C1}
use Rattle.sem_query.specs.Query.{QueryValue, attrs_of, is_filter, IsWithinLimits}
use Rattle.sem_query.specs.Assignment.{Assignment, lies_in, Holds}
use Rattle.sem_query.proofs.Has.{Has, Has-from_contains, Contains-from_has}
use Rattle.sem_laws.proofs.Queries.{query_within}
use Rattle.plan_constraints.specs.Nodes.{place_of, assignment_of, low_of}
use Rattle.plan_constraints.proofs.NodeFacts.{node_there, node_has, place_below}
use Rattle.plan_constraints.proofs.OfDomains.{node_within}
use Rattle.plan_closure.specs.Answers.{at_nodes}
use Rattle.fam_motions.specs.Values.{valued, KeepsTo, IsSolution}
use Rattle.fam_motions.specs.Apart.{values_at, assigned, AreSolutions, mixture, Differ, LaterMixesFail, EarlierMixesFail, OnlyNextMixesFail, both, later, earlier, next}
use Rattle.fam_motions.specs.Found.{AreApart, AreApartOnce, AreApartAsNext, AreDifferent}
use Rattle.fam_fooling_sets.specs.declared.ground.Ground.{Ground}
use Rattle.fam_fooling_sets.specs.Blanks.{IsRead, AreBlanks}
use Rattle.fam_fooling_sets.specs.Family.{FamilyValue}
use Rattle.fam_fooling_sets.specs.Shown.{rows_in}
use Rattle.fam_fooling_sets.specs.Drawing.{drawn_value, AreDrawnMembers, IsOpenIn, attribute, selected, IsDrawnFamily, IsFamilyLike}
use Rattle.fam_fooling_sets.proofs.Cells.{nodes-at, far-fits}
use Rattle.fam_fooling_sets.proofs.Telling.{holds-same}
use Rattle.fam_fooling_sets.proofs.Made.{AreDrawn, IsGroundFor, drawn-solutions, drawn-at, drawn-agree, drawn-asks, drawn-like}
use Rattle.fam_fooling_sets.proofs.Mixing.{different-values-tell, apart-tell}

before : (x y : ℕ) → (x < y) ⊎ (y ≤ x)
before x y = grind arith

-- the value at an attribute, and at another column
value-there : (attrs : List Attr) (xs : List ℤ) (a : Attr) (k : ℕ) → place_of attrs a < length xs → drawn_value attrs xs a k ≡ valued attrs xs a
value-there attrs xs a k l = let e : nat_lt (place_of attrs a) (length xs) ≡ true = grind (arith, nat_tests, l) in ap (λ (t : Bool). if t then valued attrs xs a else pos k) e

value-past : (attrs : List Attr) (xs : List ℤ) (a : Attr) (k : ℕ) → length xs ≤ place_of attrs a → drawn_value attrs xs a k ≡ pos k
value-past attrs xs a k l = let e : nat_lt (place_of attrs a) (length xs) ≡ false = grind (arith, nat_tests, l) in ap (λ (t : Bool). if t then valued attrs xs a else pos k) e

module _ (q : QueryValue) (within : IsWithinLimits q) (a : Attr) (g : Ground) (all : List (Items ℤ)) (f : FamilyValue)
    (ground : IsGroundFor q a g) (open_in : IsOpenIn q a) (blanks : AreBlanks q (rows_in g.blanks.now)) (stream : f.stream ≡ slice_index_or q.from a.stream 0)
    (are : AreSolutions q (length all) all) (small : length all ≤ 65535) (made : AreDrawnMembers g all a.stream (length all) f.rows f.asking) where
  abbrev attrs : List Attr
  attrs = attrs_of q.atoms

  abbrev xs : ℕ → List ℤ
  xs k = values_at all k

  abbrev val : ℕ → ℤ
  val k = drawn_value g.attrs.now (xs k) g.named k

  abbrev base : ℕ → Assignment
  base k = assignment_of attrs q.domains (at_nodes (xs k))

  solution : (k : ℕ) → k < length all → IsSolution q (xs k)
  solution k l = are.each k (record { items = [] }) l

  read : IsRead q a
  read = at open_in
    where
      at : IsOpenIn q a → IsRead q a
      at (attribute c) = inl c
      at (selected c lacks) = inr c

  there : a.stream < length q.from
  there = at open_in
    where
      at : IsOpenIn q a → a.stream < length q.from
      at (attribute c) = (query_within q within).atoms a c
      at (selected c lacks) = (query_within q within).select a c

  free : (d : Domain) → Has q.domains d → (Contains attrs d.attr → ⊥) → d.attr ≡ a → ⊥
  free d h nc e = at open_in
    where
      at : IsOpenIn q a → ⊥
      at (attribute c) = nc (subst (λ (b : Attr). Contains attrs b) (sym e) c)
      at (selected c lacks) = lacks d (Contains-from_has q.domains d h) e

  base-is : (k : ℕ) (b : Attr) → Has attrs b → base k b ≡ assigned q all k b
  base-is k b h = ap (λ t. cond t (at_nodes (xs k) (suc (place_of attrs b))) (low_of q.domains b)) (node_there attrs b h) ∙ nodes-at (xs k) (place_of attrs b)

  fits : (k : ℕ) → k < length all → FitsSigned w64 (val k)
  fits k l = elim (before (place_of g.attrs.now g.named) (length (xs k))) [
    | inl m ↦ subst (FitsSigned w64) (sym (value-there g.attrs.now (xs k) g.named k m)) (far-fits (valued g.attrs.now (xs k) g.named) ((solution k l).far (place_of g.attrs.now g.named) (pos 0) m))
    | inr m ↦ subst (FitsSigned w64) (sym (value-past g.attrs.now (xs k) g.named k m)) record { sfits = omega (arith, ints, l, small) }
  ]

  drawn : AreDrawn q a g (length all) f xs val
  drawn = record {
    holds = λ k l. holds-same q (assigned q all k) (base k) (λ b h. sym (base-is k b h)) (solution k l).holds;
    keeps = λ k l d h m.
        subst (λ z. lies_in d z ≡ true) (sym (base-is k d.attr m))
        (All-contains (KeepsTo attrs (xs k)) q.domains d (solution k l).keeps (Contains-from_has q.domains d h) (Contains-from_has attrs d.attr m));
    value = λ k l c.
        let m : place_of attrs a < length (xs k) = (let p = place_below attrs a (Has-from_contains attrs a c) in let e = (solution k l).many in omega (arith, p, e)) in
        nodes-at (xs k) (place_of attrs a) ∙ sym (value-there attrs (xs k) a k m) ∙ sym (val-is k);
    value_fits = fits;
    far = λ k l. (solution k l).far;
    own = λ k l. (made.each k l).row_is;
    asks = λ k l. (made.each k l).asked_is;
  }
    where
      val-is : (k : ℕ) → val k ≡ drawn_value attrs (xs k) a k
      val-is k = ap (λ (ks : List Attr). drawn_value ks (xs k) g.named k) ground.attrs_are ∙ ap (λ (b : Attr). drawn_value attrs (xs k) b k) ground.named_is

  val-of : (k : ℕ) → val k ≡ drawn_value attrs (xs k) a k
  val-of k = ap (λ (ks : List Attr). drawn_value ks (xs k) g.named k) ground.attrs_are ∙ ap (λ (b : Attr). drawn_value attrs (xs k) b k) ground.named_is

  pub drawn-family : IsDrawnFamily q a (rows_in g.blanks.now) all f
  drawn-family = record {
    within = within;
    stream = stream;
    size = made.many;
    many = made.asked;
    asks = drawn-asks q within a g (length all) f ground read free there blanks stream xs val drawn;
    made = drawn-solutions q within a g (length all) f ground read free there blanks stream xs val drawn;
    agrees = λ k l b c.
        let h : Has attrs b = Has-from_contains attrs b c in
        drawn-agree q within a g (length all) f ground read free there blanks stream xs val drawn k l b h ∙ base-is k b h;
    named = λ k l. drawn-at q within a g (length all) f ground read free there blanks stream xs val drawn k ∙ val-of k;
    like = drawn-like q within a g (length all) f ground read free there blanks stream xs val drawn;
  }

module _ (q : QueryValue) (a : Attr) (blanks : List (List ℤ)) (all : List (Items ℤ)) (f : FamilyValue) (is : IsDrawnFamily q a blanks all f) where
  agree : {x y u w : ℤ} (t : Bool) → x ≡ u → y ≡ w → cond t x y ≡ cond t u w
  agree true e o = e
  agree false e o = o

  -- mixtures of its assignments satisfy the query where those of the values do
  mixed-same : (j i : ℕ) → j < length all → i < length all → Holds q (mixture a.stream (is.made.at j) (is.made.at i)) → Holds q (mixture a.stream (assigned q all j) (assigned q all i))
  mixed-same j i l m =
      holds-same q (mixture a.stream (is.made.at j) (is.made.at i)) (mixture a.stream (assigned q all j) (assigned q all i)) (λ b h.
      let c : Contains (attrs_of q.atoms) b = Contains-from_has (attrs_of q.atoms) b h in
      agree (nat_eq b.stream a.stream) (is.agrees j l b c) (is.agrees i m b c))

  -- and the other way round
  mixed-back : (j i : ℕ) → j < length all → i < length all → Holds q (mixture a.stream (assigned q all j) (assigned q all i)) → Holds q (mixture a.stream (is.made.at j) (is.made.at i))
  mixed-back j i l m =
      holds-same q (mixture a.stream (assigned q all j) (assigned q all i)) (mixture a.stream (is.made.at j) (is.made.at i)) (λ b h.
      let c : Contains (attrs_of q.atoms) b = Contains-from_has (attrs_of q.atoms) b h in
      agree (nat_eq b.stream a.stream) (sym (is.agrees j l b c)) (sym (is.agrees i m b c)))

  earlier-one : (i j n : ℕ) → i < j → j < n → i < n
  earlier-one i j n l m = omega (arith, l, m)

  later-fail : LaterMixesFail q a.stream (length all) (assigned q all) → LaterMixesFail q a.stream (length all) is.made.at
  later-fail fail i j l m h = fail i j l m (mixed-same j i m (earlier-one i j (length all) l m) h)

  earlier-fail : EarlierMixesFail q a.stream (length all) (assigned q all) → EarlierMixesFail q a.stream (length all) is.made.at
  earlier-fail fail i j l m h = fail i j l m (mixed-same i j (earlier-one i j (length all) l m) m h)

  next-fail : OnlyNextMixesFail q a.stream (length all) (assigned q all) → OnlyNextMixesFail q a.stream (length all) is.made.at
  next-fail only i j l m = record {
    fails = λ e h. (only i j l m).fails e (mixed-same j i m l h);
    holds = λ o. mixed-back j i m l ((only i j l m).holds o);
  }

  in-from : Contains (attrs_of q.atoms) a → a.stream < length q.from
  in-from c = (query_within q is.within).atoms a c

  pub kept-apart : (condition : Condition) (n : ℕ) → (condition ≡ C1 → ⊥) → 1 < length q.from → Contains (attrs_of q.atoms) a → AreApart q a.stream n all → IsFamilyLike q blanks condition a n f
  kept-apart condition n not_first several c apart = subst (λ (m : ℕ). IsFamilyLike q blanks condition a m f) apart.solutions.many record {
    read = inl c;
    family = apart-tell q condition a (length all) f not_first is.within several (in-from c) is.stream is.size is.many is.asks is.made (both (later-fail apart.later) (earlier-fail apart.earlier));
    like = is.like;
  }

  pub kept-apart-once : (condition : Condition) (n : ℕ) → (condition ≡ C1 → ⊥) → IsFalse q.distinct → 1 < length q.from → Contains (attrs_of q.atoms) a → AreApartOnce q a.stream n all
      → IsFamilyLike q blanks condition a n f
  kept-apart-once condition n not_first plain several c once = subst (λ (m : ℕ). IsFamilyLike q blanks condition a m f) once.solutions.many record {
    read = inl c;
    family = apart-tell q condition a (length all) f not_first is.within several (in-from c) is.stream is.size is.many is.asks is.made (elim once.apart [ inl l ↦ later plain (later-fail l) | inr e ↦ earlier plain (earlier-fail e) ]);
    like = is.like;
  }

  pub kept-apart-as-next : (condition : Condition) (n : ℕ) → (condition ≡ C1 → ⊥) → IsFalse q.distinct → 1 < length q.from → Contains (attrs_of q.atoms) a → AreApartAsNext q a.stream n all
      → IsFamilyLike q blanks condition a n f
  kept-apart-as-next condition n not_first plain several c found = subst (λ (m : ℕ). IsFamilyLike q blanks condition a m f) found.solutions.many record {
    read = inl c;
    family = apart-tell q condition a (length all) f not_first is.within several (in-from c) is.stream is.size is.many is.asks is.made (next plain (next-fail found.next));
    like = is.like;
  }

  pub kept-different : (n : ℕ) → IsFalse (is_filter q) → Contains q.select a → AreSolutions q n all → AreDifferent q all a → IsFamilyLike q blanks C1 a n f
  kept-different n counted chosen are different = subst (λ (m : ℕ). IsFamilyLike q blanks C1 a m f) are.many record {
    read = inr chosen;
    family = different-values-tell q a (length all) f is.within counted ((query_within q is.within).select a chosen) chosen is.stream is.size is.many is.asks is.made differ;
    like = is.like;
  }
    where
      long : (k : ℕ) → k < length all → length (values_at all k) ≡ length (attrs_of q.atoms)
      long k l = (are.each k (record { items = [] }) l).many

      number : (i j : ℕ) → pos i ≡ pos j → i ≡ j
      number i j e = omega (arith, ints, e)

      differ : Differ (length all) is.made.at a
      differ i j l m e = elim (before (place_of (attrs_of q.atoms) a) (length (attrs_of q.atoms))) [
        | inl o ↦ (
            let c : Contains (attrs_of q.atoms) a = Contains-from_has (attrs_of q.atoms) a (node_has (attrs_of q.atoms) a (node_within (attrs_of q.atoms) a o)) in
            different c i j l m (sym (is.agrees i l a c) ∙ e ∙ is.agrees j m a c))
        | inr o ↦
            number i j
            (sym (value-past (attrs_of q.atoms) (values_at all i) a i (let z = long i l in omega (arith, z, o))) ∙ sym (is.named i l) ∙ e ∙ is.named j m ∙ value-past (attrs_of q.atoms) (values_at all j) a j (let z = long j m in omega (arith, z, o)))
      ]
