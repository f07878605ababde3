-- The paths of a leaf, one after another.
use Rattle.std.proofs.Common.{◌≡◌, ◌≢◌, ℕ, ◌+◌, ◌*◌, ◌<◌, ◌≤◌, Bool, true, nat_lt, nat_eq, ◌&&◌, ◌||◌, List, [], ◌∷◌, ◌++◌, map, append_assoc, append-nil, inl, inr, refl, sym, ◌∙◌, ap, subst, arith, Result, Ok, Err}
use Rattle.std.proofs.lemmas.Bool.{cases_lt}
use Rattle.std.proofs.lemmas.Bool.Decides.{nat_tests}
use Rattle.std.proofs.lemmas.List.{map-append}
use Rattle.sem_query.proofs.Has.{Has, first, later, Has-append_left, Has-append_right, Has-append_cases}
use Rattle.sem_query.proofs.Unique.{Ascends, none, more}
use Rattle.plan_constraints.specs.declared.constraint.Constraint.{Constraint}
use Rattle.plan_constraints.specs.Solutions.{HasNoUpper}
use Rattle.cert_format.specs.declared.line.Path.{Path}
use Rattle.cert_format.specs.declared.line.Line.{Line}
use Rattle.cert_format.specs.declared.line.Line.TheVariants as line
use Rattle.cert_checker.specs.Rules.{path_lt}
use Rattle.cert_format.specs.Certificate.{HasRoom, last_of, takes_path}
use Rattle.cert_maker.specs.Leaf.{IsLeastPath, IsBetween, AddedPath, none as no_path, one, HasPath, free, bound, ArePathsTo, AddedTo, AddsPath, AddsPaths, AddsLeaf}
use Rattle.cert_maker.specs.declared.error.MakeError.{MakeError}
use Rattle.cert_maker.specs.declared.error.MakeError.TheVariants as why
use Rattle.cert_maker.specs.Tree.{AddsNext}
use Rattle.cert_maker.proofs.Lines.{last-append, length-nodes}

before_lt : (a b i j : ℕ) → b ≤ 12 → j ≤ 12 → 13 * a + b < 13 * i + j → (nat_lt a i || (nat_eq a i && nat_lt b j)) ≡ true
before_lt a b i j h k l = grind (arith, nat_tests)

only : {A : Type 0} (x z : A) → Has (x ∷ []) z → x ≡ z
only x z first = refl
only x z (later h) = elim h [ ]

ascends_end : {A : Type 0} (lt : A → A → Bool) (xs : List A) (x : A) → Ascends lt xs → ((y : A) → Has xs y → lt y x ≡ true) → Ascends lt (xs ++ x ∷ [])
ascends_end lt [] x a f = more (λ y h. elim h [ ]) none
ascends_end {A} lt (y ∷ xs) x (more p a) f =
    more {x = y} {xs = xs ++ x ∷ []}
    (λ z h. elim (Has-append_cases xs (x ∷ []) z h) [ inl i ↦ p z i | inr i ↦ subst (λ (w : A). lt y w ≡ true) (only x z i) (f y first) ])
    (ascends_end lt xs x a (λ z h. f z (later h)))

more_paths : (cs : List Constraint) (ps rs : List Path) (i j : ℕ) → HasPath cs ps i j → HasPath cs (ps ++ rs) i j
more_paths cs ps rs i j (free n) = free n
more_paths cs ps rs i j (bound p h b) = bound p (Has-append_left rs h) b

-- each of some paths and of one more
each_of : (P : Path → Type 0) (ps : List Path) (p : Path) → ((r : Path) → Has ps r → P r) → P p → (r : Path) → Has (ps ++ p ∷ []) r → P r
each_of P ps p f x r h = elim (Has-append_cases ps (p ∷ []) r h) [ inl i ↦ f r i | inr i ↦ subst P (only p r i) x ]

module _ (attrs : ℕ) (cs : List Constraint) (i j : ℕ) (ps : List Path) (few : attrs ≤ 12) (left : i ≤ attrs) (right : j ≤ attrs) (differ : i ≢ j) (are : ArePathsTo attrs cs (13 * i + j) ps) where
  -- what has the number k, or a lesser one
  one_further : (rs : List Path) → HasPath cs (ps ++ rs) i j → (a b : ℕ) → a ≤ attrs → b ≤ attrs → a ≢ b → 13 * a + b < 13 * i + j + 1 → HasPath cs (ps ++ rs) a b
  one_further rs here a b l r d k = elim (cases_lt (13 * a + b) (13 * i + j)) [
    | inl lt ↦ more_paths cs ps rs a b (are.all a b l r d lt)
    | inr ge ↦
        let e : a ≡ i = omega arith in
        let f : b ≡ j = omega arith in
        subst (λ (z : ℕ). HasPath cs (ps ++ rs) z b) (sym e) (subst (λ (z : ℕ). HasPath cs (ps ++ rs) i z) (sym f) here)
  ]

  paths_free : HasNoUpper cs i j → ArePathsTo attrs cs (13 * i + j + 1) ps
  paths_free n = record {
    least = are.least;
    from = are.from;
    to = are.to;
    differ = are.differ;
    before = λ p h. let l : 13 * p.from + p.to < 13 * i + j = are.before p h in omega arith;
    ascend = are.ascend;
    all = λ a b l r d k. subst (λ (z : List Path). HasPath cs z a b) (append-nil ps) (one_further [] (free n) a b l r d k);
  }

  paths_more : (p : Path) → IsBetween cs i j p → ArePathsTo attrs cs (13 * i + j + 1) (ps ++ p ∷ [])
  paths_more p b = record {
    least = each_of (IsLeastPath cs) ps p are.least b.least;
    from = each_of (λ r. r.from ≤ attrs) ps p are.from (omega (arith, b.from));
    to = each_of (λ r. r.to ≤ attrs) ps p are.to (omega (arith, b.to));
    differ = each_of (λ r. r.from ≢ r.to) ps p are.differ (λ e. differ (sym b.from ∙ e ∙ b.to));
    before = each_of (λ r. 13 * r.from + r.to < 13 * i + j + 1) ps p (λ r h. let l : 13 * r.from + r.to < 13 * i + j = are.before r h in omega arith) (omega (arith, b.from, b.to));
    ascend = ascends_end path_lt ps p are.ascend (λ r h. before_lt r.from r.to p.from p.to (omega (arith, are.to r h)) (omega (arith, b.to)) (omega (arith, are.before r h, b.from, b.to)));
    all = one_further (p ∷ []) (bound p (Has-append_right ps first) b);
  }

-- ---- behind a leaf

-- no path yet
pub added_none : (attrs : ℕ) (cs : List Constraint) (lines : List Line) → takes_path (last_of lines) ≡ true → AddedTo attrs cs 0 lines lines
added_none attrs cs lines t = record {
  paths = [];
  are = record {
    least = λ p h. elim h [ ];
    from = λ p h. elim h [ ];
    to = λ p h. elim h [ ];
    differ = λ p h. elim h [ ];
    before = λ p h. elim h [ ];
    ascend = none;
    all = λ i j l r d k. absurd (omega arith);
  };
  lines = sym (append-nil lines);
  takes = t;
}

-- on to a number, where no two nodes have a number between
pub added_on : (attrs : ℕ) (cs : List Constraint) (k m : ℕ) (old new : List Line) → k ≤ m → ((i j : ℕ) → i ≤ attrs → j ≤ attrs → i ≢ j → 13 * i + j < m → 13 * i + j < k) → AddedTo attrs cs k old new → AddedTo attrs cs m old new
added_on attrs cs k m old new l f a = record {
  paths = a.paths;
  are = record {
    least = a.are.least;
    from = a.are.from;
    to = a.are.to;
    differ = a.are.differ;
    before = λ p h. let b : 13 * p.from + p.to < k = a.are.before p h in omega arith;
    ascend = a.are.ascend;
    all = λ i j x y d b. a.are.all i j x y d (f i j x y d b);
  };
  lines = a.lines;
  takes = a.takes;
}

-- the path between the next two nodes, where there is one
pub added_more : (attrs : ℕ) (cs : List Constraint) (i j m : ℕ) (old mid new : List Line) → m ≡ 13 * i + j + 1 → attrs ≤ 12 → i ≤ attrs → j ≤ attrs → i ≢ j → AddedTo attrs cs (13 * i + j) old mid → AddedPath cs i j mid new → AddedTo attrs cs m old new
added_more attrs cs i j m old mid new at few l r d a (no_path n e) = record {
  paths = a.paths;
  are = subst (λ (z : ℕ). ArePathsTo attrs cs z a.paths) (sym at) (paths_free attrs cs i j a.paths few l r d a.are n);
  lines = e ∙ a.lines;
  takes = ap (λ z. takes_path (last_of z)) e ∙ a.takes;
}
added_more attrs cs i j m old mid new at few l r d a (one p b e) = record {
  paths = a.paths ++ p ∷ [];
  are = subst (λ (z : ℕ). ArePathsTo attrs cs z (a.paths ++ p ∷ [])) (sym at) (paths_more attrs cs i j a.paths few l r d a.are p b);
  lines = e ∙ ap (λ z. z ++ line.Path p ∷ []) a.lines ∙ append_assoc old (map line.Path a.paths) (line.Path p ∷ []) ∙ ap (λ z. old ++ z) (sym (map-append line.Path a.paths (p ∷ [])));
  takes = ap (λ z. takes_path (last_of z)) e ∙ ap takes_path (last-append mid (line.Path p));
}

-- a path begins no node
pub adds_path : (r : Result (Unit {0}) MakeError) (cs : List Constraint) (i j : ℕ) (p : Path) (old new : List Line) → IsBetween cs i j p → AddsNext r (line.Path p) old new → AddsPath r cs i j old new
adds_path (Ok u) cs i j p old new b h = one p b h.1
adds_path (Err why.Limit) cs i j p old new b h = absurd (omega (arith, length-nodes old (line.Path p ∷ []), h.full, h.more))
adds_path (Err why.Memory) cs i j p old new b h = tt

-- ---- the leaf itself

-- no leaf may be added
pub leaf_broke : (w : MakeError) (attrs : ℕ) (cs : List Constraint) (old mid new : List Line) (before after : ℕ) → AddsNext (Err w) line.Leaf old mid → AddsLeaf (Err w) attrs cs old new before after
leaf_broke why.Limit attrs cs old mid new before after h = inr h
leaf_broke why.Memory attrs cs old mid new before after h = tt

-- it was added, and its paths may have been
pub leaf_paths : (r : Result (Unit {0}) MakeError) (attrs : ℕ) (cs : List Constraint) (old mid new : List Line) (before after : ℕ) → after ≡ before + 1 → after ≤ 4096 → HasRoom old line.Leaf → mid ≡ old ++ line.Leaf ∷ [] → AddsPaths r attrs cs mid new → AddsLeaf r attrs cs old new before after
leaf_paths (Ok u) attrs cs old mid new before after m few room e h = record {
  paths = h.paths;
  are = h.are;
  lines = h.lines ∙ ap (λ z. z ++ map line.Path h.paths) e ∙ append_assoc old (line.Leaf ∷ []) (map line.Path h.paths);
  room = room;
  counted = m;
  few = few;
}
leaf_paths (Err why.Limit) attrs cs old mid new before after m few room e h = absurd h
leaf_paths (Err why.Memory) attrs cs old mid new before after m few room e h = tt
