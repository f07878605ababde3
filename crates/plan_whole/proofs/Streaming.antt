-- The dims of a stream, column by column.
use Rattle.std.proofs.Common.{◌≡◌, ◌≢◌, ℕ, ◌+◌, ◌<◌, ◌≤◌, ◌⊎◌, inl, inr, ◌↔◌, IsTrue, List, [], ◌∷◌, ◌++◌, map, length, Bool, true, Option, Some, None, get_or, append-nil, length-append, refl, sym, ◌∙◌, ap, subst, arith}
use Rattle.std.proofs.lemmas.Bool.Decides.{nat_tests}
use Rattle.std.proofs.lemmas.List.{map-append, get_or_append_left}
use Rattle.std.proofs.Math.Seq.{get_or-append_seam}
use Rattle.sem_query.specs.declared.atom.Attr.{Attr}
use Rattle.sem_query.specs.declared.atom.Atom.{Atom}
use Rattle.sem_query.specs.declared.plan.Kind.{Kind}
use Rattle.sem_query.specs.Query.{QueryValue, attr_lt}
use Rattle.sem_query.specs.Members.{Ascends, none, more}
use Rattle.sem_query.proofs.Has.{Has, first, later, Has-nil, Has-append_left, Has-append_right, Has-append_cases}
use Rattle.sem_query.proofs.Split.{pairs_from}
use Rattle.sem_laws.proofs.OnePartFits.{has_cases}
use Rattle.sem_whole.specs.System.{system, AreOneClass}
use Rattle.sem_whole.specs.Links.{AreLinks}
use Rattle.sem_whole.specs.Whole as Whole
use Rattle.sem_whole.specs.Whole.{KeptDim, StreamKeep, IsRead, IsServed}
use Rattle.sem_whole.specs.Plan as Plan
use Rattle.sem_whole.specs.Plan.{HasRead, IsOfExtreme, IsPlannedKind, IsPlannedDim, IsPlannedStream}
use Rattle.sem_whole.specs.Signed.{IsWellFormed}
use Rattle.sem_whole.proofs.CutLaw.{class_itself}
use Rattle.sem_whole.proofs.Unbroken.{class_on}
use Rattle.plan_whole.specs.declared.extreme.KeptClass.{KeptClass}
use Rattle.plan_whole.specs.declared.streams.KeptStream.{KeptStream}
use Rattle.plan_whole.specs.Columns.{listed}
use Rattle.plan_whole.specs.Extremes.{column_at}
use Rattle.plan_whole.specs.Streams as Streams
use Rattle.plan_whole.specs.Streams.{dim_of, keep_of, HasNoDim, IsDimOf, ArePlanned}
use Rattle.plan_whole.proofs.Choosing.{read_column}

-- the class of the extreme, by the kind
least_of : {a b : Attr} → Kind.Least a ≡ Kind.Least b → a ≡ b
least_of {a} {b} e = cc

greatest_of : {a b : Attr} → Kind.Greatest a ≡ Kind.Greatest b → a ≡ b
greatest_of {a} {b} e = cc

pub least_told : (q : QueryValue) (k : Kind) (a e : Attr) (b : Bool) → k ≡ Kind.Least e → IsTrue b ↔ AreOneClass (system q) e a → IsTrue b ↔ IsOfExtreme q k a
least_told q k a e b i t = (λ h. Plan.of_least e i (t.0 h), from)
  where
    from : IsOfExtreme q k a → IsTrue b
    from (Plan.of_least f j c) = t.1 (subst (λ f. AreOneClass (system q) f a) (sym (least_of (sym i ∙ j))) c)
    from (Plan.of_greatest f j c) = let g : Kind.Least e ≡ Kind.Greatest f = sym i ∙ j in absurd cc

pub greatest_told : (q : QueryValue) (k : Kind) (a e : Attr) (b : Bool) → k ≡ Kind.Greatest e → IsTrue b ↔ AreOneClass (system q) e a → IsTrue b ↔ IsOfExtreme q k a
greatest_told q k a e b i t = (λ h. Plan.of_greatest e i (t.0 h), from)
  where
    from : IsOfExtreme q k a → IsTrue b
    from (Plan.of_greatest f j c) = t.1 (subst (λ f. AreOneClass (system q) f a) (sym (greatest_of (sym i ∙ j))) c)
    from (Plan.of_least f j c) = let g : Kind.Greatest e ≡ Kind.Least f = sym i ∙ j in absurd cc

-- one more behind all others
ascends_push : (xs : List KeptDim) (x : KeptDim) → Ascends (λ d e. attr_lt d.attr e.attr) xs → ((y : KeptDim) → Has xs y → attr_lt y.attr x.attr ≡ true) → Ascends (λ d e. attr_lt d.attr e.attr) (xs ++ x ∷ [])
ascends_push [] x a f = more (λ y h. Has-nil h) none
ascends_push (y ∷ xs) x (more p a) f = more (λ z h. by z (Has-append_cases xs (x ∷ []) z h)) (ascends_push xs x a (λ z h. f z (later h)))
  where
    by : (z : KeptDim) → Has xs z ⊎ Has (x ∷ []) z → attr_lt y.attr z.attr ≡ true
    by z (inl h) = p z h
    by z (inr h) = elim (has_cases x z [] h) [ inl e ↦ subst (λ z. attr_lt y.attr z.attr ≡ true) e (f y first) | inr n ↦ Has-nil n ]

before : (place : ℕ) (a b : Attr) → a.stream ≡ place → b.stream ≡ place → a.column < b.column → attr_lt a b ≡ true
before place a b e f l = grind (arith, nat_tests, e, f, l)

module _ (q : QueryValue) (links : List Atom) (place : ℕ) (kind : Kind) where
  -- the dims of the first columns
  pub record AreDimsOf (n : ℕ) (dims : List KeptClass) : Type 0 where
    pub few : length dims ≤ n
    pub ascends : Ascends (λ d e. attr_lt d.attr e.attr) (map dim_of dims)
    pub below : (d : KeptDim) → Has (map dim_of dims) d → d.attr.column < n
    pub planned : (d : KeptDim) → Has (map dim_of dims) d → IsPlannedDim q links place kind d
    pub served : (c : ℕ) → c < n → HasRead q links (column_at place c) → IsServed q (keep_of dims kind) (column_at place c)

  pub dims_first : AreDimsOf 0 []
  dims_first = record { few = omega arith; ascends = none; below = λ d h. Has-nil h; planned = λ d h. Has-nil h; served = λ c l. absurd (omega (arith, l)) }

  earlier : (c n : ℕ) → c < n + 1 → (c < n) ⊎ (c ≡ n)
  earlier c n l = grind (arith, l)

  by_class : (dims : List KeptClass) (a b : Attr) → AreOneClass (system q) a b → IsServed q (keep_of dims kind) a → IsServed q (keep_of dims kind) b
  by_class dims a b c (Whole.dim d h i) = Whole.dim d h (class_on (system q) d.attr a b i c)
  by_class dims a b c (Whole.least e k i) = Whole.least e k (class_on (system q) e a b i c)
  by_class dims a b c (Whole.greatest e k i) = Whole.greatest e k (class_on (system q) e a b i c)

  of_extreme : (dims : List KeptClass) (a : Attr) → IsOfExtreme q kind a → IsServed q (keep_of dims kind) a
  of_extreme dims a (Plan.of_least e k c) = Whole.least e k c
  of_extreme dims a (Plan.of_greatest e k c) = Whole.greatest e k c

  read_on : (a b : Attr) → AreOneClass (system q) a b → HasRead q links b → HasRead q links a
  read_on a b c r = record { member = r.member; inside = class_on (system q) a b r.member c r.inside; read = r.read }

  named_before : (n : ℕ) (m : Attr) → m.stream ≡ place → m.column ≤ n → m ≢ column_at place n → m.column < n
  named_before n m e l d = by (earlier m.column n (omega (arith, l)))
    where
      by : (m.column < n) ⊎ (m.column ≡ n) → m.column < n
      by (inl k) = k
      by (inr f) = absurd (d (λ i. record { stream = e i; column = f i }))

  pub dims_none : (n : ℕ) (dims : List KeptClass) → HasNoDim q links kind (column_at place n) → AreDimsOf n dims → AreDimsOf (n + 1) dims
  dims_none n dims no_dim h = record {
    few = (let f = h.few in omega (arith, f));
    ascends = h.ascends;
    below = λ d k. (let f = h.below d k in omega (arith, f));
    planned = h.planned;
    served = λ c l r. elim (earlier c n l) [
      | inl k ↦ h.served c k r
      | inr e ↦ subst (λ c. IsServed q (keep_of dims kind) (column_at place c)) (sym e) (by no_dim (subst (λ c. HasRead q links (column_at place c)) e r))
    ];
  }
    where
      by : HasNoDim q links kind (column_at place n) → HasRead q links (column_at place n) → IsServed q (keep_of dims kind) (column_at place n)
      by (Streams.later m i d) r =
          let e : m ≡ column_at place m.column = (λ j. record { stream = i.inside.stream j; column = m.column }) in
          let l : m.column < n = named_before n m i.inside.stream i.early d in
          let s : IsServed q (keep_of dims kind) m = subst (IsServed q (keep_of dims kind)) (sym e) (h.served m.column l (subst (HasRead q links) e (read_on m (column_at place n) i.inside r))) in
          by_class dims m (column_at place n) i.inside s
      by (Streams.unread n) r = absurd (n r)
      by (Streams.extreme x) r = of_extreme dims (column_at place n) x

  more_served : (dims : List KeptClass) (k : KeptClass) (a : Attr) → IsServed q (keep_of dims kind) a → IsServed q (keep_of (dims ++ k ∷ []) kind) a
  more_served dims k a (Whole.dim d h c) = Whole.dim d (subst (λ z. Has z d) (sym (map-append dim_of dims (k ∷ []))) (Has-append_left (dim_of k ∷ []) h)) c
  more_served dims k a (Whole.least e f c) = Whole.least e f c
  more_served dims k a (Whole.greatest e f c) = Whole.greatest e f c

  pub dims_more : (n : ℕ) (dims : List KeptClass) (k : KeptClass) → (k.attr ≡ column_at place n) × IsPlannedDim q links place kind (dim_of k) → AreDimsOf n dims → AreDimsOf (n + 1) (dims ++ k ∷ [])
  dims_more n dims k p h = record {
    few = (let f = h.few in let e = length-append dims (k ∷ []) in omega (arith, f, e));
    ascends = subst (Ascends (λ d e. attr_lt d.attr e.attr)) (sym (map-append dim_of dims (k ∷ []))) (ascends_push (map dim_of dims) (dim_of k) h.ascends (λ y i. before place y.attr k.attr (h.planned y i).here p.1.here (let b = h.below y i in let c : k.attr.column ≡ n = ap (λ a. a.column) p.0 in omega (arith, b, c))));
    below = λ d i. elim (cases d i) [ inl j ↦ (let b = h.below d j in omega (arith, b)) | inr e ↦ (let c : d.attr.column ≡ n = ap (λ d. d.attr.column) (sym e) ∙ ap (λ a. a.column) p.0 in omega (arith, c)) ];
    planned = λ d i. elim (cases d i) [ inl j ↦ h.planned d j | inr e ↦ subst (IsPlannedDim q links place kind) e p.1 ];
    served = λ c l r. elim (earlier c n l) [
      | inl j ↦ more_served dims k (column_at place c) (h.served c j r)
      | inr e ↦ Whole.dim (dim_of k) here (subst (λ a. AreOneClass (system q) k.attr a) (p.0 ∙ ap (column_at place) (sym e)) (class_itself (system q) k.attr))
    ];
  }
    where
      here : Has (map dim_of (dims ++ k ∷ [])) (dim_of k)
      here = subst (λ z. Has z (dim_of k)) (sym (map-append dim_of dims (k ∷ []))) (Has-append_right (map dim_of dims) first)

      cases : (d : KeptDim) → Has (map dim_of (dims ++ k ∷ [])) d → Has (map dim_of dims) d ⊎ (dim_of k ≡ d)
      cases d i = elim (Has-append_cases (map dim_of dims) (dim_of k ∷ []) d (subst (λ z. Has z d) (map-append dim_of dims (k ∷ [])) i)) [
        | inl j ↦ inl j
        | inr j ↦ elim (has_cases (dim_of k) d [] j) [ inl e ↦ inr e | inr z ↦ Has-nil z ]
      ]

  -- one column more
  pub dims_step : (n : ℕ) (dims new : List KeptClass) (o : Option KeptClass) → IsDimOf q links kind (column_at place n) o → new ≡ dims ++ listed o → AreDimsOf n dims → AreDimsOf (n + 1) new
  dims_step n dims new None d e h = subst (AreDimsOf (n + 1)) (sym (e ∙ append-nil dims)) (dims_none n dims d h)
  dims_step n dims new (Some k) d e h = subst (AreDimsOf (n + 1)) (sym e) (dims_more n dims k d h)

  pub stream_is : AreLinks q links → IsWellFormed q → (dims : List KeptClass) → IsPlannedKind q links place kind → AreDimsOf 8 dims → IsPlannedStream q links place (keep_of dims kind)
  stream_is are w dims k h = record {
    kind = k;
    ascending = pairs_from (λ d e. attr_lt d.attr e.attr) (map dim_of dims) h.ascends;
    dims = h.planned;
    all = λ a e r.
        (let f : a ≡ column_at place a.column = (λ i. record { stream = e i; column = a.column }) in
        let m : HasRead q links a = record { member = a; inside = class_itself (system q) a; read = r } in
        subst (IsServed q (keep_of dims kind)) (sym f) (h.served a.column (read_column q links are w a r) (subst (HasRead q links) f m)));
  }

-- what is kept of the first streams
pub record ArePlannedTo (q : QueryValue) (links : List Atom) (n : ℕ) (streams : List KeptStream) : Type 0 where
  pub count : length streams ≡ n
  pub each : (place : ℕ) (d : KeptStream) → place < length streams → IsPlannedStream q links place (keep_of (get_or streams place d).dims.items (get_or streams place d).kind)

pub planned_first : (q : QueryValue) (links : List Atom) → ArePlannedTo q links 0 []
planned_first q links = record { count = refl; each = λ place d l. absurd (omega (arith, l)) }

pub planned_more : (q : QueryValue) (links : List Atom) (n p : ℕ) (streams new : List KeptStream) (s : KeptStream) → p ≡ n → IsPlannedStream q links p (keep_of s.dims.items s.kind) → new ≡ streams ++ s ∷ [] → ArePlannedTo q links n streams
    → ArePlannedTo q links (n + 1) new
planned_more q links n p streams new s same is e h = subst (ArePlannedTo q links (n + 1)) (sym e) record {
  count = (let f = h.count in let g = length-append streams (s ∷ []) in omega (arith, f, g));
  each = λ place d l. by place d (cases place l);
}
  where
    cases : (place : ℕ) → place < length (streams ++ s ∷ []) → (place < length streams) ⊎ (place ≡ length streams)
    cases place l = let g = length-append streams (s ∷ []) in grind (arith, l, g)

    by : (place : ℕ) (d : KeptStream) → (place < length streams) ⊎ (place ≡ length streams) → IsPlannedStream q links place (keep_of (get_or (streams ++ s ∷ []) place d).dims.items (get_or (streams ++ s ∷ []) place d).kind)
    by place d (inl l) = subst (λ z. IsPlannedStream q links place (keep_of z.dims.items z.kind)) (sym (get_or_append_left streams (s ∷ []) d place l)) (h.each place d l)
    by place d (inr f) =
        let g : get_or (streams ++ s ∷ []) place d ≡ s = subst (λ n. get_or (streams ++ s ∷ []) n d ≡ s) (sym f) (get_or-append_seam streams s [] d) in
        let o : p ≡ place = same ∙ sym h.count ∙ sym f in
        subst (λ z. IsPlannedStream q links place (keep_of z.dims.items z.kind)) (sym g) (subst (λ n. IsPlannedStream q links n (keep_of s.dims.items s.kind)) o is)

pub planned_all : (q : QueryValue) (links : List Atom) (n : ℕ) (streams : List KeptStream) → n ≡ length q.from → ArePlannedTo q links n streams → ArePlanned q links streams
planned_all q links n streams e h = record { count = h.count ∙ e; each = h.each }
