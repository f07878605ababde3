-- The columns of the plan of the whole form are columns of the query's streams, where those of its comparisons and the selected ones are.
use Rattle.std.proofs.Common.{◌≡◌, ℕ, zero, suc, ◌<◌, ◌≤◌, ◌⊎◌, inl, inr, Bool, true, false, List, [], ◌∷◌, map, filter, length, get_or, cond, refl, sym, ap, subst, arith, All}
use Rattle.std.proofs.lemmas.Bool.Decides.{nat_tests}
use Rattle.std.proofs.lemmas.Bool.{cases_lt}
use Rattle.std.proofs.lemmas.List.{get_or_default, get_or_past}
use Rattle.std.proofs.lemmas.List.Elements.{All-contains}
use Rattle.sem_query.specs.declared.atom.Atom.{Atom}
use Rattle.sem_query.specs.declared.atom.Attr.{Attr}
use Rattle.sem_query.specs.declared.atom.Element.{Element}
use Rattle.sem_query.specs.declared.atom.Op.{Op}
use Rattle.sem_query.specs.declared.plan.Dim.{Dim}
use Rattle.sem_query.specs.declared.plan.Kind.{Kind}
use Rattle.sem_query.specs.declared.plan.Link.{Link}
use Rattle.sem_query.specs.declared.plan.PartPlan.{PartPlan}
use Rattle.sem_query.specs.declared.plan.SoftLink.{SoftLink}
use Rattle.sem_query.specs.declared.plan.StreamPlan.{StreamPlan}
use Rattle.sem_query.specs.Query.{QueryValue}
use Rattle.sem_query.specs.Plan.{stream_at, dims_at}
use Rattle.sem_query.proofs.Has.{Has, first, later, Has-nil, Contains-from_has, Has-map, Has-map_from, Has-filter_from, Has-filter_holds}
use Rattle.sql_catalog.specs.Streams.{Shape}
use Rattle.sql_parser.specs.Resolution.{IsColumnOf}
use Rattle.sem_whole.specs.System.{system}
use Rattle.sem_whole.specs.Links.{are_across, comparison, comes_late, turned_by, across, between_streams, AreLinks}
use Rattle.sem_whole.specs.Whole as whole
use Rattle.sem_whole.specs.Whole.{KeptDim, StreamKeep, IsRead}
use Rattle.sem_whole.specs.Plan.{NamesClass, HasRead, IsPlannedKind, IsPlannedStream}
use Rattle.sem_whole.proofs.Suffice.{once_from, thins_among}
use Rattle.sem_forms.specs.Part.{read_as, soft_as, has_op, is_soft, AreOwnDims, IsOwnStream, AreEqualDims, IsWholePartPlan}
use Rattle.sql_explain.proofs.NamedLinks.{HasAttributes, read_there, class_there}
use Rattle.sql_explain.specs.Named.{HasLink, HasSoftLink, HasDim, HasKind, HasStream, HasPart}

-- what is neither `=` nor `<` among the links reads `<=` or `<>`
abbrev ReadsSoft : Atom → Type 0
ReadsSoft t = is_soft t ≡ true → (t.op ≡ Op.Le) ⊎ (t.op ≡ Op.Ne)

turned_soft : (o : Op) (x y : Element) → ReadsSoft (turned_by o x y)
turned_soft Op.Lt x y h = absurd cc
turned_soft Op.Le x y h = inl refl
turned_soft Op.Gt x y h = absurd cc
turned_soft Op.Ge x y h = inl refl
turned_soft Op.Eq x y h = by (comes_late x y) h
  where
    by : (b : Bool) → ReadsSoft (cond b (comparison y Op.Eq x) (comparison x Op.Eq y))
    by true h = absurd cc
    by false h = absurd cc
turned_soft Op.Ne x y h = by (comes_late x y) h
  where
    by : (b : Bool) → ReadsSoft (cond b (comparison y Op.Ne x) (comparison x Op.Ne y))
    by true h = inr refl
    by false h = inr refl

link_soft : (q : QueryValue) (links : List Atom) → AreLinks q links → (t : Atom) → Has links t → ReadsSoft t
link_soft q links are t h =
    let r : (u : Atom) × Has (filter (λ t. are_across t.left t.right) q.atoms) u × (turned_by u.op u.left u.right ≡ t)
    = Has-map_from (λ t. turned_by t.op t.left t.right) (filter (λ t. are_across t.left t.right) q.atoms) t (once_from (between_streams q.atoms) t (thins_among (system q) [] (across q.atoms) links are t h)) in
    subst (λ t. ReadsSoft t) r.2 (turned_soft r.0.op r.0.left r.0.right)

-- a dim with its own range is of the column of one of the form
own_attr : (q : QueryValue) (ks : List KeptDim) (ds : List Dim) → AreOwnDims q ks ds → {d : Dim} → Has ds d → (k : KeptDim) × Has ks k × (k.attr ≡ d.attr)
own_attr q [] [] o h = Has-nil h
own_attr q [] (e ∷ ds) o h = absurd o
own_attr q (k ∷ ks) [] o h = absurd o
own_attr q (k ∷ ks) (e ∷ ds) o first = (k, first, sym o.0)
own_attr q (k ∷ ks) (e ∷ ds) o (later h) = (let r = own_attr q ks ds o.2 h in (r.0, later r.1, r.2))

-- what is kept of a stream that is not there
abbrev no_stream : StreamPlan
no_stream = record { dims = record { items = [] }; kind = Kind.Present; base = 0; size = 0 }

-- an item that was read is in its list
has_at : {X : Type 0} (xs : List X) (k : ℕ) (d : X) → k < length xs → Has xs (get_or xs k d)
has_at [] k d l = absurd (omega (arith, l))
has_at (x ∷ xs) zero d l = first
has_at (x ∷ xs) (suc k) d l = later (has_at xs k d (omega (arith, l)))

each_at : {X : Type 0} (P : X → Type 0) (xs : List X) → ((x : X) → Has xs x → P x) → All P xs
each_at P xs f k d l = f (get_or xs k d) (has_at xs k d l)

module _ (streams : List Shape) (q : QueryValue) (attr_there : HasAttributes streams q) (select : All (IsColumnOf streams q.from) q.select) (part : PartPlan) (is : IsWholePartPlan q part) where
  read : (a : Attr) → IsRead q is.links a → IsColumnOf streams q.from a
  read a h = read_there streams q attr_there select is.links is.plan.links a h

  named : (a : Attr) → NamesClass q a → HasRead q is.links a → IsColumnOf streams q.from a
  named a n r = class_there streams q attr_there select is.links is.plan.links a n r

  among : {L : Type 0} (f : L → Atom) (p : Atom → Bool) (ls : List L) (l : L) → map f ls ≡ filter p is.links → Has ls l → Has is.links (f l) × (p (f l) ≡ true)
  among f p ls l e k =
      let i : Has (filter p is.links) (f l) = subst (λ ts. Has ts (f l)) e (Has-map f k) in
      (Has-filter_from p is.links (f l) i, Has-filter_holds p is.links (f l) i)

  less_there : (l : Link) → Has part.less.items l → HasLink streams q.from l
  less_there l k =
      let a = among (read_as Op.Lt) (has_op Op.Lt) part.less.items l is.less k in
      (read l.left (whole.left (read_as Op.Lt l) a.0 refl), read l.right (whole.right (read_as Op.Lt l) a.0 refl))

  soft_there : (l : SoftLink) → Has part.soft.items l → HasSoftLink streams q.from l
  soft_there l k =
      let a = among soft_as is_soft part.soft.items l is.soft k in
      record {
        left = read l.left (whole.left (soft_as l) a.0 refl);
        right = read l.right (whole.right (soft_as l) a.0 refl);
        reads = link_soft q is.links is.plan.links (soft_as l) a.0 a.1;
      }

  kind_there : (place : ℕ) (kind : Kind) → IsPlannedKind q is.links place kind → HasKind streams q.from kind
  kind_there place Kind.Count p = tt
  kind_there place Kind.Present p = tt
  kind_there place (Kind.Least e) p = named e p.1.may.name p.1.may.read
  kind_there place (Kind.Greatest e) p = named e p.1.may.name p.1.may.read

  dim_there : (keep : StreamKeep) (place : ℕ) → IsPlannedStream q is.links place keep → (ds : List Dim) → AreOwnDims q keep.dims ds → (d : Dim) → Has ds d → HasDim streams q.from d
  dim_there keep place p ds own d h =
      let r = own_attr q keep.dims ds own h in
      let k = p.dims r.0 r.1 in
      subst (λ (a : Attr). IsColumnOf streams q.from a) r.2 (named r.0.attr k.name k.read)

  stream_there : (place : ℕ) → place < length q.from → HasStream streams q.from (stream_at part place)
  stream_there place l =
      let s : IsOwnStream q (is.keeps place) (stream_at part place) = is.streams place l in
      let p : IsPlannedStream q is.links place (is.keeps place) = is.plan.streams place l in
      record {
        dims = each_at (HasDim streams q.from) (stream_at part place).dims.items (dim_there (is.keeps place) place p (stream_at part place).dims.items s.dims);
        kind = subst (λ (k : Kind). HasKind streams q.from k) (sym s.kind) (kind_there place (is.keeps place).kind p.kind);
      }

  -- a stream that is not in FROM has no dims
  stream_in : (place : ℕ) (d : Dim) → Has (dims_at part place) d → place < length q.from
  stream_in place d h = elim (cases_lt place (length q.from)) [
    | inl l ↦ l
    | inr m ↦ absurd (none (dims_at part place) (ap (λ (s : StreamPlan). s.dims.items) (get_or_past part.streams.items place no_stream (let n = is.count in omega (arith, n, m)))) h)
  ]
    where
      none : (ds : List Dim) → ds ≡ [] → Has ds d → ⊥
      none ds e k = Has-nil (subst (λ z. Has z d) e k)

  -- a side of an equality is that of a dim
  side_there : (a : Attr) → (d : Dim) × Has (dims_at part a.stream) d × (d.attr ≡ a) → IsColumnOf streams q.from a
  side_there a d =
      let l : a.stream < length q.from = stream_in a.stream d.0 d.1 in
      let s : IsOwnStream q (is.keeps a.stream) (stream_at part a.stream) = is.streams a.stream l in
      subst (λ (x : Attr). IsColumnOf streams q.from x) d.2 (dim_there (is.keeps a.stream) a.stream (is.plan.streams a.stream l) (dims_at part a.stream) s.dims d.0 d.1)

  equal_there : (l : Link) → Has part.equal.items l → HasLink streams q.from l
  equal_there l k =
      let e : AreEqualDims q (dims_at part) l.left l.right = (is.equal l.left l.right).0 (Contains-from_has part.equal.items l k) in
      (side_there l.left e.left, side_there l.right e.right)

  -- the columns of the one part are there
  pub whole_named : HasPart streams q part
  whole_named = record {
    signs = inr is.signs;
    equal = each_at (HasLink streams q.from) part.equal.items equal_there;
    less = each_at (HasLink streams q.from) part.less.items less_there;
    soft = each_at (HasSoftLink streams q.from) part.soft.items soft_there;
    kept = λ k d lt.
        let P : StreamPlan → Type 0 = λ s. HasStream streams q.from s in
        subst P (get_or_default part.streams.items k _ d lt) (stream_there k (omega (arith, is.count, lt)));
  }
