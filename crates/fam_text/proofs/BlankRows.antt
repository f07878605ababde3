-- Rows like the blank ones of a catalog are rows that a session takes.
use Rattle.std.proofs.Common.{◌≡◌, ℕ, zero, suc, ◌<◌, ◌≤◌, ◌⊎◌, inl, inr, Bool, true, false, not, ◌&&◌, List, [], ◌∷◌, map, length, Option, None, Some, Result, Ok, Err, refl, sym, ap, ◌∙◌, subst, arith, ℤ, pos, negsuc, ◌≤ℤ◌, int_lt, slice_index_or, FitsSigned, w64, Contains}
use Rattle.std.proofs.lemmas.Int.{ints}
use Rattle.std.proofs.lemmas.List.{length-map}
use Rattle.std.proofs.lemmas.List.Elements.{All-contains, Contains-get_or}
use Rattle.std.specs.List.{list_any, All}
use Rattle.sem_query.specs.declared.atom.Attr.{Attr}
use Rattle.sem_query.specs.declared.atom.Atom.{Atom}
use Rattle.sem_query.specs.declared.atom.Domain.{Domain}
use Rattle.sem_query.specs.declared.condition.Condition.{Condition}
use Rattle.sem_query.specs.declared.decision.Decision.{Decision}
use Rattle.sem_query.specs.declared.decision.Decision.TheVariants as decision
use Rattle.sem_query.specs.Query.{QueryValue, IsShort, attrs_of, attr_eq, attr_lt, with_new}
use Rattle.sem_query.specs.Assignment.{lies_in}
use Rattle.sem_query.specs.Meaning.{Arrival, by_column}
use Rattle.sem_query.proofs.Elements.{with_new-has_new, with_new-has_old, attr_separates}
use Rattle.sem_query.proofs.Has.{Has, first, later, Has-from_contains, Contains-from_has}
use Rattle.sem_laws.proofs.Extremes.{flat_map-from, has-flat_map}
use Rattle.sem_laws.proofs.LaidOut.{length-upto, get-upto}
use Rattle.sem_laws.proofs.OnePartFits.{has_cases}
use Rattle.sem_laws.proofs.Tests.{any_from, any_if, attr_eq-is, attr_eq-itself, not_both}
use Rattle.sql_catalog.specs.declared.column.ColumnDef.{ColumnDef}
use Rattle.sql_catalog.specs.Streams.{Shape, shape_at, domain_at, no_column, lies_within, HasEnds, IsShape, IsCatalog}
use Rattle.sql_parser.specs.Resolution.{HasNamed, IsColumnOf, named_attrs, domain_with, domain_for, domains_for}
use Rattle.sql_parser.proofs.NamedAttrs.{all_there}
use Rattle.fam_fooling_sets.specs.declared.error.LowerError.{LowerError}
use Rattle.fam_fooling_sets.specs.declared.error.LowerError.TheVariants as why
use Rattle.fam_fooling_sets.specs.Family.{FamilyValue}
use Rattle.fam_fooling_sets.specs.Blanks.{IsRead, AreBlanks, IsLike}
use Rattle.fam_fooling_sets.specs.Drawing.{IsFamilyLike}
use Rattle.fam_fooling_sets.specs.Lowered.{IsLikeBlank, LowersBroken, Lowers}
use Rattle.fam_text.specs.Blank.{least, blank_row}
use Rattle.fam_text.specs.Answer.{IsTakenRow, AnswersBroken, IsFamilyAnswer, IsFoundOver}

least-lies : (ends : ℤ × ℤ) → ends.0 ≤ℤ ends.1 → (not (int_lt ends.0 ends.0) && not (int_lt ends.1 ends.0)) ≡ true
least-lies ends l = grind (arith, ints, l)

-- what may be written in a statement fits in 64 bits
short-fits : (x : ℤ) → IsShort x → FitsSigned w64 x
short-fits (pos m) s = record { sfits = (let h = s.high in omega (arith, ints, h)) }
short-fits (negsuc m) s = record { sfits = (let l = s.low in omega (arith, ints, l)) }

-- the least value of a domain fits, and 0
least-fits : (domain : Option (ℤ × ℤ)) → HasEnds domain → FitsSigned w64 (least domain)
least-fits None h = record { sfits = omega arith }
least-fits (Some ends) h = short-fits ends.0 h.short_low

pub get-map : {X Y : Type 0} (g : X → Y) (xs : List X) (i : ℕ) (d : X) (e : Y) → i < length xs → slice_index_or (map g xs) i e ≡ g (slice_index_or xs i d)
get-map g [] i d e l = absurd (omega (arith, l))
get-map g (x ∷ xs) zero d e l = refl
get-map g (x ∷ xs) (suc i) d e l = get-map g xs i d e (omega (arith, l))

beyond : (columns : List ColumnDef) (c : ℕ) → length columns ≤ c → slice_index_or columns c no_column ≡ no_column
beyond [] c l = refl
beyond (x ∷ columns) zero l = absurd (omega (arith, l))
beyond (x ∷ columns) (suc c) l = beyond columns c (omega (arith, l))

-- what is compared or selected is named
has-named : (select : List Attr) (atoms : List Atom) (a : Attr) → Has (attrs_of atoms) a ⊎ Has select a → Has (named_attrs select atoms) a
has-named [] atoms a (inl h) = h
has-named [] atoms a (inr h) = elim h [ ]
has-named (b ∷ select) atoms a (inl h) = with_new-has_old attr_lt b (named_attrs select atoms) a (has-named select atoms a (inl h))
has-named (b ∷ select) atoms a (inr h) = elim (has_cases b a select h) [
  | inl e ↦ subst (λ (z : Attr). Has (with_new attr_lt b (named_attrs select atoms)) z) e (with_new-has_new attr_lt attr_separates b (named_attrs select atoms))
  | inr k ↦ with_new-has_old attr_lt b (named_attrs select atoms) a (has-named select atoms a (inr k))
]

-- each domain of a catalog has ends
column-ends : (columns : List ColumnDef) → All (λ c. HasEnds c.domain) columns → (c : ℕ) → HasEnds (slice_index_or columns c no_column).domain
column-ends columns a c = elim (before c (length columns)) [
  | inl l ↦ All-contains (λ (x : ColumnDef). HasEnds x.domain) columns (slice_index_or columns c no_column) a (Contains-get_or columns c no_column l)
  | inr l ↦ subst (λ (x : ColumnDef). HasEnds x.domain) (sym (beyond columns c l)) tt
]
  where
    before : (x y : ℕ) → (x < y) ⊎ (y ≤ x)
    before x y = grind arith

shape-ends : (xs : List Shape) → ((x : Shape) → Has xs x → IsShape x) → (s : ℕ) → All (λ c. HasEnds c.domain) (shape_at xs s).columns
shape-ends [] f s = λ k d l. absurd (omega (arith, l))
shape-ends (x ∷ xs) f zero = (f x first).domains
shape-ends (x ∷ xs) f (suc s) = shape-ends xs (λ y h. f y (later h)) s

has-ends : (streams : List Shape) → IsCatalog streams → (stream c : ℕ) → HasEnds (domain_at streams stream c)
has-ends streams is stream c =
    column-ends (shape_at streams stream).columns (shape-ends streams (λ x i. All-contains IsShape streams x is.shapes (Contains-from_has streams x i)) stream) c

domain-ends : (streams : List Shape) → IsCatalog streams → (stream c : ℕ) (ends : ℤ × ℤ) → domain_at streams stream c ≡ Some ends → ends.0 ≤ℤ ends.1
domain-ends streams is stream c ends e =
    (subst HasEnds e (has-ends streams is stream c)).some

-- a domain that is made of that of a column
record From (a : Attr) (domain : Option (ℤ × ℤ)) (d : Domain) : Type 0 where
  ends : ℤ × ℤ
  there : domain ≡ Some ends
  is : record { attr = a; lo = ends.0; hi = ends.1 } ≡ d

domain-from : (a : Attr) (domain : Option (ℤ × ℤ)) (d : Domain) → Has (domain_with a domain) d → From a domain d
domain-from a None d h = elim h [ ]
domain-from a (Some ends) d h = elim (has_cases _ d [] h) [ inl e ↦ record { ends = ends; there = refl; is = e } | inr k ↦ elim k [ ] ]

module _ (streams : List Shape) (q : QueryValue) (named : HasNamed streams q) (is : IsCatalog streams) where
  has-read : (a : Attr) → IsRead q a → Has (named_attrs q.select q.atoms) a
  has-read a (inl c) = has-named q.select q.atoms a (inl (Has-from_contains (attrs_of q.atoms) a c))
  has-read a (inr c) = has-named q.select q.atoms a (inr (Has-from_contains q.select a c))

  column-of : (a : Attr) → Has (named_attrs q.select q.atoms) a → IsColumnOf streams q.from a
  column-of a h = all_there streams q.from q.select q.atoms named.select named.atoms a h

  abbrev blanks : List (List ℤ)
  blanks = map (blank_row streams) q.from

  blank-at : (place : ℕ) → place < length q.from → slice_index_or blanks place [] ≡ blank_row streams (slice_index_or q.from place 0)
  blank-at place l = get-map (blank_row streams) q.from place 0 [] l

  long : (stream : ℕ) → length (blank_row streams stream) ≡ length (shape_at streams stream).columns
  long stream = length-upto (λ column. least (domain_at streams stream column)) (length (shape_at streams stream).columns)

  -- the value of a blank row at a column of its stream
  blank-value : (place c : ℕ) → place < length q.from → c < length (shape_at streams (slice_index_or q.from place 0)).columns
      → by_column (slice_index_or blanks place []) c ≡ least (domain_at streams (slice_index_or q.from place 0) c)
  blank-value place c l m =
      ap (λ (row : List ℤ). by_column row c) (blank-at place l)
      ∙ get-upto (λ column. least (domain_at streams (slice_index_or q.from place 0) column)) (length (shape_at streams (slice_index_or q.from place 0)).columns) c (pos 0) m

  wide : (a : Attr) → IsRead q a → a.column < length (slice_index_or blanks a.stream [])
  wide a r =
      let c : IsColumnOf streams q.from a = column-of a (has-read a r) in
      let e : length (slice_index_or blanks a.stream []) ≡ length (shape_at streams (slice_index_or q.from a.stream 0)).columns = ap length (blank-at a.stream c.stream) ∙ long (slice_index_or q.from a.stream 0) in
      let k : a.column < length (shape_at streams (slice_index_or q.from a.stream 0)).columns = c.column in
      omega (arith, e, k)

  keeps : (d : Domain) → Contains q.domains d → lies_in d (by_column (slice_index_or blanks d.attr.stream []) d.attr.column) ≡ true
  keeps d c =
      let h : Has (domains_for streams q.from (named_attrs q.select q.atoms)) d = subst (λ (ds : List Domain). Has ds d) named.domains (Has-from_contains q.domains d c) in
      let m = flat_map-from (λ a. domain_with a (domain_for streams q.from a)) (named_attrs q.select q.atoms) d h in
      let f : From m.0 (domain_for streams q.from m.0) d = domain-from m.0 (domain_for streams q.from m.0) d m.2 in
      let k : IsColumnOf streams q.from m.0 = column-of m.0 m.1 in
      subst (λ (d : Domain). lies_in d (by_column (slice_index_or blanks d.attr.stream []) d.attr.column) ≡ true) f.is
      (subst (λ z. lies_in (record { attr = m.0; lo = f.ends.0; hi = f.ends.1 }) z ≡ true) (sym (blank-value m.0.stream m.0.column k.stream k.column ∙ ap least f.there))
      (least-lies f.ends (domain-ends streams is (slice_index_or q.from m.0.stream 0) m.0.column f.ends f.there)))

  fits : (place : ℕ) → place < length q.from → All (FitsSigned w64) (slice_index_or blanks place [])
  fits place l =
      subst (All (FitsSigned w64)) (sym (blank-at place l))
      (λ c d j.
      let stream : ℕ = slice_index_or q.from place 0 in
      let m : c < length (shape_at streams stream).columns = (let e = long stream in omega (arith, e, j)) in
      subst (FitsSigned w64) (sym (get-upto (λ column. least (domain_at streams stream column)) (length (shape_at streams stream).columns) c d m))
      (least-fits (domain_at streams stream c) (has-ends streams is stream c)))

  pub are-blanks : AreBlanks q blanks
  are-blanks = record { many = length-map q.from (blank_row streams); wide = wide; keeps = keeps; fits = fits }

  -- a row like a blank one lies in the domain of each column
  lies : (place : ℕ) → place < length q.from → (row : List ℤ) → IsLike q blanks place row → (c : ℕ) (domain : Option (ℤ × ℤ))
      → domain_at streams (slice_index_or q.from place 0) c ≡ domain → lies_within domain (by_column row c) ≡ true
  lies place l row like c None e = refl
  lies place l row like c (Some ends) e = by (list_any (λ b. attr_eq b a) (named_attrs q.select q.atoms)) refl
    where
      a : Attr
      a = record { stream = place; column = c }

      by : (t : Bool) → list_any (λ b. attr_eq b (record { stream = place; column = c })) (named_attrs q.select q.atoms) ≡ t → lies_within (Some ends) (by_column row c) ≡ true
      by true t =
          let w = any_from (λ b. attr_eq b (record { stream = place; column = c })) (named_attrs q.select q.atoms) t in
          let i : Has (named_attrs q.select q.atoms) (record { stream = place; column = c }) = subst (λ (z : Attr). Has (named_attrs q.select q.atoms) z) (attr_eq-is w.0 (record { stream = place; column = c }) w.2) w.1 in
          let d : Domain = record { attr = record { stream = place; column = c }; lo = ends.0; hi = ends.1 } in
          let h : Has (domains_for streams q.from (named_attrs q.select q.atoms)) d
          = has-flat_map (λ a. domain_with a (domain_for streams q.from a)) (named_attrs q.select q.atoms) (record { stream = place; column = c }) d i
          (subst (λ z. Has (domain_with (record { stream = place; column = c }) z) d) (sym e) first) in
          like.keeps d (Contains-from_has q.domains d (subst (λ (ds : List Domain). Has ds d) (sym named.domains) h)) refl
      by false t =
          let unread : IsRead q (record { stream = place; column = c }) → ⊥
          = (λ r. not_both _ (any_if (λ b. attr_eq b (record { stream = place; column = c })) (named_attrs q.select q.atoms) (record { stream = place; column = c }) (has-read (record { stream = place; column = c }) r) (attr_eq-itself (record { stream = place; column = c }))) t) in
          elim (before c (length (shape_at streams (slice_index_or q.from place 0)).columns)) [
            | inl m ↦ (
                let w : length row ≡ length (shape_at streams (slice_index_or q.from place 0)).columns = like.wide ∙ ap length (blank-at place l) ∙ long (slice_index_or q.from place 0) in
                let v : by_column row c ≡ ends.0 = like.blank c (omega (arith, w, m)) unread ∙ blank-value place c l m ∙ ap least e in
                subst (λ z. lies_within (Some ends) z ≡ true) (sym v) (least-lies ends (domain-ends streams is (slice_index_or q.from place 0) c ends e)))
            | inr m ↦ absurd (none ends (sym e ∙ ap (λ (x : ColumnDef). x.domain) (beyond (shape_at streams (slice_index_or q.from place 0)).columns c m)))
          ]
        where
          before : (x y : ℕ) → (x < y) ⊎ (y ≤ x)
          before x y = grind arith

          none : (ends : ℤ × ℤ) → (let A : Type 0 = Option (ℤ × ℤ) in ◌≡◌ {A = A} (Some ends) None) → ⊥
          none ends e = cc

  taken : (r : Arrival) → IsLikeBlank q blanks r → IsTakenRow streams r
  taken r k = record {
    there = subst (λ (s : ℕ). s < length streams) (sym k.stream) (All-contains (λ (n : ℕ). n < length streams) q.from (slice_index_or q.from k.place 0) named.from (Contains-get_or q.from k.place 0 k.there));
    wide = k.like.wide ∙ ap length (blank-at k.place k.there) ∙ long (slice_index_or q.from k.place 0) ∙ ap (λ (s : ℕ). length (shape_at streams s).columns) (sym k.stream);
    keeps = λ c. subst (λ (s : ℕ). lies_within (domain_at streams s c) (by_column r.values c) ≡ true) (sym k.stream) (lies k.place k.there r.values k.like c (domain_at streams (slice_index_or q.from k.place 0) c) refl);
    fits = k.like.fits;
  }

  broken : (condition : Condition) (a : Attr) (n : ℕ) (result : Result FamilyValue LowerError) → LowersBroken q blanks condition a n result → AnswersBroken streams q condition a n result
  broken condition a n (Ok f) h = record {
    local = h.local;
    whole = h.whole;
    family = h.family;
    taken = record { rows = λ i l. taken _ (h.like.rows i l); asking = λ i l r c. taken r (h.like.asking i l r c) };
    like = h.like;
  }
  broken condition a n (Err why.Bounded) h = h
  broken condition a n (Err why.C2) h = h
  broken condition a n (Err why.C3) h = h
  broken condition a n (Err why.Memory) h = h

  pub answered : (d : Decision) (n : ℕ) (result : Result FamilyValue LowerError) → Lowers q blanks d n result → IsFamilyAnswer streams q d n result
  answered decision.Bounded n result h = h
  answered (decision.Violation part condition a) n result h = broken condition a n result h

  -- a family that is found
  pub found-over : (condition : Condition) (a : Attr) (n : ℕ) (f : FamilyValue) → IsFamilyLike q blanks condition a n f → IsFoundOver streams q condition a n f
  found-over condition a n f h = record {
    column = column-of a (has-read a h.read);
    family = h.family;
    taken = record { rows = λ i l. taken _ (h.like.rows i l); asking = λ i l r c. taken r (h.like.asking i l r c) };
    like = h.like;
  }
