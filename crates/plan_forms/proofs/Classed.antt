-- The dims of streams with own ranges are names of classes.
use Rattle.std.proofs.Common.{◌≡◌, ℕ, zero, suc, ◌<◌, ◌≤◌, inl, inr, List, [], ◌∷◌, map, length, slice_index_or, Bool, true, false, nat_lt, refl, sym, ◌∙◌, ap, subst, arith}
use Rattle.std.proofs.lemmas.Bool.Decides.{nat_tests}
use Rattle.sem_query.specs.declared.atom.Attr.{Attr}
use Rattle.sem_query.specs.declared.plan.Dim.{Dim}
use Rattle.sem_query.specs.declared.plan.Kind.{Kind}
use Rattle.sem_query.specs.Query.{QueryValue, attr_lt}
use Rattle.sem_query.proofs.Elements.{attr_separates}
use Rattle.sem_query.proofs.Has.{Has, first, later, Has-nil}
use Rattle.sem_query.proofs.Unique.{Ascends, none, more, ascends_from}
use Rattle.sem_laws.proofs.OnePartFits.{has_cases}
use Rattle.sem_laws.proofs.Tests.{false_if}
use Rattle.sem_whole.specs.Whole.{KeptDim}
use Rattle.sem_whole.specs.Plan.{IsPlannedStream, NamesClass}
use Rattle.plan_whole_form.specs.declared.part.WholeStream.{WholeStream}
use Rattle.plan_whole_form.specs.declared.whole.WholePart.{WholePart}
use Rattle.plan_whole_form.specs.Part.{kept_dim, kept_stream, stream_in, form_of, IsWholePart}
use Rattle.sem_forms.specs.Part.{AreOwnDims}
use Rattle.plan_forms.specs.Equated.{IsEqual, AreClasses, dims_of}
use Rattle.plan_forms.specs.Own.{AreOwnStreams}

-- the class of which a dim is
record OwnDim (ks : List KeptDim) (d : Dim) : Type 0 where
  dim : KeptDim
  among : Has ks dim
  attr : d.attr ≡ dim.attr

own_dim : (q : QueryValue) (ks : List KeptDim) (ds : List Dim) → AreOwnDims q ks ds → (d : Dim) → Has ds d → OwnDim ks d
own_dim q [] [] o d h = Has-nil h
own_dim q [] (e ∷ ds) o d h = absurd o
own_dim q (k ∷ ks) [] o d h = absurd o
own_dim q (k ∷ ks) (e ∷ ds) o d h = elim (has_cases e d ds h) [
  | inl i ↦ record { dim = k; among = first; attr = sym (ap (λ (z : Dim). z.attr) i) ∙ o.0 }
  | inr i ↦ (let r : OwnDim ks d = own_dim q ks ds o.2 d i in record { dim = r.dim; among = later r.among; attr = r.attr })
]

own_ascend : (q : QueryValue) (ks : List KeptDim) (ds : List Dim) → AreOwnDims q ks ds → Ascends (λ (j k : KeptDim). attr_lt j.attr k.attr) ks → Ascends (λ (d e : Dim). attr_lt d.attr e.attr) ds
own_ascend q [] [] o a = none
own_ascend q [] (e ∷ ds) o a = absurd o
own_ascend q (k ∷ ks) [] o a = absurd o
own_ascend q (k ∷ ks) (d ∷ ds) o (more f a) =
    more
    (λ e h. (let r : OwnDim ks e = own_dim q ks ds o.2 e h in
    subst (λ z. attr_lt z e.attr ≡ true) (sym o.0) (subst (λ z. attr_lt k.attr z ≡ true) (sym r.attr) (f r.dim r.among))))
    (own_ascend q ks ds o.2 a)

abbrev no_keep : WholeStream
no_keep = record { dims = record { items = [] }; kind = Kind.Present }

-- the dims of a stream at a place, of which the form keeps as much, or none
own_at : (q : QueryValue) (streams own : List WholeStream) → AreOwnStreams q streams own → (place : ℕ) → AreOwnDims q (map kept_dim (slice_index_or streams place no_keep).dims.items) (slice_index_or own place no_keep).dims.items
own_at q [] [] o place = tt
own_at q [] (t ∷ own) o place = absurd o
own_at q (s ∷ streams) [] o place = absurd o
own_at q (s ∷ streams) (t ∷ own) o zero = o.0.dims
own_at q (s ∷ streams) (t ∷ own) o (suc place) = own_at q streams own o.1 place

beyond : (streams : List WholeStream) (place : ℕ) → length streams ≤ place → slice_index_or streams place no_keep ≡ no_keep
beyond [] place l = refl
beyond (s ∷ streams) zero l = absurd (omega (arith, l))
beyond (s ∷ streams) (suc place) l = beyond streams place (omega (arith, l))

no_dims : (q : QueryValue) (ks : List KeptDim) (ds : List Dim) → AreOwnDims q ks ds → ks ≡ [] → ds ≡ []
no_dims q [] [] o e = refl
no_dims q [] (d ∷ ds) o e = absurd o
no_dims q (k ∷ ks) ds o e = absurd cc

-- two names of classes of one stream that are equal in each solution are one column
one_name : (q : QueryValue) (a b : Attr) → NamesClass q a → NamesClass q b → a.stream ≡ b.stream → IsEqual q a b → a ≡ b
one_name q a b n m s e =
    attr_separates a b
    (false_if (attr_lt a b) (m a record { stream = s; below = e.0; above = e.1 }))
    (false_if (attr_lt b a) (n b record { stream = sym s; below = e.1; above = e.0 }))

-- what is said of each class of a stream
record AreTold (q : QueryValue) (place : ℕ) (ds : List Dim) : Type 0 where
  here : (d : Dim) → Has ds d → d.attr.stream ≡ place
  name : (d : Dim) → Has ds d → NamesClass q d.attr
  ascend : Ascends (λ (d e : Dim). attr_lt d.attr e.attr) ds

told_none : (q : QueryValue) (place : ℕ) (ds : List Dim) → ds ≡ [] → AreTold q place ds
told_none q place [] e = record { here = λ d h. Has-nil h; name = λ d h. Has-nil h; ascend = none }
told_none q place (d ∷ ds) e = absurd cc

module _ (q : QueryValue) (p : WholePart) (is : IsWholePart q p) (own : List WholeStream) (o : AreOwnStreams q p.streams.items own) where
  told_at : (place : ℕ) → place < length q.from → AreTold q place (dims_of own place)
  told_at place l =
      let s : IsPlannedStream q (form_of p).links place (kept_stream (stream_in p place)) = is.plan.streams place l in
      let ks : List KeptDim = map kept_dim (stream_in p place).dims.items in
      record {
        here = λ d h. (let r : OwnDim ks d = own_dim q ks (dims_of own place) (own_at q p.streams.items own o place) d h in ap (λ (a : Attr). a.stream) r.attr ∙ (s.dims r.dim r.among).here);
        name = λ d h. (let r : OwnDim ks d = own_dim q ks (dims_of own place) (own_at q p.streams.items own o place) d h in subst (NamesClass q) (sym r.attr) (s.dims r.dim r.among).name);
        ascend = own_ascend q ks (dims_of own place) (own_at q p.streams.items own o place) (ascends_from (λ (j k : KeptDim). attr_lt j.attr k.attr) ks s.ascending);
      }

  told : (place : ℕ) → AreTold q place (dims_of own place)
  told place = by (nat_lt place (length q.from)) refl
    where
      by : (b : Bool) → nat_lt place (length q.from) ≡ b → AreTold q place (dims_of own place)
      by true h = told_at place (grind (arith, nat_tests, h))
      by false h =
          let m : length p.streams.items ≤ place = (let c = is.count in grind (arith, nat_tests, h, c)) in
          let e : map kept_dim (slice_index_or p.streams.items place no_keep).dims.items ≡ [] = ap (λ (s : WholeStream). map kept_dim s.dims.items) (beyond p.streams.items place m) in
          told_none q place (dims_of own place) (no_dims q (map kept_dim (slice_index_or p.streams.items place no_keep).dims.items) (dims_of own place) (own_at q p.streams.items own o place) e)

  pub own_classes : (owned : List WholeStream) → owned ≡ own → AreClasses q owned
  own_classes owned e = subst (AreClasses q) (sym e) record {
    here = λ place d h. (told place).here d h;
    ascend = λ place. (told place).ascend;
    apart = λ place a b x y f. one_name q a b (subst (NamesClass q) x.2 ((told place).name x.0 x.1)) (subst (NamesClass q) y.2 ((told place).name y.0 y.1))
        (sym (ap (λ (z : Attr). z.stream) x.2) ∙ (told place).here x.0 x.1 ∙ sym ((told place).here y.0 y.1) ∙ ap (λ (z : Attr). z.stream) y.2) f;
  }
