-- The range of a column, and how many tuples lie in the ranges of some.
use Rattle.std.proofs.Common.{◌≡◌, ℕ, ◌+◌, ◌-◌, ◌*◌, ◌^◌, ◌<◌, ◌≤◌, min, ℤ, ◌≤ℤ◌, List, [], ◌∷◌, ◌++◌, map, length, length-append, take, get_or, slice_index_or, All, Option, None, Some, refl, sym, ap, ap₂, ◌∙◌, subst, arith}
use Rattle.std.proofs.lemmas.Int.{ints}
use Rattle.std.proofs.lemmas.List.{take_more, take_all, map-append}
use Rattle.std.proofs.Math.ListN.{get_or-append}
use Rattle.std.proofs.Math.Seq.{get_or-append_seam}
use Rattle.sem_query.specs.declared.atom.Attr.{Attr}
use Rattle.sem_query.specs.declared.part.Sign.{Sign}
use Rattle.sem_query.specs.Query.{QueryValue, attrs_of}
use Rattle.sem_query.specs.Order.{IsBounded, IsLeast, IsGreatest}
use Rattle.sem_query.specs.Boxes.{range_size, dim_size, box_size}
use Rattle.plan_links.specs.declared.range.Range.{Range}
use Rattle.plan_links.specs.declared.types.Refs.{Refs}
use Rattle.plan_links.specs.Refs.{IsRange, AreRefs}
use Rattle.plan_closure.proofs.Zips.{zip_at, zip_length}
use Rattle.plan_layout.specs.ColumnPlaces.{attr_at}
use Rattle.plan_layout.specs.Capped.{capped}
use Rattle.plan_layout.specs.Sums.{IsSizeOf, IsRangeOf, AreSizesOf}
use Rattle.plan_layout.proofs.Products.{size-push, one_more}

same_int : (x y : ℤ) → x ≤ℤ y → y ≤ℤ x → x ≡ y
same_int x y h k = omega (arith, ints)

module _ (q : QueryValue) (s : List Sign) where
  one_least : (a : Attr) (x y : ℤ) → IsLeast q s a x → IsLeast q s a y → x ≡ y
  one_least a x y h k = same_int x y (subst (λ z. x ≤ℤ z) k.reached (h.above k.at k.inside)) (subst (λ z. y ≤ℤ z) h.reached (k.above h.at h.inside))

  one_greatest : (a : Attr) (x y : ℤ) → IsGreatest q s a x → IsGreatest q s a y → x ≡ y
  one_greatest a x y h k = same_int x y (subst (λ z. z ≤ℤ y) h.reached (k.below h.at h.inside)) (subst (λ z. z ≤ℤ x) k.reached (h.below k.at k.inside))

  -- what has a least and a greatest value is bounded
  pub enclosed : (a : Attr) (x y : ℤ) → IsLeast q s a x → IsGreatest q s a y → IsBounded q s a
  enclosed a x y h k = record { low = x; high = y; above = h.above; below = k.below }

  -- there is a range for each attribute
  pub range_room : (refs : Refs) (ys : List (Option Range)) (i : ℕ) → AreRefs q s refs → ys ≡ refs.ranges.items → i < length (attrs_of q.atoms) → i < length ys
  range_room refs ys i r e l =
      let n : length refs.ranges.items ≡ length (attrs_of q.atoms) = zip_length (IsRange q s) (attrs_of q.atoms) refs.ranges.items r.ranges in
      subst (λ (z : List (Option Range)). i < length z) (sym e) (omega (arith, l, n))

  pub range_told : (refs : Refs) (ys : List (Option Range)) (i : ℕ) (d : Option Range) → AreRefs q s refs → ys ≡ refs.ranges.items → i < length (attrs_of q.atoms) → IsRange q s (attr_at q i) (slice_index_or ys i d)
  range_told refs ys i d r e l =
      subst (λ (z : List (Option Range)). IsRange q s (attr_at q i) (slice_index_or z i d)) (sym e) (zip_at (IsRange q s) (attrs_of q.atoms) refs.ranges.items i _ d r.ranges l)

  pub range_found : (xs : List Attr) (i : ℕ) (a : Attr) (r : Option Range) → xs ≡ attrs_of q.atoms → ((d : Attr) → slice_index_or xs i d ≡ a) → IsRange q s (attr_at q i) r → IsRange q s a r
  range_found xs i a r e h k =
      subst (λ (z : Attr). IsRange q s z r) (subst (λ (z : List Attr). slice_index_or z i record { stream = 0; column = 0 } ≡ a) e (h record { stream = 0; column = 0 })) k

  -- ---- sizes

  pub size_told : (a : Attr) (r : Range) (size : ℕ) → IsRange q s a (Some r) → size ≡ capped (range_size r.lo r.hi) → IsSizeOf q s a size
  size_told a r size h e = record { of = λ lo hi k l. e ∙ ap₂ (λ x y. capped (range_size x y)) (one_least a r.lo lo h.0 k) (one_greatest a r.hi hi h.1 l) }

  pub size_none : (a : Attr) (size : ℕ) → IsRange q s a None → IsSizeOf q s a size
  size_none a size h = record { of = λ lo hi k l. absurd (h (enclosed a lo hi k l)) }

  pub sizes_start : AreSizesOf q s [] 1
  sizes_start = record { of = λ range h. refl }

  of_front : (P : Attr → Type 0) (xs : List Attr) (a : Attr) → All P (xs ++ a ∷ []) → All P xs
  of_front P xs a h k d l = subst P (get_or-append xs (a ∷ []) d k l) (h k d (omega (arith, l, length-append xs (a ∷ []))))

  of_last : (P : Attr → Type 0) (xs : List Attr) (a : Attr) → All P (xs ++ a ∷ []) → P a
  of_last P xs a h = subst P (get_or-append_seam xs a [] a) (h (length xs) a (omega (arith, length-append xs (a ∷ []))))

  sizes_push : (xs : List Attr) (a : Attr) (size more next : ℕ) → AreSizesOf q s xs size → IsSizeOf q s a more → next ≡ min (size * more) (2 ^ 64 - 1) → AreSizesOf q s (xs ++ a ∷ []) next
  sizes_push xs a size more next h k e = record {
    of = λ range b.
        let r : IsRangeOf q s range a = of_last (IsRangeOf q s range) xs a b in
        e ∙ one_more size more (box_size (map range xs)) (dim_size (range a)) (h.of range (of_front (IsRangeOf q s range) xs a b)) (k.of (range a).lo (range a).hi r.0 r.1)
        ∙ ap capped (sym (ap box_size (map-append range xs (a ∷ [])) ∙ size-push (map range xs) (range a)));
  }

  pub sizes_next : (xs : List Attr) (i : ℕ) (d : Attr) (size more next : ℕ) → i < length xs → AreSizesOf q s (take i xs) size → IsSizeOf q s (slice_index_or xs i d) more → next ≡ min (size * more) (2 ^ 64 - 1) → AreSizesOf q s (take (i + 1) xs) next
  sizes_next xs i d size more next l h k e = subst (λ (z : List Attr). AreSizesOf q s z next) (sym (take_more xs i d l)) (sizes_push (take i xs) (get_or xs i d) size more next h k e)

  pub sizes_end : (xs : List Attr) (i size : ℕ) → length xs ≤ i → AreSizesOf q s (take i xs) size → AreSizesOf q s xs size
  sizes_end xs i size l h = subst (λ (z : List Attr). AreSizesOf q s z size) (take_all i xs l) h
