-- The split pairs of a query, and the first of them, can have any signs.
use Rattle.std.proofs.Common.{◌≡◌, ◌≤◌, ℕ, List, [], ◌∷◌, length, length-append, take, drop, filter, Bool, cond, refl, sym, ◌∙◌, ap, subst, arith}
use Rattle.std.proofs.lemmas.List.{take-append-drop}
use Rattle.std.proofs.lemmas.List.Elements.{filter-append}
use Rattle.sem_query.specs.declared.atom.Attr.{Attr}
use Rattle.sem_query.specs.declared.atom.Element.{Element}
use Rattle.sem_query.specs.declared.atom.Element.TheVariants as element
use Rattle.sem_query.specs.declared.part.Pair.{Pair}
use Rattle.sem_query.specs.declared.part.Sign.{Sign}
use Rattle.sem_query.specs.Query.{QueryValue, attrs_of, IsWithinLimits}
use Rattle.sem_query.proofs.Has.{Has, Has-append_left}
use Rattle.plan_split_pairs.specs.Laws.{IsColumnOrShort, is_of_another}
use Rattle.plan_split_pairs.specs.Pairs.{split_pairs}
use Rattle.plan_split_pairs.proofs.Naming.{split_pairs_are_named, few_pairs_between}
use Rattle.sem_whole.specs.Links.{are_across}
use Rattle.sem_whole.specs.Signed.{IsSide, AreSignedPairs}
use Rattle.plan_split_parts.specs.Signed.{SplitPairsAreSigned}
use Rattle.plan_split_parts.specs.Fronts.{first_pairs}

pub side_of : (attrs : List Attr) (e : Element) → IsColumnOrShort attrs e → IsSide attrs e
side_of attrs (element.Attr a) h = h
side_of attrs (element.Const k) h = h

-- a pair of columns of two streams
pub is_between : (p : Pair) → is_of_another p.left p.right ≡ are_across (element.Attr p.left) p.right
is_between p = by p.left p.right
  where
    by : (a : Attr) (e : Element) → is_of_another a e ≡ are_across (element.Attr a) e
    by a (element.Attr b) = refl
    by a (element.Const k) = refl

filter_same : (f g : Pair → Bool) (xs : List Pair) → ((x : Pair) → f x ≡ g x) → filter f xs ≡ filter g xs
filter_same f g [] e = refl
filter_same f g (x ∷ xs) e = λ i. cond (e x i) (x ∷ filter_same f g xs e i) (filter_same f g xs e i)

few_across : (q : QueryValue) → IsWithinLimits q → length (filter (λ p. are_across (element.Attr p.left) p.right) (split_pairs q)) ≤ 8
few_across q w = subst (λ n. n ≤ 8) (ap length (filter_same (λ p. is_of_another p.left p.right) (λ p. are_across (element.Attr p.left) p.right) (split_pairs q) is_between)) (few_pairs_between q w)

pub split_pairs_are_signed : SplitPairsAreSigned
split_pairs_are_signed q w ss e = record {
  left = λ p h. (split_pairs_are_named q w p h).left;
  right = λ p h. side_of (attrs_of q.atoms) p.right (split_pairs_are_named q w p h).right;
  same = e;
  few = few_across q w;
}

-- what is among the first is among all
pub has_take : (n : ℕ) (xs : List Pair) (x : Pair) → Has (take n xs) x → Has xs x
has_take n xs x h = subst (λ z. Has z x) (take-append-drop n xs) (Has-append_left (drop n xs) h)

-- of the first no more pass a test than of all
fewer_first : (f : Pair → Bool) (n : ℕ) (xs : List Pair) → length (filter f (take n xs)) ≤ length (filter f xs)
fewer_first f n xs =
    let e = ap (λ z. length (filter f z)) (sym (take-append-drop n xs)) ∙ ap length (filter-append f (take n xs) (drop n xs)) ∙ length-append (filter f (take n xs)) (filter f (drop n xs)) in
    omega (arith, e)

pub first_signed : (q : QueryValue) → IsWithinLimits q → (n : ℕ) (ss : List Sign) → length (first_pairs q n) ≡ length ss → AreSignedPairs q (first_pairs q n) ss
first_signed q w n ss e = record {
  left = λ p h. (split_pairs_are_named q w p (has_take n (split_pairs q) p h)).left;
  right = λ p h. side_of (attrs_of q.atoms) p.right (split_pairs_are_named q w p (has_take n (split_pairs q) p h)).right;
  same = e;
  few = omega (arith, few_across q w, fewer_first (λ p. are_across (element.Attr p.left) p.right) n (split_pairs q));
}
