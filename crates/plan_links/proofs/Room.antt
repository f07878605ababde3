-- Links that say one thing of two columns are at most 66.
use Rattle.std.proofs.Common.{◌≡◌, ◌≢◌, ℕ, suc, ◌+◌, ◌*◌, ◌<◌, ◌≤◌, Bool, true, false, cond, List, [], ◌∷◌, ◌++◌, map, take, length, length-append, get_or, refl, sym, ap, subst, arith}
use Rattle.std.proofs.lemmas.List.{length-map}
use Rattle.std.proofs.lemmas.Bool.Decides.{nat_tests}
use Rattle.sem_query.specs.declared.atom.Attr.{Attr}
use Rattle.sem_query.specs.declared.plan.Link.{Link}
use Rattle.sem_query.specs.Query.{attr_lt}
use Rattle.sem_query.specs.Plan.{link, link_lt}
use Rattle.sem_query.proofs.Has.{Has, first, later, Has-map, Has-append_left, Has-append_right}
use Rattle.sem_query.proofs.Unique.{Ascends, more}
use Rattle.plan_links.specs.Sifting.{Sifts, links_among}
use Rattle.plan_links.proofs.Sifted.{kept_next, member_from, sift_ascends, Ascends-take, Has-take}
use Rattle.sem_query.proofs.Pigeonhole.{AreApart, no_longer}
use Rattle.plan_links.proofs.AllLinks.{attr_lt-irreflexive, attr_lt-apart, sides_of, links_ascend}

-- each column with each later one
upper : List Attr → List Link
upper [] = []
upper (x ∷ xs) = map (link x) xs ++ upper xs

square : (n : ℕ) → suc n * suc n ≡ n * n + 2 * n + 1
square n = grind arith

length-upper : (xs : List Attr) → 2 * length (upper xs) + length xs ≡ length xs * length xs
unfolding upper
length-upper [] = omega arith
length-upper (x ∷ xs) =
    let a : length (map (link x) xs ++ upper xs) ≡ length (map (link x) xs) + length (upper xs) = length-append (map (link x) xs) (upper xs) in
    let b : length (map (link x) xs) ≡ length xs = simp length-map in
    let c : 2 * length (upper xs) + length xs ≡ length xs * length xs = length-upper xs in
    let n : suc (length xs) * suc (length xs) ≡ length xs * length xs + 2 * length xs + 1 = square (length xs) in
    omega (arith, a, b, c, n)

few_at : (n k : ℕ) → n ≤ 12 → n * n ≤ 12 * n
few_at n k h = grind arith

few_upper : (xs : List Attr) → length xs ≤ 12 → length (upper xs) ≤ 66
few_upper xs h =
    let a : 2 * length (upper xs) + length xs ≡ length xs * length xs = length-upper xs in
    let b : length xs * length xs ≤ 12 * length xs = few_at (length xs) 0 h in
    omega (arith, a, b, h)

upper_has : (xs : List Attr) → Ascends attr_lt xs → (a b : Attr) → Has xs a → Has xs b → attr_lt a b ≡ true → Has (upper xs) (link a b)
unfolding upper
upper_has [] s a b h k l = elim h [ ]
upper_has (x ∷ xs) s a b first first l = let e = attr_lt-irreflexive x in cc
upper_has (x ∷ xs) s a b first (later k) l = Has-append_left _ (Has-map (link x) k)
upper_has (x ∷ xs) (more f s) a b (later h) first l = absurd (attr_lt-apart x a (f a h) l)
upper_has (x ∷ xs) (more f s) a b (later h) (later k) l = Has-append_right (map (link x) xs) (upper_has xs s a b h k l)

-- the link with the earlier column on the left
ordered : Link → Link
ordered l = cond (attr_lt l.left l.right) l (link l.right l.left)

other_way : (a b : Attr) → a.stream ≢ b.stream → attr_lt a b ≡ false → attr_lt b a ≡ true
other_way a b n h = grind (arith, nat_tests)

ordered_in : (xs : List Attr) → Ascends attr_lt xs → (l : Link) → Has xs l.left → Has xs l.right → l.left.stream ≢ l.right.stream → Has (upper xs) (ordered l)
unfolding ordered
ordered_in xs s l h k n = by (attr_lt l.left l.right) refl where
  by : (b : Bool) → attr_lt l.left l.right ≡ b → Has (upper xs) (cond b l (link l.right l.left))
  by true e = upper_has xs s l.left l.right h k e
  by false e = upper_has xs s l.right l.left k h (other_way l.left l.right n e)

same_not_lt : (x z : Link) → link_lt x z ≡ true → x.left ≡ z.left → x.right ≡ z.right → ⊥
same_not_lt x z h e f =
    let a : attr_lt x.left x.left ≡ false = attr_lt-irreflexive x.left in
    let b : attr_lt x.right x.right ≡ false = attr_lt-irreflexive x.right in
    let c : attr_lt x.left z.left ≡ false = subst (λ w. attr_lt x.left w ≡ false) e a in
    let d : attr_lt x.right z.right ≡ false = subst (λ w. attr_lt x.right w ≡ false) f b in
    let g : cond (attr_lt x.left z.left) true (cond (attr_lt z.left x.left) false (attr_lt x.right z.right)) ≡ true = h in
    by (attr_lt x.left z.left) (attr_lt z.left x.left) (attr_lt x.right z.right) c d g
  where
    by : (b c d : Bool) → b ≡ false → d ≡ false → cond b true (cond c false d) ≡ true → ⊥
    by true c d p r t = cc
    by false true d p r t = cc
    by false false d p r t = cc

images_apart : (x z : Link) → link_lt x z ≡ true → (x.left ≡ z.right → x.right ≡ z.left → ⊥) → ordered z ≡ ordered x → ⊥
unfolding ordered
images_apart x z h n e = by (attr_lt z.left z.right) (attr_lt x.left x.right) e where
  by : (b c : Bool) → cond b z (link z.right z.left) ≡ cond c x (link x.right x.left) → ⊥
  by true true e = same_not_lt x z h (ap (λ (l : Link). l.left) (sym e)) (ap (λ (l : Link). l.right) (sym e))
  by true false e = n (ap (λ (l : Link). l.right) (sym e)) (ap (λ (l : Link). l.left) (sym e))
  by false true e = n (ap (λ (l : Link). l.left) (sym e)) (ap (λ (l : Link). l.right) (sym e))
  by false false e = same_not_lt x z h (ap (λ (l : Link). l.right) (sym e)) (ap (λ (l : Link). l.left) (sym e))

-- links are never turned round
abbrev pub AreOneWay : (Link → Type 0) → Type 0
AreOneWay P = (l m : Link) → P l → P m → l.left ≡ m.right → l.right ≡ m.left → ⊥

apart_from : (P : Link → Type 0) → AreOneWay P → (ys : List Link) → Ascends link_lt ys → ((l : Link) → Has ys l → P l) → AreApart ordered ys
apart_from P w [] a p = tt
apart_from P w (y ∷ ys) (more f a) p = (λ z h. images_apart y z (f z h) (λ e g. w y z (p y first) (p z (later h)) e g), apart_from P w ys a (λ z h. p z (later h)))

pub few_links : (P : Link → Type 0) → AreOneWay P → ((l : Link) → P l → l.left.stream ≢ l.right.stream) → (xs : List Attr) → Ascends attr_lt xs → length xs ≤ 12 → (ys : List Link) → Ascends link_lt ys → ((l : Link) → Has ys l → P l × Has xs l.left × Has xs l.right) → length ys ≤ 66
few_links P w n xs s few ys a h =
    let k : length ys ≤ length (upper xs) = no_longer ordered ys (upper xs) (apart_from P w ys a (λ l i. (h l i).0)) (λ l i. ordered_in xs s l (h l i).1 (h l i).2 (n l (h l i).0)) in
    omega (arith, k, few_upper xs few)

-- there is room for the next link
pub room_next : (P : Link → Type 0) → AreOneWay P → ((l : Link) → P l → l.left.stream ≢ l.right.stream) → (xs : List Attr) → Ascends attr_lt xs → length xs ≤ 12
    → (Q : Link → Type 0) (ls ys : List Link) (i : ℕ) (d : Link) → Sifts Q (links_among xs xs) ls → i < length ls → P (get_or ls i d) → Sifts P (take i ls) ys → length ys < 66
room_next P w n xs s few Q ls ys i d e l p t =
    let u : Sifts P (take (i + 1) ls) (ys ++ get_or ls i d ∷ []) = kept_next P ls ys i d l p t in
    let a : Ascends link_lt ls = sift_ascends Q link_lt e (links_ascend xs xs s s) in
    let b : Ascends link_lt (ys ++ get_or ls i d ∷ []) = sift_ascends P link_lt u (Ascends-take link_lt (i + 1) ls a) in
    let k : length (ys ++ get_or ls i d ∷ []) ≤ 66 = few_links P w n xs s few _ b
    (λ m h. let r = member_from P m u h in
    let g : Has (links_among xs xs) m = (member_from Q m e (Has-take (i + 1) ls m r.0)).0 in
    let c : Has xs m.left × Has xs m.right = sides_of xs xs m g in
    (r.1, c.0, c.1)) in
    let j : length (ys ++ get_or ls i d ∷ []) ≡ length ys + 1 = length-append ys (get_or ls i d ∷ []) in
    omega (arith, k, j)
