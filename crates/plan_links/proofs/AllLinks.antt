-- Each column with each: members, order and number.
use Rattle.std.proofs.Common.{◌≡◌, ℕ, suc, ◌+◌, ◌*◌, ◌<◌, ◌≤◌, true, false, cond, List, [], ◌∷◌, ◌++◌, map, drop, length, length-append, get_or, ◌∙◌, ap, subst, arith}
use Rattle.std.proofs.lemmas.List.{length-map, drop_more}
use Rattle.std.proofs.lemmas.Bool.Decides.{nat_tests}
use Rattle.sem_query.specs.declared.atom.Attr.{Attr}
use Rattle.sem_query.specs.declared.plan.Link.{Link}
use Rattle.sem_query.specs.Query.{attr_lt}
use Rattle.sem_query.specs.Plan.{link, link_lt}
use Rattle.sem_query.proofs.Has.{Has, first, later, Has-map, Has-map_from, Has-append_left, Has-append_right, Has-append_cases}
use Rattle.std.proofs.Common.{inl, inr}
use Rattle.sem_query.proofs.Unique.{Ascends, none, more}
use Rattle.plan_links.specs.Sifting.{links_among}
use Rattle.plan_links.proofs.Sifted.{Ascends-append}

pub attr_lt-irreflexive : (a : Attr) → attr_lt a a ≡ false
attr_lt-irreflexive a = grind (arith, nat_tests)

pub attr_lt-apart : (a b : Attr) → attr_lt a b ≡ true → attr_lt b a ≡ true → ⊥
attr_lt-apart a b h k = grind (arith, nat_tests)

-- links are compared on the left first
pub link_lt-left : (x y : Link) → attr_lt x.left y.left ≡ true → link_lt x y ≡ true
link_lt-left x y h = ap (λ b. cond b true (cond (attr_lt y.left x.left) false (attr_lt x.right y.right))) h

link_lt-right : (a b c : Attr) → attr_lt b c ≡ true → link_lt (link a b) (link a c) ≡ true
link_lt-right a b c h = ap (λ t. cond t true (cond t false (attr_lt b c))) (attr_lt-irreflexive a) ∙ h

pub links_have : (xs ys : List Attr) (a b : Attr) → Has xs a → Has ys b → Has (links_among xs ys) (link a b)
links_have [] ys a b h k = elim h [ ]
links_have (x ∷ xs) ys a b first k = Has-append_left _ (Has-map (link x) k)
links_have (x ∷ xs) ys a b (later h) k = Has-append_right (map (link x) ys) (links_have xs ys a b h k)

pub sides_of : (xs ys : List Attr) (l : Link) → Has (links_among xs ys) l → Has xs l.left × Has ys l.right
sides_of [] ys l h = elim h [ ]
sides_of (x ∷ xs) ys l h = elim (Has-append_cases (map (link x) ys) (links_among xs ys) l h) [
  | inl i ↦ (let r : (b : Attr) × Has ys b × (link x b ≡ l) = Has-map_from (link x) ys l i in
      (subst (λ (z : Link). Has (x ∷ xs) z.left) r.2 first, subst (λ (z : Link). Has ys z.right) r.2 r.1))
  | inr i ↦ (let r : Has xs l.left × Has ys l.right = sides_of xs ys l i in (later r.0, r.1))
]

row_ascends : (x : Attr) (ys : List Attr) → Ascends attr_lt ys → Ascends link_lt (map (link x) ys)
row_ascends x [] none = none
row_ascends x (y ∷ ys) (more f a) =
    more
    (λ l h. let r : (b : Attr) × Has ys b × (link x b ≡ l) = Has-map_from (link x) ys l h in
    subst (λ (z : Link). link_lt (link x y) z ≡ true) r.2 (link_lt-right x y r.0 (f r.0 r.1)))
    (row_ascends x ys a)

pub links_ascend : (xs ys : List Attr) → Ascends attr_lt xs → Ascends attr_lt ys → Ascends link_lt (links_among xs ys)
links_ascend [] ys a b = none
links_ascend (x ∷ xs) ys (more f a) b =
    Ascends-append link_lt (map (link x) ys) (links_among xs ys) (row_ascends x ys b) (links_ascend xs ys a b)
    (λ l m h k. let r : (c : Attr) × Has ys c × (link x c ≡ l) = Has-map_from (link x) ys l h in
    let e : attr_lt x m.left ≡ true = f m.left (sides_of xs ys m k).0 in
    link_lt-left l m (subst (λ (z : Link). attr_lt z.left m.left ≡ true) r.2 e))

pub length-links : (xs ys : List Attr) → length (links_among xs ys) ≡ length xs * length ys
length-links [] ys = omega arith
length-links (x ∷ xs) ys =
    let a : length (map (link x) ys ++ links_among xs ys) ≡ length (map (link x) ys) + length (links_among xs ys) = length-append (map (link x) ys) (links_among xs ys) in
    let b : length (map (link x) ys) ≡ length ys = simp length-map in
    let c : length (links_among xs ys) ≡ length xs * length ys = length-links xs ys in
    let n : suc (length xs) * length ys ≡ length ys + length xs * length ys = grind arith in
    omega (arith, a, b, c, n)

-- there is room for the next row
pub room_for_row : (xs : List Attr) (zs : List Link) (i : ℕ) → i < length xs → length xs ≤ 12 → zs ++ links_among (drop i xs) xs ≡ links_among xs xs → length zs + length xs ≤ 144
room_for_row xs zs i l few e =
    let d : Attr = record { stream = 0; column = 0 } in
    let a : length (zs ++ links_among (drop i xs) xs) ≡ length zs + length (links_among (drop i xs) xs) = length-append zs (links_among (drop i xs) xs) in
    let b : length (zs ++ links_among (drop i xs) xs) ≡ length xs * length xs = ap length e ∙ length-links xs xs in
    let c : length (links_among (drop i xs) xs) ≡ length (links_among (get_or xs i d ∷ drop (i + 1) xs) xs) = ap (λ (w : List Attr). length (links_among w xs)) (drop_more xs i d l) in
    let f : length (map (link (get_or xs i d)) xs ++ links_among (drop (i + 1) xs) xs) ≡ length (map (link (get_or xs i d)) xs) + length (links_among (drop (i + 1) xs) xs) = length-append (map (link (get_or xs i d)) xs) (links_among (drop (i + 1) xs) xs) in
    let g : length (map (link (get_or xs i d)) xs) ≡ length xs = simp length-map in
    let h : length xs * length xs ≤ 144 = square_of (length xs) few in
    omega (arith, a, b, c, f, g, h)
  where
    square_of : (n : ℕ) → n ≤ 12 → n * n ≤ 144
    square_of n m = grind arith
