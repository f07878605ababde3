-- A table of places, filled from the last column to the first.
use Rattle.std.proofs.Common.{◌≡◌, ◌≢◌, ℕ, suc, ◌+◌, ◌-◌, ◌*◌, ◌<◌, ◌≤◌, Bool, true, false, cond, ◌&&◌, nat_eq, List, [], ◌∷◌, length, drop, get_or, refl, sym, ◌∙◌, ap, subst, arith}
use Rattle.std.proofs.Math.ListN.{set, length-set, replicate}
use Rattle.std.proofs.lemmas.List.{get_or-set_other, get_or-replicate, length-replicate, drop_more, drop_all}
use Rattle.std.proofs.lemmas.Grind.{get_or-set_at}
use Rattle.std.proofs.lemmas.Bool.Decides.{nat_tests}
use Rattle.sem_query.specs.declared.atom.Attr.{Attr}
use Rattle.plan_constraints.specs.Nodes.{place_of}
use Rattle.plan_whole.specs.Places.{ArePlaces}

-- the table tells the places in what is left of a list, counted from so many on
pub record AreFrom (xs : List Attr) (n : ℕ) (places : List ℕ) : Type 0 where
  pub long : length places ≡ 32
  pub told : (a : Attr) → a.stream < 4 → a.column < 8 → get_or places (8 * a.stream + a.column) 0 ≡ n + place_of (drop n xs) a

none_placed : (xs : List Attr) (places : List ℕ) → length places ≡ 32 → ((k : ℕ) → k < 32 → get_or places k 0 ≡ length xs) → AreFrom xs (length xs) places
none_placed xs places l h = record { long = l; told = λ a s c. h (8 * a.stream + a.column) (omega (arith, s, c)) ∙ rest a }
  where
    rest : (a : Attr) → length xs ≡ length xs + place_of (drop (length xs) xs) a
    rest a = let e : place_of (drop (length xs) xs) a ≡ 0 = ap (λ ys. place_of ys a) (drop_all (length xs) xs (omega arith)) in omega (arith, e)

-- before a column is looked at, the table is filled with the length of the list
pub filled : (xs : List Attr) (n : ℕ) → n ≡ length xs → AreFrom xs (length xs - 0) (replicate 32 n)
filled xs n e = subst (λ m. AreFrom xs m (replicate 32 n)) (omega arith) (none_placed xs (replicate 32 n) (length-replicate 32 n) (λ k l. get_or-replicate 32 k n 0 l ∙ e))

-- one column more
here_or_later : (xs : List Attr) (n : ℕ) (d a : Attr) → n < length xs → place_of (drop n xs) a ≡ cond (nat_eq (get_or xs n d).stream a.stream && nat_eq (get_or xs n d).column a.column) 0 (suc (place_of (drop (n + 1) xs) a))
here_or_later xs n d a l = ap (λ ys. place_of ys a) (drop_more xs n d l)

pub one_placed : (xs : List Attr) (n m k i : ℕ) (d : Attr) (places : List ℕ) → n < length xs → m ≡ n + 1 → k ≡ n → (get_or xs n d).stream < 4 → (get_or xs n d).column < 8
    → i ≡ 8 * (get_or xs n d).stream + (get_or xs n d).column → AreFrom xs m places → AreFrom xs n (set places i k)
one_placed xs n m k i d places l e f s c g h = record {
  long = length-set places i k ∙ h.long;
  told = λ a t u. by a t u _ refl;
}
  where
    x : Attr
    x = get_or xs n d

    by : (a : Attr) → a.stream < 4 → a.column < 8 → (b : Bool) → nat_eq x.stream a.stream && nat_eq x.column a.column ≡ b → get_or (set places i k) (8 * a.stream + a.column) 0 ≡ n + place_of (drop n xs) a
    by a t u true p =
        let q : 8 * a.stream + a.column ≡ i = grind (arith, nat_tests, g, p) in
        let r : place_of (drop n xs) a ≡ 0 = here_or_later xs n d a l ∙ ap (λ b. cond b 0 (suc (place_of (drop (n + 1) xs) a))) p in
        let v : i < length places = (let w = h.long in omega (arith, g, s, c, w)) in
        let o : get_or (set places i k) (8 * a.stream + a.column) 0 ≡ k = get_or-set_at places i (8 * a.stream + a.column) k 0 q v in
        omega (arith, o, f, r)
    by a t u false p =
        let q : 8 * a.stream + a.column ≢ i = λ w. differ a t u p (w ∙ g) in
        let r : place_of (drop n xs) a ≡ suc (place_of (drop (n + 1) xs) a) = here_or_later xs n d a l ∙ ap (λ b. cond b 0 (suc (place_of (drop (n + 1) xs) a))) p in
        let o : get_or (set places i k) (8 * a.stream + a.column) 0 ≡ get_or places (8 * a.stream + a.column) 0 = get_or-set_other places i (8 * a.stream + a.column) k 0 q in
        let v : get_or places (8 * a.stream + a.column) 0 ≡ (n + 1) + place_of (drop (n + 1) xs) a = h.told a t u ∙ ap (λ m. m + place_of (drop m xs) a) e in
        omega (arith, o, v, r)
      where
        differ : (a : Attr) → a.stream < 4 → a.column < 8 → nat_eq x.stream a.stream && nat_eq x.column a.column ≡ false → 8 * a.stream + a.column ≡ 8 * x.stream + x.column → ⊥
        differ a t u p w =
            let y : x.column ≡ a.column = omega (arith, u, c, w) in
            let z : x.stream ≡ a.stream = omega (arith, u, c, w) in
            grind (arith, nat_tests, y, z, p)

-- and one that the table has no room for
pub one_passed : (xs : List Attr) (n m : ℕ) (d : Attr) (places : List ℕ) → n < length xs → m ≡ n + 1 → ¬ (((get_or xs n d).stream < 4) × ((get_or xs n d).column < 8)) → AreFrom xs m places → AreFrom xs n places
one_passed xs n m d places l e past h = record { long = h.long; told = λ a t u. by a t u _ refl }
  where
    x : Attr
    x = get_or xs n d

    by : (a : Attr) → a.stream < 4 → a.column < 8 → (b : Bool) → nat_eq x.stream a.stream && nat_eq x.column a.column ≡ b → get_or places (8 * a.stream + a.column) 0 ≡ n + place_of (drop n xs) a
    by a t u true p =
        let y : x.stream ≡ a.stream = grind (arith, nat_tests, p) in
        let z : x.column ≡ a.column = grind (arith, nat_tests, p) in
        absurd (past (omega (arith, y, t), omega (arith, z, u)))
    by a t u false p =
        let r : place_of (drop n xs) a ≡ suc (place_of (drop (n + 1) xs) a) = here_or_later xs n d a l ∙ ap (λ b. cond b 0 (suc (place_of (drop (n + 1) xs) a))) p in
        let v : get_or places (8 * a.stream + a.column) 0 ≡ (n + 1) + place_of (drop (n + 1) xs) a = h.told a t u ∙ ap (λ m. m + place_of (drop m xs) a) e in
        omega (arith, v, r)

-- all of them
pub all_placed : (xs : List Attr) (n : ℕ) (places : List ℕ) → n ≡ 0 → AreFrom xs n places → ArePlaces xs places
all_placed xs n places e h = subst (λ n. AreFrom xs n places → ArePlaces xs places) (sym e) (λ h a s c. (let f = h.told a s c in omega (arith, f))) h
