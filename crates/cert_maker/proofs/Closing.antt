-- Which comparison closes the branch of the next sign, or that none does.
use Rattle.std.proofs.Common.{◌≡◌, ℕ, zero, suc, pos, not, ◌+◌, ◌-◌, ◌<◌, ◌≤◌, Bool, true, false, ◌||◌, cond, nat_lt, nat_eq, Option, Some, None, List, [], ◌∷◌, ◌++◌, length, slice_get, slice_index_or, get_or, refl, sym, ◌∙◌, ap, subst, arith}
use Rattle.std.specs.List.{list_any, position, position_or_len}
use Rattle.std.proofs.lemmas.Bool.Decides.{nat_tests}
use Rattle.std.proofs.lemmas.List.Quantifiers.{position-Some}
use Rattle.std.proofs.lemmas.Option.{slice_get-get_or}
use Rattle.sem_query.proofs.Has.{Has, first, later}
use Rattle.sem_query.specs.declared.atom.Atom.{Atom}
use Rattle.sem_query.specs.declared.atom.Element.TheVariants as element
use Rattle.sem_query.specs.declared.atom.Op.{Op}
use Rattle.sem_query.specs.declared.part.Pair.{Pair}
use Rattle.sem_query.specs.declared.part.Sign.{Sign}
use Rattle.plan_constraints.specs.Soft.{fails_by, denies_itself}
use Rattle.plan_constraints.proofs.Prefix.{pair_at}
use Rattle.plan_constraints.proofs.Softly.{neither, any_none}
use Rattle.cert_checker.specs.Branching.{Branching}
use Rattle.cert_checker.specs.Rules.{comparison, is_false_under, is_refuted, is_there_refuted, some_refuted, IsRefuted}

-- ---- tests

pub neither_from : (a b : Bool) → a ≡ false → b ≡ false → (a || b) ≡ false
neither_from true b h k = absurd cc
neither_from false b h k = k

or_right : (a b : Bool) → b ≡ true → (a || b) ≡ true
or_right true b h = refl
or_right false b h = h

or_left : (a b : Bool) → a ≡ true → (a || b) ≡ true
or_left true b h = refl
or_left false b h = absurd cc

pub none_any : {A : Type 0} (p : A → Bool) (xs : List A) → ((x : A) → Has xs x → p x ≡ false) → list_any p xs ≡ false
none_any p [] f = refl
none_any p (x ∷ xs) f = neither_from (p x) (list_any p xs) (f x first) (none_any p xs (λ y h. f y (later h)))

none_before : {A : Type 0} (p : A → Bool) (xs : List A) → length xs ≤ position_or_len p xs → list_any p xs ≡ false
none_before p [] l = refl
none_before p (x ∷ xs) l = by (p x) l (none_before p xs)
  where
    by : (b : Bool) → length (x ∷ xs) ≤ cond (not b) (1 + position_or_len p xs) 0 → (length xs ≤ position_or_len p xs → list_any p xs ≡ false) → (b || list_any p xs) ≡ false
    by true l f = absurd (omega (arith, l))
    by false l f = f (omega (arith, l))

-- a test that has no place is true of none
none_placed : {A : Type 0} (p : A → Bool) (xs : List A) → None ≡ position p xs → list_any p xs ≡ false
none_placed p xs e = by (nat_lt (position_or_len p xs) (length xs)) refl e
  where
    past : (m n : ℕ) → nat_lt m n ≡ false → n ≤ m
    past m n h = grind (arith, nat_tests)

    by : (b : Bool) → nat_lt (position_or_len p xs) (length xs) ≡ b → let O : Type 0 = Option ℕ in ◌≡◌ {A = O} None (cond b (Some (position_or_len p xs)) None) → list_any p xs ≡ false
    by true f e = absurd cc
    by false f e = none_before p xs (past _ _ f)

-- ---- one sign more

module _ (t : Atom) (s : Sign) (p : Pair) where
  kept_more : (ps : List Pair) (ss : List Sign) → slice_get ps (length ss) ≡ Some p → is_false_under t ps ss ≡ false → fails_by t p s ≡ false → is_false_under t ps (ss ++ s ∷ []) ≡ false
  kept_more [] ss g n m = absurd cc
  kept_more (r ∷ ps) [] g n m = let same : p ≡ r = cc in neither_from (fails_by t r s) (is_false_under t ps []) (subst (λ z. fails_by t z s ≡ false) same m) (none_under ps)
    where
      none_under : (ps : List Pair) → is_false_under t ps [] ≡ false
      none_under [] = refl
      none_under (p ∷ ps) = refl
  kept_more (r ∷ ps) (u ∷ ss) g n m =
      let k = neither (fails_by t r u) (is_false_under t ps ss) n in
      neither_from (fails_by t r u) (is_false_under t ps (ss ++ s ∷ [])) k.0 (kept_more ps ss g k.1 m)

  refuted_more : (ps : List Pair) (ss : List Sign) → slice_get ps (length ss) ≡ Some p → fails_by t p s ≡ true → is_false_under t ps (ss ++ s ∷ []) ≡ true
  refuted_more [] ss g m = absurd cc
  refuted_more (r ∷ ps) [] g m = let same : p ≡ r = cc in or_left (fails_by t r s) (is_false_under t ps []) (subst (λ z. fails_by t z s ≡ true) same m)
  refuted_more (r ∷ ps) (u ∷ ss) g m = or_right (fails_by t r u) (is_false_under t ps (ss ++ s ∷ [])) (refuted_more ps ss g m)

-- a comparison, where one is asked for that stands for none
some_atom : Atom
some_atom = record { left = element.Const (pos 0); op = Op.Eq; right = element.Const (pos 0) }

-- the comparison at a place has the number behind it
numbered : (ts : List Atom) (i : ℕ) (d : Atom) → i < length ts → comparison ts (i + 1) ≡ Some (get_or ts i d)
numbered ts i d l =
    let a : nat_eq (i + 1) 0 ≡ false = apart i in
    let b : (i + 1) - 1 ≡ i = omega arith in
    ap (λ c. cond c None (slice_get ts ((i + 1) - 1))) a ∙ ap (λ n. slice_get ts n) b ∙ slice_get-get_or ts i d l
  where
    apart : (i : ℕ) → nat_eq (i + 1) 0 ≡ false
    apart i = grind (arith, nat_tests)

named_refuted : (b : Branching) (ss : List Sign) (i number : ℕ) (d : Atom) → i < length b.atoms → number ≡ i + 1 → is_refuted b.pairs ss (get_or b.atoms i d) ≡ true → IsRefuted b ss number
named_refuted b ss i number d l e h =
    ap (λ n. is_there_refuted b.pairs ss (comparison b.atoms n)) e ∙ ap (is_there_refuted b.pairs ss) (numbered b.atoms i d l) ∙ h

-- and is one of them
pub there : (ts : List Atom) (number : ℕ) (t : Atom) → comparison ts number ≡ Some t → Has ts t
there ts number t e = by (nat_eq number 0) e
  where
    at : (ts : List Atom) (k : ℕ) (t : Atom) → slice_get ts k ≡ Some t → Has ts t
    at [] k t e = absurd cc
    at (u ∷ ts) zero t e = let same : u ≡ t = cc in subst (λ z. Has (u ∷ ts) z) same first
    at (u ∷ ts) (suc k) t e = later (at ts k t e)

    by : (b : Bool) → cond b None (slice_get ts (number - 1)) ≡ Some t → Has ts t
    by true e = absurd cc
    by false e = at ts (number - 1) t e

module _ (b : Branching) (ts : List Atom) (et : ts ≡ b.atoms) where
  -- the place of a comparison that is false where the next pair has the sign names one that closes the branch
  named_at : (ps : List Pair) (ss : List Sign) (s : Sign) (d : Atom) (r : Pair) (i number : ℕ) → ps ≡ b.pairs → slice_get ps (length ss) ≡ Some r → Some i ≡ position (λ t. fails_by t r s) ts → number ≡ i + 1 → IsRefuted b (ss ++ s ∷ []) number
  named_at ps ss s d r i number ep g e en =
      let f : (i < length b.atoms) × (fails_by (get_or b.atoms i d) r s ≡ true) × ((k : ℕ) → k < i → fails_by (get_or b.atoms k d) r s ≡ false) = position-Some (λ t. fails_by t r s) b.atoms i d (ap (position (λ t. fails_by t r s)) (sym et) ∙ sym e) in
      let h : slice_get b.pairs (length ss) ≡ Some r = ap (λ z. slice_get z (length ss)) (sym ep) ∙ g in
      named_refuted b (ss ++ s ∷ []) i number d f.0 en (or_right (denies_itself (get_or b.atoms i d)) (is_false_under (get_or b.atoms i d) b.pairs (ss ++ s ∷ [])) (refuted_more (get_or b.atoms i d) s r b.pairs ss h f.1))

  -- and where there is none, none is refuted by the longer signs that was not before
  none_at : (ps : List Pair) (ss : List Sign) (s : Sign) (r : Pair) → ps ≡ b.pairs → slice_get ps (length ss) ≡ Some r → some_refuted b.pairs ss b.atoms ≡ false → None ≡ position (λ t. fails_by t r s) ts → some_refuted b.pairs (ss ++ s ∷ []) b.atoms ≡ false
  none_at ps ss s r ep g n e = none_any (λ t. is_refuted b.pairs (ss ++ s ∷ []) t) b.atoms (λ t i.
      let old = neither (denies_itself t) (is_false_under t b.pairs ss) (any_none (λ t. is_refuted b.pairs ss t) b.atoms n t i) in
      let none : list_any (λ t. fails_by t r s) b.atoms ≡ false = subst (λ z. list_any (λ t. fails_by t r s) z ≡ false) et (none_placed (λ t. fails_by t r s) ts e) in
      let h : slice_get b.pairs (length ss) ≡ Some r = ap (λ z. slice_get z (length ss)) (sym ep) ∙ g in
      neither_from (denies_itself t) (is_false_under t b.pairs (ss ++ s ∷ [])) old.0 (kept_more t s r b.pairs ss h old.1 (any_none (λ t. fails_by t r s) b.atoms none t i)))

  pub next_named : (ps : List Pair) (ss : List Sign) (s : Sign) (e : Pair) (i number : ℕ) → ps ≡ b.pairs → length ss < length ps → Some i ≡ position (λ t. fails_by t (slice_index_or ps (length ss) e) s) ts → number ≡ i + 1 → IsRefuted b (ss ++ s ∷ []) number
  next_named ps ss s e i number ep l f en = named_at ps ss s some_atom (slice_index_or ps (length ss) e) i number ep (pair_at ps (length ss) e l) f en

  pub next_none : (ps : List Pair) (ss : List Sign) (s : Sign) (e : Pair) → ps ≡ b.pairs → length ss < length ps → some_refuted b.pairs ss b.atoms ≡ false → None ≡ position (λ t. fails_by t (slice_index_or ps (length ss) e) s) ts → some_refuted b.pairs (ss ++ s ∷ []) b.atoms ≡ false
  next_none ps ss s e ep l n f = none_at ps ss s (slice_index_or ps (length ss) e) ep (pair_at ps (length ss) e l) n f

  -- the same at the root, of comparisons that say that an element is not itself
  pub root_named : (i number : ℕ) → Some i ≡ position (λ t. denies_itself t) ts → number ≡ i + 1 → IsRefuted b [] number
  root_named i number e en =
      let d : Atom = some_atom in
      let f : (i < length b.atoms) × (denies_itself (get_or b.atoms i d) ≡ true) × ((k : ℕ) → k < i → denies_itself (get_or b.atoms k d) ≡ false) = position-Some (λ t. denies_itself t) b.atoms i d (ap (position (λ t. denies_itself t)) (sym et) ∙ sym e) in
      named_refuted b [] i number d f.0 en (or_left (denies_itself (get_or b.atoms i d)) (is_false_under (get_or b.atoms i d) b.pairs []) f.1)

  pub root_none : None ≡ position (λ t. denies_itself t) ts → some_refuted b.pairs [] b.atoms ≡ false
  root_none e = none_any (λ t. is_refuted b.pairs [] t) b.atoms (λ t i.
      let none : list_any (λ t. denies_itself t) b.atoms ≡ false = subst (λ z. list_any (λ t. denies_itself t) z ≡ false) et (none_placed (λ t. denies_itself t) ts e) in
      neither_from (denies_itself t) (is_false_under t b.pairs []) (any_none (λ t. denies_itself t) b.atoms none t i) (none_under t b.pairs))
    where
      none_under : (t : Atom) (ps : List Pair) → is_false_under t ps [] ≡ false
      none_under t [] = refl
      none_under t (p ∷ ps) = refl

  -- a place is among the comparisons
  pub placed : (p : Atom → Bool) (i : ℕ) → length ts ≤ 16 → Some i ≡ position p ts → i < 16
  placed p i w e = let l : i < length ts = (position-Some p ts i some_atom (sym e)).0 in omega (arith, l, w)
