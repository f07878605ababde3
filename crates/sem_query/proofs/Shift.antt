-- A column above every constant and every end of a domain, or below every one, can be moved away without leaving the part.
use Rattle.std.proofs.Common.{◌≡◌, ℕ, ℤ, pos, ◌+ℤ◌, ◌-ℤ◌, ◌<ℤ◌, ◌≤ℤ◌, int_lt, cond, true, List, [], ◌∷◌, Contains, refl, sym, ◌∙◌, arith}
use Rattle.std.proofs.lemmas.Int.{ints, by_lt_z}
use Rattle.sem_query.proofs.Has.{Has, first, later, Has-from_contains, Contains-from_has, Has-append_left, Has-append_right, Has-flat_map, same_map}
use Rattle.sem_query.proofs.Domains.{each_keeps, keeps_each, lies, lies_low, lies_high}
use Rattle.sem_query.proofs.Holding.{Compares, Compares-from_test, compares-true, Holds-each, Holds-from_each}
use Rattle.sem_query.proofs.Elements.{SidesIn, sides_in, element_from_has}
use Rattle.sem_query.proofs.Local.{PairIn, pair_named, sign-lt, sign-eq, sign-gt, compares_alike}
use Rattle.sem_query.specs.declared.atom.Atom.{Atom}
use Rattle.sem_query.specs.declared.atom.Domain.{Domain}
use Rattle.sem_query.specs.declared.atom.Op.{Op}
use Rattle.sem_query.specs.declared.part.Sign.{Sign}
use Rattle.sem_query.specs.declared.atom.Element.{Element}
use Rattle.sem_query.specs.declared.atom.Element.TheVariants as element
use Rattle.sem_query.specs.Query.{QueryValue, attrs_of, consts_of}
use Rattle.sem_query.specs.Assignment.{Assignment, value, lies_in, Holds, AtomHolds, KeepsDomains}
use Rattle.sem_query.specs.Parts.{signs_of, sign, sign_at, pairs, InPart}
use Rattle.sem_query.specs.Order.{IsElement}
use Rattle.sem_query.specs.Laws.{ends_of}

-- f keeps the order of integers
pub record Rises (f : ℤ → ℤ) : Type 0 where
  pub rises : (a b : ℤ) → a <ℤ b → f a <ℤ f b

-- what keeps the order keeps each sign
pub sign_kept : (f : ℤ → ℤ) → Rises f → (a b : ℤ) → sign (f a) (f b) ≡ sign a b
sign_kept f r a b =
    by_lt_z a b
    (λ h. sign-lt (f a) (f b) (r.rises a b h) ∙ sym (sign-lt a b h))
    (λ h. by_lt_z b a
    (λ k. sign-gt (f a) (f b) (r.rises b a k) ∙ sym (sign-gt a b k))
    (λ k. let e : a ≡ b = omega (arith, ints) in
    let g : f a ≡ f b = cc in
    sign-eq (f a) (f b) g ∙ sym (sign-eq a b e)))

-- f keeps each of these
abbrev pub Keeps : (ℤ → ℤ) → List ℤ → Type 0
Keeps f ks = (k : ℤ) → Contains ks k → f k ≡ k

-- the constants are among the ends
pub const_end : (q : QueryValue) (k : ℤ) → Contains (consts_of q.atoms) k → Contains (ends_of q) k
const_end q k h = Contains-from_has _ k (Has-append_left _ (Has-from_contains _ k h))

-- and so are the least and the greatest integer of a domain
low_end : (q : QueryValue) (d : Domain) → Has q.domains d → Contains (ends_of q) d.lo
low_end q d h = Contains-from_has _ d.lo (Has-append_right (consts_of q.atoms) (Has-flat_map (λ (d : Domain). d.lo ∷ d.hi ∷ []) q.domains d d.lo h first))

high_end : (q : QueryValue) (d : Domain) → Has q.domains d → Contains (ends_of q) d.hi
high_end q d h = Contains-from_has _ d.hi (Has-append_right (consts_of q.atoms) (Has-flat_map (λ (d : Domain). d.lo ∷ d.hi ∷ []) q.domains d d.hi h (later first)))

pub not_above : (f : ℤ → ℤ) → Rises f → (a b : ℤ) → a ≤ℤ b → f a ≤ℤ f b
not_above f r a b h =
    by_lt_z a b
    (λ l. let g : f a <ℤ f b = r.rises a b l in omega (arith, ints, g))
    (λ l. let e : a ≡ b = omega (arith, ints) in let g : f a ≡ f b = cc in omega (arith, ints, g))

module _ (q : QueryValue) (s : List Sign) (f : ℤ → ℤ) (r : Rises f) (keep : Keeps f (ends_of q)) (v : Assignment) (i : InPart q s v) where
  -- each column moved by f
  unfoldable pub moved : Assignment
  moved a = f (v a)

  pub value-moved : (x : Element) → IsElement q x → value x moved ≡ f (value x v)
  unfolding moved
  value-moved (element.Attr a) h = refl
  value-moved (element.Const k) h = sym (keep k (const_end q k h))

  sign-moved : (x y : Element) → IsElement q x → IsElement q y → sign (value x moved) (value y moved) ≡ sign (value x v) (value y v)
  sign-moved x y h j = rw (value-moved x h, value-moved y j) (sign_kept f r (value x v) (value y v))

  compares-moved : (o : Op) (x y : Element) → IsElement q x → IsElement q y → Compares o (value x v) (value y v) → Compares o (value x moved) (value y moved)
  compares-moved o x y h j c = compares_alike o _ _ _ _ (sym (sign-moved x y h j)) c

  atom-moved : (t : Atom) → Has q.atoms t → AtomHolds moved t
  atom-moved t h =
      let sides : SidesIn q.atoms t = sides_in q.atoms t h in
      compares-true t.op _ _ (compares-moved t.op t.left t.right (element_from_has q t.left sides.left) (element_from_has q t.right sides.right) (Compares-from_test t.op _ _ (Holds-each q v i.holds t h)))

  holds-moved : Holds q moved
  holds-moved = Holds-from_each q moved atom-moved

  domain-moved : (d : Domain) → Has q.domains d → lies_in d (moved d.attr) ≡ true
  unfolding moved
  domain-moved d h =
      let k : lies_in d (v d.attr) ≡ true = keeps_each q v i.domains d h in
      let low : f d.lo ≤ℤ f (v d.attr) = not_above f r d.lo (v d.attr) (lies_low d (v d.attr) k) in
      let high : f (v d.attr) ≤ℤ f d.hi = not_above f r (v d.attr) d.hi (lies_high d (v d.attr) k) in
      let e : f d.lo ≡ d.lo = keep d.lo (low_end q d h) in
      let g : f d.hi ≡ d.hi = keep d.hi (high_end q d h) in
      lies d (f (v d.attr)) (omega (arith, ints, low, e)) (omega (arith, ints, high, g))

  domains-moved : KeepsDomains q moved
  domains-moved = each_keeps q moved domain-moved

  signs-moved : signs_of q moved ≡ s
  signs-moved =
      same_map (sign_at moved) (sign_at v) (pairs q)
      (λ p h. let sides : PairIn (attrs_of q.atoms) (consts_of q.atoms) p = pair_named q p h in
      sign-moved (element.Attr p.left) p.right (Contains-from_has _ _ sides.left) (element_from_has q p.right sides.right))
      ∙ i.signs

  -- an assignment of the part stays in it
  pub InPart-moved : InPart q s moved
  InPart-moved = record { holds = holds-moved; domains = domains-moved; signs = signs-moved }

-- t added to what is above k
unfoldable pub raised : ℤ → ℕ → ℤ → ℤ
raised k t z = cond (int_lt k z) (z +ℤ pos t) z

-- t taken from what is below k
unfoldable pub lowered : ℤ → ℕ → ℤ → ℤ
lowered k t z = cond (int_lt z k) (z -ℤ pos t) z

pub raised-rises : (k : ℤ) (t : ℕ) → Rises (raised k t)
unfolding raised
raised-rises k t = record { rises = λ a b h. grind (arith, ints) }

pub lowered-rises : (k : ℤ) (t : ℕ) → Rises (lowered k t)
unfolding lowered
lowered-rises k t = record { rises = λ a b h. grind (arith, ints) }

pub raised-same : (k : ℤ) (t : ℕ) (z : ℤ) → z ≤ℤ k → raised k t z ≡ z
unfolding raised
raised-same k t z h = grind (arith, ints)

pub lowered-same : (k : ℤ) (t : ℕ) (z : ℤ) → k ≤ℤ z → lowered k t z ≡ z
unfolding lowered
lowered-same k t z h = grind (arith, ints)

pub raised-above : (k : ℤ) (t : ℕ) (z : ℤ) → k <ℤ z → raised k t z ≡ z +ℤ pos t
unfolding raised
raised-above k t z h = grind (arith, ints)

pub lowered-below : (k : ℤ) (t : ℕ) (z : ℤ) → z <ℤ k → lowered k t z ≡ z -ℤ pos t
unfolding lowered
lowered-below k t z h = grind (arith, ints)
