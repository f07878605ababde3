-- Groups: the column that stands for a column says which comparisons join it with others.
use Rattle.std.proofs.Common.{◌≡◌, Bool, true, false, cond, List, [], ◌∷◌, refl, sym, ◌∙◌, ap, subst, arith}
use Rattle.sem_query.specs.declared.atom.Attr.{Attr}
use Rattle.sem_query.specs.declared.atom.Atom.{Atom}
use Rattle.sem_query.specs.declared.atom.Element.{Element}
use Rattle.sem_query.specs.declared.atom.Element.TheVariants as element
use Rattle.sem_query.specs.Query.{attr_eq}
use Rattle.sem_query.specs.Groups.{group_with, group_of, same_group, AreJoined, itself, compared, turned, onward}
use Rattle.sem_query.specs.Laws.{GroupsAreComponents}
use Rattle.sem_query.proofs.Has.{Has, first, later}
use Rattle.sem_query.proofs.Once.{attr_same}

pub attr_eq-itself : (a : Attr) → attr_eq a a ≡ true
attr_eq-itself a = grind arith

-- the test says whether the same column stands for two
pub same_from : (ts : List Atom) (a b : Attr) → same_group ts a b ≡ true → group_of ts a ≡ group_of ts b
same_from ts a b h = attr_same (group_of ts a) (group_of ts b) h

pub same_to : (ts : List Atom) (a b : Attr) → group_of ts a ≡ group_of ts b → same_group ts a b ≡ true
same_to ts a b e = subst (λ c. attr_eq (group_of ts a) c ≡ true) e (attr_eq-itself (group_of ts a))

-- columns of one group stay in one with one more comparison
with-same : (g : Attr → Attr) (l r : Element) (a b : Attr) → g a ≡ g b → group_with g l r a ≡ group_with g l r b
with-same g (element.Attr x) (element.Attr y) a b e = ap (λ c. cond (attr_eq c (g y)) (g x) c) e
with-same g (element.Attr x) (element.Const k) a b e = e
with-same g (element.Const k) y a b e = e

-- and it brings its two columns into one
with-sides : (g : Attr → Attr) (x y : Attr) → group_with g (element.Attr x) (element.Attr y) x ≡ group_with g (element.Attr x) (element.Attr y) y
with-sides g x y = by (attr_eq (g x) (g y)) ∙ sym (ap (λ b. cond b (g x) (g y)) (attr_eq-itself (g y)))
  where
    by : (b : Bool) → cond b (g x) (g x) ≡ g x
    by true = refl
    by false = refl

-- the two columns of a comparison are in one group
pub same_compared : (ts : List Atom) (t : Atom) (a b : Attr) → Has ts t → t.left ≡ element.Attr a → t.right ≡ element.Attr b → group_of ts a ≡ group_of ts b
unfolding group_of
same_compared [] t a b h e f = elim h [ ]
same_compared (u ∷ ts) t a b first e f =
    subst (λ l. group_with (group_of ts) l u.right a ≡ group_with (group_of ts) l u.right b) (sym e)
    (subst (λ r. group_with (group_of ts) (element.Attr a) r a ≡ group_with (group_of ts) (element.Attr a) r b) (sym f) (with-sides (group_of ts) a b))
same_compared (u ∷ ts) t a b (later h) e f = with-same (group_of ts) u.left u.right a b (same_compared ts t a b h e f)

-- where a chain leads from one to the other, they are in one group
same_joined : (ts : List Atom) (a b : Attr) → AreJoined ts a b → group_of ts a ≡ group_of ts b
same_joined ts a b itself = refl
same_joined ts a b (compared t h e f) = same_compared ts t a b h e f
same_joined ts a b (turned j) = sym (same_joined ts b a j)
same_joined ts a b (onward {b = c} j k) = same_joined ts a c j ∙ same_joined ts c b k

joined_more : (u : Atom) (ts : List Atom) (a b : Attr) → AreJoined ts a b → AreJoined (u ∷ ts) a b
joined_more u ts a b itself = itself
joined_more u ts a b (compared t h e f) = compared t (later h) e f
joined_more u ts a b (turned j) = turned (joined_more u ts b a j)
joined_more u ts a b (onward {b = c} j k) = onward (joined_more u ts a c j) (joined_more u ts c b k)

-- the column that stands for one is joined with it
joined_with : (u : Atom) (ts : List Atom) (a : Attr) → ((c : Attr) → AreJoined ts (group_of ts c) c) → (l r : Element) → u.left ≡ l → u.right ≡ r
    → AreJoined (u ∷ ts) (group_with (group_of ts) l r a) a
joined_with u ts a f (element.Attr x) (element.Attr y) e g = by (attr_eq (group_of ts a) (group_of ts y)) refl
  where
    still : (c : Attr) → AreJoined (u ∷ ts) (group_of ts c) c
    still c = joined_more u ts (group_of ts c) c (f c)

    by : (b : Bool) → attr_eq (group_of ts a) (group_of ts y) ≡ b → AreJoined (u ∷ ts) (cond b (group_of ts x) (group_of ts a)) a
    by true h =
        let same : group_of ts a ≡ group_of ts y = attr_same (group_of ts a) (group_of ts y) h in
        let back : AreJoined (u ∷ ts) y (group_of ts a) = subst (λ c. AreJoined (u ∷ ts) y c) (sym same) (turned (still y)) in
        onward (still x) (onward (compared u first e g) (onward back (still a)))
    by false h = still a
joined_with u ts a f (element.Attr x) (element.Const k) e g = joined_more u ts (group_of ts a) a (f a)
joined_with u ts a f (element.Const k) y e g = joined_more u ts (group_of ts a) a (f a)

pub joined_group : (ts : List Atom) (a : Attr) → AreJoined ts (group_of ts a) a
unfolding group_of
joined_group [] a = itself
joined_group (u ∷ ts) a = joined_with u ts a (joined_group ts) u.left u.right refl refl

joined_same : (ts : List Atom) (a b : Attr) → group_of ts a ≡ group_of ts b → AreJoined ts a b
joined_same ts a b e = onward (turned (joined_group ts a)) (subst (λ c. AreJoined ts c b) (sym e) (joined_group ts b))

-- two columns are in one group exactly where a chain leads from one to the other
pub groups_are_components : GroupsAreComponents
groups_are_components ts a b = (λ h. joined_same ts a b (same_from ts a b h), λ j. same_to ts a b (same_joined ts a b j))
