-- A query with signs is satisfied where the query is and its pairs have them; it names the same columns, and is well formed.
use Rattle.std.proofs.Common.{◌≡◌, suc, ℤ, int_lt, ◌≤◌, inl, inr, Bool, true, false, cond, List, [], ◌∷◌, ◌++◌, map, length, All, Contains, refl, sym, ap, ◌∙◌, subst, arith}
use Rattle.std.proofs.lemmas.List.Elements.{All-append, All-weaker, All-contains}
use Rattle.std.proofs.lemmas.Bool.Decides.{nat_tests}
use Rattle.std.proofs.lemmas.Int.{ints}
use Rattle.std.specs.List.{flat_map}
use Rattle.sem_query.specs.declared.atom.Attr.{Attr}
use Rattle.sem_query.specs.declared.atom.Atom.{Atom}
use Rattle.sem_query.specs.declared.atom.Domain.{Domain}
use Rattle.sem_query.specs.declared.atom.Element.{Element}
use Rattle.sem_query.specs.declared.atom.Element.TheVariants as element
use Rattle.sem_query.specs.declared.atom.Op.{Op}
use Rattle.sem_query.specs.declared.part.Pair.{Pair}
use Rattle.sem_query.specs.declared.part.Sign.{Sign}
use Rattle.sem_query.specs.Query.{QueryValue, with_new, attrs_with, consts_with, attrs_of, consts_of, attr_lt, is_soft, IsColumn, IsShort, IsDomain, HasAttr}
use Rattle.sem_query.specs.Assignment.{Assignment, value, lies_in, AtomHolds}
use Rattle.sem_query.specs.Parts.{sign_at}
use Rattle.sem_query.proofs.Has.{Has, first, later, Has-nil, Has-from_contains, Contains-from_has, Has-append_left, Has-append_right, Has-append_cases, Has-flat_map}
use Rattle.sem_query.proofs.Holding.{Holds-each, Holds-from_each}
use Rattle.sem_query.proofs.Domains.{each_keeps, lies}
use Rattle.sem_query.proofs.Elements.{attrs_with-has}
use Rattle.sem_query.proofs.Ascending.{Ascends-attrs_of}
use Rattle.sem_query.proofs.Unique.{IsStrict, same_members}
use Rattle.sem_query.proofs.Local.{sign-lt, sign-eq, sign-gt, lt_from_sign, eq_from_sign, gt_from_sign}
use Rattle.plan_constraints.proofs.Joined.{All-from_has}
use Rattle.sem_laws.proofs.OnePartFits.{has_cases}
use Rattle.sem_whole.specs.System.{atom_bounds, domain_bounds}
use Rattle.sem_whole.specs.Signed.{op_of, said, all_said, with_signs, IsSide, AreSignedPairs, SignsAreSaid, SignedQueriesHold, SignedAttrsAreTheSame, SignedQueriesAreWellFormed, SolutionsSatisfy}
use Rattle.sem_whole.proofs.Formed.{how_soft, hard-cons, soft-across}
use Rattle.sem_whole.proofs.Suffice.{met_holds, ne_or_not, atom_says, atom_if}

-- what is said is said of one of the pairs
pub said_from : (ps : List Pair) (ss : List Sign) (t : Atom) → Has (all_said ps ss) t → (p : Pair) × (s : Sign) × Has ps p × (said p s ≡ t)
said_from [] ss t h = Has-nil h
said_from (p ∷ ps) [] t h = Has-nil h
said_from (p ∷ ps) (s ∷ ss) t h = elim (has_cases (said p s) t (all_said ps ss) h) [
  | inl e ↦ (p, s, first, e)
  | inr k ↦ (let r = said_from ps ss t k in (r.0, r.1, later r.2, r.3))
]

no_unlike : (s : Sign) → op_of s ≡ Op.Ne → ⊥
no_unlike Sign.Lt e = absurd cc
no_unlike Sign.Eq e = absurd cc
no_unlike Sign.Gt e = absurd cc

-- no sign says `<>`
pub said_no_unlike : (ps : List Pair) (ss : List Sign) (t : Atom) → Has (all_said ps ss) t → t.op ≡ Op.Ne → ⊥
said_no_unlike ps ss t h e = let r = said_from ps ss t h in no_unlike r.1 (ap (λ t. t.op) r.3 ∙ e)

sign_says : (v : Assignment) (p : Pair) (s : Sign) → sign_at v p ≡ s → AtomHolds v (said p s)
sign_says v p Sign.Lt e = atom_if v (said p Sign.Lt) (lt_from_sign (v p.left) (value p.right v) e)
sign_says v p Sign.Eq e = atom_if v (said p Sign.Eq) (eq_from_sign (v p.left) (value p.right v) e)
sign_says v p Sign.Gt e = atom_if v (said p Sign.Gt) (gt_from_sign (v p.left) (value p.right v) e)

has_sign : (v : Assignment) (p : Pair) (s : Sign) → AtomHolds v (said p s) → sign_at v p ≡ s
has_sign v p Sign.Lt h = sign-lt (v p.left) (value p.right v) (atom_says v (said p Sign.Lt) h)
has_sign v p Sign.Eq h = sign-eq (v p.left) (value p.right v) (atom_says v (said p Sign.Eq) h)
has_sign v p Sign.Gt h = sign-gt (v p.left) (value p.right v) (atom_says v (said p Sign.Gt) h)

all_say : (v : Assignment) (ps : List Pair) (ss : List Sign) → map (sign_at v) ps ≡ ss → (t : Atom) → Has (all_said ps ss) t → AtomHolds v t
all_say v [] ss e t h = Has-nil h
all_say v (p ∷ ps) [] e t h = Has-nil h
all_say v (p ∷ ps) (s ∷ ss) e t h =
    let one : sign_at v p ≡ s = cc in
    let rest : map (sign_at v) ps ≡ ss = cc in
    elim (has_cases (said p s) t (all_said ps ss) h) [
      | inl i ↦ subst (AtomHolds v) i (sign_says v p s one)
      | inr k ↦ all_say v ps ss rest t k
    ]

have_signs : (v : Assignment) (ps : List Pair) (ss : List Sign) → length ps ≡ length ss → ((t : Atom) → Has (all_said ps ss) t → AtomHolds v t) → map (sign_at v) ps ≡ ss
have_signs v [] [] e f = refl
have_signs v [] (s ∷ ss) e f = absurd cc
have_signs v (p ∷ ps) [] e f = absurd cc
have_signs v (p ∷ ps) (s ∷ ss) e f =
    let n : suc (length ps) ≡ suc (length ss) = e in
    let one : sign_at v p ≡ s = has_sign v p s (f (said p s) first) in
    let rest : map (sign_at v) ps ≡ ss = have_signs v ps ss (omega (arith, n)) (λ t k. f t (later k)) in
    cc

pub signs_are_said : SignsAreSaid
signs_are_said v ps ss e = (all_say v ps ss, have_signs v ps ss e)

pub signed_holds : SignedQueriesHold
signed_holds q ps ss e v = (
  λ h. (
    Holds-from_each q v (λ t i. Holds-each (with_signs ps ss q) v h t (Has-append_right (all_said ps ss) i)),
    have_signs v ps ss e (λ t i. Holds-each (with_signs ps ss q) v h t (Has-append_left q.atoms i)),
  ),
  λ h. Holds-from_each (with_signs ps ss q) v (λ t i. elim (Has-append_cases (all_said ps ss) q.atoms t i) [
    | inl j ↦ all_say v ps ss h.1 t j
    | inr j ↦ Holds-each q v h.0 t j
  ]),
)

one_more : {X : Type 0} (P : X → Type 0) (y : X) (xs : List X) → P y → ((z : X) → Has xs z → P z) → (z : X) → Has (y ∷ xs) z → P z
one_more P y xs p f z first = p
one_more P y xs p f z (later k) = f z k

chosen : {X : Type 0} (b c : Bool) (P : X → Type 0) (xs ys zs : List X) (z : X) → (Has xs z → P z) → (Has ys z → P z) → (Has zs z → P z) → Has (cond b xs (cond c ys zs)) z → P z
chosen true c P xs ys zs z f g h k = f k
chosen false true P xs ys zs z f g h k = g k
chosen false false P xs ys zs z f g h k = h k

-- what holds of an element and of all elements of a list holds of all after the element was put in
put_in : {X : Type 0} (lt : X → X → Bool) (P : X → Type 0) (x : X) (xs : List X) → P x → ((z : X) → Has xs z → P z) → (z : X) → Has (with_new lt x xs) z → P z
put_in lt P x [] p f z h = one_more P x [] p f z h
put_in lt P x (y ∷ ys) p f z h =
    chosen (lt x y) (lt y x) P (x ∷ y ∷ ys) (y ∷ with_new lt x ys) (y ∷ ys) z
    (one_more P x (y ∷ ys) p f z)
    (one_more P y (with_new lt x ys) (f y first) (put_in lt P x ys p (λ v i. f v (later i))) z)
    (f z) h

along : (a b c : Attr) → attr_lt a b ≡ true → attr_lt b c ≡ true → attr_lt a c ≡ true
along a b c h k = grind (arith, nat_tests)

apart : (a b : Attr) → attr_lt a b ≡ true → attr_lt b a ≡ true → ⊥
apart a b h k = grind (arith, nat_tests)

strict : IsStrict attr_lt
strict = record { apart = apart }

module _ (q : QueryValue) where
  -- each side is one that the query may have
  abbrev AreSides : List Pair → Type 0
  AreSides ps = (p : Pair) → Has ps p → Contains (attrs_of q.atoms) p.left × IsSide (attrs_of q.atoms) p.right

  -- no column of a side is another
  no_column : (e : Element) (xs : List Attr) → IsSide (attrs_of q.atoms) e → ((z : Attr) → Has xs z → Has (attrs_of q.atoms) z) → (z : Attr) → Has (attrs_with e xs) z → Has (attrs_of q.atoms) z
  no_column (element.Attr a) xs s f z h = put_in attr_lt (Has (attrs_of q.atoms)) a xs (Has-from_contains (attrs_of q.atoms) a s) f z h
  no_column (element.Const k) xs s f z h = f z h

  no_columns : (ps : List Pair) (ss : List Sign) → AreSides ps → (z : Attr) → Has (attrs_of (all_said ps ss ++ q.atoms)) z → Has (attrs_of q.atoms) z
  no_columns [] ss f z h = h
  no_columns (p ∷ ps) [] f z h = h
  no_columns (p ∷ ps) (s ∷ ss) f z h =
      let one = f p first in
      put_in attr_lt (Has (attrs_of q.atoms)) p.left (attrs_with p.right (attrs_of (all_said ps ss ++ q.atoms))) (Has-from_contains (attrs_of q.atoms) p.left one.0)
      (no_column p.right (attrs_of (all_said ps ss ++ q.atoms)) one.1 (no_columns ps ss (λ r i. f r (later i)))) z h

  stays_named : (ps : List Pair) (ss : List Sign) (z : Attr) → Has (attrs_of q.atoms) z → Has (attrs_of (all_said ps ss ++ q.atoms)) z
  stays_named [] ss z h = h
  stays_named (p ∷ ps) [] z h = h
  stays_named (p ∷ ps) (s ∷ ss) z h =
      attrs_with-has (attrs_with p.right (attrs_of (all_said ps ss ++ q.atoms))) (element.Attr p.left) z
      (attrs_with-has (attrs_of (all_said ps ss ++ q.atoms)) p.right z (stays_named ps ss z h))

  same_attrs : (ps : List Pair) (ss : List Sign) → AreSides ps → attrs_of (all_said ps ss ++ q.atoms) ≡ attrs_of q.atoms
  same_attrs ps ss f =
      same_members attr_lt strict (attrs_of (all_said ps ss ++ q.atoms)) (attrs_of q.atoms) (Ascends-attrs_of (all_said ps ss ++ q.atoms)) (Ascends-attrs_of q.atoms) (no_columns ps ss f) (stays_named ps ss)

  short_side : (e : Element) (ks : List ℤ) → IsSide (attrs_of q.atoms) e → ((k : ℤ) → Has ks k → IsShort k) → (k : ℤ) → Has (consts_with e ks) k → IsShort k
  short_side (element.Attr a) ks s f k h = f k h
  short_side (element.Const j) ks s f k h = put_in int_lt IsShort j ks s f k h

  short_sides : (ps : List Pair) (ss : List Sign) → AreSides ps → ((k : ℤ) → Has (consts_of q.atoms) k → IsShort k) → (k : ℤ) → Has (consts_of (all_said ps ss ++ q.atoms)) k → IsShort k
  short_sides [] ss f short k h = short k h
  short_sides (p ∷ ps) [] f short k h = short k h
  short_sides (p ∷ ps) (s ∷ ss) f short k h =
      short_side p.right (consts_of (all_said ps ss ++ q.atoms)) (f p first).1 (short_sides ps ss (λ r i. f r (later i)) short) k h

  -- no sign is soft
  hard : (s : Sign) → is_soft (op_of s) ≡ false
  hard Sign.Lt = refl
  hard Sign.Eq = refl
  hard Sign.Gt = refl

  all_hard : (ps : List Pair) (ss : List Sign) → how_soft (all_said ps ss ++ q.atoms) ≡ how_soft q.atoms
  all_hard [] ss = refl
  all_hard (p ∷ ps) [] = refl
  all_hard (p ∷ ps) (s ∷ ss) = hard-cons (said p s) (all_said ps ss ++ q.atoms) (hard s) ∙ all_hard ps ss

  has_column : (ps : List Pair) (ss : List Sign) (t : Atom) → Has (all_said ps ss) t → HasAttr t
  has_column ps ss t h = let r = said_from ps ss t h in subst HasAttr r.3 (inl refl)

sides_of : (q : QueryValue) (ps : List Pair) (ss : List Sign) → AreSignedPairs q ps ss → AreSides q ps
sides_of q ps ss are p h = (are.left p h, are.right p h)

pub signed_attrs : SignedAttrsAreTheSame
signed_attrs q ps ss are = same_attrs q ps ss (sides_of q ps ss are)

pub signed_well_formed : SignedQueriesAreWellFormed
signed_well_formed q ps ss within are = record {
  streams = within.streams;
  different = within.different;
  selected = within.selected;
  select = within.select;
  sides = All-append HasAttr (all_said ps ss) q.atoms (All-from_has HasAttr (all_said ps ss) (has_column q ps ss)) within.sides;
  few_attrs = subst (λ xs. length xs ≤ 12) (sym same) within.few_attrs;
  attrs = subst (All (IsColumn (length q.from))) (sym same) within.attrs;
  consts = All-from_has IsShort (consts_of (all_said ps ss ++ q.atoms))
      (short_sides q ps ss (sides_of q ps ss are) (λ k h. All-contains IsShort (consts_of q.atoms) k within.consts (Contains-from_has (consts_of q.atoms) k h)));
  domains = All-weaker (IsDomain q) (IsDomain (with_signs ps ss q)) domain q.domains within.domains;
  ascending = within.ascending;
  few_soft_links = omega (arith, soft-across (all_said ps ss ++ q.atoms), all_hard q ps ss, within.few_soft);
}
  where
    same : attrs_of (all_said ps ss ++ q.atoms) ≡ attrs_of q.atoms
    same = signed_attrs q ps ss are

    domain : (d : Domain) → IsDomain q d → IsDomain (with_signs ps ss q) d
    domain d i = record {
      column = elim i.column [ inl c ↦ inl (subst (λ xs. Contains xs d.attr) (sym same) c) | inr c ↦ inr c ];
      low = i.low;
      high = i.high;
      some = i.some;
    }

pub solutions_satisfy : SolutionsSatisfy
solutions_satisfy q v solves unlike = (Holds-from_each q v atom, each_keeps q v domain)
  where
    atom : (t : Atom) → Has q.atoms t → AtomHolds v t
    atom t h = elim (ne_or_not t.op) [
      | inl e ↦ unlike t h e
      | inr n ↦ atom_if v t (met_holds t.op t.left t.right v n (λ d k. solves d (Has-append_left (flat_map domain_bounds q.domains) (Has-flat_map atom_bounds q.atoms t d h k))))
    ]

    domain : (d : Domain) → Has q.domains d → lies_in d (v d.attr) ≡ true
    domain d h =
        let i = solves _ (Has-append_right (flat_map atom_bounds q.atoms) (Has-flat_map domain_bounds q.domains d _ h first)) in
        let j = solves _ (Has-append_right (flat_map atom_bounds q.atoms) (Has-flat_map domain_bounds q.domains d _ h (later first))) in
        lies d (v d.attr) (omega (arith, ints, i)) (omega (arith, ints, j))
