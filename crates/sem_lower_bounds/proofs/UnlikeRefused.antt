-- The worked query with two soft comparisons is refused in its twentieth part.
use Rattle.std.proofs.Common.{◌≡◌, ℕ, zero, suc, ◌-◌, ◌<◌, ◌⊎◌, inl, inr, List, [], ◌∷◌, ◌++◌, map, length, Bool, true, false, ◌&&◌, ◌||◌, refl, sym, ap, ◌∙◌, subst, arith, nat_lt, nat_eq, ℤ, pos, negsuc, Some, slice_get}
use Rattle.std.proofs.lemmas.Bool.Decides.{nat_tests}
use Rattle.std.proofs.lemmas.List.Elements.{Contains-get_or}
use Rattle.std.specs.List.{list_all}
use Rattle.sem_query.proofs.Has.{Has, first, later, Has-nil, Has-from_contains, Contains-from_has, Has-map_from, Has-append_cases}
use Rattle.sem_query.proofs.Holding.{Compares-from_test, Holds-each}
use Rattle.sem_query.proofs.Local.{eq_from_sign}
use Rattle.sem_query.specs.declared.atom.Attr.{Attr}
use Rattle.sem_query.specs.declared.atom.Op.{Op}
use Rattle.sem_query.specs.declared.condition.Condition.{Condition}
use Rattle.sem_query.specs.declared.condition.Condition.TheVariants.{C1, C2, C3}
use Rattle.sem_query.specs.declared.part.Sign.{Sign}
use Rattle.sem_query.specs.declared.plan.Link.{Link}
use Rattle.sem_query.specs.declared.plan.PartPlan.{PartPlan}
use Rattle.sem_query.specs.Query.{attr_lt}
use Rattle.sem_query.specs.Admission.{sign_eq}
use Rattle.sem_query.specs.Assignment.{Assignment, holds}
use Rattle.sem_query.specs.Meaning.{assignment_of}
use Rattle.sem_query.specs.Parts.{pairs, sign, signs_of, signs_lt, InPart, IsPart, AreParts}
use Rattle.sem_query.specs.Order.{IsBounded}
use Rattle.sem_query.specs.Links.{IsEquality, IsMinRef, IsMaxRef, both}
use Rattle.sem_query.specs.Plan.{link}
use Rattle.sem_query.specs.Violation as Violation
use Rattle.sem_query.specs.Violation.{condition_lt, Failure, failure_lt, Fails, Breaks, IsViolation}
use Rattle.sem_laws.proofs.OnePartFits.{has_cases}
use Rattle.sem_laws.proofs.PartsListed.{elements_of, root_table, part_table, covers, all-parts}
use Rattle.sem_laws.proofs.PlanTests.{ascends_test, pairs-ascend, links_test}
use Rattle.sem_laws.proofs.PlanTested.{bounded-if, equal-complete, in-order, turned, min-ref, max-ref}
use Rattle.sem_laws.proofs.PlanIs.{is_inside, inside-if}
use Rattle.sem_laws.proofs.PlanKeeps.{unbroken, none-broken}
use Rattle.sem_laws.proofs.Tests.{all_at, and-left, and-right, or-cases, nat_true, sign_eq-is}
use Rattle.sem_lower_bounds.specs.Cases.{s_a, s_b, t_c}
use Rattle.sem_lower_bounds.specs.Unlike.{s_e, unlike_both}

abbrev less : Sign
less = Sign.Lt

abbrev same : Sign
same = Sign.Eq

abbrev more : Sign
more = Sign.Gt

-- S.a and T.c, S.b and T.c, S.a and 1, S.a and S.b, S.b and 1, T.c and 1; S.e is 1
abbrev signs : Sign → Sign → Sign → Sign → Sign → Sign → List Sign
signs ac bc a ab b c = ac ∷ bc ∷ a ∷ ab ∷ a ∷ b ∷ b ∷ Sign.Eq ∷ c ∷ []

abbrev part : List Sign → List Link → List Link → PartPlan
part s equal below = record { signs = record { items = s }; streams = record { items = [] }; equal = record { items = equal }; less = record { items = below }; local = []; soft = record { items = [] } }

-- S.a, S.b and T.c, where S.e is 1
abbrev at : ℤ → ℤ → ℤ → Assignment
at a b c = assignment_of ((a ∷ b ∷ pos 1 ∷ []) ∷ (c ∷ []) ∷ [])

-- the nineteen parts in which both columns of S stand below T.c, with their links
abbrev early_parts : List PartPlan
early_parts =
    part (signs less less less less less less) [] (link s_b t_c ∷ [])
    ∷ part (signs less less less less less same) (link s_e t_c ∷ []) []
    ∷ part (signs less less less less less more) [] []
    ∷ part (signs less less less less same more) [] []
    ∷ part (signs less less less less more more) [] (link s_b t_c ∷ [])
    ∷ part (signs less less less same less less) [] (link s_a t_c ∷ link s_b t_c ∷ [])
    ∷ part (signs less less less same less same) (link s_e t_c ∷ []) []
    ∷ part (signs less less less same less more) [] []
    ∷ part (signs less less less more less less) [] (link s_a t_c ∷ [])
    ∷ part (signs less less less more less same) (link s_e t_c ∷ []) []
    ∷ part (signs less less less more less more) [] []
    ∷ part (signs less less same less more more) [] (link s_b t_c ∷ [])
    ∷ part (signs less less same same same more) [] []
    ∷ part (signs less less same more less more) [] []
    ∷ part (signs less less more less more more) [] (link s_b t_c ∷ [])
    ∷ part (signs less less more same more more) [] (link s_a t_c ∷ link s_b t_c ∷ [])
    ∷ part (signs less less more more less more) [] (link s_a t_c ∷ [])
    ∷ part (signs less less more more same more) [] (link s_a t_c ∷ [])
    ∷ part (signs less less more more more more) [] (link s_a t_c ∷ [])
    ∷ []

abbrev early_some : List (List Assignment)
early_some =
    (at (negsuc 1) (negsuc 0) (pos 0) ∷ []) ∷ (at (negsuc 0) (pos 0) (pos 1) ∷ []) ∷ (at (negsuc 0) (pos 0) (pos 2) ∷ []) ∷ (at (pos 0) (pos 1) (pos 2) ∷ [])
    ∷ (at (pos 0) (pos 2) (pos 3) ∷ []) ∷ (at (negsuc 0) (negsuc 0) (pos 0) ∷ []) ∷ (at (pos 0) (pos 0) (pos 1) ∷ []) ∷ (at (pos 0) (pos 0) (pos 2) ∷ [])
    ∷ (at (negsuc 0) (negsuc 1) (pos 0) ∷ []) ∷ (at (pos 0) (negsuc 0) (pos 1) ∷ []) ∷ (at (pos 0) (negsuc 0) (pos 2) ∷ []) ∷ (at (pos 1) (pos 2) (pos 3) ∷ [])
    ∷ (at (pos 1) (pos 1) (pos 2) ∷ []) ∷ (at (pos 1) (pos 0) (pos 2) ∷ []) ∷ (at (pos 2) (pos 3) (pos 4) ∷ []) ∷ (at (pos 2) (pos 2) (pos 3) ∷ [])
    ∷ (at (pos 2) (pos 0) (pos 3) ∷ []) ∷ (at (pos 2) (pos 1) (pos 3) ∷ []) ∷ (at (pos 3) (pos 2) (pos 4) ∷ [])
    ∷ []

early : unbroken unlike_both early_parts early_some ≡ true
unfolding pairs
early = refl

-- the twentieth: T.c lies between them
abbrev between : List Sign
between = signs less more less less less less

abbrev late_signs : List (List Sign)
late_signs =
    signs less more less less same less
    ∷ signs less more less less more less
    ∷ signs less more less less more same
    ∷ signs less more less less more more
    ∷ signs less more same less more more
    ∷ signs less more more less more more
    ∷ signs more less less more less less
    ∷ signs more less same more less less
    ∷ signs more less more more less less
    ∷ signs more less more more less same
    ∷ signs more less more more less more
    ∷ signs more less more more same more
    ∷ signs more less more more more more
    ∷ signs more more less less less less
    ∷ signs more more less less same less
    ∷ signs more more less less more less
    ∷ signs more more less same less less
    ∷ signs more more less more less less
    ∷ signs more more same less more less
    ∷ signs more more same same same less
    ∷ signs more more same more less less
    ∷ signs more more more less more less
    ∷ signs more more more less more same
    ∷ signs more more more less more more
    ∷ signs more more more same more less
    ∷ signs more more more same more same
    ∷ signs more more more same more more
    ∷ signs more more more more less less
    ∷ signs more more more more same less
    ∷ signs more more more more more less
    ∷ signs more more more more more same
    ∷ signs more more more more more more
    ∷ []

abbrev late_some : List Assignment
late_some =
    at (negsuc 0) (pos 1) (pos 0) ∷ at (negsuc 0) (pos 2) (pos 0) ∷ at (pos 0) (pos 2) (pos 1) ∷ at (pos 0) (pos 3) (pos 2)
    ∷ at (pos 1) (pos 3) (pos 2) ∷ at (pos 2) (pos 4) (pos 3) ∷ at (pos 0) (negsuc 1) (negsuc 0) ∷ at (pos 1) (negsuc 0) (pos 0)
    ∷ at (pos 2) (negsuc 0) (pos 0) ∷ at (pos 2) (pos 0) (pos 1) ∷ at (pos 3) (pos 0) (pos 2) ∷ at (pos 3) (pos 1) (pos 2)
    ∷ at (pos 4) (pos 2) (pos 3) ∷ at (negsuc 0) (pos 0) (negsuc 1) ∷ at (pos 0) (pos 1) (negsuc 0) ∷ at (pos 0) (pos 2) (negsuc 0)
    ∷ at (pos 0) (pos 0) (negsuc 0) ∷ at (pos 0) (negsuc 0) (negsuc 1) ∷ at (pos 1) (pos 2) (pos 0) ∷ at (pos 1) (pos 1) (pos 0)
    ∷ at (pos 1) (pos 0) (negsuc 0) ∷ at (pos 2) (pos 3) (pos 0) ∷ at (pos 2) (pos 3) (pos 1) ∷ at (pos 3) (pos 4) (pos 2)
    ∷ at (pos 2) (pos 2) (pos 0) ∷ at (pos 2) (pos 2) (pos 1) ∷ at (pos 3) (pos 3) (pos 2) ∷ at (pos 2) (pos 0) (negsuc 0)
    ∷ at (pos 2) (pos 1) (pos 0) ∷ at (pos 3) (pos 2) (pos 0) ∷ at (pos 3) (pos 2) (pos 1) ∷ at (pos 4) (pos 3) (pos 2)
    ∷ []

abbrev early_signs : List (List Sign)
early_signs = map (λ part. part.signs.items) early_parts

abbrev parts : List (List Sign)
parts = early_signs ++ between ∷ late_signs

-- one assignment for each
abbrev some_inside : List (List Sign) → List Assignment → Bool
some_inside [] ws = true
some_inside (s ∷ ss) [] = false
some_inside (s ∷ ss) (w ∷ ws) = is_inside unlike_both s w && some_inside ss ws

each-inside : (ss : List (List Sign)) (ws : List Assignment) → some_inside ss ws ≡ true → (s : List Sign) → Has ss s → IsPart unlike_both s
each-inside [] ws h s i = elim i [ ]
each-inside (t ∷ ss) [] h s i = absurd cc
each-inside (t ∷ ss) (w ∷ ws) h s first = record { one = w; inside = inside-if unlike_both s w (and-left _ _ h) }
each-inside (t ∷ ss) (w ∷ ws) h s (later i) = each-inside ss ws (and-right (is_inside unlike_both t w) _ h) s i

abbrev firsts_of : List (List Assignment) → List Assignment
firsts_of [] = []
firsts_of ([] ∷ wss) = firsts_of wss
firsts_of ((w ∷ ws) ∷ wss) = w ∷ firsts_of wss

abbrev middle : Assignment
middle = at (negsuc 1) (pos 0) (negsuc 0)

each : some_inside parts (firsts_of early_some ++ middle ∷ late_some) ≡ true
unfolding pairs
each = refl

ascend : ascends_test signs_lt parts ≡ true
ascend = refl

-- the signs of assignments in which a column of S equals T.c: the table of bounds tells nothing of `<>`
abbrev level_signs : List (List Sign)
level_signs =
    signs less same less less less less
    ∷ signs less same less less same same
    ∷ signs less same less less more more
    ∷ signs less same same less more more
    ∷ signs less same more less more more
    ∷ signs same less less more less less
    ∷ signs same less same more less same
    ∷ signs same less more more less more
    ∷ signs same less more more same more
    ∷ signs same less more more more more
    ∷ signs same same less same less less
    ∷ signs same same same same same same
    ∷ signs same same more same more more
    ∷ signs same more less less less less
    ∷ signs same more less less same less
    ∷ signs same more less less more less
    ∷ signs same more same less more same
    ∷ signs same more more less more more
    ∷ signs more same less more less less
    ∷ signs more same same more less less
    ∷ signs more same more more less less
    ∷ signs more same more more same same
    ∷ signs more same more more more more
    ∷ []

abbrev is_level : List Sign → Bool
is_level [] = false
is_level (s ∷ []) = false
is_level (s ∷ t ∷ signs) = sign_eq s Sign.Eq || sign_eq t Sign.Eq

levels : list_all is_level level_signs ≡ true
levels = refl

all : covers (elements_of unlike_both) (root_table unlike_both) (pairs unlike_both) (parts ++ level_signs) ≡ true
unfolding pairs
all = refl

no_level : (v : Assignment) → holds unlike_both v ≡ true → is_level (signs_of unlike_both v) ≡ true → ⊥
unfolding pairs
no_level v h l = elim (or-cases (sign_eq (sign (v s_a) (v t_c)) Sign.Eq) _ l) [
  | inl e ↦ Compares-from_test Op.Ne (v s_a) (v t_c) (Holds-each unlike_both v h _ (later first)) (eq_from_sign (v s_a) (v t_c) (sign_eq-is _ _ e))
  | inr e ↦ Compares-from_test Op.Ne (v s_b) (v t_c) (Holds-each unlike_both v h _ (later (later first))) (eq_from_sign (v s_b) (v t_c) (sign_eq-is _ _ e))
]

among : (s : List Sign) → IsPart unlike_both s → Has parts s
among s p = elim (Has-append_cases parts level_signs s (subst (Has (parts ++ level_signs)) p.inside.signs (all-parts unlike_both p.one (parts ++ level_signs) all p.inside.holds p.inside.domains))) [
  | inl h ↦ h
  | inr h ↦ absurd (no_level p.one p.inside.holds (subst (λ t. is_level t ≡ true) (sym p.inside.signs) (all_at is_level level_signs s levels h)))
]

are_parts : AreParts unlike_both parts
are_parts = record {
  ascending = pairs-ascend signs_lt parts ascend;
  each = λ k d l. each-inside parts (firsts_of early_some ++ middle ∷ late_some) each _ (Has-from_contains parts _ (Contains-get_or parts k d l));
  all = λ s p. Contains-from_has parts s (among s p);
}

-- the twentieth part has S.a below T.c and T.c below S.b
abbrev between_part : PartPlan
between_part = part between [] (link s_a t_c ∷ link t_c s_b ∷ [])

abbrev some : List Assignment
some = middle ∷ []

all-inside : list_all (is_inside unlike_both between) some ≡ true
unfolding pairs
all-inside = refl

inside : (w : Assignment) → Has some w → InPart unlike_both between w
inside w h = inside-if unlike_both between w (all_at (is_inside unlike_both between) some w all-inside h)

links : links_test unlike_both (part_table unlike_both between) some between_part ≡ true
unfolding pairs
links = refl

e-bounded : IsBounded unlike_both between s_e
unfolding pairs
e-bounded = bounded-if unlike_both between some inside between_part links s_e refl

a-ref : IsMinRef unlike_both between s_a
unfolding pairs
a-ref = min-ref unlike_both between some inside between_part links s_a refl refl

b-ref : IsMaxRef unlike_both between s_b
unfolding pairs
b-ref = max-ref unlike_both between some inside between_part links s_b refl refl

no-equality : (a b : Attr) → IsEquality unlike_both between a b → ⊥
no-equality a b e = elim (in-order unlike_both between some inside between_part links a b e.across.across) [
  | inl l ↦ Has-nil (equal-complete unlike_both between some inside between_part links a b l e)
  | inr l ↦ Has-nil (equal-complete unlike_both between some inside between_part links b a l (turned unlike_both between some inside between_part links a b e))
]

none-before : (c : Condition) (a : Attr) → (condition_lt c C3 ≡ true) ⊎ (attr_lt a s_a ≡ true) → Breaks unlike_both between c a → ⊥
none-before C1 a (inl l) h = elim (has_cases s_e a [] (Has-from_contains (s_e ∷ []) a h.0)) [ inl e ↦ h.1 (subst (IsBounded unlike_both between) e e-bounded) | inr i ↦ Has-nil i ]
none-before C2 a (inl l) h = elim h.2 [ inl e ↦ no-equality a h.1 e | inr e ↦ no-equality h.1 a e ]
none-before C3 a (inl l) h = absurd cc
none-before c a (inr l) h = grind (arith, nat_tests, l)

-- the first nineteen parts break no condition
at_before : (xs : List (List Sign)) (rest : List (List Sign)) (n : ℕ) (s : List Sign) → n < length xs → slice_get (xs ++ rest) n ≡ Some s → Has xs s
at_before [] rest n s l e = absurd (omega (arith, l))
at_before (x ∷ xs) rest zero s l e = let f : x ≡ s = cc in subst (Has (x ∷ xs)) f first
at_before (x ∷ xs) rest (suc n) s l e = later (at_before xs rest n s (omega (arith, l)) e)

none-early : (n : ℕ) (s : List Sign) → n < 19 → slice_get parts n ≡ Some s → (c : Condition) (a : Attr) → Breaks unlike_both s c a → ⊥
none-early n s l e c a b =
    let h : Has early_signs s = at_before early_signs (between ∷ late_signs) n s l e in
    let r = Has-map_from (λ (part : PartPlan). part.signs.items) early_parts s h in
    none-broken unlike_both early_parts early_some early r.0 r.1 c a (subst (λ t. Breaks unlike_both t c a) (sym r.2) b)

abbrev failure : Failure
failure = record { part = 20; condition = C3; attr = s_a }

firsts : (g : Failure) → failure_lt g failure ≡ true → Fails unlike_both parts g → ⊥
firsts g l k = elim (or-cases (nat_lt g.part 20) _ l) [
  | inl e ↦ none-early (g.part - 1) k.signs (few g.part k.number e) k.at g.condition g.attr k.breaks
  | inr e ↦ (
      let n : g.part ≡ 20 = nat_true g.part 20 (and-left _ _ e) in
      let s : between ≡ k.signs = one k.signs (ap (λ (m : ℕ). slice_get parts (m - 1)) (sym n) ∙ k.at) in
      none-before g.condition g.attr (before g.condition g.attr (or-cases (condition_lt g.condition C3) _ (and-right (nat_eq g.part 20) _ e)))
      (subst (λ t. Breaks unlike_both t g.condition g.attr) (sym s) k.breaks))
]
  where
    few : (m : ℕ) → 0 < m → nat_lt m 20 ≡ true → m - 1 < 19
    few m a b = let c : m < 20 = grind (arith, nat_tests, b) in omega (arith, a, c)

    one : (t : List Sign) → slice_get parts 19 ≡ Some t → between ≡ t
    one t e = cc

    before : (c : Condition) (a : Attr) → (condition_lt c C3 ≡ true) ⊎ ((nat_eq (Violation.condition_index c) 3 && attr_lt a s_a) ≡ true) → (condition_lt c C3 ≡ true) ⊎ (attr_lt a s_a ≡ true)
    before c a (inl h) = inl h
    before c a (inr h) = inr (and-right (nat_eq (Violation.condition_index c) 3) _ h)

pub unlike-refused : IsViolation unlike_both (Some failure)
unlike-refused = Violation.first refl parts are_parts (
  record {
    signs = between;
    number = omega arith;
    at = refl;
    breaks = (inl a-ref, λ d. record { first = s_a; second = s_b; here = refl; there = refl; two = both a-ref b-ref });
  },
  firsts,
)
