-- Lists of signs that begin with some signs, from those that have one more.
use Rattle.std.proofs.Common.{◌≡◌, ◌<◌, ◌+◌, List, [], ◌∷◌, ◌++◌, length, length-append, append_assoc, append-nil, refl, sym, ◌∙◌, ap, subst, arith, true, false, inl, inr}
use Rattle.sem_query.specs.declared.part.Sign.{Sign}
use Rattle.sem_query.specs.Parts.{sign_lt, signs_lt}
use Rattle.sem_query.proofs.Has.{Has, first, later, Has-append_left, Has-append_right, Has-append_cases}
use Rattle.sem_query.proofs.Unique.{none, more}
use Rattle.sem_query.proofs.Split.{StartsWith, ascends_joined, below_starts, shorten}
use Rattle.cert_checker.specs.Branching.{Branching}
use Rattle.cert_checker.specs.Branches.{AreBranches}
use Rattle.cert_maker.specs.Made.{IsOpen}
use Rattle.cert_maker.specs.Tree.{SomeUnder, AllUnder}
use Rattle.cert_maker.proofs.Beginnings.{front_from}

-- ---- some

pub none_some : (P : List Sign → Type 0) (pre : List Sign) → SomeUnder P pre []
none_some P pre = record { ascends = none; each = λ s h. elim h [ ]; under = λ s h. elim h [ ] }

module _ (P : List Sign → Type 0) (pre : List Sign) (xs ys zs : List (List Sign)) (a : SomeUnder P (pre ++ Sign.Lt ∷ []) xs) (b : SomeUnder P (pre ++ Sign.Eq ∷ []) ys) (c : SomeUnder P (pre ++ Sign.Gt ∷ []) zs) where
  in_one : (Q : Type 0) (s : List Sign) → Has (xs ++ (ys ++ zs)) s → (Has xs s → Q) → (Has ys s → Q) → (Has zs s → Q) → Q
  in_one Q s h f g k = elim (Has-append_cases xs (ys ++ zs) s h) [
    | inl i ↦ f i
    | inr i ↦ elim (Has-append_cases ys zs s i) [ inl j ↦ g j | inr j ↦ k j ]
  ]

  pub three_some : SomeUnder P pre (xs ++ (ys ++ zs))
  three_some = record {
    ascends = ascends_joined xs (ys ++ zs) a.ascends (ascends_joined ys zs b.ascends c.ascends (λ x y h i. below_starts pre Sign.Eq Sign.Gt x y refl (b.under x h) (c.under y i)))
        (λ x y h i. elim (Has-append_cases ys zs y i) [
          | inl j ↦ below_starts pre Sign.Lt Sign.Eq x y refl (a.under x h) (b.under y j)
          | inr j ↦ below_starts pre Sign.Lt Sign.Gt x y refl (a.under x h) (c.under y j)
        ]);
    each = λ s h. in_one (P s) s h (a.each s) (b.each s) (c.each s);
    under = λ s h. in_one (StartsWith pre s) s h (λ i. shorten pre Sign.Lt s (a.under s i)) (λ i. shorten pre Sign.Eq s (b.under s i)) (λ i. shorten pre Sign.Gt s (c.under s i));
  }

  -- and these signs themselves before them
  pub front_some : P pre → SomeUnder P pre (pre ∷ (xs ++ (ys ++ zs)))
  front_some p = record {
    ascends = more (λ y h. in_one (signs_lt pre y ≡ true) y h (λ i. below_longer pre Sign.Lt y (a.under y i)) (λ i. below_longer pre Sign.Eq y (b.under y i)) (λ i. below_longer pre Sign.Gt y (c.under y i))) three_some.ascends;
    each = λ s h. at_front (λ z. P z) s h p three_some.each;
    under = λ s h. at_front (StartsWith pre) s h (record { rest = []; is = sym (append-nil pre) }) three_some.under;
  }
    where
      sign_self : (s : Sign) → sign_lt s s ≡ false
      sign_self Sign.Lt = refl
      sign_self Sign.Eq = refl
      sign_self Sign.Gt = refl

      below_more : (pre : List Sign) (c : Sign) (r : List Sign) → signs_lt pre (pre ++ c ∷ r) ≡ true
      below_more [] c r = refl
      below_more (s ∷ pre) c r = rw sign_self (below_more pre c r)

      below_longer : (pre : List Sign) (c : Sign) (y : List Sign) → StartsWith (pre ++ c ∷ []) y → signs_lt pre y ≡ true
      below_longer pre c y w = rw (w.is, append_assoc) (below_more pre c w.rest)

      at_front : {x : List Sign} {xs : List (List Sign)} (Q : List Sign → Type 0) (s : List Sign) → Has (x ∷ xs) s → Q x → ((z : List Sign) → Has xs z → Q z) → Q s
      at_front Q s first p f = p
      at_front Q s (later h) p f = f s h

-- ---- all

lengthen : (pre : List Sign) (c : Sign) (s rest : List Sign) → s ≡ pre ++ c ∷ rest → StartsWith (pre ++ c ∷ []) s
lengthen pre c s rest e = record { rest = rest; is = e ∙ sym (append_assoc pre (c ∷ []) rest) }

module _ (P : List Sign → Type 0) (pre : List Sign) (xs ys zs : List (List Sign)) (a : AllUnder P (pre ++ Sign.Lt ∷ []) xs) (b : AllUnder P (pre ++ Sign.Eq ∷ []) ys) (c : AllUnder P (pre ++ Sign.Gt ∷ []) zs) where
  in_three : (s : List Sign) → P s → (d : Sign) (rest : List Sign) → s ≡ pre ++ d ∷ rest → Has (xs ++ (ys ++ zs)) s
  in_three s p Sign.Lt rest e = Has-append_left _ (a.all s p (lengthen pre Sign.Lt s rest e))
  in_three s p Sign.Eq rest e = Has-append_right xs (Has-append_left _ (b.all s p (lengthen pre Sign.Eq s rest e)))
  in_three s p Sign.Gt rest e = Has-append_right xs (Has-append_right ys (c.all s p (lengthen pre Sign.Gt s rest e)))

  three_rest : ¬ P pre → (s : List Sign) → P s → (rest : List Sign) → s ≡ pre ++ rest → Has (xs ++ (ys ++ zs)) s
  three_rest n s p [] e = absurd (n (subst P (e ∙ append-nil pre) p))
  three_rest n s p (d ∷ rest) e = in_three s p d rest e

  pub three_all : ¬ P pre → AllUnder P pre (xs ++ (ys ++ zs))
  three_all n = record { some = three_some P pre xs ys zs a.some b.some c.some; all = λ s p w. three_rest n s p w.rest w.is }

  front_rest : (s : List Sign) → P s → (rest : List Sign) → s ≡ pre ++ rest → Has (pre ∷ (xs ++ (ys ++ zs))) s
  front_rest s p [] e = subst (λ z. Has (pre ∷ (xs ++ (ys ++ zs))) z) (sym (e ∙ append-nil pre)) first
  front_rest s p (d ∷ rest) e = later (in_three s p d rest e)

  pub front_all : P pre → AllUnder P pre (pre ∷ (xs ++ (ys ++ zs)))
  front_all p = record { some = front_some P pre xs ys zs a.some b.some c.some p; all = λ s p w. front_rest s p w.rest w.is }

-- ---- parts and open lists of signs

module _ (b : Branching) (Part Front : List Sign → Type 0) (a : AreBranches b Part Front) (pre : List Sign) where
  -- what begins with some signs is at least as long
  as_long : (s : List Sign) → (w : StartsWith pre s) → length s ≡ length pre + length w.rest
  as_long s w = ap length w.is ∙ length-append pre w.rest

  -- with as many signs as these it is these
  same_length : (s : List Sign) → (w : StartsWith pre s) → length s ≡ length pre → pre ≡ s
  same_length s w e = by w.rest w.is (omega (arith, as_long s w, e))
    where
      by : (rest : List Sign) → s ≡ pre ++ rest → length rest ≡ 0 → pre ≡ s
      by [] h k = sym (h ∙ append-nil pre)
      by (c ∷ rest) h k = absurd (omega (arith, k))

  pub no_parts : ¬ Front pre → AllUnder Part pre []
  no_parts n = record { some = none_some Part pre; all = λ s p w. absurd (n (a.begins s pre p w)) }

  pub no_fronts : ¬ Front pre → AllUnder (IsOpen b Front) pre []
  no_fronts n = record { some = none_some (IsOpen b Front) pre; all = λ s o w. absurd (n (front_from b Part Front a pre s o w)) }

  module _ (l : length pre ≡ length b.pairs) where
    pub one_part : Front pre → AllUnder Part pre (pre ∷ [])
    one_part f = record {
      some = record {
        ascends = more (λ y h. elim h [ ]) none;
        each = λ s h. subst Part (only s h) (a.whole pre l f);
        under = λ s h. record { rest = []; is = sym (only s h) ∙ sym (append-nil pre) };
      };
      all = λ s p w. subst (λ (z : List Sign). Has (pre ∷ []) z) (same_length s w (omega (arith, a.long s p, l))) first;
    }
      where
        only : (s : List Sign) → Has (pre ∷ []) s → pre ≡ s
        only s first = refl
        only s (later h) = elim h [ ]

    pub whole_fronts : AllUnder (IsOpen b Front) pre []
    whole_fronts = record { some = none_some (IsOpen b Front) pre; all = λ s o w. absurd (omega (arith, as_long s w, o.left, l)) }

  -- some signs are no part
  pub not_part : length pre < length b.pairs → Part pre → ⊥
  not_part l p = omega (arith, a.long pre p, l)
