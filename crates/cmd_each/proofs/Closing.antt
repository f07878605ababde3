-- A reply that was closed.
use Rattle.std.proofs.Common.{◌≡◌, ℕ, Bool, true, false, cond, ◌==◌, List, [], ◌∷◌, ◌++◌, refl, sym, ap, ◌∙◌, subst, append_assoc, append-nil, arith, None, Some}
use Rattle.std.specs.declared.option.Option.{Option}
use Rattle.std.specs.Io.KnownBytes.{Appends}
use Rattle.std.proofs.KnownBytes.{Appends-trans}
use Rattle.std.proofs.lemmas.Slice.Eq.{bytes_eq-Decides}
use Rattle.std.proofs.lemmas.Bool.Decides.{nat_tests}
use Rattle.cmd_each.specs.declared.one_line.Last.{Last}
use Rattle.cmd_each.specs.declared.one_line.Last.TheVariants.{Nothing, Passed, Held}
use Rattle.cmd_each.specs.OneLine.{without_feed, ends_in_feed, closed, is_told, begins, told_by, end_of}
use Rattle.cmd_each.specs.Exchange.{names}
use Rattle.cmd_each.proofs.LastBytes.{ends-append, without-other, without-append}
use Rattle.cmd_each.proofs.OneLines.{begins-more}

-- what was passed on of a text, by what became of its last byte
Tail : Last → List ℕ → List ℕ → Type 0
Tail Nothing text more = (text ≡ more) × (ends_in_feed text ≡ false)
Tail Passed text more = (text ≡ more) × (ends_in_feed text ≡ false)
Tail (Held b) text more = text ≡ more ++ b ∷ []

append-front : (t x y : List ℕ) → t ++ x ≡ t ++ y → x ≡ y
append-front [] x y e = e
append-front (a ∷ t) x y e = let tails : t ++ x ≡ t ++ y = cc in append-front t x y tails

no-feed : (t text : List ℕ) → ends_in_feed (t ++ text) ≡ false → ends_in_feed text ≡ false
no-feed t [] e = refl
no-feed t (b ∷ text) e = sym (ends-append t b text) ∙ e

passed-tail : (t t' text : List ℕ) → t' ≡ t ++ text → ends_in_feed t' ≡ false → (more : List ℕ) × (t' ≡ t ++ more) × Tail Passed text more
unfolding Tail
passed-tail t t' text e f = (text, e, (refl, no-feed t text (sym (ap ends_in_feed e) ∙ f)))

held-tail : (b : ℕ) (t t' text : List ℕ) → begins (Some t) t' ≡ true → t' ++ b ∷ [] ≡ t ++ text → (more : List ℕ) × (t' ≡ t ++ more) × Tail (Held b) text more
unfolding Tail
held-tail b t t' text h e =
    let m = begins-more (Some t) t' h in
    let same : t ≡ m.0 = some-same t m.0 m.2 in
    let whole : t' ≡ t ++ m.1 = m.3 ∙ ap (λ l. l ++ m.1) (sym same) in
    (m.1, whole, append-front t text (m.1 ++ b ∷ []) (sym e ∙ ap (λ l. l ++ b ∷ []) whole ∙ append_assoc t m.1 (b ∷ [])))
  where
    some-same : (x y : List ℕ) → Some x ≡ Some y → x ≡ y
    some-same x y e = cc

-- a text was written to a sink that had nothing of it, and so much of it stands below
tail-of : (t t' : List ℕ) (last : Last) (text : List ℕ) → Appends (told_by (Some t) Nothing (Some t)) (told_by (Some t) last (Some t')) text → (more : List ℕ) × (t' ≡ t ++ more) × Tail last text more
unfolding Tail
tail-of t t' last text p = by_last last (subst (λ o. Appends o (told_by (Some t) last (Some t')) text) begun p)
  where
    begun : told_by (Some t) Nothing (Some t) ≡ Some t
    begun = ap (λ (x : Bool). cond x (Some t) None) ((bytes_eq-Decides t t).1 refl)

    by_last : (l : Last) → Appends (Some t) (told_by (Some t) l (Some t')) text → (more : List ℕ) × (t' ≡ t ++ more) × Tail l text more
    by_last Nothing q = by (is_told (Some t) t') refl q
      where
        by : (b : Bool) → is_told (Some t) t' ≡ b → Appends (Some t) (cond b (Some t') None) text → (more : List ℕ) × (t' ≡ t ++ more) × Tail Nothing text more
        by true e w =
            let same : t ≡ t' = (bytes_eq-Decides t t').0 e in
            let none : text ≡ [] = append-front t text [] (sym w ∙ sym same ∙ sym (append-nil t)) in
            ([], sym same ∙ sym (append-nil t), (none, ap ends_in_feed none))
        by false e w = absurd w
    by_last Passed q = by (begins (Some t) t') (ends_in_feed t') refl q
      where
        by : (b fed : Bool) → ends_in_feed t' ≡ fed → Appends (Some t) (cond b (cond fed None (Some t')) None) text → (more : List ℕ) × (t' ≡ t ++ more) × Tail Passed text more
        by true true e w = absurd w
        by true false e w = passed-tail t t' text w e
        by false fed e w = absurd w
    by_last (Held b) q = by (begins (Some t) t') refl q
      where
        by : (x : Bool) → begins (Some t) t' ≡ x → Appends (Some t) (cond x (Some (t' ++ b ∷ [])) None) text → (more : List ℕ) × (t' ≡ t ++ more) × Tail (Held b) text more
        by true e w = held-tail b t t' text e w
        by false e w = absurd w

closed-held : (b : ℕ) (more : List ℕ) → closed (more ++ b ∷ []) ≡ more ++ end_of (Held b)
closed-held b more = ap (λ l. l ++ 59 ∷ []) (without-append more b []) ∙ append_assoc more (without_feed (b ∷ [])) (59 ∷ []) ∙ ap (λ l. more ++ l) (by (b == 10))
  where
    by : (x : Bool) → cond x [] (b ∷ []) ++ 59 ∷ [] ≡ cond x (59 ∷ []) (b ∷ 59 ∷ [])
    by true = refl
    by false = refl

closed-tail : (last : Last) (text more : List ℕ) → Tail last text more → closed text ≡ more ++ end_of last
unfolding Tail
closed-tail Nothing text more h = ap (λ l. l ++ 59 ∷ []) (without-other text h.1 ∙ h.0)
closed-tail Passed text more h = ap (λ l. l ++ 59 ∷ []) (without-other text h.1 ∙ h.0)
closed-tail (Held b) text more h = ap closed h ∙ closed-held b more

-- a front of a text that has no LF at its end begins what is closed
front-other : (front rest : List ℕ) → ends_in_feed front ≡ false → (more : List ℕ) × (closed (front ++ rest) ≡ front ++ more)
front-other front [] e = (59 ∷ [], ap closed (append-nil front) ∙ ap (λ l. l ++ 59 ∷ []) (without-other front e))
front-other front (c ∷ rest) e = (closed (c ∷ rest), ap (λ l. l ++ 59 ∷ []) (without-append front c rest) ∙ append_assoc front (without_feed (c ∷ rest)) (59 ∷ []))

front-tail : (last : Last) (front rest more : List ℕ) → Tail last front more → (others : List ℕ) × (closed (front ++ rest) ≡ more ++ others)
unfolding Tail
front-tail Nothing front rest more h = let f = front-other front rest h.1 in (f.0, f.1 ∙ ap (λ l. l ++ f.0) h.0)
front-tail Passed front rest more h = let f = front-other front rest h.1 in (f.0, f.1 ∙ ap (λ l. l ++ f.0) h.0)
front-tail (Held b) front rest more h =
    (closed (b ∷ rest), ap (λ l. closed (l ++ rest)) h ∙ ap closed (append_assoc more (b ∷ []) rest) ∙ ap (λ l. l ++ 59 ∷ []) (without-append more b rest) ∙ append_assoc more (without_feed (b ∷ rest)) (59 ∷ []))

-- the bytes below, behind a reply and its end
pub closed-bytes : (base a b c : Option (List ℕ)) (last : Last) (reply : List ℕ) → a ≡ base → Appends (told_by base Nothing a) (told_by base last b) reply → Appends b c (end_of last) → Appends a c (closed reply)
closed-bytes base None b c last reply e p q = tt
closed-bytes base (Some t) b c last reply e p q = by b (subst (λ o. Appends (told_by o Nothing (Some t)) (told_by o last b) reply) (sym e) p) q
  where
    by : (b : Option (List ℕ)) → Appends (told_by (Some t) Nothing (Some t)) (told_by (Some t) last b) reply → Appends b c (end_of last) → Appends (Some t) c (closed reply)
    by None p q = absurd (none-left p)
      where
        none-left : Appends (told_by (Some t) Nothing (Some t)) None reply → ⊥
        none-left w = subst (λ o. Appends o None reply) (ap (λ (x : Bool). cond x (Some t) None) ((bytes_eq-Decides t t).1 refl)) w
    by (Some t') p q =
        let h = tail-of t t' last reply p in
        subst (Appends (Some t) c) (sym (closed-tail last reply h.0 h.2)) (Appends-trans (Some t) (Some t') c h.0 (end_of last) h.1 q)

-- a front of what is closed, which stands below
pub front-bytes : (base a b : Option (List ℕ)) (last : Last) (front rest : List ℕ) → a ≡ base → Appends (told_by base Nothing a) (told_by base last b) front → (part others : List ℕ) × Appends a b part × (closed (front ++ rest) ≡ part ++ others)
front-bytes base None b last front rest e p = ([], closed (front ++ rest), tt, refl)
front-bytes base (Some t) b last front rest e p = by b (subst (λ o. Appends (told_by o Nothing (Some t)) (told_by o last b) front) (sym e) p)
  where
    by : (b : Option (List ℕ)) → Appends (told_by (Some t) Nothing (Some t)) (told_by (Some t) last b) front → (part others : List ℕ) × Appends (Some t) b part × (closed (front ++ rest) ≡ part ++ others)
    by None p = absurd (subst (λ o. Appends o None front) (ap (λ (x : Bool). cond x (Some t) None) ((bytes_eq-Decides t t).1 refl)) p)
    by (Some t') p =
        let h = tail-of t t' last front p in
        let f = front-tail last front rest h.0 h.2 in
        (h.0, f.0, h.1, f.1)

-- where nothing was written, nothing more stands below
pub none-bytes : (base a b : Option (List ℕ)) (last : Last) → a ≡ base → Appends (told_by base Nothing a) (told_by base last b) [] → Appends a b []
unfolding Tail
none-bytes base None b last e p = tt
none-bytes base (Some t) b last e p = by b (subst (λ o. Appends (told_by o Nothing (Some t)) (told_by o last b) []) (sym e) p)
  where
    nothing-more : (l : Last) (more : List ℕ) → Tail l [] more → more ≡ []
    nothing-more Nothing more h = sym h.0
    nothing-more Passed more h = sym h.0
    nothing-more (Held x) [] h = refl
    nothing-more (Held x) (y ∷ more) h = let bad : [] ≡ y ∷ (more ++ x ∷ []) = h in cc

    by : (b : Option (List ℕ)) → Appends (told_by (Some t) Nothing (Some t)) (told_by (Some t) last b) [] → Appends (Some t) b []
    by None p = absurd (subst (λ o. Appends o None []) (ap (λ (x : Bool). cond x (Some t) None) ((bytes_eq-Decides t t).1 refl)) p)
    by (Some t') p =
        let h = tail-of t t' last [] p in
        h.1 ∙ ap (λ l. t ++ l) (nothing-more last h.0 h.2)

-- the references stayed as they were
pub same-names : (name name' below low : ℕ) → names name' below low ≡ names name low low → (name' ≡ name) × (below ≡ low)
same-names name name' below low e = by (below == low) refl
  where
    by : (b : Bool) → (below == low) ≡ b → (name' ≡ name) × (below ≡ low)
    by true f = (grind (arith, nat_tests), grind (arith, nat_tests))
    by false f = absurd (grind (arith, nat_tests))

-- a reply, and a front of its end
pub end-bytes : (base a b c : Option (List ℕ)) (last : Last) (reply front rest : List ℕ) → a ≡ base → Appends (told_by base Nothing a) (told_by base last b) reply → end_of last ≡ front ++ rest → Appends b c front
    → (part others : List ℕ) × Appends a c part × (closed reply ≡ part ++ others)
end-bytes base None b c last reply front rest e p cut q = ([], closed reply, tt, refl)
end-bytes base (Some t) b c last reply front rest e p cut q = by b (subst (λ o. Appends (told_by o Nothing (Some t)) (told_by o last b) reply) (sym e) p) q
  where
    by : (b : Option (List ℕ)) → Appends (told_by (Some t) Nothing (Some t)) (told_by (Some t) last b) reply → Appends b c front → (part others : List ℕ) × Appends (Some t) c part × (closed reply ≡ part ++ others)
    by None p q = absurd (subst (λ o. Appends o None reply) (ap (λ (x : Bool). cond x (Some t) None) ((bytes_eq-Decides t t).1 refl)) p)
    by (Some t') p q =
        let h = tail-of t t' last reply p in
        (h.0 ++ front, rest, Appends-trans (Some t) (Some t') c h.0 front h.1 q, closed-tail last reply h.0 h.2 ∙ ap (λ l. h.0 ++ l) cut ∙ sym (append_assoc h.0 front rest))
