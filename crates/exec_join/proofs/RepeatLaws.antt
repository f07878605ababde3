-- Where the values chosen so far tell all selected columns, each find that is left at the level gives the same tuple.
use Rattle.sem_query.specs.Parts.{pairs}
use Rattle.std.proofs.Common.{◌≡◌, ℕ, zero, suc, ◌-◌, ◌≤◌, Bool, true, false, List, [], ◌∷◌, ◌++◌, map, take, drop, length, refl, sym, ap, ◌∙◌, subst, arith, ℤ, All, append_assoc, append-nil, if◌then◌else◌}
use Rattle.std.specs.Prelude.{flat_map}
use Rattle.std.specs.List.{list_all}
use Rattle.std.proofs.lemmas.List.{take_all}
use Rattle.std.proofs.lemmas.List.Elements.{All-append}
use Rattle.sem_query.specs.declared.atom.Attr.{Attr}
use Rattle.sem_query.specs.declared.cell.Cell.{Cell}
use Rattle.sem_query.specs.declared.cell.Cell.TheVariants.{Empty, Count, Present, Extreme}
use Rattle.sem_query.specs.declared.part.Pair.{Pair}
use Rattle.sem_query.specs.declared.plan.PartPlan.{PartPlan}
use Rattle.sem_query.specs.Combinations.{Found, Reading}
use Rattle.sem_query.specs.Probing.{is_known}
use Rattle.sem_laws.proofs.Tests.{and-left, and-right}
use Rattle.exec_ranges.specs.declared.binding.Binding.{Binding}
use Rattle.exec_join.specs.declared.probe.Probe.{Probe}
use Rattle.exec_ranges.specs.Values.{value_in}
use Rattle.exec_join.specs.Choosing.{Setting, setting, cell_at, chosen, value, tuple, tuple_of, meets, found}
use Rattle.exec_join.specs.Walk.{candidates, entered, opened, walk, walk_from, left}
use Rattle.exec_join.specs.Remaining.{left_of, outer_of}
use Rattle.exec_join.specs.Repeats.{IsTold, ArePassed}
use Rattle.exec_join.proofs.BreakLaws.{value-known}

abbrev Give : List ℤ → List Found → Type 0
Give t fs = All (λ (f : Found). f.tuple ≡ t) fs

give-none : (t : List ℤ) → Give t []
give-none t k d l = absurd (omega (arith, l))

give-one : (t : List ℤ) (f : Found) → f.tuple ≡ t → Give t (f ∷ [])
give-one t f e zero d l = e
give-one t f e (suc k) d l = absurd (omega (arith, l))

give-flat : (t : List ℤ) (go : List ℤ → List Found) → ((vs : List ℤ) → Give t (go vs)) → (xs : List (List ℤ)) → Give t (flat_map go xs)
give-flat t go h [] = give-none t
give-flat t go h (x ∷ xs) = All-append (λ (f : Found). f.tuple ≡ t) (go x) (flat_map go xs) (h x) (give-flat t go h xs)

module _ (w : Setting) (known : List Binding) (told : list_all (is_known w.arriving (length known)) w.select ≡ true) where
  longer : (more : List Binding) → tuple w (known ++ more) ≡ tuple w known
  unfolding tuple_of
  longer more = same w.select told
    where
      same : (xs : List Attr) → list_all (is_known w.arriving (length known)) xs ≡ true → map (value w (known ++ more)) xs ≡ map (value w known) xs
      same [] h = refl
      same (x ∷ xs) h = (λ i. value-known w.pairs w.part w.arriving w.row known more x (and-left _ _ h) i ∷ same xs (and-right _ _ h) i)

  give-entered : (more : List Binding) (go : List Binding → List Found) → ((extra : List Binding) → Give (tuple w known) (go (known ++ extra))) → (values : List ℤ) (c : Cell) → Give (tuple w known) (entered values (known ++ more) go c)
  give-entered more go h values Empty = give-none (tuple w known)
  give-entered more go h values (Count n) = subst (λ cs. Give (tuple w known) (go cs)) (sym (append_assoc known more (chosen values (Count n) ∷ []))) (h (more ++ chosen values (Count n) ∷ []))
  give-entered more go h values Present = subst (λ cs. Give (tuple w known) (go cs)) (sym (append_assoc known more (chosen values Present ∷ []))) (h (more ++ chosen values Present ∷ []))
  give-entered more go h values (Extreme v) = subst (λ cs. Give (tuple w known) (go cs)) (sym (append_assoc known more (chosen values (Extreme v) ∷ []))) (h (more ++ chosen values (Extreme v) ∷ []))

  give-walk : (m : ℕ) (more : List Binding) → Give (tuple w known) (walk w m (known ++ more))
  unfolding walk
  give-walk zero more = by (meets w (known ++ more))
    where
      by : (b : Bool) → Give (tuple w known) (if b then found w (known ++ more) ∷ [] else [])
      by true = give-one (tuple w known) (found w (known ++ more)) (longer more)
      by false = give-none (tuple w known)
  give-walk (suc m) more = give-flat (tuple w known) (opened w (known ++ more) (walk w m)) (λ vs. give-entered more (walk w m) (give-walk m) vs (cell_at w (length (known ++ more)) vs)) (candidates w (known ++ more))

  give-from : (m : ℕ) (n : ℕ) → Give (tuple w known) (walk_from w m known n)
  unfolding walk_from
  give-from zero n = subst (λ cs. Give (tuple w known) (walk w zero cs)) (append-nil known) (give-walk zero [])
  give-from (suc m) n =
      give-flat (tuple w known) (opened w known (walk w m))
      (λ vs. subst (λ cs. Give (tuple w known) (opened w cs (walk w m) vs)) (append-nil known) (give-entered [] (walk w m) (give-walk m) vs (cell_at w (length (known ++ [])) vs)))
      (drop n (candidates w known))

-- nothing is passed
pub none-passed : (d : Bool) (t : List ℤ) (fs : List Found) → ArePassed d t fs fs
none-passed d t fs = record { passed = []; none = λ e. refl; all = refl; same = give-none t }

-- some are passed, and then more
pub more-passed : (d : Bool) (t : List ℤ) (fs gs hs : List Found) → ArePassed d t fs gs → ArePassed d t gs hs → ArePassed d t fs hs
more-passed d t fs gs hs p r =
    record {
      passed = p.passed ++ r.passed;
      none = λ e. (λ k. p.none e k ++ r.none e k);
      all = p.all ∙ ap (λ xs. p.passed ++ xs) r.all ∙ sym (append_assoc p.passed r.passed hs);
      same = All-append (λ (f : Found). f.tuple ≡ t) p.passed r.passed p.same r.same;
    }

-- the rest of a level is passed
pub level-passed : (select : List Attr) (part : PartPlan) (read : Reading) (p r : Probe) (d : Bool) (t : List ℤ) → d ≡ true → p.over ≡ false
    → IsTold (pairs p.q.now) select part p.arriving p.row.now.items p.room.now.chosen.items t
    → left_of select part read r ≡ outer_of select part read p
    → ArePassed d t (left_of select part read p) (left_of select part read r)
unfolding left
level-passed select part read p r d t once o told back =
    let w = setting (pairs p.q.now) select part p.arriving p.row.now.items read in
    let cs = p.room.now.chosen.items in
    record {
      passed = walk_from w (length part.streams.items - length cs) cs p.next;
      none = λ e. absurd (let x : true ≡ false = sym once ∙ e in cc);
      all = (λ k. left w cs p.room.now.numbers.items p.next (o k)) ∙ ap (λ xs. walk_from w (length part.streams.items - length cs) cs p.next ++ xs) (sym back);
      same = subst (λ vs. Give vs (walk_from w (length part.streams.items - length cs) cs p.next)) told.tuple (give-from w cs told.columns (length part.streams.items - length cs) p.next);
    }

-- all values are the same
pub all-told : (ps : List Pair) (select : List Attr) (part : PartPlan) (arriving : ℕ) (row : List ℤ) (known : List Binding) (values : List ℤ) (n : ℕ) → length select ≤ n → length select ≡ length values
    → map (value_in ps part arriving row known) (take n select) ≡ take n values → tuple_of ps select part arriving row known ≡ values
unfolding tuple_of
all-told ps select part arriving row known values n l e h =
    ap (map (value_in ps part arriving row known)) (sym (take_all n select l)) ∙ h ∙ take_all n values (omega (arith, l, e))
