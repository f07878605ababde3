-- How often a tuple has been answered, and what it means that two histories are answered alike.
use Rattle.std.proofs.Common.{◌≡◌, ℕ, ◌+◌, min, List, [], ◌∷◌, ◌++◌, cond, Bool, true, false, refl, sym, ap, ◌∙◌, arith, ℤ}
use Rattle.sem_query.specs.Query.{QueryValue}
use Rattle.sem_query.specs.Meaning.{Arrival, answers, new_answers}
use Rattle.sem_laws.specs.Growth.{occurs, answered}
use Rattle.sem_laws.proofs.Counts.{times}
use Rattle.sem_laws.proofs.Interleaving.{appended, ended, along_plain, along_distinct}
use Rattle.sem_laws.proofs.Queries.{IsQuery}
use Rattle.sem_lower_bounds.specs.States.{AnsweredAlike}
use Rattle.sem_lower_bounds.proofs.Formed.{IsFormed, query_formed}

-- a number, or with DISTINCT whether it is not 0
abbrev pub counted : Bool → ℕ → ℕ
counted b n = cond b (min 1 n) n

-- how often a tuple has been answered after a history
abbrev pub tally : QueryValue → List ℤ → List Arrival → ℕ
tally q t h = counted q.distinct (times t (answers q h))

along : (q : QueryValue) → IsQuery q → (h later : List Arrival) (t : List ℤ) → tally q t (h ++ later) ≡ tally q t h + answered q t h later
along q well h later t = by q.distinct refl
  where
    by : (b : Bool) → q.distinct ≡ b → counted b (times t (answers q (h ++ later))) ≡ counted b (times t (answers q h)) + answered q t h later
    by true e = along_distinct q well e h later t
    by false e = along_plain q well e h later t

-- histories that are answered alike give each tuple as often to what follows
alike-answered : (q : QueryValue) (t : List ℤ) (later g h : List Arrival) → AnsweredAlike q g h → answered q t g later ≡ answered q t h later
alike-answered q t [] g h a = refl
alike-answered q t (r ∷ later) g h a =
    let e : new_answers q g r ≡ new_answers q h r = ap (λ l. new_answers q l r) (sym (ended g)) ∙ a [] r ∙ ap (λ l. new_answers q l r) (ended h) in
    let f : occurs t (new_answers q g r) ≡ occurs t (new_answers q h r) = ap (occurs t) e in
    let i : answered q t (g ++ r ∷ []) later ≡ answered q t (h ++ r ∷ []) later
    = alike-answered q t later (g ++ r ∷ []) (h ++ r ∷ []) (λ more o.
    ap (λ l. new_answers q l o) (appended g r more) ∙ a (r ∷ more) o ∙ ap (λ l. new_answers q l o) (sym (appended h r more))) in
    omega (arith, f, i)

-- so their tallies differ later by what they differ now
pub tallies-alike : (q : QueryValue) → IsFormed q → (g h later : List Arrival) (t : List ℤ) → AnsweredAlike q g h
    → tally q t (g ++ later) + tally q t h ≡ tally q t (h ++ later) + tally q t g
tallies-alike q within g h later t a =
    let well : IsQuery q = query_formed q within in
    omega (arith, along q well g later t, along q well h later t, alike-answered q t later g h a)
