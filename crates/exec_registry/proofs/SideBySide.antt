-- Names and what runs the queries, side by side.
use Rattle.std.proofs.Common.{◌≡◌, ℕ, zero, suc, ◌+◌, ◌<◌, cond, ◌||◌, not, nat_lt, List, [], ◌∷◌, ◌++◌, length, map, Option, Some, None, Bor, option_copied, refl, sym, ap, ◌∙◌, subst, slice_get, slice_index_or, slice_set, arith}
use Rattle.std.proofs.lemmas.List.{get_or_default, length-map}
use Rattle.std.proofs.lemmas.Option.{get_or_from_slice_get, slice_get_within}
use Rattle.std.proofs.lemmas.Cmp.{nat_list_eq_equiv}
use Rattle.std.specs.List.{list_any, position, position_or_len, remove}
use Rattle.std.specs.Str.{bytes_eq}
use Rattle.exec_query.specs.Executor.{ExecutorValue}
use Rattle.exec_registry.specs.Live.{Live, named, live_of}

-- what runs the queries, under the names of live queries
abbrev pub under : List Live → List ExecutorValue → List Live
under live executors = live_of (map (λ (l : Live). l.name) live) executors

-- as many names as live queries
names-size : (live : List Live) (executors : List ExecutorValue) → length executors ≡ length live → length (map (λ (l : Live). l.name) live) ≡ length executors
names-size live executors size = length-map live (λ (l : Live). l.name) ∙ sym size

-- as many live queries as there are on each side
pub length_live : (names : List (List ℕ)) (executors : List ExecutorValue) → length names ≡ length executors → length (live_of names executors) ≡ length executors
length_live [] [] same = refl
length_live [] (e ∷ es) same = absurd (omega (arith, same))
length_live (n ∷ ns) [] same = absurd (omega (arith, same))
length_live (n ∷ ns) (e ∷ es) same = ap suc (length_live ns es (omega (arith, same)))

-- their names
pub names_live : (names : List (List ℕ)) (executors : List ExecutorValue) → length names ≡ length executors → map (λ (l : Live). l.name) (live_of names executors) ≡ names
names_live [] [] same = refl
names_live [] (e ∷ es) same = absurd (omega (arith, same))
names_live (n ∷ ns) [] same = absurd (omega (arith, same))
names_live (n ∷ ns) (e ∷ es) same = ap (λ ks. n ∷ ks) (names_live ns es (omega (arith, same)))

-- the live query at a place is a name and what runs it
pub live_at : (names : List (List ℕ)) (executors : List ExecutorValue) (i : ℕ) (l : Live) → length names ≡ length executors
    → slice_index_or (live_of names executors) i l ≡ named (slice_index_or names i l.name) (slice_index_or executors i l.executor)
live_at [] [] i l same = refl
live_at [] (e ∷ es) i l same = absurd (omega (arith, same))
live_at (n ∷ ns) [] i l same = absurd (omega (arith, same))
live_at (n ∷ ns) (e ∷ es) zero l same = refl
live_at (n ∷ ns) (e ∷ es) (suc i) l same = live_at ns es i l (omega (arith, same))

-- what is put in at a place runs the live query there, under the same name
pub live_set : (names : List (List ℕ)) (executors : List ExecutorValue) (i : ℕ) (later : ExecutorValue) (name : List ℕ) → length names ≡ length executors → i < length executors
    → live_of names (slice_set executors i later) ≡ slice_set (live_of names executors) i (named (slice_index_or names i name) later)
live_set names [] i later name same within = absurd (omega (arith, within))
live_set [] (e ∷ es) i later name same within = absurd (omega (arith, same))
live_set (n ∷ ns) (e ∷ es) zero later name same within = refl
live_set (n ∷ ns) (e ∷ es) (suc i) later name same within = ap (λ ls. named n e ∷ ls) (live_set ns es i later name (omega (arith, same)) (omega (arith, within)))

-- so it is under the names of live queries
pub under_at : (live : List Live) (executors : List ExecutorValue) (i : ℕ) (l : Live) → length executors ≡ length live
    → slice_index_or (under live executors) i l ≡ named (slice_index_or (map (λ (x : Live). x.name) live) i l.name) (slice_index_or executors i l.executor)
under_at live executors i l size = live_at (map (λ (x : Live). x.name) live) executors i l (names-size live executors size)

pub under_set : (live : List Live) (executors : List ExecutorValue) (i : ℕ) (later : ExecutorValue) (name : List ℕ) → length executors ≡ length live → i < length executors
    → under live (slice_set executors i later) ≡ slice_set (under live executors) i (named (slice_index_or (map (λ (x : Live). x.name) live) i name) later)
under_set live executors i later name size within = live_set (map (λ (x : Live). x.name) live) executors i later name (names-size live executors size) within

-- as it was, it is those live queries
pub under_same : (names : List (List ℕ)) (executors : List ExecutorValue) (live : List Live) → length names ≡ length executors → live_of names executors ≡ live
    → under live executors ≡ live
under_same names executors live same is = subst (λ (ls : List Live). under ls executors ≡ ls) is (ap (λ ns. live_of ns executors) (names_live names executors same))

-- other executors under the same names
pub under_names : (names : List (List ℕ)) (executors later : List ExecutorValue) (live : List Live) → length names ≡ length executors → live_of names executors ≡ live
    → under live later ≡ live_of names later
under_names names executors later live same is = ap (λ (ls : List Live). under ls later) (sym is) ∙ ap (λ ns. live_of ns later) (names_live names executors same)

-- as many as there are of them
pub size_as : (names : List (List ℕ)) (executors : List ExecutorValue) (live : List Live) → length names ≡ length executors → live_of names executors ≡ live → length executors ≡ length live
size_as names executors live same is = sym (length_live names executors same) ∙ ap length is

-- the live query at a place, and what runs it
pub live_in : (names : List (List ℕ)) (executors : List ExecutorValue) (live : List Live) (i : ℕ) (name : List ℕ) (e : ExecutorValue) (l : Live)
    → length names ≡ length executors → live_of names executors ≡ live → i < length live → slice_index_or live i l ≡ named (slice_index_or names i name) (slice_index_or executors i e)
live_in names executors live i name e l same is within =
    let size = size_as names executors live same is in
    ap (λ (ls : List Live). slice_index_or ls i l) (sym is) ∙ live_at names executors i l same
    ∙ ap (λ n. named n (slice_index_or executors i l.executor)) (get_or_default names i l.name name (omega (arith, size, same, within)))
    ∙ ap (λ (x : ExecutorValue). named (slice_index_or names i name) x) (get_or_default executors i l.executor e (omega (arith, size, within)))

-- the same where both are known
pub live_named : (names : List (List ℕ)) (executors : List ExecutorValue) (live : List Live) (i : ℕ) (name : List ℕ) (e : ExecutorValue) (l : Live)
    → length names ≡ length executors → live_of names executors ≡ live → slice_get names i ≡ Some name → e ≡ slice_index_or executors i e → slice_index_or live i l ≡ named name e
live_named names executors live i name e l same is there at =
    let within = slice_get_within names i name there in
    let size = size_as names executors live same is in
    live_in names executors live i name e l same is (omega (arith, within, size, same))
    ∙ ap (λ n. named n (slice_index_or executors i e)) (get_or_from_slice_get names i name name there) ∙ ap (λ (x : ExecutorValue). named name x) (sym at)

-- the name that was found at a place stands there
pub name_there : (keys : List (List ℕ)) (i : ℕ) (o : Option (Bor (List ℕ))) (found : Bor (List ℕ)) → option_copied o ≡ slice_get keys i → o ≡ Some found → slice_get keys i ≡ Some found.now
name_there keys i o found key is = sym key ∙ ap (λ (x : Option (Bor (List ℕ))). option_copied x) is

-- the name at a place is that of the live query there
pub named_there : (found : List ℕ) (names : List (List ℕ)) (executors : List ExecutorValue) (live : List Live) (i : ℕ) (d : Live)
    → length names ≡ length executors → live_of names executors ≡ live → i < length live → slice_get names i ≡ Some found → found ≡ (slice_index_or live i d).name
named_there found names executors live i d same is within there =
    sym (ap (λ (l : Live). l.name) (live_in names executors live i found d.executor d same is within) ∙ get_or_from_slice_get names i found found there)

-- something else is put in at a place of that name
pub set_named : (names : List (List ℕ)) (executors : List ExecutorValue) (live : List Live) (i : ℕ) (name : List ℕ) (later : ExecutorValue)
    → length names ≡ length executors → live_of names executors ≡ live → slice_get names i ≡ Some name → live_of names (slice_set executors i later) ≡ slice_set live i (named name later)
set_named names executors live i name later same is there =
    let within = slice_get_within names i name there in
    live_set names executors i later name same (omega (arith, within, same))
    ∙ ap (λ (ls : List Live). slice_set ls i (named (slice_index_or names i name) later)) is ∙ ap (λ n. slice_set live i (named n later)) (get_or_from_slice_get names i name name there)

-- one that is taken out on each side
pub live_remove : (names : List (List ℕ)) (executors : List ExecutorValue) (i : ℕ) → length names ≡ length executors
    → live_of (remove names i) (remove executors i) ≡ remove (live_of names executors) i
live_remove [] [] zero same = refl
live_remove [] [] (suc i) same = refl
live_remove [] (e ∷ es) i same = absurd (omega (arith, same))
live_remove (n ∷ ns) [] i same = absurd (omega (arith, same))
live_remove (n ∷ ns) (e ∷ es) zero same = refl
live_remove (n ∷ ns) (e ∷ es) (suc i) same = ap (λ ls. named n e ∷ ls) (live_remove ns es i (omega (arith, same)))

pub removed : (names fewer : List (List ℕ)) (executors others : List ExecutorValue) (live : List Live) (i : ℕ) → length names ≡ length executors → live_of names executors ≡ live
    → fewer ≡ remove names i → others ≡ remove executors i → live_of fewer others ≡ remove live i
removed names fewer executors others live i same is e f =
    ap (λ ns. live_of ns others) e ∙ ap (λ (es : List ExecutorValue). live_of (remove names i) es) f ∙ live_remove names executors i same ∙ ap (λ (ls : List Live). remove ls i) is

-- a last one on each side
pub live_last : (names : List (List ℕ)) (executors : List ExecutorValue) (name : List ℕ) (executor : ExecutorValue) → length names ≡ length executors
    → live_of (names ++ name ∷ []) (executors ++ executor ∷ []) ≡ live_of names executors ++ named name executor ∷ []
live_last [] [] name executor same = refl
live_last [] (e ∷ es) name executor same = absurd (omega (arith, same))
live_last (n ∷ ns) [] name executor same = absurd (omega (arith, same))
live_last (n ∷ ns) (e ∷ es) name executor same = ap (λ ls. named n e ∷ ls) (live_last ns es name executor (omega (arith, same)))

pub added : (names kept more : List (List ℕ)) (executors others : List ExecutorValue) (live : List Live) (name : List ℕ) (executor : ExecutorValue)
    → length names ≡ length executors → live_of names executors ≡ live → kept ≡ names → more ≡ kept ++ name ∷ [] → others ≡ executors ++ executor ∷ []
    → live_of more others ≡ live ++ named name executor ∷ []
added names kept more executors others live name executor same is e f g =
    ap (λ ns. live_of ns others) (f ∙ ap (λ ns. ns ++ name ∷ []) e) ∙ ap (λ (es : List ExecutorValue). live_of (names ++ name ∷ []) es) g ∙ live_last names executors name executor same
    ∙ ap (λ (ls : List Live). ls ++ named name executor ∷ []) is

symmetric : (x y : List ℕ) → bytes_eq x y ≡ bytes_eq y x
symmetric x y = nat_list_eq_equiv.symm x y

place-live : (name : List ℕ) (names : List (List ℕ)) (executors : List ExecutorValue) → length names ≡ length executors
    → position_or_len (bytes_eq name) names ≡ position_or_len (λ (l : Live). bytes_eq l.name name) (live_of names executors)
place-live name [] [] same = refl
place-live name [] (e ∷ es) same = absurd (omega (arith, same))
place-live name (n ∷ ns) [] same = absurd (omega (arith, same))
place-live name (n ∷ ns) (e ∷ es) same =
    ap (λ b. cond (not b) (1 + position_or_len (bytes_eq name) ns) 0) (symmetric name n)
    ∙ ap (λ k. cond (not (bytes_eq n name)) (1 + k) 0) (place-live name ns es (omega (arith, same)))

-- a name stands where the live query of this name does
pub position_live : (name : List ℕ) (names : List (List ℕ)) (executors : List ExecutorValue) → length names ≡ length executors
    → position (bytes_eq name) names ≡ position (λ (l : Live). bytes_eq l.name name) (live_of names executors)
position_live name ns es same =
    ap (λ n. cond (nat_lt n (length ns)) (Some n) None) (place-live name ns es same)
    ∙ ap (λ m. cond (nat_lt (position_or_len (λ (l : Live). bytes_eq l.name name) (live_of ns es)) m) (Some (position_or_len (λ (l : Live). bytes_eq l.name name) (live_of ns es))) None) (same ∙ sym (length_live ns es same))

-- a name is there where a live query has it
pub any_live : (name : List ℕ) (names : List (List ℕ)) (executors : List ExecutorValue) → length names ≡ length executors
    → list_any (bytes_eq name) names ≡ list_any (λ (l : Live). bytes_eq l.name name) (live_of names executors)
any_live name [] [] same = refl
any_live name [] (e ∷ es) same = absurd (omega (arith, same))
any_live name (n ∷ ns) [] same = absurd (omega (arith, same))
any_live name (n ∷ ns) (e ∷ es) same =
    ap (λ b. b || list_any (bytes_eq name) ns) (symmetric name n)
    ∙ ap (λ b. bytes_eq n name || b) (any_live name ns es (omega (arith, same)))
