-- What is enough to keep for the worked query with two soft comparisons.
use Rattle.std.proofs.Common.{◌≡◌, ℕ, ◌+◌, ◌*◌, ◌≤◌, ◌^◌, List, [], ◌∷◌, map, length, Bool, true, false, not, ◌&&◌, ◌||◌, refl, sym, ap, ◌∙◌, arith, ℤ, nat_abs, get_or}
use Rattle.std.proofs.lemmas.Int.{ints}
use Rattle.std.proofs.lemmas.List.{length-map}
use Rattle.std.specs.Ordering.{int_eq}
use Rattle.sem_query.specs.declared.cell.Cell.{Cell}
use Rattle.sem_query.proofs.Has.{Has, first, later, Has-map}
use Rattle.sem_lower_bounds.proofs.Listed.{all_lists, length-all_lists, has-all_lists}
use Rattle.sem_lower_bounds.proofs.Numbering.{number, cell_at, cells-numbered}
use Rattle.sem_lower_bounds.proofs.Pairing.{coded, numbers, numbers-coded}
use Rattle.sem_lower_bounds.proofs.SmallCells.{valued, length-valued, empty-valued, present-valued, extreme-valued}

-- up to two different integers, or more than can be told by two
pub data Pick : Type 0 where
  none : Pick
  one : ℤ → Pick
  two : ℤ → ℤ → Pick
  other : Pick

-- whether 1 was printed, what the rows of S have in common, and which values of T.c came
pub record Kept : Type 0 where
  pub printed : Bool
  pub common : Pick
  pub seen : Pick

-- whether an integer is neither of two
abbrev pub neither : ℤ → ℤ → ℤ → Bool
neither a b c = not (int_eq a c) && not (int_eq b c)

-- what is common: with no row of S each integer is
abbrev pub lacks : Pick → ℤ → Bool
lacks none c = true
lacks (one x) c = not (int_eq x c)
lacks (two x y) c = neither x y c
lacks other c = false

abbrev pub only_if : Bool → ℤ → Pick
only_if true x = one x
only_if false x = none

abbrev pub both_if : Bool → Bool → ℤ → ℤ → Pick
both_if true true x y = two x y
both_if true false x y = one x
both_if false true x y = one y
both_if false false x y = none

abbrev pub with_row : Pick → ℤ → ℤ → Pick
with_row none a b = none
with_row (one x) a b = only_if (not (neither a b x)) x
with_row (two x y) a b = both_if (not (neither a b x)) (not (neither a b y)) x y
with_row other a b = two a b

-- one integer is the other, or it is not
same_or : (x c : ℤ) (P : ℤ → Bool) → (int_eq x c ≡ true → P x ≡ P c)
same_or x c P e = ap P (let f : x ≡ c = grind (arith, ints, e) in f)

only-lacks : (x c : ℤ) (a b : ℤ) → lacks (only_if (not (neither a b x)) x) c ≡ (not (int_eq x c) || neither a b c)
only-lacks x c a b = by (neither a b x) (int_eq x c) refl refl
  where
    by : (n e : Bool) → neither a b x ≡ n → int_eq x c ≡ e → lacks (only_if (not n) x) c ≡ (not e || neither a b c)
    by true true p e = sym p ∙ same_or x c (neither a b) e
    by true false p e = refl
    by false true p e = ap not e ∙ sym p ∙ same_or x c (neither a b) e
    by false false p e = ap not e

both-lacks : (x y c : ℤ) (a b : ℤ) → lacks (both_if (not (neither a b x)) (not (neither a b y)) x y) c ≡ (neither x y c || neither a b c)
both-lacks x y c a b = by (neither a b x) (neither a b y) (int_eq x c) (int_eq y c) refl refl refl refl
  where
    here : (n : Bool) → neither a b x ≡ n → int_eq x c ≡ true → n ≡ neither a b c
    here n p e = sym p ∙ same_or x c (neither a b) e

    there : (n : Bool) → neither a b y ≡ n → int_eq y c ≡ true → n ≡ neither a b c
    there n p e = sym p ∙ same_or y c (neither a b) e

    by : (n m e f : Bool) → neither a b x ≡ n → neither a b y ≡ m → int_eq x c ≡ e → int_eq y c ≡ f
        → lacks (both_if (not n) (not m) x y) c ≡ ((not e && not f) || neither a b c)
    by true true true f p o e g = here true p e
    by true true false true p o e g = there true o g
    by true true false false p o e g = refl
    by true false true true p o e g = ap not g ∙ there false o g
    by true false true false p o e g = ap not g ∙ here true p e
    by true false false true p o e g = ap not g ∙ there false o g
    by true false false false p o e g = ap not g
    by false true true f p o e g = ap not e ∙ here false p e
    by false true false true p o e g = ap not e ∙ there true o g
    by false true false false p o e g = ap not e
    by false false true f p o e g = ap (λ z. not z && not (int_eq y c)) e ∙ here false p e
    by false false false true p o e g = ap (λ z. not (int_eq x c) && not z) g ∙ and_false (not (int_eq x c)) ∙ there false o g
      where
        and_false : (z : Bool) → (z && false) ≡ false
        and_false true = refl
        and_false false = refl
    by false false false false p o e g = ap (λ z. not z && not (int_eq y c)) e ∙ ap (λ z. true && not z) g

-- one more row of S
pub row-lacks : (p : Pick) (a b c : ℤ) → lacks (with_row p a b) c ≡ (lacks p c || neither a b c)
row-lacks none a b c = refl
row-lacks (one x) a b c = only-lacks x c a b
row-lacks (two x y) a b c = both-lacks x y c a b
row-lacks other a b c = refl

-- whether some of the values of T.c that came is neither of two integers; three different ones are never all among two
abbrev pub misses : Pick → ℤ → ℤ → Bool
misses none a b = false
misses (one x) a b = neither a b x
misses (two x y) a b = neither a b x || neither a b y
misses other a b = true

abbrev pub second_if : Bool → ℤ → ℤ → Pick
second_if true x c = one x
second_if false x c = two x c

abbrev pub third_if : Bool → Bool → ℤ → ℤ → Pick
third_if true f x y = two x y
third_if false true x y = two x y
third_if false false x y = other

abbrev pub with_value : Pick → ℤ → Pick
with_value none c = one c
with_value (one x) c = second_if (int_eq x c) x c
with_value (two x y) c = third_if (int_eq x c) (int_eq y c) x y
with_value other c = other

-- two values that came are different
abbrev pub IsPick : Pick → Type 0
IsPick none = Unit {0}
IsPick (one x) = Unit {0}
IsPick (two x y) = int_eq x y ≡ false
IsPick other = Unit {0}

pub value-pick : (p : Pick) (c : ℤ) → IsPick p → IsPick (with_value p c)
value-pick none c h = tt
value-pick (one x) c h = by (int_eq x c) refl
  where
    by : (e : Bool) → int_eq x c ≡ e → IsPick (second_if e x c)
    by true e = tt
    by false e = e
value-pick (two x y) c h = by (int_eq x c) (int_eq y c)
  where
    by : (e f : Bool) → IsPick (third_if e f x y)
    by true f = h
    by false true = h
    by false false = tt
value-pick other c h = tt

three_apart : (a b x y c : ℤ) → int_eq x y ≡ false → int_eq x c ≡ false → int_eq y c ≡ false → ((neither a b x || neither a b y) || neither a b c) ≡ true
three_apart a b x y c h e f = grind (arith, ints, h, e, f)

or-itself : (z : Bool) → z ≡ (z || z)
or-itself true = refl
or-itself false = refl

or-first : (z w : Bool) → (z || w) ≡ ((z || w) || z)
or-first true w = refl
or-first false true = refl
or-first false false = refl

or-second : (z w : Bool) → (z || w) ≡ ((z || w) || w)
or-second true w = refl
or-second false true = refl
or-second false false = refl

-- one more row of T
pub value-misses : (p : Pick) (c a b : ℤ) → IsPick p → misses (with_value p c) a b ≡ (misses p a b || neither a b c)
value-misses none c a b h = refl
value-misses (one x) c a b h = by (int_eq x c) refl
  where
    by : (e : Bool) → int_eq x c ≡ e → misses (second_if e x c) a b ≡ (neither a b x || neither a b c)
    by true e = or-itself (neither a b x) ∙ ap (λ z. neither a b x || z) (same_or x c (neither a b) e)
    by false e = refl
value-misses (two x y) c a b h = by (int_eq x c) (int_eq y c) refl refl
  where
    by : (e f : Bool) → int_eq x c ≡ e → int_eq y c ≡ f → misses (third_if e f x y) a b ≡ ((neither a b x || neither a b y) || neither a b c)
    by true f e g = or-first (neither a b x) (neither a b y) ∙ ap (λ z. (neither a b x || neither a b y) || z) (same_or x c (neither a b) e)
    by false true e g = or-second (neither a b x) (neither a b y) ∙ ap (λ z. (neither a b x || neither a b y) || z) (same_or y c (neither a b) g)
    by false false e g = sym (three_apart a b x y c h e g)
value-misses other c a b h = refl

-- as cells, and as a number
abbrev pub first_cell : Pick → Cell
first_cell none = Cell.Empty
first_cell (one x) = Cell.Extreme x
first_cell (two x y) = Cell.Extreme x
first_cell other = Cell.Present

abbrev pub second_cell : Pick → Cell
second_cell none = Cell.Empty
second_cell (one x) = Cell.Empty
second_cell (two x y) = Cell.Extreme y
second_cell other = Cell.Empty

abbrev pub pick_of : Cell → Cell → Pick
pick_of Cell.Empty d = none
pick_of Cell.Present d = other
pick_of (Cell.Count n) d = none
pick_of (Cell.Extreme x) Cell.Empty = one x
pick_of (Cell.Extreme x) Cell.Present = one x
pick_of (Cell.Extreme x) (Cell.Count n) = one x
pick_of (Cell.Extreme x) (Cell.Extreme y) = two x y

pick-again : (p : Pick) → pick_of (first_cell p) (second_cell p) ≡ p
pick-again none = refl
pick-again (one x) = refl
pick-again (two x y) = refl
pick-again other = refl

abbrev pub flag_cell : Bool → Cell
flag_cell true = Cell.Present
flag_cell false = Cell.Empty

abbrev pub flag_of : Cell → Bool
flag_of Cell.Empty = false
flag_of Cell.Present = true
flag_of (Cell.Count n) = false
flag_of (Cell.Extreme x) = false

flag-again : (b : Bool) → flag_of (flag_cell b) ≡ b
flag-again true = refl
flag-again false = refl

abbrev cells_of : Kept → List Cell
cells_of k = flag_cell k.printed ∷ first_cell k.common ∷ second_cell k.common ∷ first_cell k.seen ∷ second_cell k.seen ∷ []

abbrev of_cells : List Cell → Kept
of_cells cells = record {
  printed = flag_of (get_or cells 0 Cell.Empty);
  common = pick_of (get_or cells 1 Cell.Empty) (get_or cells 2 Cell.Empty);
  seen = pick_of (get_or cells 3 Cell.Empty) (get_or cells 4 Cell.Empty);
}

cells-again : (k : Kept) → of_cells (cells_of k) ≡ k
cells-again k = λ i. record { printed = flag-again k.printed i; common = pick-again k.common i; seen = pick-again k.seen i }

pub code : Kept → ℕ
code k = coded (map number (cells_of k))

pub kept_at : ℕ → Kept
kept_at s = of_cells (map cell_at (numbers 5 s))

pub kept-again : (k : Kept) → kept_at (code k) ≡ k
unfolding code kept_at
kept-again k =
    ap (λ ns. of_cells (map cell_at ns)) (numbers-coded (map number (cells_of k)))
    ∙ ap of_cells (cells-numbered (cells_of k)) ∙ cells-again k

-- the integers lie within a bound
abbrev pub Within : ℕ → Pick → Type 0
Within bound none = Unit {0}
Within bound (one x) = nat_abs x ≤ bound
Within bound (two x y) = (nat_abs x ≤ bound) × (nat_abs y ≤ bound)
Within bound other = Unit {0}

first-among : (bound : ℕ) (p : Pick) → Within bound p → Has (valued bound) (first_cell p)
first-among bound none w = empty-valued bound
first-among bound (one x) w = extreme-valued bound x w
first-among bound (two x y) w = extreme-valued bound x w.0
first-among bound other w = present-valued bound

second-among : (bound : ℕ) (p : Pick) → Within bound p → Has (valued bound) (second_cell p)
second-among bound none w = empty-valued bound
second-among bound (one x) w = empty-valued bound
second-among bound (two x y) w = extreme-valued bound y w.1
second-among bound other w = empty-valued bound

flag-among : (bound : ℕ) (b : Bool) → Has (valued bound) (flag_cell b)
flag-among bound true = present-valued bound
flag-among bound false = empty-valued bound

-- all numbers of what is kept with integers within a bound
pub codes_within : ℕ → List ℕ
codes_within bound = map (λ cells. coded (map number cells)) (all_lists 5 (valued bound))

pub length-codes : (bound : ℕ) → length (codes_within bound) ≡ (2 * bound + 3) ^ 5
unfolding codes_within
length-codes bound =
    length-map (all_lists 5 (valued bound)) (λ (cells : List Cell). coded (map number cells))
    ∙ length-all_lists 5 (valued bound) ∙ ap (λ (n : ℕ). n ^ 5) (length-valued bound)

pub code-among : (bound : ℕ) (k : Kept) → Within bound k.common → Within bound k.seen → Has (codes_within bound) (code k)
unfolding codes_within code
code-among bound k v w = Has-map (λ (cells : List Cell). coded (map number cells)) (has-all_lists (valued bound) 5 (cells_of k) refl each)
  where
    each : (c : Cell) → Has (cells_of k) c → Has (valued bound) c
    each c first = flag-among bound k.printed
    each c (later first) = first-among bound k.common v
    each c (later (later first)) = second-among bound k.common v
    each c (later (later (later first))) = first-among bound k.seen w
    each c (later (later (later (later first)))) = second-among bound k.seen w
    each c (later (later (later (later (later i))))) = elim i [ ]

pub row-within : (bound : ℕ) (p : Pick) (a b : ℤ) → Within bound p → nat_abs a ≤ bound → nat_abs b ≤ bound → Within bound (with_row p a b)
row-within bound none a b w h k = tt
row-within bound (one x) a b w h k = by (not (neither a b x))
  where
    by : (n : Bool) → Within bound (only_if n x)
    by true = w
    by false = tt
row-within bound (two x y) a b w h k = by (not (neither a b x)) (not (neither a b y))
  where
    by : (n m : Bool) → Within bound (both_if n m x y)
    by true true = w
    by true false = w.0
    by false true = w.1
    by false false = tt
row-within bound other a b w h k = (h, k)

pub value-within : (bound : ℕ) (p : Pick) (c : ℤ) → Within bound p → nat_abs c ≤ bound → Within bound (with_value p c)
value-within bound none c w h = h
value-within bound (one x) c w h = by (int_eq x c)
  where
    by : (e : Bool) → Within bound (second_if e x c)
    by true = w
    by false = (w, h)
value-within bound (two x y) c w h = by (int_eq x c) (int_eq y c)
  where
    by : (e f : Bool) → Within bound (third_if e f x y)
    by true f = w
    by false true = w
    by false false = tt
value-within bound other c w h = tt
