-- Texts that are written one behind another.
use Rattle.std.proofs.Common.{List, ◌++◌, ◌∷◌, [], ◌≡◌, ℕ, zero, suc, ◌<◌, ◌≤◌, ◌⊎◌, inl, inr, length, get_or, All, refl, sym, ap, ap₂, ◌∙◌, subst, arith, append_assoc, append-nil, ℤ, slice_index_or, Contains}
use Rattle.std.specs.List.{flat_map}
use Rattle.std.proofs.lemmas.List.{length-map}
use Rattle.std.proofs.lemmas.List.Concat.{flat_map-append}
use Rattle.std.proofs.lemmas.List.Elements.{Contains-get_or}
use Rattle.arrayvec.specs.ArrayVec.{ArrayVec as Items}
use Rattle.io_streams.specs.Sink.{SinkState, Wrote, BrokeOff}
use Rattle.io_streams.proofs.Writing.{Wrote-trans, BrokeOff-then, BrokeOff-stop}
use Rattle.sem_query.specs.Meaning.{Arrival}
use Rattle.sem_query.specs.Cells.{upto}
use Rattle.sql_catalog.specs.Streams.{Shape}
use Rattle.fam_fooling_sets.specs.Family.{FamilyValue, row_at, asking_at}
use Rattle.fam_fooling_sets.specs.Shown.{rows_in, arrivals, asking_in}
use Rattle.fam_text.specs.Answer.{AreTakenRows}
use Rattle.fam_text.specs.Text.{own_text, asking_text, asked_text, member_text}
use Rattle.fam_text.proofs.BlankRows.{get-map}

-- the family that rows and the rows that ask for them are
abbrev pub family_in : ℕ → List (Items ℤ) → List (Items (ℕ × Items ℤ)) → FamilyValue
family_in stream m g = record { stream = stream; rows = rows_in m; asking = asking_in g }

abbrev as-arrival : ℕ × Items ℤ → Arrival
as-arrival r = record { stream = r.0; values = r.1.items }

-- rows with the numbers of their streams have the text of what arrives
asked-same : (streams : List Shape) (number : ℕ) (xs : List (ℕ × Items ℤ)) → flat_map (asked_text streams number) xs ≡ flat_map (asking_text streams number) (arrivals xs)
asked-same streams number [] = refl
asked-same streams number (x ∷ xs) = ap (λ t. asked_text streams number x ++ t) (asked-same streams number xs)

-- what is written of a number is its text
pub member-same : (streams : List Shape) (stream : ℕ) (m : List (Items ℤ)) (g : List (Items (ℕ × Items ℤ))) (i number : ℕ) (row : Items ℤ) (asked : Items (ℕ × Items ℤ)) (items : List (ℕ × Items ℤ))
    → row ≡ get_or m i row → asked ≡ get_or g i asked → items ≡ asked.items → i < length m → i < length g → number ≡ suc i
    → own_text streams stream number row.items ++ flat_map (asked_text streams number) items ≡ member_text streams (family_in stream m g) i
member-same streams stream m g i number row asked items is are these l k e =
    let own : row.items ≡ row_at (family_in stream m g) i = ap (λ (r : Items ℤ). r.items) is ∙ sym (get-map (λ (r : Items ℤ). r.items) m i row [] l) in
    let asks : arrivals items ≡ asking_at (family_in stream m g) i
    = ap arrivals these ∙ ap (λ (a : Items (ℕ × Items ℤ)). arrivals a.items) are ∙ sym (get-map (λ (a : Items (ℕ × Items ℤ)). arrivals a.items) g i asked [] k) in
    ap₂ (λ (s t : List ℕ). s ++ t) (ap₂ (λ (n : ℕ) (r : List ℤ). own_text streams stream n r) e own)
    (asked-same streams number items ∙ ap₂ (λ (n : ℕ) (rs : List Arrival). flat_map (asking_text streams n) rs) e asks)

last-or : (i n : ℕ) → i ≤ suc n → (i ≤ n) ⊎ (i ≡ suc n)
last-or i n l = grind (arith, l)

-- one more behind a list that begins so
one-behind : (i n : ℕ) → (i ≤ n) ⊎ (i ≡ suc n) → (i ≤ n → (rest : List ℕ) × (upto (λ k. k) n ≡ upto (λ k. k) i ++ rest))
    → (rest : List ℕ) × (upto (λ k. k) (suc n) ≡ upto (λ k. k) i ++ rest)
one-behind i n (inl o) f = let h = f o in (h.0 ++ n ∷ [], ap (λ (z : List ℕ). z ++ n ∷ []) h.1 ∙ append_assoc (upto (λ (k : ℕ). k) i) h.0 (n ∷ []))
one-behind i n (inr e) f =
    ([], subst (λ (j : ℕ). upto (λ (k : ℕ). k) (suc n) ≡ upto (λ (k : ℕ). k) j ++ []) (sym e) (sym (append-nil (upto (λ (k : ℕ). k) (suc n)))))

-- numbers up to one begin with those up to a smaller one
up-to : (i n : ℕ) → i ≤ n → (rest : List ℕ) × (upto (λ k. k) n ≡ upto (λ k. k) i ++ rest)
up-to i zero l = ([], (let z : i ≡ 0 = omega (arith, l) in subst (λ (j : ℕ). upto (λ (k : ℕ). k) zero ≡ upto (λ (k : ℕ). k) j ++ []) (sym z) refl))
up-to i (suc n) l = one-behind i n (last-or i n l) (λ o. up-to i n o)

-- the texts up to a number, and that of the number
text-more : (f : ℕ → List ℕ) (i j : ℕ) → j ≡ suc i → flat_map f (upto (λ k. k) j) ≡ flat_map f (upto (λ k. k) i) ++ f i
text-more f i j e =
    ap (λ (n : ℕ). flat_map f (upto (λ (k : ℕ). k) n)) e ∙ flat_map-append f (upto (λ (k : ℕ). k) i) (i ∷ []) ∙ ap (λ (z : List ℕ). flat_map f (upto (λ (k : ℕ). k) i) ++ z) (append-nil (f i))

-- the text of one more number was written
pub writes-more : (f : ℕ → List ℕ) (i j : ℕ) (a b c : SinkState) (t : List ℕ) → j ≡ suc i → t ≡ f i → Wrote a b (flat_map f (upto (λ k. k) i)) → Wrote b c t → Wrote a c (flat_map f (upto (λ k. k) j))
writes-more f i j a b c t e o p q =
    let P : List ℕ → Type 0 = λ z. Wrote a c z in
    subst P (sym (text-more f i j e)) (Wrote-trans a b c (flat_map f (upto (λ (k : ℕ). k) i)) (f i) p (let Q : List ℕ → Type 0 = λ z. Wrote b c z in subst Q o q))

-- the text of a number broke off
pub stops-more : (f : ℕ → List ℕ) (i n : ℕ) (a b c : SinkState) (t : List ℕ) → i < n → t ≡ f i → Wrote a b (flat_map f (upto (λ k. k) i)) → BrokeOff b c t → BrokeOff a c (flat_map f (upto (λ k. k) n))
stops-more f i n a b c t l o p q =
    let h = up-to (suc i) n (omega (arith, l)) in
    let P : List ℕ → Type 0 = λ z. BrokeOff a c z in
    let Q : List ℕ → Type 0 = λ z. BrokeOff b c z in
    let whole : flat_map f (upto (λ (k : ℕ). k) n) ≡ (flat_map f (upto (λ (k : ℕ). k) i) ++ f i) ++ flat_map f h.0
    = ap (flat_map f) h.1 ∙ flat_map-append f (upto (λ (k : ℕ). k) (suc i)) h.0 ∙ ap (λ (z : List ℕ). z ++ flat_map f h.0) (text-more f i (suc i) refl) in
    subst P (sym whole) (BrokeOff-stop a c (flat_map f (upto (λ (k : ℕ). k) i) ++ f i) (flat_map f h.0) (BrokeOff-then a b c (flat_map f (upto (λ (k : ℕ). k) i)) (f i) p (subst Q o q)))

-- the streams of the rows that ask for a number are there
pub asked-there : (streams : List Shape) (stream n : ℕ) (m : List (Items ℤ)) (g : List (Items (ℕ × Items ℤ))) (i : ℕ) (asked : Items (ℕ × Items ℤ)) (items : List (ℕ × Items ℤ)) → AreTakenRows streams n (family_in stream m g)
    → i < n → i < length g → asked ≡ get_or g i asked → items ≡ asked.items → All (λ r. r.0 < length streams) items
asked-there streams stream n m g i asked items taken l k are these = λ j d o.
    let asks : asking_at (family_in stream m g) i ≡ arrivals items
    = get-map (λ (a : Items (ℕ × Items ℤ)). arrivals a.items) g i asked [] k ∙ ap (λ (a : Items (ℕ × Items ℤ)). arrivals a.items) (sym are) ∙ ap arrivals (sym these) in
    let r : Arrival = slice_index_or (arrivals items) j (as-arrival d) in
    let c : Contains (asking_at (family_in stream m g) i) r
    = subst (λ (rs : List Arrival). Contains rs r) (sym asks) (Contains-get_or (arrivals items) j (as-arrival d) (let e = length-map items as-arrival in omega (arith, e, o))) in
    subst (λ (x : Arrival). x.stream < length streams) (get-map as-arrival items j d (as-arrival d) o) (taken.asking i l r c).there
