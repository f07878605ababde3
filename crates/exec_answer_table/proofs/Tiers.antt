-- How numbers move in a list of blocks.
use Rattle.std.proofs.Common.{◌≡◌, ◌≢◌, ℕ, ◌+◌, ◌-◌, ◌*◌, ◌/◌, ◌%◌, ◌<◌, ◌≤◌, List, [], ◌∷◌, ◌++◌, length, min, get_or, set, take, drop, refl, sym, ap, ◌∙◌, inl, inr, arith, get_or-set_same, get_or-set_other}
use Rattle.std.specs.List.{insert}
use Rattle.std.proofs.lemmas.List.{ext_get_or, get_or-drop, get_or-take}
use Rattle.std.proofs.lemmas.List.Edits.{get_or-insert_at, get_or-insert_below, get_or-insert_above, length-insert, insert_end}
use Rattle.std.proofs.lemmas.List.FromFn.{length-map-range_with_len, get_or-map-range_with_len}
use Rattle.std.proofs.lemmas.Bool.{cases_eq, cases_lt}
use Rattle.exec_answer_table.specs.Tiers.{place_of, number_at, items_of, Shifted, IsTiered}

pub length-items_of : (numbers heads : List ℕ) → length (items_of numbers heads) ≡ length numbers
unfolding items_of
length-items_of numbers heads = length-map-range_with_len (number_at numbers heads) 0 (length numbers)

pub get_or-items_of : (numbers heads : List ℕ) (k : ℕ) → k < length numbers → get_or (items_of numbers heads) k 0 ≡ number_at numbers heads k
unfolding items_of
get_or-items_of numbers heads k h = get_or-map-range_with_len (number_at numbers heads) 0 (length numbers) k k 0 h (omega arith)

-- no number yet
pub nothing : (f : ℕ → ℕ) (from number : ℕ) → Shifted f f from from number number
nothing f from number =
    record {
      outside = λ k _. refl;
      first = λ h. absurd (omega (arith, h));
      moved = λ k h h'. absurd (omega (arith, h, h'));
      last = λ h. absurd (omega (arith, h));
      none = λ _. refl;
    }

-- two runs, one behind the other
pub both : (f g h : ℕ → ℕ) (from mid to x y z : ℕ)
    → from ≤ mid
    → mid ≤ to
    → Shifted f g from mid x y
    → Shifted g h mid to y z
    → Shifted f h from to x z
both f g h from mid to x y z low high one two =
    record {
      outside = λ k out.
          elim out [
            | inl below ↦ two.outside k (inl (omega (arith, below, low))) ∙ one.outside k (inl below)
            | inr above ↦ two.outside k (inr above) ∙ one.outside k (inr (omega (arith, above, high)))
          ];
      first = λ some.
          elim (cases_lt from mid) [
            | inl before ↦ two.outside from (inl before) ∙ one.first before
            | inr past ↦
                let e : from ≡ mid = omega (arith, low, past) in
                ap h e ∙ two.first (omega (arith, e, some)) ∙ one.none e
          ];
      moved = λ k a b.
          elim (cases_lt k mid) [
            | inr past ↦ two.moved k past b ∙ one.outside k (inr past)
            | inl before ↦
                elim (cases_lt (k + 1) mid) [
                  | inl inside ↦ two.outside (k + 1) (inl inside) ∙ one.moved k a inside
                  | inr end ↦
                      let e : k + 1 ≡ mid = omega (arith, before, end) in
                      let back : mid - 1 ≡ k = omega (arith, e) in
                      ap h e ∙ two.first (omega (arith, e, b)) ∙ one.last (omega (arith, a, before)) ∙ ap f back
                ]
          ];
      last = λ some.
          elim (cases_lt mid to) [
            | inl before ↦ two.last before ∙ one.outside (to - 1) (inr (omega (arith, before)))
            | inr past ↦
                let e : mid ≡ to = omega (arith, high, past) in
                two.none e ∙ one.last (omega (arith, e, some)) ∙ ap (λ (n : ℕ). f (n - 1)) e
          ];
      none = λ e. two.none (omega (arith, e, low, high)) ∙ one.none (omega (arith, e, low, high));
    }

-- the same end
pub ended : (f g : ℕ → ℕ) (from to to' came went : ℕ) → to ≡ to' → Shifted f g from to came went → Shifted f g from to' came went
ended f g from to to' came went e shifted = rw e at shifted

-- different numbers stand at different places
pub apart : (heads : List ℕ) (k p : ℕ) → k ≢ p → place_of heads k ≢ place_of heads p
apart heads k p ne e =
    elim (cases_eq (k / 256) (p / 256)) [
      | inl block ↦
          let same : get_or heads (k / 256) 0 ≡ get_or heads (p / 256) 0 = ap (λ (b : ℕ). get_or heads b 0) block in
          ne (omega (arith, block, same, e))
      | inr other ↦ other (omega (arith, e))
    ]

-- one number of a block moved on by one place
pub one_step : (numbers heads : List ℕ) (place number : ℕ)
    → place_of heads place < length numbers
    → Shifted (number_at numbers heads) (number_at (set numbers (place_of heads place) number) heads) place (place + 1) number (number_at numbers heads place)
one_step numbers heads place number inside =
    record {
      outside = λ k out.
          get_or-set_other numbers (place_of heads place) (place_of heads k) number 0
          (apart heads k place (λ e. elim out [ inl h ↦ omega (arith, h, e) | inr h ↦ omega (arith, h, e) ]));
      first = λ _. get_or-set_same numbers (place_of heads place) number 0 inside;
      moved = λ k a b. absurd (omega (arith, a, b));
      last = λ _. ap (number_at numbers heads) (let e : place ≡ place + 1 - 1 = omega arith in e);
      none = λ e. absurd (omega (arith, e));
    }

-- a full block was turned by one place
pub one_turn : (numbers heads : List ℕ) (block at number : ℕ)
    → at ≡ block * 256 + (get_or heads block 0 % 256 + 255) % 256
    → block < length heads
    → (block + 1) * 256 ≤ length numbers
    → Shifted (number_at numbers heads) (number_at (set numbers at number) (set heads block at)) (block * 256) ((block + 1) * 256) number (get_or numbers at 0)
one_turn numbers heads block at number is within inside =
    record {
      outside = λ k out.
          let ne : k / 256 ≢ block = λ e. elim out [ inl h ↦ omega (arith, h, e) | inr h ↦ omega (arith, h, e) ] in
          let same : get_or (set heads block at) (k / 256) 0 ≡ get_or heads (k / 256) 0 = get_or-set_other heads block (k / 256) at 0 ne in
          let place : place_of (set heads block at) k ≡ place_of heads k = ap (λ (h : ℕ). k / 256 * 256 + (h + k % 256) % 256) same in
          ap (λ (p : ℕ). get_or (set numbers at number) p 0) place
          ∙ get_or-set_other numbers at (place_of heads k) number 0 (λ e. ne (omega (arith, e, is)));
      first = λ _.
          let first : place_of (set heads block at) (block * 256) ≡ at =
          here (block * 256) (omega arith) ∙ (let z : block * 256 + (at + block * 256 % 256) % 256 ≡ at = omega (arith, is) in z) in
          ap (λ (p : ℕ). get_or (set numbers at number) p 0) first
          ∙ get_or-set_same numbers at number 0 (omega (arith, is, inside));
      moved = λ k a b.
          let old : k / 256 ≡ block = omega (arith, a, b) in
          let was : get_or heads (k / 256) 0 ≡ get_or heads block 0 = ap (λ (n : ℕ). get_or heads n 0) old in
          let next : place_of (set heads block at) (k + 1) ≡ place_of heads k =
          here (k + 1) (omega (arith, a, b)) ∙ (let z : block * 256 + (at + (k + 1) % 256) % 256 ≡ k / 256 * 256 + (get_or heads (k / 256) 0 + k % 256) % 256 = omega (arith, is, a, b, was) in z) in
          ap (λ (p : ℕ). get_or (set numbers at number) p 0) next
          ∙ get_or-set_other numbers at (place_of heads k) number 0 (λ e. omega (arith, e, is, was, a, b));
      last = λ _.
          let end : ((block + 1) * 256 - 1) / 256 ≡ block = omega arith in
          let was : get_or heads (((block + 1) * 256 - 1) / 256) 0 ≡ get_or heads block 0 = ap (λ (n : ℕ). get_or heads n 0) end in
          let place : at ≡ place_of heads ((block + 1) * 256 - 1) = omega (arith, is, was, end) in
          ap (λ (p : ℕ). get_or numbers p 0) place;
      none = λ e. absurd (omega (arith, e));
    }
  where
    here : (k : ℕ) → k / 256 ≡ block → place_of (set heads block at) k ≡ block * 256 + (at + k % 256) % 256
    here k e =
        let own : get_or (set heads block at) (k / 256) 0 ≡ at = ap (λ (n : ℕ). get_or (set heads block at) n 0) e ∙ get_or-set_same heads block at 0 within in
        omega (arith, own, e)

-- a block that is not full begins at its first place
abbrev pub Plain : List ℕ → List ℕ → Type 0
Plain numbers heads = (block : ℕ) → length numbers < (block + 1) * 256 → get_or heads block 0 % 256 ≡ 0

pub is_plain : (numbers heads : List ℕ) (room : ℕ) → IsTiered numbers heads room → Plain numbers heads
is_plain numbers heads room tiered block h = tiered.plain block (omega (arith, h))

-- in such a block each number stands at its place
pub in_order : (numbers heads : List ℕ) (k : ℕ) → Plain numbers heads → length numbers / 256 * 256 ≤ k → k ≤ length numbers → place_of heads k ≡ k
in_order numbers heads k plain low high =
    let zero = plain (k / 256) (omega (arith, low, high)) in
    omega (arith, zero)

-- a number of the list stands among all numbers
pub place_within : (numbers heads : List ℕ) (k : ℕ) → Plain numbers heads → k < length numbers → place_of heads k < length numbers
place_within numbers heads k plain h =
    elim (cases_lt k (length numbers / 256 * 256)) [
      | inl full ↦ omega (arith, full)
      | inr rest ↦ let e = in_order numbers heads k plain rest (omega (arith, h)) in omega (arith, e, h)
    ]

-- the last number stands last
pub last_place : (numbers heads : List ℕ) (room k : ℕ) → IsTiered numbers heads room → k + 1 ≡ length numbers → place_of heads k ≡ k
last_place numbers heads room k tiered end =
    let zero = tiered.plain (k / 256) (omega (arith, end)) in
    omega (arith, zero)

-- a number of a full block stands in the full blocks
pub place_below : (heads : List ℕ) (full k : ℕ) → k < full * 256 → place_of heads k < full * 256
place_below heads full k h = omega (arith, h)

-- what stands where, after a number was inserted behind the full blocks
pub record Put (f h : ℕ → ℕ) (place number n : ℕ) : Type 0 where
  pub before : (k : ℕ) → k < place → h k ≡ f k
  pub at : h place ≡ number
  pub behind : (k : ℕ) → place ≤ k → k < n → h (k + 1) ≡ f k

pub put_upto : (f h : ℕ → ℕ) (place number n n' : ℕ) → n' ≡ n → Put f h place number n → Put f h place number n'
put_upto f h place number n n' e put = record { before = put.before; at = put.at; behind = λ k a b. put.behind k a (omega (arith, e, b)) }

pub put_last : (numbers heads : List ℕ) (place number : ℕ)
    → Plain numbers heads
    → length numbers / 256 * 256 ≤ place
    → place ≤ length numbers
    → Put (number_at numbers heads) (number_at (insert numbers place number) heads) place number (length numbers)
put_last numbers heads place number plain low high =
    record {
      before = λ k h.
          get_or-insert_below numbers place number 0 (place_of heads k)
          (elim (cases_lt k (length numbers / 256 * 256)) [
            | inl full ↦ let b = place_below heads (length numbers / 256) k full in omega (arith, b, low)
            | inr rest ↦ let e = in_order numbers heads k plain rest (omega (arith, h, high)) in omega (arith, e, h)
          ])
          high;
      at = ap (λ (p : ℕ). get_or (insert numbers place number) p 0) (in_order numbers heads place plain low high)
          ∙ get_or-insert_at numbers place number 0 high;
      behind = λ k a b.
          ap (λ (p : ℕ). get_or (insert numbers place number) p 0) (in_order numbers heads (k + 1) plain (omega (arith, low, a)) (omega (arith, b)))
          ∙ get_or-insert_above numbers place number 0 k a high
          ∙ ap (λ (p : ℕ). get_or numbers p 0) (sym (in_order numbers heads k plain (omega (arith, low, a)) (omega (arith, b))));
    }

-- after others moved on to it from a place
pub put_shifted : (f g h : ℕ → ℕ) (place full number last n : ℕ)
    → place ≤ full
    → full ≤ n
    → Shifted f g place full number last
    → Put g h full last n
    → Put f h place number n
put_shifted f g h place full number last n low high shifted put =
    record {
      before = λ k a. put.before k (omega (arith, a, low)) ∙ shifted.outside k (inl a);
      at = elim (cases_lt place full) [
        | inl some ↦ put.before place some ∙ shifted.first some
        | inr none ↦
            let e : place ≡ full = omega (arith, low, none) in
            ap h e ∙ put.at ∙ shifted.none e
      ];
      behind = λ k a b.
          elim (cases_lt k full) [
            | inr past ↦ put.behind k past b ∙ shifted.outside k (inr past)
            | inl before ↦
                elim (cases_lt (k + 1) full) [
                  | inl inside ↦ put.before (k + 1) inside ∙ shifted.moved k a inside
                  | inr end ↦
                      let e : k + 1 ≡ full = omega (arith, before, end) in
                      let back : full - 1 ≡ k = omega (arith, e) in
                      ap h e ∙ put.at ∙ shifted.last (omega (arith, a, before)) ∙ ap f back
                ]
          ];
    }

pub put_items : (numbers numbers' heads heads' : List ℕ) (place number : ℕ)
    → length numbers' ≡ length numbers + 1
    → place ≤ length numbers
    → Put (number_at numbers heads) (number_at numbers' heads') place number (length numbers)
    → items_of numbers' heads' ≡ insert (items_of numbers heads) place number
put_items numbers numbers' heads heads' place number len high put =
    let l = length-items_of numbers heads in
    let l' = length-items_of numbers' heads' in
    let high' : place ≤ length (items_of numbers heads) = omega (arith, l, high) in
    let i = length-insert (items_of numbers heads) place number high' in
    ext_get_or 0 _ _ (omega (arith, l, l', len, i))
    (λ k below.
    let few : k < length numbers' = omega (arith, below, l') in
    get_or-items_of numbers' heads' k few
    ∙ elim (cases_lt k place) [
      | inl before ↦
          put.before k before
          ∙ sym (get_or-items_of numbers heads k (omega (arith, before, high)))
          ∙ sym (get_or-insert_below (items_of numbers heads) place number 0 k before high')
      | inr past ↦
          elim (cases_eq k place) [
            | inl e ↦ rw e (put.at ∙ sym (get_or-insert_at (items_of numbers heads) place number 0 high'))
            | inr ne ↦
                let back : k - 1 + 1 ≡ k = omega (arith, past, ne) in
                ap (number_at numbers' heads') (sym back)
                ∙ put.behind (k - 1) (omega (arith, past, ne)) (omega (arith, few, len, past, ne))
                ∙ sym (get_or-items_of numbers heads (k - 1) (omega (arith, few, len, past, ne)))
                ∙ sym (get_or-insert_above (items_of numbers heads) place number 0 (k - 1) (omega (arith, past, ne)) high')
                ∙ ap (λ (j : ℕ). get_or (insert (items_of numbers heads) place number) j 0) back
          ]
    ])

-- a number appended
pub pushed : (numbers heads : List ℕ) (room number : ℕ)
    → IsTiered numbers heads room
    → items_of (numbers ++ number ∷ []) heads ≡ items_of numbers heads ++ number ∷ []
pushed numbers heads room number tiered =
    let l = length-items_of numbers heads in
    let put = put_last numbers heads (length numbers) number (is_plain numbers heads room tiered) (omega arith) (omega arith) in
    ap (λ (ns : List ℕ). items_of ns heads) (sym (insert_end numbers number))
    ∙ put_items numbers (insert numbers (length numbers) number) heads heads (length numbers) number (length-insert numbers (length numbers) number (omega arith)) (omega arith) put
    ∙ ap (λ (k : ℕ). insert (items_of numbers heads) k number) (sym l)
    ∙ insert_end (items_of numbers heads) number

-- the list stays one of blocks
pub still_tiered : (numbers numbers' heads heads' : List ℕ) (room : ℕ)
    → IsTiered numbers heads room
    → length numbers < room
    → length numbers' ≡ length numbers + 1
    → length heads' ≡ length heads
    → ((block : ℕ) → get_or heads block 0 / 256 ≡ block → get_or heads' block 0 / 256 ≡ block)
    → ((block : ℕ) → length numbers / 256 ≤ block → get_or heads' block 0 ≡ get_or heads block 0)
    → IsTiered numbers' heads' room
still_tiered numbers numbers' heads heads' room tiered more len same own others =
    let blocks = tiered.blocks in
    record {
      few = omega (arith, more, len);
      blocks = omega (arith, blocks, same);
      own = λ block h. own block (tiered.own block (omega (arith, h, same)));
      plain = λ block h. ap (λ (head : ℕ). head % 256) (others block (omega (arith, h, len))) ∙ tiered.plain block (omega (arith, h, len));
    }

-- no numbers
pub no_items : (heads : List ℕ) → items_of [] heads ≡ []
unfolding items_of
no_items heads = refl

-- an insertion among the full blocks
pub put_among : (numbers turned heads heads' : List ℕ) (room place number last : ℕ)
    → IsTiered numbers heads room
    → length turned ≡ length numbers
    → ((block : ℕ) → length numbers / 256 ≤ block → get_or heads' block 0 ≡ get_or heads block 0)
    → place < length numbers / 256 * 256
    → Shifted (number_at numbers heads) (number_at turned heads') place (length numbers / 256 * 256) number last
    → items_of (insert turned (length numbers / 256 * 256) last) heads' ≡ insert (items_of numbers heads) place number
put_among numbers turned heads heads' room place number last tiered len others within shifted =
    let full : ℕ = length numbers / 256 * 256 in
    let plain : Plain turned heads' = λ block h. ap (λ (head : ℕ). head % 256) (others block (omega (arith, h, len))) ∙ is_plain numbers heads room tiered block (omega (arith, h, len)) in
    let equal : length turned / 256 * 256 ≡ full = ap (λ (n : ℕ). n / 256 * 256) len in
    let put = put_last turned heads' full last plain (omega (arith, equal)) (omega (arith, len)) in
    put_items numbers (insert turned full last) heads heads' place number
    (length-insert turned full last (omega (arith, len)) ∙ ap (λ (n : ℕ). n + 1) len)
    (omega (arith, within))
    (put_shifted (number_at numbers heads) (number_at turned heads') (number_at (insert turned full last) heads') place full number last (length numbers)
    (omega (arith, within)) (omega arith) shifted
    (put_upto (number_at turned heads') (number_at (insert turned full last) heads') full last (length turned) (length numbers) (sym len) put))

-- where no block was turned, the numbers stand in order
pub plain_items : (numbers heads : List ℕ) → ((block : ℕ) → get_or heads block 0 % 256 ≡ 0) → numbers ≡ items_of numbers heads
plain_items numbers heads zero =
    let l = length-items_of numbers heads in
    ext_get_or 0 _ _ (sym l)
    (λ k below.
    let first = zero (k / 256) in
    let place : place_of heads k ≡ k = omega (arith, first) in
    sym (get_or-items_of numbers heads k below ∙ ap (λ (p : ℕ). get_or numbers p 0) place))

-- the first number of a block stands at its head
pub first_place : (heads : List ℕ) (block head : ℕ) → head ≡ get_or heads block 0 → head / 256 ≡ block → place_of heads (block * 256) ≡ head
first_place heads block head is own =
    let here : block * 256 / 256 ≡ block = omega arith in
    let same : get_or heads (block * 256 / 256) 0 ≡ head = ap (λ (b : ℕ). get_or heads b 0) here ∙ sym is in
    omega (arith, same, own)

-- the numbers of a block from its head on
pub block_front : (numbers heads : List ℕ) (block head size k : ℕ)
    → head ≡ get_or heads block 0
    → head / 256 ≡ block
    → head + size ≤ (block + 1) * 256
    → head + size ≤ length numbers
    → k < size
    → get_or (take size (drop head numbers)) k 0 ≡ get_or (items_of numbers heads) (block * 256 + k) 0
block_front numbers heads block head size k is own most inside h =
    let here : (block * 256 + k) / 256 ≡ block = omega (arith, h, most, own) in
    let same : get_or heads ((block * 256 + k) / 256) 0 ≡ head = ap (λ (b : ℕ). get_or heads b 0) here ∙ sym is in
    let place : place_of heads (block * 256 + k) ≡ head + k = omega (arith, same, here, own, h, most) in
    get_or-take size (drop head numbers) k 0 h
    ∙ get_or-drop head numbers k 0
    ∙ ap (λ (p : ℕ). get_or numbers p 0) (sym place)
    ∙ sym (get_or-items_of numbers heads (block * 256 + k) (omega (arith, inside, h, own)))

-- the numbers of a full block that stand before its head
pub block_back : (numbers heads : List ℕ) (block head size k : ℕ)
    → head ≡ get_or heads block 0
    → head / 256 ≡ block
    → head + size ≡ (block + 1) * 256
    → (block + 1) * 256 ≤ length numbers
    → block * 256 + k < head
    → get_or (drop (block * 256) (take head numbers)) k 0 ≡ get_or (items_of numbers heads) (block * 256 + size + k) 0
block_back numbers heads block head size k is own end inside h =
    let here : (block * 256 + size + k) / 256 ≡ block = omega (arith, h, end, own) in
    let same : get_or heads ((block * 256 + size + k) / 256) 0 ≡ head = ap (λ (b : ℕ). get_or heads b 0) here ∙ sym is in
    let place : place_of heads (block * 256 + size + k) ≡ block * 256 + k = omega (arith, same, here, own, end, h) in
    get_or-drop (block * 256) (take head numbers) k 0
    ∙ get_or-take head numbers (block * 256 + k) 0 h
    ∙ ap (λ (p : ℕ). get_or numbers p 0) (sym place)
    ∙ sym (get_or-items_of numbers heads (block * 256 + size + k) (omega (arith, inside, h, end)))

-- the head of a block stands in it, before the end of the numbers
pub head_own : (numbers heads : List ℕ) (room block head : ℕ)
    → IsTiered numbers heads room
    → block * 256 < length numbers
    → head ≡ get_or heads block 0
    → head / 256 ≡ block
head_own numbers heads room block head tiered some is =
    let few = tiered.few in
    let blocks = tiered.blocks in
    let own = tiered.own block (omega (arith, some, few, blocks)) in
    omega (arith, own, is)

pub head_within : (numbers heads : List ℕ) (room block head : ℕ)
    → IsTiered numbers heads room
    → block * 256 < length numbers
    → head ≡ get_or heads block 0
    → head < length numbers
head_within numbers heads room block head tiered some is =
    let first = first_place heads block head is (head_own numbers heads room block head tiered some is) in
    let within = place_within numbers heads (block * 256) (is_plain numbers heads room tiered) some in
    omega (arith, first, within)

-- how long the two slices of a block are: that from its head on, and that before its head
pub record Slices (numbers : List ℕ) (block head front back : ℕ) : Type 0 where
  pub own : head / 256 ≡ block
  pub before : block * 256 + back ≡ head
  pub inside : head + front ≤ length numbers
  pub most : head + front ≤ (block + 1) * 256
  pub all : (k : ℕ) → head + front ≤ k → k < length numbers → (block + 1) * 256 ≤ k
  pub end : block * 256 < head → head + front ≡ (block + 1) * 256
  pub full : block * 256 < head → (block + 1) * 256 ≤ length numbers

pub slices : (numbers heads : List ℕ) (room block head behind front back : ℕ)
    → IsTiered numbers heads room
    → block * 256 < length numbers
    → head ≡ get_or heads block 0
    → behind + head ≡ length numbers
    → front ≡ min behind ((block + 1) * 256 - head)
    → back + block * 256 ≡ head
    → Slices numbers block head front back
slices numbers heads room block head behind front back tiered some is whole least left =
    let own = head_own numbers heads room block head tiered some is in
    let full : block * 256 < head → (block + 1) * 256 ≤ length numbers =
    λ h.
    elim (cases_lt (length numbers) ((block + 1) * 256)) [
      | inl less ↦
          let zero = tiered.plain block (omega (arith, less)) in
          absurd (omega (arith, zero, is, own, h))
      | inr past ↦ past
    ] in
    record {
      own = own;
      before = omega (arith, left);
      inside = omega (arith, whole, least);
      most = omega (arith, own, least);
      all = λ k a b. omega (arith, a, b, whole, least);
      end = λ h. let enough = full h in omega (arith, enough, whole, least, own);
      full = full;
    }
