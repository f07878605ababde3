-- Lanes that are put behind zeros.
use Rattle.std.proofs.Common.{◌≡◌, ℕ, zero, suc, ◌-◌, ◌<◌, ◌≤◌, w8, List, ◌++◌, length, map, take, drop, replicate, refl, ap, subst, inl, inr, arith}
use Rattle.std.specs.Prelude.{⊤}
use Rattle.std.specs.List.{range_with_len}
use Rattle.std.proofs.lemmas.Bool.{cases_lt}
use Rattle.std.proofs.lemmas.List.{length-append, length-replicate, length-take}
use Rattle.std.proofs.lemmas.Simd.{SwzOk, swz_l}
use lib.Lanes.{chunk}
use Rattle.io_row_reader.specs.declared.lanes.TheConstants.{PLACES}
use Rattle.io_row_reader.proofs.LaneNumbers.{spelled}

abbrev pub Each : (ℕ → Type 0) → ℕ → Type 0
Each P zero = ⊤
Each P (suc n) = P n × Each P n

pub each : (P : ℕ → Type 0) (n k : ℕ) → Each P n → k < n → P k
each P zero k h l = absurd (omega arith)
each P (suc n) k h l = elim (cases_lt k n) [ inl a ↦ each P n k h.1 a | inr a ↦ let e : n ≡ k = omega arith in subst P e h.0 ]

-- the places from one on put the lanes in front behind zeros
pub record Behind (xs : List ℕ) (len : ℕ) : Type 0 where
  pub fits : SwzOk w8 16 16 0 (chunk 0 16 (take (32 - len) (drop len PLACES)))
  pub is : swz_l w8 16 xs 0 (chunk 0 16 (take (32 - len) (drop len PLACES))) ≡ replicate (16 - len) 0 ++ take len xs

each_len : (f : ℕ → ℕ) → Each (Behind (map f (range_with_len 0 16))) 17
each_len f = (
  record { fits = (tt, (tt, (tt, (tt, (tt, (tt, (tt, (tt, (tt, (tt, (tt, (tt, (tt, (tt, (tt, (tt, tt)))))))))))))))); is = refl },
  (
    record { fits = (tt, (tt, (tt, (tt, (tt, (tt, (tt, (tt, (tt, (tt, (tt, (tt, (tt, (tt, (tt, (tt, tt)))))))))))))))); is = refl },
    (
      record { fits = (tt, (tt, (tt, (tt, (tt, (tt, (tt, (tt, (tt, (tt, (tt, (tt, (tt, (tt, (tt, (tt, tt)))))))))))))))); is = refl },
      (
        record { fits = (tt, (tt, (tt, (tt, (tt, (tt, (tt, (tt, (tt, (tt, (tt, (tt, (tt, (tt, (tt, (tt, tt)))))))))))))))); is = refl },
        (
          record { fits = (tt, (tt, (tt, (tt, (tt, (tt, (tt, (tt, (tt, (tt, (tt, (tt, (tt, (tt, (tt, (tt, tt)))))))))))))))); is = refl },
          (
            record { fits = (tt, (tt, (tt, (tt, (tt, (tt, (tt, (tt, (tt, (tt, (tt, (tt, (tt, (tt, (tt, (tt, tt)))))))))))))))); is = refl },
            (
              record { fits = (tt, (tt, (tt, (tt, (tt, (tt, (tt, (tt, (tt, (tt, (tt, (tt, (tt, (tt, (tt, (tt, tt)))))))))))))))); is = refl },
              (
                record { fits = (tt, (tt, (tt, (tt, (tt, (tt, (tt, (tt, (tt, (tt, (tt, (tt, (tt, (tt, (tt, (tt, tt)))))))))))))))); is = refl },
                (
                  record { fits = (tt, (tt, (tt, (tt, (tt, (tt, (tt, (tt, (tt, (tt, (tt, (tt, (tt, (tt, (tt, (tt, tt)))))))))))))))); is = refl },
                  (
                    record { fits = (tt, (tt, (tt, (tt, (tt, (tt, (tt, (tt, (tt, (tt, (tt, (tt, (tt, (tt, (tt, (tt, tt)))))))))))))))); is = refl },
                    (
                      record { fits = (tt, (tt, (tt, (tt, (tt, (tt, (tt, (tt, (tt, (tt, (tt, (tt, (tt, (tt, (tt, (tt, tt)))))))))))))))); is = refl },
                      (
                        record { fits = (tt, (tt, (tt, (tt, (tt, (tt, (tt, (tt, (tt, (tt, (tt, (tt, (tt, (tt, (tt, (tt, tt)))))))))))))))); is = refl },
                        (
                          record { fits = (tt, (tt, (tt, (tt, (tt, (tt, (tt, (tt, (tt, (tt, (tt, (tt, (tt, (tt, (tt, (tt, tt)))))))))))))))); is = refl },
                          (
                            record { fits = (tt, (tt, (tt, (tt, (tt, (tt, (tt, (tt, (tt, (tt, (tt, (tt, (tt, (tt, (tt, (tt, tt)))))))))))))))); is = refl },
                            (
                              record { fits = (tt, (tt, (tt, (tt, (tt, (tt, (tt, (tt, (tt, (tt, (tt, (tt, (tt, (tt, (tt, (tt, tt)))))))))))))))); is = refl },
                              (
                                record { fits = (tt, (tt, (tt, (tt, (tt, (tt, (tt, (tt, (tt, (tt, (tt, (tt, (tt, (tt, (tt, (tt, tt)))))))))))))))); is = refl },
                                (
                                  record { fits = (tt, (tt, (tt, (tt, (tt, (tt, (tt, (tt, (tt, (tt, (tt, (tt, (tt, (tt, (tt, (tt, tt)))))))))))))))); is = refl },
                                  tt,
                                ),
                              ),
                            ),
                          ),
                        ),
                      ),
                    ),
                  ),
                ),
              ),
            ),
          ),
        ),
      ),
    ),
  ),
)

pub behind : (xs : List ℕ) (len : ℕ) → length xs ≡ 16 → len ≤ 16 → Behind xs len
behind xs len long few = spelled (λ xs. Behind xs len) 16 (λ f. each (Behind (map f (range_with_len 0 16))) 17 len (each_len f) (omega (arith, few))) xs long

-- there are as many of them behind zeros
pub behind_long : (padded xs : List ℕ) (n : ℕ) → padded ≡ replicate (16 - n) 0 ++ take n xs → length xs ≡ 16 → n ≤ 16 → length padded ≡ 16
behind_long padded xs n is long few = omega (arith, ap length is, length-append (replicate (16 - n) 0) (take n xs), length-replicate {A = ℕ} (16 - n) 0, length-take n xs, long, few)
