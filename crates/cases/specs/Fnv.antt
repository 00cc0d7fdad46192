-- FNV-1a of 64 bits, as its authors define it.
use Rattle.std.specs.Prelude.{ℕ, ◌*◌, ◌/◌, ◌%◌, ◌^◌, [], ◌∷◌, fold, bit_xor}

-- The offset basis.
abbrev pub fnv_start : ℕ
fnv_start = 14695981039346656037

-- A byte goes in by an exclusive or, and then the product with the prime, in 64 bits.
abbrev pub fnv_byte : ℕ → ℕ → ℕ
fnv_byte h b = bit_xor h b * 1099511628211 % 2 ^ 64

-- The four bytes of a sample's bits go in, the lowest first.
abbrev pub fnv_sample : ℕ → ℕ → ℕ
fnv_sample h w = fold fnv_byte h (w % 256 ∷ w / 256 % 256 ∷ w / 65536 % 256 ∷ w / 16777216 % 256 ∷ [])
