-- Numbers and zeros in bytes. The highest byte of a number comes first.
use Rattle.std.specs.Prelude.{ℕ, ◌==◌, Bool, List, take, drop, replicate}
use Rattle.std.specs.List.{list_all}
use Rattle.std.specs.Int.{w16, w32, w64, from_be_bytes}
use Rattle.byteorder.specs.Endian.{big_bytes}

-- n zeros
unfoldable pub zeros : ℕ → List ℕ
zeros n = replicate n 0

-- whether all bytes are zeros
abbrev pub all_zero : List ℕ → Bool
all_zero bytes = list_all (λ b. b == 0) bytes

-- the bytes of a number of 16 bits
unfoldable pub u16_bytes : ℕ → List ℕ
u16_bytes n = big_bytes 2 n

-- the bytes of a number of 32 bits
unfoldable pub u32_bytes : ℕ → List ℕ
u32_bytes n = big_bytes 4 n

-- the bytes of a number of 64 bits
unfoldable pub u64_bytes : ℕ → List ℕ
u64_bytes n = big_bytes 8 n

-- the number of 16 bits that lies at a place
unfoldable pub u16_at : ℕ → List ℕ → ℕ
u16_at at bytes = from_be_bytes w16 (take 2 (drop at bytes))

-- the number of 32 bits that lies at a place
unfoldable pub u32_at : ℕ → List ℕ → ℕ
u32_at at bytes = from_be_bytes w32 (take 4 (drop at bytes))

-- the number of 64 bits that lies at a place
unfoldable pub u64_at : ℕ → List ℕ → ℕ
u64_at at bytes = from_be_bytes w64 (take 8 (drop at bytes))
