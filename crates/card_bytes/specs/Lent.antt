-- The bytes as they are lent to the writer of cards. Definitions only.
use Rattle.std.specs.Prelude.{List, ℕ, zero, suc, ◌+◌, ◌%◌, set}

-- what byte i is lent with: none that a card has, whose bytes are below 128
abbrev pub lent_byte : ℕ → ℕ
lent_byte i = 128 + i % 128

-- the bytes with the first n of them as they are lent
unfoldable pub lent_bytes : ℕ → List ℕ → List ℕ
lent_bytes zero l = l
lent_bytes (suc n) l = set (lent_bytes n l) n (lent_byte n)
