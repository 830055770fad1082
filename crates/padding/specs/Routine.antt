-- The routine that takes a block's padding away, as a source image.
use Rattle.std.specs.Prelude.{ℕ, ◌*◌, List, [], ◌∷◌, replicate}
use Rattle.definitions.specs.Bytes.{bytes_of}
use Rattle.definitions.specs.Host.{compile_bytes}

-- The words, by their places. In short: n := block[15]; r := 16 - n; where n is 0 or above 16, r := 255; for each of the 16
-- cells: where it is one of the last n and does not hold n, r := 255; return r.
unfoldable pub source_words : List ℕ
source_words =
    0x10000101  --  0 header: source form, 1 array, 1 procedure
    ∷ 0x20010010  --  1 array 0: secret, 16 cells, the block
    ∷ 0x30000003  --  2 procedure 0: open, no parameter, 3 locals
    ∷ 0x40000001  --  3 its result: a secret word
    ∷ 0x40000000  --  4 variable 0: a public word, i
    ∷ 0x40000001  --  5 variable 1: a secret word, n
    ∷ 0x40000001  --  6 variable 2: a secret word, r
    ∷ 0x50000005  --  7 its body: a block of 5 statements
    ∷ 0x60000001  --  8   n :=
    ∷ 0xB0000000  --  9     a cell of the block
    ∷ 0x7000000F  -- 10       at 15
    ∷ 0x60000002  -- 11   r :=
    ∷ 0xD0000001  -- 12     subtract
    ∷ 0x70000010  -- 13       16
    ∷ 0xA0000001  -- 14       n
    ∷ 0x60020000  -- 15   if
    ∷ 0xD000000E  -- 16     or
    ∷ 0xD000000B  -- 17       equal
    ∷ 0xA0000001  -- 18         n
    ∷ 0x70000000  -- 19         0
    ∷ 0xD000000C  -- 20       less
    ∷ 0x70000010  -- 21         16
    ∷ 0xA0000001  -- 22         n
    ∷ 0x50000001  -- 23     then: a block of 1 statement
    ∷ 0x60000002  -- 24       r :=
    ∷ 0x700000FF  -- 25         255
    ∷ 0x50000000  -- 26     else: a block of no statements
    ∷ 0x60030000  -- 27   for i
    ∷ 0x70000000  -- 28     from 0
    ∷ 0x70000010  -- 29     to 16, which is not reached
    ∷ 0x50000001  -- 30     a block of 1 statement
    ∷ 0x60020000  -- 31       if
    ∷ 0xD000000D  -- 32         and
    ∷ 0xC0000000  -- 33           not
    ∷ 0xD000000C  -- 34             less
    ∷ 0xA0000000  -- 35               i
    ∷ 0xD0000001  -- 36               subtract
    ∷ 0x70000010  -- 37                 16
    ∷ 0xA0000001  -- 38                 n
    ∷ 0xC0000000  -- 39           not
    ∷ 0xD000000B  -- 40             equal
    ∷ 0xB0000000  -- 41               a cell of the block
    ∷ 0xA0000000  -- 42                 at i
    ∷ 0xA0000001  -- 43               n
    ∷ 0x50000001  -- 44         then: a block of 1 statement
    ∷ 0x60000002  -- 45           r :=
    ∷ 0x700000FF  -- 46             255
    ∷ 0x50000000  -- 47         else: a block of no statements
    ∷ 0x60040000  -- 48   return
    ∷ 0xA0000002  -- 49     r
    ∷ []

-- its bytes
abbrev pub source : List ℕ
source = bytes_of source_words

-- how many words it is compiled into, and what the library's compiler writes of it
abbrev pub image_length : ℕ
image_length = 60

unfoldable pub image : List ℕ
image = (compile_bytes source (replicate (4 * image_length) 0)).1
