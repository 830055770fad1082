-- The printing program reads 65,540 bytes and drops the rest: these tell the text. Assumes nothing.
use Rattle.std.specs.Prelude.{◌≡◌, List, ℕ, take, replicate}
use Rattle.requests.specs.FirstBytes.{first_bytes}
use Rattle.printing.specs.Text.{printed}

pub printed_first : (image : List ℕ) → printed (take 65540 image) ≡ printed image
unfolding printed
printed_first image = rw (first_bytes image (replicate 65536 0))
