-- What holds of a part that was read up to a given place: laws for each step of the reader.
-- Assumes nothing.
use Rattle.std.specs.Prelude.{ℕ, ◌<◌, Bool, true, List, ◌≡◌, refl, length, get_or}
use Rattle.std.proofs.lemmas.Bool.{lt-leb}
use Rattle.definitions.specs.Reading.{Parse, got, and_then, on_word}

-- the part was read up to the given place, and has the property
pub data Reads {A : Type 0} (P : A → Type 0) (next : ℕ) : Parse A → Type 0 where
  reads : {a : A} {n : ℕ} → n ≡ next → P a → Reads P next (got a n)

pub reads_then :
    {A B : Type 0} {P : A → Type 0} {Q : B → Type 0} {m n : ℕ} {x : Parse A} {f : A → ℕ → Parse B} → Reads P m x → ((a : A) (k : ℕ) → k ≡ m → P a → Reads Q n (f a k))
    → Reads Q n (and_then x f)
reads_then (reads {a} {n} e h) k = k a n e h

pub reads_map : {A : Type 0} {P Q : A → Type 0} {n : ℕ} {x : Parse A} → Reads P n x → ((a : A) → P a → Q a) → Reads Q n x
reads_map (reads {a = a} e h) f = reads e (f a h)

pub reads_word :
    {A : Type 0} {P : A → Type 0} {n : ℕ} (image : List ℕ) (at w : ℕ) (good : ℕ → Bool) {f : ℕ → Parse A} → at < length image → get_or image at 0 ≡ w → good w ≡ true
    → ((v : ℕ) → v ≡ w → Reads P n (f v)) → Reads P n (on_word image at good f)
reads_word image at w good h e g r = rw (lt-leb (length image) at h, e, g) (r w refl)
