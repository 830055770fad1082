-- Every place that a request on lent bytes answers is within the first 16,384 words of the image or at their end, so it fits a word.
-- Assumes nothing.
use Rattle.std.specs.Prelude.{refl, List, ℕ, ◌≤◌, ◌<◌, length}
use Rattle.std.proofs.Common.{arith, length-take}
use Rattle.definitions.specs.Bytes.{words_of}
use Rattle.definitions.specs.Checking.{admitted}
use Rattle.definitions.specs.Host.{whole_words, load_bytes, clear_bytes, poke_bytes, peek_bytes, call_bytes, preview_bytes, bound_bytes, check_bytes}
use Rattle.definitions.specs.Host.{compile_bytes, describe_bytes}
use Rattle.laws.specs.Previews.{previewed_answer}
use Rattle.requests.specs.LongImages.{front, whole_and_short, same_admitted}
use Rattle.results.specs.Named.{answer_place, checked_place, compiled_place}
use Rattle.results.specs.Images.{Admits, admits_image, checked_within, compiled_within, described_within}
use Rattle.results.proofs.Requests.{load_within, clear_within, poke_within, peek_within, bound_within, calls_image, calls_within}

module _ (image : List ℕ) where
  short : length (front image) ≤ 16384
  short = simp length-take (omega arith)

  admits_front : Admits (length (front image)) (admitted (whole_words image) (words_of image))
  admits_front = rw (same_admitted image (front image) (whole_and_short image) refl refl) at (admits_image (whole_and_short image) (front image))

  fits : {p : ℕ} → p ≤ length (front image) → p < 4294967296
  fits h = let s = short in omega arith

  pub check_place : checked_place (check_bytes image) < 4294967296
  unfolding check_bytes
  check_place = fits (checked_within (whole_words image) (words_of image) admits_front)

  pub compile_place : (out : List ℕ) → compiled_place (compile_bytes image out).0 < 4294967296
  unfolding compile_bytes
  compile_place out = fits (compiled_within (whole_words image) (words_of image) (words_of out) admits_front)

  pub describe_place : (out : List ℕ) → compiled_place (describe_bytes image out).0 < 4294967296
  unfolding describe_bytes
  describe_place out = fits (described_within (whole_words image) (words_of image) (words_of out) admits_front)

  module _ (cells : List ℕ) where
    pub load_place : answer_place (load_bytes image cells).0 < 4294967296
    unfolding load_bytes
    load_place = fits (load_within (whole_words image) (words_of image) admits_front (words_of cells))

    pub clear_place : answer_place (clear_bytes image cells).0 < 4294967296
    unfolding clear_bytes
    clear_place = fits (clear_within (whole_words image) (words_of image) admits_front (words_of cells))

    pub poke_place : (a i v : ℕ) → answer_place (poke_bytes image cells a i v).0 < 4294967296
    unfolding poke_bytes
    poke_place a i v = fits (poke_within (whole_words image) (words_of image) admits_front (words_of cells) a i v)

    pub peek_place : (a i : ℕ) → answer_place (peek_bytes image cells a i).0 < 4294967296
    unfolding peek_bytes
    peek_place a i = fits (peek_within (whole_words image) (words_of image) admits_front (words_of cells) a i)

    pub bound_place : (f : ℕ) → answer_place (bound_bytes image cells f).0 < 4294967296
    unfolding bound_bytes
    bound_place f = fits (bound_within (whole_words image) (words_of image) admits_front (words_of cells) f)

    pub call_place : (f : ℕ) (arguments : List ℕ) (budget : ℕ) (trace : List ℕ) → answer_place (call_bytes image cells f arguments budget trace).0 < 4294967296
    unfolding call_bytes
    call_place f arguments budget trace =
        fits (calls_within (calls_image (whole_words image) (words_of image) admits_front (words_of cells) f (words_of arguments) budget (length (words_of trace))))

    pub preview_place : (f : ℕ) (arguments : List ℕ) (budget : ℕ) (trace : List ℕ)
        → answer_place (preview_bytes image cells f arguments budget trace).0 < 4294967296
    preview_place f arguments budget trace = rw (previewed_answer image cells f arguments budget trace) (call_place f arguments budget trace)
