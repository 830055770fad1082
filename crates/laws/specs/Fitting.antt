-- An image that fits form 1: the locals of its procedures do, and its words do. Assumes nothing.
use Rattle.std.specs.Prelude.{◌≡◌, true, ◌≤◌, leb, length}
use Rattle.std.proofs.Common.{leb-true}
use Rattle.definitions.specs.Image.{Image}
use Rattle.definitions.specs.Encoding.{image_words}
use Rattle.definitions.specs.Compiling.{fit_locals, fits}
use Rattle.laws.specs.Tests.{and_left, and_right}

module _ (image : Image) (h : fits image ≡ true) where
  pub locals_fit : fit_locals image.procedures ≡ true
  locals_fit = and_left (fit_locals image.procedures) (leb (length (image_words image)) 16384) h

  pub words_fit : length (image_words image) ≤ 16384
  words_fit = leb-true (length (image_words image)) 16384 (and_right (fit_locals image.procedures) (leb (length (image_words image)) 16384) h)
