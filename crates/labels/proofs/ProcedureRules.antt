-- Rules for the procedures of an image. Assumes nothing.
use Prim.Native.Nat.{ℕ}
use mathlib.Core.Bool.{Bool, false}
use mathlib.Core.List.{List, flat_map}
use mathlib.Core.Path.{◌≡◌, refl}
use lib.ListN.{drop, replicate}
use Rattle.definitions.specs.declared.Fault.{Fault}
use Rattle.definitions.specs.declared.ConstantLoop.{ConstantLoop}
use Rattle.definitions.specs.Image.{largest_level, guarded}
use Rattle.definitions.specs.Reading.{got, read_block}
use Rattle.definitions.specs.Faults.{no_fault, least}
use Rattle.definitions.specs.Labels.{unbounded, procedure_label_faults, procedures_label_faults, image_label_faults}
use Rattle.laws.specs.ImageIn.{image_in, procedures_in}
use Rattle.image_words.specs.Read.{BlockRead}
use Rattle.image_words.specs.StatementParts.{block_got}
use Rattle.tables.specs.Table.{body_in, arrays_in, params_in}
use Rattle.tables.specs.Looking.{Listed, procedure_in, known_arrays, known_reads}
use Rattle.labels.specs.Blocks.{walked_block}
use Rattle.labels.specs.declared.Walked.{Walked}

module _ (image table : List ℕ) (me : ℕ) (k : Listed image table me) (b : ℕ) (hb : b ≡ body_in table me) (form level : ℕ)
    (hf : form ≡ (image_in image).form) (hl : level ≡ largest_level form) where
  body_reads : (m : ℕ) × (read_block level (params_in table) me image b ≡ got (procedure_in image me).body m)
  body_reads = let (m, r) = known_reads image table k.known me k.number in (m, rw (hl, hf, hb) r)

  pub body_fine : BlockRead level (params_in table) me image b
  body_fine = let (m, r) = body_reads in block_got level (params_in table) me image b (procedure_in image me).body m r

  pub procedure_labelled : (types : List ℕ) (bounds : List ConstantLoop) (result : ℕ) (pc : Bool) (best : Fault) (s : Walked)
      → types ≡ (procedure_in image me).types → bounds ≡ replicate 256 unbounded → result ≡ (procedure_in image me).result → pc ≡ guarded (procedure_in image me)
      → s ≡ walked_block (procedures_in image) (arrays_in table) types bounds form result pc false best (read_block level (params_in table) me image b)
      → s.cursor.best ≡ least best (procedure_label_faults (image_in image) (procedure_in image me))
  unfolding walked_block procedure_label_faults
  procedure_labelled types bounds result pc best s ht hs hr hg q = let (m, e) = body_reads in go m e
    where
      go : (m : ℕ) → read_block level (params_in table) me image b ≡ got (procedure_in image me).body m
          → s.cursor.best ≡ least best (procedure_label_faults (image_in image) (procedure_in image me))
      go m e = rw (q, e, ht, hs, known_arrays image table k.known, hf, hr, hg)

-- all procedures are left
pub image_begins : (image : List ℕ)
    → least no_fault (flat_map (λ p. procedure_label_faults (image_in image) p) (drop 0 (procedures_in image))) ≡ least no_fault (image_label_faults (image_in image))
unfolding image_label_faults procedures_label_faults
image_begins image = refl
