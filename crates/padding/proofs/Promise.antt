-- What is promised of the routine, proved. Assumes nothing.
use Rattle.padding.specs.Promise.{PaddingCheck}
use Rattle.padding.proofs.Exactly.{unpadded_exactly, removes}
use Rattle.padding.proofs.CompiledWords.{compiles}
use Rattle.padding.proofs.Loaded.{loads}
use Rattle.padding.proofs.Run.{answers}
use Rattle.padding.proofs.SourceRun.{source_alike, source_shows}

pub padding_check : PaddingCheck
padding_check =
    record {
      rule = unpadded_exactly;
      removes = removes;
      compiles = compiles;
      loads = loads;
      answers = answers;
      source_alike = source_alike;
      source_shows = source_shows;
    }
