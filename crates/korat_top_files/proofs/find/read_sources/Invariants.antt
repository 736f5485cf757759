use Rattle.std.proofs.Common.{◌≡◌, take}
use Rattle.std.specs.Prelude.{Ok}
use Rattle.korat_top_files.specs.Chains.{each}
use Rattle.korat_top_files.specs.Found.{telling_source}
use Rattle.kr_io.specs.Held.{IsLater}
use Rattle.korat_top_files.proofs.find.read_sources.Given as goal

abbrev pub invariant-loop-number : goal.invariant-loop-number
invariant-loop-number g l = each (telling_source (g.F.Files.held l.fn.files)) 0 (take l.number l.sources) (Ok l.texts)
    × IsLater g.F.Files.held g.F.Files.faults l.fn.files l.files × (g.F.Files.faults l.files ≡ g.F.Files.faults l.fn.files)
