use Rattle.std.proofs.Common.{◌≡◌, take}
use Rattle.kr_shard.specs.Found.{AreShards}
use Rattle.kr_io.specs.Held.{IsLater}
use Rattle.kr_shard.proofs.files.read_files.Given as goal

abbrev pub invariant-loop-number : goal.invariant-loop-number
invariant-loop-number g l = AreShards (g.F.Files.held l.fn.files) (take l.number l.names) l.shards.items
    × IsLater g.F.Files.held g.F.Files.faults l.fn.files l.files × (g.F.Files.faults l.files ≡ g.F.Files.faults l.fn.files)
