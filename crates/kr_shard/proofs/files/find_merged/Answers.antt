use Rattle.std.specs.Prelude.{Vec}
use Rattle.std.specs.declared.alloc.Global.{Global}
use Rattle.kr_shard.specs.declared.shard.Shard.{Shard}
use Rattle.kr_shard.specs.declared.merging.Merged.{Merged}
use Rattle.kr_shard.proofs.Joined.{found_by, joined_stays, stop_found, stop_stays}
use Rattle.kr_shard.proofs.files.find_merged.Goals as goal

pub returns-in-Ok-clause-found : goal.returns-in-Ok-clause-found
returns-in-Ok-clause-found g c =
    found_by g.F.Files.held g.F.Files.faults g.F.Files.last c.args.names.now c.args.files.now c.read_files.new.files c.in-Ok.shards.items c.join.result c.in-Ok.ensures.read c.join.ensures

pub returns-in-Ok-clause-count : goal.returns-in-Ok-clause-count
returns-in-Ok-clause-count g c =
    joined_stays (g.F.Files.faults c.args.files.now) (g.F.Files.faults c.read_files.new.files) c.in-Ok.shards.items c.join.result c.join.ensures c.in-Ok.ensures.count

pub returns-in-Err-clause-found : goal.returns-in-Err-clause-found
returns-in-Err-clause-found g c =
    stop_found g.F.Files.held g.F.Files.faults g.F.Files.last c.args.names.now c.args.files.now c.read_files.new.files c.in-Err.stop c.in-Err.ensures.read

pub returns-in-Err-clause-count : goal.returns-in-Err-clause-count
returns-in-Err-clause-count g c = stop_stays (Vec Shard Global) Merged (g.F.Files.faults c.args.files.now) (g.F.Files.faults c.read_files.new.files) c.in-Err.stop c.in-Err.ensures.count
