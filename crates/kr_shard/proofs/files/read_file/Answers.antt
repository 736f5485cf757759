use Rattle.kr_shard.proofs.Told.{has_read, judged_stays}
use Rattle.kr_shard.proofs.files.read_file.Goals as goal

pub returns-in-Ok-clause-read : goal.returns-in-Ok-clause-read
returns-in-Ok-clause-read g c =
    has_read g.F.Files.held g.F.Files.faults g.F.Files.last c.args.file c.args.name.now c.args.files.now c.read.new.self c.in-Ok.bytes.items c.judge.result c.in-Ok.ensures.bytes (rw c.deref.ensures.value at c.judge.ensures)

pub returns-in-Ok-clause-count : goal.returns-in-Ok-clause-count
returns-in-Ok-clause-count g c =
    judged_stays (g.F.Files.faults c.args.files.now) (g.F.Files.faults c.read.new.self) c.args.file c.in-Ok.bytes.items c.judge.result (rw c.deref.ensures.value at c.judge.ensures) c.in-Ok.ensures.ok_faults
