use Rattle.korat_top_files.proofs.Carried.{counted, read, unread}
use Rattle.korat_top_files.proofs.upgrade.find_upgrade.Goals as goal

pub returns-in-Ok-clause-found : goal.returns-in-Ok-clause-found
returns-in-Ok-clause-found g c =
    read g.F.Files.held g.F.Files.faults g.F.Files.last c.args.fin.now c.args.files.now c.read.new.files c.in-Ok.bytes.items c.carry.result c.in-Ok.ensures.read
    (rw c.deref.ensures.value at c.carry.ensures.carried)

pub returns-in-Ok-clause-count : goal.returns-in-Ok-clause-count
returns-in-Ok-clause-count g c =
    counted c.in-Ok.bytes.items (g.F.Files.faults c.args.files.now) (g.F.Files.faults c.read.new.files) c.carry.result (rw c.deref.ensures.value at c.carry.ensures.carried) c.in-Ok.ensures.count

pub returns-in-Err-clause-found : goal.returns-in-Err-clause-found
returns-in-Err-clause-found g c = unread g.F.Files.held g.F.Files.faults g.F.Files.last c.args.fin.now c.args.files.now c.read.new.files c.in-Err.stop c.in-Err.ensures.read
