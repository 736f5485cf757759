use Rattle.kr_trace.specs.Checked.{checked}
use Rattle.kr_trace.proofs.Taken.{found_stays, has_found}
use Rattle.kr_trace.proofs.files.find_checked.Goals as goal

pub returns-in-Ok-clause-found : goal.returns-in-Ok-clause-found
returns-in-Ok-clause-found g c =
    has_found g.F.Files.held g.F.Files.faults g.F.Files.last c.args.name.now c.args.span.now c.args.workers c.args.files.now c.read.new.self c.in-Ok.bytes.items c.check_bytes.result
    c.in-Ok.ensures.bytes (rw c.deref.ensures.value at c.check_bytes.ensures)

pub returns-in-Ok-clause-count : goal.returns-in-Ok-clause-count
returns-in-Ok-clause-count g c =
    found_stays (g.F.Files.faults c.args.files.now) (g.F.Files.faults c.read.new.self) (checked c.args.span.now c.args.workers c.in-Ok.bytes.items) c.check_bytes.result
    (rw c.deref.ensures.value at c.check_bytes.ensures) c.in-Ok.ensures.ok_faults
