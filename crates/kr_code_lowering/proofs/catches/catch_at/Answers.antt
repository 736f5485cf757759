use Rattle.kr_code_lowering.proofs.Caught.{catches_so}
use Rattle.kr_code_lowering.proofs.catches.catch_at.Goals as goal

pub returns : goal.returns
returns c =
    rw c.code_number.ensures (catches_so c.args.program.now c.requires.program c.args.site c.args.entry c.requires.here c.args.declared c.args.body c.requires.node c.caught_type.result c.caught_type.ensures)
