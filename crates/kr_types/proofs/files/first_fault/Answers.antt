use Rattle.std.proofs.Common.{refl, length, arith}
use Rattle.std.proofs.lemmas.Option.{slice_get_read}
use Rattle.kr_types.proofs.Faults.{faults_more}
use Rattle.kr_types.proofs.files.first_fault.Goals as goal

pub fault_of-fault-requires-clause-typed : goal.fault_of-fault-requires-clause-typed
fault_of-fault-requires-clause-typed c =
    let files = c.args.files.now in
    c.requires.typed.each c.loop-file.file _ (slice_get_read files (length files) c.loop-file.file c.index-files-file.result refl (omega (arith, c.requires.typed.count, c.loop-file-test.true)) c.index-files-file.is)

pub loop-file-preserved : goal.loop-file-preserved
loop-file-preserved c = faults_more c.args.trees.now c.loop-file.file _ _ _ c.loop-file-test.true c.loop-file.invariant c.fault_of-fault.ensures c.earlier-first.ensures
