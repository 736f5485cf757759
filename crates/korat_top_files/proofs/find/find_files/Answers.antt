use Rattle.std.proofs.Common.{arith}
use Rattle.korat_top_files.specs.Refusals.{files_of}
use Rattle.korat_top_files.proofs.Told.{as_many, all_short, sources_stopped, judged_found}
use Rattle.korat_top_files.proofs.find.find_files.Goals as goal

pub judge_from_parsing-requires-clause-few : goal.judge_from_parsing-requires-clause-few
judge_from_parsing-requires-clause-few g c = omega (arith, c.requires.few, as_many (g.F.Files.held c.read.new.files) 0 c.args.sources.now c.in-Ok.texts c.in-Ok.ensures.read)

pub judge_from_parsing-requires-clause-short : goal.judge_from_parsing-requires-clause-short
judge_from_parsing-requires-clause-short g c = all_short (g.F.Files.held c.read.new.files) 0 c.args.sources.now c.in-Ok.texts c.in-Ok.ensures.read

pub returns-in-Err-clause-found : goal.returns-in-Err-clause-found
returns-in-Err-clause-found g c =
    let inputs = files_of c.args.fin.now c.args.sources.now in
    sources_stopped g.F.Files.held g.F.Files.faults g.F.Files.last c.args.mode inputs c.args.files.now c.read.new.files c.read_sources.new.files c.in_ok-bytes.bytes.items c.in-Err.stop
    c.in_ok-bytes.ensures.read c.in_ok-bytes.ensures.later.constant c.in_ok-bytes.ensures.count c.in-Err.ensures.read

pub returns-in-Ok-clause-found : goal.returns-in-Ok-clause-found
returns-in-Ok-clause-found g c =
    let inputs = files_of c.args.fin.now c.args.sources.now in
    judged_found g.F.Files.held g.F.Files.faults g.F.Files.last c.args.mode inputs c.args.files.now c.read.new.files c.read_sources.new.files c.in_ok-bytes.bytes.items c.in-Ok.texts c.judge_from_parsing.result
    c.in_ok-bytes.ensures.read c.in_ok-bytes.ensures.later.constant c.in-Ok.ensures.read (rw c.deref.ensures.value at c.judge_from_parsing.ensures.judged)
