use Rattle.std.proofs.Common.{ℕ, List, sym, subst}
use Rattle.kr_args.specs.declared.forms.Command.TheVariants as commands
use Rattle.kr_args.specs.declared.forms.Search.{Search}
use Rattle.kr_mean.specs.declared.mode.Mode.TheVariants.{List as Listing}
use Rattle.korat_top_files.specs.Refusals.{files_of}
use Rattle.korat_top_files.specs.Found.{FindsIn}
use Rattle.korat_top.specs.Found.{Finds}
use Rattle.korat_top.proofs.Answered.{emit_found, shard_found, list_found, test_found, demo_found}
use Rattle.korat_top.proofs.find.find.Goals as goal

pub returns-in-List-clause-found : goal.returns-in-List-clause-found
returns-in-List-clause-found g c =
    let held = g.F.Files.held in
    let faults = g.F.Files.faults in
    let last = g.F.Files.last in
    let ask = c.in-List.ask in
    let found = subst (λ (fin : List ℕ). FindsIn held faults last Listing (files_of fin ask.sources) c.args.files.now c.find_files.new.files c.find_files.result) c.as_str.ensures c.find_files.ensures.found in
    subst (λ (o : Search). Finds held faults last (commands.Search o) c.args.files.now c.find_files.new.files c.find_files.result) (sym c.in-List.is)
    (list_found held faults last ask c.args.files.now c.find_files.new.files c.find_files.result found)

pub returns-in-Shard-clause-found : goal.returns-in-Shard-clause-found
returns-in-Shard-clause-found g c =
    let held = g.F.Files.held in
    let faults = g.F.Files.faults in
    let last = g.F.Files.last in
    let ask = c.in-Shard.ask in
    let found = subst (λ (fin : List ℕ). FindsIn held faults last Listing (files_of fin ask.sources) c.args.files.now c.find_files-in-Shard.new.files c.find_files-in-Shard.result) c.as_str-in-Shard.ensures c.find_files-in-Shard.ensures.found in
    subst (λ (o : Search). Finds held faults last (commands.Search o) c.args.files.now c.find_files-in-Shard.new.files c.find_files-in-Shard.result) (sym c.in-Shard.is)
    (shard_found held faults last ask c.args.files.now c.find_files-in-Shard.new.files c.find_files-in-Shard.result found)

pub returns-in-Test-clause-found : goal.returns-in-Test-clause-found
returns-in-Test-clause-found g c =
    let held = g.F.Files.held in
    let faults = g.F.Files.faults in
    let last = g.F.Files.last in
    subst (λ (o : Search). Finds held faults last (commands.Search o) c.args.files.now c.find_test.new.files c.find_test.result) (sym c.in-Test.is)
    (test_found held faults last c.in-Test.method c.in-Test.ask c.args.files.now c.find_test.new.files c.find_test.result c.find_test.ensures.found)

pub returns-in-Demo-clause-found : goal.returns-in-Demo-clause-found
returns-in-Demo-clause-found g c =
    let held = g.F.Files.held in
    let faults = g.F.Files.faults in
    let last = g.F.Files.last in
    subst (λ (o : Search). Finds held faults last (commands.Search o) c.args.files.now c.args.files.now c.find_demo.result) (sym c.in-Demo.is)
    (demo_found held faults last c.in-Demo.n c.in-Demo.workers c.args.files.now c.args.files.now c.find_demo.result c.find_demo.ensures.judged)

pub returns-in-Emit-clause-found : goal.returns-in-Emit-clause-found
returns-in-Emit-clause-found g c =
    let held = g.F.Files.held in
    let faults = g.F.Files.faults in
    let last = g.F.Files.last in
    subst (λ (o : Search). Finds held faults last (commands.Search o) c.args.files.now c.find_built.new.files c.find_built.result) (sym c.in-Emit.is)
    (emit_found held faults last c.in-Emit.ask c.args.files.now c.find_built.new.files c.find_built.result c.find_built.ensures.found)
