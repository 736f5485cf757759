use Rattle.std.proofs.Common.{List, subst, ℕ}
use Rattle.std.specs.Prelude.{Err, Ok}
use Rattle.kr_mean.specs.declared.mode.Mode.TheVariants.{List as Listing}
use Rattle.korat_top_files.specs.Found.{FindsIn}
use Rattle.korat_top_files.specs.Refusals.{files_of}
use Rattle.korat_top_files.proofs.Building.{found, stopped_before, unbuilt}
use Rattle.korat_top_files.proofs.built.find_built.Goals as goal

pub returns-in-Ok-buildable-clause-found : goal.returns-in-Ok-buildable-clause-found
returns-in-Ok-buildable-clause-found g c =
    let held = g.F.Files.held in
    let faults = g.F.Files.faults in
    let last = g.F.Files.last in
    let ask = c.args.ask.now in
    let f = c.in-Ok.found in
    let named = subst (λ (fin : List ℕ). FindsIn held faults last Listing (files_of fin ask.sources) c.args.files.now c.find_files.new.files (Ok f)) c.as_str.ensures c.in-Ok.ensures.found in
    found held faults last (files_of ask.fin ask.sources) c.args.files.now c.find_files.new.files f named c.in-Ok-buildable.ensures.built

pub returns-in-Err-buildable-clause-found : goal.returns-in-Err-buildable-clause-found
returns-in-Err-buildable-clause-found g c =
    let held = g.F.Files.held in
    let faults = g.F.Files.faults in
    let last = g.F.Files.last in
    let ask = c.args.ask.now in
    let f = c.in-Ok.found in
    let named = subst (λ (fin : List ℕ). FindsIn held faults last Listing (files_of fin ask.sources) c.args.files.now c.find_files.new.files (Ok f)) c.as_str.ensures c.in-Ok.ensures.found in
    unbuilt held faults last (files_of ask.fin ask.sources) c.args.files.now c.find_files.new.files f c.in-Err-buildable.refusal c.stop_of.result named c.in-Err-buildable.ensures.refused c.stop_of.ensures

pub returns-in-Err-clause-found : goal.returns-in-Err-clause-found
returns-in-Err-clause-found g c =
    let held = g.F.Files.held in
    let faults = g.F.Files.faults in
    let last = g.F.Files.last in
    let ask = c.args.ask.now in
    let stop = c.in-Err.stop in
    let named = subst (λ (fin : List ℕ). FindsIn held faults last Listing (files_of fin ask.sources) c.args.files.now c.find_files.new.files (Err stop)) c.as_str.ensures c.in-Err.ensures.found in
    stopped_before held faults last (files_of ask.fin ask.sources) c.args.files.now c.find_files.new.files stop named
