use Rattle.std.proofs.Common.{ℕ, List, subst}
use Rattle.kr_mean.specs.declared.mode.Mode.{Mode}
use Rattle.kr_mean.specs.declared.mode.Mode.TheVariants.{Method as Testing}
use Rattle.korat_top_files.specs.Refusals.{files_of}
use Rattle.korat_top_files.specs.Found.{FindsIn}
use Rattle.korat_top_files.proofs.find.find_test.Goals as goal

pub returns-clause-found : goal.returns-clause-found
returns-clause-found g c =
    let held = g.F.Files.held in
    let faults = g.F.Files.faults in
    let last = g.F.Files.last in
    let ask = c.args.ask.now in
    let named = subst (λ (fin : List ℕ). FindsIn held faults last c.in_ok-mode.mode (files_of fin ask.sources) c.args.files.now c.find_files.new.files c.find_files.result) c.as_str.ensures c.find_files.ensures.found in
    subst (λ (mode : Mode). FindsIn held faults last mode (files_of ask.fin ask.sources) c.args.files.now c.find_files.new.files c.find_files.result) c.in_ok-mode.ensures named
