use Rattle.std.proofs.Common.{◌∙◌, ◌+◌, ◌<◌, [], length, take, sym, subst, arith}
use Rattle.std.specs.Prelude.{ℕ, List, Ok, Err, slice_index_or}
use Rattle.korat_top_files.specs.declared.refusal.InputFile.TheVariants as input
use Rattle.korat_top_files.specs.Chains.{each}
use Rattle.korat_top_files.specs.Found.{telling_source, HasRead}
use Rattle.korat_top_files.proofs.Outcomes.{each_next}
use Rattle.korat_top_files.proofs.Told.{stopped_at, told_before}
use Rattle.korat_top_files.proofs.find.read_sources.Goals as goal

pub returns-in-Err-clause-read : goal.returns-in-Err-clause-read
returns-in-Err-clause-read g c =
    let P : List ℕ → Type 0 = λ name. HasRead g.F.Files.held g.F.Files.faults g.F.Files.last (input.Source c.loop-number.number) name c.loop-number.files c.read.new.files (Err c.in-Err.stop) in
    let read = subst P c.get.ensures c.in-Err.ensures.read in
    let within : c.loop-number.number < length c.args.sources.now = omega (arith, c.loop-number-test.true, c.len-number-end.ensures) in
    stopped_at g.F.Files.held g.F.Files.faults g.F.Files.last c.args.sources.now c.loop-number.number c.args.files.now c.loop-number.files c.read.new.files c.loop-number.texts c.in-Err.stop
    within c.loop-number.invariant.0 c.loop-number.invariant.1.constant c.loop-number.invariant.2 read

pub loop-number-preserved : goal.loop-number-preserved
loop-number-preserved g c =
    let held = g.F.Files.held in
    let names = c.args.sources.now in
    let i = c.loop-number.number in
    let name = slice_index_or names i [] in
    let kept = c.loop-number.invariant in
    let within : i < length names = omega (arith, c.loop-number-test.true, c.len-number-end.ensures) in
    let read = told_before (held c.args.files.now) (held c.loop-number.files) (input.Source i) name (Ok c.in-Ok.bytes.items) (kept.1.constant name) (rw c.get.ensures at c.in-Ok.ensures.read) in
    let more = each_next (telling_source (held c.args.files.now)) names i [] c.loop-number.texts c.in-Ok.bytes.items within kept.0 read in (
      subst (λ made. each (telling_source (held c.args.files.now)) 0 (take (i + 1) names) (Ok made)) (sym c.in_ok-push-in-Ok.ensures.added) more,
      record { constant = λ other. c.in-Ok.ensures.later.constant other ∙ kept.1.constant other; count = omega (arith, c.in-Ok.ensures.later.count, kept.1.count) },
      c.in-Ok.ensures.count ∙ kept.2,
    )
