use Rattle.std.proofs.Common.{rules, subst, ap, ◌∙◌, ◌≡◌, ℕ, ◌<◌, ◌-◌, ◌^◌, arith}
use Rattle.std.specs.Prelude.{length}
use Rattle.kr_classes_table.specs.Predefined.{PREDEFINED}
use Rattle.kr_space_problem.specs.declared.problem.Problem.{Problem}
use Rattle.kr_space_problem.specs.Posed.{posed}
use Rattle.kr_report.specs.Endings.{EndsListing}
use Rattle.kr_report.specs.Reports.{line_answer}
use Rattle.kr_report.specs.Texts.{checked_text}
use Rattle.korat_top_reports.specs.Reports.{counts_of}
use Rattle.korat_top_reports.proofs.Ends.{line_listing}
use Rattle.korat_top_reports.proofs.Classes.{few_classes}
use Rattle.korat_top_reports.proofs.counting.count.Goals as goal

pub overflow_cast-classes : goal.overflow_cast-classes
overflow_cast-classes g c =
    let p = c.problem-problem.result.now in
    let program = c.problem-problem.ensures.accepted.posed.program in
    let all = c.len.ensures.all p.program.trees.items program.table.table.members in
    let few = few_classes p.program program in
    let fits : c.saturating_sub-classes.result < 2 ^ 32 = omega (arith, c.saturating_sub-classes.ensures, all, few) in
    search rules

pub returns : goal.returns
returns g c =
    let taken = g.K.Sink.taken in
    let faults = g.K.Sink.faults in
    let old = c.args.out.now in
    let new = c.summary_text.new.out in
    let p = c.problem-problem.result.now in
    let all = c.len.ensures.all p.program.trees.items c.problem-problem.ensures.accepted.posed.program.table.table.members in
    let classes : c.saturating_sub-classes.result ≡ length (posed p).program.table.classes - PREDEFINED = c.saturating_sub-classes.ensures ∙ ap (λ (n : ℕ). n - PREDEFINED) all in
    let status = c.once_written.result in
    let put = line_listing taken faults old new (checked_text c.saturating_sub-classes.result c.slots-slots.result) status c.summary_text.result c.summary_text.ensures c.once_written.ensures in
    let counted = subst (λ (n : ℕ). EndsListing taken faults (line_answer 0 (checked_text n c.slots-slots.result)) old new status) classes put in
    let both = subst (λ (n : ℕ). EndsListing taken faults (line_answer 0 (checked_text (length (posed p).program.table.classes - PREDEFINED) n)) old new status) c.slots-slots.ensures counted in
    subst (λ (q : Problem). EndsListing taken faults (counts_of (posed q)) old new status) c.problem-problem.ensures.same both
