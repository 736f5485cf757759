use Rattle.std.proofs.Common.{ℕ, List, ap, ◌∙◌, subst}
use Rattle.kr_base.specs.declared.span.Bound.{Bound}
use Rattle.kr_mean.specs.Entries.{all_entries}
use Rattle.kr_space_problem.specs.Posed.{posed}
use Rattle.kr_scan.specs.Stops.{Gathers, reach_at}
use Rattle.kr_scan.proofs.batch.collect.Goals as goal

pub returns-clause-part : goal.returns-clause-part
returns-clause-part g c =
    let is = subst (λ (b : Bound). Gathers (all_entries (posed c.args.maker.now.problem)) c.args.span.now.cut b c.args.most c.in_ok-stop.stop c.gather.new.span.cut c.gather.new.rows.items c.gather.new.tried) c.requires.upto c.in_ok-stop.ensures.gathered in
    record {
      reach = c.in_ok-reach.ensures ∙ (ap (λ (k : List ℕ). reach_at c.in_ok-stop.stop k c.args.upto.now) c.cut.ensures ∙ is.reach);
      rows = c.new.ensures ∙ is.rows;
      tried = c.from.ensures ∙ is.tried;
      spent = c.is_at_spent.ensures ∙ is.spent;
    }
