use Rattle.kr_space_rules.proofs.Numbering.{covered_more}
use Rattle.kr_space_rules.proofs.spans.add_stretch.Goals as goal

pub returns-in_ok-push-clause-covered : goal.returns-in_ok-push-clause-covered
returns-in_ok-push-clause-covered c =
    covered_more c.args.spans.now.items c.push.new.self.items (record { start = c.start_of-start.result; count = c.count-count.result }) c.args.stretch c.start_of-start.ensures.told c.start_of-start.ensures.is c.count-count.ensures.is c.in_ok-push.ensures.items
