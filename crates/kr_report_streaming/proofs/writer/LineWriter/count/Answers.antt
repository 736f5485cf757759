use Rattle.std.proofs.Common.{[], ◌∷◌, sym, ap, ◌∙◌}
use Rattle.kr_report_streaming.specs.Lines.{last_of}
use Rattle.kr_report_streaming.proofs.Lists.{last_both}
use Rattle.kr_report_streaming.proofs.writer.LineWriter.count.Goals as goal

pub returns-in-Some-clause-last : goal.returns-in-Some-clause-last
returns-in-Some-clause-last c = let key = c.args.self.now.last in sym (ap (last_of key) c.in-Some.ensures.items ∙ last_both key c.pop.new.self.items (c.in-Some.row ∷ []))
