use Rattle.std.proofs.Common.{◌≡◌, rules}
use Rattle.std.specs.Prelude.{pos}
use Rattle.kr_space.proofs.LengthLists.{entry_range}
use Rattle.kr_space.proofs.lengths.entry_greatest.Goals as goal

pub returns-in-Range : goal.returns-in-Range
returns-in-Range c = λ setting.
    let from : pos c.length_of-in-Range.result ≡ c.in-Range.from = search rules in
    let to : pos c.length_of-in-Range-2.result ≡ c.in-Range.to = search rules in
    entry_range setting c.args.item.now c.in-Range.from c.in-Range.to c.length_of-in-Range.result c.length_of-in-Range-2.result c.range_greatest.result c.in-Range.is from to (c.range_greatest.ensures setting)
