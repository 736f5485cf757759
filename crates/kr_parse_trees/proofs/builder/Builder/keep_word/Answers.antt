use Rattle.kr_parse_trees.proofs.Growing.{word_built}
use Rattle.kr_parse_trees.proofs.builder.Builder.keep_word.Goals as goal

pub returns-clause-built : goal.returns-clause-built
returns-clause-built c =
    let e = c.in_ok-name.ensures in
    let r = word_built c.args.self.now.forest c.add_name.new.self c.args.self.now.values c.args.place c.in_ok-name.name c.args.text.now c.requires e.text e.entries e.trees e.within e.shown in
    rw c.in_ok-push.ensures.pushed r.0

pub returns-clause-shown : goal.returns-clause-shown
returns-clause-shown c =
    let e = c.in_ok-name.ensures in
    let r = word_built c.args.self.now.forest c.add_name.new.self c.args.self.now.values c.args.place c.in_ok-name.name c.args.text.now c.requires e.text e.entries e.trees e.within e.shown in
    rw c.in_ok-push.ensures.pushed r.1
