use Rattle.std.proofs.Common.{◌+◌, true}
use Rattle.std.proofs.lemmas.Result.{IfOk-weaker, IfErr-weaker}
use Rattle.kr_lex.specs.declared.progress.Progress.{Progress}
use Rattle.kr_lex.specs.declared.refusal.LexRule.TheVariants as rules
use Rattle.kr_lex.specs.Broken.{IsCause}
use Rattle.kr_lex.specs.Reading.{IsReading, IsPassed, IsPast}
use Rattle.kr_lex.proofs.Steps.{broken_there, after_head, past_head}
use Rattle.kr_lex.proofs.lexer.read_contract.Goals as goal

pub returns-in_ok-push_head-in-Some-clause-read : goal.returns-in_ok-push_head-in-Some-clause-read
returns-in_ok-push_head-in-Some-clause-read c =
    let behind : Progress = record { cursor = c.args.progress.cursor; inside = true; clear = c.in-Some.line.clear } in
    IfOk-weaker c.pass.result (IsPassed c.args.bytes.now c.args.valid behind c.in-Some.line.head.end) (IsReading c.args.file c.args.bytes.now c.args.valid c.push_head.new.items.items)
    (λ next p. after_head c.args.file c.args.bytes.now c.args.valid c.args.items.now.items c.push_head.new.items.items c.args.progress c.in-Some.line.head c.requires.reading
    c.in-Some.ensures.found c.in_ok-push_head-in-Some.ensures.pushed c.in-Some.line.clear next c.in-Some.ensures.clear p) c.pass.ensures.passed

pub returns-in_ok-push_head-in-Some-clause-refused : goal.returns-in_ok-push_head-in-Some-clause-refused
returns-in_ok-push_head-in-Some-clause-refused c =
    IfErr-weaker c.pass.result (IsPast c.args.file c.args.bytes.now c.args.valid (c.args.progress.cursor.at + c.in-Some.line.head.end)) (IsCause c.args.file c.args.bytes.now)
    (λ refusal p. past_head c.args.file c.args.bytes.now c.args.valid c.args.items.now.items c.push_head.new.items.items c.args.progress c.in-Some.line.head refusal c.requires.valid
    c.requires.reading c.in-Some.ensures.found c.in_ok-push_head-in-Some.ensures.pushed p) c.pass.ensures.past

pub returns-in-None-clause-refused : goal.returns-in-None-clause-refused
returns-in-None-clause-refused c =
    broken_there c.args.file c.args.bytes.now c.args.valid c.args.items.now.items c.args.progress rules.ContractLine c.place.result c.requires.valid c.requires.reading c.requires.more
    (record { begins = c.requires.contract; bad = c.in-None.ensures.none }) c.place.ensures
