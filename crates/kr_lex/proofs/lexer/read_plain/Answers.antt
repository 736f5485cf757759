use Rattle.std.proofs.Common.{◌+◌, [], ◌∷◌, ◌++◌}
use Rattle.std.proofs.lemmas.List.{take_rest}
use Rattle.std.proofs.lemmas.Result.{IfOk-weaker, IfErr-weaker}
use Rattle.kr_lex.specs.Broken.{IsCause}
use Rattle.kr_lex.specs.Reading.{IsReading, IsPassed, IsPast, IsEntryAt}
use Rattle.kr_lex.proofs.Steps.{behind_is, character_there, broken_there, after_gap, after_token, past_gap, past_token}
use Rattle.kr_lex.proofs.lexer.read_plain.Goals as goal

pub first_piece-requires-clause-character : goal.first_piece-requires-clause-character
first_piece-requires-clause-character c =
    rw (take_rest c.args.bytes.now c.args.progress.cursor.at)
    (character_there c.args.file c.args.bytes.now c.args.valid c.args.items.now.items c.args.progress c.requires.valid c.requires.reading c.requires.more)

pub first_piece-requires-clause-no_contract : goal.first_piece-requires-clause-no_contract
first_piece-requires-clause-no_contract c = rw (take_rest c.args.bytes.now c.args.progress.cursor.at) c.requires.no_contract

pub returns-in-Broken-clause-refused : goal.returns-in-Broken-clause-refused
returns-in-Broken-clause-refused c =
    broken_there c.args.file c.args.bytes.now c.args.valid c.args.items.now.items c.args.progress c.in-Broken.rule c.place.result c.requires.valid c.requires.reading c.requires.more
    (rw (take_rest c.args.bytes.now c.args.progress.cursor.at) at c.in-Broken.ensures) c.place.ensures

pub returns-in-Gap-clause-read : goal.returns-in-Gap-clause-read
returns-in-Gap-clause-read c =
    let h = rw (take_rest c.args.bytes.now c.args.progress.cursor.at) at c.in-Gap.ensures in
    let b = behind_is c.args.bytes.now c.args.progress c.behind_gap-behind.result c.behind_gap-behind.ensures.cursor c.behind_gap-behind.ensures.inside c.behind_gap-behind.ensures.clear in
    IfOk-weaker c.pass.result (IsPassed c.args.bytes.now c.args.valid c.behind_gap-behind.result c.in-Gap.len) (IsReading c.args.file c.args.bytes.now c.args.valid c.args.items.now.items)
    (λ next p. after_gap c.args.file c.args.bytes.now c.args.valid c.args.items.now.items c.args.progress c.behind_gap-behind.result c.in-Gap.len next c.requires.reading b h.2 p) c.pass.ensures.passed

pub returns-in-Gap-clause-refused : goal.returns-in-Gap-clause-refused
returns-in-Gap-clause-refused c =
    let h = rw (take_rest c.args.bytes.now c.args.progress.cursor.at) at c.in-Gap.ensures in
    let b = behind_is c.args.bytes.now c.args.progress c.behind_gap-behind.result c.behind_gap-behind.ensures.cursor c.behind_gap-behind.ensures.inside c.behind_gap-behind.ensures.clear in
    IfErr-weaker c.pass.result (IsPast c.args.file c.args.bytes.now c.args.valid (c.behind_gap-behind.result.cursor.at + c.in-Gap.len)) (IsCause c.args.file c.args.bytes.now)
    (λ refusal p. past_gap c.args.file c.args.bytes.now c.args.valid c.args.items.now.items c.args.progress c.behind_gap-behind.result c.in-Gap.len refusal c.requires.valid c.requires.reading b h.1 h.2 p) c.pass.ensures.past

pub returns-in_ok-add-in-Token-clause-read : goal.returns-in_ok-add-in-Token-clause-read
returns-in_ok-add-in-Token-clause-read c =
    let h = rw (take_rest c.args.bytes.now c.args.progress.cursor.at) at c.in-Token.ensures in
    let entry : IsEntryAt c.args.progress.cursor c.in-Token.kind c.in-Token.len c.new.result = record { kind_is = c.new.ensures.kind; line_is = c.new.ensures.line; col_is = c.new.ensures.col; start_is = c.new.ensures.start; end_is = c.new.ensures.end } in
    rw c.in_ok-add-in-Token.ensures
    (IfOk-weaker c.pass-in-Token.result (IsPassed c.args.bytes.now c.args.valid c.args.progress c.in-Token.len)
    (IsReading c.args.file c.args.bytes.now c.args.valid (c.args.items.now.items ++ c.new.result ∷ []))
    (λ next p. after_token c.args.file c.args.bytes.now c.args.valid c.args.items.now.items c.args.progress c.in-Token.kind c.in-Token.len next c.new.result c.requires.reading h.1 h.2 entry p)
    c.pass-in-Token.ensures.passed)

pub returns-in_ok-add-in-Token-clause-refused : goal.returns-in_ok-add-in-Token-clause-refused
returns-in_ok-add-in-Token-clause-refused c =
    let h = rw (take_rest c.args.bytes.now c.args.progress.cursor.at) at c.in-Token.ensures in
    IfErr-weaker c.pass-in-Token.result (IsPast c.args.file c.args.bytes.now c.args.valid (c.args.progress.cursor.at + c.in-Token.len)) (IsCause c.args.file c.args.bytes.now)
    (λ refusal p. past_token c.args.file c.args.bytes.now c.args.valid c.args.items.now.items c.args.progress c.in-Token.kind c.in-Token.len refusal c.requires.valid c.requires.reading h.1 h.2 p)
    c.pass-in-Token.ensures.past
