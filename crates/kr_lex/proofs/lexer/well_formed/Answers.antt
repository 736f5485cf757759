use Rattle.std.proofs.Common.{drop, arith}
use Rattle.std.proofs.lemmas.List.{take_rest}
use Rattle.std.proofs.lemmas.Bool.{both_ways}
use Rattle.kr_lex.specs.ContractLines.{has_block}
use Rattle.kr_lex.proofs.lexer.well_formed.Goals as goal

pub contract_head-requires-clause-begins : goal.contract_head-requires-clause-begins
contract_head-requires-clause-begins c = rw (take_rest c.args.bytes.now c.args.progress.cursor.at) c.requires.contract

pub contract_head-requires-clause-clear : goal.contract_head-requires-clause-clear
contract_head-requires-clause-clear c =
    rw (take_rest c.args.bytes.now c.args.progress.cursor.at) (c.in-Some.ensures.clear c.args.progress.cursor.at (omega arith) c.in-Some.ensures.onward)

pub returns-in-None-clause-none : goal.returns-in-None-clause-none
returns-in-None-clause-none c kind blank rest k = both_ways (has_block (drop c.args.progress.cursor.at c.args.bytes.now)) k.no_block c.in-None.ensures.none
