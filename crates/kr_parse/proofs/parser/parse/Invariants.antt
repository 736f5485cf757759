use Rattle.std.proofs.Common.{◌+◌, ◌*◌, ◌-◌, length}
use Rattle.kr_parse_grammar.specs.State.{State, load}
use Rattle.kr_parse_trees.specs.Built.{values_of, IsBuilt}
use Rattle.kr_parse.specs.Steps.{IsStanding}
use Rattle.kr_parse.proofs.parser.parse.Given as goal

abbrev pub invariant-loop-symbol : goal.invariant-loop-symbol
invariant-loop-symbol l = record {
  standing : IsStanding l.tokens l.cursor;
  built : IsBuilt l.builder;
  state : State l.tokens.list l.cursor.at l.stack (values_of l.builder);
}

abbrev pub decreases-loop-symbol : goal.decreases-loop-symbol
decreases-loop-symbol l = load l.stack + 100 * (length l.tokens.list - l.cursor.at)
