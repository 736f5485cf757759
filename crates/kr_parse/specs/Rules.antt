-- To be believed: the codes of the grammar's rules.
use Rattle.std.specs.Prelude.{ℕ, List, codes}
use Rattle.kr_parse.specs.declared.refusal.ParseRule.{ParseRule}
use Rattle.kr_parse.specs.declared.refusal.ParseRule.TheVariants as rules

abbrev pub rule_code : ParseRule → List ℕ
rule_code rules.Syntax = codes "P1"
rule_code rules.Unsupported = codes "P2"
rule_code rules.TooNested = codes "P3"
