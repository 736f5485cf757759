-- To be believed: the codes of the lexical rules.
use Rattle.std.specs.Prelude.{ℕ, List, codes}
use Rattle.kr_lex.specs.declared.refusal.LexRule.{LexRule}
use Rattle.kr_lex.specs.declared.refusal.LexRule.TheVariants as rules

abbrev pub rule_code : LexRule → List ℕ
rule_code rules.NotUtf8 = codes "L1"
rule_code rules.StrayCharacter = codes "L2"
rule_code rules.UnclosedComment = codes "L3"
rule_code rules.BadNumber = codes "L4"
rule_code rules.UnicodeEscape = codes "L5"
rule_code rules.ContractLine = codes "L6"
