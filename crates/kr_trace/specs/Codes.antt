-- To be believed: the codes of the rules.
use Rattle.std.specs.Prelude.{ℕ, List, codes}
use Rattle.kr_trace.specs.declared.refusal.TraceRule.{TraceRule}
use Rattle.kr_trace.specs.declared.refusal.TraceRule.TheVariants.{TooLong, NoForm, KeyOrder, NoStep, OtherRows, Unfinished, OtherEnding}

abbrev pub rule_code : TraceRule → List ℕ
rule_code TooLong = codes "K0"
rule_code NoForm = codes "K1"
rule_code KeyOrder = codes "K2"
rule_code NoStep = codes "K3"
rule_code OtherRows = codes "K4"
rule_code Unfinished = codes "K5"
rule_code OtherEnding = codes "K6"
