use Rattle.std.proofs.lemmas.Bool.{both_ways}
use Rattle.kr_lex.proofs.words.is_long_number.Goals as goal

pub returns-then-not-is_suffix : goal.returns-then-not-is_suffix
returns-then-not-is_suffix c = (λ e. cc, λ h. absurd (both_ways c.is_suffix.result c.if-not-is_suffix.true (c.is_suffix.ensures.1 h.suffix)))
