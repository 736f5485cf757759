use Rattle.std.proofs.Common.{take, ap, ◌∙◌, arith}
use Rattle.kr_base.specs.declared.refusal.RefusalAt.TheVariants as refusals
use Rattle.kr_lex.specs.declared.refusal.LexRule.TheVariants as rules
use Rattle.kr_lex.specs.Places.{place_after}
use Rattle.kr_lex.proofs.Steps.{place_is}
use Rattle.kr_lex.proofs.lexer.pass.Goals as goal

pub returns-then-len-valid-clause-past : goal.returns-then-len-valid-clause-past
returns-then-len-valid-clause-past c =
    let p = place_is c.args.file c.args.bytes.now c.advance-end.result c.place.result c.advance-end.ensures.stands c.place.ensures in
    record {
      at = ap (λ place. refusals.Broken place rules.NotUtf8) (p ∙ ap (λ k. place_after c.args.file (take k c.args.bytes.now)) c.advance-end.ensures.at);
      before = omega arith;
    }
