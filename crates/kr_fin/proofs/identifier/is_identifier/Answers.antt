use Rattle.std.proofs.Common.{◌&&◌, not, Bool, ap, sym, ◌∙◌, map-id}
use Rattle.std.proofs.lemmas.Iterator.{YieldsList-from_chars}
use Rattle.std.proofs.lemmas.Iterator.Consumers.{YieldsList-end}
use Rattle.std.proofs.lemmas.Str.{is_utf8-from_IsUtf8}
use Rattle.kr_fin.proofs.Names.{ends}
use Rattle.kr_fin.proofs.identifier.is_identifier.Goals as goal

pub returns-then-is_name-2 : goal.returns-then-is_name-2
returns-then-is_name-2 c =
    let end = YieldsList-end (YieldsList-from_chars c.args.text.now c.utf8.text cc) c.loop-c.yielded _ c.loop-c.yielded_by _ _ c.in-None.is c.next.ensures.steps in
    ap (λ (b : Bool). b && not c.loop-c.is_first) (sym c.if-is_name-2.true)
    ∙ ends c.loop-c.is_first c.loop-c.is_name c.loop-c.yielded c.args.text.now c.loop-c.invariant.0 c.loop-c.invariant.1 (sym (map-id c.loop-c.yielded) ∙ end.0) (is_utf8-from_IsUtf8 c.args.text.now c.utf8.text)

pub returns-else-is_name-2 : goal.returns-else-is_name-2
returns-else-is_name-2 c =
    let end = YieldsList-end (YieldsList-from_chars c.args.text.now c.utf8.text cc) c.loop-c.yielded _ c.loop-c.yielded_by _ _ c.in-None.is c.next.ensures.steps in
    c.if-is_name-2.false ∙ (ap (λ (b : Bool). b && not c.loop-c.is_first) (sym c.if-is_name-2.false)
    ∙ ends c.loop-c.is_first c.loop-c.is_name c.loop-c.yielded c.args.text.now c.loop-c.invariant.0 c.loop-c.invariant.1 (sym (map-id c.loop-c.yielded) ∙ end.0) (is_utf8-from_IsUtf8 c.args.text.now c.utf8.text))
