use Rattle.std.proofs.Common.{sym, ap, ◌∙◌, ℕ, List}
use Rattle.kr_mean.specs.Program.{default_of}
use Rattle.kr_types_meaning.specs.Scopes.{bind_local}
use Rattle.kr_code_lowering.specs.Sites.{scope_at}
use Rattle.kr_code_lowering.proofs.Declared.{declares, initial_scope}
use Rattle.kr_code_lowering.proofs.declarators.declarator_at.Goals as goal

pub returns : goal.returns
returns c = λ locals final.
    let p = c.args.program.now in
    let s = c.args.site in
    let r = scope_at p s in
    let inner = initial_scope p c.requires.program s c.args.entry c.requires.here c.args.name c.args.initial c.requires.node locals in
    let scope = ap (scope_at p) c.at.ensures ∙ (inner ∙ ap (λ (y : List ℕ). bind_local y r.declared r) (sym c.text-text.ensures)) in
    let number = c.own_number-number.ensures r.declared r scope in
    let default = c.default_value.ensures ∙ ap default_of c.declared_type.ensures.type_is in
    let maybe = rw c.at-2.ensures at c.maybe_part.ensures in
    declares p c.requires.program s c.args.entry c.requires.here c.args.name c.args.initial c.requires.node locals c.own_number-number.result c.default_value.result c.maybe_part.result number default maybe final
