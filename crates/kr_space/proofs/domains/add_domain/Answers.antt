use Rattle.std.proofs.Common.{◌++◌, ◌∷◌, [], ◌∙◌, List, ℕ, ap, map}
use Rattle.std.proofs.lemmas.Result.{on_ok_weaker}
use Rattle.kr_fin.specs.declared.document.Item.{Item as FinItem}
use Rattle.kr_space_layout.specs.Items.{domain_of}
use Rattle.kr_space_meaning.specs.Bounds.{values_with, width_for}
use Rattle.kr_space_rules.specs.Widths.{asked}
use Rattle.kr_space.specs.Basis.{setting_on}
use Rattle.kr_space.proofs.Pooled.{values_added}
use Rattle.kr_space.proofs.domains.add_domain.Goals as goal

pub returns-clause-added : goal.returns-clause-added
returns-clause-added c =
    let setting = setting_on c.args.basis.now in
    let named = c.args.named.now in
    let old = map domain_of c.args.domains.now.items in
    on_ok_weaker c.add_values.result
    (λ n. values_added setting (asked setting c.args.keyed named.key) c.in_ok-width.width old (map domain_of c.add_values.new.domains.items) named.domain
    (c.in_ok-width.ensures.width ∙ ap (λ (key : List ℕ). width_for (asked setting c.args.keyed key)) (c.as_bytes-key.ensures.value ∙ c.as_str.ensures))
    (n ∙ ap (λ (is : List FinItem). old ++ values_with setting c.in_ok-width.width is ∷ []) c.as_slice.ensures))
    c.add_values.ensures.added
