use Rattle.std.proofs.Common.{◌≡◌, List, length, sym, ap, ◌∙◌, rules}
use Rattle.std.specs.Prelude.{map}
use Rattle.kr_mean.specs.Problem.{Domain}
use Rattle.kr_space_layout.specs.declared.stretch.Block.{Block}
use Rattle.kr_space_layout.specs.declared.stretch.Stretch.{Stretch}
use Rattle.kr_space_layout.specs.Stretches.{domain_of}
use Rattle.kr_space_layout.specs.Bounds.{bounds_of}
use Rattle.kr_space_layout.specs.Tables.{blocks_from}
use Rattle.kr_space_layout.specs.Layouts.{stretches}
use Rattle.kr_space_layout.proofs.Slots.{blocks_long}
use Rattle.kr_space_layout.proofs.Choices.{domains_are}
use Rattle.kr_space_layout.proofs.layout.Layout.new.Goals as goal

pub tables_of-requires-clause-long : goal.tables_of-requires-clause-long
tables_of-requires-clause-long c =
    let a : c.as_slice-objects.result.now ≡ blocks_from 0 0 c.args.classes = search rules in
    let b : c.as_slice-listed.result.now ≡ c.args.classes = search rules in
    ap (λ (xs : List Block). length xs) a ∙ (blocks_long 0 0 c.args.classes ∙ sym (ap length b))

pub returns : goal.returns
returns c =
    let a : c.as_slice-objects.result.now ≡ blocks_from 0 0 c.args.classes = search rules in
    let p : c.in_ok-pool.pool.items ≡ map (stretches c.as_slice-objects.result.now) c.args.domains.now = search rules in
    ap (λ (ds : List Domain). bounds_of c.args.root c.args.mode c.args.fuel c.args.parameters c.args.classes ds)
    (ap (λ (ss : List (List Stretch)). map domain_of ss) (p ∙ ap (λ (bs : List Block). map (stretches bs) c.args.domains.now) a)
    ∙ domains_are c.args.classes c.args.domains.now)
