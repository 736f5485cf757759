use Rattle.std.proofs.Common.{◌≡◌, ◌<◌, length, ap, sym, ◌∙◌, arith}
use Rattle.std.proofs.lemmas.List.{length-map, length-set}
use Rattle.std.specs.Prelude.{slice_set, slice_index_or}
use Rattle.kr_ast.specs.Entries.{Entries, entries_shown, entry_shown}
use Rattle.kr_ast.specs.Forest.{owned}
use Rattle.kr_ast.proofs.ShortEntries.{shown_parent}
use Rattle.kr_ast.proofs.entry_list.EntryList.set_parent.Goals as goal

pub returns-clause-now : goal.returns-clause-now
returns-clause-now c d =
    let longs = c.self.inside.long.items in
    let shorts = c.self.inside.short.items in
    let file = c.self.inside.file in
    let part = c.args.part in
    let items : entries_shown file longs shorts ≡ c.args.self.now.items = ap (λ (e : Entries). e.items) c.self.view_is in
    let lt : part < length shorts = omega (arith, c.requires, ap length items, length-map shorts (entry_shown file longs)) in
    shown_parent file longs shorts part c.args.parent c.args.position c.index_mut-short.result.now d lt c.index_mut-short.ensures.value
    ∙ ap (λ es. slice_set es part (owned c.args.parent c.args.position (slice_index_or es part d))) items

pub returns-clause-long : goal.returns-clause-long
returns-clause-long c =
    let longs = c.self.inside.long.items in
    let shorts = c.self.inside.short.items in
    let file = c.self.inside.file in
    length-map (slice_set shorts c.args.part _) (entry_shown file longs)
    ∙ (length-set shorts c.args.part _ ∙ (sym (length-map shorts (entry_shown file longs)) ∙ ap (λ (e : Entries). length e.items) c.self.view_is))
