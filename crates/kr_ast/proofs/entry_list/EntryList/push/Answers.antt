use Rattle.std.proofs.Common.{◌≡◌, List, ◌++◌, ◌∷◌, [], length, ap, sym, subst, ◌∙◌, All}
use Rattle.kr_ast.specs.declared.short_entry.LongNode.{LongNode}
use Rattle.kr_ast.specs.declared.short_entry.ShortEntry.{ShortEntry}
use Rattle.kr_ast.specs.Entries.{Entries, IsKept, entries_shown, entry_shown}
use Rattle.kr_ast.proofs.ShortEntries.{entries_of, kept_pushed, on_err, same_view, shown_pushed}
use Rattle.kr_ast.proofs.entry_list.EntryList.push.Goals as goal

pub returns-in_err-short-clause-unchanged : goal.returns-in_err-short-clause-unchanged
returns-in_err-short-clause-unchanged c =
    on_err c.from_residual.result (same_view c.self.inside.file c.self.inside.long.items c.shorten.new.long.items c.self.inside.short.items c.shorten.ensures.grown.0 c.shorten.ensures.grown.1 c.self.invariant ∙ c.self.view_is)

pub returns-in_err-reserve-clause-unchanged : goal.returns-in_err-reserve-clause-unchanged
returns-in_err-reserve-clause-unchanged c =
    let same = same_view c.self.inside.file c.self.inside.long.items c.shorten.new.long.items c.self.inside.short.items c.shorten.ensures.grown.0 c.shorten.ensures.grown.1 c.self.invariant in
    on_err c.from_residual-in_err-reserve.result (ap (entries_of c.self.inside.file c.shorten.new.long.items) c.in_err-reserve.ensures.items ∙ (same ∙ c.self.view_is))

pub invariant_of-self-2 : goal.invariant_of-self-2
invariant_of-self-2 c =
    let longs = c.self.inside.long.items in
    let shorts = c.self.inside.short.items in
    let more = c.shorten.ensures.grown.0 in
    let e = c.shorten.ensures.grown.1 in
    let s = c.in_ok-short.short in
    let here : IsKept (length (longs ++ more)) s = subst (λ (ls : List LongNode). IsKept (length ls) s) e c.in_ok-short.ensures.kept in
    let pushed : c.push_reserved.new.self.items ≡ shorts ++ s ∷ [] = c.push_reserved.ensures.items ∙ ap (λ (ss : List ShortEntry). ss ++ s ∷ []) c.in_ok-reserve.ensures.items in
    subst (λ ss. All (IsKept (length c.shorten.new.long.items)) ss) (sym pushed)
    (subst (λ (ls : List LongNode). All (IsKept (length ls)) (shorts ++ s ∷ [])) (sym e) (kept_pushed longs more shorts s c.self.invariant here))

pub returns-clause-pushed : goal.returns-clause-pushed
returns-clause-pushed c =
    let longs = c.self.inside.long.items in
    let shorts = c.self.inside.short.items in
    let file = c.file_of_most-file.result in
    let entry = c.args.entry in
    let more = c.shorten.ensures.grown.0 in
    let e = c.shorten.ensures.grown.1 in
    let s = c.in_ok-short.short in
    let read = c.deref.ensures.value in
    let pushed : c.push_reserved.new.self.items ≡ shorts ++ s ∷ [] = c.push_reserved.ensures.items ∙ ap (λ (ss : List ShortEntry). ss ++ s ∷ []) c.in_ok-reserve.ensures.items in
    let first : entries_shown file longs shorts ≡ entries_shown c.self.inside.file longs shorts =
    ap (entries_shown file longs) (sym read) ∙ (c.file_of_most-file.ensures longs ∙ ap (entries_shown c.self.inside.file longs) read) in
    let shown : entry_shown file (longs ++ more) s ≡ entry = subst (λ (ls : List LongNode). entry_shown file ls s ≡ entry) e c.in_ok-short.ensures.shown in
    ap (entries_shown file c.shorten.new.long.items) pushed
    ∙ (ap (λ (ls : List LongNode). entries_shown file ls (shorts ++ s ∷ [])) e
    ∙ (shown_pushed file longs more shorts s entry c.self.invariant shown
    ∙ ap (λ es. es ++ entry ∷ []) (first ∙ ap (λ (x : Entries). x.items) c.self.view_is)))
