use Rattle.std.proofs.Common.{inl, inr, sym, ◌∙◌, arith}
use Rattle.kr_plain.proofs.Entering.{already, placed, count_within}
use Rattle.kr_plain.proofs.keeping.insert_entry.Goals as goal
use Rattle.kr_plain.proofs.keeping.insert_entry.Goals.{else-at-kept-via-then-at-kept+else-not-is_below, else-at-kept-via-else-at-kept}

pub returns-then-not-is_below-clause-inserted : goal.returns-then-not-is_below-clause-inserted
returns-then-not-is_below-clause-inserted g c =
    already c.args.entry c.index-kept-at.result c.args.entries.now.items c.as_slice-kept.result.now c.count_before-at.result c.as_slice-kept.ensures.value c.count_before-at.ensures c.if-at-kept.true (sym c.is_below.ensures ∙ c.if-not-is_below.true)

pub insert-requires : goal.insert-requires
insert-requires g c = let w = count_within c.args.entry.key c.as_slice-kept.result.now in omega (arith, w, c.count_before-at.ensures, c.as_slice-kept.ensures.len)

pub returns-clause-inserted : goal.returns-clause-inserted
returns-clause-inserted g c = elim c.else-at-kept.branch [
  | else-at-kept-via-then-at-kept+else-not-is_below w ↦
      placed c.args.entry w.index-kept-at.result c.args.entries.now.items c.as_slice-kept.result.now c.insert.new.self.items c.count_before-at.result c.as_slice-kept.ensures.value c.count_before-at.ensures (inr (sym w.is_below.ensures ∙ w.if-not-is_below.false)) c.in_ok-insert.ensures.items
  | else-at-kept-via-else-at-kept w ↦
      placed c.args.entry c.args.entry c.args.entries.now.items c.as_slice-kept.result.now c.insert.new.self.items c.count_before-at.result c.as_slice-kept.ensures.value c.count_before-at.ensures (inl w.if-at-kept.false) c.in_ok-insert.ensures.items
]
